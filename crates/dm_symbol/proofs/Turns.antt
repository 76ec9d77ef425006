-- The check codewords of 144 x 144, turned ten by ten, there and back.
use Rattle.dm_symbol.proofs.Names.{◌≡◌, ℕ, ◌+◌, ◌-◌, ◌*◌, ◌/◌, ◌<◌, true, cond, nat_eq, List, length, get_or, map, take}
use Rattle.dm_symbol.proofs.Names.{inl, inr, refl, sym, ap, subst, ◌∙◌, arith, All, range_with_len, agree_below_at}
use Rattle.dm_symbol.proofs.Names.{cases_lt, cond_above, cond_below, eqb-true, ext_get_or, get_or-take}
use Rattle.dm_symbol.proofs.Names.{get_or_append_left, length-append, length-take-le, All-from_get_or, All-get_or}
use Rattle.dm_symbol.proofs.Names.{get_or-map-range_with_len, length-map-range_with_len, turned, turned_place}
use Rattle.std.proofs.Common.{nat_lt}
use Rattle.std.proofs.lemmas.Bool.{ltb-true}
use Rattle.std.proofs.lemmas.List.{get_or-append_right, get_or_past}
use Rattle.std.proofs.lemmas.Nat.{mod_below}

-- The place of the codeword that the one at place j becomes.
abbrev pub place_of : ℕ → ℕ → ℕ
place_of shift j = cond (nat_lt j 1558) j (turned_place shift (j - 1558))

-- There are as many codewords as before.
pub length-turned : (shift : ℕ) (words : List ℕ) → length words ≡ 2178 → length (turned shift words) ≡ 2178
length-turned shift words h =
    let front = length-take-le 1558 words (omega (arith, h)) in
    let back = length-map-range_with_len (λ i. get_or words (turned_place shift i) 0) 0 620 in
    omega (
      arith,
      length-append (take 1558 words) (map (λ i. get_or words (turned_place shift i) 0) (range_with_len 0 620)),
      front,
      back,
    )

-- Each codeword becomes the one of its place.
pub at_turned : (shift : ℕ) (words : List ℕ) (j : ℕ) → length words ≡ 2178 → j < 2178
    → get_or (turned shift words) j 0 ≡ get_or words (place_of shift j) 0
at_turned shift words j h hj =
    let front = take 1558 words in
    let back = map (λ i. get_or words (turned_place shift i) 0) (range_with_len 0 620) in
    let long : length front ≡ 1558 = length-take-le 1558 words (omega (arith, h)) in
    elim (cases_lt j 1558) [
      | inl low ↦ get_or_append_left front back 0 j (omega (arith, long, low)) ∙ get_or-take 1558 words j 0 low
          ∙ ap (λ i. get_or words i 0) (cond_below j 1558 j (turned_place shift (j - 1558)) low)
      | inr high ↦ get_or-append_right front back 1558 j 0 long high
          ∙ get_or-map-range_with_len (λ i. get_or words (turned_place shift i) 0) 0 620 (j - 1558) (j - 1558) 0
          (omega (arith, hj, high)) (omega arith)
          ∙ ap (λ i. get_or words i 0)
          (cond_above j 1558 j (turned_place shift (j - 1558)) (turned_place shift (j - 1558)) high refl)
    ]

-- What a check codeword becomes is one of them.
pub turned_inside : (shift i : ℕ) → i < 620 → turned_place shift i < 2178
turned_inside shift i h =
    let ten : i / 10 * 10 < 611 = ltb-true (i / 10 * 10) 611
    (agree_below_at (λ k. nat_lt (k / 10 * 10) 611) (λ k. true) 620 i refl h) in
    omega (arith, ten, mod_below (i + shift) 10 (omega arith))

-- ---- there and back: this is computed for each place

-- What is turned stays within the codewords.
pub inside_1558 : (j : ℕ) → j < 2178 → place_of 1558 j < 2178
inside_1558 j h = ltb-true (place_of 1558 j) 2178
    (agree_below_at (λ i. nat_lt (place_of 1558 i) 2178) (λ i. true) 2178 j refl h)

inside_2 : (j : ℕ) → j < 2178 → place_of 2 j < 2178
inside_2 j h = ltb-true (place_of 2 j) 2178
    (agree_below_at (λ i. nat_lt (place_of 2 i) 2178) (λ i. true) 2178 j refl h)

-- Turned by 1,558 places and by 2, the codewords are as before, in either order.
there_and_back : (j : ℕ) → j < 2178 → place_of 1558 (place_of 2 j) ≡ j
there_and_back j h = eqb-true (place_of 1558 (place_of 2 j)) j
    (agree_below_at (λ i. nat_eq (place_of 1558 (place_of 2 i)) i) (λ i. true) 2178 j refl h)

back_and_there : (j : ℕ) → j < 2178 → place_of 2 (place_of 1558 j) ≡ j
back_and_there j h = eqb-true (place_of 2 (place_of 1558 j)) j
    (agree_below_at (λ i. nat_eq (place_of 2 (place_of 1558 i)) i) (λ i. true) 2178 j refl h)

pub turned_back : (words : List ℕ) → length words ≡ 2178 → turned 2 (turned 1558 words) ≡ words
turned_back words h =
    let once = length-turned 1558 words h in
    let long = length-turned 2 (turned 1558 words) once in
    ext_get_or 0 (turned 2 (turned 1558 words)) words (long ∙ sym h) (λ j hj.
    let within : j < 2178 = omega (arith, hj, long) in
    at_turned 2 (turned 1558 words) j once within
    ∙ at_turned 1558 words (place_of 2 j) h (inside_2 j within)
    ∙ ap (λ i. get_or words i 0) (there_and_back j within))

pub turned_again : (words : List ℕ) → length words ≡ 2178 → turned 1558 (turned 2 words) ≡ words
turned_again words h =
    let once = length-turned 2 words h in
    let long = length-turned 1558 (turned 2 words) once in
    ext_get_or 0 (turned 1558 (turned 2 words)) words (long ∙ sym h) (λ j hj.
    let within : j < 2178 = omega (arith, hj, long) in
    at_turned 1558 (turned 2 words) j once within
    ∙ at_turned 2 words (place_of 1558 j) h (inside_1558 j within)
    ∙ ap (λ i. get_or words i 0) (back_and_there j within))

-- Bytes stay bytes.
pub turned_bytes : (shift : ℕ) (words : List ℕ) → length words ≡ 2178 → All (λ w. w < 256) words
    → All (λ w. w < 256) (turned shift words)
turned_bytes shift words h bytes =
    All-from_get_or (λ w. w < 256) (turned shift words) 0 (λ j hj.
    let within : j < 2178 = omega (arith, hj, length-turned shift words h) in
    subst (λ w. w < 256) (sym (at_turned shift words j h within)) (one (place_of shift j)))
  where
    one : (i : ℕ) → get_or words i 0 < 256
    one i = elim (cases_lt i (length words)) [
      | inl low ↦ All-get_or (λ w. w < 256) words i 0 low bytes
      | inr high ↦ omega (arith, get_or_past words i 0 high)
    ]
