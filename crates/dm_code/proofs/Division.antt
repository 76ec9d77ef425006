-- Division by a generator polynomial: a register takes in a list, and keeps what is left of what it has taken in.
use Rattle.std.proofs.Common.{◌≡◌, ℕ, suc, ◌+◌, ◌-◌, ◌<◌, ◌≤◌, List, ◌∷◌, ◌++◌, length, get_or, take, drop}
use Rattle.std.proofs.Common.{take-suc, length-take, length-drop, length-append, replicate, refl, sym, ap, ◌∙◌, arith}
use Rattle.std.proofs.Common.{bit_xor, subst, inl, inr, map}
use Rattle.std.specs.List.{range_with_len}
use Rattle.std.proofs.lemmas.Bool.{cases_lt}
use Rattle.std.proofs.lemmas.List.{ext_get_or, get_or_past, get_or-replicate, length-replicate, get_or-take}
use Rattle.std.proofs.lemmas.List.{get_or-drop, get_or-map, length-map, take-append-drop, get_or_append_left}
use Rattle.std.proofs.lemmas.List.{get_or-append_right}
use Rattle.std.proofs.lemmas.Simd.{length-zip2, length-chunk, get_or-zip2, get_or-chunk, pick_l-range_with_len}
use lib.Lanes.{zip2, chunk, pick_l}
use lib.Bits.{xor_assoc, xor_comm, xor_zero_l, xor_zero_r}
use Rattle.gf301.specs.Field.{◌⊕◌, ◌⊗◌, raise}
use Rattle.gf301.specs.Polynomial.{value, coefficient, values_from}
use Rattle.gf301.specs.Generator.{generator}
use Rattle.gf301.proofs.Exported.{product_assoc, product_sum_left, product_sum_right, product_zero_left}
use Rattle.gf301.proofs.Exported.{product_zero_right, plus, length_plus, value_plus, value_zeros, get_or-plus}
use Rattle.gf301.proofs.Exported.{length-values_from, get_or-values_from, generator_length, product_below, sum_below}
use Rattle.dm_code.proofs.Register.{register_step, codeword_taken, taps_whole, taps_length, value_append}

-- ---- a register that takes in a list
-- A register of the k numbers that are left takes in the number at the place p: its first number and that one tell
-- which multiple of the generator is taken away.
one_taken : (k p x : ℕ) (front r s : List ℕ) → 0 < k → k ≤ length r → k ≤ length s → p < length front
    → get_or front p 0 < 256 → get_or r k 0 ≡ 0
    → ((i : ℕ) → i < k → get_or s i 0
    ≡ get_or r (suc i) 0 ⊕ (get_or front p 0 ⊕ get_or r 0 0) ⊗ coefficient (generator k) (suc i))
    → value (generator k) x ≡ 0 → value (take p front) x ⊗ raise x k ≡ value (take k r) x
    → value (take (suc p) front) x ⊗ raise x k ≡ value (take k s) x
one_taken k p x front r s pos lr ls lf b past each z h =
    let d = get_or front p 0 in
    let a = take k r in
    let n = take k s in
    let al : length a ≡ k = simp length-take (omega arith) in
    let nl : length n ≡ k = simp length-take (omega arith) in
    let g = generator k in
    let t = take (length g - 1) (drop 1 g) in
    let tl : length t ≡ k = taps_length k g refl in
    let tz : value (1 ∷ t) x ≡ 0 = ap (λ p. value p x) (taps_whole k g refl) ∙ z in
    let next : (i : ℕ) → i < k → get_or r (suc i) 0 ≡ get_or a (suc i) 0 = λ i l. elim (cases_lt (suc i) k) [
      | inl o ↦ sym (get_or-take k r (suc i) 0 o)
      | inr o ↦
          ap (λ j. get_or r j 0) (let q : suc i ≡ k = omega arith in q) ∙ past
          ∙ sym (get_or_past a (suc i) 0 (omega (arith, al)))
    ] in
    let step : value n x ≡ value a x ⊗ x ⊕ d ⊗ raise x (length a) =
    register_step a t n d x (omega (arith, al)) (tl ∙ sym al) (nl ∙ sym al) (λ i m.
    let l : i < k = omega (arith, al) in
    get_or-take k s i 0 l ∙ each i l
    ∙ ap (λ y. y ⊕ (d ⊕ get_or r 0 0) ⊗ coefficient (generator k) (suc i)) (next i l)
    ∙ ap (λ y. get_or a (suc i) 0 ⊕ (d ⊕ y) ⊗ coefficient (generator k) (suc i)) (sym (get_or-take k r 0 0 pos))
    ∙ ap (λ y. get_or a (suc i) 0 ⊕ (d ⊕ get_or a 0 0) ⊗ y)
    (ap (λ j. get_or g j 0) (let e : suc i ≡ 1 + i = omega arith in e) ∙ sym (get_or-drop 1 g i 0)
    ∙ sym (get_or-take (length g - 1) (drop 1 g) i 0 (omega (arith, generator_length k))))) tz in
    ap (λ u. value u x ⊗ raise x k) (take-suc front p 0 lf)
    ∙ codeword_taken (take p front) a n d x k b h (step ∙ ap (λ j. value a x ⊗ x ⊕ d ⊗ raise x j) al)

-- What two steps take away, the second of what the first has left.
two_steps : (a b t u v w : ℕ) → (w ⊕ a ⊗ u) ⊕ (b ⊕ a ⊗ t) ⊗ v ≡ w ⊕ (a ⊗ (u ⊕ t ⊗ v) ⊕ b ⊗ v)
two_steps a b t u v w =
    ap (bit_xor (w ⊕ a ⊗ u)) (product_sum_left b (a ⊗ t) v ∙ xor_comm (b ⊗ v) ((a ⊗ t) ⊗ v)
    ∙ ap (λ y. y ⊕ b ⊗ v) (product_assoc a t v))
    ∙ xor_assoc w (a ⊗ u) (a ⊗ (t ⊗ v) ⊕ b ⊗ v)
    ∙ ap (bit_xor w) (sym (xor_assoc (a ⊗ u) (a ⊗ (t ⊗ v)) (b ⊗ v))
    ∙ ap (λ y. y ⊕ b ⊗ v) (sym (product_sum_right a u (t ⊗ v))))

-- Past the end of the generator nothing is added by one step, nor by two.
pub past_one : (k i a : ℕ) → k ≤ i → a ⊗ coefficient (generator k) (suc i) ≡ 0
past_one k i a h =
    ap (λ y. a ⊗ y) (get_or_past (generator k) (suc i) 0 (omega (arith, generator_length k))) ∙ product_zero_right a

pub past_two : (k i a b : ℕ) → k ≤ i →
    a ⊗ (coefficient (generator k) (suc (suc i)) ⊕ coefficient (generator k) 1 ⊗ coefficient (generator k) (suc i))
    ⊕ b ⊗ coefficient (generator k) (suc i) ≡ 0
past_two k i a b h =
    ap (λ y. a ⊗ (y ⊕ coefficient (generator k) 1 ⊗ coefficient (generator k) (suc i))
    ⊕ b ⊗ coefficient (generator k) (suc i))
    (get_or_past (generator k) (suc (suc i)) 0 (omega (arith, generator_length k)))
    ∙ ap (λ y. a ⊗ (0 ⊕ y) ⊕ b ⊗ coefficient (generator k) (suc i)) (past_one k i (coefficient (generator k) 1) h)
    ∙ ap (λ y. a ⊗ 0 ⊕ y) (past_one k i b h)
    ∙ ap (λ y. y ⊕ 0) (product_zero_right a)

-- Two numbers are taken in at once: s is the register after both, and f and g are what is fed back by each.
pub record AreTaken (k f g : ℕ) (r s : List ℕ) : Type 0 where
  pub each : (i : ℕ) → get_or s i 0 ≡ get_or r (suc (suc i)) 0
      ⊕ (f ⊗ (coefficient (generator k) (suc (suc i)) ⊕ coefficient (generator k) 1 ⊗ coefficient (generator k) (suc i))
      ⊕ g ⊗ coefficient (generator k) (suc i))

-- The register then has zeros behind its k numbers, if it had them before.
pub past_taken : (k f g : ℕ) (r s : List ℕ) → ((i : ℕ) → k ≤ i → get_or r i 0 ≡ 0) → AreTaken k f g r s
    → (i : ℕ) → k ≤ i → get_or s i 0 ≡ 0
past_taken k f g r s past t i h =
    t.each i ∙ ap (bit_xor (get_or r (suc (suc i)) 0)) (past_two k i f g h)
    ∙ ap (λ y. y ⊕ 0) (past (suc (suc i)) (omega arith))

-- It then has bytes, if it had them before.
pub bytes_taken : (k f g : ℕ) (r s : List ℕ) → ((i : ℕ) → get_or r i 0 < 256) → AreTaken k f g r s
    → (i : ℕ) → get_or s i 0 < 256
bytes_taken k f g r s b t i =
    let v = coefficient (generator k) (suc i) in
    let u = coefficient (generator k) (suc (suc i)) ⊕ coefficient (generator k) 1 ⊗ v in
    subst (λ y. y < 256) (sym (t.each i))
    (sum_below (get_or r (suc (suc i)) 0) (f ⊗ u ⊕ g ⊗ v) (b (suc (suc i)))
    (sum_below (f ⊗ u) (g ⊗ v) (product_below f u) (product_below g v)))

-- Its value is then that of what it has taken in, times the power k.
pub two_taken : (k p q n x : ℕ) (front r s : List ℕ) → 0 < k → k ≤ length r → k ≤ length s → q ≡ suc p →
    n ≡ suc (suc p) → q < length front → ((i : ℕ) → get_or front i 0 < 256) → ((i : ℕ) → k ≤ i → get_or r i 0 ≡ 0)
    → AreTaken k (get_or front p 0 ⊕ get_or r 0 0) (get_or front q 0 ⊕ get_or r 1 0) r s
    → value (generator k) x ≡ 0 → value (take p front) x ⊗ raise x k ≡ value (take k r) x
    → value (take n front) x ⊗ raise x k ≡ value (take k s) x
two_taken k p q n x front r s pos lr ls e en lf b past t z h =
    let g = generator k in
    let a = get_or front p 0 ⊕ get_or r 0 0 in
    let f : ℕ → ℕ = λ j. get_or r (suc j) 0 ⊕ a ⊗ coefficient g (suc j) in
    let m = values_from f 0 (suc k) in
    let ml : length m ≡ suc k = length-values_from f 0 (suc k) in
    let at : (j : ℕ) → j < suc k → get_or m j 0 ≡ f j =
    λ j l. get_or-values_from f 0 (suc k) j l ∙ ap f (let y : 0 + j ≡ j = omega arith in y) in
    let c = get_or front (suc p) 0 in
    let d = get_or r 1 0 in
    let first = one_taken k p x front r m pos lr (omega (arith, ml)) (omega arith) (b p) (past k (omega arith))
    (λ i l. at i (omega arith)) z h in
    ap (λ j. value (take j front) x ⊗ raise x k) en
    ∙ one_taken k (suc p) x front m s pos (omega (arith, ml)) ls (omega arith) (b (suc p))
    (at k (omega arith) ∙ ap (bit_xor (get_or r (suc k) 0)) (past_one k k a (omega arith))
    ∙ ap (λ y. y ⊕ 0) (past (suc k) (omega arith)))
    (λ i l.
    let v = coefficient g (suc i) in
    let u = coefficient g (suc (suc i)) in
    let w = get_or r (suc (suc i)) 0 in
    t.each i
    ∙ ap (λ j. w ⊕ (a ⊗ (u ⊕ coefficient g 1 ⊗ v) ⊕ (get_or front j 0 ⊕ d) ⊗ v)) e
    ∙ sym (two_steps a (c ⊕ d) (coefficient g 1) u v w)
    ∙ ap (λ y. (w ⊕ a ⊗ u) ⊕ y ⊗ v) (xor_assoc c d (a ⊗ coefficient g 1))
    ∙ ap (λ y. (w ⊕ a ⊗ u) ⊕ (c ⊕ y) ⊗ v) (sym (at 0 (omega arith)))
    ∙ ap (λ y. y ⊕ (c ⊕ get_or m 0 0) ⊗ v) (sym (at (suc i) (omega arith)))) z first

-- ---- before the first step
-- A list of zeros holds 0 at each place.
pub zeros_at : (n i : ℕ) → get_or {A = ℕ} (replicate n 0) i 0 ≡ 0
zeros_at n i = elim (cases_lt i n) [
  | inl h ↦ get_or-replicate n i 0 0 h
  | inr h ↦ get_or_past (replicate n 0) i 0 (omega (arith, length-replicate {A = ℕ} n 0))
]

-- Zeros at the beginning of which k are taken are k zeros.
zeros_taken : (k n : ℕ) → k ≤ n → take k (replicate {A = ℕ} n 0) ≡ replicate k 0
zeros_taken k n h =
    let r = replicate {A = ℕ} n 0 in
    let s = replicate {A = ℕ} k 0 in
    let l : length (take k r) ≡ k = simp length-take (omega (arith, length-replicate {A = ℕ} n 0)) in
    ext_get_or 0 (take k r) s (l ∙ sym (length-replicate {A = ℕ} k 0)) (λ i b.
    let o : i < k = omega (arith, l) in
    get_or-take k r i 0 o ∙ get_or-replicate n i 0 0 (omega arith) ∙ sym (get_or-replicate k i 0 0 o))

-- A register of zeros has taken in nothing.
pub none_taken : (k n x : ℕ) (front : List ℕ) → k ≤ n →
    value (take 0 front) x ⊗ raise x k ≡ value (take k (replicate {A = ℕ} n 0)) x
unfolding value
none_taken k n x front h =
    product_zero_left (raise x k) ∙ sym (value_zeros x k) ∙ ap (λ u. value u x) (sym (zeros_taken k n h))

-- The first number is taken into a register of zeros.
pub first_taken : (k n x : ℕ) (front s : List ℕ) → 0 < k → k ≤ n → k ≤ length s → 0 < length front →
    get_or front 0 0 < 256 → ((i : ℕ) → get_or s i 0 ≡ get_or front 0 0 ⊗ coefficient (generator k) (suc i))
    → value (generator k) x ≡ 0 → value (take 1 front) x ⊗ raise x k ≡ value (take k s) x
first_taken k n x front s pos h ls lf b each z =
    let r = replicate {A = ℕ} n 0 in
    let a = get_or front 0 0 in
    one_taken k 0 x front r s pos (omega (arith, length-replicate {A = ℕ} n 0)) ls lf b (zeros_at n k)
    (λ i l.
    let c = coefficient (generator k) (suc i) in
    each i ∙ sym (ap (λ y. y ⊕ (a ⊕ get_or r 0 0) ⊗ c) (zeros_at n (suc i))
    ∙ xor_zero_l ((a ⊕ get_or r 0 0) ⊗ c) ∙ ap (λ y. (a ⊕ y) ⊗ c) (zeros_at n 0)
    ∙ ap (λ y. y ⊗ c) (xor_zero_r a))) z (none_taken k n x front h)

-- ---- after the last step
-- What is left of the front, plus the last k numbers of a word, has the value of the word.
pub rest_value : (k x : ℕ) (w l r : List ℕ) → k ≤ length w → k ≤ length l → k ≤ length r
    → ((i : ℕ) → i < k → get_or r i 0 ≡ get_or l i 0 ⊕ get_or (drop (length w - k) w) i 0)
    → value (take (length w - k) w) x ⊗ raise x k ≡ value (take k l) x → value (take k r) x ≡ value w x
rest_value k x w l r hw hl hr each h =
    let f = take (length w - k) w in
    let c = drop (length w - k) w in
    let cl : length c ≡ k = simp length-drop (omega arith) in
    let ll : length (take k l) ≡ k = simp length-take (omega arith) in
    let rl : length (take k r) ≡ k = simp length-take (omega arith) in
    let n : length (take k l) ≡ length c = ll ∙ sym cl in
    ap (λ u. value u x) (ext_get_or 0 (take k r) (plus (take k l) c) (rl ∙ sym (length_plus (take k l) c n ∙ ll))
    (λ i b.
    let o : i < k = omega (arith, rl) in
    get_or-take k r i 0 o ∙ each i o ∙ ap (λ y. y ⊕ get_or c i 0) (sym (get_or-take k l i 0 o))
    ∙ sym (get_or-plus (take k l) c i n)))
    ∙ value_plus x (take k l) c n
    ∙ ap (λ y. y ⊕ value c x) (sym h)
    ∙ ap (λ j. value f x ⊗ raise x j ⊕ value c x) (sym cl)
    ∙ sym (value_append f c x)
    ∙ ap (λ u. value u x) (take-append-drop (length w - k) w)

-- ---- in lanes
-- The sixteen sums of the products of two numbers with those of two lists from a place on.
pub products_of_two : (c d : ℕ) (a b p q : List ℕ) (n : ℕ) → n + 16 ≤ length a → n + 16 ≤ length b →
    p ≡ map (λ x. c ⊗ x) (chunk n 16 a) → q ≡ map (λ x. d ⊗ x) (chunk n 16 b) →
    (length (zip2 bit_xor p q) ≡ 16)
    × ((i : ℕ) → i < 16 → get_or (zip2 bit_xor p q) i 0 ≡ c ⊗ get_or a (n + i) 0 ⊕ d ⊗ get_or b (n + i) 0)
products_of_two c d a b p q n h k e f =
    let ca : length (chunk n 16 a) ≡ 16 = length-chunk n 16 a h in
    let cb : length (chunk n 16 b) ≡ 16 = length-chunk n 16 b k in
    let lp : length p ≡ 16 = ap length e ∙ length-map (chunk n 16 a) (λ x. c ⊗ x) ∙ ca in
    let lq : length q ≡ 16 = ap length f ∙ length-map (chunk n 16 b) (λ x. d ⊗ x) ∙ cb in (
      length-zip2 bit_xor p q (lp ∙ sym lq) ∙ lp,
      λ i l.
          get_or-zip2 bit_xor p q i 0 0 0 (omega (arith, lp)) (omega (arith, lq))
          ∙ ap (λ y. y ⊕ get_or q i 0)
          (ap (λ t. get_or t i 0) e ∙ get_or-map (λ x. c ⊗ x) (chunk n 16 a) i 0 0 (omega (arith, ca))
          ∙ ap (λ x. c ⊗ x) (get_or-chunk n 16 a i 0 l))
          ∙ ap (bit_xor (c ⊗ get_or a (n + i) 0))
          (ap (λ t. get_or t i 0) f ∙ get_or-map (λ x. d ⊗ x) (chunk n 16 b) i 0 0 (omega (arith, cb))
          ∙ ap (λ x. d ⊗ x) (get_or-chunk n 16 b i 0 l)),
    )

-- Two vectors that stand one behind the other, moved down by two places, and sixteen numbers added.
pub moved_sums : (f : ℕ → ℕ) (s t : List ℕ) (n : ℕ) → n + 32 ≤ length s → length t ≡ 16 →
    ((i : ℕ) → i < 16 → get_or t i 0 ≡ f (n + i)) →
    (length (zip2 bit_xor (pick_l 0 (chunk n 16 s ++ chunk (n + 16) 16 s) (range_with_len 2 16)) t) ≡ 16)
    × ((i : ℕ) → i < 16
    → get_or (zip2 bit_xor (pick_l 0 (chunk n 16 s ++ chunk (n + 16) 16 s) (range_with_len 2 16)) t) i 0
    ≡ get_or s (suc (suc (n + i))) 0 ⊕ f (n + i))
moved_sums f s t n h lt each =
    let a = chunk n 16 s in
    let b = chunk (n + 16) 16 s in
    let m = pick_l 0 (a ++ b) (range_with_len 2 16) in
    let al : length a ≡ 16 = length-chunk n 16 s (omega arith) in
    let bl : length b ≡ 16 = length-chunk (n + 16) 16 s (omega arith) in
    let both : length (a ++ b) ≡ 32 = omega (arith, length-append a b) in
    let picked : m ≡ chunk 2 16 (a ++ b) = pick_l-range_with_len 0 (a ++ b) 2 16 (omega arith) in
    let ml : length m ≡ 16 = ap length picked ∙ length-chunk 2 16 (a ++ b) (omega arith) in
    let at : (i : ℕ) → i < 16 → get_or m i 0 ≡ get_or s (suc (suc (n + i))) 0 = λ i l.
    ap (λ u. get_or u i 0) picked ∙ get_or-chunk 2 16 (a ++ b) i 0 l
    ∙ elim (cases_lt (2 + i) 16) [
      | inl o ↦
          get_or_append_left a b 0 (2 + i) (omega arith) ∙ get_or-chunk n 16 s (2 + i) 0 o
          ∙ ap (λ j. get_or s j 0) (let e : n + (2 + i) ≡ suc (suc (n + i)) = omega arith in e)
      | inr o ↦
          get_or-append_right a b 16 (2 + i) 0 al o
          ∙ get_or-chunk (n + 16) 16 s (2 + i - 16) 0 (omega arith)
          ∙ ap (λ j. get_or s j 0) (let e : n + 16 + (2 + i - 16) ≡ suc (suc (n + i)) = omega arith in e)
    ] in (
      length-zip2 bit_xor m t (ml ∙ sym lt) ∙ ml,
      λ i l.
          get_or-zip2 bit_xor m t i 0 0 0 (omega arith) (omega arith)
          ∙ ap (λ y. y ⊕ get_or t i 0) (at i l) ∙ ap (bit_xor (get_or s (suc (suc (n + i))) 0)) (each i l),
    )

-- A list with the numbers of a generator after the first one has them at each place.
pub tap_at : (k : ℕ) (t : List ℕ) → k < length t →
    ((i : ℕ) → i < length t → get_or t i 0 ≡ coefficient (generator k) (suc i))
    → (i : ℕ) → get_or t i 0 ≡ coefficient (generator k) (suc i)
tap_at k t h each i =
    elim (cases_lt i (length t)) [
      | inl o ↦ each i o
      | inr o ↦ get_or_past t i 0 o ∙ sym (get_or_past (generator k) (suc i) 0 (omega (arith, generator_length k)))
    ]
