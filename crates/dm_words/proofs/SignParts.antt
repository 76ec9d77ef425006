-- The parts that are written keep the sign: FNC1 first, or second behind one codeword of ASCII.
use Rattle.dm_words.proofs.Names.{◌≡◌, inl, inr, ℕ, ◌+◌, ◌-◌, ◌<◌, ◌≤◌, List, [], ◌∷◌, ◌++◌, length, drop, get_or, refl}
use Rattle.dm_words.proofs.Names.{sym, ap, subst, ◌∙◌, arith, Bool, true, false, cond, ltb, append_assoc, ◌&&◌}
use Rattle.dm_words.proofs.Names.{nat_tests, append-nil, at_drop_more, length-drop, Item, Byte, Fnc1, One, Two, Setting}
use Rattle.dm_words.proofs.Names.{is_digit, digit_pair, byte_of, IsRightStep, most_behind, is_digit_item, item_words}
use Rattle.dm_words.proofs.Names.{sign_words, KeepsSign, PassesSign}
use Rattle.dm_words.specs.inner.Costs.{Step}
use Rattle.dm_words.proofs.Exchanges.{fnc1_first, fnc1_second, fnc1_third}

-- ---- what needs no sign

-- Whatever is written, items without a sign keep it.
no_sign : (old new part : List ℕ) (items left : List Item) → sign_words items ≡ [] → new ≡ old ++ part
    → PassesSign old new items left
no_sign old new part items left none is after k = (
  part ++ after,
  cc (append_assoc old part after),
)

-- One codeword stands before FNC1, which is written then.
one_before : (old new after : List ℕ) (word : ℕ) (rest : List Item) → new ≡ old ++ word ∷ []
    → KeepsSign new (new ++ after) (Fnc1 ∷ rest)
    → (more : List ℕ) × (new ++ after ≡ old ++ (word ∷ 232 ∷ more))
one_before old new after word rest is k =
    (k.0, k.1 ∙ ap (λ (l : List ℕ). l ++ 232 ∷ k.0) is ∙ append_assoc old (word ∷ []) (232 ∷ k.0))

-- ---- an item by itself

one_passes_here : (setting : Setting) (x : Item) (rest : List Item) (s : Step) (old new : List ℕ)
    → setting.behind ≤ most_behind → length rest ≤ 3122 → IsRightStep setting (x ∷ rest) s → s.begins ≡ One
    → new ≡ old ++ item_words x → PassesSign old new (x ∷ rest) rest
one_passes_here setting Fnc1 rest s old new small few right begins is after k = grind (arith, nat_tests, append_assoc)
one_passes_here setting (Byte b) [] s old new small few right begins is after k =
    no_sign old new (item_words (Byte b)) (Byte b ∷ []) [] refl is after k
one_passes_here setting (Byte b) (Byte c ∷ []) s old new small few right begins is after k =
    no_sign old new (item_words (Byte b)) (Byte b ∷ Byte c ∷ []) (Byte c ∷ []) refl is after k
one_passes_here setting (Byte b) (Byte c ∷ Byte d ∷ rest) s old new small few right begins is after k =
    no_sign old new (item_words (Byte b)) (Byte b ∷ Byte c ∷ Byte d ∷ rest) (Byte c ∷ Byte d ∷ rest) refl is after k
one_passes_here setting (Byte b) (Fnc1 ∷ rest) s old new small few right begins is after k =
    by_test (ltb b 128) is where
      by_test : (t : Bool) → new ≡ old ++ cond t ((b + 1) ∷ []) (235 ∷ (b - 127) ∷ [])
          → (more : List ℕ) × (new ++ after ≡ old ++ (cond t ((b + 1) ∷ 232 ∷ []) [] ++ more))
      by_test true e = one_before old new after (b + 1) rest e k
      by_test false e = (
        (235 ∷ (b - 127) ∷ []) ++ after,
        ap (λ (l : List ℕ). l ++ after) e ∙ append_assoc old (235 ∷ (b - 127) ∷ []) after,
      )
one_passes_here setting (Byte b) (Byte c ∷ Fnc1 ∷ rest) s old new small few right begins is after k =
    both (is_digit b) (is_digit c) refl refl after k where
      none : is_digit b && is_digit c ≡ false → PassesSign old new (Byte b ∷ Byte c ∷ Fnc1 ∷ rest)
          (Byte c ∷ Fnc1 ∷ rest)
      none e = no_sign old new (item_words (Byte b)) (Byte b ∷ Byte c ∷ Fnc1 ∷ rest) (Byte c ∷ Fnc1 ∷ rest) (rw e refl)
          is

      both : (t u : Bool) → is_digit b ≡ t → is_digit c ≡ u → PassesSign old new (Byte b ∷ Byte c ∷ Fnc1 ∷ rest)
          (Byte c ∷ Fnc1 ∷ rest)
      both true true eb ec =
          absurd (let e : s.begins ≡ Two = right.pair (fnc1_third setting small b c rest eb ec (omega (arith, few))) in
          let f : One ≡ Two = sym begins ∙ e in cc)
      both true false eb ec = none (rw (eb, ec) refl)
      both false u eb ec = none (rw eb refl)

-- ---- two digits

two_passes_here : (x y : Item) (rest : List Item) (old new : List ℕ) → is_digit_item x ≡ true → is_digit_item y ≡ true
    → new ≡ old ++ digit_pair (byte_of x) (byte_of y) ∷ [] → PassesSign old new (x ∷ y ∷ rest) rest
two_passes_here Fnc1 y rest old new dx dy is after k = absurd cc
two_passes_here (Byte b) Fnc1 rest old new dx dy is after k = absurd cc
two_passes_here (Byte b) (Byte c) [] old new dx dy is after k =
    no_sign old new (digit_pair b c ∷ []) (Byte b ∷ Byte c ∷ []) [] refl is after k
two_passes_here (Byte b) (Byte c) (Byte d ∷ rest) old new dx dy is after k =
    no_sign old new (digit_pair b c ∷ []) (Byte b ∷ Byte c ∷ Byte d ∷ rest) (Byte d ∷ rest) refl is after k
two_passes_here (Byte b) (Byte c) (Fnc1 ∷ rest) old new dx dy is after k =
    rw (dx, dy) (one_before old new after (digit_pair b c) rest is k)

-- ---- a run or a segment

-- Where one begins, there is no sign.
no_sign_here : (setting : Setting) (items : List Item) (s : Step) → setting.behind ≤ most_behind → length items ≤ 3123
    → IsRightStep setting items s → (s.begins ≡ One → ⊥) → (s.begins ≡ Two → ⊥) → sign_words items ≡ []
no_sign_here setting [] s small few right one two = refl
no_sign_here setting (Fnc1 ∷ rest) s small few right one two =
    absurd (elim (right.one (fnc1_first setting small rest (omega (arith, few)))) [ inl e ↦ one e | inr e ↦ two e ])
no_sign_here setting (Byte b ∷ []) s small few right one two = refl
no_sign_here setting (Byte b ∷ Byte c ∷ []) s small few right one two = refl
no_sign_here setting (Byte b ∷ Byte c ∷ Byte d ∷ rest) s small few right one two = refl
no_sign_here setting (Byte b ∷ Fnc1 ∷ rest) s small few right one two = by_test (ltb b 128) refl where
  by_test : (t : Bool) → ltb b 128 ≡ t → cond t ((b + 1) ∷ 232 ∷ []) [] ≡ []
  by_test false e = refl
  by_test true e =
      let low : b < 128 = grind (arith, nat_tests) in
      absurd (elim (right.one (fnc1_second setting small b rest low (omega (arith, few)))) [
        | inl e ↦ one e
        | inr e ↦ two e
      ])
no_sign_here setting (Byte b ∷ Byte c ∷ Fnc1 ∷ rest) s small few right one two =
    both (is_digit b) (is_digit c) refl refl where
      both : (t u : Bool) → is_digit b ≡ t → is_digit c ≡ u → cond (t && u) (digit_pair b c ∷ 232 ∷ []) [] ≡ []
      both true true eb ec =
          absurd (two (right.pair (fnc1_third setting small b c rest eb ec (omega (arith, few)))))
      both true false eb ec = refl
      both false u eb ec = refl

-- ---- at an index

module _ (setting : Setting) (m : List Item) (i : ℕ) (d : Item) (s : Step) (old new : List ℕ)
    (small : setting.behind ≤ most_behind) (few : length m ≤ 3123) (there : i < length m)
    (right : IsRightStep setting (drop i m) s) where
  here : drop i m ≡ get_or m i d ∷ drop (i + 1) m
  here = at_drop_more (λ (l : List Item). l) m i d there

  pub one_passes : s.begins ≡ One → new ≡ old ++ item_words (get_or m i d)
      → PassesSign old new (drop i m) (drop (i + 1) m)
  one_passes begins is =
      subst (λ (l : List Item). PassesSign old new l (drop (i + 1) m)) (sym here)
      (one_passes_here setting (get_or m i d) (drop (i + 1) m) s old new small
      (omega (arith, length-drop (i + 1) m, few, there))
      (subst (λ (l : List Item). IsRightStep setting l s) here right) begins is)

  pub other_passes : (left : List Item) (part : List ℕ) → (s.begins ≡ One → ⊥) → (s.begins ≡ Two → ⊥)
      → new ≡ old ++ part → PassesSign old new (drop i m) left
  other_passes left part one two is =
      no_sign old new part (drop i m) left
      (no_sign_here setting (drop i m) s small (omega (arith, length-drop i m, few)) right one two) is

-- Two digits at an index.
pub two_passes : (m : List Item) (i : ℕ) (d : Item) (old new : List ℕ) → i + 1 < length m
    → is_digit_item (get_or m i d) ≡ true → is_digit_item (get_or m (i + 1) d) ≡ true
    → (word : ℕ) → word ≡ digit_pair (byte_of (get_or m i d)) (byte_of (get_or m (i + 1) d)) → new ≡ old ++ word ∷ []
    → PassesSign old new (drop i m) (drop (i + 2) m)
two_passes m i d old new second dx dy word is_word is =
    let two : i + 1 + 1 ≡ i + 2 = omega arith in
    let next : drop (i + 1) m ≡ get_or m (i + 1) d ∷ drop (i + 2) m =
    cc (at_drop_more (λ (l : List Item). l) m (i + 1) d second) in
    let here : drop i m ≡ get_or m i d ∷ drop (i + 1) m =
    at_drop_more (λ (l : List Item). l) m i d (omega (arith, second)) in
    rw (sym (here ∙ ap (λ (l : List Item). get_or m i d ∷ l) next)) at (two_passes_here (get_or m i d)
    (get_or m (i + 1) d) (drop (i + 2) m) old new dx dy (is ∙ ap (λ (w : ℕ). old ++ w ∷ []) is_word))

-- ---- the whole

-- What is written part by part keeps the sign.
pub passes_on : (base old new part : List ℕ) (items left more : List Item) → new ≡ old ++ part
    → PassesSign base old items left → PassesSign old new left more → PassesSign base new items more
passes_on base old new part items left more is before next after k =
    let all : new ++ after ≡ old ++ (part ++ after) = cc (append_assoc old part after) in
    subst (λ (l : List ℕ). KeepsSign base l items) (sym all) (before (part ++ after) (rw all at (next after k)))

-- At the end it is kept.
pub passes_all : (base new : List ℕ) (items left : List Item) → left ≡ [] → PassesSign base new items left
    → KeepsSign base new items
passes_all base new items left none passes =
    rw (append-nil new) at (passes [] (subst (λ (l : List Item). KeepsSign new (new ++ []) l) (sym none) ([], refl)))
