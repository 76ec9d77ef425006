-- The values at the places that were weighed away: what stands there follows from the syndromes of the word with 0 at
-- these places, as the value of an error does.
use Rattle.std.proofs.Common.{◌≡◌, ◌≢◌, ℕ, zero, suc, ◌+◌, ◌-◌, ◌<◌, ◌≤◌, List, [], ◌∷◌, length, get_or, slice_set}
use Rattle.std.proofs.Common.{replicate, refl, sym, ap, subst, ◌∙◌, arith, bit_xor, inl, inr, length-set}
use Rattle.std.proofs.lemmas.Bool.{cases_eq}
use Rattle.std.proofs.lemmas.List.{ext_get_or, get_or-replicate, get_or-set_other, get_or-set_same}
use Rattle.std.proofs.lemmas.List.{length-replicate}
use lib.Bits.{xor_self, xor_zero_l, xor_zero_r}
use Rattle.gf301.specs.Field.{◌⊕◌, ◌⊗◌, raise, power}
use Rattle.gf301.specs.Polynomial.{Bytes, value, coefficient, convolution, values_from}
use Rattle.gf301.proofs.Exported.{bytes_times, get_or-plus, get_or-times, laid_sums, length_plus, nonzeros, plus}
use Rattle.gf301.proofs.Exported.{product_below, product_cancels, product_comm, product_one_left, product_positive}
use Rattle.gf301.proofs.Exported.{product_zero_left, product_zero_right, quotient, raise_below, raise_positive, sums}
use Rattle.gf301.proofs.Exported.{value_below, value_plus, value_weigh, weigh, length_quotient, bytes_cons}
use Rattle.gf301.proofs.Exported.{conv_same_left}
use Rattle.dm_code.specs.Codeword.{IsCodeword}
use Rattle.dm_code.specs.Syndromes.{syndromes_of}
use Rattle.dm_code.specs.inner.Lessened.{AreOddParts, AreValues, HasPlaces, IsAscending, IsSameBut, places_locator}
use Rattle.dm_code.specs.inner.OddTerms.{odd_part}
use Rattle.dm_code.proofs.Codewords.{codeword_bytes, codeword_values}
use Rattle.dm_code.proofs.EachErased.{in_or_not, length_locator, locator_root, locator_zero}
use Rattle.dm_code.proofs.ErasedPlaces.{ArePlaces}
use Rattle.dm_code.proofs.ErrorPlaces.{locator_at, Vanishes, quotient_positive, quotient_vanishes_but, quotient_zero}
use Rattle.dm_code.proofs.ErrorValues.{laid_same, quotient_evaluator, raise_one, weigh_single, zero_or_positive}
use Rattle.dm_code.proofs.First.{first, first_same, values_are_first}
use Rattle.dm_code.proofs.OddTerms.{odd_divisor}
use Rattle.dm_code.proofs.SyndromeLaws.{syndrome_at}

-- ---- the locator of some places
-- Its first coefficient is 1.
locator_head : (n : ℕ) (q : List ℕ) → coefficient (places_locator n q) 0 ≡ 1
unfolding places_locator convolution
locator_head n [] = refl
locator_head n (p ∷ q) =
    get_or-times (1 ∷ locator_at n p ∷ []) (places_locator n q) 0 (omega (arith, length_locator n q))
    ∙ ap (λ y. 1 ⊗ y) (locator_head n q) ∙ product_one_left 1 (omega arith)

-- Its coefficients are bytes.
pub bytes_locator : (n : ℕ) (q : List ℕ) → Bytes (places_locator n q)
unfolding places_locator
bytes_locator n [] = bytes_cons 1 [] (omega arith) (λ k d h. absurd (omega arith))
bytes_locator n (p ∷ q) = bytes_times (1 ∷ locator_at n p ∷ []) (places_locator n q)

-- So it is 1 and some more coefficients, as many as there are places.
locator_parts : (n : ℕ) (q : List ℕ) → (p : List ℕ) × (places_locator n q ≡ 1 ∷ p) × (length p ≡ length q)
locator_parts n q = parts (places_locator n q) (length q) (locator_head n q) (length_locator n q) where
  parts : (l : List ℕ) (m : ℕ) → coefficient l 0 ≡ 1 → length l ≡ suc m →
      (p : List ℕ) × (l ≡ 1 ∷ p) × (length p ≡ m)
  parts [] m h e = absurd (omega arith)
  parts (a ∷ p) m h e = (p, ap (λ y. y ∷ p) h, omega arith)

-- ---- the sum of the terms of odd powers at a place
-- A list has 1 at each of the places and 0 elsewhere.
unfoldable marks : ℕ → List ℕ → List ℕ
marks n [] = replicate n 0
marks n (p ∷ q) = slice_set (marks n q) p 1

-- It has n numbers.
length-marks : (n : ℕ) (q : List ℕ) → length (marks n q) ≡ n
unfolding marks
length-marks n [] = length-replicate n 0
length-marks n (p ∷ q) = length-set (marks n q) p 1 ∙ length-marks n q

-- Elsewhere it has 0.
marks_apart : (n : ℕ) (q : List ℕ) (i : ℕ) → i < n → ((j : ℕ) → j < length q → get_or q j 0 ≢ i) →
    get_or (marks n q) i 0 ≡ 0
unfolding marks
marks_apart n [] i h o = get_or-replicate n i 0 0 h
marks_apart n (p ∷ q) i h o =
    get_or-set_other (marks n q) p i 1 0 (λ e. o 0 (omega arith) (sym e))
    ∙ marks_apart n q i h (λ j b. o (suc j) (omega arith))

-- At each of the places it has 1.
marks_at : (n : ℕ) (q : List ℕ) (j : ℕ) → ArePlaces n q → j < length q → get_or (marks n q) (get_or q j 0) 0 ≡ 1
unfolding marks
marks_at n [] j a h = absurd (omega arith)
marks_at n (p ∷ q) zero a h =
    get_or-set_same (marks n q) p 1 0 (omega (arith, length-marks n q, a 0 (omega arith)))
marks_at n (p ∷ q) (suc j) a h =
    elim (cases_eq (get_or q j 0) p) [
      | inl e ↦
          ap (λ i. get_or (slice_set (marks n q) p 1) i 0) e
          ∙ get_or-set_same (marks n q) p 1 0 (omega (arith, length-marks n q, a 0 (omega arith)))
      | inr ne ↦
          get_or-set_other (marks n q) p (get_or q j 0) 1 0 ne
          ∙ marks_at n q j (λ i b. a (suc i) (omega arith)) (omega arith)
    ]

-- With 1 in place of a 0, one number more isn't 0.
nonzeros_set : (e : List ℕ) (p : ℕ) → p < length e → get_or e p 0 ≡ 0 → nonzeros (slice_set e p 1) ≡ suc (nonzeros e)
unfolding nonzeros
nonzeros_set [] p h z = absurd (omega arith)
nonzeros_set (zero ∷ e) zero h z = refl
nonzeros_set (suc a ∷ e) zero h z = absurd (omega arith)
nonzeros_set (zero ∷ e) (suc p) h z = nonzeros_set e p (omega arith) z
nonzeros_set (suc a ∷ e) (suc p) h z = ap suc (nonzeros_set e p (omega arith) z)

-- A list of zeros has no number that isn't 0.
nonzeros_none : (n : ℕ) → nonzeros (replicate n 0) ≡ 0
unfolding nonzeros
nonzeros_none zero = refl
nonzeros_none (suc n) = nonzeros_none n

-- As many numbers aren't 0 as there are places.
nonzeros_marks : (n : ℕ) (q : List ℕ) → ArePlaces n q → IsAscending q → nonzeros (marks n q) ≡ length q
unfolding marks
nonzeros_marks n [] a o = nonzeros_none n
nonzeros_marks n (p ∷ q) a o =
    let apart : get_or (marks n q) p 0 ≡ 0 =
    marks_apart n q p (a 0 (omega arith))
    (λ j h x. absurd (omega (arith, o 0 (suc j) (omega arith) (omega arith), x))) in
    nonzeros_set (marks n q) p (omega (arith, length-marks n q, a 0 (omega arith))) apart
    ∙ ap suc (nonzeros_marks n q (λ j h. a (suc j) (omega arith))
    (λ i j h l. o (suc i) (suc j) (omega arith) (omega arith)))

-- The locator vanishes at the places.
marks_vanish : (n : ℕ) (q : List ℕ) → Vanishes (places_locator n q) (marks n q)
marks_vanish n q i h z =
    let l : length (marks n q) ≡ n = length-marks n q in
    elim (in_or_not q i) [
      | inl (j, b, e) ↦
          ap (λ m. value (places_locator n q) (locator_at m i)) l
          ∙ ap (λ m. value (places_locator n q) (locator_at n m)) (sym e) ∙ locator_zero n q j b
      | inr o ↦ absurd (omega (arith, marks_apart n q i (omega arith) o))
    ]

-- At the locator of a place it has terms of odd powers, whose sum isn't 0: it has no root twice.
pub odd_positive : (n : ℕ) (q : List ℕ) (i : ℕ) → n ≤ 255 → ArePlaces n q → IsAscending q → i < n →
    value (places_locator n q) (locator_at n i) ≡ 0 → 0 < odd_part (places_locator n q) (locator_at n i)
odd_positive n q i s a o h z =
    let (p, pe, pl) = locator_parts n q in
    let (j, jb, je) = locator_root n q i s a h z in
    let e = marks n q in
    let l : length e ≡ n = length-marks n q in
    let x = locator_at n i in
    let pos : 0 < value (quotient (locator_at (length e) i) 0 (1 ∷ p)) (locator_at (length e) i) =
    quotient_positive e p i (omega arith) (subst Bytes pe (bytes_locator n q))
    (omega (arith, nonzeros_marks n q a o)) (subst (λ t. Vanishes t e) pe (marks_vanish n q)) (omega arith)
    (subst (λ y. 0 < y) (sym (ap (λ y. get_or e y 0) (sym je) ∙ marks_at n q j a jb)) (omega arith)) in
    let d : 0 < value (quotient x 0 (1 ∷ p)) x =
    subst (λ m. 0 < value (quotient (locator_at m i) 0 (1 ∷ p)) (locator_at m i)) l pos in
    subst (λ t. 0 < odd_part t x) (sym pe)
    (subst (λ y. 0 < y) (odd_divisor x (1 ∷ p))
    (product_positive x (value (quotient x 0 (1 ∷ p)) x) (raise_positive 2 (n - suc i) (omega arith) (omega arith))
    (raise_below 2 (n - suc i)) d (value_below (quotient x 0 (1 ∷ p)) x)))

-- The sum of the terms of odd powers is a byte.
odd_below : (l : List ℕ) (x : ℕ) → odd_part l x < 256
odd_below l x =
    subst (λ y. y < 256) (odd_divisor x l) (product_below x (value (quotient x 0 l) x))

-- ---- the value at a place
-- At a root of the locator, what the evaluator is there is the error there times the sum of the locator's terms of odd
-- powers.
root_sum : (e p s : List ℕ) (i : ℕ) → length e ≤ 255 → Bytes (1 ∷ p) →
    ((j : ℕ) → j < length p → coefficient s j ≡ sums e j) → Vanishes (1 ∷ p) e → i < length e
    → value (1 ∷ p) (locator_at (length e) i) ≡ 0
    → value (first (convolution (coefficient (1 ∷ p)) (coefficient s)) (length p)) (locator_at (length e) i) ≡
    odd_part (1 ∷ p) (locator_at (length e) i) ⊗ get_or e i 0
root_sum e p s i h b g v q z =
    let x = locator_at (length e) i in
    let t = quotient x 1 p in
    let f = λ (y : ℕ). raise y 1 ⊗ value t y in
    sym (quotient_evaluator x 1 p (coefficient s))
    ∙ laid_same t (coefficient s) (sums e) 0 (λ j l. g j (omega (arith, length_quotient x 1 p)))
    ∙ laid_sums e t 0
    ∙ weigh_single f e i q (λ k l n. elim (zero_or_positive (get_or e k 0)) [
      | inl w ↦ ap (λ y. y ⊗ f (locator_at (length e) k)) w ∙ product_zero_left (f (locator_at (length e) k))
      | inr w ↦ ap (λ y. get_or e k 0 ⊗ (raise (locator_at (length e) k) 1 ⊗ y))
          (sym (quotient_zero x 1 p (locator_at (length e) k))
          ∙ quotient_vanishes_but e (1 ∷ p) i h b v q z k l w n)
          ∙ ap (λ y. get_or e k 0 ⊗ y) (product_zero_right (raise (locator_at (length e) k) 1))
          ∙ product_zero_right (get_or e k 0)
    ])
    ∙ product_comm (get_or e i 0) (f x)
    ∙ ap (λ y. (y ⊗ value t x) ⊗ get_or e i 0) (raise_one x (raise_below 2 (length e - suc i)))
    ∙ ap (λ y. (x ⊗ y) ⊗ get_or e i 0) (sym (quotient_zero x 1 p x))
    ∙ ap (λ y. y ⊗ get_or e i 0) (odd_divisor x (1 ∷ p))

-- The word known has what c has where the polynomial l isn't 0 at the place's locator, and 0 where it is.
pub record AgreesBut (l c known : List ℕ) : Type 0 where
  pub long : length known ≡ length c
  pub kept : (i : ℕ) → i < length c → 0 < value l (locator_at (length c) i) → get_or known i 0 ≡ get_or c i 0
  pub blank : (i : ℕ) → i < length c → value l (locator_at (length c) i) ≡ 0 → get_or known i 0 ≡ 0

-- The places at which both differ are roots of it.
agrees_vanish : (l c known : List ℕ) → AgreesBut l c known → Vanishes l (plus known c)
agrees_vanish l c known a i h z =
    let le : length (plus known c) ≡ length c = length_plus known c a.long ∙ a.long in
    let v = value l (locator_at (length c) i) in
    ap (λ m. value l (locator_at m i)) le ∙ elim (zero_or_positive v) [
      | inl e ↦ e
      | inr p ↦
          let none : get_or (plus known c) i 0 ≡ 0 =
          get_or-plus known c i a.long ∙ ap (λ y. y ⊕ get_or c i 0) (a.kept i (omega arith) p)
          ∙ xor_self (get_or c i 0) in
          absurd (omega arith)
    ]

-- The syndromes of the word are the power sums of what is missing of a codeword.
known_sums : (k m : ℕ) (c known : List ℕ) → IsCodeword k c → m ≤ k → length known ≡ length c → (i : ℕ) → i < m →
    coefficient (syndromes_of known m) i ≡ sums (plus known c) i
unfolding sums
known_sums k m c known q h l i b =
    syndrome_at known m i b ∙ sym (xor_zero_r (value known (power (1 + i))))
    ∙ ap (bit_xor (value known (power (1 + i)))) (sym (codeword_values k c q i (omega arith)))
    ∙ sym (value_plus (power (1 + i)) known c l) ∙ value_weigh (1 + i) (plus known c)
    ∙ ap (λ j. weigh (λ x. raise x j) (plus known c)) (let r : 1 + i ≡ suc i = omega arith in r)

-- What the evaluator of the syndromes of the word is at the locator of a place, is what stands there in the codeword,
-- times the sum of the locator's terms of odd powers.
pub known_value : (k : ℕ) (q c known : List ℕ) (i : ℕ) → length c ≤ 255 → IsCodeword k c → length q ≤ k →
    AgreesBut (places_locator (length c) q) c known → i < length c
    → value (places_locator (length c) q) (locator_at (length c) i) ≡ 0
    → value (first (convolution (coefficient (places_locator (length c) q))
    (coefficient (syndromes_of known (length q)))) (length q)) (locator_at (length c) i) ≡
    odd_part (places_locator (length c) q) (locator_at (length c) i) ⊗ get_or c i 0
known_value k q c known i s w few a h z =
    let n = length c in
    let l = places_locator n q in
    let t = syndromes_of known (length q) in
    let (p, pe, pl) = locator_parts n q in
    let e = plus known c in
    let le : length e ≡ n = length_plus known c a.long ∙ a.long in
    let x = locator_at n i in
    let xe : locator_at (length e) i ≡ x = ap (λ m. locator_at m i) le in
    ap (λ m. value (first (convolution (coefficient l) (coefficient t)) m) x) (sym pl)
    ∙ ap (λ u. value (first (convolution (coefficient u) (coefficient t)) (length p)) x) pe
    ∙ ap (value (first (convolution (coefficient (1 ∷ p)) (coefficient t)) (length p))) (sym xe)
    ∙ root_sum e p t i (omega arith) (subst Bytes pe (bytes_locator n q))
    (λ j b. known_sums k (length q) c known w few a.long j (omega arith))
    (subst (λ u. Vanishes u e) pe (agrees_vanish l c known a)) (omega arith)
    (ap (value (1 ∷ p)) xe ∙ ap (λ u. value u x) (sym pe) ∙ z)
    ∙ ap (λ y. odd_part (1 ∷ p) y ⊗ get_or e i 0) xe ∙ ap (λ u. odd_part u x ⊗ get_or e i 0) (sym pe)
    ∙ ap (λ y. odd_part l x ⊗ y) (get_or-plus known c i a.long ∙ ap (λ y. y ⊕ get_or c i 0) (a.blank i h z)
    ∙ xor_zero_l (get_or c i 0))

-- ---- a whole word
-- The first coefficients of its product with the syndromes are those of the locator's.
pub evaluator_taken : (l p s : List ℕ) (count : ℕ) → ((i : ℕ) → get_or l i 0 ≡ coefficient p i) →
    values_from (convolution (coefficient l) (coefficient s)) 0 count ≡
    first (convolution (coefficient p) (coefficient s)) count
evaluator_taken l p s count e =
    values_are_first (convolution (coefficient l) (coefficient s)) count
    ∙ first_same (convolution (coefficient l) (coefficient s)) (convolution (coefficient p) (coefficient s)) count
    (λ i b. conv_same_left (coefficient l) (coefficient p) (coefficient s) i (λ j o. e j))

-- A word has 0 at some places, and is filled there with quotients.
pub record IsFilled (q odd numerators known word : List ℕ) : Type 0 where
  pub long : length word ≡ length known
  pub bytes : Bytes word
  pub blank : (j : ℕ) → j < length q → get_or known (get_or q j 0) 0 ≡ 0
  pub kept : IsSameBut q word known
  pub filled : (j : ℕ) → j < length q → 0 < get_or odd (length known - suc (get_or q j 0)) 0 →
      get_or odd (length known - suc (get_or q j 0)) 0 ⊗ get_or word (get_or q j 0) 0 ≡
      get_or numerators (length known - suc (get_or q j 0)) 0

-- What a codeword is but for the places, filled there with the right quotients, is the codeword.
pub filled_whole : (k : ℕ) (q w known odd numerators r : List ℕ) → HasPlaces k q w → length w ≤ 255 →
    length known ≡ length w → IsSameBut q known w
    → AreOddParts (places_locator (length w) q) (length w) odd
    → AreValues (first (convolution (coefficient (places_locator (length w) q))
    (coefficient (syndromes_of known (length q)))) (length q)) (length w) numerators
    → IsFilled q odd numerators known r → r ≡ w
filled_whole k q w known odd numerators r h s kl same o m f =
    let n = length w in
    let l = places_locator n q in
    let places : ArePlaces n q = λ i b. h.within i 0 b in
    let agrees : AgreesBut l w known = record {
      long = kl;
      kept = λ i b p. elim (in_or_not q i) [
        | inl (j, jb, je) ↦
            let z : value l (locator_at n i) ≡ 0 =
            ap (λ x. value l (locator_at n x)) (sym je) ∙ locator_zero n q j jb in
            absurd (omega arith)
        | inr apart ↦ same i apart
      ];
      blank = λ i b z.
          let (j, jb, je) = locator_root n q i s places b z in
          ap (λ x. get_or known x 0) (sym je) ∙ f.blank j jb;
    } in
    ext_get_or 0 r w (f.long ∙ kl) (λ i b. elim (in_or_not q i) [
      | inr apart ↦ f.kept i apart ∙ same i apart
      | inl (j, jb, je) ↦
          let ib : i < n = omega (arith, f.long, kl) in
          let x = locator_at n i in
          let z : value l x ≡ 0 = ap (λ y. value l (locator_at n y)) (sym je) ∙ locator_zero n q j jb in
          let d = odd_part l x in
          let dp : 0 < d = odd_positive n q i s places h.ascending ib z in
          let back : (t : List ℕ) → get_or t (length known - suc (get_or q j 0)) 0 ≡ get_or t (n - suc i) 0 =
          λ t. ap (λ y. get_or t (y - suc (get_or q j 0)) 0) kl ∙ ap (λ y. get_or t (n - suc y) 0) je in
          let de : get_or odd (length known - suc (get_or q j 0)) 0 ≡ d = back odd ∙ o (n - suc i) (omega arith) in
          let ne : get_or numerators (length known - suc (get_or q j 0)) 0 ≡ d ⊗ get_or w i 0 =
          back numerators ∙ m (n - suc i) (omega arith) ∙ known_value k q w known i s h.codeword h.few agrees ib z in
          product_cancels d (get_or r i 0) (get_or w i 0) dp (odd_below l x) (f.bytes i 0 b)
          (codeword_bytes k w h.codeword i 0 ib)
          (ap (λ y. y ⊗ get_or r i 0) (sym de)
          ∙ ap (λ y. get_or odd (length known - suc (get_or q j 0)) 0 ⊗ get_or r y 0) (sym je)
          ∙ f.filled j jb (subst (λ y. 0 < y) (sym de) dp) ∙ ne)
    ])
