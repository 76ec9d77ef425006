-- The distance of two words, and that of two codewords.
use Rattle.std.proofs.Common.{◌≡◌, ◌≢◌, ℕ, zero, suc, ◌+◌, ◌<◌, ◌≤◌, List, [], ◌∷◌, ◌++◌, length, get_or, refl, sym, ap}
use Rattle.std.proofs.Common.{subst, ◌∙◌, arith, inl, inr, length-append, cond, ◌==◌, if◌then◌else◌}
use Rattle.std.proofs.lemmas.Bool.{cases_lt, cases_eq, eq-eqb, ne_eqb}
use Rattle.std.proofs.lemmas.List.{get_or_append_left, append_cancel_left, ext_get_or}
use lib.Bits.{xor_self}
use Rattle.gf301.specs.Field.{◌⊕◌}
use Rattle.gf301.proofs.Exported.{sum_zero, plus, nonzeros, same_from_values}
use Rattle.dm_code.specs.Codeword.{IsCodeword, IsNear, differing, distance}
use Rattle.dm_code.proofs.Codewords.{codeword_bytes, codeword_values}

-- ---- one place

-- Two numbers count 0 if they are the same, and 1 otherwise.
abbrev pub differs : ℕ → ℕ → ℕ
differs a b = if a == b then 0 else 1

-- Two equal numbers count 0.
pub differs_same : (a b : ℕ) → a ≡ b → differs a b ≡ 0
differs_same a b e = ap (λ t. cond t 0 1) (eq-eqb a b e)

-- Two different numbers count 1.
pub differs_apart : (a b : ℕ) → (a ≡ b → ⊥) → differs a b ≡ 1
differs_apart a b n = ap (λ t. cond t 0 1) (ne_eqb a b n)

-- Two numbers count at most 1.
pub differs_le : (a b : ℕ) → differs a b ≤ 1
differs_le a b = elim (cases_eq a b) [
  | inl e ↦ omega (arith, differs_same a b e)
  | inr n ↦ omega (arith, differs_apart a b n)
]

-- Two numbers that differ do not both agree with a third.
differs_triangle : (a b c : ℕ) → differs b c ≤ differs a b + differs a c
differs_triangle a b c = elim (cases_eq a b) [
  | inl e ↦ let h : differs b c ≡ differs a c = ap (λ x. differs x c) (sym e) in omega arith
  | inr n ↦ omega (arith, differs_apart a b n, differs_le b c)
]

-- ---- the first n places
-- The places at which two words differ are at most those at which either differs from a third.
pub differing_triangle : (u v w : List ℕ) (n : ℕ) → differing v w n ≤ differing u v n + differing u w n
unfolding differing
differing_triangle u v w zero = omega arith
differing_triangle u v w (suc n) =
    let i : differing v w n ≤ differing u v n + differing u w n = differing_triangle u v w n in
    omega (arith, differs_triangle (get_or u n 0) (get_or v n 0) (get_or w n 0))

-- Among n + m places two words differ in at most m more than among the first n.
differing_more : (v w : List ℕ) (n m : ℕ) → differing v w (n + m) ≤ differing v w n + m
unfolding differing
differing_more v w n zero =
    let e : differing v w (n + 0) ≡ differing v w n = ap (differing v w) (let q : n + 0 ≡ n = omega arith in q) in
    omega arith
differing_more v w n (suc m) =
    let i : differing v w (n + m) ≤ differing v w n + m = differing_more v w n m in
    let e : differing v w (n + suc m) ≡ differing v w (n + m) + differs (get_or v (n + m) 0) (get_or w (n + m) 0) =
    ap (differing v w) (let q : n + suc m ≡ suc (n + m) = omega arith in q) in
    omega (arith, differs_le (get_or v (n + m) 0) (get_or w (n + m) 0))

-- Words that agree at the first n places differ at none of them.
pub differing_none : (v w : List ℕ) (n : ℕ) → ((i : ℕ) → i < n → get_or v i 0 ≡ get_or w i 0) → differing v w n ≡ 0
unfolding differing
differing_none v w zero h = refl
differing_none v w (suc n) h =
    let i : differing v w n ≡ 0 = differing_none v w n (λ j l. h j (omega arith)) in
    omega (arith, differs_same (get_or v n 0) (get_or w n 0) (h n (omega arith)))

-- Words with one prefix differ in no more places than follow it.
pub distance_after : (f c d : List ℕ) → distance (f ++ c) (f ++ d) ≤ length c
distance_after f c d =
    let m : differing (f ++ c) (f ++ d) (length f + length c) ≤ differing (f ++ c) (f ++ d) (length f) + length c =
    differing_more (f ++ c) (f ++ d) (length f) (length c) in
    let z : differing (f ++ c) (f ++ d) (length f) ≡ 0 =
    differing_none (f ++ c) (f ++ d) (length f) (λ i l. get_or_append_left f c 0 i l
    ∙ sym (get_or_append_left f d 0 i l)) in
    let e : differing (f ++ c) (f ++ d) (length (f ++ c)) ≡ differing (f ++ c) (f ++ d) (length f + length c) =
    ap (differing (f ++ c) (f ++ d)) (length-append f c) in
    omega arith

-- ---- the places at which two words differ are those at which their sum isn't 0
-- The places at which two words differ are the first one, if it counts, and those of the rest.
differing_head : (a b : ℕ) (v w : List ℕ) (n : ℕ) → differing (a ∷ v) (b ∷ w) (suc n) ≡ differs a b + differing v w n
unfolding differing
differing_head a b v w zero = omega arith
differing_head a b v w (suc n) =
    let i : differing (a ∷ v) (b ∷ w) (suc n) ≡ differs a b + differing v w n = differing_head a b v w n in
    omega arith

-- A first number that is 0 is not counted.
nonzeros_zero : (a : ℕ) (e : List ℕ) → a ≡ 0 → nonzeros (a ∷ e) ≡ nonzeros e
unfolding nonzeros
nonzeros_zero zero e h = refl
nonzeros_zero (suc a) e h = absurd (omega arith)

-- A first number that isn't 0 is counted.
nonzeros_apart : (a : ℕ) (e : List ℕ) → (a ≡ 0 → ⊥) → nonzeros (a ∷ e) ≡ suc (nonzeros e)
unfolding nonzeros
nonzeros_apart zero e h = absurd (h refl)
nonzeros_apart (suc a) e h = refl

-- The distance is the number of places at which the sum is not 0.
pub distance_nonzeros : (v w : List ℕ) → length v ≡ length w → distance v w ≡ nonzeros (plus v w)
unfolding plus differing nonzeros
distance_nonzeros [] [] h = refl
distance_nonzeros [] (b ∷ w) h = absurd (omega arith)
distance_nonzeros (a ∷ v) [] h = absurd (omega arith)
distance_nonzeros (a ∷ v) (b ∷ w) h =
    let i : distance v w ≡ nonzeros (plus v w) = distance_nonzeros v w (omega arith) in
    let m : differing (a ∷ v) (b ∷ w) (suc (length v)) ≡ differs a b + distance v w =
    differing_head a b v w (length v) in
    elim (cases_eq a b) [
      | inl e ↦
          let z : a ⊕ b ≡ 0 = ap (λ x. a ⊕ x) (sym e) ∙ xor_self a in
          omega (arith, differs_same a b e, nonzeros_zero (a ⊕ b) (plus v w) z)
      | inr n ↦ omega (arith, differs_apart a b n, nonzeros_apart (a ⊕ b) (plus v w) (λ z. n (sum_zero a b z)))
    ]

-- ---- codewords
-- Two codewords of one length that differ in at most k places are equal.
pub codewords_one : (k : ℕ) (v w : List ℕ) → IsCodeword k v → IsCodeword k w → length v ≡ length w → length v ≤ 255 →
    distance v w ≤ k → v ≡ w
codewords_one k v w cv cw l h d =
    same_from_values v w k l h (codeword_bytes k v cv) (codeword_bytes k w cw)
    (subst (λ n. n ≤ k) (distance_nonzeros v w l) d)
    (λ i b. codeword_values k v cv i b ∙ sym (codeword_values k w cw i b))

-- Two different codewords of one length differ in at least k + 1 places.
pub codewords_apart : (k : ℕ) (v w : List ℕ) → IsCodeword k v → IsCodeword k w → length v ≡ length w → length v ≤ 255 →
    v ≢ w → k + 1 ≤ distance v w
codewords_apart k v w cv cw l h n = elim (cases_lt k (distance v w)) [
  | inl b ↦ omega arith
  | inr b ↦ absurd (n (codewords_one k v w cv cw l h b))
]

-- A codeword's front determines the k codewords that follow it.
pub front_determines : (k : ℕ) (f c d : List ℕ) → IsCodeword k (f ++ c) → IsCodeword k (f ++ d) → length c ≡ k →
    length d ≡ k → length f + k ≤ 255 → c ≡ d
front_determines k f c d cc cd lc ld h =
    append_cancel_left f c d
    (codewords_one k (f ++ c) (f ++ d) cc cd (omega (arith, length-append f c, length-append f d))
    (omega (arith, length-append f c))
    (omega (arith, distance_after f c d)))

-- ---- no distance

-- Two numbers with distance 0 are equal.
same_number : (a b : ℕ) → differs a b ≡ 0 → a ≡ b
same_number a b none = elim (cases_eq a b) [ inl e ↦ e | inr n ↦ absurd (omega (arith, none, differs_apart a b n)) ]

-- Words that differ at none of the first n places agree there.
agrees : (v w : List ℕ) (n i : ℕ) → differing v w n ≡ 0 → i < n → get_or v i 0 ≡ get_or w i 0
unfolding differing
agrees v w zero i none h = absurd (omega arith)
agrees v w (suc n) i none h =
    elim (cases_eq i n) [
      | inl e ↦ rw e (same_number (get_or v n 0) (get_or w n 0) (omega (arith, none)))
      | inr o ↦ agrees v w n i (omega (arith, none)) (omega (arith, h, o))
    ]

-- Words of one length that differ nowhere are equal.
pub differing_nowhere : (v w : List ℕ) → length w ≡ length v → distance v w ≡ 0 → w ≡ v
differing_nowhere v w long none =
    ext_get_or 0 w v long (λ i h. sym (agrees v w (length v) i none (omega (arith, h, long))))

-- At most one codeword is near a word.
pub near_one : (k : ℕ) (w c d : List ℕ) → length w ≤ 255 → IsNear k w c → IsNear k w d → c ≡ d
near_one k w c d h nc nd =
    let t : differing c d (length w) ≤ differing w c (length w) + differing w d (length w) =
    differing_triangle w c d (length w) in
    let e : distance c d ≡ differing c d (length w) = ap (differing c d) nc.long in
    codewords_one k c d nc.codeword nd.codeword (nc.long ∙ sym nd.long) (omega (arith, nc.long))
    (omega (arith, nc.close, nd.close))
