-- The errors of a word near to a codeword: there is a pair of the key equation, and what its least pair corrects is
-- that codeword.
use Rattle.std.proofs.Common.{◌≡◌, ℕ, suc, ◌+◌, ◌-◌, ◌/◌, ◌<◌, ◌≤◌, List, [], ◌∷◌, length, get_or, sym, ap, subst, ◌∙◌}
use Rattle.std.proofs.Common.{arith, bit_xor}
use Rattle.std.proofs.lemmas.List.{ext_get_or}
use lib.Bits.{xor_zero_r}
use Rattle.gf301.specs.Field.{◌⊕◌, raise, power}
use Rattle.gf301.specs.Polynomial.{Bytes, value, coefficient, convolution}
use Rattle.gf301.proofs.Exported.{plus, nonzeros, sum_below, weigh, value_weigh, xor_twice, length_plus, bytes_plus}
use Rattle.gf301.proofs.Exported.{get_or-plus, value_plus, conv_same_left, sums, locate}
use Rattle.dm_code.specs.Codeword.{IsNear}
use Rattle.dm_code.specs.Syndromes.{syndromes_of}
use Rattle.dm_code.specs.KeyEquation.{IsLeastPair, NoPair, IsBelow}
use Rattle.dm_code.specs.KeyEquationLaws.{IsSamePolynomial}
use Rattle.dm_code.proofs.Codewords.{codeword_bytes, codeword_values}
use Rattle.dm_code.proofs.Distance.{distance_nonzeros}
use Rattle.dm_code.proofs.SyndromeLaws.{syndrome_at}
use Rattle.dm_code.proofs.Bytes.{bytes_places}
use Rattle.dm_code.proofs.First.{first}
use Rattle.dm_code.proofs.Pairs.{within_wider, pair_within, byte_at, IsLeastAt, least_at}
use Rattle.dm_code.proofs.ErrorPlaces.{locator_at, Vanishes, true_pair, pair_vanishes}
use Rattle.dm_code.proofs.ErrorValues.{IsErrorValue, error_found}

-- The list s has the syndromes of the word w.
abbrev AreSyndromes : List ℕ → List ℕ → Type 0
AreSyndromes w s = s ≡ syndromes_of w (length s)

-- The syndromes of a word are the power sums of its errors.
syndromes_sums : (w s c : List ℕ) → AreSyndromes w s → IsNear (length s) w c → (i : ℕ) → i < length s →
    coefficient s i ≡ sums (plus w c) i
unfolding sums
syndromes_sums w s c h n i l =
    ap (λ t. get_or t i 0) h ∙ syndrome_at w (length s) i l ∙ sym (xor_zero_r (value w (power (1 + i))))
    ∙ ap (bit_xor (value w (power (1 + i)))) (sym (codeword_values (length s) c n.codeword i l))
    ∙ sym (value_plus (power (1 + i)) w c (sym n.long)) ∙ value_weigh (1 + i) (plus w c)
    ∙ ap (λ j. weigh (λ x. raise x j) (plus w c)) (let q : 1 + i ≡ suc i = omega arith in q)

-- The errors of a word near to a codeword are at most k / 2.
errors_few : (k : ℕ) (w c : List ℕ) → IsNear k w c → nonzeros (plus w c) ≤ k / 2
errors_few k w c n = subst (λ m. m ≤ k / 2) (distance_nonzeros w c (sym n.long)) n.close

-- Where a codeword is near, there is a pair of the key equation.
pub near_pair : (w s c : List ℕ) → AreSyndromes w s → IsNear (length s) w c → NoPair s (length s / 2) → ⊥
near_pair w s c h n q =
    let e = plus w c in
    let v = first (convolution (coefficient (locate e)) (coefficient s)) (nonzeros e) in
    let p = true_pair e s (syndromes_sums w s c h n) in
    q (locate e) v (pair_within s (locate e) v (nonzeros e) (length s / 2) p
    (within_wider (locate e) v (nonzeros e) (length s / 2) (errors_few (length s) w c n) p.within))

-- The list t is l without the zeros at its end.
pub record IsTrimmed (l t : List ℕ) : Type 0 where
  pub same : IsSamePolynomial l t
  pub tight : (n : ℕ) → IsBelow n l → length t ≤ n

-- A least pair is one with another list for the same locator.
pub least_same : (s l v t : List ℕ) (k : ℕ) → Bytes t → IsSamePolynomial l t → IsLeastPair s k l v → IsLeastPair s k t v
least_same s l v t k b e p = record {
  pair = record {
    locator_bytes = b;
    evaluator_bytes = p.pair.evaluator_bytes;
    one = sym (e 0) ∙ p.pair.one;
    within = record { locator = λ i h. sym (e i) ∙ p.pair.within.locator i h; evaluator = p.pair.within.evaluator };
    equation =
        λ i h. conv_same_left (coefficient t) (coefficient l) (coefficient s) i (λ j q. sym (e j))
        ∙ p.pair.equation i h;
  };
  least = λ g w q d m.
      let r = p.least g w q d m in record { locator = λ i h. sym (e i) ∙ r.locator i h; evaluator = r.evaluator };
}

-- A trimmed locator begins with 1.
trimmed_head : (l t : List ℕ) → IsTrimmed l t → coefficient l 0 ≡ 1 → (p : List ℕ) × (t ≡ 1 ∷ p)
trimmed_head l [] h o = absurd (let r : 0 ≡ 1 = sym (h.same 0) ∙ o in omega arith)
trimmed_head l (a ∷ p) h o = (p, ap (λ y. y ∷ p) (sym (h.same 0) ∙ o))

-- Two numbers are equal if their sums with a third number are.
xor_same : (a b c : ℕ) → a ⊕ b ≡ a ⊕ c → b ≡ c
xor_same a b c e = sym (xor_twice a b) ∙ ap (bit_xor a) e ∙ xor_twice a c

-- The list f is the word w with the value of the error taken away at each place, as the locator l and the evaluator v
-- give it.
pub record IsCorrected (l v w f : List ℕ) : Type 0 where
  pub long : length f ≡ length w
  pub each : (i : ℕ) → i < length w → IsErrorValue l v (locator_at (length w) i) (get_or w i 0 ⊕ get_or f i 0)

-- A corrected word is a list of bytes.
pub corrected_bytes : (l v w f : List ℕ) → ((i : ℕ) → get_or w i 0 < 256) → IsCorrected l v w f → Bytes f
corrected_bytes l v w f b m =
    bytes_places f (λ i h.
    subst (λ z. z < 256) (xor_twice (get_or w i 0) (get_or f i 0))
    (sum_below (get_or w i 0) (get_or w i 0 ⊕ get_or f i 0) (b i) (m.each i (omega (arith, m.long))).byte))

-- Where a codeword is near, a word that is corrected by a trimmed locator within a least bound is this codeword.
corrected_by : (w s c l v p f : List ℕ) (d : ℕ) → 0 < length s → Bytes w → Bytes f → length w ≤ 255 → AreSyndromes w s →
    IsLeastAt s (length s / 2) l v d → IsTrimmed l (1 ∷ p)
    → IsCorrected (1 ∷ p) v w f → IsNear (length s) w c → f ≡ c
corrected_by w s c l v p f d kp wb fb h y q t m n =
    let e = plus w c in
    let g = syndromes_sums w s c y n in
    let le : length e ≡ length w = length_plus w c (sym n.long) in
    let eb : Bytes e = bytes_plus w c wb (codeword_bytes (length s) c n.codeword) in
    let tp = true_pair e s g in
    let dn : d ≤ nonzeros e =
    q.least (locate e) (first (convolution (coefficient (locate e)) (coefficient s)) (nonzeros e)) (nonzeros e)
    tp in
    let pd : suc (length p) ≤ suc d = t.tight (suc d) q.pair.within.locator in
    let pb : Bytes (1 ∷ p) =
    bytes_places (1 ∷ p) (λ i b. subst (λ x. x < 256) (t.same i) (byte_at l q.pair.locator_bytes i)) in
    let cl : nonzeros e ≤ length s / 2 = errors_few (length s) w c n in
    let va : Vanishes (1 ∷ p) e =
    pair_vanishes e s l v 1 p d eb (omega arith) (omega arith) g q.pair (λ i. sym (t.same i)) (omega arith) in
    ext_get_or 0 f c (m.long ∙ sym n.long) (λ i b.
    let iw : i < length w = omega (arith, m.long) in
    xor_same (get_or w i 0) (get_or f i 0) (get_or c i 0)
    (error_found e p s v i (get_or w i 0 ⊕ get_or f i 0) (omega arith) eb pb (omega arith) (omega arith) g
    (λ j o. conv_same_left (coefficient (1 ∷ p)) (coefficient l) (coefficient s) j (λ z u. sym (t.same z))
    ∙ q.pair.equation j o) va (omega arith)
    (sum_below (get_or w i 0) (get_or f i 0) (wb i 0 iw) (fb i 0 b))
    (subst (λ z. IsErrorValue (1 ∷ p) v (power (z - suc i)) (get_or w i 0 ⊕ get_or f i 0)) (sym le) (m.each i iw))
    ∙ get_or-plus w c i (sym n.long)))

-- Where a codeword is near, a word that is corrected by the least pair is this codeword.
pub corrected_near : (w s c l v t f : List ℕ) → 0 < length s → ((i : ℕ) → get_or w i 0 < 256) → length w ≤ 255 →
    AreSyndromes w s → IsLeastPair s (length s / 2) l v → IsTrimmed l t
    → IsCorrected t v w f → IsNear (length s) w c → f ≡ c
corrected_near w s c l v t f kp wb h y q r m n =
    let a = trimmed_head l t r q.pair.one in
    let d = least_at s l v (length s / 2) q in
    corrected_by w s c l v a.0 f d.0 kp (bytes_places w (λ i b. wb i)) (corrected_bytes t v w f wb m) h y d.1
    (subst (λ u. IsTrimmed l u) a.1 r) (subst (λ u. IsCorrected u v w f) a.1 m) n
