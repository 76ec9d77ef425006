-- What the results of a correction rest on: a word is a codeword where its syndromes are 0, and then it is near to
-- itself.
use Rattle.std.proofs.Common.{◌≡◌, ℕ, zero, suc, ◌+◌, ◌/◌, ◌<◌, ◌≤◌, List, [], ◌∷◌, ◌++◌, length, get_or, take, drop}
use Rattle.std.proofs.Common.{length-take, min, refl, sym, ap, subst, ◌∙◌, arith, All, replicate}
use Rattle.std.proofs.lemmas.Grind.{common_steps}
use Rattle.std.proofs.lemmas.List.{ext_get_or, length-replicate, get_or-replicate, get_or-take}
use Rattle.gf301.specs.Field.{power}
use Rattle.gf301.specs.Polynomial.{Bytes, value}
use Rattle.gf301.proofs.Exported.{value_zeros}
use Rattle.gf301.specs.declared.generators.TheConstants.{MOST_CHECKS}
use Rattle.dm_code.specs.Codeword.{IsCodeword, IsNear, differing, distance}
use Rattle.dm_code.specs.Syndromes.{syndromes_of}
use Rattle.dm_code.proofs.Codewords.{codeword_values, codeword_from_values}
use Rattle.dm_code.proofs.Distance.{differs_same}
use Rattle.dm_code.proofs.SyndromeLaws.{syndromes_length, syndrome_at}

-- Every number of the list is 0.
abbrev pub AreZero : List ℕ → Type 0
AreZero s = All (λ a. a ≡ 0) s

-- A list that is 0 at each place has zeros alone.
zero_places : (p : List ℕ) → ((i : ℕ) → i < length p → get_or p i 0 ≡ 0) → AreZero p
zero_places [] h i d l = absurd (omega arith)
zero_places (a ∷ p) h zero d l = h 0 (omega arith)
zero_places (a ∷ p) h (suc i) d l = zero_places p (λ j m. h (suc j) (omega arith)) i d (omega arith)

-- A word whose syndromes are all 0 is a codeword.
pub codeword_from_syndromes : (k : ℕ) (w s : List ℕ) → k ≤ MOST_CHECKS → k < length w → length w ≤ 255 → Bytes w →
    s ≡ syndromes_of w k → AreZero s → IsCodeword k w
codeword_from_syndromes k w s a b l h e z =
    let n : length s ≡ k = ap length e ∙ syndromes_length w k in
    codeword_from_values k w (omega arith) l (omega arith) h (λ i q. sym (syndrome_at w k i q)
    ∙ ap (λ t. get_or t i 0) (sym e) ∙ z i 0 (omega arith))

-- The first ones of zeros are zeros.
pub zeros_of_first : (k : ℕ) (r : List ℕ) → AreZero r → AreZero (take k r)
zeros_of_first k r z =
    zero_places (take k r) (λ i h.
    let l : length (take k r) ≡ min k (length r) = simp length-take refl in
    get_or-take k r i 0 (omega arith) ∙ z i 0 (omega arith))

-- The syndromes of zeros are all 0.
pub zeros_of_zeros : (k : ℕ) (r : List ℕ) → AreZero r → AreZero (syndromes_of r k)
zeros_of_zeros k r z =
    let same : r ≡ replicate (length r) 0 =
    ext_get_or 0 r (replicate (length r) 0) (sym (length-replicate {A = ℕ} (length r) 0)) (λ i h. z i 0 h
    ∙ sym (get_or-replicate (length r) i 0 0 h)) in
    zero_places (syndromes_of r k) (λ i h.
    syndrome_at r k i (omega (arith, syndromes_length r k)) ∙ ap (λ t. value t (power (1 + i))) same
    ∙ value_zeros (power (1 + i)) (length r))

-- The syndromes of a codeword are all 0.
pub zero_syndromes : (k : ℕ) (w s : List ℕ) → s ≡ syndromes_of w k → IsCodeword k w → AreZero s
zero_syndromes k w s e c =
    let n : length s ≡ k = ap length e ∙ syndromes_length w k in
    zero_places s (λ i h. ap (λ t. get_or t i 0) e ∙ syndrome_at w k i (omega arith)
    ∙ codeword_values k w c i (omega arith))

-- A word differs from itself at no place.
differing_self : (w : List ℕ) (n : ℕ) → differing w w n ≡ 0
unfolding differing
differing_self w zero = refl
differing_self w (suc n) =
    let r : differing w w n ≡ 0 = differing_self w n in
    omega (arith, differs_same (get_or w n 0) (get_or w n 0) refl)

-- The distance of a word to itself is 0.
pub distance_self : (w f : List ℕ) → f ≡ w → distance w f ≡ 0
distance_self w f e = ap (distance w) e ∙ differing_self w (length w)

-- A codeword is near to itself.
pub near_self : (k : ℕ) (w f : List ℕ) → f ≡ w → IsCodeword k w → IsNear k w f
near_self k w f e c = record {
  codeword = subst (IsCodeword k) (sym e) c;
  long = ap length e;
  close = subst (λ n. n ≤ k / 2) (sym (distance_self w f e)) (omega arith);
}

-- A list whose places were all written is the list that was written.
refilled : (a b : List ℕ) → length b ≡ length a → take (length a) (b ++ drop (length b) a) ≡ b
refilled a b h = grind (arith, common_steps)

-- When f was written over a, a copy of the word w, it is as long, and it is what stands there.
pub record IsRewritten (w a f : List ℕ) : Type 0 where
  pub long : length f ≡ length w
  pub word : take (length a) (f ++ drop (length f) a) ≡ f

-- This holds where f is as long as the copy.
pub rewritten : (w a word f : List ℕ) → a ≡ w → word ≡ a → length f ≡ length word → IsRewritten w a f
rewritten w a word f ae we fl = record {
  long = fl ∙ ap length (we ∙ ae);
  word = refilled a f (fl ∙ ap length we);
}
