-- What connects a list of values: a locator whose product with them has no coefficients from its degree on.
use Rattle.std.proofs.Common.{◌≡◌, ℕ, ◌+◌, ◌<◌, ◌≤◌, List, length, sym, ◌∙◌, arith, inl, inr}
use Rattle.std.proofs.lemmas.Bool.{cases_lt}
use Rattle.std.proofs.lemmas.List.{get_or_past}
use Rattle.gf301.specs.Polynomial.{Bytes, coefficient, convolution}
use Rattle.dm_code.specs.KeyEquation.{IsPair, IsLeastPair, IsWithin, NoPair}

-- The series f has the constant term 1 and at most the degree d, and its product with s has no coefficients from d up
-- to n.
pub record Connects (f s : ℕ → ℕ) (d n : ℕ) : Type 0 where
  pub one : f 0 ≡ 1
  pub degree : (i : ℕ) → d < i → f i ≡ 0
  pub gives : (i : ℕ) → d ≤ i → i < n → convolution f s i ≡ 0

-- No series of a degree below e connects the values.
abbrev pub NoneBelow : List ℕ → ℕ → Type 0
NoneBelow s e = (d : ℕ) → d < e → (g : ℕ → ℕ) → Connects g (coefficient s) d (length s) → ⊥

-- The locator of a pair connects the values, with every degree that the pair is within.
pub pair_connects : (s l w : List ℕ) (t d : ℕ) → IsPair s t l w → IsWithin d l w →
    Connects (coefficient l) (coefficient s) d (length s)
pair_connects s l w t d p b = record {
  one = p.one;
  degree = λ i h. b.locator i (omega arith);
  gives = λ i h q. p.equation i q ∙ b.evaluator i h;
}

-- Where nothing connects the values with a degree of at most t, there is no pair.
pub none_connects : (s : List ℕ) (t : ℕ) → NoneBelow s (t + 1) → NoPair s t
none_connects s t n l w p = n t (omega arith) (coefficient l) (pair_connects s l w t t p p.within)

-- A locator of the first degree that connects the values, with the coefficients of its product below that degree, is
-- the least pair.
pub first_is_least : (s l w : List ℕ) (t e : ℕ) → e ≤ t → NoneBelow s e →
    Connects (coefficient l) (coefficient s) e (length s) → Bytes l → Bytes w → length w ≡ e
    → ((i : ℕ) → i < e → coefficient w i ≡ convolution (coefficient l) (coefficient s) i) → IsLeastPair s t l w
first_is_least s l w t e h n c bl bw k a =
    let z : (i : ℕ) → e ≤ i → coefficient w i ≡ 0 = λ i q. get_or_past w i 0 (omega arith) in
    let within =
    λ (d : ℕ) (m : e ≤ d). (let r : IsWithin d l w =
    record { locator = λ i q. c.degree i (omega arith); evaluator = λ i q. z i (omega arith) } in r) in
    record {
      pair = record {
        locator_bytes = bl;
        evaluator_bytes = bw;
        one = c.one;
        within = within t h;
        equation = λ i q. elim (cases_lt i e) [ inl b ↦ sym (a i b) | inr b ↦ c.gives i b q ∙ sym (z i b) ];
      };
      least =
          λ g v p d b. elim (cases_lt d e) [
            | inl m ↦ absurd (n d m (coefficient g) (pair_connects s g v t d p b))
            | inr
                m ↦ within d m
          ];
    }
