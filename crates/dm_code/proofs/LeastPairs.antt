-- Where there is a pair of the key equation, there is a least one: whether there is a pair within a bound is decided by
-- going through the lists of bytes, and the first bound with one gives the least pair.
use Rattle.std.proofs.Common.{◌≡◌, ℕ, zero, suc, ◌<◌, ◌≤◌, List, length, sym, subst, ◌∙◌, arith, inl, inr, ◌⊎◌}
use Rattle.std.proofs.lemmas.Bool.{cases_lt, cases_eq}
use Rattle.std.proofs.lemmas.List.{get_or_past}
use Rattle.std.proofs.Math.Nat.{le_refl}
use Rattle.gf301.specs.Polynomial.{Bytes, coefficient, convolution}
use Rattle.gf301.proofs.Exported.{conv_same_left, conv_below}
use Rattle.dm_code.specs.KeyEquation.{IsPair, IsLeastPair}
use Rattle.dm_code.proofs.Choices.{Decided, all_decided, any_list}
use Rattle.dm_code.proofs.First.{first, first_at, first_past, first_whole, bytes_first, length-first}
use Rattle.dm_code.proofs.Pairs.{byte_at, IsLeastAt, least_from_at}

-- ---- a pair within a bound
-- A locator of a pair within d has the constant term 1, and from d on its product with the syndromes has only zeros.
record Locates (s : List ℕ) (d : ℕ) (l : List ℕ) : Type 0 where
  one : coefficient l 0 ≡ 1
  gives : (i : ℕ) → i < length s → d ≤ i → convolution (coefficient l) (coefficient s) i ≡ 0

-- It is decided whether a list has what the locator of a pair within d has.
locates_decided : (s : List ℕ) (d : ℕ) (l : List ℕ) → Decided (Locates s d l)
locates_decided s d l =
    let c = convolution (coefficient l) (coefficient s) in
    elim (cases_eq (coefficient l 0) 1) [
      | inr n ↦ inr (λ p. n p.one)
      | inl e ↦ elim (all_decided (λ i. d ≤ i → c i ≡ 0) (λ i. elim (cases_lt i d) [
        | inl b ↦ inl (λ h. absurd (omega arith))
        | inr b ↦ elim (cases_eq (c i) 0) [ inl z ↦ inl (λ h. z) | inr z ↦ inr (λ f. z (f b)) ]
      ]) (length s)) [
        | inl a ↦ inl (record { one = e; gives = a })
        | inr n ↦ inr (λ p. n p.gives)
      ]
    ]

-- A list that locates has an evaluator, and so is the locator of a pair.
pair_of : (s : List ℕ) (d : ℕ) (l : List ℕ) → Bytes l → length l ≡ suc d → Locates s d l →
    IsPair s d l (first (convolution (coefficient l) (coefficient s)) d)
pair_of s d l b e p =
    let f = convolution (coefficient l) (coefficient s) in
    record {
      locator_bytes = b;
      evaluator_bytes = bytes_first f d (conv_below (coefficient l) (coefficient s));
      one = p.one;
      within = record { locator = λ i h. get_or_past l i 0 (omega arith); evaluator = λ i h. first_past f d i h };
      equation =
          λ i h. elim (cases_lt i d) [
            | inl q ↦ sym (first_at f d i q)
            | inr q ↦ p.gives i h q
                ∙ sym (first_past f d i q)
          ];
    }

-- The first d + 1 coefficients of the locator of a pair within d locate.
first_locates : (s g v : List ℕ) (d : ℕ) → IsPair s d g v → Locates s d (first (coefficient g) (suc d))
first_locates s g v d p =
    let same = first_whole (coefficient g) (suc d) p.within.locator in
    record {
      one = same 0 ∙ p.one;
      gives =
          λ i h q. conv_same_left (coefficient (first (coefficient g) (suc d))) (coefficient g) (coefficient s) i
          (λ j a. same j) ∙ p.equation i h ∙ p.within.evaluator i q;
    }

-- There is a pair within d, or there is none.
pair_decided : (s : List ℕ) (d : ℕ) → ((l : List ℕ) × (w : List ℕ) × IsPair s d l w)
    ⊎ ((l w : List ℕ) → IsPair s d l w → ⊥)
pair_decided s d =
    elim (any_list (suc d) (Locates s d) (λ l b e. locates_decided s d l)) [
      | inl some ↦ inl (
        some.list,
        first (convolution (coefficient some.list) (coefficient s)) d,
        pair_of s d some.list some.bytes some.long some.holds,
      )
      | inr none ↦ inr (λ g v p. none (record {
        list = first (coefficient g) (suc d);
        bytes = bytes_first (coefficient g) (suc d) (byte_at g p.locator_bytes);
        long = length-first (coefficient g) (suc d);
        holds = first_locates s g v d p;
      }))
    ]

-- ---- the first bound
-- A least pair has one of the first n bounds, or no pair is within any of them.
first_bound : (s : List ℕ) (t n : ℕ) → n ≤ suc t →
    ((l : List ℕ) × (w : List ℕ) × (d : ℕ) × IsLeastAt s t l w d)
    ⊎ ((d : ℕ) → d < n → (l w : List ℕ) → IsPair s d l w → ⊥)
first_bound s t zero h = inr (λ d b l w p. absurd (omega arith))
first_bound s t (suc n) h =
    elim (first_bound s t n (omega arith)) [
      | inl f ↦ inl f
      | inr none ↦ elim (pair_decided s n) [
        | inl f ↦ inl (
          f.0,
          f.1,
          n,
          record {
            within = omega arith;
            pair = f.2;
            least = λ g v e q. elim (cases_lt e n) [ inl b ↦ absurd (none e b g v q) | inr b ↦ b ];
          },
        )
        | inr missing ↦ inr (λ d b l w p. elim (cases_lt d n) [
          | inl c ↦ none d c l w p
          | inr c ↦ missing l w
              (subst (λ m. IsPair s m l w) (let e : d ≡ n = omega arith in e) p)
        ])
      ]
    ]

-- Where there is a pair, there is a least pair.
pub least_exists : (s g v : List ℕ) (t : ℕ) → IsPair s t g v → (l : List ℕ) × (w : List ℕ) × IsLeastPair s t l w
least_exists s g v t p =
    elim (first_bound s t (suc t) (le_refl (suc t))) [
      | inl f ↦ (f.0, f.1, least_from_at s f.0 f.1 t f.2 f.3)
      | inr none ↦ absurd (none t (omega arith) g v p)
    ]
