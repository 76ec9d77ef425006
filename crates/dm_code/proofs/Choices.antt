-- What is decided for each of finitely many things is decided for all of them: for the numbers below a bound, and for
-- the lists of bytes of one length.
use Rattle.std.proofs.Common.{◌≡◌, ◌⊎◌, ℕ, zero, suc, ◌<◌, List, [], ◌∷◌, length, refl, inl, inr, subst, arith}
use Rattle.std.proofs.lemmas.Bool.{cases_eq, cases_lt}
use Rattle.gf301.specs.Polynomial.{Bytes}
use Rattle.gf301.proofs.Exported.{bytes_cons, bytes_head, bytes_tail}

-- A statement is decided where it holds or its opposite does.
abbrev pub Decided : Type 0 → Type 0
Decided P = P ⊎ (P → ⊥)

-- Some number below a bound has the property, or none has.
any_below : (P : ℕ → Type 0) (n : ℕ) → ((a : ℕ) → a < n → Decided (P a)) → Decided ((a : ℕ) × (a < n) × P a)
any_below P zero decide = inr (λ some. absurd (omega (arith, some.1)))
any_below P (suc n) decide =
    elim (decide n (omega arith)) [
      | inl last ↦ inl (n, omega arith, last)
      | inr not_last ↦ elim (any_below P n (λ a h. decide a (omega (arith, h)))) [
        | inl some ↦ inl (some.0, omega (arith, some.1), some.2)
        | inr none ↦ inr (λ some. elim (cases_eq some.0 n) [
          | inl e ↦ not_last (subst P e some.2)
          | inr other ↦ none (some.0, omega (arith, some.1, other), some.2)
        ])
      ]
    ]

-- The numbers below a bound all have the property, or not all have it.
pub all_decided : (P : ℕ → Type 0) → ((i : ℕ) → Decided (P i)) → (n : ℕ) → Decided ((i : ℕ) → i < n → P i)
all_decided P h zero = inl (λ i l. absurd (omega arith))
all_decided P h (suc n) =
    elim (all_decided P h n) [
      | inr missing ↦ inr (λ all. missing (λ i l. all i (omega arith)))
      | inl all ↦ elim (h n) [
        | inr q ↦ inr (λ f. q (f n (omega arith)))
        | inl p ↦ inl (λ i l. elim (cases_lt i n)
            [ inl b ↦ all i b | inr b ↦ subst P (let e : n ≡ i = omega arith in e) p ])
      ]
    ]

-- Some list of n bytes has the property.
pub record HasList (n : ℕ) (P : List ℕ → Type 0) : Type 0 where
  pub list : List ℕ
  pub bytes : Bytes list
  pub long : length list ≡ n
  pub holds : P list

-- A list of n + 1 bytes with the property begins with a number below 256, and a list of n bytes follows it.
first_and_rest : (n : ℕ) (P : List ℕ → Type 0) (c : List ℕ) → Bytes c → length c ≡ suc n → P c →
    (a : ℕ) × (a < 256) × HasList n (λ rest. P (a ∷ rest))
first_and_rest n P [] b l p = absurd (omega arith)
first_and_rest n P (a ∷ c) b l p =
    (a, bytes_head a c b, record { list = c; bytes = bytes_tail a c b; long = omega (arith, l); holds = p })

-- A list of no bytes with the property is the empty list.
only_empty : (P : List ℕ → Type 0) (c : List ℕ) → length c ≡ 0 → P c → P []
only_empty P [] l p = p
only_empty P (a ∷ c) l p = absurd (omega (arith, l))

-- Some list of n bytes has the property, or none has.
pub any_list : (n : ℕ) (P : List ℕ → Type 0) → ((c : List ℕ) → Bytes c → length c ≡ n → Decided (P c)) →
    Decided (HasList n P)
any_list zero P decide =
    elim (decide [] (λ i d h. absurd (omega arith)) refl) [
      | inl p ↦ inl (record { list = []; bytes = λ i d h. absurd (omega arith); long = refl; holds = p })
      | inr none ↦ inr (λ some. none (only_empty P some.list some.long some.holds))
    ]
any_list (suc n) P decide =
    elim (any_below (λ a. HasList n (λ rest. P (a ∷ rest))) 256
    (λ a small. any_list n (λ rest. P (a ∷ rest))
    (λ c b l. decide (a ∷ c) (bytes_cons a c small b) (omega (arith, l))))) [
      | inl some ↦ inl (record {
        list = some.0 ∷ some.2.list;
        bytes = bytes_cons some.0 some.2.list some.1 some.2.bytes;
        long = omega (arith, some.2.long);
        holds = some.2.holds;
      })
      | inr none ↦ inr (λ some. none (first_and_rest n P some.list some.bytes some.long some.holds))
    ]
