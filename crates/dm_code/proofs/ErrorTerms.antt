-- What an error adds to the syndromes: its value times the powers of the locator of its place, sixteen at a time.
use Rattle.std.proofs.Common.{◌≡◌, ℕ, suc, ◌+◌, ◌<◌, ◌≤◌, List, length, get_or, map, take, length-take, sym, ap, ◌∙◌}
use Rattle.std.proofs.Common.{arith}
use Rattle.std.proofs.lemmas.List.{get_or-map, length-map, get_or-take}
use Rattle.gf301.specs.Field.{◌⊕◌, ◌⊗◌, raise}
use Rattle.gf301.specs.Polynomial.{values_from}
use Rattle.gf301.proofs.Exported.{product_assoc, product_comm, raise_add, length-values_from, get_or-values_from}

-- What an error of the value v at the locator x adds to the syndrome at the place i of their list.
abbrev pub error_term : ℕ → ℕ → ℕ → ℕ
error_term v x i = v ⊗ raise x (suc i)

-- The lanes have what it adds to sixteen syndromes from the place n on.
pub record AreErrorTerms (v x : ℕ) (t : List ℕ) (n : ℕ) : Type 0 where
  pub long : length t ≡ 16
  pub each : (i : ℕ) → i < 16 → get_or t i 0 ≡ error_term v x (n + i)

-- The products of sixteen powers with the value and the locator are the first ones.
pub error_terms_start : (v x m : ℕ) (ps t : List ℕ) → ps ≡ values_from (raise x) 0 16 → m ≡ v ⊗ x →
    t ≡ map (λ y. m ⊗ y) ps → AreErrorTerms v x t 0
unfolding raise
error_terms_start v x m ps t p e q =
    let pl : length ps ≡ 16 = ap length p ∙ length-values_from (raise x) 0 16 in
    record {
      long = ap length q ∙ length-map ps (λ y. m ⊗ y) ∙ pl;
      each = λ i h.
          ap (λ u. get_or u i 0) q ∙ get_or-map (λ y. m ⊗ y) ps i 0 0 (omega (arith, pl))
          ∙ ap (λ u. m ⊗ get_or u i 0) p ∙ ap (λ y. m ⊗ y) (get_or-values_from (raise x) 0 16 i h)
          ∙ ap (λ z. z ⊗ raise x (0 + i)) e ∙ product_assoc v x (raise x (0 + i));
    }

-- Their products with the power 16 are the next ones.
pub error_terms_next : (v x s n : ℕ) (t u : List ℕ) → AreErrorTerms v x t n → s ≡ raise x 16 → u ≡ map (λ y. s ⊗ y) t →
    AreErrorTerms v x u (n + 16)
error_terms_next v x s n t u h e q = record {
  long = ap length q ∙ length-map t (λ y. s ⊗ y) ∙ h.long;
  each = λ i b.
      ap (λ u. get_or u i 0) q ∙ get_or-map (λ y. s ⊗ y) t i 0 0 (omega (arith, h.long))
      ∙ ap (λ y. s ⊗ y) (h.each i b) ∙ ap (λ z. z ⊗ error_term v x (n + i)) e
      ∙ product_comm (raise x 16) (v ⊗ raise x (suc (n + i))) ∙ product_assoc v (raise x (suc (n + i))) (raise x 16)
      ∙ ap (λ y. v ⊗ y) (sym (raise_add x (suc (n + i)) 16))
      ∙ ap (λ j. v ⊗ raise x j) (let r : suc (n + i) + 16 ≡ suc (n + 16 + i) = omega arith in r);
}

-- The last of the powers 0 to 15, times the locator, is the power 16.
pub sixteenth : (x m : ℕ) (ps : List ℕ) → ps ≡ values_from (raise x) 0 16 → m ≡ get_or ps 15 0 ⊗ x → m ≡ raise x 16
unfolding raise
sixteenth x m ps p e =
    e ∙ ap (λ u. get_or u 15 0 ⊗ x) p ∙ ap (λ y. y ⊗ x) (get_or-values_from (raise x) 0 16 15 (omega arith))
    ∙ product_comm (raise x 15) x

-- ---- of the syndromes that a block has
-- What is added to all of a list is added to its first k numbers.
pub taken_sum : (f : ℕ → ℕ) (s t : List ℕ) (k n : ℕ) → length t ≡ length s → k ≤ length s → k ≤ n →
    ((i : ℕ) → i < n → get_or t i 0 ≡ get_or s i 0 ⊕ f i)
    → (length (take k t) ≡ length (take k s)) × ((i : ℕ) → i < length (take k s) →
    get_or (take k t) i 0 ≡ get_or (take k s) i 0 ⊕ f i)
taken_sum f s t k n e h g a =
    let sl : length (take k s) ≡ k = simp length-take (omega arith) in
    let tl : length (take k t) ≡ k = simp length-take (omega arith) in (
      tl ∙ sym sl,
      λ i b.
          let lt : i < k = omega (arith, sl) in
          get_or-take k t i 0 lt ∙ a i (omega arith) ∙ ap (λ y. y ⊕ f i) (sym (get_or-take k s i 0 lt)),
    )
