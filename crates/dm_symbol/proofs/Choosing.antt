-- Choosing a list for each of finitely many numbers.
use Rattle.dm_symbol.proofs.Names.{ℕ, ◌<◌, ◌≤◌, ◌⊎◌, List, [], inl, inr, arith, cases_lt}

-- Where each number below n has a list with a property, some function gives one for each.
pub chosen : (n : ℕ) (P : ℕ → List ℕ → Type 0) → ((b : ℕ) → b < n → (list : List ℕ) × P b list)
    → (f : ℕ → List ℕ) × ((b : ℕ) → b < n → P b (f b))
chosen n P each = (λ b. picked b (cases_lt b n), λ b h. holds b (cases_lt b n) h)
  where
    picked : (b : ℕ) → (b < n) ⊎ (n ≤ b) → List ℕ
    picked b (inl h) = (each b h).0
    picked b (inr h) = []

    holds : (b : ℕ) (c : (b < n) ⊎ (n ≤ b)) → b < n → P b (picked b c)
    holds b (inl h) k = (each b h).1
    holds b (inr h) k = absurd (omega (arith, h, k))
