-- At how many places words differ that agree at some places or at all.
use Rattle.dm_symbol.proofs.Names.{◌≡◌, ◌≢◌, ℕ, zero, suc, ◌-◌, ◌*◌, ◌<◌, ◌≤◌, List, get_or, length, Result, Ok, Err}
use Rattle.dm_symbol.proofs.Names.{refl, sym, subst, ◌∙◌, inl, inr, arith, IfOk, cases_eq, cases_lt, IsCodeword, IsNear}
use Rattle.dm_symbol.proofs.Names.{distance, differs_same, differs_le}
use Rattle.std.specs.Prelude.{MatchResult}
use Rattle.dm_code.specs.Codeword.{differing}

-- Words that agree at the first m places differ in at most as many of the first n places as come after those.
pub differing_prefix : (w c : List ℕ) (m n : ℕ) → ((i : ℕ) → i < m → get_or w i 0 ≡ get_or c i 0)
    → differing w c n ≤ n - m
unfolding differing
differing_prefix w c m zero e = omega arith
differing_prefix w c m (suc n) e =
    elim (cases_lt n m) [
      | inl h ↦ omega (arith, differing_prefix w c m n e, differs_same (get_or w n 0) (get_or c n 0) (e n h))
      | inr h ↦ omega (arith, differing_prefix w c m n e, differs_le (get_or w n 0) (get_or c n 0))
    ]

-- A list of words doesn't differ from itself.
pub distance_to_itself : (word : List ℕ) → distance word word ≡ 0
distance_to_itself word =
    let none : differing word word (length word)
    ≡ 0 = omega (arith, differing_prefix word word (length word) (length word) (λ i h. refl)) in
    none

-- A codeword is near itself.
pub near_itself : (k : ℕ) (word : List ℕ) → IsCodeword k word → IsNear k word word
near_itself k word code = record { codeword = code; long = refl; close = omega (arith, distance_to_itself word) }

-- ---- what is found near a word

-- A word is corrected at no more places than half as many as it has check codewords.
pub few_found : {E : Type 0} (r : Result ℕ E) (found : List ℕ) (k : ℕ) (w : List ℕ)
    → MatchResult r (λ n. n ≢ 0 → IsNear k w found) (λ _. (c : List ℕ) → IsNear k w c → ⊥)
    → IfOk r (λ n. n ≢ 0 → n ≡ distance w found) → IfOk r (λ n. 2 * n ≤ k)
few_found (Ok n) found k w near counted =
    elim (cases_eq n 0) [
      | inl none ↦ omega (arith, none)
      | inr some ↦ omega (arith, counted some, (near some).close)
    ]
few_found (Err e) found k w near counted = tt

-- What a block becomes, and in how many places it differs from it, where what is found is put in its place if it
-- differs.
pub record IsPut (k changed : ℕ) (held after : List ℕ) : Type 0 where
  pub near : IsNear k held after
  pub counted : changed ≡ distance held after

-- It is put if it differs.
pub put_if : (k changed : ℕ) (held found after : List ℕ) → (changed ≢ 0 → IsNear k held found)
    → (changed ≢ 0 → changed ≡ distance held found) → (changed ≡ 0 → IsCodeword k held)
    → (changed ≢ 0 → after ≡ found) → (changed ≡ 0 → after ≡ held) → IsPut k changed held after
put_if k changed held found after near counted itself put stays = elim (cases_eq changed 0) [
  | inl none ↦ subst (IsPut k changed held) (sym (stays none)) (record {
    near = near_itself k held (itself none);
    counted = none ∙ sym (distance_to_itself held);
  })
  | inr some ↦ subst (IsPut k changed held) (sym (put some)) (record { near = near some; counted = counted some })
]
