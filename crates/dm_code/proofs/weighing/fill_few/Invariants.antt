use Rattle.std.proofs.Common.{◌≡◌, ◌≢◌, ◌-◌, ◌<◌, ℕ, suc, length, get_or}
use Rattle.gf301.specs.Field.{◌⊗◌, power}
use Rattle.gf301.specs.Polynomial.{value}
use Rattle.dm_code.proofs.weighing.fill_few.Given as goal

abbrev pub invariant-loop-i : goal.invariant-loop-i
invariant-loop-i l = record {
  bytes : (p : ℕ) → get_or l.word p 0 < 256;
  filled : (j : ℕ) → j < l.i → 0 < get_or l.odd (length l.initial.word - suc (get_or l.places j 0)) 0 →
      get_or l.odd (length l.initial.word - suc (get_or l.places j 0)) 0 ⊗ get_or l.word (get_or l.places j 0) 0 ≡
      value l.terms (power (length l.initial.word - suc (get_or l.places j 0)));
  kept : (p : ℕ) → ((j : ℕ) → j < l.i → get_or l.places j 0 ≢ p) → get_or l.word p 0 ≡ get_or l.initial.word p 0;
}
