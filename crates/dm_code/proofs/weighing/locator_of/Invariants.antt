use Rattle.std.proofs.Common.{◌≡◌, ◌-◌, ℕ, length, get_or, drop}
use Rattle.gf301.specs.Polynomial.{coefficient}
use Rattle.dm_code.specs.inner.Lessened.{places_locator}
use Rattle.dm_code.proofs.weighing.locator_of.Given as goal

-- The locator is that of the last places, so many.
abbrev pub invariant-loop-done : goal.invariant-loop-done
invariant-loop-done l = record {
  long : length l.locator ≡ 81;
  each : (i : ℕ) → get_or l.locator i 0 ≡
      coefficient (places_locator l.n (drop (length l.places - l.done) l.places)) i;
}
