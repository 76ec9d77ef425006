use Rattle.std.proofs.Common.{◌≡◌, ◌≢◌, ◌<◌, ℕ, get_or}
use Rattle.dm_code.proofs.weighing.blank.Given as goal

abbrev pub invariant-loop-i : goal.invariant-loop-i
invariant-loop-i l = record {
  blank : (j : ℕ) → j < l.i → get_or l.word (get_or l.places j 0) 0 ≡ 0;
  kept : (p : ℕ) → ((j : ℕ) → j < l.i → get_or l.places j 0 ≢ p) → get_or l.word p 0 ≡ get_or l.initial.word p 0;
}
