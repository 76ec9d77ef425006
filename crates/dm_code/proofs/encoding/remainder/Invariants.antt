use Rattle.std.proofs.Common.{◌≡◌, ◌<◌, ◌≤◌, ℕ, length, get_or}
use Rattle.gf301.specs.Field.{◌⊕◌}
use Rattle.dm_code.proofs.encoding.remainder.Given as goal

-- The last codewords have been added at the first places.
abbrev pub invariant-loop-i : goal.invariant-loop-i
invariant-loop-i l = record {
  long : length l.rest ≡ 96;
  done : (j : ℕ) → j < l.i → get_or l.rest j 0 ≡ get_or l.initial.rest j 0 ⊕ get_or l.last j 0;
  later : (j : ℕ) → l.i ≤ j → get_or l.rest j 0 ≡ get_or l.initial.rest j 0;
}
