use Rattle.std.proofs.Common.{◌≡◌, ◌≤◌, ◌+◌, ◌*◌, ◌++◌, length, take}
use Rattle.dm_text.specs.Answers.{spaced_text}
use Rattle.dm_text.proofs.printed.push_spaced.Given as goal

abbrev pub invariant-loop-i : goal.invariant-loop-i
invariant-loop-i g l = record {
  text : l.text.items ≡ l.initial.text.items ++ spaced_text (take l.i l.numbers);
  room : length l.text.items ≤ length l.initial.text.items + 6 * l.i;
}
