use Rattle.std.proofs.Common.{List, ℕ, ◌++◌, take}
use Rattle.dm_text.specs.LineFacts.{AreLineFacts}
use Rattle.dm_text.proofs.open_line.OpenLine.take.Given as goal

abbrev pub invariant-loop-byte : goal.invariant-loop-byte
invariant-loop-byte l = (line : List ℕ) → AreLineFacts line l.initial.self →
    AreLineFacts (line ++ take l.byte-index l.bytes) l.self
