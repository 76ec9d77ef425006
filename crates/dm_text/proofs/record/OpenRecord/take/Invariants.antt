use Rattle.std.proofs.Common.{List, ℕ, ◌++◌, ◌-◌, ◌≤◌, length, take}
use Rattle.dm_text.specs.RecordFacts.{AreRecordFacts}
use Rattle.dm_text.proofs.record.OpenRecord.take.Given as goal

abbrev pub invariant-loop-at : goal.invariant-loop-at
invariant-loop-at l = record {
  within : l.at ≤ length l.bytes;
  grown : (text : List ℕ) → AreRecordFacts text l.initial.self → AreRecordFacts (text ++ take l.at l.bytes) l.self;
}

abbrev pub decreases-loop-at : goal.decreases-loop-at
decreases-loop-at l = length l.bytes - l.at
