use Rattle.std.proofs.Common.{◌≡◌, ◌≤◌, ◌+◌, ◌-◌, ◌*◌, ◌<◌, ℕ, length, get_or, take}
use Rattle.dm_code.specs.Codeword.{distance}
use Rattle.dm_code.proofs.Corrections.{IsCorrectedFrom}
use Rattle.dm_code.proofs.correction.correct_roots.Given as goal

-- From the last place on, the places are corrected.
abbrev pub invariant-loop-part : goal.invariant-loop-part
invariant-loop-part l = record {
  bytes : (i : ℕ) → get_or l.initial.word i 0 < 256;
  corrected : IsCorrectedFrom l.fn.locator l.fn.evaluator l.initial.word l.word (take l.fn.k l.syndromes) l.fn.k
      (length l.initial.word - 16 * l.part);
  count : l.count ≡ distance l.initial.word l.word;
  few : l.count ≤ 16 * l.part;
}

abbrev pub invariant-loop-lane : goal.invariant-loop-lane
invariant-loop-lane l = record {
  corrected : IsCorrectedFrom l.fn.locator l.fn.evaluator l.fn.word l.word (take l.fn.k l.syndromes) l.fn.k
      (length l.fn.word - (l.first + l.lane));
  count : l.count ≡ distance l.fn.word l.word;
  few : l.count ≤ l.first + l.lane;
}
