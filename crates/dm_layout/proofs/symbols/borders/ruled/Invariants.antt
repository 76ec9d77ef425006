use Rattle.dm_layout.specs.symbols.inner.BorderMasks.{AreRuled}
use Rattle.dm_layout.proofs.symbols.borders.ruled.Given as goal

abbrev pub invariant-loop-region : goal.invariant-loop-region
invariant-loop-region l = AreRuled l.last l.region l.left l.both
