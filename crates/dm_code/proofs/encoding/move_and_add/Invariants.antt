use Rattle.std.proofs.Common.{suc, ◌*◌, get_or}
use Rattle.gf301.specs.Field.{◌⊕◌, ◌⊗◌}
use Rattle.gf301.proofs.Exported.{IsDoneTo}
use Rattle.dm_code.proofs.encoding.move_and_add.Given as goal

abbrev pub invariant-loop-group : goal.invariant-loop-group
invariant-loop-group g l =
    IsDoneTo (λ i x. get_or l.initial.left (suc (suc i)) 0
    ⊕ (l.fn.first ⊗ get_or l.row i 0 ⊕ l.fn.second ⊗ get_or l.other i 0)) l.initial.left l.left (16 * l.group)
