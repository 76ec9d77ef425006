use Rattle.ecc200_calls.proofs.Names.{refl, arith, option_map}
use Rattle.ecc200_calls.proofs.Limits.{blocks_of_left, left_of_blocks, none_of_fault}
use Rattle.ecc200_calls.proofs.restoring.restore_if_sure.Goals as goal

pub returns-then-leave_corrections-clause-sure : goal.returns-then-leave_corrections-clause-sure
returns-then-leave_corrections-clause-sure g c =
    let a = c.args in
    let done = c.restore_within.new.restored in
    left_of_blocks a.extent a.symbol.now (option_map (λ d. d.now) a.doubtful) a.count c.restore_within.new.words
    done.dealing done.blocks.items done.border_faults c.in-Ok.ensures.restored
    (rw c.deref.ensures.0 at (c.leave_corrections.ensures.all c.if-leave_corrections.true))

pub returns-else-leave_corrections-clause-unsure : goal.returns-else-leave_corrections-clause-unsure
returns-else-leave_corrections-clause-unsure g c =
    let a = c.args in
    let done = c.restore_within.new.restored in (
      refl,
      λ left. c.leave_corrections.ensures.some c.if-leave_corrections.false (rw c.deref.ensures.0 (blocks_of_left
          a.extent a.symbol.now (option_map (λ d. d.now) a.doubtful) a.count c.restore_within.new.words done.dealing
          done.blocks.items done.border_faults c.in-Ok.ensures.restored left)),
    )

pub returns-in-Err-clause-unsure : goal.returns-in-Err-clause-unsure
returns-in-Err-clause-unsure g c =
    let a = c.args in (
      refl,
      none_of_fault a.extent a.symbol.now (option_map (λ d. d.now) a.doubtful) a.count c.in-Err.field-0
          (λ why e. c.restore_within.ensures.unsaid why (rw (c.in-Err.is, e) refl)) (omega (arith, c.requires.count))
          c.in-Err.ensures.restored,
    )
