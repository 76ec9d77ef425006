use Rattle.dm_symbol.proofs.Names.{refl, arith, option_map}
use Rattle.dm_symbol.proofs.ContentReadSteps.{content_border_result, lost_content_result}
use Rattle.dm_symbol.proofs.SymbolBelow.{front_words}
use Rattle.dm_symbol.proofs.symbol.reading.restore.Goals as goal

pub returns-then-border_faults-border_limit-clause-lost : goal.returns-then-border_faults-border_limit-clause-lost
returns-then-border_faults-border_limit-clause-lost c =
    content_border_result c.args.extent c.args.symbol.now (option_map (λ d. d.now) c.args.doubtful) c.args.border_limit
    c.border_faults-border_faults.result (
      omega (arith, c.if-border_faults-border_limit.true, c.border_faults-border_faults.ensures),
      c.border_faults-border_faults.ensures,
    )

pub returns-in-Ok-clause-restored : goal.returns-in-Ok-clause-restored
returns-in-Ok-clause-restored c =
    let r = c.in-Ok.ensures.restored in
    rw (front_words c.args.symbol.now.size c.restore_words.new.words _ r.0.by.of_size.count) (record {
      few = omega (arith, c.if-border_faults-border_limit.false, c.border_faults-border_faults.ensures);
      faults_are = c.border_faults-border_faults.ensures;
      size = refl;
      held = c.lift_to.new.words;
      restored = r.0;
      readings = r.1;
    })

pub returns-in-Err-clause-lost : goal.returns-in-Err-clause-lost
returns-in-Err-clause-lost c =
    lost_content_result c.args.extent c.args.symbol.now (option_map (λ d. d.now) c.args.doubtful) c.args.border_limit
    c.lift_to.new.words c.in-Err.lost
    (omega (arith, c.if-border_faults-border_limit.false, c.border_faults-border_faults.ensures)) c.in-Err.ensures.lost
