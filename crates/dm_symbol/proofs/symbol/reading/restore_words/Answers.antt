use Rattle.dm_symbol.proofs.Names.{◌∙◌, refl, sym, option_map}
use Rattle.dm_symbol.proofs.Dealings.{not_wide}
use Rattle.dm_symbol.proofs.Restoring.{is_lost, is_restored, is_restored_otherwise}
use Rattle.dm_symbol.proofs.symbol.reading.restore_words.Goals as goal

pub restore_blocks-requires : goal.restore_blocks-requires
restore_blocks-requires c =
    rw c.size-size.ensures.value (record {
      words = c.requires.held.codewords;
      doubtful = c.requires.doubtful;
      dealing = λ e. absurd cc;
    })

pub returns-in_default-clause-restored : goal.returns-in_default-clause-restored
returns-in_default-clause-restored c =
    let e = c.size-size.ensures.value in (
      is_restored c.args.extent c.args.symbol.now (option_map (λ d. d.now) c.args.doubtful) c.args.words.now
          c.requires.held c.restore_blocks.new.words (rw e at c.in_default.ensures.words)
          (rw e at c.in_default.ensures.near),
      rw e at c.in_default.ensures.readings,
    )

pub returns-in-Usual-clause-lost : goal.returns-in-Usual-clause-lost
returns-in-Usual-clause-lost c =
    is_lost c.args.extent c.args.symbol.now (option_map (λ d. d.now) c.args.doubtful) c.args.words.now c.requires.held
    c.in-Err.first (rw c.size-size.ensures.value at c.in-Err.ensures.lost)
    (λ wide two held codewords r. not_wide (sym c.in-Usual.is ∙ wide))

pub returns-then-not-restore_restarted-clause-lost : goal.returns-then-not-restore_restarted-clause-lost
returns-then-not-restore_restarted-clause-lost c =
    is_lost c.args.extent c.args.symbol.now (option_map (λ d. d.now) c.args.doubtful) c.args.words.now c.requires.held
    c.in-Err.first (rw c.size-size.ensures.value at c.in-Err.ensures.lost)
    (λ wide. c.if-not-restore_restarted.ensures.lost refl)

pub returns-clause-restored : goal.returns-clause-restored
returns-clause-restored c =
    is_restored_otherwise c.args.extent c.args.symbol.now (option_map (λ d. d.now) c.args.doubtful) c.args.words.now
    c.requires.held c.restore_restarted.new.words c.restore_restarted.new.blocks.items c.in-Err.first
    (rw c.size-size.ensures.value at c.in-Err.ensures.lost) c.in-Wide.is
    (c.if-not-restore_restarted.ensures.restored refl)
