use Rattle.dm_symbol.proofs.Names.{◌∙◌, None, sym, ap, subst, OnOk, option_map, erased_by, AreBlocksNear, marked_in}
use Rattle.dm_symbol.proofs.SymbolSteps.{blocks_move}
use Rattle.dm_symbol.proofs.Dealings.{erased_by_nothing}
use Rattle.dm_symbol.proofs.symbol.reading.restore_blocks.Goals as goal

pub returns-in-None : goal.returns-in-None
returns-in-None c =
    let s = c.args.size in
    let dealing = c.args.dealing in
    let moved = blocks_move s (marked_in s None) (erased_by dealing s (option_map (λ d. d.now) c.args.doubtful))
    (λ b hb. erased_by_nothing dealing s b
    ∙ sym (ap (λ x. erased_by dealing s (option_map (λ d. d.now) x) b) c.in-None.is)) c.restore_each.result
    c.args.words.now c.restore_each.new.words c.restore_each.new.blocks.items c.restore_each.ensures.near
    c.restore_each.ensures.readings c.restore_each.ensures.lost in
    record { words = c.restore_each.ensures.words; near = moved.0; readings = moved.1; lost = moved.2 }

pub returns-in-Some-clause-near : goal.returns-in-Some-clause-near
returns-in-Some-clause-near c =
    let s = c.args.size in
    subst (λ x. OnOk c.restore_doubtful.result (AreBlocksNear s (erased_by c.args.dealing s (option_map (λ d. d.now) x))
    c.args.words.now c.restore_doubtful.new.words)) (sym c.in-Some.is) c.restore_doubtful.ensures.near
