use Rattle.dm_symbol.proofs.Names.{◌≡◌, ◌∙◌, ◌<◌, ℕ, None, sym, ap, option_map, marked_in, erased_by, Standard}
use Rattle.dm_symbol.proofs.SymbolDoubt.{erased_by_none}
use Rattle.dm_symbol.proofs.SymbolSteps.{mended_moves}
use Rattle.dm_symbol.proofs.symbol.inspection.mend_blocks.Goals as goal

pub returns-in-None-clause-mended : goal.returns-in-None-clause-mended
returns-in-None-clause-mended c =
    let s = c.args.size in
    let doubt = option_map (λ d. d.now) c.args.doubtful in
    let same : (b : ℕ) → b < s.blocks → marked_in s None b ≡ erased_by Standard s doubt b =
    λ b hb. sym (ap (λ x. erased_by Standard s (option_map (λ d. d.now) x) b) c.in-None.is ∙ erased_by_none s b) in
    mended_moves s (marked_in s None) (erased_by Standard s doubt) same c.args.words.now c.mend_each.new.words
    c.mend_each.new.blocks.items c.mend_each.ensures.mended
