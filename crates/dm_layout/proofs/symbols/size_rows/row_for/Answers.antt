use Rattle.std.proofs.Common.{rules, sym, ◌∙◌}
use Rattle.std.proofs.lemmas.Iterator.{YieldsList-from_slice}
use Rattle.std.proofs.lemmas.Iterator.Adapters.{option_map_id}
use Rattle.std.proofs.lemmas.Iterator.Consumers.{YieldsList-at, YieldsList-from_copied}
use Rattle.std.proofs.lemmas.Iterator.Search.{find_from_yields_List}
use Rattle.dm_layout.specs.declared.symbols.size_rows.TheConstants.{SIZE_ROWS}
use Rattle.dm_layout.proofs.symbols.SizeRows.{is_enough}
use Rattle.dm_layout.proofs.symbols.size_rows.row_for.Goals as goal

pub returns : goal.returns
returns c =
    sym (option_map_id _)
    ∙ find_from_yields_List (is_enough c.args.choice c.args.count) _ _ c.find.result
    c.find.ensures.ran
    (YieldsList-from_copied (YieldsList-at c.copied.ensures.source (YieldsList-from_slice SIZE_ROWS cc)))
    (λ x b q k. search rules)
