use Rattle.dm_layout.proofs.Names.{◌∙◌, ℕ, List, ap, ◌+◌, ◌/◌, ◌^◌, get_or, get_or-set_same, is_dark_bit, in_bytes}
use Rattle.dm_layout.proofs.symbols.SlotBytes.{sixteen_first}
use Rattle.dm_layout.proofs.symbols.SlotRows.{joined_in, masks_at}
use Rattle.dm_layout.proofs.symbols.WidenedRows.{low_bit}
use Rattle.dm_layout.proofs.Names.{arith, common_steps}
use Rattle.dm_layout.proofs.symbols.wide_rows.WideRowsBitRows.join.Goals as goal

pub returns-clause-cells : goal.returns-clause-cells
returns-clause-cells c = λ room q l.
    ap (λ (xs : List ℕ). is_dark_bit (get_or xs c.args.row 0) q) c.put_row.ensures
    ∙ ap (λ (x : ℕ). is_dark_bit x q) (get_or-set_same c.args.slots.now c.args.row _ 0 room
    ∙ ap in_bytes c.to_le_bytes.ensures ∙ sixteen_first _)
    ∙ low_bit _ 128 q l
    ∙ joined_in 128 _ _ masks_at (get_or c.args.self.now c.args.row 0 / 2 ^ c.args.column)
    (get_or c.args.self.now (c.args.row + 1) 0 / 2 ^ c.args.column)
    (get_or c.args.self.now (c.args.row + 2) 0 / 2 ^ c.args.column) q l

pub put_row-requires : goal.put_row-requires
put_row-requires c = grind (arith, common_steps)
