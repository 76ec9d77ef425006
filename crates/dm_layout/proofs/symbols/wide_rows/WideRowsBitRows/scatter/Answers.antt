use Rattle.dm_layout.proofs.Names.{◌∙◌, ℕ, ap, refl, arith, is_dark_bit, LOW_TWO_BITS, LOW_THREE_BITS}
use Rattle.dm_layout.proofs.symbols.LaidRows.{row_scattered}
use Rattle.dm_layout.proofs.symbols.SlotBytes.{in_sixteen}
use Rattle.dm_layout.proofs.symbols.SlotRows.{masks_at}
use Rattle.dm_layout.proofs.symbols.wide_rows.WideRowsBitRows.scatter.Goals as goal

pub returns-clause-cells : goal.returns-clause-cells
returns-clause-cells c = λ r q l.
    row_scattered 128 LOW_TWO_BITS LOW_THREE_BITS masks_at refl c.args.self.now c.args.slots.now
    c.from_le_bytes-codewords.result c.args.row c.args.column r q
    (λ i h. ap (λ (x : ℕ). is_dark_bit x i) (c.from_le_bytes-codewords.ensures
    ∙ in_sixteen c.row.result c.row.ensures.count
    ∙ c.row.ensures.number)) (omega (arith, c.requires.row)) l
