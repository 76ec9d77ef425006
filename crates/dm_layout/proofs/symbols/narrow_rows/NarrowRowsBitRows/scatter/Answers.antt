use Rattle.dm_layout.proofs.Names.{◌∙◌, ℕ, ap, refl, arith, is_dark_bit, NARROW_LOW_TWO_BITS, NARROW_LOW_THREE_BITS}
use Rattle.dm_layout.proofs.symbols.LaidRows.{row_scattered}
use Rattle.dm_layout.proofs.symbols.SlotBytes.{in_eight}
use Rattle.dm_layout.proofs.symbols.SlotRows.{narrow_masks_at}
use Rattle.dm_layout.proofs.symbols.narrow_rows.NarrowRowsBitRows.scatter.Goals as goal

pub returns-clause-cells : goal.returns-clause-cells
returns-clause-cells c = λ r q l.
    row_scattered 64 NARROW_LOW_TWO_BITS NARROW_LOW_THREE_BITS narrow_masks_at refl c.args.self.now c.args.slots.now
    c.from_le_bytes-codewords.result c.args.row c.args.column r q
    (λ i h. ap (λ (x : ℕ). is_dark_bit x i) (c.from_le_bytes-codewords.ensures
    ∙ in_eight c.row.result c.row.ensures.count
    ∙ c.row.ensures.number)) (omega (arith, c.requires.row)) l
