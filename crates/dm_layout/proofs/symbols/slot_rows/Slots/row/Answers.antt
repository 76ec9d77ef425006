use Rattle.std.proofs.Common.{◌∙◌, ◌<◌, ◌/◌, ℕ, length, ap, arith}
use Rattle.dm_layout.proofs.symbols.SlotPlaces.{row_bytes, row_found}
use Rattle.dm_layout.proofs.symbols.slot_rows.Slots.row.Goals as goal

pub returns-clause-count : goal.returns-clause-count
returns-clause-count g c =
    let n : ℕ = g.row.BYTES in
    let bytes = c.self.inside.bytes in
    let e = ap (λ (i : ℕ). i / n) c.self.told in
    let l : c.args.row < length bytes / n = omega (arith, c.requires.row, e) in
    ap length (row_found n bytes c.requires.some _ c.args.row _ c.as_chunks.ensures.front l c.index-rows-row.is)
    ∙ row_bytes n bytes c.requires.some c.args.row l
