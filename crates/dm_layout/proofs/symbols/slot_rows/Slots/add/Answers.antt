use Rattle.dm_layout.proofs.Names.{◌∙◌, ◌/◌, ℕ, List, ap, arith, with_byte}
use Rattle.dm_layout.proofs.symbols.SlotPlaces.{slot_added}
use Rattle.dm_layout.proofs.symbols.slot_rows.Slots.add.Goals as goal

pub returns : goal.returns
returns g c =
    let n : ℕ = g.row.BYTES in
    let e = ap (λ (i : ℕ). i / n) c.self.told in
    slot_added n c.self.inside.bytes c.requires.some c.self.invariant c.args.slot (omega (arith, c.requires.row, e))
    c.args.byte c.ranges.byte.fits
    ∙ ap (λ (xs : List ℕ). with_byte n xs c.args.slot c.args.byte) c.self.view_is
