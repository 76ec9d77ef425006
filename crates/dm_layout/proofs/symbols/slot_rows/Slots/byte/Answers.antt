use Rattle.dm_layout.proofs.Names.{◌∙◌, ◌/◌, ℕ, List, ap, arith, slot_byte}
use Rattle.dm_layout.proofs.symbols.SlotPlaces.{slot_read}
use Rattle.dm_layout.proofs.symbols.slot_rows.Slots.byte.Goals as goal

pub returns : goal.returns
returns g c =
    let n : ℕ = g.row.BYTES in
    let e = ap (λ (i : ℕ). i / n) c.self.told in
    slot_read n c.self.inside.bytes c.requires.some c.self.invariant c.args.slot (omega (arith, c.requires.row, e))
    ∙ ap (λ (xs : List ℕ). slot_byte n xs c.args.slot) c.self.view_is
