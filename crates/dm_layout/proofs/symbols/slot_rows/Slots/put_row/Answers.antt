use Rattle.dm_layout.proofs.Names.{◌∙◌, ◌≡◌, ◌/◌, ◌+◌, ◌-◌, ◌*◌, ℕ, List, set, ap, arith, put_mid, in_bytes}
use Rattle.dm_layout.proofs.Names.{slot_numbers, slot_rows}
use Rattle.dm_layout.proofs.symbols.SlotPlaces.{row_written}
use Rattle.dm_layout.proofs.symbols.slot_rows.Slots.put_row.Goals as goal

pub returns : goal.returns
returns g c =
    let n : ℕ = g.row.BYTES in
    let bytes = c.self.inside.bytes in
    let e = ap (λ (i : ℕ). i / n) c.self.told in
    let width : c.args.row * n + n - c.args.row * n ≡ n = omega arith in
    ap (λ (i : ℕ). slot_numbers (slot_rows n (put_mid (c.args.row * n) i bytes c.copy_from_slice.new.self))) width
    ∙ ap (λ (xs : List ℕ). slot_numbers (slot_rows n (put_mid (c.args.row * n) n bytes xs)))
    c.copy_from_slice.ensures.after
    ∙ row_written n bytes c.requires.some c.args.row c.args.bytes (omega (arith, c.requires.row, e)) c.requires.count
    ∙ ap (λ (xs : List ℕ). set xs c.args.row (in_bytes c.args.bytes)) c.self.view_is
