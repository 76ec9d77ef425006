use Rattle.dm_layout.proofs.Names.{ℕ, ◌||◌, Bool, ap, ◌∙◌, arith, scattered, folded, corner_marks, look_in}
use Rattle.dm_layout.proofs.Names.{reversed_bits, slot_byte}
use Rattle.dm_layout.proofs.symbols.FoldedRows.{folded_same}
use Rattle.dm_layout.proofs.symbols.SlotRows.{corner_slot_is}
use Rattle.dm_layout.proofs.symbols.laying.lay_slots.Goals as goal

pub returns-clause-cells : goal.returns-clause-cells
returns-clause-cells g c = λ r q lr lq.
    let R : ℕ = c.args.height in
    let C : ℕ = c.args.columns in
    let rows = g.R.BitRows.numbers in
    let slots = g.R.BitRows.joined c.args.slots.now in
    c.put_corner.ensures.cells r q
    ∙ ap (λ (t : Bool). t || corner_marks R C c.codeword.result r q)
    (c.fold.ensures.cells r q lr lq ∙ folded_same R C g.R.BitRows.width (look_in (rows c.scatter.new.rows))
    (scattered R slots) r q lq (omega (arith, c.requires.wide, g.met.R.BitRows.fits.1)) c.scatter.ensures.cells)
    ∙ ap (λ (w : ℕ). folded R C (scattered R slots) r q || corner_marks R C w r q) (c.codeword.ensures
    ∙ ap (λ (x : ℕ). reversed_bits (slot_byte g.R.BitRows.bytes slots x)) c.corner.ensures
    ∙ ap reversed_bits (corner_slot_is g.R.BitRows.bytes g.R.BitRows.most slots
    (omega (arith, g.met.R.BitRows.fits.1, g.met.R.BitRows.whole))))
