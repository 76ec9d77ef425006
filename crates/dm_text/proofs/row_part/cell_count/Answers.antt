use Rattle.std.proofs.Common.{◌≡◌, ◌∙◌, Bool, true, false, not, refl, eqb, bit_or}
use Rattle.std.specs.List.{prefix_len}
use Rattle.dm_text.proofs.row_part.cell_count.Goals as goal

not_not : (b : Bool) → not (not b) ≡ b
not_not true = refl
not_not false = refl

pub returns : goal.returns
returns c =
    c.lanes_before.ensures (λ b. not (eqb (bit_or b 1) 49)) c.args.block c.fits-block.0 c.other_bits.ensures
    ∙ (λ i. prefix_len (λ b. not_not (eqb (bit_or b 1) 49) i) c.args.block)
