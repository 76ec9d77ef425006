use Rattle.std.proofs.Common.{◌∙◌, not, map, replicate, ap, w8, eqb, bit_or, arith}
use Rattle.std.specs.Simd.Lanes.{mask_l}
use Rattle.std.proofs.lemmas.Simd.{bitmask_splat, length-zip2, zip2_splat, map-map}
use lib.Lanes.{zip2}
use Rattle.dm_text.proofs.row_part.other_bits.Goals as goal

pub returns : goal.returns
returns c =
    let block = c.args.block in
    let ored = zip2 bit_or block (replicate 32 1) in
    bitmask_splat w8 (λ x y. not (eqb x y)) ored 32 49 (length-zip2 bit_or block (replicate 32 1) c.fits-block.0
    ∙ c.fits-block.0) (omega arith)
    ∙ ap (λ l. mask_l (map (λ x. not (eqb x 49)) l)) (zip2_splat bit_or block 32 1 c.fits-block.0)
    ∙ ap mask_l (map-map (λ x. not (eqb x 49)) (λ x. bit_or x 1) block)
