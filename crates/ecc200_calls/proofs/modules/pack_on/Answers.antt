use Rattle.ecc200_calls.proofs.Names.{◌≡◌, ◌<◌, ◌≤◌, ◌+◌, ◌*◌, ◌%◌, ◌^◌, ◌∙◌, arith, ap, bit_or, is_dark_bit, is_dark}
use Rattle.ecc200_calls.proofs.Packing.{together_is, together_more, together_small, rest_at}
use Rattle.ecc200_calls.proofs.modules.pack_on.Goals as goal

pub loop-column-preserved : goal.loop-column-preserved
loop-column-preserved c =
    let row = c.loop-column.row in
    let column = c.loop-column.column in
    let next = c.from.result in
    let modules = c.args.modules.now in
    let i = c.loop-column.invariant in
    let low : column ≤ 112 = omega (arith, c.loop-column-test.true, c.requires.few, i.multiple) in
    let few : next < 2 ^ 16 = omega (arith, c.from.ensures, c.pack_together.type_inv) in
    let sum : bit_or row (next * 2 ^ column % 2 ^ 128) ≡ next * 2 ^ column + row =
    together_is row next column low i.small few in
    record {
      before =
          rw sum (together_more modules row next column c.args.across i.small i.before (λ k l w.
          ap (λ n. is_dark_bit n k) c.from.ensures
          ∙ c.pack_together.ensures k l (rest_at modules column k 0 (omega (arith, w, c.requires.there))).0
          ∙ ap is_dark (rest_at modules column k 0 (omega (arith, w, c.requires.there))).1));
      small =
          rw sum (together_small row next column i.small few);
      multiple = omega (arith, i.multiple);
      within = omega (arith, c.loop-column-test.true);
    }
