use Rattle.ecc200_calls.proofs.Names.{◌≡◌, ◌≤◌, ◌+◌, ◌/◌, ◌^◌, ◌∙◌, ℕ, ap, arith, bit_and, length, length-put_chunk}
use Rattle.ecc200_calls.proofs.Names.{rest_more, unpacked_cells}
use Rattle.ecc200_calls.proofs.Unpacking.{behind_chunk, sixteen, written_more}
use Rattle.ecc200_calls.proofs.modules.unpack_on.Goals as goal

pub loop-column-preserved : goal.loop-column-preserved
loop-column-preserved c =
    let column = c.loop-column.column in
    let all = c.loop-column.all in
    let i = c.loop-column.invariant in
    let place = c.args.start + column in
    let stored = c.unpack_together.result in
    let room : place + 16 ≤ length all = omega (arith, c.loop-column-test.true, c.requires.room, i.count) in
    let part : stored ≡ unpacked_cells 16 (bit_and (c.args.cells / 2 ^ column) 65535) =
    c.unpack_together.ensures ∙ ap (λ (n : ℕ). unpacked_cells 16 (bit_and n 65535)) i.rest in
    let long : length stored ≡ 16 = sixteen stored (bit_and (c.args.cells / 2 ^ column) 65535) part in
    record {
      count = length-put_chunk place all stored ∙ i.count;
      written = written_more c.args.start column c.args.cells c.args.all.now all stored room part i.written;
      behind = behind_chunk place (c.args.start + c.args.width + 16) all stored (omega (arith, room, long))
          (omega (arith, long, c.loop-column-test.true)) ∙ i.behind;
      rest = rest_more c.args.cells column c.loop-column.rest i.rest;
      within = omega (arith, c.loop-column-test.true);
    }
