use Rattle.dm_words.proofs.Names.{◌<◌, length, ap, arith, Fnc1, nat_tests}
use Rattle.dm_words.proofs.Segments.{byte_items-length}
use Rattle.dm_words.proofs.Frames.{byte_at, bytes_so_far}
use Rattle.dm_words.proofs.macros.are_bytes.Goals as goal

pub returns-then-items-bytes-clause-no : goal.returns-then-items-bytes-clause-no
returns-then-items-bytes-clause-no c =
    λ e. absurd (omega (arith, c.if-items-bytes.true, ap length e, byte_items-length c.args.bytes.now))

pub returns-then-not-is_byte-clause-no : goal.returns-then-not-is_byte-clause-no
returns-then-not-is_byte-clause-no c = grind (arith, nat_tests, byte_at)

pub loop-i-preserved : goal.loop-i-preserved
loop-i-preserved c =
    let v = c.loop-i.invariant in
    let lt : c.loop-i.i < length c.args.bytes.now = omega (arith, c.loop-i-test.true) in
    record {
      long = v.long;
      so_far = bytes_so_far c.args.items.now c.args.bytes.now c.loop-i.i Fnc1 (omega (arith, lt, v.long)) lt
          v.so_far (c.is_byte.ensures.yes c.if-not-is_byte.false);
    }
