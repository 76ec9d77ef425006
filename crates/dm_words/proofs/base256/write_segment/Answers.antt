use Rattle.dm_words.proofs.Names.{◌≡◌, ℕ, ap, length, length-map, map, subst, take, arith, byte_of, length_numbers}
use Rattle.dm_words.proofs.Names.{one_segment}
use Rattle.dm_words.proofs.NormalForms.{length-one_segment, segment_held}
use Rattle.dm_words.proofs.base256.write_segment.Goals as goal

pub push_length-requires : goal.push_length-requires
push_length-requires c = record {
  room = omega arith;
  few = omega (
    arith,
    c.requires.fits,
    length-one_segment
        (map byte_of c.args.items.now),
    length-map c.args.items.now byte_of,
  );
  short = omega (arith, c.requires.short);
}

pub write_bytes-requires-clause-room : goal.write_bytes-requires-clause-room
write_bytes-requires-clause-room c =
    let many = length-map c.args.items.now byte_of in
    let numbers = ap (λ (n : ℕ). length (length_numbers n)) many in
    omega (arith, c.requires.fits, length-one_segment (map byte_of c.args.items.now), many, numbers)

pub returns : goal.returns
returns c =
    let bytes = map byte_of c.args.items.now in
    let many = length-map c.args.items.now byte_of in
    let numbers = ap (λ (n : ℕ). length (length_numbers n)) many in
    let long : c.write_bytes.new.held ≡ length (one_segment bytes) =
    omega (arith, length-one_segment bytes, many, numbers) in
    let counts = ap (λ (n : ℕ). length_numbers n) many in
    subst (λ (n : ℕ). take n c.write_bytes.new.words ≡ one_segment bytes) long
    (segment_held c.add.new.held c.push_length.new.held _ _ _ bytes c.add.ensures.added c.add.ensures.counted
    (rw counts c.push_length.ensures.added) (rw counts c.push_length.ensures.counted) c.write_bytes.ensures.added)
