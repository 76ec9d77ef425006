use Rattle.dm_symbol.proofs.Names.{arith, refl, is_mark}
use Rattle.std.proofs.lemmas.List.{map_more}
use Rattle.dm_symbol.proofs.symbol.correction.marked_places.Goals as goal

pub loop-i-preserved : goal.loop-i-preserved
loop-i-preserved c =
    let more = map_more is_mark c.block-words.result.items c.loop-i.i 0 (omega (arith, c.len-i-end.ensures.value)) in
    rw (c.push.ensures.items, c.loop-i.invariant, c.deref.ensures.0, more) refl
