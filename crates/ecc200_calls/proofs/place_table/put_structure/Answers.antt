use Rattle.ecc200_calls.proofs.Names.{◌≤◌, ◌*◌, ◌+◌, ◌∙◌, arith, mul-le-mul_right, structure_place}
use Rattle.ecc200_calls.proofs.Structure.{row_put}
use Rattle.ecc200_calls.proofs.place_table.put_structure.Goals as goal

pub loop-row-preserved : goal.loop-row-preserved
loop-row-preserved c =
    let i = c.loop-row.invariant in
    let s = c.args.size in
    let row = c.loop-row.row in
    let e = c.put_structure_row.ensures in
    record {
      put =
          row_put c.loop-row.places c.put_structure_row.new.places
          row s.columns (structure_place s) e.put e.before i.put;
      behind = λ j l. let room : row * s.columns ≤ (row + 1) * s.columns = mul-le-mul_right s.columns (omega arith) in
          e.behind j l ∙ i.behind j (omega (arith, room, l));
      room = c.put_structure_row.auto.places ∙ i.room;
      rows = i.rows;
    }
