use Rattle.ecc200_calls.proofs.Names.{refl, ◌≡◌, ◌<◌, ◌≤◌, ◌*◌, ◌+◌, ◌∙◌, arith, length, length-set, mul-le-mul_right}
use Rattle.ecc200_calls.proofs.Names.{structure_place}
use Rattle.ecc200_calls.proofs.Structure.{module_put, module_kept}
use Rattle.ecc200_calls.proofs.place_table.put_structure_row.Goals as goal

pub loop-column-preserved : goal.loop-column-preserved
loop-column-preserved c =
    let i = c.loop-column.invariant in
    let s = c.args.size in
    let row = c.args.row in
    let column = c.loop-column.column in
    let start = c.from.result * c.from-2.result in
    let start_is : start ≡ row * s.columns = rw (c.from.ensures, c.from-2.ensures, c.columns.ensures.value) refl in
    let above : (row + 1) * s.columns ≤ s.rows * s.columns =
    mul-le-mul_right s.columns (omega (arith, c.requires.row)) in
    let inside : start + column < length c.loop-column.places =
    omega (
      arith,
      start_is,
      above,
      c.requires.room,
      i.room,
      c.loop-column-test.true,
      c.columns-column-end.ensures.value,
    ) in
    rw (c.from-in-loop-column.ensures, c.structure_place.ensures)
    (record {
      put = module_put c.loop-column.places start column (structure_place s row) inside i.put;
      before =
          λ j l. module_kept c.args.places.now c.loop-column.places (start + column) j (structure_place s row column)
          (λ e. omega (arith, e, l)) (i.before j l);
      behind =
          λ j l. module_kept c.args.places.now c.loop-column.places (start + column) j (structure_place s row column)
          (λ e. omega (arith, e, l)) (i.behind j (omega (arith, l)));
      room = length-set c.loop-column.places (start + column) (structure_place s row column) ∙ i.room;
    })
