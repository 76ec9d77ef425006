use Rattle.ecc200_calls.proofs.Names.{◌≡◌, arith, length, length-take, refl, take}
use Rattle.ecc200_calls.proofs.inspection.find_designators.Goals as goal

pub returns : goal.returns
returns g c =
    let found = take c.designations_to-count.result c.designations_to-count.new.marks in
    let long : length found ≡ c.designations_to-count.result =
    omega (
      arith,
      length-take c.designations_to-count.result c.designations_to-count.new.marks,
      c.designations_to-count.ensures.within,
    ) in
    record {
      marks = found;
      are_designations = c.designations_to-count.ensures.found;
      shown = rw (c.put_marks.ensures, long) refl;
    }
