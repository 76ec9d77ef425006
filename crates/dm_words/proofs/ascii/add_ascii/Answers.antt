use Rattle.dm_words.proofs.Names.{List, take, length, arith, nat_tests, at_drop_all, Item, ascii}
use Rattle.dm_words.proofs.UnitLoops.{has_unit, unit_added, unit_length, units_end, fnc1_turn, fnc1_end}
use Rattle.dm_words.proofs.ascii.add_ascii.Goals as goal

pub write_unit-at-requires : goal.write_unit-at-requires
write_unit-at-requires c =
    let h = has_unit c.unit_at-unit.result c.args.items.now c.loop-at.at c.loop-at-test.true c.unit_at-unit.ensures in
    omega (arith, unit_length _ _ _ h, c.loop-at.invariant.counted)

pub loop-at-preserved : goal.loop-at-preserved
loop-at-preserved c =
    let h = has_unit c.unit_at-unit.result c.args.items.now c.loop-at.at c.loop-at-test.true c.unit_at-unit.ensures in
    let v = c.loop-at.invariant in
    let e = c.write_unit-at.ensures in
    record {
      in_range = rw e.item_count h.within;
      counted = rw e.item_count (omega (arith, unit_length _ _ _ h, v.counted, e.counted));
      so_far = rw e.item_count (unit_added _ _ _ _ (take c.loop-at.held c.loop-at.words) _ h v.so_far e.words);
      has_fnc1 = rw e.item_count (fnc1_turn _ _ _ c.loop-at.has_fnc1 _ h c.is_fnc1-has_fnc1.ensures v.has_fnc1);
    }

pub loop-at-smaller : goal.loop-at-smaller
loop-at-smaller c = grind (arith, nat_tests, has_unit)

pub returns-clause-words : goal.returns-clause-words
returns-clause-words c = units_end _ _ _ _ c.loop-at-test.false c.loop-at.invariant.so_far

pub returns-clause-counted : goal.returns-clause-counted
returns-clause-counted c =
    omega (
      arith,
      c.loop-at.invariant.counted,
      at_drop_all (λ (r : List Item). length (ascii r)) c.args.items.now c.loop-at.at c.loop-at-test.false,
    )

pub returns-clause-has_fnc1 : goal.returns-clause-has_fnc1
returns-clause-has_fnc1 c = fnc1_end _ _ _ c.loop-at-test.false c.loop-at.invariant.has_fnc1
