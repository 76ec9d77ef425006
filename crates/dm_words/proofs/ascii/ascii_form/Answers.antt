use Rattle.dm_words.proofs.Names.{◌≡◌, ◌∙◌, List, Bool, true, false, ap, sym, arith, length, at_drop_all, ◌||◌, Item}
use Rattle.dm_words.proofs.Names.{ascii}
use Rattle.dm_words.proofs.UnitLoops.{fnc1_end}
use Rattle.dm_words.proofs.ascii.ascii_form.Goals as goal

-- Once FNC1 is met, it is among the items.
met : (found here whole : Bool) → here ≡ true → (found || here) ≡ whole → true ≡ whole
met true here whole is so_far = so_far
met false here whole is so_far = sym is ∙ so_far

pub loop-at-preserved : goal.loop-at-preserved
loop-at-preserved c =
    let v = c.loop-at.invariant in
    let u = rw c.in-Fnc1.is at c.unit_at.ensures in
    record {
      in_range = omega (arith, c.loop-at-test.true);
      room = omega (arith, v.room);
      so_far = omega (arith, v.so_far, ap length u.0);
      has_fnc1 = met _ _ _ u.1 v.has_fnc1;
    }

pub returns-clause-length : goal.returns-clause-length
returns-clause-length c =
    omega (arith, at_drop_all (λ (r : List Item). length (ascii r)) c.args.items.now c.loop-at.at c.loop-at-test.false)

pub returns-clause-has_fnc1 : goal.returns-clause-has_fnc1
returns-clause-has_fnc1 c = fnc1_end _ _ _ c.loop-at-test.false c.loop-at.invariant.has_fnc1
