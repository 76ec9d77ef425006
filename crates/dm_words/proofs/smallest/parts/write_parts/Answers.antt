use Rattle.dm_words.proofs.Names.{◌≡◌, ◌+◌, ◌-◌, ◌++◌, List, length, take, drop, subst, arith, drop_all, take-add}
use Rattle.dm_words.proofs.Names.{Extent}
use Rattle.dm_words.proofs.Names.{Usual, Item, IsPartWritten, ArePartsWritten, parts_cost, nat_tests}
use Rattle.std.proofs.lemmas.Bool.{and_parts}
use Rattle.dm_words.proofs.CostsMet.{nothing_costs}
use Rattle.dm_words.proofs.PartsWritten.{no_parts, parts_more}
use Rattle.dm_words.proofs.SignParts.{passes_on, passes_all}
use Rattle.dm_words.proofs.smallest.parts.write_parts.Goals as goal

pub loop-at-init : goal.loop-at-init
loop-at-init c = record {
  within = omega arith;
  budget = c.requires.budget;
  parts = no_parts c.args.setting.extent (length c.args.words.now) (take c.args.held.now c.args.words.now);
  usual = λ all. no_parts Usual (length c.args.words.now) (take c.args.held.now c.args.words.now);
  sign = λ after k. k;
}

pub loop-at-preserved : goal.loop-at-preserved
loop-at-preserved c =
    let m = c.args.items.now in
    let at = c.loop-at.at in
    let next = c.write_part-part.result.next in
    let w = c.write_part-part.ensures in
    let base = take c.args.held.now c.args.words.now in
    let old = take c.loop-at.held c.loop-at.words in
    let new = take c.write_part-part.new.held c.write_part-part.new.words in
    let total = length c.args.words.now in
    let same : length c.loop-at.words ≡ total = omega arith in
    let sum : at + (next - at) ≡ next = omega (arith, w.further) in
    let more : take at m ++ take (next - at) (drop at m) ≡ take next m = cc (take-add at (next - at) m) in
    let joined = λ (e : Extent) (before : ArePartsWritten e total base old (take at m))
    (part : IsPartWritten e (length c.loop-at.words) old new (take (next - at) (drop at m))). subst
    (λ (l : List Item). ArePartsWritten e total base new l) more
    (parts_more e _ _ _ _ _ _ before (rw same at part)) in
    record {
      within = w.within;
      budget = omega (arith, w.budget);
      parts = joined c.args.setting.extent c.loop-at.invariant.parts w.part;
      usual = λ all.
          (let each = and_parts c.loop-at.are_usual c.write_part-part.result.is_usual all in
          joined Usual (c.loop-at.invariant.usual each.0) (w.usual each.1));
      sign = passes_on base old _ w.part.part m (drop at m) (drop next m) w.part.whole c.loop-at.invariant.sign w.sign;
    }

pub returns-clause-fits : goal.returns-clause-fits
returns-clause-fits c = grind (arith, nat_tests, parts_cost, drop_all, nothing_costs)

pub returns-clause-sign : goal.returns-clause-sign
returns-clause-sign c = grind (arith, nat_tests, passes_all, drop_all)
