use Rattle.ecc200_calls.proofs.Names.{◌≡◌, ◌≤◌, ◌∙◌, ℕ, List, length, Some, refl, sym, ap, subst, arith, rules, IsNone}
use Rattle.ecc200_calls.proofs.Names.{SizeEntry, IsSize, area, entry_with, most_modules, size_facts, PlaceOut, modules}
use Rattle.ecc200_calls.proofs.Names.{no_places, no_size}
use Rattle.ecc200_calls.specs.declared.fault.Fault.{Fault}
use Rattle.ecc200_calls.proofs.OfGiven.{sides_found}
use Rattle.ecc200_calls.proofs.Bits.{behind_stays, places_are}
use Rattle.ecc200_calls.proofs.place_table.places.Goals.{in-Some, in-None}
use Rattle.ecc200_calls.proofs.place_table.places.Goals as goal

-- The size that is found for rows and columns stands in the table.
found_size : (rows columns : ℕ) (size : SizeEntry) → entry_with rows columns ≡ Some size → IsSize size
found_size rows columns size h = let sides = sides_found rows columns size h in rw (← sides.0, ← sides.1) at h

-- There is room for its modules.
fits : (rows columns : ℕ) (size : SizeEntry) (places : List PlaceOut) → entry_with rows columns ≡ Some size
    → length places ≡ most_modules → area size ≤ length places
fits rows columns size places h long = omega (arith, (size_facts size (found_size rows columns size h)).modules)

pub put_structure-requires : goal.put_structure-requires
put_structure-requires c = fits c.args.rows c.args.columns _ _ (sym c.in-Some.ensures) (search rules)

pub put_bits-requires : goal.put_bits-requires
put_bits-requires c =
    fits c.args.rows c.args.columns _ _ (sym c.in-Some.ensures) (c.put_structure.auto.places ∙ search rules)

pub returns-clause-out : goal.returns-clause-out
returns-clause-out c = elim c.match-of.branch [
  | in-Some w ↦
      let size = w.in-Some.size in
      let found : entry_with c.args.rows c.args.columns ≡ Some size = sym w.in-Some.ensures in
      let entry = found_size c.args.rows c.args.columns size found in
      let room = fits c.args.rows c.args.columns size w.put_structure.new.places found
      (w.put_structure.auto.places ∙ search rules) in
      let bits = ap (λ o. o.places) w.out-is ∙ w.put_bits.ensures in
      modules size found (ap (λ o. o.fault) w.out-is ∙ w.none-out.ensures) (ap (λ o. o.rows) w.out-is)
      (ap (λ o. o.columns) w.out-is) (places_are size _ _ entry room w.put_structure.ensures.put bits)
      (λ i l. behind_stays size _ _ i entry l bits ∙ w.put_structure.ensures.behind i l)
  | in-None w ↦ no_size (subst IsNone (sym w.in-None.is ∙ c.of.ensures) refl)
      (w.out-is ∙ ap (λ (f : Fault). no_places f c.args.out.now) w.no_such_size-out.ensures)
]
