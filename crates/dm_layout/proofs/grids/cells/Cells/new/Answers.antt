use Rattle.dm_layout.proofs.Names.{◌≡◌, ℕ, arith, ap, ◌∙◌, sym, subst, List, SizeRow, IsRow, Cell, Shape, places_from}
use Rattle.dm_place.specs.Placement as general
use Rattle.dm_place.specs.Sides.{SidesAreSafe}
use Rattle.dm_layout.specs.Placement.{shapes}
use Rattle.dm_layout.specs.inner.Walking.{CellsAreSafe}
use Rattle.dm_layout.proofs.PlacementRows.{facts_at_row}
use Rattle.dm_layout.proofs.TableRows.{row_facts}
use Rattle.dm_layout.proofs.grids.cells.Cells.new.Goals as goal

-- The iterator is safe before its first place.
safe_at_first : (s : SizeRow) (m : ℕ) (ss : List Shape) (cells : List Cell) → IsRow s → m ≡ s.mapping → ss ≡ shapes m →
    CellsAreSafe m cells 0 8 ss
safe_at_first s m ss cells row e f =
    let facts = row_facts s row in
    let here = facts_at_row s row in
    let g : ss ≡ shapes s.mapping = f ∙ ap shapes e in
    subst (λ (k : ℕ). CellsAreSafe k cells 0 8 ss) (sym e)
    (subst (CellsAreSafe s.mapping cells 0 8) (sym g)
    (record {
      low = facts.mapping_least;
      small = facts.mapping_most;
      within = omega arith;
      begun = λ h. omega arith;
      room = omega (arith, here.counted, facts.codewords);
      inside = here.inside;
    }))

pub new-requires : goal.new-requires
new-requires c =
    let e = c.mapping-mapping.ensures.value in
    let safe = (facts_at_row c.args.size c.mapping-mapping.ensures.row).safe in
    subst (λ (k : ℕ). SidesAreSafe k k) (sym e) safe

pub invariant_of-result : goal.invariant_of-result
invariant_of-result c =
    safe_at_first c.args.size _ _ _ c.mapping-mapping.ensures.row c.mapping-mapping.ensures.value c.new.ensures

pub returns : goal.returns
unfolding general.places_in_order
returns c =
    let e = c.mapping-mapping.ensures.value in
    ap (places_from c.mapping-mapping.result 0) c.new.ensures ∙ ap (λ (k : ℕ). places_from k 0 (shapes k)) e
