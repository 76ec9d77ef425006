use Rattle.dm_layout.proofs.Names.{◌≡◌, inl, inr, ℕ, ◌+◌, ◌*◌, ◌%◌, ◌<◌, ◌≤◌, ◌&&◌, ◌∙◌, ap, refl, subst, arith}
use Rattle.dm_layout.proofs.Names.{SizeEntry, IsSize, most_rows, is_on_edge, edge_is_dark, look_in, whole_row}
use Rattle.dm_layout.proofs.Names.{is_dark_bit, common_steps}
use Rattle.dm_layout.specs.symbols.inner.RowDrawing.{drawn_colour}
use Rattle.dm_layout.proofs.symbols.DrawnRows.{drawn_to, edge_line}
use Rattle.dm_layout.proofs.symbols.Sizes.{region_within}
use Rattle.dm_layout.proofs.symbols.TableEntries.{size_facts}
use Rattle.dm_layout.proofs.symbols.drawing.draw_regions.Goals as goal
use Rattle.dm_layout.proofs.symbols.drawing.draw_regions.Goals.{After-last-last}

-- What is known of a row of regions, whose borders have so many rows.
record AreRows (s : SizeEntry) (region last : ℕ) : Type 0 where
  entry : IsSize s
  last_is : last ≡ s.region_rows + 1
  row : region * (last + 1) ≡ region * (s.region_rows + 2)
  next : (region + 1) * (s.region_rows + 2) ≡ region * (s.region_rows + 2) + (s.region_rows + 2)
  within : region * (s.region_rows + 2) + (s.region_rows + 2) ≤ s.rows
  few : s.rows ≤ most_rows

facts : (g : _) (c : After-last-last g) → AreRows c.args.size c.args.region c.last-last.result
facts g c =
    let s : SizeEntry = c.args.size in
    let entry : IsSize s = subst IsSize c.requires.borders c.last-last.ensures.size in
    let is = c.last-last.ensures.value ∙ ap (λ (s : SizeEntry). s.region_rows + 1) c.requires.borders in
    let same : c.last-last.result + 1 ≡ s.region_rows + 2 = omega (arith, is) in
    let w = region_within s c.args.region entry c.requires.region in
    record {
      entry = entry;
      last_is = is;
      row = ap (λ (i : ℕ). c.args.region * i) same;
      next = omega arith;
      within = omega (arith, w);
      few = (size_facts s entry).rows_fit;
    }

-- What is known of the borders is known of the size.
edges_of : (s t : SizeEntry) (inner dark : ℕ) → s ≡ t →
    ((k : ℕ) → k < s.columns → is_dark_bit dark k ≡ (is_on_edge s.region_rows s.region_columns inner
    (k % (s.region_columns + 2)) && edge_is_dark s.region_rows inner (k % (s.region_columns + 2)))) →
    (k : ℕ) → k < t.columns → is_dark_bit dark k ≡ (is_on_edge t.region_rows t.region_columns inner
    (k % (t.region_columns + 2)) && edge_is_dark t.region_rows inner (k % (t.region_columns + 2)))
edges_of s t inner dark e is =
    rw e at is

pub overflow_mul-first : goal.overflow_mul-first
overflow_mul-first g c = let k = facts g (goal.at.overflow_mul-first g c).After-last-last in omega arith

pub put_line-requires : goal.put_line-requires
put_line-requires g c =
    let k = facts g (goal.at.put_line-requires g c).After-last-last in
    record { entry = k.entry; row = omega arith; lines = c.requires.lines; ends = c.requires.ends }

pub loop-inner-init : goal.loop-inner-init
loop-inner-init g c =
    let k = facts g (goal.at.loop-inner-init g c).After-last-last in
    let look = λ (i j : ℕ). look_in (g.R.BitRows.numbers c.args.rows.now) (i + 2) (j + 4) in
    record {
      lines = c.put_line.ensures.lines;
      ends = c.put_line.ensures.ends;
      drawn =
          drawn_to _ c.dark-cells.type_inv.1.1.0.1 c.requires.above (omega arith) (omega arith) (omega arith) refl
          c.put_line.ensures.modules
          (edge_line c.args.size look c.args.region 0 _ _ (omega arith) (inr (omega arith)) (omega arith)
          (edges_of c.args.borders.now c.args.size 0 (whole_row c.dark-cells.result.0 c.dark-cells.result.1)
          c.requires.borders c.dark-cells.ensures.cells))
          c.put_line.ensures.first c.put_line.ensures.behind c.put_line.ensures.others;
    }

pub put_line-requires-in-loop-inner : goal.put_line-requires-in-loop-inner
put_line-requires-in-loop-inner g c =
    let k = facts g (goal.at.put_line-requires-in-loop-inner g c).After-last-last in
    record {
      entry = k.entry;
      row = omega (arith, c.loop-inner-test.true);
      lines = omega (arith, c.requires.lines, c.loop-inner.invariant.lines);
      ends = omega (arith, c.requires.ends, c.loop-inner.invariant.ends);
    }

pub loop-inner-preserved : goal.loop-inner-preserved
loop-inner-preserved g c =
    let k = facts g (goal.at.loop-inner-preserved g c).After-last-last in
    let look = λ (i j : ℕ). look_in (g.R.BitRows.numbers c.args.rows.now) (i + 2) (j + 4) in
    let e : c.args.region * (c.args.size.region_rows + 2) + c.loop-inner.inner ≡
    c.args.region * (c.last-last.result + 1) + c.loop-inner.inner = omega arith in
    record {
      lines = c.put_line-in-loop-inner.ensures.lines ∙ c.loop-inner.invariant.lines;
      ends = c.put_line-in-loop-inner.ensures.ends ∙ c.loop-inner.invariant.ends;
      drawn =
          drawn_to _ c.drawn_row-cells.type_inv.1.1.0.1 c.loop-inner.invariant.drawn e (omega arith)
          (omega (arith, c.loop-inner-test.true)) refl c.put_line-in-loop-inner.ensures.modules
          (λ k lk. c.drawn_row-cells.ensures k lk ∙ ap (λ (i : ℕ). drawn_colour c.args.size look i k) e)
          c.put_line-in-loop-inner.ensures.first c.put_line-in-loop-inner.ensures.behind
          c.put_line-in-loop-inner.ensures.others;
    }

pub overflow_add-first-2 : goal.overflow_add-first-2
overflow_add-first-2 g c = let k = facts g (goal.at.overflow_add-first-2 g c).After-last-last in omega arith

pub put_line-requires-2 : goal.put_line-requires-2
put_line-requires-2 g c =
    let k = facts g (goal.at.put_line-requires-2 g c).After-last-last in
    record {
      entry = k.entry;
      row = omega arith;
      lines = omega (arith, c.requires.lines, c.loop-inner.invariant.lines);
      ends = omega (arith, c.requires.ends, c.loop-inner.invariant.ends);
    }

pub returns-clause-drawn : goal.returns-clause-drawn
returns-clause-drawn g c =
    let k = facts g (goal.at.returns-clause-drawn g c).After-last-last in
    let look = λ (i j : ℕ). look_in (g.R.BitRows.numbers c.args.rows.now) (i + 2) (j + 4) in
    let n : ℕ = c.last-last.result in
    let here : c.loop-inner.inner ≡ n = omega (arith, c.loop-inner-test.false, c.loop-inner.auto.inner-end) in
    drawn_to _ c.dark-cells-2.type_inv.1.1.0.1 c.loop-inner.invariant.drawn (omega arith) (omega arith) (omega arith)
    refl c.put_line-2.ensures.modules
    (edge_line c.args.size look c.args.region n _ _ (omega arith) (inl k.last_is) (omega arith)
    (edges_of c.args.borders.now c.args.size n (whole_row c.dark-cells-2.result.0 c.dark-cells-2.result.1)
    c.requires.borders c.dark-cells-2.ensures.cells))
    c.put_line-2.ensures.first c.put_line-2.ensures.behind c.put_line-2.ensures.others

pub overflow_add-first-in-loop-inner : goal.overflow_add-first-in-loop-inner
overflow_add-first-in-loop-inner g c = grind (arith, common_steps)
