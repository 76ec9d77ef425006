use Rattle.dm_layout.proofs.Names.{◌≡◌, ℕ, ◌+◌, ◌-◌, ◌<◌, List, length, get_or, ap, sym, ◌∙◌, subst, refl, arith, rules}
use Rattle.dm_layout.proofs.Names.{length-set, length-replicate, EachCellOnce, places_in_order, once_at_sides}
use Rattle.dm_layout.proofs.Names.{codeword_count, mapping_rows, mapping_columns, look_in, order_of, HasSlot}
use Rattle.dm_layout.proofs.symbols.Exported.{placed_size}
use Rattle.dm_layout.proofs.symbols.LaidWords.{laid_first, laid_more, laid_all}
use Rattle.dm_layout.proofs.symbols.Painting.{marks, marks_bit, marks_no_fixed}
use Rattle.dm_layout.proofs.symbols.SlotOrder.{AreKnown, AreParts, known, parts_at_size}
use Rattle.dm_layout.proofs.symbols.mapping.paint.Goals as goal
use Rattle.dm_layout.proofs.symbols.mapping.paint.Goals.{After-order-order}

-- What is known of the slots, and of the parts of their order.
facts : (g : _) (c : After-order-order g) →
    AreKnown c.args.size c.mapping_rows-height.result c.mapping_columns-columns.result g.R.BitRows.bytes
    g.R.BitRows.most (order_of c.mapping_rows-height.result c.mapping_columns-columns.result)
    × AreParts (order_of c.mapping_rows-height.result c.mapping_columns-columns.result)
    c.order-order.result.first.now c.order-order.result.rest.now c.order-order.result.less
facts g c =
    let rows = c.mapping_rows-height.ensures in
    let columns = c.mapping_columns-columns.ensures.value in
    let order = c.order-order.ensures in (
      known _ _ _ _ _ _ rows.size c.requires.slots c.requires.room rows.value columns refl,
      parts_at_size _ _ _ _ _ _ rows.size rows.value columns order.first order.rest order.less,
    )

pub loop-i-init : goal.loop-i-init
loop-i-init g c = record {
  count = ap length c.empty-slots.ensures ∙ length-replicate {A = ℕ} (g.R.BitRows.most + 1) 0;
  so_far =
      laid_first g.R.BitRows.most c.mapping_rows-height.result c.mapping_columns-columns.result (g.R.BitRows.most + 1)
      c.args.words.now (g.R.BitRows.joined c.empty-slots.result) c.empty-slots.ensures;
}

pub bounds-words-i : goal.bounds-words-i
bounds-words-i g c =
    let (n, p) = facts g (goal.at.bounds-words-i g c).After-order-order in
    omega (arith, n.count, p.count, c.requires.count, c.loop-i-test.true)

pub add-requires : goal.add-requires
add-requires g c =
    let (n, p) = facts g (goal.at.add-requires g c).After-order-order in
    rw (p.early c.loop-i.i c.loop-i-test.true) at (n.each c.loop-i.i (omega (arith, p.count, c.loop-i-test.true)))

pub loop-i-preserved : goal.loop-i-preserved
loop-i-preserved g c =
    let m : ℕ = c.mapping_rows-height.result in
    let k : ℕ = c.mapping_columns-columns.result in
    let words : List ℕ = c.args.words.now in
    let bytes : ℕ = g.R.BitRows.bytes in
    let most : ℕ = g.R.BitRows.most in
    let (n, p) = facts g (goal.at.loop-i-preserved g c).After-order-order in
    let slots = g.R.BitRows.joined c.loop-i.slots in
    record {
      count = ap length c.add.ensures ∙ length-set slots _ _ ∙ c.loop-i.invariant.count;
      so_far =
          rw (← c.add.ensures) at (laid_more bytes most m k c.loop-i.i (get_or c.order-order.result.first.now c.loop-i.i
          0) c.reverse.result words slots n.room.least_rows n.room.least_columns n.room.rows n.room.slots
          n.room.even_rows n.room.even_columns (omega (arith, c.loop-i.invariant.count)) (omega (
            arith,
            c.type_inv.words
                c.loop-i.i,
          )) n.fits (omega (arith, n.count, n.shape_count, p.count, c.loop-i-test.true)) (sym (p.early
          c.loop-i.i c.loop-i-test.true) ∙ ap (λ (xs : List ℕ). get_or xs c.loop-i.i 0) n.slots) c.reverse.ensures
          c.loop-i.invariant.so_far);
    }

pub loop-j-init : goal.loop-j-init
loop-j-init g c =
    let end : c.loop-i.i ≡ length c.order-order.result.first.now + 0 =
    omega (arith, c.loop-i.auto.i-end, c.loop-i-test.false) in
    record {
      count = c.loop-i.invariant.count;
      so_far =
          rw end at c.loop-i.invariant.so_far;
    }

pub overflow_sub-slot : goal.overflow_sub-slot
overflow_sub-slot g c =
    let p = (facts g (goal.at.overflow_sub-slot g c).After-order-order).1 in
    p.least c.loop-j.j c.loop-j-test.true

pub bounds-words-count : goal.bounds-words-count
bounds-words-count g c =
    let (n, p) = facts g (goal.at.bounds-words-count g c).After-order-order in
    omega (arith, n.count, p.count, c.requires.count, c.loop-j-test.true)

pub add-requires-in-loop-j : goal.add-requires-in-loop-j
add-requires-in-loop-j g c =
    let (n, p) = facts g (goal.at.add-requires-in-loop-j g c).After-order-order in
    subst (HasSlot g.R.BitRows.bytes g.R.BitRows.most) (p.late c.loop-j.j c.loop-j-test.true)
    (n.each (length c.order-order.result.first.now + c.loop-j.j) (omega (arith, p.count, c.loop-j-test.true)))

pub loop-j-preserved : goal.loop-j-preserved
loop-j-preserved g c =
    let m : ℕ = c.mapping_rows-height.result in
    let k : ℕ = c.mapping_columns-columns.result in
    let words : List ℕ = c.args.words.now in
    let bytes : ℕ = g.R.BitRows.bytes in
    let most : ℕ = g.R.BitRows.most in
    let (n, p) = facts g (goal.at.loop-j-preserved g c).After-order-order in
    let slots = g.R.BitRows.joined c.loop-j.slots in
    let i : ℕ = length c.order-order.result.first.now + c.loop-j.j in
    let next : i + 1 ≡ length c.order-order.result.first.now + (c.loop-j.j + 1) = omega arith in
    record {
      count = ap length c.add-in-loop-j.ensures ∙ length-set slots _ _ ∙ c.loop-j.invariant.count;
      so_far =
          rw (← c.add-in-loop-j.ensures, next) at (laid_more bytes most m k i (get_or c.order-order.result.rest.now
          c.loop-j.j 0 - c.order-order.result.less) c.reverse-in-loop-j.result words slots n.room.least_rows
          n.room.least_columns n.room.rows n.room.slots n.room.even_rows n.room.even_columns (omega (
            arith,
            c.loop-j.invariant.count,
          )) (omega (arith, c.type_inv.words i)) n.fits (omega (
            arith,
            n.count,
            n.shape_count,
            p.count,
            c.loop-j-test.true,
          )) (sym (p.late c.loop-j.j c.loop-j-test.true) ∙ ap (λ (xs : List ℕ). get_or xs i
          0) n.slots) c.reverse-in-loop-j.ensures c.loop-j.invariant.so_far);
    }

pub lay_slots-requires : goal.lay_slots-requires
lay_slots-requires g c =
    let room = (facts g (goal.at.lay_slots-requires g c).After-order-order).0.room in
    record {
      light = search rules;
      some = room.least_rows;
      least = room.least_columns;
      high = room.rows;
      wide = room.columns;
      even_rows = room.even_rows;
      even_columns = room.even_columns;
    }

pub returns : goal.returns
returns g c = record {
  room = c.lay_slots.ensures.room;
  bits = λ w b cell p.
      let here = law.inside w b cell p in
      painted cell.row cell.column here.0 here.1 ∙ marks_bit R C words w b cell law p;
  fixed = λ r q lr lq e. painted r q lr lq ∙ marks_no_fixed R C words r q law e;
}
  where
    words : List ℕ
    words = c.args.words.now

    R : ℕ
    R = mapping_rows c.args.size

    C : ℕ
    C = mapping_columns c.args.size

    law : EachCellOnce R C
    law = once_at_sides R C (codeword_count c.args.size) (placed_size c.args.size c.mapping_rows-height.ensures.size)

    -- The painted rows are dark where the codewords' bits are 1.
    painted : (r q : ℕ) → r < R → q < C →
        look_in (g.R.BitRows.numbers c.lay_slots.new.rows) (r + 2) (q + 4) ≡ marks words (places_in_order R C) r q
    painted r q lr lq =
        let m : ℕ = c.mapping_rows-height.result in
        let k : ℕ = c.mapping_columns-columns.result in
        let (n, p) = facts g (goal.at.returns g c).After-order-order in
        let i : r < m = omega (arith, n.high, lr) in
        let j : q < k = omega (arith, n.wide, lq) in
        c.lay_slots.ensures.cells r q i j
        ∙ laid_all g.R.BitRows.most m k (length c.order-order.result.first.now + c.loop-j.j) words
        (g.R.BitRows.joined c.loop-j.slots)
        (omega (arith, n.count, n.shape_count, p.count, c.loop-j-test.false))
        c.loop-j.invariant.so_far r q i j
        ∙ ap (λ (h : ℕ). marks words (places_in_order h k) r q) n.high
        ∙ ap (λ (h : ℕ). marks words (places_in_order R h) r q) n.wide
