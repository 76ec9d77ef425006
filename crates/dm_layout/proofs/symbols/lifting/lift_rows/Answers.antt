use Rattle.dm_layout.proofs.Names.{◌≡◌, ℕ, ◌+◌, List, map, set, length, ap, sym, subst, refl, arith, ◌∙◌, rules}
use Rattle.dm_layout.proofs.Names.{length-map, length-set, take_all, shapes, words_of, holds_words_of, mapped_cell}
use Rattle.dm_layout.proofs.Names.{SizeEntry, mapping_rows, mapping_columns, order_of, reversed_bits, slot_byte}
use Rattle.dm_layout.proofs.Names.{HasSlot, IsWidened}
use Rattle.dm_layout.proofs.symbols.LiftedWords.{slot_words}
use Rattle.dm_layout.proofs.symbols.SlotOrder.{AreKnown, AreParts, known, parts_at_size, read_more, room_at_size}
use Rattle.dm_layout.proofs.symbols.lifting.lift_rows.Goals as goal
use Rattle.dm_layout.proofs.symbols.lifting.lift_rows.Goals.{After-order-order}

-- The codeword in a slot.
abbrev word_by : ℕ → List ℕ → ℕ → ℕ
word_by bytes slots x = reversed_bits (slot_byte bytes slots x)

-- What is known of the slots, and of the parts of their order.
facts : (g : _) (c : After-order-order g) →
    AreKnown c.args.symbol.now.size c.mapping_rows-height.result c.mapping_columns-columns.result g.R.BitRows.bytes
    g.R.BitRows.most (order_of c.mapping_rows-height.result c.mapping_columns-columns.result)
    × AreParts (order_of c.mapping_rows-height.result c.mapping_columns-columns.result)
    c.order-order.result.first.now c.order-order.result.rest.now c.order-order.result.less
facts g c =
    let rows = c.mapping_rows-height.ensures.value ∙ ap mapping_rows c.size-size.ensures.value in
    let columns = c.mapping_columns-columns.ensures.value ∙ ap mapping_columns c.size-size.ensures.value in
    let size = c.size-size.ensures.modules.size in
    let order = c.order-order.ensures in (
      known _ _ _ _ _ _ size c.requires.slots c.requires.room rows columns refl,
      parts_at_size _ _ _ _ _ _ size rows columns order.first order.rest order.less,
    )

pub widen-requires : goal.widen-requires
widen-requires g c =
    let room =
    room_at_size c.args.symbol.now.size g.R.BitRows.bytes g.R.BitRows.most c.size-size.ensures.modules.size
    c.requires.slots c.requires.room in
    record { light = c.light-rows.ensures; high = room.rows; wide = room.columns }

pub join_rows-requires : goal.join_rows-requires
join_rows-requires g c =
    let size = c.args.symbol.now.size in
    let room = room_at_size size _ _ c.size-size.ensures.modules.size c.requires.slots c.requires.room in
    let rows = ap mapping_rows c.size-size.ensures.value in
    let columns = ap mapping_columns c.size-size.ensures.value in
    record {
      some = omega (arith, room.least_rows);
      least = omega (arith, room.least_columns);
      high = omega (arith, room.rows);
      wide = omega (arith, room.columns);
      room = search rules;
      slots = search rules;
    }

pub codeword-requires : goal.codeword-requires
codeword-requires g c =
    let (n, p) = facts g (goal.at.codeword-requires g c).After-order-order in
    rw (p.early c.loop-i.i c.loop-i-test.true) at (n.each c.loop-i.i (omega (arith, p.count, c.loop-i-test.true)))

pub bounds-words-i : goal.bounds-words-i
bounds-words-i g c =
    let (n, p) = facts g (goal.at.bounds-words-i g c).After-order-order in
    omega (arith, c.loop-i.invariant.count, n.count, p.count, c.loop-i-test.true)

pub loop-i-preserved : goal.loop-i-preserved
loop-i-preserved g c =
    let f = word_by g.R.BitRows.bytes (g.R.BitRows.joined c.join_rows.new.slots) in
    let xs : List ℕ = order_of c.mapping_rows-height.result c.mapping_columns-columns.result in
    let (n, p) = facts g (goal.at.loop-i-preserved g c).After-order-order in
    record {
      count = length-set c.loop-i.words c.loop-i.i c.codeword.result ∙ c.loop-i.invariant.count;
      so_far =
          read_more f c.loop-i.words xs c.loop-i.i c.codeword.result
          (omega (arith, c.loop-i.invariant.count, n.count, p.count, c.loop-i-test.true))
          (omega (arith, p.count, c.loop-i-test.true))
          (c.codeword.ensures ∙ ap f (sym (p.early c.loop-i.i c.loop-i-test.true)))
          c.loop-i.invariant.so_far;
    }

pub overflow_sub-slot : goal.overflow_sub-slot
overflow_sub-slot g c =
    let p = (facts g (goal.at.overflow_sub-slot g c).After-order-order).1 in
    p.least c.loop-j.j c.loop-j-test.true

pub codeword-requires-in-loop-j : goal.codeword-requires-in-loop-j
codeword-requires-in-loop-j g c =
    let (n, p) = facts g (goal.at.codeword-requires-in-loop-j g c).After-order-order in
    subst (HasSlot g.R.BitRows.bytes g.R.BitRows.most) (p.late c.loop-j.j c.loop-j-test.true)
    (n.each (length c.order-order.result.first.now + c.loop-j.j) (omega (arith, p.count, c.loop-j-test.true)))

pub bounds-words-count : goal.bounds-words-count
bounds-words-count g c =
    let (n, p) = facts g (goal.at.bounds-words-count g c).After-order-order in
    omega (arith, c.loop-j.invariant.count, n.count, p.count, c.loop-j-test.true)

pub loop-j-preserved : goal.loop-j-preserved
loop-j-preserved g c =
    let f = word_by g.R.BitRows.bytes (g.R.BitRows.joined c.join_rows.new.slots) in
    let xs : List ℕ = order_of c.mapping_rows-height.result c.mapping_columns-columns.result in
    let i : ℕ = length c.order-order.result.first.now + c.loop-j.j in
    let (n, p) = facts g (goal.at.loop-j-preserved g c).After-order-order in
    let news : List ℕ = set c.loop-j.words i c.codeword-in-loop-j.result in
    let next : i + 1 ≡ length c.order-order.result.first.now + (c.loop-j.j + 1) = omega arith in
    record {
      count = length-set c.loop-j.words i c.codeword-in-loop-j.result ∙ c.loop-j.invariant.count;
      so_far =
          rw next at (read_more f c.loop-j.words xs i c.codeword-in-loop-j.result (omega (
            arith,
            c.loop-j.invariant.count,
            n.count,
            p.count,
            c.loop-j-test.true,
          )) (omega (arith, p.count, c.loop-j-test.true))
          (c.codeword-in-loop-j.ensures ∙ ap f (sym (p.late c.loop-j.j c.loop-j-test.true))) c.loop-j.invariant.so_far);
    }

pub returns-clause-holds : goal.returns-clause-holds
returns-clause-holds g c =
    let size : SizeEntry = c.args.symbol.now.size in
    let R : ℕ = mapping_rows size in
    let C : ℕ = mapping_columns size in
    let look = mapped_cell c.args.symbol.now in
    let m : ℕ = c.mapping_rows-height.result in
    let q : ℕ = c.mapping_columns-columns.result in
    let bytes : ℕ = g.R.BitRows.bytes in
    let most : ℕ = g.R.BitRows.most in
    let (n, p) = facts g (goal.at.returns-clause-holds g c).After-order-order in
    let news = g.R.BitRows.joined c.join_rows.new.slots in
    let f = word_by bytes news in
    let rows = g.R.BitRows.numbers c.widen.new.rows in
    let i : ℕ = length c.order-order.result.first.now + c.loop-j.j in
    let l = length-map (order_of m q) f in
    let widened : IsWidened m q look rows =
    rw (← n.wide, ← n.high) at c.widen.ensures.widened in
    let words =
    slot_words m q look rows n.room.least_rows n.room.least_columns n.room.even_rows n.room.even_columns
    widened bytes most n.room.slots news c.join_rows.ensures (shapes m q) n.fits in
    let all : c.loop-j.words ≡ words_of look m q =
    sym (take_all i c.loop-j.words (omega (arith, c.loop-j.invariant.count, n.count, p.count, c.loop-j-test.false)))
    ∙ c.loop-j.invariant.so_far
    ∙ take_all i (map f (order_of m q)) (omega (arith, l, p.count, c.loop-j-test.false))
    ∙ ap (map f) n.slots
    ∙ words in
    rw (← all, n.wide, n.high) at (holds_words_of look m q)
