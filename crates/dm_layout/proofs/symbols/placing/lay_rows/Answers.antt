use Rattle.dm_layout.proofs.Names.{ℕ, ◌+◌, Bool, refl, sym, ◌∙◌, arith, once_at_sides, SizeEntry, IsSize, mapping_rows}
use Rattle.dm_layout.proofs.Names.{mapping_columns, codeword_count, kept_symbol, look_in}
use Rattle.dm_layout.proofs.symbols.Exported.{placed_size}
use Rattle.dm_layout.proofs.symbols.DrawnRows.{bits_kept, laid_as}
use Rattle.dm_layout.proofs.symbols.Sizes.{fixed_is_square}
use Rattle.dm_layout.proofs.symbols.SlotOrder.{room_at_size}
use Rattle.dm_layout.proofs.symbols.placing.lay_rows.Goals as goal

pub put_fixed_square-requires : goal.put_fixed_square-requires
put_fixed_square-requires g c =
    let room = room_at_size c.args.size _ _ c.requires.words.size c.requires.slots c.requires.most in
    let er = c.mapping_rows.ensures.value in
    let ec = c.mapping_columns.ensures.value in
    record {
      room = c.paint.ensures.room;
      some = omega (arith, room.least_rows);
      least = omega (arith, room.least_columns);
      high = omega (arith, room.rows);
      wide = omega (arith, room.columns);
      square = λ h k.
          er ∙ fixed_is_square c.args.size c.requires.words.size (rw er at h) (rw ec at k) ∙ sym ec;
    }

pub draw-requires : goal.draw-requires
draw-requires g c =
    let room = room_at_size c.args.size _ _ c.requires.words.size c.requires.slots c.requires.most in
    record {
      entry = c.requires.words.size;
      room = c.put_fixed_square.ensures.room;
      high = room.rows;
      lines = c.requires.lines;
      ends = c.requires.ends;
    }

pub returns-clause-laid : goal.returns-clause-laid
returns-clause-laid g c =
    let s : SizeEntry = c.args.size in
    let rows = g.R.BitRows.numbers in
    let olds : ℕ → ℕ → Bool = λ r q. look_in (rows c.paint.new.rows) (r + 2) (q + 4) in
    let news : ℕ → ℕ → Bool = λ r q. look_in (rows c.put_fixed_square.new.rows) (r + 2) (q + 4) in
    let entry : IsSize s = c.mapping_rows.ensures.size in
    let er = c.mapping_rows.ensures.value in
    let ec = c.mapping_columns.ensures.value in
    let free = rw (er, ec) at c.put_fixed_square.ensures.free in
    let fixed = rw (er, ec) at c.put_fixed_square.ensures.fixed in
    laid_as (record { size = s; list = c.args.words.now }) (kept_symbol s c.draw.new.lines c.draw.new.ends) s
    c.args.words.now news c.requires.words refl refl refl c.draw.ensures.drawn.symbol c.draw.ensures.drawn.colours
    (bits_kept (mapping_rows s) (mapping_columns s) olds news c.args.words.now
    (once_at_sides (mapping_rows s) (mapping_columns s) (codeword_count s) (placed_size s entry)) free
    c.paint.ensures.bits)
    (λ r q lr lq h. fixed r q lr lq h (c.paint.ensures.fixed r q lr lq h))
