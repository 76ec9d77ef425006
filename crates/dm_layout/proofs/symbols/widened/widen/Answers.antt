use Rattle.dm_layout.proofs.Names.{◌≡◌, ℕ, ◌+◌, ◌%◌, arith, rules, mapped_cell, mapping_rows, mapping_columns}
use Rattle.dm_layout.proofs.symbols.LongSizes.{HasMatrix, has_matrix}
use Rattle.dm_layout.proofs.symbols.WidenedRows.{is_widened}
use Rattle.dm_layout.proofs.symbols.widened.widen.Goals as goal
use Rattle.dm_layout.proofs.symbols.widened.widen.Goals.{After-mapping_columns-columns}

-- What is known of the mapping matrix.
matrix : (g : _) (c : After-mapping_columns-columns g) → HasMatrix c.size-size.result
matrix g c = has_matrix c.size-size.result c.mapping_rows-height.ensures.size

pub wrap_columns-requires : goal.wrap_columns-requires
wrap_columns-requires g c =
    let b = matrix g (goal.at.wrap_columns-requires g c).After-mapping_columns-columns in
    record {
      room = search rules;
      some = omega (arith, b.least_rows);
      least = omega (arith, b.least_columns);
      high = search rules;
      wide = search rules;
      shift = omega (arith, b.even_columns);
      width = search rules;
    }

pub wrap_rows-requires : goal.wrap_rows-requires
wrap_rows-requires g c =
    let b = matrix g (goal.at.wrap_rows-requires g c).After-mapping_columns-columns in
    record {
      room = search rules;
      some = omega (arith, b.least_rows);
      high = search rules;
      wide = search rules;
      shift = omega (arith, b.even_rows);
    }

pub returns-clause-widened : goal.returns-clause-widened
returns-clause-widened g c =
    let b = matrix g (goal.at.returns-clause-widened g c).After-mapping_columns-columns in
    let m : ℕ = c.mapping_rows-height.result in
    let k : ℕ = c.mapping_columns-columns.result in
    let em : m ≡ mapping_rows c.args.symbol.now.size = cc (c.mapping_rows-height.ensures.value) in
    let ek : k ≡ mapping_columns c.args.symbol.now.size = cc (c.mapping_columns-columns.ensures.value) in
    let moved = rw (← em, ← ek) at c.move_rows.ensures.moved in
    let down : c.wrap_shift-down.result ≡ (k + 4) % 8 = c.wrap_shift-down.ensures in
    let wrapped = rw down at c.wrap_columns.ensures.wrapped in
    let above = rw c.wrap_shift-right.ensures at c.wrap_rows.ensures.above in
    rw (← em, ← ek) (is_widened m k (mapped_cell c.args.symbol.now) _ _ _ (omega (arith, b.least_rows))
    (omega (arith, b.least_columns)) moved wrapped above c.wrap_rows.ensures.others)
