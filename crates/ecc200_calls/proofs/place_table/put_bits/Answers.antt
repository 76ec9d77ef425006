use Rattle.ecc200_calls.proofs.Names.{refl, arith, rules, matrix_facts, MatrixFacts, codeword_count, placed_size}
use Rattle.ecc200_calls.proofs.Names.{size_facts}
use Rattle.dm_place.specs.Placement.{places_in_order}
use Rattle.ecc200_calls.proofs.place_table.put_bits.Goals.{After-mapping_columns-columns}
use Rattle.ecc200_calls.proofs.place_table.put_bits.Goals as goal

-- The facts of the mapping matrix of a size, by its rows and columns as they were asked for.
facts : (c : After-mapping_columns-columns) →
    MatrixFacts c.mapping_rows-rows.result c.mapping_columns-columns.result (codeword_count c.args.size)
facts c =
    rw (c.mapping_rows-rows.ensures.value, c.mapping_columns-columns.ensures.value)
    (matrix_facts _ _ _ (placed_size c.args.size c.mapping_rows-rows.ensures.size))

pub new-shape-items-requires : goal.new-shape-items-requires
new-shape-items-requires c = (facts (goal.at.new-shape-items-requires c).After-mapping_columns-columns).safe

pub loop-shape-init : goal.loop-shape-init
loop-shape-init c =
    let known = facts (goal.at.loop-shape-init c).After-mapping_columns-columns in
    rw (c.into_iter-shape-iterator.ensures.into_iter_gives, c.new-shape-items.ensures)
    (record {
      inside = known.inside;
      so_far = refl;
      room = refl;
      rows_are = c.mapping_rows-rows.ensures.value;
      columns_are = c.mapping_columns-columns.ensures.value;
      left = omega (arith, known.counted);
    })

pub cells-requires : goal.cells-requires
cells-requires c =
    let safe = (facts (goal.at.cells-requires c).After-mapping_columns-columns).safe in
    record {
      rows = safe.rows_low;
      columns = safe.columns_low;
      most_rows = safe.rows_most;
      most_columns = safe.columns_most;
      anchor = search rules;
    }

-- One more codeword than those that are there can still be counted.
pub overflow_add-word : goal.overflow_add-word
overflow_add-word c =
    omega (arith, c.loop-shape.invariant.left, (size_facts c.args.size c.mapping_rows-rows.ensures.size).codewords)

pub returns : goal.returns
unfolding places_in_order
returns c =
    let done = rw c.in-None.ensures.steps.0 at c.loop-shape.invariant.so_far in
    rw (← c.mapping_rows-rows.ensures.value, ← c.mapping_columns-columns.ensures.value) done
