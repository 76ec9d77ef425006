use Rattle.std.proofs.Common.{◌≡◌, ◌∙◌, ◌+◌, ◌/◌, ◌^◌, ◌++◌, bit_and, ℕ, List, ap, length, length-append, map, take}
use Rattle.std.proofs.Common.{arith}
use Rattle.dm_text.specs.Answers.{character_of}
use Rattle.dm_text.specs.inner.OpenRecords.{cells_in}
use Rattle.dm_text.proofs.PrintedCells.{cells_long, first_cells, sixteen_less, sixteen_more}
use Rattle.dm_text.proofs.printed.push_cells.Goals as goal

pub push_all-requires : goal.push_all-requires
push_all-requires c =
    let column = c.loop-column.column in
    let before =
    ap length c.loop-column.invariant.text ∙ length-append c.args.text.now.items
    (map character_of (cells_in column c.args.cells)) in
    let sixteen = ap length c.characters.ensures ∙ cells_long 16 (bit_and c.loop-column.rest 65535) in (
      omega arith,
      omega (
        arith,
        before,
        cells_long column c.args.cells,
        sixteen,
        c.requires.room,
        c.loop-column-test.true,
      ),
    )

pub loop-column-preserved : goal.loop-column-preserved
loop-column-preserved c =
    let column = c.loop-column.column in
    record {
      within = omega (arith, c.loop-column-test.true);
      rest = ap (λ (n : ℕ). n / 2 ^ 16) c.loop-column.invariant.rest ∙ sixteen_less c.args.cells column;
      text = c.push_all.ensures ∙ ap (λ (l : List ℕ). l ++ c.characters.result) c.loop-column.invariant.text
          ∙ ap (λ (l : List ℕ). (c.args.text.now.items ++ map character_of (cells_in column c.args.cells)) ++ l)
          c.characters.ensures
          ∙ ap (λ (n : ℕ). (c.args.text.now.items ++ map character_of (cells_in column c.args.cells))
          ++ map character_of (cells_in 16 (bit_and n 65535)))
          c.loop-column.invariant.rest
          ∙ sixteen_more c.args.text.now.items c.args.cells column;
    }

pub truncate-requires : goal.truncate-requires
truncate-requires c =
    let column = c.loop-column.column in
    let before =
    ap length c.loop-column.invariant.text ∙ length-append c.args.text.now.items
    (map character_of (cells_in column c.args.cells)) in (
      omega arith,
      omega (
        arith,
        before,
        cells_long column c.args.cells,
        c.len-start.ensures.value,
        c.from.ensures,
        c.loop-column-test.false,
      ),
    )

pub returns : goal.returns
returns c =
    let before = c.args.text.now.items in
    let column = c.loop-column.column in
    let count : c.len-start.result + c.from.result ≡ length before + c.args.width =
    omega (arith, c.len-start.ensures.value, c.from.ensures) in
    c.truncate.ensures ∙ ap (λ (l : List ℕ). take (c.len-start.result + c.from.result) l) c.loop-column.invariant.text
    ∙ ap (λ (n : ℕ). take n (before ++ map character_of (cells_in column c.args.cells))) count
    ∙ first_cells before c.args.cells column c.args.width (omega (arith, c.loop-column-test.false))
