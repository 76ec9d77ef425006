use Rattle.std.proofs.Common.{◌≡◌, ◌∙◌, ◌++◌, ◌∷◌, ◌<◌, [], Bool, false, List, ℕ, ap, get_or, length, map}
use Rattle.std.proofs.Common.{length-append, arith}
use Rattle.dm_symbol.specs.Grid.{is_dark_in}
use Rattle.dm_text.specs.Answers.{character_of}
use Rattle.dm_text.specs.inner.OpenRecords.{cells_in}
use Rattle.dm_text.proofs.PrintedCells.{cells_long, row_is}
use Rattle.dm_text.proofs.printed.push_row.Goals as goal

pub push-requires : goal.push-requires
push-requires c =
    let long =
    ap length c.push_cells.ensures ∙ length-append c.args.text.now.items
    (map character_of (cells_in c.side.result c.row.result)) in
    let side : c.side.result ≡ c.args.grid.now.size.side =
    c.side.ensures.value ∙ ap (λ s. s.side) c.size.ensures.value in
    (omega arith, omega (arith, long, cells_long c.side.result c.row.result, side, c.requires.room))

pub returns : goal.returns
returns c =
    let row = get_or c.args.grid.now.rows c.args.row [] in
    let side : c.side.result ≡ c.args.grid.now.size.side =
    c.side.ensures.value ∙ ap (λ s. s.side) c.size.ensures.value in
    let modules = c.as_symbol.ensures in
    let wide : c.as_symbol.result.now.size.columns ≡ c.args.grid.now.size.side =
    ap (λ m. m.size.columns) modules in
    let cells : (column : ℕ) → column < c.args.grid.now.size.side → is_dark_in c.row.result column
    ≡ get_or row column false =
    λ column l.
    c.row.ensures column (omega (arith, l, side, c.side.ensures.most)) (omega (arith, l, wide))
    ∙ ap (λ m. get_or (get_or m.rows c.args.row []) column false) modules in
    c.push.ensures ∙ ap (λ (l : List ℕ). l ++ 10 ∷ []) (c.push_cells.ensures
    ∙ ap (λ (n : ℕ). c.args.text.now.items ++ map character_of (cells_in n c.row.result)) side
    ∙ ap (λ (l : List Bool). c.args.text.now.items ++ map character_of l)
    (row_is row c.row.result c.args.grid.now.size.side c.requires.width cells))
