-- The grid of the lines of a record.
use Rattle.std.proofs.Common.{◌≡◌, ◌∙◌, ℕ, zero, suc, Bool, true, false, List, [], ◌∷◌, ◌++◌, Option, Some, None}
use Rattle.std.proofs.Common.{Result, Ok, Err, refl, sym, ap, subst, length, map, get_or, arith}
use Rattle.std.specs.Prelude.{◌==◌, ◌<◌, IsNone, if◌then◌else◌}
use Rattle.std.specs.List.{list_all}
use Rattle.std.proofs.lemmas.Bool.{eqb-true}
use Rattle.std.proofs.lemmas.List.{length-map}
use Rattle.std.proofs.lemmas.List.FromFn.{fill_by_all}
use Rattle.dm_symbol.specs.declared.GridFault.{GridFault}
use Rattle.dm_symbol.specs.declared.GridFault.TheVariants as rows_fault
use Rattle.dm_symbol.specs.Sizes.{SizeRow, row_with_side}
use Rattle.dm_symbol.specs.Grid.{GridView, square_of_rows}
use Rattle.dm_text.specs.declared.rows.Rows.{Rows}
use Rattle.dm_text.specs.declared.record.RecordFault.{RecordFault}
use Rattle.dm_text.specs.declared.record.RecordFault.TheVariants as fault
use Rattle.dm_text.specs.Texts.{last_line}
use Rattle.dm_text.specs.Records.{is_square, record_of, rows_of, grid_of_size}
use Rattle.dm_text.specs.RecordFacts.{differ}
use Rattle.dm_text.specs.inner.OpenRecords.{HoldsLines, cells_in, line_count, number_of}
use Rattle.dm_text.proofs.KeptRows.{cells_are, counted}
use Rattle.dm_text.proofs.RecordMeanings.{and_parts, square_by_facts, square_tells}

-- Lines that are held make a grid if they are square, and else have this fault.
abbrev by_square : Bool → List (List ℕ) → Result GridView RecordFault
by_square t lines = if t then grid_of_size (row_with_side (length lines)) lines else Err fault.NotSquare

-- Lines that are held come to a grid or a fault by whether they are square.
comes_to : (t : Rows) (lines : List (List ℕ)) (rest : List ℕ) (s : Bool) → HoldsLines t lines rest →
    is_square (lines ++ last_line rest) ≡ s
    → record_of (lines ++ last_line rest) ≡ by_square s (lines ++ last_line rest)
comes_to t lines rest s h e = rw (h.cells, h.small, e) refl

-- A test that can't pass fails.
never_square : (s : Bool) → (s ≡ true → ⊥) → s ≡ false
never_square true n = absurd (n refl)
never_square false n = refl

-- Lines that differ in length, or that aren't as long as they are many, make no square.
pub not_square : (t : Rows) (lines : List (List ℕ)) (rest : List ℕ) → HoldsLines t lines rest →
    (t.differs ≡ false → t.last ≡ t.first → t.first ≡ line_count t → ⊥)
    → Err fault.NotSquare ≡ record_of (lines ++ last_line rest)
not_square t lines rest h n =
    let never = never_square (is_square (lines ++ last_line rest)) (λ e.
    let tells = square_tells lines rest e in
    n (h.differs_is ∙ ap (λ f. differ f lines) h.first_is ∙ tells.2) (h.last_is ∙ tells.1 ∙ sym tells.0
    ∙ sym h.first_is) (h.first_is ∙ tells.0 ∙ sym (counted t lines rest h))) in
    sym (comes_to t lines rest false h never)

-- Lines that don't differ in length, and are as long as they are many, make a square.
square : (t : Rows) (lines : List (List ℕ)) (rest : List ℕ) → HoldsLines t lines rest → t.differs ≡ false →
    t.last ≡ t.first → t.first ≡ line_count t
    → is_square (lines ++ last_line rest) ≡ true
square t lines rest h d l f =
    square_by_facts lines rest (ap (λ k. differ k lines) (sym h.first_is) ∙ sym h.differs_is ∙ d) (sym h.last_is ∙ l
    ∙ h.first_is) (sym h.first_is ∙ f ∙ counted t lines rest h)

-- The rows of square lines are the cells of their numbers.
row_at : (n : ℕ) (lines : List (List ℕ)) (r : ℕ) → list_all (λ line. length line == n) lines ≡ true → r < length lines
    → get_or (rows_of lines) r [] ≡ cells_in n (get_or (map number_of lines) r 0)
row_at n [] r all l = absurd (omega arith)
row_at n (m ∷ lines) zero all l =
    cells_are m ∙ ap (λ k. cells_in k (number_of m))
    (eqb-true (length m) n (and_parts (length m == n) (list_all (λ line. length line == n) lines) all).0)
row_at n (m ∷ lines) (suc r) all l =
    row_at n lines r (and_parts (length m == n) (list_all (λ line. length line == n) lines) all).1 (omega (arith, l))

-- The square of the numbers of lines is the square of the lines.
square_rows : (lines : List (List ℕ)) → is_square lines ≡ true →
    square_of_rows (length lines) (map number_of lines) ≡ rows_of lines
square_rows lines all =
    sym (fill_by_all (λ r. cells_in (length lines) (get_or (map number_of lines) r 0)) (rows_of lines) (length lines) []
    (length-map lines (map (λ b. b == 49))) (λ r l. row_at (length lines) lines r all l))

-- Rows that are those of the lines make the grid of their size.
same_grid : (size : Option SizeRow) (lines : List (List ℕ)) (g : GridView) → size ≡ Some g.size →
    g.rows ≡ rows_of lines → Ok g ≡ grid_of_size size lines
same_grid size lines g e f = rw e (ap (λ rows. Ok (let k : GridView = record { size = g.size; rows = rows } in k)) f)

-- The length of the first of square lines is the number of the lines.
side_is : (t : Rows) (lines : List (List ℕ)) (rest : List ℕ) → HoldsLines t lines rest → t.first ≡ line_count t →
    t.first ≡ length (lines ++ last_line rest)
side_is t lines rest h f = f ∙ counted t lines rest h

-- Square lines of a side that some size has make the grid of that size.
pub is_grid : (t : Rows) (lines : List (List ℕ)) (rest rows : List ℕ) (g : GridView) → HoldsLines t lines rest →
    t.differs ≡ false → t.last ≡ t.first
    → t.first ≡ line_count t → rows ≡ t.rows.items → row_with_side t.first ≡ Some g.size →
    g.rows ≡ square_of_rows t.first rows → Ok g ≡ record_of (lines ++ last_line rest)
is_grid t lines rest rows g h d l f e size drawn =
    let all = lines ++ last_line rest in
    let does = square t lines rest h d l f in
    let side = side_is t lines rest h f in
    let these =
    drawn ∙ ap (square_of_rows t.first) (e ∙ h.rows_are) ∙ ap (λ n. square_of_rows n (map number_of all)) side
    ∙ square_rows all does in
    same_grid (row_with_side (length all)) all g (ap row_with_side (sym side) ∙ size) these
    ∙ sym (comes_to t lines rest true h does)

-- Where rows that are as many as they should be make no grid, no size has this side.
none_by : (why : GridFault) (n : ℕ) (rows : List ℕ) → length rows ≡ n
    → ((let r : Result (Unit {0}) GridFault = Err why in r) ≡ Err rows_fault.NotSquare → length rows ≡ n → ⊥)
    → ((let r : Result (Unit {0}) GridFault = Err why in r) ≡ Err rows_fault.NoSuchSize → IsNone (row_with_side n)) →
    IsNone (row_with_side n)
none_by rows_fault.NotSquare n rows e f g = absurd (f refl e)
none_by rows_fault.NoSuchSize n rows e f g = g refl

-- Lines of a side that no size has come to that fault.
no_size : (size : Option SizeRow) (lines : List (List ℕ)) → IsNone size →
    Err (fault.NoSuchSize (length lines)) ≡ grid_of_size size lines
no_size None lines h = refl
no_size (Some size) lines h = cc

-- Square lines of a side that no size has make no grid.
pub no_grid : (t : Rows) (lines : List (List ℕ)) (rest rows : List ℕ) (why : GridFault) → HoldsLines t lines rest →
    t.differs ≡ false → t.last ≡ t.first
    → t.first ≡ line_count t → rows ≡ t.rows.items
    → ((let r : Result (Unit {0}) GridFault = Err why in r) ≡ Err rows_fault.NotSquare → length rows ≡ t.first → ⊥)
    → ((let r : Result (Unit {0}) GridFault = Err why in r) ≡ Err rows_fault.NoSuchSize →
    IsNone (row_with_side t.first))
    → Err (fault.NoSuchSize t.first) ≡ record_of (lines ++ last_line rest)
no_grid t lines rest rows why h d l f e not none =
    let all = lines ++ last_line rest in
    let side = side_is t lines rest h f in
    let missing = none_by why t.first rows (ap length e ∙ sym f) not none in
    ap (λ n. Err (fault.NoSuchSize n)) side ∙ no_size (row_with_side (length all)) all
    (subst (λ n. IsNone (row_with_side n)) side missing)
    ∙ sym (comes_to t lines rest true h (square t lines rest h d l f))
