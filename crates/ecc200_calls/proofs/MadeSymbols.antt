-- The modules of a symbol make it again.
use Rattle.ecc200_calls.proofs.Names.{nat_tests, ◌≡◌, ◌∙◌, ℕ, zero, suc, ◌+◌, ◌-◌, ◌*◌, ◌<◌, Bool, true, false, List}
use Rattle.ecc200_calls.proofs.Names.{[], ◌∷◌, ◌++◌, length, length-append, map, take, get_or, Some, refl, sym, ap}
use Rattle.ecc200_calls.proofs.Names.{arith, All, flat_map, get_or-append_right, take-append_seam, get_or_append_left}
use Rattle.ecc200_calls.proofs.Names.{get_or-map, length-map, All-head, All-tail, SizeEntry, entry_with, SymbolView}
use Rattle.ecc200_calls.proofs.Names.{IsSymbol, is_dark_number, rows_of, AreModulesOf, module_of, modules_of}
use Rattle.ecc200_calls.proofs.Names.{symbol_shown}
use Rattle.ecc200_calls.specs.Laws.{ModulesMakeTheSymbol, OneSymbolIsMade}
use Rattle.ecc200_calls.proofs.Packing.{all_packed}

-- A module as a number is dark where it is.
dark_again : (dark : Bool) → is_dark_number (module_of dark) ≡ dark
dark_again true = refl
dark_again false = refl

-- Rows of one length have that many modules each.
pub count_of_rows : (rows : List (List Bool)) (columns : ℕ) → All (λ line. length line ≡ columns) rows →
    length (flat_map (map module_of) rows) ≡ length rows * columns
count_of_rows [] columns wide = omega arith
count_of_rows (line ∷ rows) columns wide =
    let here = All-head (λ l. length l ≡ columns) line rows wide in
    let rest = count_of_rows rows columns (All-tail (λ l. length l ≡ columns) line rows wide) in
    simp (length-append, length-map) (omega arith)

-- Among the modules of rows of one length, that of a row and a column stands behind those of the rows above.
module_at : (rows : List (List Bool)) (side r c : ℕ) → All (λ line. length line ≡ side) rows → r < length rows →
    c < side
    → get_or (flat_map (map module_of) rows) (r * side + c) 0 ≡ module_of (get_or (get_or rows r []) c false)
module_at [] side r c wide lr lc = absurd (omega arith)
module_at (line ∷ rows) side zero c wide lr lc =
    let long : length line ≡ side = All-head (λ l. length l ≡ side) line rows wide in
    grind (arith, nat_tests, length-map, get_or_append_left, get_or-map module_of line c false 0 (omega (arith, long)))
module_at (line ∷ rows) side (suc r) c wide lr lc =
    let long : length (map module_of line) ≡ side =
    length-map line module_of ∙ All-head (λ l. length l ≡ side) line rows wide in
    let later : suc r * side + c ≡ side + (r * side + c) = omega arith in
    let back : side + (r * side + c) - length (map module_of line) ≡ r * side + c = omega (arith, long) in
    ap (λ i. get_or (map module_of line ++ flat_map (map module_of) rows) i 0) later
    ∙ get_or-append_right (map module_of line) (flat_map (map module_of) rows) (side + (r * side + c)) 0
    (omega (arith, long))
    ∙ ap (λ i. get_or (flat_map (map module_of) rows) i 0) back
    ∙ module_at rows side r c (All-tail (λ l. length l ≡ side) line rows wide) (omega arith) lc

-- The modules of a symbol make that symbol.
symbol_again : (symbol : SymbolView) → IsSymbol symbol
    → AreModulesOf symbol.size.rows symbol.size.columns (modules_of symbol) symbol
symbol_again symbol well =
    let columns = symbol.size.columns in
    all_packed symbol (modules_of symbol) well
    (count_of_rows symbol.rows columns well.width ∙ ap (λ n. n * columns) well.height)
    (λ r c lr lc.
    sym (ap is_dark_number (module_at symbol.rows columns r c well.width (omega (arith, lr, well.height)) lc)
    ∙ dark_again (get_or (get_or symbol.rows r []) c false)))

-- As many of the modules that are given as the symbol has are those of the symbol.
pub made : ModulesMakeTheSymbol
made symbol before well =
    let rows = symbol.size.rows in
    let columns = symbol.size.columns in
    let again = symbol_again symbol well in
    let shown : take (rows * columns) (symbol_shown symbol before).modules ≡ modules_of symbol =
    ap (λ n. take n (symbol_shown symbol before).modules) (sym again.count) ∙ take-append_seam (modules_of symbol) _ in
    record {
      count = ap length shown ∙ again.count;
      size = again.size;
      colours =
          again.colours ∙ ap (λ modules. rows_of rows columns (map is_dark_number modules)) (sym shown);
    }

-- Two sizes with the same rows and columns are the same.
same_size : (rows columns : ℕ) (a b : SizeEntry) → entry_with rows columns ≡ Some a → entry_with rows columns ≡ Some b
    → a ≡ b
same_size rows columns a b e f = cc

-- Modules make at most one symbol.
pub one_made : OneSymbolIsMade
one_made rows columns modules symbol other a b =
    let size = same_size rows columns symbol.size other.size a.size b.size in
    let lines : symbol.rows ≡ other.rows = a.colours ∙ sym b.colours in
    let first : symbol ≡ (let m : SymbolView = record { size = other.size; rows = symbol.rows } in m) =
    ap (λ s. let m : SymbolView = record { size = s; rows = symbol.rows } in m) size in
    first ∙ ap (λ r. let m : SymbolView = record { size = other.size; rows = r } in m) lines
