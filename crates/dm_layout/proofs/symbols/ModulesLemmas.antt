-- The modules of a symbol, by row and column.
use Rattle.dm_layout.proofs.Names.{nat_tests, ◌≡◌, ℕ, zero, suc, ◌+◌, ◌*◌, ◌/◌, ◌%◌, ◌<◌, Bool, false, List, [], ◌∷◌}
use Rattle.dm_layout.proofs.Names.{map, length, get_or, refl, sym, ◌∙◌, ap, subst, arith, All, range_with_len}
use Rattle.dm_layout.proofs.Names.{div-mul-add, mod-mul-add, mul-add-lt, same_lists, length-map-range_with_len}
use Rattle.dm_layout.proofs.Names.{get_or-map-range_with_len, SizeEntry, IsSize, SymbolView, IsSymbol, module_at}
use Rattle.dm_layout.proofs.Names.{rows_by}
use Rattle.std.proofs.Math.Nat.{mul_comm}
use Rattle.std.proofs.lemmas.List.FromFn.{fill_by_all}
use Rattle.std.proofs.lemmas.List.Elements.{All-map}

-- Modules that are drawn by colours are well formed.
pub modules_by : (size : SizeEntry) (colour : ℕ → ℕ → Bool) → IsSize size →
    IsSymbol (record { size = size; rows = rows_by size.rows size.columns colour })
modules_by size colour entry =
    record {
      size = entry;
      height = length-map-range_with_len (λ (r : ℕ). map (colour r) (range_with_len 0 size.columns)) 0 size.rows;
      width =
          All-map (λ (line : List Bool). length line ≡ size.columns)
          (λ (r : ℕ). map (colour r) (range_with_len 0 size.columns)) (range_with_len 0 size.rows)
          (λ k d l. length-map-range_with_len (colour (get_or (range_with_len 0 size.rows) k d)) 0 size.columns);
    }

-- Modules that are drawn by colours have these colours.
pub module_by : (rows columns : ℕ) (colour : ℕ → ℕ → Bool) (r c : ℕ) → r < rows → c < columns →
    get_or (get_or (rows_by rows columns colour) r []) c false ≡ colour r c
module_by rows columns colour r c lr lc =
    ap (λ (line : List Bool). get_or line c false)
    (get_or-map-range_with_len (λ (q : ℕ). map (colour q) (range_with_len 0 columns)) 0 rows r r [] lr
    (omega arith))
    ∙ get_or-map-range_with_len (colour r) 0 columns c c false lc (omega arith)

-- Colours that agree at all rows and columns draw the same rows.
pub same_rows_by : (rows columns : ℕ) (f g : ℕ → ℕ → Bool) → ((r c : ℕ) → r < rows → c < columns → f r c ≡ g r c) →
    rows_by rows columns f ≡ rows_by rows columns g
same_rows_by rows columns f g agree =
    mapped rows (λ (r : ℕ). map (f r) (range_with_len 0 columns)) (λ (r : ℕ). map (g r) (range_with_len 0 columns)) []
    (λ r lr. mapped columns (f r) (g r) false (λ c lc. agree r c lr lc))
  where
    mapped : {X : Type 0} (n : ℕ) (f g : ℕ → X) (d : X) → ((k : ℕ) → k < n → f k ≡ g k) →
        map f (range_with_len 0 n) ≡ map g (range_with_len 0 n)
    mapped n f g d same =
        fill_by_all g (map f (range_with_len 0 n)) n d (length-map-range_with_len f 0 n)
        (λ k l. get_or-map-range_with_len f 0 n k k d l (omega arith) ∙ same k l)

-- ---- modules that stand row by row in a list

-- The place of a module is below the number of modules.
pub place_below : (rows columns r c : ℕ) → r < rows → c < columns → r * columns + c < rows * columns
place_below rows columns r c lr lc = let l = mul-add-lt r columns c rows lr lc in let m = mul_comm columns rows in
    omega (arith, l, m)

-- Different modules have different places.
pub same_place : (columns r c q k : ℕ) → c < columns → k < columns → r * columns + c ≡ q * columns + k →
    (r ≡ q) × (c ≡ k)
same_place columns r c q k lc lk e = (
  sym (div-mul-add r columns c lc) ∙ ap (λ (j : ℕ). j / columns) e ∙ div-mul-add q columns k lk,
  sym (mod-mul-add r columns c lc) ∙ ap (λ (j : ℕ). j % columns) e ∙ mod-mul-add q columns k lk,
)

-- ---- modules that are the same

-- Rows with the same colours are the same.
pub same_rows : (rows columns : ℕ) (xs ys : List (List Bool)) → length xs ≡ rows → length ys ≡ rows →
    All (λ line. length line ≡ columns) xs → All (λ line. length line ≡ columns) ys →
    ((r c : ℕ) → r < rows → c < columns → get_or (get_or xs r []) c false ≡ get_or (get_or ys r []) c false) → xs ≡ ys
same_rows rows columns xs ys hx hy wx wy cells =
    same_lists xs ys (hx ∙ sym hy) (λ r d lr. line r d lr)
  where
    default : (zs : List Bool) (c : ℕ) (d : Bool) → c < length zs → get_or zs c d ≡ get_or zs c false
    default [] c d l = absurd (omega arith)
    default (z ∷ zs) zero d l = refl
    default (z ∷ zs) (suc c) d l = default zs c d (omega arith)

    outer : (zs : List (List Bool)) (r : ℕ) (d : List Bool) → r < length zs → get_or zs r d ≡ get_or zs r []
    outer [] r d l = absurd (omega arith)
    outer (z ∷ zs) zero d l = refl
    outer (z ∷ zs) (suc r) d l = outer zs r d (omega arith)

    line : (r : ℕ) (d : List Bool) → r < length xs → get_or xs r d ≡ get_or ys r d
    line r d lr = grind (arith, nat_tests, columns, outer, same_lists, rows, default, cells)

-- The modules that have this size and these rows.
abbrev pub modules_from : SizeEntry → List (List Bool) → SymbolView
modules_from size rows = record { size = size; rows = rows }

-- Modules of equal sizes with equal rows are equal.
pub same_parts : (s t : SizeEntry) (xs ys : List (List Bool)) → s ≡ t → xs ≡ ys → modules_from s xs ≡ modules_from t ys
same_parts s t xs ys p q = cc

-- Modules of the same size with the same colours are the same.
pub same_modules : (m n : SymbolView) → IsSymbol m → IsSymbol n → m.size ≡ n.size →
    ((r c : ℕ) → r < m.size.rows → c < m.size.columns → module_at m r c ≡ module_at n r c) → m ≡ n
same_modules m n a b e cells =
    let height : length n.rows ≡ m.size.rows = b.height ∙ ap (λ (s : SizeEntry). s.rows) (sym e) in
    let width : All (λ line. length line ≡ m.size.columns) n.rows =
    subst (λ (s : SizeEntry). All (λ line. length line ≡ s.columns) n.rows) (sym e) b.width in
    same_parts m.size n.size m.rows n.rows e (same_rows m.size.rows m.size.columns m.rows n.rows a.height height a.width
    width cells)
