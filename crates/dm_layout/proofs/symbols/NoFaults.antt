-- A symbol has no border fault exactly where its border modules have their colours.
use Rattle.dm_layout.proofs.Names.{nat_tests, ◌≡◌, ℕ, zero, suc, ◌+◌, ◌<◌, Bool, true, cond, not, ◌&&◌, nat_eq, refl}
use Rattle.dm_layout.proofs.Names.{sym, ◌∙◌, arith, subst, eq-eqb, sum_by, count_by, beq, range_with_len, list_all}
use Rattle.dm_layout.proofs.Names.{eqb-true, SymbolView, module_at, is_border, border_is_dark}
use Rattle.std.proofs.Common.{add-zero, zero-add}
use Rattle.std.proofs.lemmas.List.Folds.{sum_by-zero}
use Rattle.dm_layout.specs.symbols.Border.{is_fault, border_fault_count}
use Rattle.dm_place.proofs.Exported.{all_at}

-- The border modules have their colours.
abbrev pub IsBordered : SymbolView → Type 0
IsBordered modules =
    (row column : ℕ) → row < modules.size.rows → column < modules.size.columns →
    is_border modules.size row column ≡ true → module_at modules row column ≡ border_is_dark modules.size row column

-- ---- sums of nothing

-- A test that each number of a range passes is passed by the range.
all_from : (f : ℕ → Bool) (from len : ℕ) → ((x : ℕ) → x < len → f (from + x) ≡ true) →
    list_all f (range_with_len from len) ≡ true
all_from f from zero h = refl
all_from f from (suc len) h =
    let first : f from ≡ true = rw add-zero at (h 0 (omega arith)) in
    let rest : list_all f (range_with_len (from + 1) len) ≡ true = all_from f (from + 1) len (λ x l.
    let e : from + suc x ≡ from + 1 + x = omega arith in
    subst (λ (j : ℕ). f j ≡ true) e (h (suc x) (omega arith))) in
    rw (first, rest) refl

-- Where the sum over a range is 0, so is each of its summands.
pub summands_zero : (f : ℕ → ℕ) (len x : ℕ) → sum_by f (range_with_len 0 len) ≡ 0 → x < len → f x ≡ 0
summands_zero f len x h l =
    let t : list_all (λ (i : ℕ). nat_eq (f i) 0) (range_with_len 0 len) ≡ true =
    sym (sum_by-zero f (range_with_len 0 len)) ∙ eq-eqb (sum_by f (range_with_len 0 len)) 0 h in
    eqb-true _ _ (rw (zero-add x) at (all_at (λ (i : ℕ). nat_eq (f i) 0) 0 len x t l))

-- Where each summand over a range is 0, so is the sum.
sum_from : (f : ℕ → ℕ) (len : ℕ) → ((x : ℕ) → x < len → f x ≡ 0) → sum_by f (range_with_len 0 len) ≡ 0
sum_from f len h =
    let t : list_all (λ (i : ℕ). nat_eq (f i) 0) (range_with_len 0 len) ≡ true =
    all_from (λ (i : ℕ). nat_eq (f i) 0) 0 len (λ x l. rw (← zero-add x) at (eq-eqb (f x) 0 (h x l))) in
    eqb-true _ _ (sum_by-zero f (range_with_len 0 len) ∙ t)

-- ---- one module

-- A module counts 1 if it is a border module whose colour differs from the right one, and else 0.
abbrev fault_of : Bool → Bool → Bool → ℕ
fault_of b x y = cond (b && not (beq x y)) 1 0

-- A border module that counts 0 has the right colour.
fault_none : (b x y : Bool) → fault_of b x y ≡ 0 → b ≡ true → x ≡ y
fault_none x y z h e = grind (arith, nat_tests)

-- A module counts 0 if it has the right colour or is no border module.
none_fault : (b x y : Bool) → (b ≡ true → x ≡ y) → fault_of b x y ≡ 0
none_fault x y z h = grind (arith, nat_tests)

-- ---- the whole symbol

-- A symbol whose border modules have their colours has no border fault.
pub no_faults : (modules : SymbolView) → IsBordered modules → border_fault_count modules ≡ 0
no_faults modules h =
    sum_from (λ (row : ℕ). count_by (is_fault modules row) (range_with_len 0 modules.size.columns)) modules.size.rows
    (λ row lr.
    sum_from (λ (column : ℕ). cond (is_fault modules row column) 1 0) modules.size.columns (λ column lc.
    none_fault (is_border modules.size row column) (module_at modules row column)
    (border_is_dark modules.size row column) (h row column lr lc)))

-- In a symbol without border faults the border modules have their colours.
pub bordered_of_no_faults : (modules : SymbolView) → border_fault_count modules ≡ 0 → IsBordered modules
bordered_of_no_faults modules h row column lr lc b =
    let r : count_by (is_fault modules row) (range_with_len 0 modules.size.columns) ≡ 0 =
    summands_zero (λ (i : ℕ). count_by (is_fault modules i) (range_with_len 0 modules.size.columns)) modules.size.rows
    row h lr in
    let c : cond (is_fault modules row column) 1 0 ≡ 0 =
    summands_zero (λ (j : ℕ). cond (is_fault modules row j) 1 0) modules.size.columns column r lc in
    fault_none (is_border modules.size row column) (module_at modules row column)
    (border_is_dark modules.size row column) c b
