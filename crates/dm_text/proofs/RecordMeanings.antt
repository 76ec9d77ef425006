-- What an open record means: a grid or a fault.
use Rattle.std.proofs.Common.{◌≡◌, ◌∙◌, ◌<◌, ℕ, Bool, true, false, not, List, [], ◌∷◌, ◌++◌, Option, Some, None, Result}
use Rattle.std.proofs.Common.{Ok, Err, refl, sym, ap, subst, length, arith}
use Rattle.std.specs.Prelude.{◌==◌, ◌||◌, ◌&&◌, if◌then◌else◌}
use Rattle.std.specs.List.{list_all}
use Rattle.std.proofs.lemmas.Bool.{eqb-true, eqb-false, eq-eqb}
use Rattle.dm_symbol.specs.Sizes.{SizeRow, row_with_side}
use Rattle.dm_symbol.specs.Grid.{GridView}
use Rattle.dm_text.specs.declared.record.RecordFault.{RecordFault}
use Rattle.dm_text.specs.declared.record.RecordFault.TheVariants as fault
use Rattle.dm_text.specs.Texts.{last_line}
use Rattle.dm_text.specs.Records.{has_foreign, is_large, is_square, record_of, rows_of, grid_of_size}
use Rattle.dm_text.specs.RecordFacts.{RecordContents, Foreign, Large, Cells, contents_of, differ, first_length}
use Rattle.dm_text.specs.RecordFacts.{last_length}
use Rattle.dm_text.proofs.RecordSteps.{by_tests}

-- These rows are the grid of the size, if there is one with this side.
abbrev pub sized_rows : Option SizeRow → ℕ → List (List Bool) → Result GridView RecordFault
sized_rows (Some size) side rows = Ok (record { size = size; rows = rows })
sized_rows None side rows = Err (fault.NoSuchSize side)

-- Cells mean a grid only if the last line is as long as the first, and its length is the number of lines.
abbrev pub cells_meaning : Bool → ℕ → Option (List (List Bool)) → Result GridView RecordFault
cells_meaning true c (Some rows) = sized_rows (row_with_side c) c rows
cells_meaning true c None = Err fault.NotSquare
cells_meaning false c rows = Err fault.NotSquare

-- Contents mean a grid or a fault.
abbrev pub meaning_of : RecordContents → Result GridView RecordFault
meaning_of Foreign = Err fault.Character
meaning_of Large = Err fault.Large
meaning_of (Cells c f l rows) = cells_meaning (l == f && f == c) c rows

-- Where two tests pass together, each of them passes.
pub and_parts : (a b : Bool) → (a && b) ≡ true → (a ≡ true) × (b ≡ true)
and_parts true b e = (refl, e)
and_parts false b e = cc

-- Where each of two tests passes, both pass together.
both_true : (a b : Bool) → a ≡ true → b ≡ true → (a && b) ≡ true
both_true a b e f = rw (e, f) refl

-- What follows whether a test passes or not holds.
either : (P : Type 0) (a : Bool) → (a ≡ true → P) → (a ≡ false → P) → P
either P true f g = f refl
either P false f g = g refl

-- All of the lines have this length.
abbrev All : ℕ → List (List ℕ) → Bool
All n lines = list_all (λ l. length l == n) lines

-- Where all lines have one length, the first of them has it.
firsts : (n : ℕ) (lines : List (List ℕ)) → 0 < length lines → All n lines ≡ true → first_length lines ≡ n
firsts n [] some e = absurd (omega arith)
firsts n (l ∷ lines) some e = eqb-true (length l) n (and_parts (length l == n) (All n lines) e).0

-- Where all lines have one length, the last of them has it.
lasts : (n : ℕ) (lines : List (List ℕ)) → 0 < length lines → All n lines ≡ true → last_length lines ≡ n
lasts n [] some e = absurd (omega arith)
lasts n (l ∷ []) some e = eqb-true (length l) n (and_parts (length l == n) true e).0
lasts n (l ∷ m ∷ lines) some e = lasts n (m ∷ lines) (omega arith) (and_parts (length l == n) (All n (m ∷ lines)) e).1

-- Where all lines have one length, none of the ended ones differs from it.
not_differ : (n : ℕ) (lines : List (List ℕ)) (rest : List ℕ) → All n (lines ++ last_line rest) ≡ true →
    differ n lines ≡ false
not_differ n [] rest e = refl
not_differ n (l ∷ lines) rest e =
    let parts = and_parts (length l == n) (All n (lines ++ last_line rest)) e in
    rw parts.0 (not_differ n lines rest parts.1)

-- Where there are no lines, the first and the last have the length 0.
all_none : (n : ℕ) (lines : List (List ℕ)) → length lines ≡ 0 → (first_length lines ≡ 0) × (last_length lines ≡ 0)
all_none n [] e = (refl, refl)
all_none n (l ∷ lines) e = absurd (omega arith)

-- Where neither the failing of a first test nor the passing of a second holds, the first passes and the second fails.
neither : (a : Bool) (b : Bool) → (not a || b) ≡ false → (a ≡ true) × (b ≡ false)
neither true b e = (refl, e)
neither false b e = cc

-- Lines that don't differ from one length, and whose last one has it too, all have it.
all_by : (n : ℕ) (lines : List (List ℕ)) (rest : List ℕ) → differ n lines ≡ false →
    last_length (lines ++ last_line rest) ≡ n → All n (lines ++ last_line rest) ≡ true
all_by n [] [] d e = refl
all_by n [] (x ∷ r) d e = both_true (length (x ∷ r) == n) true (eq-eqb (length (x ∷ r)) n e) refl
all_by n (l ∷ []) [] d e = both_true (length l == n) true (neither (length l == n) false d).0 refl
all_by n (l ∷ []) (x ∷ r) d e =
    both_true (length l == n) _ (neither (length l == n) false d).0
    (both_true (length (x ∷ r) == n) true (eq-eqb (length (x ∷ r)) n e) refl)
all_by n (l ∷ m ∷ lines) rest d e =
    let parts = neither (length l == n) (differ n (m ∷ lines)) d in
    both_true (length l == n) (All n ((m ∷ lines) ++ last_line rest)) parts.0 (all_by n (m ∷ lines) rest parts.1 e)

-- Where lines are square, the first and the last are as long as the lines are many, and the lines don't differ.
pub square_tells : (lines : List (List ℕ)) (rest : List ℕ) → is_square (lines ++ last_line rest) ≡ true
    → (first_length (lines ++ last_line rest) ≡ length (lines ++ last_line rest))
    × (last_length (lines ++ last_line rest) ≡ length (lines ++ last_line rest))
    × (differ (first_length (lines ++ last_line rest)) lines ≡ false)
square_tells lines rest e = go (length (lines ++ last_line rest) == 0) refl
  where
    all : List (List ℕ)
    all = lines ++ last_line rest

    go : (t : Bool) → (length (lines ++ last_line rest) == 0) ≡ t
        → (first_length (lines ++ last_line rest) ≡ length (lines ++ last_line rest))
        × (last_length (lines ++ last_line rest) ≡ length (lines ++ last_line rest))
        × (differ (first_length (lines ++ last_line rest)) lines ≡ false)
    go true z =
        let n = eqb-true (length (lines ++ last_line rest)) 0 z in
        let none = all_none 0 (lines ++ last_line rest) n in
        let first : first_length (lines ++ last_line rest) ≡ length (lines ++ last_line rest) = none.0 ∙ sym n in (
          first,
          none.1 ∙ sym n,
          ap (λ k. differ k lines) first
              ∙ not_differ (length (lines ++ last_line rest)) lines rest e,
        )
    go false z =
        let n = eqb-false (length (lines ++ last_line rest)) 0 z in
        let first = firsts (length (lines ++ last_line rest)) (lines ++ last_line rest) (omega arith) e in (
          first,
          lasts (length (lines ++ last_line rest)) (lines ++ last_line rest) (omega arith) e,
          ap (λ k. differ k lines) first ∙ not_differ (length (lines ++ last_line rest)) lines rest e,
        )

-- Lines that don't differ are square if the first and the last are as long as the lines are many.
pub square_by_facts : (lines : List (List ℕ)) (rest : List ℕ) →
    differ (first_length (lines ++ last_line rest)) lines ≡ false
    → last_length (lines ++ last_line rest) ≡ first_length (lines ++ last_line rest) →
    first_length (lines ++ last_line rest) ≡ length (lines ++ last_line rest)
    → is_square (lines ++ last_line rest) ≡ true
square_by_facts lines rest d e f =
    let all = all_by (first_length (lines ++ last_line rest)) lines rest d e in
    subst (λ n. All n (lines ++ last_line rest) ≡ true) f all

-- A grid by its size and its rows is the grid by its size and its lines.
same_sized : (size : Option SizeRow) (lines : List (List ℕ)) →
    grid_of_size size lines ≡ sized_rows size (length lines) (rows_of lines)
same_sized (Some size) lines = refl
same_sized None lines = refl

-- What the lines of a record come to follows from their tests.
pub tested_meaning : (lines : List (List ℕ)) (rest : List ℕ) (h g s d : Bool)
    → is_square (lines ++ last_line rest) ≡ s → differ (first_length (lines ++ last_line rest)) lines ≡ d
    → (if h then Err fault.Character else if g then Err fault.Large else if is_square (lines ++ last_line rest)
    then grid_of_size (row_with_side (length (lines ++ last_line rest))) (lines ++ last_line rest)
    else Err fault.NotSquare)
    ≡ meaning_of (by_tests h g lines (lines ++ last_line rest))
tested_meaning lines rest true g s d es ed = refl
tested_meaning lines rest false true s d es ed = refl
tested_meaning lines rest false false true d es ed =
    let tells = square_tells lines rest es in
    let last : (last_length (lines ++ last_line rest) == first_length (lines ++ last_line rest)) ≡ true =
    eq-eqb _ _ (tells.1 ∙ sym tells.0) in
    let first : (first_length (lines ++ last_line rest) == length (lines ++ last_line rest)) ≡ true =
    eq-eqb _ _ tells.0 in
    rw (es, tells.2, last, first) (same_sized (row_with_side (length (lines ++ last_line rest)))
    (lines ++ last_line rest))
tested_meaning lines rest false false false true es ed =
    rw (es, ed) (sym (none (last_length (lines ++ last_line rest) == first_length (lines ++ last_line rest)
    && first_length (lines ++ last_line rest) == length (lines ++ last_line rest)) (length (lines ++ last_line rest))))
  where
    none : (t : Bool) (c : ℕ) → cells_meaning t c None ≡ Err fault.NotSquare
    none true c = refl
    none false c = refl
tested_meaning lines rest false false false false es ed =
    let never =
    not_both (last_length (lines ++ last_line rest) == first_length (lines ++ last_line rest))
    (first_length (lines ++ last_line rest) == length (lines ++ last_line rest))
    (λ e f. let s = square_by_facts lines rest ed (eqb-true _ _ e) (eqb-true _ _ f) in cc) in
    rw (es, ed, never) refl
  where
    not_both : (a b : Bool) → (a ≡ true → b ≡ true → ⊥) → (a && b) ≡ false
    not_both true true n = absurd (n refl refl)
    not_both true false n = refl
    not_both false b n = refl

-- A record means what its contents mean.
pub meaning_is : (lines : List (List ℕ)) (rest : List ℕ) →
    record_of (lines ++ last_line rest) ≡ meaning_of (contents_of lines rest)
meaning_is lines rest =
    tested_meaning lines rest (has_foreign (lines ++ last_line rest)) (is_large (lines ++ last_line rest))
    (is_square (lines ++ last_line rest))
    (differ (first_length (lines ++ last_line rest)) lines) refl refl
