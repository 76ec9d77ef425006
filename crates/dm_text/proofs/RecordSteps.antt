-- The facts of an open record, as it grows.
use Rattle.std.proofs.Common.{◌≡◌, ◌∙◌, ◌+◌, ◌<◌, ℕ, suc, Bool, true, false, not, List, [], ◌∷◌, ◌++◌, Option, Some}
use Rattle.std.proofs.Common.{None, refl, sym, ap, append-nil, length, length-append, map, arith, inl, inr}
use Rattle.std.specs.Prelude.{◌==◌, ◌||◌, nat_lt, if◌then◌else◌, option_map}
use Rattle.std.specs.List.{list_any}
use Rattle.std.proofs.lemmas.Bool.{eqb-true, cases_lt, lt-ltb, le-ltb}
use Rattle.std.proofs.lemmas.List.{map-append}
use Rattle.std.proofs.lemmas.List.Folds.{list_any-append}
use Rattle.dm_symbol.specs.Sizes.{largest_side}
use Rattle.dm_text.specs.Texts.{last_line}
use Rattle.dm_text.specs.Records.{is_foreign, has_foreign, is_large, rows_of}
use Rattle.dm_text.specs.RecordFacts.{RecordContents, Foreign, Large, Cells, RecordFacts, cells_of_lines, contents_of}
use Rattle.dm_text.specs.RecordFacts.{differ, facts_of_record, first_length, last_length, is_nothing}
use Rattle.dm_text.specs.inner.OpenRecords.{is_dark}

-- ---- what one more character does to facts

-- The last row has one more cell.
abbrev pub last_longer : Bool → List (List Bool) → List (List Bool)
last_longer d [] = []
last_longer d (r ∷ []) = (r ++ d ∷ []) ∷ []
last_longer d (r ∷ s ∷ rows) = r ∷ last_longer d (s ∷ rows)

-- One more cell comes into a new line, or into the last one.
abbrev pub cells_step : Bool → ℕ → ℕ → ℕ → Option (List (List Bool)) → ℕ → RecordContents
cells_step true c f l rows b =
    if nat_lt largest_side (c + 1) then Large
    else Cells (c + 1) (if c == 0 then 1 else f) 1 (option_map (λ r. r ++ (is_dark b ∷ []) ∷ []) rows)
cells_step false c f l rows b =
    if nat_lt largest_side (l + 1) then Large
    else Cells c (if c == 1 then l + 1 else f) (l + 1) (option_map (last_longer (is_dark b)) rows)

-- One more character comes into a new line, or into the last one.
abbrev pub character_step : Bool → RecordContents → ℕ → RecordContents
character_step begins Foreign b = Foreign
character_step begins Large b = if is_foreign b then Foreign else Large
character_step begins (Cells c f l rows) b = if is_foreign b then Foreign else cells_step begins c f l rows b

-- The contents have no line.
abbrev pub no_lines : RecordContents → Bool
no_lines Foreign = false
no_lines Large = false
no_lines (Cells c f l rows) = c == 0

-- The facts of a record with one more character: the record hasn't ended, and its contents are what the step gives.
abbrev pub character_facts : RecordFacts → ℕ → RecordFacts
character_facts facts b =
    record { ended = false; contents = character_step (facts.ended || no_lines facts.contents) facts.contents b }

-- The last line of the contents ends.
abbrev pub end_step : RecordContents → RecordContents
end_step Foreign = Foreign
end_step Large = Large
end_step (Cells c f l rows) = Cells c f l (if l == f then rows else None)

-- ---- tests of lines

-- A test or a false one passes exactly if the test does.
pub or_false : (a : Bool) → (a || false) ≡ a
or_false true = refl
or_false false = refl

-- It doesn't matter how three tests are grouped, of which one has to pass.
or_assoc : (a b c : Bool) → (a || (b || c)) ≡ ((a || b) || c)
or_assoc true b c = refl
or_assoc false b c = refl

-- Some of the lines and a last one pass a test if some of the lines do or the last one does.
pub any_last : (p : List ℕ → Bool) (lines : List (List ℕ)) (line : List ℕ) →
    list_any p (lines ++ line ∷ []) ≡ (list_any p lines || p line)
any_last p lines line = list_any-append p lines (line ∷ []) ∙ ap (λ t. list_any p lines || t) (or_false (p line))

-- Some byte of a line and a further one passes a test if one of the line does or the further one does.
pub any_byte : (p : ℕ → Bool) (line : List ℕ) (b : ℕ) → list_any p (line ++ b ∷ []) ≡ (list_any p line || p b)
any_byte p line b = list_any-append p line (b ∷ []) ∙ ap (λ t. list_any p line || t) (or_false (p b))

-- With a new line of one character, lines are foreign if they were or the character is.
pub foreign_new : (lines : List (List ℕ)) (b : ℕ) →
    has_foreign (lines ++ (b ∷ []) ∷ []) ≡ (has_foreign lines || is_foreign b)
foreign_new lines b =
    any_last (list_any is_foreign) lines (b ∷ []) ∙ ap (λ t. has_foreign lines || t) (or_false (is_foreign b))

-- With one more character in the last line, lines are foreign if they were or the character is.
pub foreign_more : (lines : List (List ℕ)) (line : List ℕ) (b : ℕ) →
    has_foreign (lines ++ (line ++ b ∷ []) ∷ []) ≡ (has_foreign (lines ++ line ∷ []) || is_foreign b)
foreign_more lines line b =
    any_last (list_any is_foreign) lines (line ++ b ∷ [])
    ∙ ap (λ t. has_foreign lines || t) (any_byte is_foreign line b)
    ∙ or_assoc (has_foreign lines) (list_any is_foreign line) (is_foreign b)
    ∙ ap (λ t. t || is_foreign b) (sym (any_last (list_any is_foreign) lines line))

-- A line is too long if it is longer than the largest side.
abbrev pub long : List ℕ → Bool
long line = nat_lt largest_side (length line)

-- Where one of two tests has to pass and none does, each of them fails.
pub or_cases : (a b : Bool) → (a || b) ≡ false → (a ≡ false) × (b ≡ false)
or_cases true b e = cc
or_cases false b e = (refl, e)

-- One of two tests passes if the second does.
pub or_right : (a b : Bool) → b ≡ true → (a || b) ≡ true
or_right true b e = refl
or_right false b e = e

-- One of two tests passes if the first does.
pub or_left : (a b : Bool) → a ≡ true → (a || b) ≡ true
or_left true b e = refl
or_left false b e = cc

-- Where one of two tests passes, what follows from each of them holds.
or_either : (P : Type 0) (a b : Bool) → (a || b) ≡ true → (a ≡ true → P) → (b ≡ true → P) → P
or_either P true b e f g = f refl
or_either P false b e f g = g e

-- Lines and one more are one more than the lines.
pub count_new : (lines : List (List ℕ)) (line : List ℕ) → length (lines ++ line ∷ []) ≡ length lines + 1
count_new lines line = length-append lines (line ∷ [])

-- What is above the largest side stays so with 1 added.
lt_more : (n : ℕ) → nat_lt largest_side n ≡ true → nat_lt largest_side (n + 1) ≡ true
lt_more n e = elim (cases_lt largest_side n) [
  | inl lt ↦ lt-ltb largest_side (n + 1) (omega arith)
  | inr ge ↦ let h : nat_lt largest_side n ≡ false = le-ltb largest_side n ge in cc
]

-- Lines that are too large stay so with a new line.
pub large_new : (lines : List (List ℕ)) (b : ℕ) → is_large lines ≡ true → is_large (lines ++ (b ∷ []) ∷ []) ≡ true
large_new lines b e =
    rw (count_new lines (b ∷ []), any_last long lines (b ∷ []))
    (or_either ((nat_lt largest_side (length lines + 1) || (list_any long lines || long (b ∷ []))) ≡ true)
    (nat_lt largest_side (length lines)) (list_any long lines) e
    (λ h. or_left _ (list_any long lines || long (b ∷ [])) (lt_more (length lines) h))
    (λ h. or_right (nat_lt largest_side (length lines + 1)) _ (or_left _ (long (b ∷ [])) h)))

-- Lines that aren't too large become so with a new line of one character only by their number.
pub large_count : (lines : List (List ℕ)) (b : ℕ) → is_large lines ≡ false →
    is_large (lines ++ (b ∷ []) ∷ []) ≡ nat_lt largest_side (length lines + 1)
large_count lines b e =
    let parts = or_cases (nat_lt largest_side (length lines)) (list_any long lines) e in
    rw (count_new lines (b ∷ []), any_last long lines (b ∷ []), parts.1)
    (or_false (nat_lt largest_side (length lines + 1)))

-- A line that is too long stays so with one more character.
long_more : (line : List ℕ) (b : ℕ) → long line ≡ true → long (line ++ b ∷ []) ≡ true
long_more line b e = rw (length-append line (b ∷ [])) (lt_more (length line) e)

-- Lines that are too large stay so with one more character in the last of them.
pub large_more : (lines : List (List ℕ)) (line : List ℕ) (b : ℕ) → is_large (lines ++ line ∷ []) ≡ true →
    is_large (lines ++ (line ++ b ∷ []) ∷ []) ≡ true
large_more lines line b e =
    let before : (nat_lt largest_side (length lines + 1) || (list_any long lines || long line)) ≡ true =
    rw (count_new lines line, any_last long lines line) at e in
    rw (count_new lines (line ++ b ∷ []), any_last long lines (line ++ b ∷ []))
    (or_either ((nat_lt largest_side (length lines + 1) || (list_any long lines || long (line ++ b ∷ []))) ≡ true)
    (nat_lt largest_side (length lines + 1)) (list_any long lines || long line) before
    (λ h. or_left _ (list_any long lines || long (line ++ b ∷ [])) h)
    (λ h. or_right (nat_lt largest_side (length lines + 1)) _
    (or_either ((list_any long lines || long (line ++ b ∷ [])) ≡ true) (list_any long lines) (long line) h
    (λ k. or_left _ (long (line ++ b ∷ [])) k) (λ k. or_right (list_any long lines) _ (long_more line b k)))))

-- Lines that aren't too large become so with one more character in the last of them only by its length.
pub large_length : (lines : List (List ℕ)) (line : List ℕ) (b : ℕ) → is_large (lines ++ line ∷ []) ≡ false
    → is_large (lines ++ (line ++ b ∷ []) ∷ []) ≡ nat_lt largest_side (length line + 1)
large_length lines line b e =
    let before : (nat_lt largest_side (length lines + 1) || (list_any long lines || long line)) ≡ false =
    rw (count_new lines line, any_last long lines line) at e in
    let parts = or_cases (nat_lt largest_side (length lines + 1)) (list_any long lines || long line) before in
    let more = or_cases (list_any long lines) (long line) parts.1 in
    rw (
      count_new lines (line ++ b ∷ []),
      any_last long lines (line ++ b ∷ []),
      parts.0,
      more.0,
      length-append line (b ∷ []),
    ) refl

-- ---- lengths and rows

-- The last of lines with one more line is that line.
pub last_new : (lines : List (List ℕ)) (line : List ℕ) → last_length (lines ++ line ∷ []) ≡ length line
last_new [] line = refl
last_new (l ∷ []) line = refl
last_new (l ∷ m ∷ lines) line = last_new (m ∷ lines) line

-- A successor isn't 0.
pub not_zero : (n : ℕ) → (suc n == 0) ≡ false
not_zero n = go (suc n == 0) refl
  where
    go : (t : Bool) → (suc n == 0) ≡ t → (suc n == 0) ≡ false
    go true e = let h = eqb-true (suc n) 0 e in absurd (omega arith)
    go false e = e

-- The successor of a positive number isn't 1.
pub not_one : (n : ℕ) → 0 < n → (suc n == 1) ≡ false
not_one n some = go (suc n == 1) refl
  where
    go : (t : Bool) → (suc n == 1) ≡ t → (suc n == 1) ≡ false
    go true e = let h = eqb-true (suc n) 1 e in absurd (omega arith)
    go false e = e

-- The first of lines with one more line is the first of them, or that line if there was none.
pub first_new : (lines : List (List ℕ)) (line : List ℕ) →
    first_length (lines ++ line ∷ []) ≡ (if length lines == 0 then length line else first_length lines)
first_new [] line = refl
first_new (l ∷ lines) line = rw (not_zero (length lines)) refl

-- Whether ended lines differ doesn't depend on a line after them.
pub differ_new : (lines : List (List ℕ)) (line : List ℕ) →
    differ (first_length (lines ++ line ∷ [])) lines ≡ differ (first_length lines) lines
differ_new [] line = refl
differ_new (l ∷ lines) line = refl

-- A new line of one character adds a row of one cell.
rows_new : (lines : List (List ℕ)) (b : ℕ) → rows_of (lines ++ (b ∷ []) ∷ []) ≡ rows_of lines ++ (is_dark b ∷ []) ∷ []
rows_new lines b = map-append (map is_dark) lines ((b ∷ []) ∷ [])

-- One more character in the last line makes the last row one cell longer.
rows_more : (lines : List (List ℕ)) (line : List ℕ) (b : ℕ) →
    rows_of (lines ++ (line ++ b ∷ []) ∷ []) ≡ last_longer (is_dark b) (rows_of (lines ++ line ∷ []))
rows_more [] line b = ap (λ r. r ∷ []) (map-append is_dark line (b ∷ []))
rows_more (l ∷ []) line b = ap (λ r. map is_dark l ∷ r ∷ []) (map-append is_dark line (b ∷ []))
rows_more (l ∷ m ∷ lines) line b = ap (λ r. map is_dark l ∷ r) (rows_more (m ∷ lines) line b)

-- Changing what is kept, unless something differs, changes the rows that are kept.
map_kept : (t : Bool) (f : List (List Bool) → List (List Bool)) (rows more : List (List Bool)) → more ≡ f rows
    → (if t then None else Some more) ≡ option_map f (if t then None else Some rows)
map_kept true f rows more e = refl
map_kept false f rows more e = ap Some e

-- ---- contents by their tests

-- The contents of lines follow from two tests: foreign, too large, or cells.
abbrev pub by_tests : Bool → Bool → List (List ℕ) → List (List ℕ) → RecordContents
by_tests h g done all = if h then Foreign else if g then Large else cells_of_lines done all

-- The contents of lines by their own tests.
abbrev pub tested : List (List ℕ) → List (List ℕ) → RecordContents
tested done all = by_tests (has_foreign all) (is_large all) done all

-- Cells with equal parts are equal.
pub same_cells : (c d f g l m : ℕ) (r s : Option (List (List Bool))) → c ≡ d → f ≡ g → l ≡ m → r ≡ s →
    Cells c f l r ≡ Cells d g m s
same_cells c d f g l m r s e h i j = cc

-- A new line of one character changes the cells of lines as the step of a new line says.
cells_new : (lines : List (List ℕ)) (b : ℕ) → cells_of_lines lines (lines ++ (b ∷ []) ∷ [])
    ≡ Cells (length lines + 1) (if length lines == 0 then 1 else first_length lines) 1
    (option_map (λ r. r ++ (is_dark b ∷ []) ∷ [])
    (if differ (first_length lines) lines then None else Some (rows_of lines)))
cells_new lines b =
    same_cells _ _ _ _ _ _ _ _ (count_new lines (b ∷ [])) (first_new lines (b ∷ [])) (last_new lines (b ∷ []))
    (ap (λ t. if t then None else Some (rows_of (lines ++ (b ∷ []) ∷ []))) (differ_new lines (b ∷ []))
    ∙ map_kept (differ (first_length lines) lines) (λ r. r ++ (is_dark b ∷ []) ∷ []) (rows_of lines)
    (rows_of (lines ++ (b ∷ []) ∷ [])) (rows_new lines b))

-- A new line of one character changes the contents of lines, by their tests, as the step says.
tested_new : (lines : List (List ℕ)) (b : ℕ) (h f g : Bool) → has_foreign lines ≡ h → is_foreign b ≡ f →
    is_large lines ≡ g
    → tested lines (lines ++ (b ∷ []) ∷ []) ≡ character_step true (by_tests h g lines lines) b
tested_new lines b true f g eh ef eg = rw (foreign_new lines b, eh) refl
tested_new lines b false true true eh ef eg = rw (foreign_new lines b, eh, ef) refl
tested_new lines b false true false eh ef eg = rw (foreign_new lines b, eh, ef) refl
tested_new lines b false false true eh ef eg = rw (foreign_new lines b, eh, ef, large_new lines b eg) refl
tested_new lines b false false false eh ef eg =
    rw (foreign_new lines b, eh, ef, large_count lines b eg)
    (ap (λ X. if nat_lt largest_side (length lines + 1) then Large else X) (cells_new lines b))

-- The contents with a character in a new line are what the step gives.
contents_new : (lines : List (List ℕ)) (b : ℕ) →
    contents_of lines (b ∷ []) ≡ character_step true (contents_of lines []) b
contents_new lines b = tested_new lines b (has_foreign lines) (is_foreign b) (is_large lines) refl refl refl
    ∙ ap (λ all. character_step true (tested lines all) b) (sym (append-nil lines))

-- One more character in the last line makes the first line longer only if it is that line.
pub first_more : (lines : List (List ℕ)) (line : List ℕ) (b : ℕ)
    → first_length (lines ++ (line ++ b ∷ []) ∷ []) ≡
    (if length (lines ++ line ∷ []) == 1 then length line + 1 else first_length (lines ++ line ∷ []))
first_more [] line b = length-append line (b ∷ [])
first_more (l ∷ lines) line b =
    let some : 0 < length (lines ++ line ∷ []) = rw (count_new lines line) (omega arith) in
    rw (not_one (length (lines ++ line ∷ [])) some) refl

-- One more character in the last line doesn't change whether ended lines differ from the first.
pub differ_more : (lines : List (List ℕ)) (line : List ℕ) (b : ℕ) →
    differ (first_length (lines ++ (line ++ b ∷ []) ∷ [])) lines ≡ differ (first_length (lines ++ line ∷ [])) lines
differ_more [] line b = refl
differ_more (l ∷ lines) line b = refl

-- One more character in the last line changes the cells of lines as the step of the last line says.
cells_more : (lines : List (List ℕ)) (line : List ℕ) (b : ℕ) → cells_of_lines lines (lines ++ (line ++ b ∷ []) ∷ [])
    ≡ Cells (length (lines ++ line ∷ [])) (if length (lines ++ line ∷ []) == 1 then length line + 1
    else first_length (lines ++ line ∷ [])) (length line + 1)
    (option_map (last_longer (is_dark b)) (if differ (first_length (lines ++ line ∷ [])) lines then None
    else Some (rows_of (lines ++ line ∷ []))))
cells_more lines line b =
    same_cells _ _ _ _ _ _ _ _ (count_new lines (line ++ b ∷ []) ∙ sym (count_new lines line)) (first_more lines line b)
    (last_new lines (line ++ b ∷ []) ∙ length-append line (b ∷ []))
    (ap (λ t. if t then None else Some (rows_of (lines ++ (line ++ b ∷ []) ∷ []))) (differ_more lines line b)
    ∙ map_kept (differ (first_length (lines ++ line ∷ [])) lines) (last_longer (is_dark b))
    (rows_of (lines ++ line ∷ [])) (rows_of (lines ++ (line ++ b ∷ []) ∷ [])) (rows_more lines line b))

-- One more character in the last line changes the contents of lines, by their tests, as the step says.
tested_more : (lines : List (List ℕ)) (line : List ℕ) (b : ℕ) (h f g : Bool) → has_foreign (lines ++ line ∷ []) ≡ h →
    is_foreign b ≡ f → is_large (lines ++ line ∷ []) ≡ g
    → tested lines (lines ++ (line ++ b ∷ []) ∷ []) ≡ character_step false (by_tests h g lines (lines ++ line ∷ [])) b
tested_more lines line b true f g eh ef eg = rw (foreign_more lines line b, eh) refl
tested_more lines line b false true true eh ef eg = rw (foreign_more lines line b, eh, ef) refl
tested_more lines line b false true false eh ef eg = rw (foreign_more lines line b, eh, ef) refl
tested_more lines line b false false true eh ef eg =
    rw (foreign_more lines line b, eh, ef, large_more lines line b eg) refl
tested_more lines line b false false false eh ef eg =
    rw (foreign_more lines line b, eh, ef, large_length lines line b eg, last_new lines line)
    (ap (λ X. if nat_lt largest_side (length line + 1) then Large else X) (cells_more lines line b))

-- The contents with a character in the last line are what the step gives.
contents_more : (lines : List (List ℕ)) (x : ℕ) (r : List ℕ) (b : ℕ) →
    contents_of lines ((x ∷ r) ++ b ∷ []) ≡ character_step false (contents_of lines (x ∷ r)) b
contents_more lines x r b =
    tested_more lines (x ∷ r) b (has_foreign (lines ++ (x ∷ r) ∷ [])) (is_foreign b) (is_large (lines ++ (x ∷ r) ∷ []))
    refl refl refl

-- What is kept unless one of two things differs is kept where neither does.
not_same : (a b : Bool) (X : Option (List (List Bool))) →
    (if (a || not b) then None else X) ≡ (if b then (if a then None else X) else None)
not_same true true X = refl
not_same true false X = refl
not_same false true X = refl
not_same false false X = refl

-- An LF after the last line changes the cells of lines as the step of an end says.
cells_end : (lines : List (List ℕ)) (line : List ℕ) →
    cells_of_lines (lines ++ line ∷ []) (lines ++ line ∷ []) ≡ end_step (cells_of_lines lines (lines ++ line ∷ []))
cells_end lines line =
    let f = first_length (lines ++ line ∷ []) in
    same_cells _ _ _ _ _ _ _ _ refl refl refl
    (ap (λ t. if t then None else Some (rows_of (lines ++ line ∷ []))) (any_last (λ l. not (length l == f)) lines line)
    ∙ not_same (differ f lines) (length line == f) (Some (rows_of (lines ++ line ∷ [])))
    ∙ ap (λ n. if n == f then (if differ f lines then None else Some (rows_of (lines ++ line ∷ []))) else None)
    (sym (last_new lines line)))

-- An LF after the last line changes the contents of lines, by their tests, as the step of an end says.
tested_end : (lines : List (List ℕ)) (line : List ℕ) (h g : Bool) →
    by_tests h g (lines ++ line ∷ []) (lines ++ line ∷ []) ≡ end_step (by_tests h g lines (lines ++ line ∷ []))
tested_end lines line true g = refl
tested_end lines line false true = refl
tested_end lines line false false = cells_end lines line

-- The contents with an LF after the last line are what the step gives.
pub contents_end : (lines : List (List ℕ)) (x : ℕ) (r : List ℕ) →
    contents_of (lines ++ (x ∷ r) ∷ []) [] ≡ end_step (contents_of lines (x ∷ r))
contents_end lines x r =
    ap (tested (lines ++ (x ∷ r) ∷ [])) (append-nil (lines ++ (x ∷ r) ∷ []))
    ∙ tested_end lines (x ∷ r) (has_foreign (lines ++ (x ∷ r) ∷ [])) (is_large (lines ++ (x ∷ r) ∷ []))

-- ---- what contents tell

-- Contents that are cells have passed both tests, and tell the number of lines.
abbrev pub Passed : Bool → Bool → ℕ → ℕ → Type 0
Passed h g n c = (h ≡ false) × (g ≡ false) × (n ≡ c)

-- Where the tests give cells, both have failed, and the number of lines is the cells' own.
passed : (h g : Bool) (n f l c f' l' : ℕ) (r r' : Option (List (List Bool))) →
    (if h then Foreign else if g then Large else Cells n f l r) ≡ Cells c f' l' r' → Passed h g n c
passed true g n f l c f' l' r r' e = cc
passed false true n f l c f' l' r r' e = cc
passed false false n f l c f' l' r r' e = let h : n ≡ c = cc in (refl, refl, h)

-- Lines whose contents are cells are neither foreign nor too large, and as many as the cells say.
pub contents_passed : (lines : List (List ℕ)) (rest : List ℕ) (c f l : ℕ) (rows : Option (List (List Bool))) →
    contents_of lines rest ≡ Cells c f l rows
    → Passed (has_foreign (lines ++ last_line rest)) (is_large (lines ++ last_line rest))
    (length (lines ++ last_line rest)) c
contents_passed lines rest c f l rows e =
    passed (has_foreign (lines ++ last_line rest)) (is_large (lines ++ last_line rest)) _ _ _ c f l _ rows e

-- Where there is no rest, a character comes into a new line: there are no lines yet, or the last has ended.
begins_new : (lines : List (List ℕ)) (C : RecordContents) (b : ℕ) → contents_of lines [] ≡ C
    → character_step true C b ≡ character_step (not (is_nothing lines) || no_lines C) C b
begins_new lines Foreign b e = refl
begins_new lines Large b e = refl
begins_new [] (Cells c f l rows) b e = let h = contents_passed [] [] c f l rows e in rw (← h.2) refl
begins_new (x ∷ lines) (Cells c f l rows) b e = refl

-- Where there is a rest, a character comes into the last line.
begins_more : (lines : List (List ℕ)) (x : ℕ) (r : List ℕ) (C : RecordContents) (b : ℕ) → contents_of lines (x ∷ r) ≡ C
    → character_step false C b ≡ character_step (no_lines C) C b
begins_more lines x r Foreign b e = refl
begins_more lines x r Large b e = refl
begins_more lines x r (Cells c f l rows) b e =
    let h = contents_passed lines (x ∷ r) c f l rows e in
    let n : c ≡ suc (length lines) = sym h.2 ∙ count_new lines (x ∷ r) ∙ omega arith in
    let never : (c == 0) ≡ false = rw n (not_zero (length lines)) in
    ap (λ t. character_step t (Cells c f l rows) b) (sym never)

-- Facts with equal parts are equal.
pub same_facts : (d e : Bool) (c f : RecordContents) → d ≡ e → c ≡ f →
    (let r : RecordFacts = record { ended = d; contents = c } in r) ≡ (let r : RecordFacts =
    record { ended = e; contents = f } in r)
same_facts d e c f p q = cc

-- The facts with one more character are what the step gives.
pub character_is : (lines : List (List ℕ)) (rest : List ℕ) (b : ℕ) →
    facts_of_record lines (rest ++ b ∷ []) ≡ character_facts (facts_of_record lines rest) b
character_is lines [] b =
    same_facts _ _ _ _ refl (contents_new lines b ∙ begins_new lines (contents_of lines []) b refl)
character_is lines (x ∷ r) b =
    same_facts _ _ _ _ refl (contents_more lines x r b ∙ begins_more lines x r (contents_of lines (x ∷ r)) b refl)

-- Lines with one more line are not none.
some_line : (lines : List (List ℕ)) (line : List ℕ) → not (is_nothing (lines ++ line ∷ [])) ≡ true
some_line [] line = refl
some_line (l ∷ lines) line = refl

-- The facts with an LF after the last line are what the step gives.
pub end_is : (lines : List (List ℕ)) (x : ℕ) (r : List ℕ)
    → facts_of_record (lines ++ (x ∷ r) ∷ []) [] ≡ (let f : RecordFacts =
    record { ended = true; contents = end_step (contents_of lines (x ∷ r)) } in f)
end_is lines x r = same_facts _ _ _ _ (some_line lines (x ∷ r)) (contents_end lines x r)

-- Where a record has no line, counting its rest, it has neither lines nor a rest.
pub zero_lines : (lines : List (List ℕ)) (rest : List ℕ) → length (lines ++ last_line rest) ≡ 0 →
    (lines ≡ []) × (rest ≡ [])
zero_lines [] [] e = (refl, refl)
zero_lines [] (x ∷ r) e = absurd (omega arith)
zero_lines (l ∷ lines) rest e = absurd (omega arith)

-- Where no line is counted there are no lines and no rest.
nothing_by : (lines : List (List ℕ)) (rest : List ℕ) (C : RecordContents) → contents_of lines rest ≡ C →
    no_lines C ≡ true → (lines ≡ []) × (rest ≡ [])
nothing_by lines rest Foreign e h = cc
nothing_by lines rest Large e h = cc
nothing_by lines rest (Cells c f l rows) e h =
    zero_lines lines rest ((contents_passed lines rest c f l rows e).2 ∙ eqb-true c 0 h)

-- Where the contents have no line, there are neither lines nor a rest.
pub nothing_lines : (lines : List (List ℕ)) (rest : List ℕ) → no_lines (contents_of lines rest) ≡ true →
    (lines ≡ []) × (rest ≡ [])
nothing_lines lines rest h = nothing_by lines rest (contents_of lines rest) refl h
