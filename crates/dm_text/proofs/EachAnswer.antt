-- Each record and each message line has its answer.
use Rattle.std.proofs.Common.{◌≡◌, ◌∙◌, ℕ, Bool, true, false, List, [], ◌∷◌, Option, Some, None, Ok, Err, inl, inr}
use Rattle.std.proofs.Common.{refl, sym, subst, length, map}
use Rattle.std.specs.Prelude.{◌==◌, if◌then◌else◌}
use Rattle.std.specs.List.{AllByRecursion, list_all}
use Rattle.std.proofs.lemmas.Bool.{and_parts, eqb-true}
use Rattle.std.proofs.lemmas.List.{length-map}
use Rattle.std.proofs.lemmas.List.Elements.{All-from_recursion}
use Rattle.dm_symbol.specs.declared.Item.{Item}
use Rattle.dm_symbol.specs.declared.Profile.{Profile}
use Rattle.dm_symbol.specs.Messages.{IsMessage}
use Rattle.dm_symbol.specs.NormalForm.{normal_form}
use Rattle.dm_symbol.specs.Sizes.{SizeRow, row_for_words, row_with_side}
use Rattle.dm_symbol.specs.Grid.{GridView, IsGrid}
use Rattle.dm_symbol.proofs.Exported.{has_that_side, normal_grid_is_there, read_result_is_there, fits_or_not}
use Rattle.dm_symbol.proofs.Exported.{normal_result_is_there}
use Rattle.dm_text.specs.declared.record.RecordFault.TheVariants as fault
use Rattle.dm_text.specs.declared.task.Task.{Task}
use Rattle.dm_text.specs.declared.task.Task.TheVariants.{Read, Check, Normal, Write, Table}
use Rattle.dm_text.specs.Records.{has_foreign, is_large, is_square, record_of, rows_of, grid_of_size}
use Rattle.dm_text.specs.RecordFeeds.{RecordMeaning}
use Rattle.dm_text.specs.LineFeeds.{LineMeaning}
use Rattle.dm_text.specs.MessageLines.{IsLine}
use Rattle.dm_text.specs.Refusals.{line_refusal, record_refusal, too_long_refusal}
use Rattle.dm_text.specs.Answers.{Answer, IsMessageAnswer, IsRecordAnswer, refusal_in_place_of_grid, checking_answer}
use Rattle.dm_text.specs.Answers.{grid_answer, border_limit_for, normal_grid, normalising_answer, reading_answer}
use Rattle.dm_text.specs.Answers.{refusal_answer, too_long}
use Rattle.dm_text.specs.Runs.{IsAnswerToLine, IsAnswerToRecord}
use Rattle.dm_text.proofs.AnsweredSoFar.{AnswersRecords}
use Rattle.dm_text.proofs.EachLine.{joined_message, line_is_there}

-- ---- the grid of a record

-- Where all lines have one length, so have their rows.
rows_wide : (n side : ℕ) (lines : List (List ℕ)) → side ≡ n → list_all (λ line. length line == n) lines ≡ true
    → AllByRecursion (λ (row : List Bool). length row ≡ side) (rows_of lines)
rows_wide n side [] e h = tt
rows_wide n side (line ∷ lines) e h =
    let parts = and_parts (length line == n) (list_all (λ l. length l == n) lines) h in
    (length-map line (λ b. b == 49) ∙ eqb-true (length line) n parts.0 ∙ sym e, rows_wide n side lines e parts.1)

-- Where the lines are square and there is a size of that side, their rows make a well-formed grid.
sized_grid : (lines : List (List ℕ)) (grid : GridView) (size : Option SizeRow) → row_with_side (length lines) ≡ size →
    is_square lines ≡ true
    → grid_of_size size lines ≡ Ok grid → IsGrid grid
sized_grid lines grid None found square e = cc
sized_grid lines grid (Some size) found square e =
    let here = has_that_side (length lines) size found in
    let made : GridView = record { size = size; rows = rows_of lines } in
    let same : made ≡ grid = cc in
    subst IsGrid same (record {
      row = here.0;
      height = length-map lines (map (λ b. b == 49)) ∙ sym here.1;
      width =
          All-from_recursion (λ (row : List Bool). length row ≡ size.side) (rows_of lines)
          (rows_wide (length lines) size.side lines here.1 square);
    })

-- Whatever the tests of the lines say, a grid that they make is well formed.
by_tests : (lines : List (List ℕ)) (grid : GridView) (foreign large square : Bool) → is_square lines ≡ square
    → (if foreign then Err fault.Character else if large then Err fault.Large else if square
    then grid_of_size (row_with_side (length lines)) lines else Err fault.NotSquare) ≡ Ok grid
    → IsGrid grid
by_tests lines grid true large square s e = cc
by_tests lines grid false true square s e = cc
by_tests lines grid false false false s e = cc
by_tests lines grid false false true s e = sized_grid lines grid (row_with_side (length lines)) refl s e

-- A grid that the lines of a record make is well formed.
record_grid : (lines : List (List ℕ)) (grid : GridView) → record_of lines ≡ Ok grid → IsGrid grid
record_grid lines grid e = by_tests lines grid (has_foreign lines) (is_large lines) (is_square lines) refl e

-- ---- answers

-- A grid, and a fault of a record, has its answer.
record_answer : (task : Task) → AnswersRecords task → (r : RecordMeaning) →
    ((grid : GridView) → r ≡ Ok grid → IsGrid grid) → (answer : Answer) × IsRecordAnswer task r answer
record_answer (Read border) of_grids (Ok grid) is =
    let x = read_result_is_there grid (border_limit_for border grid.size.side) (is grid refl) in
    (reading_answer x.0, (x.0, x.1, refl))
record_answer (Read border) of_grids (Err why) is = (refusal_answer (record_refusal why), refl)
record_answer (Check border) of_grids (Ok grid) is =
    let x = read_result_is_there grid (border_limit_for border grid.size.side) (is grid refl) in
    (checking_answer grid.size.side x.0, (x.0, x.1, refl))
record_answer (Check border) of_grids (Err why) is = (refusal_answer (record_refusal why), refl)
record_answer (Normal border profile) of_grids (Ok grid) is =
    let x = normal_result_is_there profile grid (border_limit_for border grid.size.side) (is grid refl) in
    (normalising_answer x.0, (x.0, x.1, refl))
record_answer (Normal border profile) of_grids (Err why) is = (refusal_in_place_of_grid (record_refusal why), refl)
record_answer (Write profile) of_grids r is = absurd of_grids
record_answer Table of_grids r is = absurd of_grids

-- Each record has its answer.
pub record_is_answered : (task : Task) → AnswersRecords task → (lines : List (List ℕ)) →
    (answer : Answer) × IsAnswerToRecord task lines answer
record_is_answered task of_grids lines = record_answer task of_grids (record_of lines) (record_grid lines)

-- Each message has its answer.
message_answer : (profile : Profile) (message : List Item) → IsMessage message →
    (answer : Answer) × IsMessageAnswer profile message answer
message_answer profile message h =
    elim (fits_or_not (row_for_words (length (normal_form profile message)))) [
      | inl fits ↦ let grid = normal_grid_is_there profile message h fits in
          (grid_answer grid.0, normal_grid grid.0 grid.1 refl)
      | inr none ↦ (refusal_in_place_of_grid too_long_refusal, too_long none refl)
    ]

-- A message line has its answer, whatever it means.
line_answer : (profile : Profile) (line : List ℕ) (message : LineMeaning) → IsLine line message →
    (answer : Answer) × IsAnswerToLine profile line answer
line_answer profile line (Ok message) h =
    let x = message_answer profile message (joined_message message line h.0) in
    (x.0, (Ok message, h, x.1))
line_answer profile line (Err why) h = (refusal_in_place_of_grid (line_refusal why), (Err why, h, refl))

-- Each message line has its answer.
pub line_is_answered : (profile : Profile) (line : List ℕ) → (answer : Answer) × IsAnswerToLine profile line answer
line_is_answered profile line = let means = line_is_there line in line_answer profile line means.0 means.1
