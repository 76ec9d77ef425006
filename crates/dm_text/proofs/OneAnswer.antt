-- Each record and each message line has only one answer.
use Rattle.std.proofs.Common.{◌≡◌, ℕ, List, Option, Ok, Err, ap, sym, ◌∙◌}
use Rattle.dm_symbol.specs.declared.Item.{Item}
use Rattle.dm_symbol.specs.declared.Profile.{Profile}
use Rattle.dm_symbol.proofs.Exported.{one_given, one_normal_result, normal_grid_fits, normal_grid_is_one}
use Rattle.dm_text.specs.declared.task.Task.{Task}
use Rattle.dm_text.specs.declared.task.Task.TheVariants.{Read, Check, Normal, Write, Table}
use Rattle.dm_text.specs.RecordFeeds.{RecordMeaning}
use Rattle.dm_text.specs.LineFeeds.{LineMeaning}
use Rattle.dm_text.specs.Answers.{Answer, IsCheckAnswer, IsMessageAnswer, IsNormalAnswer, IsReadAnswer, IsRecordAnswer}
use Rattle.dm_text.specs.Answers.{IsWriteAnswer, checking_answer, grid_answer, border_limit_for, normal_grid}
use Rattle.dm_text.specs.Answers.{normalising_answer, reading_answer, too_long}

-- Where messages are asked for, a record has only one answer.
one_read_answer : (border : Option ℕ) (r : RecordMeaning) (a b : Answer) → IsReadAnswer border r a →
    IsReadAnswer border r b → a ≡ b
one_read_answer border (Ok grid) a b (x, p, e) (y, q, f) =
    e ∙ ap reading_answer (one_given grid (border_limit_for border grid.size.side) x y p q) ∙ sym f
one_read_answer border (Err why) a b e f = e ∙ sym f

-- Where it is asked how damaged grids are, a record has only one answer.
one_check_answer : (border : Option ℕ) (r : RecordMeaning) (a b : Answer) → IsCheckAnswer border r a →
    IsCheckAnswer border r b → a ≡ b
one_check_answer border (Ok grid) a b (x, p, e) (y, q, f) =
    e ∙ ap (checking_answer grid.size.side) (one_given grid (border_limit_for border grid.size.side) x y p q)
    ∙ sym f
one_check_answer border (Err why) a b e f = e ∙ sym f

-- Where normal grids are asked for, a record has only one answer.
one_normalising_answer : (border : Option ℕ) (profile : Profile) (r : RecordMeaning) (a b : Answer) →
    IsNormalAnswer border profile r a → IsNormalAnswer border profile r b → a ≡ b
one_normalising_answer border profile (Ok grid) a b (x, p, e) (y, q, f) =
    e ∙ ap normalising_answer (one_normal_result profile grid (border_limit_for border grid.size.side) x y p q)
    ∙ sym f
one_normalising_answer border profile (Err why) a b e f = e ∙ sym f

-- A record has only one answer, whatever the task.
pub one_record_answer : (task : Task) (r : RecordMeaning) (a b : Answer) → IsRecordAnswer task r a →
    IsRecordAnswer task r b → a ≡ b
one_record_answer (Read border) r a b p q = one_read_answer border r a b p q
one_record_answer (Check border) r a b p q = one_check_answer border r a b p q
one_record_answer (Normal border profile) r a b p q = one_normalising_answer border profile r a b p q
one_record_answer (Write profile) r a b p q = absurd p
one_record_answer Table r a b p q = absurd p

-- A message has only one answer.
one_message_answer : (profile : Profile) (message : List Item) (a b : Answer) → IsMessageAnswer profile message a →
    IsMessageAnswer profile message b → a ≡ b
one_message_answer profile message a b (normal_grid g p e) (normal_grid h q f) =
    e ∙ ap grid_answer (normal_grid_is_one profile message g h p q) ∙ sym f
one_message_answer profile message a b (normal_grid g p e) (too_long none f) =
    absurd (none (normal_grid_fits profile message g p))
one_message_answer profile message a b (too_long none e) (normal_grid h q f) =
    absurd (none (normal_grid_fits profile message h q))
one_message_answer profile message a b (too_long none e) (too_long never f) = e ∙ sym f

-- A message line has only one answer.
pub one_line_answer : (profile : Profile) (r : LineMeaning) (a b : Answer) → IsWriteAnswer profile r a →
    IsWriteAnswer profile r b → a ≡ b
one_line_answer profile (Ok message) a b p q = one_message_answer profile message a b p q
one_line_answer profile (Err why) a b e f = e ∙ sym f
