-- The lines of the table of sizes, one by one.
use Rattle.std.proofs.Common.{ℕ, List}
use Rattle.std.specs.Prelude.{map}
use Rattle.dm_symbol.specs.Sizes.{SizeRow}
use Rattle.dm_text.specs.Texts.{ended_lines}
use Rattle.dm_text.specs.Answers.{numbers_of, spaced_text}

-- The table has these lines for these rows.
abbrev pub lines_of : List SizeRow → List ℕ
lines_of rows = ended_lines (map (λ size. spaced_text (numbers_of size)) rows)
