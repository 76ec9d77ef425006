-- The program's statuses after the parts of a text that is cut between records, or between message lines.
use Rattle.std.specs.Prelude.{ℕ, max, List, [], ◌∷◌, Ok}
use Rattle.dm_text.specs.declared.Tally.{Tally}
use Rattle.dm_command.specs.Endings.{IsEndingOf}

-- The largest number of a list is 0 if the list is empty.
abbrev pub largest : List ℕ → ℕ
largest [] = 0
largest (number ∷ numbers) = max number (largest numbers)

-- The program ends with this status after a run with this tally, and says nothing on standard error.
abbrev pub EndsWith : Tally → ℕ → Type 0
EndsWith tally status = IsEndingOf (Ok tally) status []
