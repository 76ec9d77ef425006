-- Texts that are cut between records, or between message lines, and answered part by part.
use Rattle.std.specs.Prelude.{◌≡◌, ◌⊎◌, ◌+◌, ℕ, List, [], ◌∷◌, ◌++◌}
use Rattle.dm_text.specs.declared.task.Task.{Task}
use Rattle.dm_text.specs.declared.task.Task.TheVariants.{Write}
use Rattle.dm_text.specs.declared.task.Tally.{Tally}
use Rattle.dm_text.specs.Texts.{lf}
use Rattle.dm_text.specs.Runs.{AreMatched, IsOut, tally_of}

-- A text of records ends between them if it is empty or ends with an empty line, and a text of message lines ends
-- between them if it is empty or ends with LF.
abbrev pub EndsBetween : Task → List ℕ → Type 0
EndsBetween (Write profile) text = (text ≡ []) ⊎ ((prefix : List ℕ) × (text ≡ prefix ++ lf ∷ []))
EndsBetween task text = (text ≡ []) ⊎ ((text ≡ lf ∷ []) ⊎ ((prefix : List ℕ) × (text ≡ prefix ++ lf ∷ lf ∷ [])))

-- Each part of a text but the last ends between records, or between message lines.
abbrev pub AreCutBetween : Task → List (List ℕ) → Type 0
AreCutBetween task [] = Unit {0}
AreCutBetween task (part ∷ []) = Unit {0}
AreCutBetween task (part ∷ next ∷ parts) = EndsBetween task part × AreCutBetween task (next ∷ parts)

-- A part of a text has what is written for it, and its tally.
pub record PartOut : Type 0 where
  pub out : List ℕ
  pub tally : Tally

-- For each part is written what would be written for it as a text of its own.
abbrev pub AreOuts : Task → List (List ℕ) → List PartOut → Type 0
AreOuts task parts outs = AreMatched (λ part given. IsOut task part given.out given.tally) parts outs

-- The sum of two tallies adds up their answers and their refusals.
abbrev pub tally_sum : Tally → Tally → Tally
tally_sum s t = record { answered = s.answered + t.answered; refused = s.refused + t.refused }

-- The sum of a list of tallies adds up all their answers and all their refusals.
abbrev pub sum_of : List Tally → Tally
sum_of [] = tally_of []
sum_of (tally ∷ tallies) = tally_sum tally (sum_of tallies)
