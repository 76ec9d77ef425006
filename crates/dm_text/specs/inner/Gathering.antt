-- Answers that are gathered, to be written together.
use Rattle.std.specs.Prelude.{◌≡◌, ℕ, Bool, List, ◌++◌, Option}
use Rattle.std.specs.Io.KnownBytes.{Appends}
use Rattle.dm_text.specs.Answers.{Answer}

-- Of the bytes that were held before, followed by these, the known bytes
-- of a device grow by the first, and the rest is held.
abbrev pub IsPassedOn : Option (List ℕ) → List ℕ → List ℕ → Option (List ℕ) → List ℕ → Type 0
IsPassedOn old before bytes new after = (passed : List ℕ) × (before ++ bytes ≡ passed ++ after) × Appends old new passed

-- Answers that are gathered are their texts, one after another, and the mark of the last one, whether it is a refusal.
pub record GatheredAnswers : Type 0 where
  pub text : List ℕ
  pub refused : Bool

-- This answer is gathered behind the others.
abbrev pub Gathers : GatheredAnswers → Answer → GatheredAnswers → Type 0
Gathers old answer new = (new.text ≡ old.text ++ answer.text) × (new.refused ≡ answer.refused)
