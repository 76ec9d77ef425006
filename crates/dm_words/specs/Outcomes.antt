-- What a call leaves in a target, which is memory that its caller hands in.
use Rattle.std.specs.Prelude.{Result, Ok, Err}

-- Where such a call succeeds, its outcome is what it has left in the target; otherwise it is the fault.
abbrev pub outcome : {U A E : Type 0} → Result U E → A → Result A E
outcome (Ok _) left = Ok left
outcome (Err why) left = Err why
