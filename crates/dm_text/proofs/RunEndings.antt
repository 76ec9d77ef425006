-- What a run came to, from what was read and written until it ended.
use Rattle.std.proofs.Common.{◌≡◌, ◌⊎◌, ℕ, Bool, false, List, [], Option, length, refl, sym, subst, Result, Ok, Err}
use Rattle.std.proofs.Common.{IfOk, OnOk, OnErr, IsErrOf}
use Rattle.std.specs.Io.KnownBytes.{Appends}
use Rattle.dm_text.specs.declared.task.Task.{Task}
use Rattle.dm_text.specs.declared.task.Task.TheVariants.{Table}
use Rattle.dm_text.specs.declared.task.Tally.{Tally}
use Rattle.dm_text.specs.declared.task.RunFault.{RunFault}
use Rattle.dm_text.specs.declared.task.RunFault.TheVariants as fault
use Rattle.dm_text.specs.Answers.{table_text}
use Rattle.dm_text.specs.Devices.{AppendsPrefix, HasRisen, IsFlushedOnce}
use Rattle.dm_text.specs.Runs.{IsRun, IsAnswered, HasWrittenPrefix, HasWrittenOutSoFar, IsFlushedAtEnd, IsTooMuch}
use Rattle.dm_text.specs.Runs.{most_asked, tally_of}
use Rattle.dm_text.proofs.Flushes.{table_flushed}
use Rattle.dm_text.proofs.Outcomes.{table_answered, table_broken}

-- A source gave a text, and wasn't asked for more than it may be.
abbrev IsAsked : ℕ → (List ℕ → Type 0) → (ℕ → Type 0) → Type 0
IsAsked most Gave Asked = (text : List ℕ) × Gave text × Asked (most_asked most (length text))

-- Where all is answered and flushed, the run is Ok.
pub ends_well : {task : Task} {most : ℕ} {Gave : List ℕ → Type 0} {Ended : Type 0} {Asked : ℕ →
    Type 0} {r s : ℕ} {old new : Option (List ℕ)}
    {Flushed : List ℕ → Type 0} {pending : Bool} {w v : ℕ} (tally : Tally)
    → IsAnswered task most Gave Ended (Appends old new) tally → pending ≡ false → IsFlushedOnce Flushed old new →
    s ≡ r → v ≡ w → IsAsked most Gave Asked
    → IsRun task most (Ok tally) Gave Ended Asked r s old new Flushed pending w v
ends_well tally answered flushed last read wrote asked = record {
  answered = answered;
  flushed = flushed;
  flushed_last = last;
  well = (read, wrote);
  read = λ is. cc;
  read_failed = λ is. cc;
  read_unflushed = λ is. cc;
  too_much = λ is. cc;
  too_much_well = λ is. cc;
  too_much_unflushed = λ is. cc;
  write = λ is. cc;
  write_failed = λ is. cc;
  write_flushed = λ is. cc;
  asked = asked;
}

-- Where a read failed, what is due so far is written, and nothing flushed.
pub ends_by_read : {task : Task} {most : ℕ} {Gave : List ℕ → Type 0} {Ended : Type 0} {Asked : ℕ →
    Type 0} {r s : ℕ} {old new : Option (List ℕ)}
    {Flushed : List ℕ → Type 0} {pending : Bool} {w v : ℕ}
    → HasWrittenOutSoFar task most Gave (Appends old new) → HasRisen r s → v ≡ w → Flushed [] → IsAsked most Gave Asked
    → IsRun task most (Err fault.Read) Gave Ended Asked r s old new Flushed pending w v
ends_by_read written risen wrote none asked = record {
  answered = tt;
  flushed = tt;
  flushed_last = tt;
  well = tt;
  read = λ is. written;
  read_failed = λ is. (risen, wrote);
  read_unflushed = λ is. none;
  too_much = λ is. cc;
  too_much_well = λ is. cc;
  too_much_unflushed = λ is. cc;
  write = λ is. cc;
  write_failed = λ is. cc;
  write_flushed = λ is. cc;
  asked = asked;
}

-- Where one byte too many came, what is due for those before it is written, and nothing flushed.
pub ends_by_too_much : {task : Task} {most : ℕ} {Gave : List ℕ → Type 0} {Ended : Type 0} {Asked : ℕ →
    Type 0} {r s : ℕ} {old new : Option (List ℕ)}
    {Flushed : List ℕ → Type 0} {pending : Bool} {w v : ℕ}
    → IsTooMuch task most Gave (Appends old new) → s ≡ r → v ≡ w → Flushed [] → IsAsked most Gave Asked
    → IsRun task most (Err fault.TooMuchInput) Gave Ended Asked r s old new Flushed pending w v
ends_by_too_much written read wrote none asked = record {
  answered = tt;
  flushed = tt;
  flushed_last = tt;
  well = tt;
  read = λ is. cc;
  read_failed = λ is. cc;
  read_unflushed = λ is. cc;
  too_much = λ is. written;
  too_much_well = λ is. (read, wrote);
  too_much_unflushed = λ is. none;
  write = λ is. cc;
  write_failed = λ is. cc;
  write_flushed = λ is. cc;
  asked = asked;
}

-- Where a write or a flush failed, a prefix of what is due is written, and a flush was tried at the end alone.
pub ends_by_write : {task : Task} {most : ℕ} {Gave : List ℕ → Type 0} {Ended : Type 0} {Asked : ℕ →
    Type 0} {r s : ℕ} {old new : Option (List ℕ)}
    {Flushed : List ℕ → Type 0} {pending : Bool} {w v : ℕ}
    → HasWrittenPrefix task most Gave Ended (AppendsPrefix old new) → HasRisen w v → s ≡ r →
    IsFlushedAtEnd task most Gave Ended Flushed old new → IsAsked most Gave Asked
    → IsRun task most (Err fault.Write) Gave Ended Asked r s old new Flushed pending w v
ends_by_write began risen read late asked = record {
  answered = tt;
  flushed = tt;
  flushed_last = tt;
  well = tt;
  read = λ is. cc;
  read_failed = λ is. cc;
  read_unflushed = λ is. cc;
  too_much = λ is. cc;
  too_much_well = λ is. cc;
  too_much_unflushed = λ is. cc;
  write = λ is. began;
  write_failed = λ is. (risen, read);
  write_flushed = λ is. late;
  asked = asked;
}

-- Where the table was asked for, nothing is read, and what fails is a write or the flush.
pub ends_table : {task : Task} {most : ℕ} {Gave : List ℕ → Type 0} {Ended : Type 0} {Asked : ℕ →
    Type 0} {r : ℕ} {old new : Option (List ℕ)}
    {Flushed : List ℕ → Type 0} {pending : Bool} {w v : ℕ} (result : Result Tally RunFault) → task ≡ Table → Gave []
    → IfOk result (λ tally. tally ≡ tally_of []) → OnOk result (Appends old new table_text) →
    OnOk result (pending ≡ false) → OnOk result (v ≡ w)
    → OnErr result (AppendsPrefix old new table_text) → OnErr result (HasRisen w v) →
    ((why : RunFault) → IsErrOf result why → why ≡ fault.Write)
    → OnOk result (IsFlushedOnce Flushed old new) →
    OnErr result (Flushed [] ⊎ (IsFlushedOnce Flushed old new × Appends old new table_text)) →
    IsAsked most Gave Asked
    → IsRun task most result Gave Ended Asked r r old new Flushed pending w v
ends_table {task} {most} {Gave} {Ended} {Asked} {r} {old} {new} {Flushed} {pending} {w} {v} (Ok tally) table gave none
    took flushed wrote prefix risen fails held late asked =
    ends_well tally (table_answered task most Gave (Appends old new) Ended (Ok tally) table gave none took) flushed held
    refl wrote asked
ends_table {task} {most} {Gave} {Ended} {Asked} {r} {old} {new} {Flushed} {pending} {w} {v} (Err why) table gave none
    took flushed wrote prefix risen fails held late asked =
    subst (λ e. IsRun task most (Err e) Gave Ended Asked r r old new Flushed pending w v) (sym (fails why refl))
    (ends_by_write (table_broken task most Gave (AppendsPrefix old new) Ended (Err fault.Write) table gave prefix refl)
    risen refl
    (table_flushed task most Gave Flushed Ended old new (Err fault.Write) table gave late refl) asked)
