-- Flushes in two steps, one after the other, and the flush at the end of a run.
use Rattle.std.proofs.Common.{◌≡◌, ◌≤◌, ℕ, List, [], ◌∷◌, ◌++◌, ◌⊎◌, inl, inr, Option, Some, None, refl, sym, subst}
use Rattle.std.proofs.Common.{length, arith, Result, Ok, Err, OnOk, OnErr, IsErrOf}
use Rattle.std.specs.Io.KnownBytes.{Appends}
use Rattle.dm_text.specs.declared.task.Task.{Task}
use Rattle.dm_text.specs.declared.task.Task.TheVariants.{Table}
use Rattle.dm_text.specs.declared.task.Tally.{Tally}
use Rattle.dm_text.specs.declared.task.RunFault.{RunFault}
use Rattle.dm_text.specs.declared.task.RunFault.TheVariants as fault
use Rattle.dm_text.specs.declared.answering.Answering.{Answering}
use Rattle.dm_text.specs.Answers.{Answer, table_text}
use Rattle.dm_text.specs.Devices.{IsFlushedOnce}
use Rattle.dm_text.specs.Runs.{HasEnded, IsFlushedAtEnd, IsOut, tally_of, answers_text}
use Rattle.dm_text.specs.inner.AnsweredSoFar.{EndsAnswered, IsAnsweredSoFar}
use Rattle.dm_text.proofs.KnownBytes.{appends_then}
use Rattle.dm_text.proofs.Outcomes.{all_answered, written_append}

-- What holds holds of an error.
pub on_error : {T E : Type 0} (result : Result T E) (P : Type 0) → P → OnErr result P
on_error (Ok x) P p = tt
on_error (Err e) P p = p

-- Where there was no flush in the first step and one in the second, there was one in all.
pub flushed_later : (First Then All : List ℕ → Type 0) (a b c : Option (List ℕ)) (s : List ℕ) →
    ((x y : List ℕ) → First x → Then y → All (x ++ y)) → First [] → Appends a b s
    → IsFlushedOnce Then b c → IsFlushedOnce All a c
flushed_later First Then All None b c s joined none grew once = tt
flushed_later First Then All (Some xs) None c s joined none grew once = absurd grew
flushed_later First Then All (Some xs) (Some ys) None s joined none grew once = tt
flushed_later First Then All (Some xs) (Some ys) (Some zs) s joined none grew once =
    joined [] (length zs ∷ []) none once

-- Where the run is Ok, there was one flush, after all was taken.
pub flushed_well : {X E : Type 0} (First Then All : List ℕ → Type 0) (result : Result X E) (a b c : Option (List ℕ))
    (s : List ℕ)
    → ((x y : List ℕ) → First x → Then y → All (x ++ y)) → First [] → Appends a b s → IsFlushedOnce Then b c →
    OnOk result (IsFlushedOnce All a c)
flushed_well First Then All (Ok x) a b c s joined none grew once =
    flushed_later First Then All a b c s joined none grew once
flushed_well First Then All (Err e) a b c s joined none grew once = tt

-- Where the run fails after all was taken, there was no flush, or one after all was taken.
pub flushed_badly : {X E : Type 0} (Took : Type 0) (First Then All : List ℕ →
    Type 0) (result : Result X E) (a b c : Option (List ℕ)) (s : List ℕ)
    → ((x y : List ℕ) → First x → Then y → All (x ++ y)) → First [] → Appends a b s → IsFlushedOnce Then b c → Took
    → OnErr result (All [] ⊎ (IsFlushedOnce All a c × Took))
flushed_badly Took First Then All (Ok x) a b c s joined none grew once took = tt
flushed_badly Took First Then All (Err e) a b c s joined none grew once took =
    inr (flushed_later First Then All a b c s joined none grew once, took)

-- Where writing the table fails, no flush was reached, or the one after all was taken failed.
pub table_flushed : (task : Task) (most : ℕ) (Gave Flushed : List ℕ → Type 0) (Ended : Type 0)
    (old new : Option (List ℕ)) (result : Result Tally RunFault) → task ≡ Table
    → Gave [] → OnErr result (Flushed [] ⊎ (IsFlushedOnce Flushed old new × Appends old new table_text)) →
    IsErrOf result fault.Write
    → IsFlushedAtEnd task most Gave Ended Flushed old new
table_flushed task most Gave Flushed Ended old new (Ok tally) table gave late is = cc
table_flushed task most Gave Flushed Ended old new (Err why) table gave (inl none) is = inl none
table_flushed task most Gave Flushed Ended old new (Err why) table gave (inr all) is = inr (
  tally_of [],
  record {
    text = [];
    gave = gave;
    ended = subst (λ t. HasEnded t Ended) (sym table) tt;
    within = omega arith;
    out = table_text;
    is_out = subst (λ t. IsOut t [] table_text (tally_of [])) (sym table) (refl, refl, refl);
    took = all.1;
  },
  all.0,
)

-- Where writing fails at the end of a text, no flush was reached, or the one after all was taken failed.
pub text_flushed : (task : Task) (most : ℕ) (Gave : List ℕ → Type 0) (Ended : Type 0) (state : Answering)
    (text : List ℕ) (answers : List Answer) (s t : Tally)
    (First Then All : List ℕ → Type 0) (a b c : Option (List ℕ)) → ((x y : List ℕ) → First x → Then y → All (x ++ y)) →
    First [] → Appends a b (answers_text answers)
    → Gave text → Ended → length text ≤ most → IsAnsweredSoFar task state text answers → s ≡ tally_of answers
    → Then [] ⊎ (IsFlushedOnce Then b c × ((last : List Answer) × EndsAnswered state last
    × Appends b c (answers_text last)
    × ((before : List Answer) → s ≡ tally_of before → t ≡ tally_of (before ++ last))))
    → IsFlushedAtEnd task most Gave Ended All a c
text_flushed task most Gave Ended state text answers s t First Then All a b c joined none grew gave ended within stands
    counted (inl never) = inl (joined [] [] none never)
text_flushed task most Gave Ended state text answers s t First Then All a b c joined none grew gave ended within stands
    counted (inr all) =
    let last = all.1.0 in
    inr (
      t,
      all_answered task most Gave (Appends a c) Ended state text answers last t gave ended within stands all.1.1
          (all.1.3 answers counted)
          (subst (Appends a c) (sym (written_append answers last))
          (appends_then a b c (answers_text answers) (answers_text last) grew all.1.2)),
      flushed_later First Then All a b c (answers_text answers) joined none grew all.0,
    )
