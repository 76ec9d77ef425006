-- How a run ends, by what was read and written until then.
use Rattle.std.proofs.Common.{◌≡◌, ◌≤◌, ℕ, List, [], ◌∷◌, ◌++◌, refl, sym, subst, length, arith, inl, inr, Result, Ok}
use Rattle.std.proofs.Common.{Err, OnOk, OnErr, IfOk, IsErrOf}
use Rattle.std.proofs.lemmas.Grind.{flat_map-append}
use Rattle.dm_text.specs.declared.task.Task.{Task}
use Rattle.dm_text.specs.declared.task.Task.TheVariants.{Table}
use Rattle.dm_text.specs.declared.task.Tally.{Tally}
use Rattle.dm_text.specs.declared.task.RunFault.{RunFault}
use Rattle.dm_text.specs.declared.task.RunFault.TheVariants as fault
use Rattle.dm_text.specs.declared.answering.Answering.{Answering}
use Rattle.dm_text.specs.Answers.{Answer, table_text}
use Rattle.dm_text.specs.Runs.{HasEnded, IsAnswered, HasWrittenPrefix, IsOutSoFar, HasWrittenOutSoFar, IsOut, IsTooMuch}
use Rattle.dm_text.specs.Runs.{tally_of, answers_text}
use Rattle.dm_text.specs.inner.AnsweredSoFar.{EndsAnswered, IsAnsweredSoFar}
use Rattle.dm_text.proofs.AnsweredSoFar.{ends_out, not_table, so_far_written, so_far_ended}

-- What is written for answers and further ones is what is written for the first and then for the others.
pub written_append : (answers more : List Answer) →
    answers_text (answers ++ more) ≡ answers_text answers ++ answers_text more
written_append answers more = flat_map-append (λ a. a.text) answers more

-- Where the run of the table is Ok, all of the table is written.
pub table_answered : (task : Task) (most : ℕ) (Gave Took : List ℕ → Type 0) (Ended : Type 0)
    (result : Result Tally RunFault) → task ≡ Table → Gave []
    → IfOk result (λ tally. tally ≡ tally_of []) → OnOk result (Took table_text) →
    IfOk result (λ tally. IsAnswered task most Gave Ended Took tally)
table_answered task most Gave Took Ended (Ok tally) table gave none took = record {
  text = [];
  gave = gave;
  ended = subst (λ t. HasEnded t Ended) (sym table) tt;
  within = omega arith;
  out = table_text;
  is_out = subst (λ t. IsOut t [] table_text tally) (sym table) (refl, refl, none);
  took = took;
}
table_answered task most Gave Took Ended (Err why) table gave none took = tt

-- Where the run of the table fails, a prefix of the table is written.
pub table_broken : (task : Task) (most : ℕ) (Gave TookPrefix : List ℕ → Type 0) (Ended : Type 0)
    (result : Result Tally RunFault) → task ≡ Table → Gave []
    → OnErr result (TookPrefix table_text) → IsErrOf result fault.Write →
    HasWrittenPrefix task most Gave Ended TookPrefix
table_broken task most Gave TookPrefix Ended (Ok tally) table gave took is = cc
table_broken task most Gave TookPrefix Ended (Err why) table gave took is = record {
  text = [];
  gave = gave;
  within = omega arith;
  began = inl (table_text, subst (λ t. IsOutSoFar t [] table_text) (sym table) (refl, refl), took);
}

-- Where the end of a text came and all was written, the text is answered.
pub all_answered : (task : Task) (most : ℕ) (Gave Took : List ℕ → Type 0) (Ended : Type 0) (state : Answering)
    (text : List ℕ) (answers last : List Answer)
    (tally : Tally) → Gave text → Ended → length text ≤ most → IsAnsweredSoFar task state text answers →
    EndsAnswered state last → tally ≡ tally_of (answers ++ last)
    → Took (answers_text (answers ++ last)) → IsAnswered task most Gave Ended Took tally
all_answered task most Gave Took Ended state text answers last tally gave ended within s ends counted took = record {
  text = text;
  gave = gave;
  ended = so_far_ended task state text answers Ended s ended;
  within = within;
  out = answers_text (answers ++ last);
  is_out =
      subst (λ t. IsOut task text (answers_text (answers ++ last)) t) (sym counted)
      (ends_out task state text answers last s ends);
  took = took;
}

-- Where a read fails, exactly what is due so far is written.
pub done_so_far : (task : Task) (most : ℕ) (Gave Took : List ℕ → Type 0) (state : Answering) (text : List ℕ)
    (answers : List Answer)
    → Gave text → length text ≤ most → IsAnsweredSoFar task state text answers → Took (answers_text answers) →
    HasWrittenOutSoFar task most Gave Took
done_so_far task most Gave Took state text answers gave within s took = record {
  reads = not_table task state text answers s;
  text = text;
  gave = gave;
  within = within;
  done = answers_text answers;
  is_done = so_far_written task state text answers s;
  took = took;
}

-- Where one byte too many comes, the input is too much.
pub too_much : (task : Task) (most : ℕ) (Gave Took : List ℕ → Type 0) (state : Answering) (text : List ℕ) (byte : ℕ)
    (answers : List Answer)
    → Gave (text ++ byte ∷ []) → length text ≡ most → IsAnsweredSoFar task state text answers →
    Took (answers_text answers) → IsTooMuch task most Gave Took
too_much task most Gave Took state text byte answers gave full s took = record {
  reads = not_table task state text answers s;
  text = text;
  byte = byte;
  gave = gave;
  full = full;
  done = answers_text answers;
  is_done = so_far_written task state text answers s;
  took = took;
}

-- Where a write fails before the end came, a prefix of what is due so far is written.
pub broken_before : (task : Task) (most : ℕ) (Gave TookPrefix : List ℕ →
    Type 0) (Ended : Type 0) (text : List ℕ) (answers : List Answer)
    → Gave text → length text ≤ most → IsOutSoFar task text (answers_text answers) → TookPrefix (answers_text answers) →
    HasWrittenPrefix task most Gave Ended TookPrefix
broken_before task most Gave TookPrefix Ended text answers gave within done took = record {
  text = text;
  gave = gave;
  within = within;
  began = inl (answers_text answers, done, took);
}

-- Where a write or the flush fails after the end came, a prefix of all is written.
pub broken_after : (task : Task) (most : ℕ) (Gave TookPrefix : List ℕ → Type 0) (Ended : Type 0) (state : Answering)
    (text : List ℕ) (answers last : List Answer)
    → Gave text → Ended → length text ≤ most → IsAnsweredSoFar task state text answers → EndsAnswered state last →
    TookPrefix (answers_text (answers ++ last))
    → HasWrittenPrefix task most Gave Ended TookPrefix
broken_after task most Gave TookPrefix Ended state text answers last gave ended within s ends took = record {
  text = text;
  gave = gave;
  within = within;
  began = inr (
    so_far_ended task state text answers Ended s ended,
    (answers_text (answers ++ last), tally_of (answers ++ last), ends_out task state text answers last s ends, took),
  );
}
