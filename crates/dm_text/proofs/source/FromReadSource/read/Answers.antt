use Rattle.std.proofs.Common.{◌≡◌, ◌<◌, ℕ, List, Option, Result, Ok, Err, IfOk, IsErr, OnErr, length, rules, sym}
use Rattle.std.proofs.Common.{true≢false}
use Rattle.std.specs.Io.KnownBytes.{IsAtEnd, ReadConsumes}
use Rattle.dm_text.specs.declared.device.Failed.{Failed}
use Rattle.dm_text.proofs.source.FromReadSource.read.Goals as goal

-- Where a read gave no byte, the source is at its end.
at_end : {E : Type 0} (outcome : Result ℕ E) (a b : Option (List ℕ)) (into : List ℕ) → ReadConsumes a b outcome into →
    (result : Result ℕ Failed)
    → IfOk outcome (λ n. result ≡ Ok n) → OnErr outcome (IsErr result) →
    IfOk result (λ n. n ≡ 0 → 0 < length into → IsAtEnd b)
at_end (Ok n) a b into read (Ok m) ok err = λ none some. read.1 (cc) some
at_end (Ok n) a b into read (Err e) ok err = tt
at_end (Err e) a b into read (Ok m) ok err = absurd (true≢false (sym err))
at_end (Err e) a b into read (Err f) ok err = tt

pub returns-clause-end : goal.returns-clause-end
returns-clause-end g c = search (
  rules,
  at_end c.read-outcome.result (g.R.Read.remaining c.args.self.now.reader) (g.R.Read.remaining c.read-outcome.new.self)
      c.read-outcome.new.buf c.read-outcome.ensures.bytes,
) depth 2
