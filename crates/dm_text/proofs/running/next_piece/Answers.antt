use Rattle.std.proofs.Common.{◌≤◌, ◌++◌, [], ℕ, List, Result, Ok, Err, IfOk, MatchResult, arith, length, max, rules}
use Rattle.std.proofs.Common.{take}
use Rattle.std.proofs.lemmas.List.{take-append-le}
use Rattle.dm_text.proofs.running.next_piece.Goals as goal

-- What holds of the first bytes of a buffer, so many as came, holds of those of a longer one.
of_longer : {E : Type 0} (P : List ℕ → Type 0) (result : Result ℕ E) (xs ys : List ℕ) → IfOk result (λ n. n ≤ length xs)
    → MatchResult result (λ n. P (take n xs)) (λ _. P []) → MatchResult result (λ n. P (take n (xs ++ ys))) (λ _. P [])
of_longer P (Ok n) xs ys within p = rw (take-append-le n xs ys) p
of_longer P (Err e) xs ys within p = p

pub returns-clause-bytes : goal.returns-clause-bytes
returns-clause-bytes g c =
    of_longer (λ bytes. g.I.Source.gave c.args.source.now c.read.new.self bytes) c.read.result c.read.new.into _
    c.read.ensures.bound c.read.ensures.bytes

pub returns-clause-count : goal.returns-clause-count
returns-clause-count g c = c.read.ensures.count

pub returns-clause-asked : goal.returns-clause-asked
returns-clause-asked g c =
    let within : length c.read.new.into ≤ max c.args.left 1 = search rules in
    g.met.I.Source.asked_joined c.args.source.now c.args.source.now c.read.new.self [] 0 (length c.read.new.into)
    (max c.args.left 1)
    (g.met.I.Source.gave_none c.args.source.now) (g.met.I.Source.asked_none c.args.source.now) c.read.ensures.asked
    (omega arith) (omega (arith, within))
