use Rattle.std.proofs.Common.{◌≡◌, ◌==◌, ℕ, Bool, zero, suc, true, false, cond, nat_lt, arith}
use Rattle.std.proofs.lemmas.Bool.{cond_below}
use Rattle.dm_text.proofs.sink.ToWriteSink.write.Goals as goal

-- A write of at least one byte marks bytes as pending.
marked : (n : ℕ) (mark : Bool) → false ≡ (n == 0) → true ≡ cond (nat_lt 0 n) true mark
marked zero mark e = cc
marked (suc n) mark e = cond_below 0 (suc n) true mark (omega arith)

pub returns-clause-some : goal.returns-clause-some
returns-clause-some g c some = c.in_ok-demand_some.ensures.some

pub returns-clause-mark : goal.returns-clause-mark
returns-clause-mark g c = marked _ c.args.self.now.pending c.if-is_empty.ensures
