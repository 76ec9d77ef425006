use Rattle.std.proofs.Common.{refl}
use Rattle.dm_text.proofs.OpenLineSteps.{facts_empty}
use Rattle.dm_text.proofs.line_feed.LineFeed.finish.Goals as goal

pub returns-then-is_empty-clause-none : goal.returns-then-is_empty-clause-none
returns-then-is_empty-clause-none c =
    let line = c.self.invariant.0 in
    rw (← c.self.view_is) (facts_empty line c.self.inside.line c.self.invariant.1
    ((c.is_empty.ensures line c.self.invariant.1).0 c.if-is_empty.true))

pub returns-then-is_empty-clause-some : goal.returns-then-is_empty-clause-some
returns-then-is_empty-clause-some c line facts = (
  λ t. cc,
  λ n. absurd (n ((c.is_empty.ensures line (rw (← c.self.view_is) at facts)).0 c.if-is_empty.true)),
)

pub returns-then-is_empty-clause-empty : goal.returns-then-is_empty-clause-empty
returns-then-is_empty-clause-empty c =
    let line = c.self.invariant.0 in
    rw (← c.self.view_is) (facts_empty line c.self.inside.line c.self.invariant.1
    ((c.is_empty.ensures line c.self.invariant.1).0 c.if-is_empty.true))

pub returns-clause-some : goal.returns-clause-some
returns-clause-some c line facts = (
  λ t e. let yes = (c.is_empty.ensures line (rw (← c.self.view_is) at facts)).1 e in let never = c.if-is_empty.false in
      cc,
  λ n. refl,
)
