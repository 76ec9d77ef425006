use Rattle.dm_words.proofs.Names.{ℕ, length, length-take, arith, ◌∙◌, ap, as_content, Setting, Usual, parts_cost}
use Rattle.dm_words.proofs.SaidBounds.{spelled_is_few}
use Rattle.dm_words.proofs.SmallestSymbols.{plainest, usual_few, wider}
use Rattle.dm_words.proofs.smallest.write_usual_if_fits.Goals as goal

pub returns-then-from-words-clause-written : goal.returns-then-from-words-clause-written
returns-then-from-words-clause-written c = wider c.args.extent _ _ c.write_plain-usual.ensures.written

pub returns-then-from-words-clause-plainest : goal.returns-then-from-words-clause-plainest
returns-then-from-words-clause-plainest c =
    plainest (as_content c.args.items.now) _ (length c.args.words.now) (omega (arith, length-take {A = ℕ}))
    (λ room. absurd (omega (arith, room, c.requires.no_ascii)))
    (λ other same says. c.write_plain-usual.ensures.written.says.says)

pub returns-else-from-words-clause-plainest : goal.returns-else-from-words-clause-plainest
returns-else-from-words-clause-plainest c =
    let m = c.args.items.now in
    let cost = c.plan_to.ensures.cost ∙ ap (λ (s : Setting). parts_cost s m) c.at_end.ensures in
    plainest (as_content m) _ (length c.args.words.now) (omega (arith, length-take {A = ℕ})) (λ room. absurd (omega
    (arith, room, c.requires.no_ascii)))
    (λ other same says. absurd (omega
    (arith, usual_few other m (omega (arith, c.requires.few)) says, same, cost)))

pub returns-then-words-items-clause-plainest : goal.returns-then-words-items-clause-plainest
returns-then-words-items-clause-plainest c =
    let m = c.args.items.now in
    plainest (as_content m) _ (length c.args.words.now) (omega (arith, length-take {A = ℕ})) (λ room. absurd (omega
    (arith, room, c.requires.no_ascii)))
    (λ other same says. absurd (omega
    (arith, spelled_is_few Usual other m says, same)))
