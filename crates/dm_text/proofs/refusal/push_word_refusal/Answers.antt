use Rattle.std.proofs.Common.{◌∙◌, ◌++◌, List, ℕ, ap, append_assoc, sym}
use Rattle.std.specs.Prelude.{codes}
use Rattle.std.specs.Fmt.{decimal}
use Rattle.dm_text.proofs.refusal.push_word_refusal.Goals as goal

pub returns-in-LeftOut-clause-text : goal.returns-in-LeftOut-clause-text
returns-in-LeftOut-clause-text c =
    let value = codes "\\no 8 left-out " ++ decimal c.from-in-LeftOut.result in
    let place = decimal c.from-in-LeftOut-2.result in
    rw c.in-LeftOut.is (rw (← c.from-in-LeftOut.ensures, ← c.from-in-LeftOut-2.ensures)
    (c.push_numbered-in-LeftOut-2.ensures.text ∙ ap (λ (l : List ℕ). l ++ (codes " " ++ place))
    c.push_numbered-in-LeftOut.ensures.text
    ∙ append_assoc c.args.text.now.items value (codes " " ++ place)
    ∙ ap (λ (l : List ℕ). c.args.text.now.items ++ l) (sym (append_assoc value (codes " ") place))))

pub returns-in-UpperShift-clause-text : goal.returns-in-UpperShift-clause-text
returns-in-UpperShift-clause-text c =
    rw c.in-UpperShift.is (rw (← c.from-in-UpperShift.ensures) c.push_numbered-in-UpperShift.ensures.text)

pub returns-in-Triplet-clause-text : goal.returns-in-Triplet-clause-text
returns-in-Triplet-clause-text c =
    rw c.in-Triplet.is (rw (← c.from-in-Triplet.ensures) c.push_numbered-in-Triplet.ensures.text)

pub returns-in-Value-clause-text : goal.returns-in-Value-clause-text
returns-in-Value-clause-text c = rw c.in-Value.is (rw (← c.from-in-Value.ensures) c.push_numbered-in-Value.ensures.text)

pub returns-in-Length-clause-text : goal.returns-in-Length-clause-text
returns-in-Length-clause-text c =
    rw c.in-Length.is (rw (← c.from-in-Length.ensures) c.push_numbered-in-Length.ensures.text)

pub returns-in-Unfinished-clause-text : goal.returns-in-Unfinished-clause-text
returns-in-Unfinished-clause-text c =
    rw c.in-Unfinished.is (rw (← c.from-in-Unfinished.ensures) c.push_numbered-in-Unfinished.ensures.text)
