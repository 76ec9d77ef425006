use Rattle.std.proofs.Common.{◌≡◌, [], sym, subst, ◌∙◌, arith}
use Rattle.dm_code.proofs.ErasedPlaces.{near_none_but, near_but_none, self_near_zero, distance_but_none}
use Rattle.dm_code.proofs.CleanWords.{distance_self}
use Rattle.dm_code.proofs.Bytes.{bytes_places}
use Rattle.std.proofs.lemmas.Result.{MatchResult-weaker, IfOk-weaker}
use Rattle.dm_code.specs.Codeword.{distance}
use Rattle.dm_code.specs.Erased.{IsNearBut, distance_but}
use Rattle.dm_code.proofs.erasures.correct_rest.Goals as goal

pub returns-then-k-eq0-clause-near : goal.returns-then-k-eq0-clause-near
returns-then-k-eq0-clause-near g c =
    let w = c.args.word.now in
    subst (λ k. IsNearBut k w [] c.copy_of.result.items) (sym c.if-k-eq0.true)
    (self_near_zero w c.copy_of.result.items (bytes_places w (λ i h. omega (arith, c.type_inv.word i))) c.requires.long
    c.copy_of.ensures)

pub returns-then-k-eq0-clause-changed : goal.returns-then-k-eq0-clause-changed
returns-then-k-eq0-clause-changed g c =
    let w = c.args.word.now in
    sym (distance_but_none w c.copy_of.result.items ∙ distance_self w c.copy_of.result.items c.copy_of.ensures)

pub returns-clause-near : goal.returns-clause-near
returns-clause-near g c =
    let w = c.args.word.now in
    let k = c.args.k in
    MatchResult-weaker c.correct.result c.correct.ensures.near (λ fixed n. near_none_but k w fixed.word.items n)
    (λ x none v n. none v (near_but_none k w v n))

pub returns-clause-changed : goal.returns-clause-changed
returns-clause-changed g c =
    let w = c.args.word.now in
    IfOk-weaker c.correct.result (λ fixed. fixed.changed ≡ distance w fixed.word.items)
    (λ fixed. fixed.changed ≡ distance_but [] w fixed.word.items)
    (λ fixed e. e ∙ sym (distance_but_none w fixed.word.items)) c.correct.ensures.changed
