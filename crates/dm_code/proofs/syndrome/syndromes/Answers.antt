use Rattle.std.proofs.Common.{◌≡◌, ◌+◌, ◌-◌, ◌*◌, ◌/◌, ◌++◌, ◌∷◌, [], suc, length, sym, ap, subst, ◌∙◌, arith}
use Rattle.gf301.specs.Field.{power}
use Rattle.gf301.specs.Polynomial.{value, Bytes}
use Rattle.dm_code.specs.Syndromes.{syndromes_of}
use Rattle.dm_code.proofs.SyndromeLaws.{syndromes_length, syndromes_bytes, syndromes_push}
use Rattle.dm_code.proofs.syndrome.syndromes.Goals as goal

pub loop-i-init : goal.loop-i-init
loop-i-init c =
    c.syndromes_in_groups-values.ensures ∙ ap (syndromes_of c.args.word.now)
    (let e : 16 * (c.args.k / 16) ≡ 16 * (c.args.k / 16) + 1 - 1 = omega arith in e)

pub push-requires : goal.push-requires
push-requires c = omega (arith, ap length c.loop-i.invariant ∙ syndromes_length c.args.word.now (c.loop-i.i - 1))

pub loop-i-preserved : goal.loop-i-preserved
loop-i-preserved c =
    let w = c.args.word.now in
    let i = c.loop-i.i in
    c.push.ensures.items ∙ ap (λ t. t ++ c.value_by_sixteens.result.0 ∷ []) c.loop-i.invariant
    ∙ ap (λ a. syndromes_of w (i - 1) ++ a ∷ []) (c.value_by_sixteens.ensures
    ∙ ap (λ j. value w (power j)) (let e : i ≡ 1 + (i - 1) = omega arith in e))
    ∙ sym (syndromes_push w (i - 1)) ∙ ap (syndromes_of w) (let e : suc (i - 1) ≡ i + 1 - 1 = omega arith in e)

pub returns-clause-bytes : goal.returns-clause-bytes
returns-clause-bytes c = subst Bytes (sym c.loop-i.invariant) (syndromes_bytes c.args.word.now (c.loop-i.i - 1))

pub returns-clause-values : goal.returns-clause-values
returns-clause-values c =
    let all : c.loop-i.i - 1 ≡ c.args.k = omega arith in
    c.loop-i.invariant ∙ ap (syndromes_of c.args.word.now) all
