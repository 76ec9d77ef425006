use Rattle.std.proofs.Common.{◌≡◌, ◌+◌, ◌*◌, ◌≤◌, ◌++◌, length, map, ap, ◌∙◌, arith}
use Rattle.std.proofs.lemmas.List.{length-map}
use Rattle.gf301.specs.declared.generators.TheConstants.{MOST_CHECKS}
use Rattle.gf301.specs.Field.{power}
use Rattle.gf301.specs.Polynomial.{value, values_from}
use Rattle.gf301.proofs.Exported.{length-values_from}
use Rattle.dm_code.specs.Syndromes.{syndromes_of}
use Rattle.dm_code.proofs.SyndromeLaws.{syndromes_length}
use Rattle.dm_code.proofs.SyndromeLanes.{more_syndromes}
use Rattle.dm_code.proofs.syndrome.syndromes_in_groups.Goals as goal

pub loop-group-init : goal.loop-group-init
unfolding values_from
loop-group-init c = c.new-values.ensures

pub loop-group-preserved : goal.loop-group-preserved
loop-group-preserved c =
    let w = c.args.word.now in
    let done = 16 * c.loop-group.group in
    let roots = values_from power (1 + done) 16 in
    let of : c.values_from_root.result ≡ map (value w) roots =
    c.values_from_root.ensures ∙ ap (λ f. map (value w) (values_from power f 16)) (let e : done + 1 ≡ 1 + done =
    omega arith in e) in
    let before : length c.loop-group.values.items ≡ done = ap length c.loop-group.invariant ∙ syndromes_length w done in
    let added : length c.values_from_root.result ≡ 16 =
    ap length of ∙ length-map roots (value w) ∙ length-values_from power (1 + done) 16 in
    let room : length c.loop-group.values.items + length c.values_from_root.result ≤ MOST_CHECKS =
    omega (arith, before, added) in
    let all : c.try_extend_from_slice-room.new.self.items ≡ c.loop-group.values.items ++ c.values_from_root.result =
    grind (arith, room) in
    all ∙ ap (λ t. t ++ c.values_from_root.result) c.loop-group.invariant ∙ ap (λ t. syndromes_of w done ++ t) of
    ∙ more_syndromes w done 16 ∙ ap (syndromes_of w) (let e : done + 16 ≡ 16 * (c.loop-group.group + 1) = omega arith in
    e)

pub returns : goal.returns
returns c =
    let all : c.loop-group.group ≡ c.args.groups = omega arith in
    c.loop-group.invariant ∙ ap (λ n. syndromes_of c.args.word.now (16 * n)) all
