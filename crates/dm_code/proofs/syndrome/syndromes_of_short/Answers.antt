use Rattle.std.proofs.Common.{◌≡◌, ◌+◌, ◌-◌, ◌*◌, ◌<◌, ◌≤◌, ◌++◌, length, length-append, length-take, map, take}
use Rattle.std.proofs.Common.{sym, ap, subst, ◌∙◌, arith}
use Rattle.std.proofs.lemmas.List.{length-map}
use Rattle.gf301.specs.declared.generators.TheConstants.{MOST_CHECKS}
use Rattle.gf301.specs.Field.{power}
use Rattle.gf301.specs.Polynomial.{value, values_from, Bytes}
use Rattle.gf301.proofs.Exported.{length-values_from}
use Rattle.dm_code.specs.Syndromes.{syndromes_of}
use Rattle.dm_code.proofs.SyndromeLaws.{syndromes_bytes}
use Rattle.dm_code.proofs.SyndromeLanes.{some_syndromes}
use Rattle.dm_code.proofs.syndrome.syndromes_of_short.Goals as goal

pub loop-group-init : goal.loop-group-init
unfolding values_from
loop-group-init c =
    let z : length c.new-values.result.items ≡ 0 = ap length c.new-values.ensures in
    record {
      values =
          c.new-values.ensures ∙ ap (syndromes_of c.args.word.now) (sym z);
      whole = λ h. omega (arith, z);
      last = λ h. omega (arith, z);
    }

pub loop-group-preserved : goal.loop-group-preserved
loop-group-preserved c =
    let w = c.args.word.now in
    let k = c.args.k in
    let done = 16 * c.loop-group.group in
    let roots = values_from power (1 + done) 16 in
    let n = c.min-count.result in
    let inside : done < k = omega (arith) in
    let before : length c.loop-group.values.items ≡ done = c.loop-group.invariant.whole (omega arith) in
    let of : c.values_from_root.result ≡ map (value w) roots =
    c.values_from_root.ensures ∙ ap (λ f. map (value w) (values_from power f 16)) (let e : done + 1 ≡ 1 + done =
    omega arith in e) in
    let size : length c.values_from_root.result ≡ 16 =
    ap length of ∙ length-map roots (value w) ∙ length-values_from power (1 + done) 16 in
    let few : n ≤ 16 = omega (arith, c.min-count.ensures) in
    let fits : n ≤ k - done = omega (arith, c.min-count.ensures) in
    let added : length (take n c.values_from_root.result) ≡ n = simp length-take (omega (arith, size)) in
    let room : length c.loop-group.values.items + length (take n c.values_from_root.result) ≤ MOST_CHECKS =
    omega (arith, before, added) in
    let all : c.try_extend_from_slice-room.new.self.items
    ≡ c.loop-group.values.items ++ take n c.values_from_root.result = grind (arith, room) in
    let long : length c.try_extend_from_slice-room.new.self.items ≡ done + n =
    omega (
      arith,
      ap length all,
      length-append c.loop-group.values.items (take n c.values_from_root.result),
      before,
      added,
    ) in
    record {
      values =
          all ∙ ap (λ t. t ++ take n c.values_from_root.result) (c.loop-group.invariant.values
          ∙ ap (syndromes_of w) before)
          ∙ ap (λ t. syndromes_of w done ++ take n t) of
          ∙ some_syndromes w done 16 n few ∙ ap (syndromes_of w) (sym long);
      whole = λ h. omega (arith, long, c.min-count.ensures);
      last = λ h. omega (arith, long, c.min-count.ensures);
    }

pub returns-clause-values : goal.returns-clause-values
returns-clause-values c =
    let l : length c.loop-group.values.items ≡ c.args.k = c.loop-group.invariant.last (omega (arith)) in
    c.loop-group.invariant.values ∙ ap (syndromes_of c.args.word.now) l

pub returns-clause-bytes : goal.returns-clause-bytes
returns-clause-bytes c =
    subst Bytes (sym c.loop-group.invariant.values)
    (syndromes_bytes c.args.word.now (length c.loop-group.values.items))
