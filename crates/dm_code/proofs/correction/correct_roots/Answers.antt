use Rattle.std.proofs.Common.{◌≡◌, ◌-◌, ◌*◌, ◌/◌, ◌+◌, ◌<◌, suc, length, get_or, map, take, slice_set, refl, sym, ap}
use Rattle.std.proofs.Common.{subst, ◌∙◌, arith}
use Rattle.gf301.specs.Field.{◌⊕◌, power}
use Rattle.gf301.specs.Polynomial.{value, coefficient, values_from}
use Rattle.dm_code.specs.inner.OddTerms.{odd_part}
use Rattle.dm_code.specs.Codeword.{IsNear, distance}
use Rattle.dm_code.specs.KeyEquation.{IsLeastPair}
use Rattle.dm_code.specs.Syndromes.{syndromes_of}
use Rattle.dm_code.proofs.SyndromeLaws.{syndromes_length}
use Rattle.dm_code.proofs.ErrorTerms.{error_term, taken_sum}
use Rattle.dm_code.proofs.First.{first, values_are_first}
use Rattle.dm_code.proofs.ErrorPlaces.{locator_at}
use Rattle.dm_code.proofs.Nearness.{IsTrimmed, IsCorrected, corrected_bytes, corrected_near}
use Rattle.dm_code.proofs.OddTerms.{lane_value, lane_odd, divided_by}
use Rattle.dm_code.proofs.Corrections.{IsCorrectedFrom, corrected_start, apart_step, root_step}
use Rattle.dm_code.proofs.Corrections.{apart_steps, no_zero_lane, distance_added}
use Rattle.dm_code.proofs.CleanWords.{distance_self}
use Rattle.std.proofs.lemmas.List.{length-map}
use Rattle.gf301.proofs.Exported.{length-values_from}
use Rattle.dm_code.proofs.correction.correct_roots.Goals as goal
use Rattle.dm_code.proofs.correction.correct_roots.Goals.{then-values-lane-eq0, else-values-lane-eq0}

pub loop-part-init : goal.loop-part-init
loop-part-init c =
    let l = c.args.locator.now in
    let w = c.args.word.now in
    record {
      bytes = λ i. omega (arith, c.type_inv.word i);
      corrected =
          subst (IsCorrectedFrom l c.args.evaluator.now w w (take c.args.k c.args.syndromes.now) c.args.k)
          (let z : length w ≡ length w - 0 = omega arith in z)
          (corrected_start l c.args.evaluator.now w (take c.args.k c.args.syndromes.now) c.args.k c.requires.syndromes);
      count = sym (distance_self w w refl);
      few = omega arith;
    }

pub loop-lane-preserved : goal.loop-lane-preserved
loop-lane-preserved c =
    let l = c.args.locator.now in
    let v = c.args.evaluator.now in
    let w = c.args.word.now in
    let k = c.args.k in
    let f = c.loop-lane.word in
    let s = take k c.loop-lane.syndromes in
    let j = 16 * c.loop-part.part in
    let lane = c.loop-lane.lane in
    let below : lane < 16 = omega (arith, c.min-lane-end.ensures) in
    let inside : j + lane < length w = omega (arith, c.min-lane-end.ensures, c.loop-part.auto.word) in
    let q = length w - suc (j + lane) in
    let back : length w - suc q ≡ j + lane = omega arith in
    let next : q ≡ length w - (j + (lane + 1)) = omega arith in
    let z : get_or c.sums.result.0 lane 0 ≡ value l (power (j + lane)) =
    lane_value l c.sums.result.0 j lane c.sums.ensures.values below in
    let o : get_or c.sums.result.1 lane 0 ≡ odd_part l (power (j + lane)) =
    lane_odd l c.sums.result.1 j lane c.sums.ensures.odd below in
    let e = values_from (coefficient v) 0 (length l - 1) in
    let ue : c.deref.result.now ≡ e =
    c.deref.ensures.0 ∙ c.first_coefficients-upper.ensures
    ∙ ap (values_from (coefficient v) 0) c.saturating_sub.ensures in
    let ne : get_or c.sums-in-loop-part.result.0 lane 0 ≡ value e (power (j + lane)) =
    lane_value e c.sums-in-loop-part.result.0 j lane
    (c.sums-in-loop-part.ensures.values ∙ ap (λ u. map (value u) (values_from power j 16)) ue) below in
    let h : IsCorrectedFrom l v w f s k (suc q) =
    subst (IsCorrectedFrom l v w f s k) (let r : length w - (j + lane) ≡ suc q = omega arith in
    r) c.loop-lane.invariant.corrected in
    record {
      corrected = subst (IsCorrectedFrom l v w c.if-values-lane-eq0.word (take k c.if-values-lane-eq0.syndromes) k) next
          (elim c.if-values-lane-eq0.branch [
            | else-values-lane-eq0 b ↦
                subst (λ g. IsCorrectedFrom l v w g (take k c.if-values-lane-eq0.syndromes) k q) (sym b.word-is)
                (subst (λ u. IsCorrectedFrom l v w f (take k u) k q) (sym b.syndromes-is)
                (apart_step l v w f s k q h (λ e. b.if-values-lane-eq0.false (z ∙ ap (λ n. value l (power n)) (sym back)
                ∙ e))))
            | then-values-lane-eq0 b ↦
                let at = b.power_of_two-at.result.0 in
                let y = b.error_value-value.result.0 in
                let ae : at ≡ power (j + lane) = b.power_of_two-at.ensures in
                let xe : at ≡ locator_at (length w) q = ae ∙ ap power (sym back) in
                let ze : value l at ≡ 0 = ap (value l) ae ∙ sym z ∙ b.if-values-lane-eq0.true in
                let added =
                taken_sum (error_term y at) c.loop-lane.syndromes c.if-values-lane-eq0.syndromes k
                (16 * c.div_ceil-groups.result) (ap length b.syndromes-is ∙ b.add_error.ensures.long)
                (omega (arith, c.requires.room, c.loop-part.auto.syndromes, c.loop-lane.auto.syndromes))
                (omega (arith, c.div_ceil-groups.ensures)) (λ i n. ap (λ u. get_or u i 0) b.syndromes-is
                ∙ b.add_error.ensures.each i n) in
                root_step l v w f c.if-values-lane-eq0.word s (take k c.if-values-lane-eq0.syndromes) k q at y h
                (c.loop-lane.auto.word ∙ c.loop-part.auto.word) (omega arith) xe ze
                (b.word-is ∙ ap (λ n. slice_set f n b.add.result.0) (let r : length f - 1 - (j + lane) ≡ q =
                omega (arith, c.loop-lane.auto.word, c.loop-part.auto.word) in r)
                ∙ ap (slice_set f q) (b.add.ensures
                ∙ ap (λ n. get_or f n 0 ⊕ y) (let r : length f - 1 - (j + lane) ≡ q =
                omega (arith, c.loop-lane.auto.word, c.loop-part.auto.word) in r)))
                b.error_value-value.ensures.byte
                (divided_by l at (get_or c.sums.result.1 lane 0) y (value (first (coefficient v) (length l - 1)) at) (o
                ∙ ap (odd_part l) (sym ae))
                (λ p. b.error_value-value.ensures.value p ∙ ne ∙ ap (value e) (sym ae)
                ∙ ap (λ u. value u at) (values_are_first (coefficient v) (length l - 1))))
                added.0 added.1
          ]);
      count = elim c.if-values-lane-eq0.branch [
        | else-values-lane-eq0 b ↦
            b.count-is ∙ c.loop-lane.invariant.count ∙ ap (distance w) (sym b.word-is)
        | then-values-lane-eq0 b ↦
            let y = b.error_value-value.result.0 in
            let place : length f - 1 - (j + lane) ≡ q =
            omega (arith, c.loop-lane.auto.word, c.loop-part.auto.word) in
            b.count-is ∙ ap (λ n. n + b.min-count.result) c.loop-lane.invariant.count
            ∙ sym (distance_added w f c.if-values-lane-eq0.word q y b.min-count.result
            (c.loop-lane.auto.word ∙ c.loop-part.auto.word) (omega arith) (h.left q (omega arith))
            (b.word-is ∙ ap (λ n. slice_set f n b.add.result.0) place
            ∙ ap (slice_set f q) (b.add.ensures ∙ ap (λ n. get_or f n 0 ⊕ y) place))
            b.min-count.ensures)
      ];
      few = elim c.if-values-lane-eq0.branch [
        | else-values-lane-eq0 b ↦ omega (arith, b.count-is, c.loop-lane.invariant.few)
        | then-values-lane-eq0 b ↦
            omega (arith, b.count-is, c.loop-lane.invariant.few, b.min-count.ensures)
      ];
    }

pub loop-part-preserved : goal.loop-part-preserved
loop-part-preserved c =
    let l = c.args.locator.now in
    let v = c.args.evaluator.now in
    let w = c.args.word.now in
    let k = c.args.k in
    let j = 16 * c.loop-part.part in
    record {
      bytes = c.loop-part.invariant.bytes;
      corrected = subst (IsCorrectedFrom l v w c.loop-lane.word (take k c.loop-lane.syndromes) k)
          (let r : length w - (j + c.loop-lane.lane) ≡ length w - 16 * (c.loop-part.part + 1) =
          omega (arith, c.min-lane-end.ensures, c.loop-part.auto.word) in r) c.loop-lane.invariant.corrected;
      count = c.loop-lane.invariant.count;
      few = omega (arith, c.loop-lane.invariant.few, c.min-lane-end.ensures);
    }

pub loop-part-preserved-then-zero_lanes-eq0 : goal.loop-part-preserved-then-zero_lanes-eq0
loop-part-preserved-then-zero_lanes-eq0 c =
    let l = c.args.locator.now in
    let v = c.args.evaluator.now in
    let w = c.args.word.now in
    let f = c.loop-part.word in
    let k = c.args.k in
    let s = take k c.loop-part.syndromes in
    let n = length w in
    let j = 16 * c.loop-part.part in
    let q = n - 16 * (c.loop-part.part + 1) in
    let m = n - j - q in
    let all : q + m ≡ n - j = omega arith in
    let i = c.loop-part.invariant in
    let xs = c.sums.result.0 in
    let long : length xs ≡ 16 =
    ap length c.sums.ensures.values ∙ length-map (values_from power j 16) (value l) ∙ length-values_from power j 16 in
    record {
      bytes = i.bytes;
      corrected = apart_steps l v w f s k q m
          (subst (IsCorrectedFrom l v w f s k) (sym all) i.corrected)
          (λ a b z.
          let lane = n - suc (q + a) - j in
          let back : j + lane ≡ n - suc (q + a) = omega arith in
          no_zero_lane xs long (sym c.zero_lanes.ensures ∙ c.if-zero_lanes-eq0.true) lane (omega arith)
          (lane_value l xs j lane c.sums.ensures.values (omega arith)
          ∙ ap (λ e. value l (power e)) back ∙ z));
      count = i.count;
      few = omega (arith, i.few);
    }

pub returns-clause-bytes : goal.returns-clause-bytes
returns-clause-bytes c =
    let l = c.args.locator.now in
    let v = c.args.evaluator.now in
    let i = c.loop-part.invariant in
    corrected_bytes l v c.args.word.now c.loop-part.word i.bytes
    (record { long = c.loop-part.auto.word; each = λ j b. i.corrected.done j (omega arith) b })

pub returns-clause-near : goal.returns-clause-near
returns-clause-near c n h =
    let l = c.args.locator.now in
    let v = c.args.evaluator.now in
    let w = c.args.word.now in
    let f = c.loop-part.word in
    let i = c.loop-part.invariant in
    let t : IsTrimmed l l = record { same = λ i. refl; tight = c.requires.tight } in
    let m : IsCorrected l v w f =
    record { long = c.loop-part.auto.word; each = λ j b. i.corrected.done j (omega arith) b } in
    let k = c.args.k in
    let s = syndromes_of w k in
    let sk : k ≡ length s = sym (syndromes_length w k) in
    corrected_near w s n l v l f (omega (arith, c.requires.checks)) i.bytes c.requires.long (ap (syndromes_of w) sk)
    (subst (λ m. IsLeastPair s (m / 2) l v) sk c.requires.key) t m
    (subst (λ m. IsNear m w n) sk h)
