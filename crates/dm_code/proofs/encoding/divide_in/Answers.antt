use Rattle.std.proofs.Common.{◌≡◌, ◌+◌, ◌*◌, ◌%◌, ◌<◌, ℕ, List, suc, length, take, get_or, ap, sym}
use Rattle.std.proofs.Common.{subst, ◌∙◌, arith}
use Rattle.std.proofs.Math.Seq.{take-length}
use Rattle.gf301.specs.Field.{◌⊕◌, ◌⊗◌, power, raise}
use Rattle.gf301.specs.Polynomial.{value, coefficient}
use Rattle.gf301.specs.Generator.{generator}
use Rattle.gf301.proofs.Exported.{generator_root, product_below}
use Rattle.dm_code.proofs.Division.{tap_at, zeros_at, none_taken, first_taken, two_taken, past_taken, past_one}
use Rattle.dm_code.proofs.Division.{bytes_taken, AreTaken}
use Rattle.dm_code.proofs.encoding.divide_in.Goals as goal
use Rattle.dm_code.proofs.encoding.divide_in.Goals.{then-odd-eq1, else-odd-eq1}

pub take_one-requires-clause-zeros : goal.take_one-requires-clause-zeros
take_one-requires-clause-zeros g c = zeros_at 96

pub loop-pair-init : goal.loop-pair-init
loop-pair-init g c =
    let k = c.args.k in
    let f = c.args.front.now in
    let at = length f % 2 + 2 * 0 in
    elim c.if-odd-eq1.branch [
      | then-odd-eq1 w ↦
          let one : at ≡ 1 = omega (arith, w.if-odd-eq1.true) in
          let each : (i : ℕ) → get_or c.if-odd-eq1.left i 0 ≡ get_or f 0 0 ⊗ coefficient (generator k) (suc i) =
          λ i. ap (λ (r : List ℕ). get_or r i 0) w.left-is ∙ w.take_one.ensures.each i in
          let long : length c.if-odd-eq1.left ≡ 96 = ap length w.left-is ∙ w.take_one.ensures.long in
          record {
            long = long;
            bytes = λ i. subst (λ y. y < 256) (sym (each i))
                (product_below (get_or f 0 0) (coefficient (generator k) (suc i)));
            past = λ i h. each i ∙ past_one k i (get_or f 0 0) h;
            same = λ i h.
                ap (λ j. value (take j f) (power (1 + i)) ⊗ raise (power (1 + i)) k) one
                ∙ first_taken k 96 (power (1 + i)) f c.if-odd-eq1.left (omega arith) (omega arith) (omega arith)
                (omega (arith, w.if-odd-eq1.true)) (omega (arith, c.type_inv.front 0)) each
                (generator_root k i h);
          }
      | else-odd-eq1 w ↦
          let none : at ≡ 0 = omega (arith, w.if-odd-eq1.false) in
          let zero : (i : ℕ) → get_or c.if-odd-eq1.left i 0 ≡ 0 =
          λ i. ap (λ (r : List ℕ). get_or r i 0) w.left-is ∙ zeros_at 96 i in
          record {
            long = ap length w.left-is;
            bytes = λ i. subst (λ y. y < 256) (sym (zero i)) (omega arith);
            past = λ i h. zero i;
            same = λ i h.
                ap (λ j. value (take j f) (power (1 + i)) ⊗ raise (power (1 + i)) k) none
                ∙ none_taken k 96 (power (1 + i)) f (omega arith)
                ∙ ap (λ r. value (take k r) (power (1 + i))) (sym w.left-is);
          }
    ]

pub take_two-requires-clause-row : goal.take_two-requires-clause-row
take_two-requires-clause-row g c = λ i h.
    let k = c.args.k in
    let t = c.taps.result.now in
    let at =
    tap_at k t (omega (arith, c.row_after-row.ensures.long))
    (λ j b. c.taps.ensures j (omega (arith, c.row_after-row.ensures.long))) in
    c.row_after-row.ensures.each i h
    ∙ ap (λ y. y ⊕ get_or t 0 0 ⊗ get_or t i 0) (at (suc i))
    ∙ ap (λ y. coefficient (generator k) (suc (suc i)) ⊕ y ⊗ get_or t i 0) (at 0)
    ∙ ap (λ y. coefficient (generator k) (suc (suc i)) ⊕ coefficient (generator k) 1 ⊗ y) (at i)

pub loop-pair-preserved : goal.loop-pair-preserved
loop-pair-preserved g c =
    let k = c.args.k in
    let f = c.args.front.now in
    let r = c.loop-pair.left in
    let s = c.take_two.new.left in
    let p = length f % 2 + 2 * c.loop-pair.pair in
    let a = get_or f p 0 ⊕ get_or r 0 0 in
    let b = get_or f (p + 1) 0 ⊕ get_or r 1 0 in
    let t : AreTaken k a b r s = record { each = c.take_two.ensures.each } in
    record {
      long = c.take_two.ensures.long;
      bytes = bytes_taken k a b r s c.loop-pair.invariant.bytes t;
      past = past_taken k a b r s c.loop-pair.invariant.past t;
      same = λ i h.
          two_taken k p (p + 1) (length f % 2 + 2 * (c.loop-pair.pair + 1)) (power (1 + i)) f r s (omega arith)
          (omega (arith, c.loop-pair.invariant.long)) (omega (arith, c.take_two.ensures.long)) (omega arith)
          (omega arith) (omega arith) (λ j. omega (arith, c.type_inv.front j)) c.loop-pair.invariant.past t
          (generator_root k i h) (c.loop-pair.invariant.same i h);
    }

pub returns-clause-bytes : goal.returns-clause-bytes
returns-clause-bytes g c = λ i. c.loop-pair.invariant.bytes i

pub returns-clause-same : goal.returns-clause-same
returns-clause-same g c = λ i h.
    let f = c.args.front.now in
    let all : length f % 2 + 2 * c.loop-pair.pair ≡ length f = omega arith in
    ap (λ u. value u (power (1 + i)) ⊗ raise (power (1 + i)) c.args.k) (sym (take-length f))
    ∙ ap (λ j. value (take j f) (power (1 + i)) ⊗ raise (power (1 + i)) c.args.k) (sym all)
    ∙ c.loop-pair.invariant.same i h
