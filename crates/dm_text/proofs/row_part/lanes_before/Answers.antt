use Rattle.std.proofs.Common.{◌≡◌, ◌≢◌, ◌∙◌, ℕ, Bool, true, false, cond, refl, sym, ap, eqb}
use Rattle.std.proofs.Common.{eqb-true, arith}
use Rattle.std.proofs.lemmas.Simd.{first_set_mask_l}
use lib.Count.{count_trailing_zeros}
use Rattle.dm_text.proofs.row_part.lanes_before.Goals as goal

-- Where some bit is set, the number of the lowest one is that of its trailing zeros.
some_set : (m : ℕ) → m ≢ 0 → count_trailing_zeros 64 m ≡ cond (eqb m 0) 32 (count_trailing_zeros 64 m)
some_set m some = go (eqb m 0) refl
  where
    go : (b : Bool) → eqb m 0 ≡ b → count_trailing_zeros 64 m ≡ cond b 32 (count_trailing_zeros 64 m)
    go true e = absurd (some (eqb-true m 0 e))
    go false e = refl

pub returns-then-marks-eq0 : goal.returns-then-marks-eq0
returns-then-marks-eq0 c p block long marks =
    ap (λ (k : ℕ). cond (eqb k 0) 32 (count_trailing_zeros 64 k)) (sym c.if-marks-eq0.true ∙ marks)
    ∙ first_set_mask_l p block 32 long (omega arith)

pub returns-else-marks-eq0 : goal.returns-else-marks-eq0
returns-else-marks-eq0 c p block long marks =
    some_set c.args.marks c.if-marks-eq0.false
    ∙ ap (λ (k : ℕ). cond (eqb k 0) 32 (count_trailing_zeros 64 k)) marks
    ∙ first_set_mask_l p block 32 long (omega arith)
