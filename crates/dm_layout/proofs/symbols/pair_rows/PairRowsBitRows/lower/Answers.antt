use Rattle.dm_layout.proofs.Names.{◌≡◌, ◌∙◌, ◌-◌, ◌*◌, ◌/◌, ◌%◌, ◌^◌, ◌≤◌, ◌<◌, ℕ, List, ap, get_or, length, refl, set}
use Rattle.dm_layout.proofs.Names.{bit_or, Pair, number_of, numbers_of}
use Rattle.dm_layout.proofs.symbols.MovedRows.{moved_left, moved_right, over_row, IsOver}
use Rattle.dm_layout.proofs.symbols.Pairs.{at_is, over_is}
use Rattle.dm_layout.proofs.symbols.pair_rows.PairRowsBitRows.lower.Goals as goal

module _ (ps : List Pair) (row from shift : ℕ) (p q d e : Pair) (inside : row < length (numbers_of ps))
    (there : from < length (numbers_of ps)) (over : number_of p ≡ bit_or (number_of (get_or ps row d)) (number_of q))
  where
    -- A row over which another one is laid that was moved to the left.
    by_left : shift ≤ 4 → number_of q ≡ number_of (get_or ps from e) * 2 ^ (4 - shift) % 2 ^ 256 →
        IsOver (numbers_of ps) (numbers_of (set ps row p)) 256 row from shift
    by_left l eq =
        let x : ℕ = get_or (numbers_of ps) from 0 in
        rw (← over_is ps (numbers_of ps) row p d (x * 2 ^ (4 - shift) % 2 ^ 256) refl inside (over ∙ ap (bit_or
        (number_of (get_or ps row d))) (eq ∙ ap (λ (i : ℕ). i * 2 ^ (4 - shift) % 2 ^ 256) (at_is ps from e there)))) at
        (over_row (numbers_of ps) 256 row from shift _ inside (λ c h. moved_right 256 x shift c l h))

    -- One over which another one is laid that was moved to the right.
    by_right : 4 < shift → number_of q ≡ number_of (get_or ps from e) / 2 ^ (shift - 4) →
        IsOver (numbers_of ps) (numbers_of (set ps row p)) 256 row from shift
    by_right l eq =
        let x : ℕ = get_or (numbers_of ps) from 0 in
        rw (← over_is ps (numbers_of ps) row p d (x / 2 ^ (shift - 4)) refl inside (over ∙ ap (bit_or (number_of (get_or
        ps row d))) (eq ∙ ap (λ (i : ℕ). i / 2 ^ (shift - 4)) (at_is ps from e there)))) at (over_row (numbers_of ps)
        256 row from shift _ inside (λ c h. moved_left x shift c l))

pub returns-then-shift-le4-clause-others : goal.returns-then-shift-le4-clause-others
returns-then-shift-le4-clause-others c =
    (by_left c.args.self.now c.args.row c.args.from c.args.shift c.or.result c.left.result _ _ c.requires.row
    c.requires.from c.or.ensures c.if-shift-le4.true c.left.ensures).others

pub returns-then-shift-le4-clause-cells : goal.returns-then-shift-le4-clause-cells
returns-then-shift-le4-clause-cells c =
    (by_left c.args.self.now c.args.row c.args.from c.args.shift c.or.result c.left.result _ _ c.requires.row
    c.requires.from c.or.ensures c.if-shift-le4.true c.left.ensures).cells

pub returns-else-shift-le4-clause-others : goal.returns-else-shift-le4-clause-others
returns-else-shift-le4-clause-others c =
    (by_right c.args.self.now c.args.row c.args.from c.args.shift c.or-else-shift-le4.result c.right.result _ _
    c.requires.row c.requires.from c.or-else-shift-le4.ensures c.if-shift-le4.false c.right.ensures).others

pub returns-else-shift-le4-clause-cells : goal.returns-else-shift-le4-clause-cells
returns-else-shift-le4-clause-cells c =
    (by_right c.args.self.now c.args.row c.args.from c.args.shift c.or-else-shift-le4.result c.right.result _ _
    c.requires.row c.requires.from c.or-else-shift-le4.ensures c.if-shift-le4.false c.right.ensures).cells
