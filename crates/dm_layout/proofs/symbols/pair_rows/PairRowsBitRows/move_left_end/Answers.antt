use Rattle.dm_layout.proofs.Names.{◌∙◌, ◌≡◌, ◌+◌, ◌*◌, ◌%◌, ◌^◌, ℕ, ap, refl, arith, bit_or}
use Rattle.dm_layout.proofs.symbols.Pairs.{at_is, over_is}
use Rattle.dm_layout.proofs.symbols.pair_rows.PairRowsBitRows.move_left_end.Goals as goal

-- The lowest bits of a pair are those of its first number.
lowest : (l h : ℕ) → 0 * 2 ^ 128 + l % 16 ≡ (h * 2 ^ 128 + l) % 16
lowest l h = omega arith

pub returns : goal.returns
returns c =
    over_is c.args.self.now _ c.args.row c.or.result _ _ refl c.requires.row
    (c.or.ensures ∙ ap (bit_or _) (c.left.ensures
    ∙ ap (λ (x : ℕ). x * 2 ^ c.args.column % 2 ^ 256) (lowest _ _
    ∙ ap (λ (x : ℕ). x % 16) (at_is c.args.self.now c.args.from _ c.requires.from))))
