use Rattle.dm_layout.proofs.Names.{◌∙◌, ◌≡◌, ◌+◌, ◌*◌, ◌%◌, ◌^◌, ℕ, ap, refl, arith, bit_or}
use Rattle.dm_layout.proofs.symbols.Pairs.{over_is}
use Rattle.dm_layout.proofs.symbols.pair_rows.PairRowsBitRows.put_bit.Goals as goal

-- A pair of a number and of 0 is the number.
alone : (x : ℕ) → 0 * 2 ^ 128 + x ≡ x
alone x = omega arith

pub returns : goal.returns
returns c =
    over_is c.args.self.now _ c.args.row c.or.result _ _ refl c.requires.row
    (c.or.ensures ∙ ap (bit_or _) (c.left.ensures
    ∙ ap (λ (x : ℕ). x * 2 ^ c.args.column % 2 ^ 256) (alone c.from.result ∙ c.from.ensures)))
