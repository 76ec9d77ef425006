use Rattle.dm_layout.proofs.Names.{◌∙◌, ◌/◌, ◌^◌, ℕ, ap, refl, bit_or}
use Rattle.dm_layout.proofs.symbols.Pairs.{at_is, over_is}
use Rattle.dm_layout.proofs.symbols.pair_rows.PairRowsBitRows.wrap_left.Goals as goal

pub returns : goal.returns
returns c =
    over_is c.args.self.now _ c.args.row c.or.result _ _ refl c.requires.row
    (c.or.ensures ∙ ap (bit_or _) (c.right.ensures
    ∙ ap (λ (x : ℕ). x / 2 ^ c.args.column) (at_is c.args.self.now c.args.from _ c.requires.from)))
