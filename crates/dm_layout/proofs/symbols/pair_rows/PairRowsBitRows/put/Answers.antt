use Rattle.std.proofs.Common.{◌≡◌, ◌+◌, ◌*◌, ◌^◌, ◌%◌, ◌<◌, ℕ, arith}
use Rattle.dm_layout.proofs.symbols.Pairs.{put_is}
use Rattle.dm_layout.proofs.symbols.pair_rows.PairRowsBitRows.put.Goals as goal

-- A row that is moved to the left loses nothing.
moved : (inner rest : ℕ) → rest * 2 ^ 128 + inner < 2 ^ 132 →
    (rest * 2 ^ 128 + inner) * 2 ^ 4 % 2 ^ 256 ≡ (rest * 2 ^ 128 + inner) * 16
moved inner rest l = omega (arith, l)

pub returns : goal.returns
returns c =
    put_is c.args.self.now c.args.row c.left.result _
    (rw (c.left.ensures, c.from.ensures, moved c.args.inner c.args.rest c.requires.inner))
