use Rattle.dm_layout.proofs.Names.{◌∙◌, ◌+◌, ◌*◌, ◌/◌, ◌%◌, ◌^◌, ℕ, List, ap, get_or, refl, set, arith, bit_and, bit_or}
use Rattle.dm_layout.proofs.Names.{length-set, is_dark_bit, LOW_TWO_BITS, LOW_THREE_BITS, number_of, numbers_of, pair}
use Rattle.dm_layout.proofs.Names.{look_in}
use Rattle.dm_layout.proofs.symbols.LaidRows.{row_scattered}
use Rattle.dm_layout.proofs.symbols.Pairs.{over_is, pair_masks_at}
use Rattle.dm_layout.proofs.symbols.pair_rows.PairRowsBitRows.scatter.Goals as goal

pub returns-clause-cells : goal.returns-clause-cells
returns-clause-cells c = λ r q l.
    let row : ℕ = c.args.row in
    let olds : List ℕ = numbers_of c.args.self.now in
    let two : ℕ = pair LOW_TWO_BITS LOW_TWO_BITS in
    let three : ℕ = pair LOW_THREE_BITS LOW_THREE_BITS in
    let x : ℕ = number_of c.from_bytes-codewords.result in
    let up : ℕ → ℕ = λ i. i * 2 ^ c.args.column % 2 ^ 256 in
    let y : ℕ = up (bit_and (x / 2 ^ 2) three) in
    let z : ℕ = up (bit_and (x / 2 ^ 5) three) in
    let a : List ℕ = set olds row (bit_or (get_or olds row 0) (up (bit_and x two))) in
    let b : List ℕ = set a (row + 1) (bit_or (get_or a (row + 1) 0) y) in
    let k = length-set olds row (bit_or (get_or olds row 0) (up (bit_and x two))) in
    let m = length-set a (row + 1) (bit_or (get_or a (row + 1) 0) y) in
    let first =
    over_is c.args.self.now olds row c.or.result _ (up (bit_and x two)) refl (omega (arith, c.requires.row))
    (c.or.ensures ∙ ap (bit_or _) (c.left.ensures ∙ ap up c.masked-first.ensures)) in
    let second =
    over_is (set c.args.self.now row c.or.result) a (row + 1) c.or-2.result _ y first (omega (arith, c.requires.row, k))
    (c.or-2.ensures ∙ ap (bit_or _) (c.left-2.ensures ∙ ap up (c.masked-second.ensures
    ∙ ap (λ (i : ℕ). bit_and i three) c.right.ensures))) in
    let third =
    over_is (set (set c.args.self.now row c.or.result) (row + 1) c.or-2.result) b (row + 2) c.or-3.result _ z second
    (omega (arith, c.requires.row, k, m))
    (c.or-3.ensures ∙ ap (bit_or _) (c.left-3.ensures ∙ ap up (c.masked-third.ensures
    ∙ ap (λ (i : ℕ). bit_and i three) c.right-2.ensures))) in
    ap (λ (xs : List ℕ). look_in xs r q) third
    ∙ row_scattered 256 two three pair_masks_at refl olds c.args.slots.now x row c.args.column r q
    (λ i h. ap (λ (n : ℕ). is_dark_bit n i) (c.from_bytes-codewords.ensures ∙ c.row.ensures.number))
    (omega (arith, c.requires.row)) l
