use Rattle.dm_layout.proofs.Names.{◌∙◌, ◌+◌, ◌*◌, ◌/◌, ◌%◌, ◌^◌, ℕ, List, ap, get_or, arith, get_or-set_same, bit_and}
use Rattle.dm_layout.proofs.Names.{bit_or, is_dark_bit, LOW_TWO_BITS, LOW_THREE_BITS, number_of, numbers_of, pair}
use Rattle.dm_layout.proofs.symbols.Pairs.{at_is, pair_masks_at}
use Rattle.dm_layout.proofs.symbols.SlotRows.{joined_in}
use Rattle.dm_layout.proofs.symbols.pair_rows.PairRowsBitRows.join.Goals as goal

pub returns-clause-cells : goal.returns-clause-cells
returns-clause-cells c = λ room q l.
    let ps = c.args.self.now in
    let two : ℕ = pair LOW_TWO_BITS LOW_TWO_BITS in
    let three : ℕ = pair LOW_THREE_BITS LOW_THREE_BITS in
    let row : ℕ → ℕ = λ i. get_or (numbers_of ps) i 0 / 2 ^ c.args.column in
    let at : ℕ → ℕ = λ x. x / 2 ^ c.args.column in
    let first = c.masked-first.ensures ∙ ap (λ (x : ℕ). bit_and x two) (c.right.ensures
    ∙ ap at (at_is ps c.args.row _ (omega (arith, c.requires.row)))) in
    let second = c.left.ensures ∙ ap (λ (x : ℕ). x * 4 % 2 ^ 256) (c.masked-second.ensures
    ∙ ap (λ (x : ℕ). bit_and x three) (c.right-2.ensures
    ∙ ap at (at_is ps (c.args.row + 1) _ (omega (arith, c.requires.row))))) in
    let third = c.left-2.ensures ∙ ap (λ (x : ℕ). x * 32 % 2 ^ 256) (c.masked-third.ensures
    ∙ ap (λ (x : ℕ). bit_and x three) (c.right-3.ensures
    ∙ ap at (at_is ps (c.args.row + 2) _ (omega (arith, c.requires.row))))) in
    ap (λ (xs : List ℕ). is_dark_bit (get_or xs c.args.row 0) q) c.put_row.ensures
    ∙ ap (λ (x : ℕ). is_dark_bit x q) (get_or-set_same c.args.slots.now c.args.row _ 0 room
    ∙ c.to_bytes.ensures.number ∙ c.or-codewords.ensures
    ∙ ap (λ (x : ℕ). bit_or x (number_of c.left-2.result)) (c.or.ensures
    ∙ ap (λ (x : ℕ). bit_or x (number_of c.left.result)) first ∙ ap (bit_or _) second)
    ∙ ap (bit_or _) third)
    ∙ joined_in 256 two three pair_masks_at (row c.args.row) (row (c.args.row + 1)) (row (c.args.row + 2)) q l
