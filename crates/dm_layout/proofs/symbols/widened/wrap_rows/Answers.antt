use Rattle.dm_layout.proofs.Names.{◌≡◌, ◌∙◌, ℕ, ◌+◌, ◌*◌, ◌/◌, ◌%◌, ◌^◌, List, get_or, set, ap, arith, look_in}
use Rattle.dm_layout.proofs.symbols.WidenedRows.{row_above}
use Rattle.dm_layout.proofs.symbols.widened.wrap_rows.Goals as goal

-- These are the rows with two of them put, one after the other.
both_put : (width n shift : ℕ) (olds mids news : List ℕ) →
    mids ≡ set olds 0 (get_or olds n 0 * 2 ^ shift % 2 ^ width / 16) →
    news ≡ set mids 1 (get_or mids (n + 1) 0 * 2 ^ shift % 2 ^ width / 16) →
    news ≡ set (set olds 0 (get_or olds n 0 * 2 ^ shift % 2 ^ width / 16)) 1
    (get_or (set olds 0 (get_or olds n 0 * 2 ^ shift % 2 ^ width / 16)) (n + 1) 0 * 2 ^ shift % 2 ^ width / 16)
both_put width n shift olds mids news first second =
    second ∙ ap (λ (xs : List ℕ). set xs 1 (get_or xs (n + 1) 0 * 2 ^ shift % 2 ^ width / 16)) first

pub returns-clause-above : goal.returns-clause-above
returns-clause-above g c = λ r q lr lq ls.
    let n : ℕ = c.args.height in
    let olds = g.R.BitRows.numbers c.args.rows.now in
    ap (λ (xs : List ℕ). look_in xs r q) (both_put g.R.BitRows.width n c.args.shift olds _ _ c.wrap_above.ensures
    c.wrap_above-2.ensures)
    ∙ row_above g.R.BitRows.width olds n c.args.shift r q (omega (arith, c.requires.some))
    (omega (arith, c.requires.room)) lr
    (omega (arith, lq, c.requires.wide, g.met.R.BitRows.fits.1)) ls
