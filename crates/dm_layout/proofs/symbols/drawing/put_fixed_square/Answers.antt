use Rattle.dm_layout.proofs.Names.{◌≡◌, ℕ, ◌+◌, Bool, ◌&&◌, ◌||◌, nat_eq, ap, sym, ◌∙◌, arith, rules, or-false, look_in}
use Rattle.dm_layout.proofs.symbols.DrawnRows.{fixed_cells, free_cells, put_twice}
use Rattle.dm_layout.proofs.symbols.drawing.put_fixed_square.Goals as goal

pub returns-then-columns-eq2 : goal.returns-then-columns-eq2
returns-then-columns-eq2 g c = record {
  room = search rules;
  free = λ r q lr lq h.
      twice r q ∙ ap (λ (b : Bool). look_in (g.R.BitRows.numbers c.args.rows.now) (r + 2) (q + 4) || b)
      (free_cells n r q c.requires.some lr (omega (arith, lq, e)) c.if-height-eq2.true (rw e at h))
      ∙ or-false (look_in (g.R.BitRows.numbers c.args.rows.now) (r + 2) (q + 4));
  fixed = λ r q lr lq h light.
      rw (twice r q, light, fixed_cells n r q c.requires.some lr (omega (arith, lq, e)) (rw e at h));
}
  where
    n : ℕ
    n = c.args.height

    e : c.args.columns ≡ n
    e = sym (c.requires.square c.if-height-eq2.true c.if-columns-eq2.true)

    -- Whether one of the two cells is put there.
    put : ℕ → ℕ → Bool
    put r q = (nat_eq (r + 2) n && nat_eq (q + 4) (n + 2)) || (nat_eq (r + 2) (n + 1) && nat_eq (q + 4) (n + 3))

    twice : (r q : ℕ) → look_in (g.R.BitRows.numbers c.put_bit-then-columns-eq2.new.self) (r + 2) (q + 4) ≡
        (look_in (g.R.BitRows.numbers c.args.rows.now) (r + 2) (q + 4) || put r q)
    twice r q =
        put_twice g.R.BitRows.width n (g.R.BitRows.numbers c.args.rows.now) _ _ r q
        (omega (arith, c.requires.room, c.requires.high)) (omega (arith, c.requires.high, g.met.R.BitRows.fits.1))
        (rw e at c.put_bit.ensures) (rw e at c.put_bit-then-columns-eq2.ensures)
