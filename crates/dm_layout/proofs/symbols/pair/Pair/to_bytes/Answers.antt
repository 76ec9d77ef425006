use Rattle.dm_layout.proofs.Names.{◌≡◌, List, ◌∷◌, [], ◌^◌, ◌<◌, ◌∙◌, ℕ, ◌++◌, ap, refl, arith, mod-eq_of_lt, put_mid}
use Rattle.dm_layout.proofs.Names.{to_le_bytes, w128, pair, in_bytes}
use Rattle.dm_layout.proofs.symbols.SlotBytes.{bytes_append, in_bytes_append, low_first_small, sixteen_first, two_put}
use Rattle.dm_layout.proofs.symbols.pair.Pair.to_bytes.Goals as goal

-- Sixteen zeros.
abbrev zeros : List ℕ
zeros = 0 ∷ 0 ∷ 0 ∷ 0 ∷ 0 ∷ 0 ∷ 0 ∷ 0 ∷ 0 ∷ 0 ∷ 0 ∷ 0 ∷ 0 ∷ 0 ∷ 0 ∷ 0 ∷ []

-- The bytes are those of both numbers.
both_bytes : (l h : ℕ) (bs cs : List ℕ) → bs ≡ to_le_bytes w128 l → cs ≡ to_le_bytes w128 h →
    put_mid 16 16 (bs ++ zeros) cs ≡ to_le_bytes w128 l ++ to_le_bytes w128 h
both_bytes l h bs cs eb ec =
    rw (eb, ec, two_put (to_le_bytes w128 l) (to_le_bytes w128 h) zeros refl refl refl)

-- Their number is that of both numbers.
both_number : (l h : ℕ) → l < 2 ^ 128 → h < 2 ^ 128 → in_bytes (to_le_bytes w128 l ++ to_le_bytes w128 h) ≡ pair l h
both_number l h ll lh =
    rw (in_bytes_append, sixteen_first, mod-eq_of_lt, sixteen_first, mod-eq_of_lt)

pub returns-clause-bytes : goal.returns-clause-bytes
returns-clause-bytes c = λ i.
    rw (both_bytes c.args.self.now.low c.args.self.now.high _ _ (c.copy_from_slice.ensures.after ∙
    c.to_le_bytes.ensures) (c.copy_from_slice-2.ensures.after ∙ c.to_le_bytes-2.ensures)) (bytes_append (to_le_bytes
    w128 c.args.self.now.low) (to_le_bytes w128 c.args.self.now.high) (low_first_small 16 0 c.args.self.now.low)
    (low_first_small 16 0 c.args.self.now.high) i)

pub returns-clause-number : goal.returns-clause-number
returns-clause-number c =
    ap in_bytes (both_bytes c.args.self.now.low c.args.self.now.high _ _
    (c.copy_from_slice.ensures.after ∙ c.to_le_bytes.ensures)
    (c.copy_from_slice-2.ensures.after ∙ c.to_le_bytes-2.ensures))
    ∙ both_number c.args.self.now.low c.args.self.now.high (omega arith) (omega arith)
