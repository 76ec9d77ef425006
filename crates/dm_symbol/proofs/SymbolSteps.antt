-- The steps by which the blocks of a symbol of any size are restored, one after the other.
use Rattle.dm_symbol.proofs.Names.{near_none_but, ◌≡◌, ℕ, zero, suc, ◌+◌, ◌-◌, ◌*◌, ◌<◌, ◌≤◌, List, [], ◌∷◌, ◌++◌}
use Rattle.dm_symbol.proofs.Names.{length, get_or, map, Option, Some, None, Result, Ok, Err, refl, sym, ap, subst, ◌∙◌}
use Rattle.dm_symbol.proofs.Names.{below_more, arith, OnOk, range_with_len, get_or_append_left, get_or_push, IsNear}
use Rattle.dm_symbol.proofs.Names.{distance, IsNearBut, distance_but, SizeEntry, block_check, BlockReading}
use Rattle.dm_symbol.proofs.Names.{AreBlocksNear, IsFirstLost, IsBlockRestored, AreBlocksMended, block_reading}
use Rattle.dm_symbol.proofs.Names.{block_readings, block_of}
use Rattle.std.specs.Prelude.{IfErr}
use Rattle.dm_symbol.proofs.SymbolBelow.{distance_plain}

-- ---- what is said of a block

-- What is said of a block, by its three numbers.
reading_by : (a b c x y z : ℕ) → a ≡ x → b ≡ y → c ≡ z
    → ◌≡◌ {A = BlockReading} (record { corrected = a; erased = b; left = c })
    (record { corrected = x; erased = y; left = z })
reading_by a b c x y z ea eb ec = cc

-- Numbers that use up the check codewords of a block are what is said of it.
pub reading_is : (k corrected erased left : ℕ) (places block codeword : List ℕ)
    → corrected ≡ distance_but places block codeword
    → erased ≡ length places → 2 * corrected + erased + left ≡ k
    → ◌≡◌ {A = BlockReading} (record { corrected = corrected; erased = erased; left = left })
    (block_reading k places block codeword)
reading_is k corrected erased left places block codeword ec ee whole =
    let d = distance_but places block codeword in
    let rest : left ≡ k - (2 * d + length places) = omega (arith, whole, ec, ee) in
    reading_by corrected erased left d (length places) (k - (2 * d + length places)) ec ee rest

-- A block that becomes the codeword near to it is restored, none of its places being erased.
pub plain_restored : (k checks changed : ℕ) (held found after : List ℕ) → IsNear k held found
    → changed ≡ distance held found
    → checks ≡ k → after ≡ found
    → IsBlockRestored k [] held after (Some (record { corrected = changed; erased = 0; left = checks - 2 * changed }))
plain_restored k checks changed held found after near counted same put =
    let said : changed ≡ distance_but [] held found = counted ∙ sym (distance_plain held found) in
    let whole : 2 * changed + 0 + (checks - 2 * changed) ≡ k = omega (arith, near.close, counted, same) in
    subst (λ x. IsBlockRestored k [] held x
    (Some (record { corrected = changed; erased = 0; left = checks - 2 * changed }))) (sym put)
    (near_none_but k held found near, reading_is k changed 0 (checks - 2 * changed) [] held found said refl whole)

-- This is said of no block; it fills the places behind a list.
abbrev pub nothing_said : BlockReading
nothing_said = record { corrected = 0; erased = 0; left = 0 }

-- ---- block by block

-- What is said of one block more is said of its words.
pub said_more : (of : ℕ → List ℕ → BlockReading) (before after : ℕ
    → List ℕ) (list : List BlockReading) (d : BlockReading)
    (b : ℕ) (r : BlockReading) → length list ≡ b → ((a : ℕ) → a < b → get_or list a d ≡ of a (before a))
    → ((a : ℕ) → a < b → after a ≡ before a) → r ≡ of b (after b)
    → (a : ℕ) → a < b + 1 → get_or (list ++ r ∷ []) a d ≡ of a (after a)
said_more of before after list d b r e so_far same now =
    below_more (λ a. get_or (list ++ r ∷ []) a d ≡ of a (after a)) b
    (λ a l. get_or_append_left list (r ∷ []) d a (omega (arith, e)) ∙ so_far a l ∙ ap (of a) (sym (same a l)))
    (get_or_push list r d b e ∙ now)

-- ---- the same places erased, named in another way

module _ (size : SizeEntry) (e f : ℕ → List ℕ) (same : (b : ℕ) → b < size.blocks → e b ≡ f b) where
  -- Blocks that are near but for the ones are near but for the others.
  pub near_moves : (u v : List ℕ) → AreBlocksNear size e u v → AreBlocksNear size f u v
  near_moves u v h = λ b hb.
      subst (λ p. IsNearBut (block_check size) (block_of size.blocks b u) p (block_of size.blocks b v))
      (same b hb) (h b hb)

  -- Nothing is near but for the others where nothing is but for the ones, and the other way round.
  pub lost_moves : (u : List ℕ) (b : ℕ) → IsFirstLost size e u b → IsFirstLost size f u b
  lost_moves u b h = record {
    in_symbol = h.in_symbol;
    lost = subst (λ p. (c : List ℕ) → IsNearBut (block_check size) (block_of size.blocks b u) p c → ⊥)
        (same b h.in_symbol) h.lost;
    first = λ a ha.
        subst (λ p. (c : List ℕ) × IsNearBut (block_check size) (block_of size.blocks a u) p c)
        (same a (omega (arith, ha, h.in_symbol))) (h.first a ha);
  }

  -- Blocks that are restored but for the ones are restored but for the others.
  pub mended_moves : (u v : List ℕ) (list : List (Option BlockReading)) → AreBlocksMended size e u v list
      → AreBlocksMended size f u v list
  mended_moves u v list h = λ b hb.
      subst (λ p. IsBlockRestored (block_check size) p (block_of size.blocks b u) (block_of size.blocks b v)
      (get_or list b None))
      (same b hb) (h b hb)

  -- The same is said of the blocks.
  pub readings_move : (u v : List ℕ) → block_readings size e u v ≡ block_readings size f u v
  readings_move u v = each 0 size.blocks (λ b low high. omega (arith, high))
    where
      of : (ℕ → List ℕ) → ℕ → BlockReading
      of p b = block_reading (block_check size) (p b) (block_of size.blocks b u) (block_of size.blocks b v)

      each : (a n : ℕ) → ((b : ℕ) → a ≤ b → b < a + n → b < size.blocks)
          → map (of e) (range_with_len a n) ≡ map (of f) (range_with_len a n)
      each a zero inside = refl
      each a (suc n) inside =
          let here : of e a ≡ of f a =
          ap (λ p. block_reading (block_check size) p (block_of size.blocks a u) (block_of size.blocks a v))
          (same a (inside a (omega arith) (omega arith))) in
          ap (λ r. r ∷ map (of e) (range_with_len (a + 1) n)) here
          ∙ ap (λ rs. of f a ∷ rs) (each (a + 1) n (λ b low high. inside b (omega arith) (omega arith)))

  -- So what restoring the blocks leaves but for the ones is what it leaves but for the others.
  pub blocks_move : (r : Result Unit ℕ) (u v : List ℕ) (list : List BlockReading) → OnOk r (AreBlocksNear size e u v)
      → OnOk r (list ≡ block_readings size e u v) → IfErr r (IsFirstLost size e u)
      → OnOk r (AreBlocksNear size f u v) × OnOk r (list ≡ block_readings size f u v) × IfErr r (IsFirstLost size f u)
  blocks_move (Ok a) u v list near said lost = (near_moves u v near, said ∙ readings_move u v, tt)
  blocks_move (Err b) u v list near said lost = (tt, tt, lost_moves u b lost)
