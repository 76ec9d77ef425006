-- A block whose check codewords are put: its data codewords, and behind them the checks.
use Rattle.dm_layout.proofs.Names.{nat_tests, ◌≡◌, ◌∙◌, ℕ, ◌+◌, ◌*◌, ◌<◌, List, ◌++◌, length, get_or, set, take, sym}
use Rattle.dm_layout.proofs.Names.{ap, arith, get_or_append_left, get_or-take, length-append, length-take-le}
use Rattle.dm_layout.proofs.Names.{block_check, block_data, WordsView, IsWords, block_of}
use Rattle.std.proofs.lemmas.List.{get_or-append_right}
use Rattle.dm_layout.specs.symbols.Sizes.{block_length}
use Rattle.dm_layout.proofs.symbols.TableEntries.{block_parts}
use Rattle.dm_layout.proofs.symbols.BlockLemmas.{length_of_block, next_inside, put_one, word_of_block}

-- This is block b of the codewords with other check codewords.
abbrev pub finished : WordsView → ℕ → List ℕ → List ℕ
finished w b checks = take (block_data w.size b) (block_of w.size.blocks b w.list) ++ checks

module _ (w : WordsView) (b : ℕ) (checks : List ℕ) (words : IsWords w) (lb : b < w.size.blocks)
    (count : length checks ≡ block_check w.size) where
  front_length : length (take (block_data w.size b) (block_of w.size.blocks b w.list)) ≡ block_data w.size b
  front_length =
      length-take-le (block_data w.size b) (block_of w.size.blocks b w.list)
      (omega (arith, length_of_block w b words lb, block_parts w.size words.size b lb))

  -- It is as long as its data codewords and the checks together.
  pub finished_parts : length (finished w b checks) ≡ block_data w.size b + length checks
  finished_parts =
      length-append (take (block_data w.size b) (block_of w.size.blocks b w.list)) checks
      ∙ omega (arith, front_length)

  -- So it is as long as the block.
  pub finished_length : length (finished w b checks) ≡ block_length w.size b
  finished_length =
      finished_parts ∙ omega (arith, count, block_parts w.size words.size b lb)

  -- Its data codewords stand at their places.
  pub finished_front : (k : ℕ) → k < block_data w.size b →
      get_or w.list (k * w.size.blocks + b) 0 ≡ get_or (finished w b checks) k 0
  finished_front k l =
      grind (arith, nat_tests, get_or_append_left, checks, front_length, get_or-take, word_of_block, block_parts)

  -- Behind them are the checks.
  pub finished_check : (i : ℕ) → get_or (finished w b checks) (block_data w.size b + i) 0 ≡ get_or checks i 0
  finished_check i = grind (arith, nat_tests, get_or-append_right, checks, front_length)

  -- The place of the next check codeword lies within the symbol's codewords.
  pub check_inside : (v : WordsView) (B front i : ℕ) → IsWords v → v.size ≡ w.size → B ≡ w.size.blocks →
      front ≡ block_data w.size b → i < length checks → (front + i) * B + b < length v.list
  check_inside v B front i are same eb ef l =
      next_inside w v B b (front + i) (finished w b checks) are same eb lb finished_length
      (omega (arith, l, ef, finished_length, count, block_parts w.size words.size b lb))

  -- Once one more check codeword is put, it and the codewords before it stand at their places.
  pub check_put : (ws : List ℕ) (B front i : ℕ) → b < B → front ≡ block_data w.size b →
      (front + i) * B + b < length ws →
      ((k : ℕ) → k < block_data w.size b + i → get_or ws (k * B + b) 0 ≡ get_or (finished w b checks) k 0) →
      (k : ℕ) → k < block_data w.size b + (i + 1) →
      get_or (set ws ((front + i) * B + b) (get_or checks i 0)) (k * B + b) 0 ≡ get_or (finished w b checks) k 0
  check_put ws B front i below ef inside put k l =
      let value : get_or checks i 0 ≡ get_or (finished w b checks) (front + i) 0 =
      sym (finished_check i) ∙ ap (λ (n : ℕ). get_or (finished w b checks) (n + i) 0) (sym ef) in
      ap (λ (x : ℕ). get_or (set ws ((front + i) * B + b) x) (k * B + b) 0) value
      ∙ put_one B b (front + i) ws (finished w b checks) below inside (λ j h. put j (omega (arith, h, ef))) k
      (omega (arith, l, ef))
