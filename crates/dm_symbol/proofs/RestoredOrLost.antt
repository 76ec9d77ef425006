-- The words that a symbol of any size holds are restored, or a first block of them is lost.
use Rattle.dm_symbol.proofs.Names.{codeword_bytes, length_of_block, words_with, ◌≡◌, ◌⊎◌, ℕ, zero, suc, ◌<◌, ◌≤◌, List}
use Rattle.dm_symbol.proofs.Names.{Option, inl, inr, refl, sym, ap, subst, ◌∙◌, arith, cases_eq, Extent, Usual, Wide}
use Rattle.dm_symbol.proofs.Names.{IsNearBut, SizeEntry, block_check, SymbolView, blocks_make_words, Dealing, Standard}
use Rattle.dm_symbol.proofs.Names.{Restarted, IsDealtTwoWays, dealt, erased_by, AreOfSize, AreRestoredBy, AreRestored}
use Rattle.dm_symbol.proofs.Names.{AreLost, IsFirstLost, Holds, block_of}
use Rattle.dm_code.proofs.Exported.{near_but_or_none}
use Rattle.dm_symbol.proofs.Choosing.{chosen}
use Rattle.dm_symbol.proofs.SymbolBelow.{block_facts}
use Rattle.dm_symbol.proofs.Dealings.{dealt_of_size, not_restarted, not_wide, undealt}

-- Some codeword is near to a block but for its erased places, or none is.
block_near_or_none : (size : SizeEntry) (erased : ℕ → List ℕ) (words : List ℕ) → AreOfSize size words → (b : ℕ)
    → b < size.blocks
    → ((c : List ℕ) × IsNearBut (block_check size) (block_of size.blocks b words) (erased b) c)
    ⊎ ((c : List ℕ) → IsNearBut (block_check size) (block_of size.blocks b words) (erased b) c → ⊥)
block_near_or_none size erased words h b hb =
    let f = block_facts size h.size b hb in
    let long = length_of_block (words_with size words) b h hb in
    near_but_or_none (block_check size) (block_of size.blocks b words) (erased b) (omega (arith, long, f.some_data))
    (omega (arith, long, f.short))

-- Each of the first n blocks has a codeword near to it but for its erased places, or there is a first block that has
-- none.
pub near_or_first_lost : (size : SizeEntry) (erased : ℕ → List ℕ) (words : List ℕ) → AreOfSize size words → (n : ℕ)
    → n ≤ size.blocks
    → ((b : ℕ) → b < n → (c : List ℕ) × IsNearBut (block_check size) (block_of size.blocks b words) (erased b) c)
    ⊎ ((b : ℕ) × IsFirstLost size erased words b)
near_or_first_lost size erased words h zero hn = inl (λ b hb. absurd (omega (arith, hb)))
near_or_first_lost size erased words h (suc n) hn =
    elim (near_or_first_lost size erased words h n (omega (arith, hn))) [
      | inr first ↦ inr first
      | inl before ↦ elim (block_near_or_none size erased words h n (omega (arith, hn))) [
        | inr none ↦ inr (n, record { in_symbol = omega (arith, hn); lost = none; first = before })
        | inl here ↦ inl (λ b hb. elim (cases_eq b n) [
          | inl e ↦ subst
              (λ x. (c : List ℕ) × IsNearBut (block_check size) (block_of size.blocks x words) (erased x) c) (sym e)
              here
          | inr other ↦ before b (omega (arith, hb, other))
        ])
      ]
    ]

-- Words whose blocks, dealt so, all have codewords near to them but for their erased places are restored.
restored : (d : Dealing) (modules : SymbolView) (doubtful : Option SymbolView) (words : List ℕ)
    → (d ≡ Restarted → IsDealtTwoWays modules.size) → Holds modules (words_with modules.size words)
    → ((b : ℕ) → b < modules.size.blocks → (c : List ℕ) × IsNearBut (block_check modules.size)
    (block_of modules.size.blocks b (dealt d modules.size words)) (erased_by d modules.size doubtful b) c)
    → (codewords : List ℕ) × AreRestoredBy d modules doubtful words codewords
restored d modules doubtful words two h near =
    let size = modules.size in
    let word = dealt d size words in
    let near_one = chosen size.blocks
    (λ b c. IsNearBut (block_check size) (block_of size.blocks b word) (erased_by d size doubtful b) c) near in
    let made = blocks_make_words size near_one.0 h.codewords.size (λ b hb. (
      (near_one.1 b hb).long ∙ length_of_block (words_with size word) b (dealt_of_size d size words two h.codewords) hb,
      codeword_bytes (block_check size) (near_one.0 b) (near_one.1 b hb).codeword,
    )) in
    let back = undealt d size made.0.list two (subst (λ s. AreOfSize s made.0.list) made.2 made.1) in (
      back.0,
      record {
        words_held = h;
        of_size = back.1;
        near = λ b hb. subst
            (λ c. IsNearBut (block_check size) (block_of size.blocks b word) (erased_by d size doubtful b) c)
            (sym (ap (λ c. block_of size.blocks b c) back.2 ∙ made.3 b hb)) (near_one.1 b hb);
      },
    )

-- The other dealing is tried where a block is lost, or it isn't.
tried_or_not : (extent : Extent) (size : SizeEntry) → ((extent ≡ Wide) × IsDealtTwoWays size)
    ⊎ (extent ≡ Wide → IsDealtTwoWays size → ⊥)
tried_or_not Usual size = inr (λ e two. not_wide e)
tried_or_not Wide size =
    elim (cases_eq size.rows 144) [
      | inr other ↦ inr (λ e two. other two.0)
      | inl rows ↦ elim (cases_eq size.columns 144) [
        | inr other ↦ inr (λ e two. other two.1)
        | inl columns ↦ inl (refl, (rows, columns))
      ]
    ]

-- Words that modules hold are restored by a dealing, or they are lost.
pub restored_or_lost : (extent : Extent) (modules : SymbolView) (doubtful : Option SymbolView) (words : List ℕ)
    → Holds modules (words_with modules.size words)
    → ((d : Dealing) × (c : List ℕ) × AreRestored extent modules doubtful d words c)
    ⊎ ((b : ℕ) × AreLost extent modules doubtful words b)
restored_or_lost extent modules doubtful words h =
    let size = modules.size in
    elim (near_or_first_lost size (erased_by Standard size doubtful) words h.codewords size.blocks (omega arith)) [
      | inl near ↦
          let c = restored Standard modules doubtful words not_restarted h near in
          inl (Standard, c.0, record { tried = λ e. cc; by = c.1 })
      | inr first ↦ elim (tried_or_not extent size) [
        | inr not ↦ inr (
          first.0,
          record {
            words_held = h;
            first = first.1;
            otherwise = λ c r. not (r.tried refl).0 (r.tried refl).1;
          },
        )
        | inl both ↦
            let two : Restarted ≡ Restarted → IsDealtTwoWays size = λ e. both.1 in
            elim (near_or_first_lost size (erased_by Restarted size doubtful) (dealt Restarted size words)
            (dealt_of_size Restarted size words two h.codewords) size.blocks (omega arith)) [
              | inl near ↦
                  let c = restored Restarted modules doubtful words two h near in
                  inl (Restarted, c.0, record { tried = λ e. (both.0, both.1, first.0, first.1); by = c.1 })
              | inr lost ↦ inr (
                first.0,
                record {
                  words_held = h;
                  first = first.1;
                  otherwise = λ c r. lost.1.lost
                      (block_of size.blocks lost.0 (dealt Restarted size c)) (r.by.near lost.0 lost.1.in_symbol);
                },
              )
            ]
      ]
    ]
