-- Data codewords are completed by check codewords, and a size that is chosen stands in the table.
use Rattle.dm_symbol.proofs.Names.{codeword_bytes, length_of_block, ◌≡◌, ℕ, ◌<◌, List, ◌++◌, length, take, replicate}
use Rattle.dm_symbol.proofs.Names.{Some, refl, sym, ap, subst, ◌∙◌, arith, nat_le, ◌&&◌, Bool, true, false, not, cond}
use Rattle.dm_symbol.proofs.Names.{nat_eq, [], ◌∷◌, find, All, AllByRecursion, and_parts, and_from, eq-eqb}
use Rattle.dm_symbol.proofs.Names.{length-append, length-take-le, All-from_get_or, All-take, take-append_seam}
use Rattle.dm_symbol.proofs.Names.{IsCodeword, SizeChoice, SizeEntry, IsSize, entry_for, block_data, block_check}
use Rattle.dm_symbol.proofs.Names.{block_length, at_found, blocks_make_words, same_data_by_blocks, words_with}
use Rattle.dm_symbol.proofs.Names.{AreOfSize, AreCodewordsOf, first_data, block_of}
use Rattle.dm_code.proofs.Exported.{checks_are_there}
use Rattle.std.specs.List.{list_all}
use Rattle.std.proofs.lemmas.List.{get_or-replicate, length-replicate}
use Rattle.std.proofs.lemmas.List.Elements.{All-append}
use Rattle.dm_layout.specs.symbols.Sizes.{takes, size_table}
use Rattle.dm_layout.specs.symbols.Blocks.{AreBlocks}
use Rattle.dm_symbol.proofs.Choosing.{chosen}
use Rattle.dm_symbol.proofs.SymbolBelow.{block_facts}
use Rattle.dm_symbol.proofs.SymbolReadings.{bytes_in_block}

-- ---- sizes

-- A size of these rows and columns.
abbrev has_sides : ℕ → ℕ → SizeEntry → Bool
has_sides rows columns size = nat_eq size.rows rows && nat_eq size.columns columns

-- Each of these sizes has other rows or other columns than those behind it.
abbrev sizes_differ : List SizeEntry → Bool
sizes_differ [] = true
sizes_differ (r ∷ sizes) = list_all (λ s. not (has_sides s.rows s.columns r)) sizes && sizes_differ sizes

-- Those of the table do: this is computed.
table_differs : sizes_differ size_table ≡ true
unfolding size_table
table_differs = refl

-- What isn't false is true, the other way round.
not_true : (b : Bool) → not b ≡ true → b ≡ false
not_true true e = sym e
not_true false e = refl

-- Where sizes differ, each is found by its rows and columns.
found_by_sides : (sizes : List SizeEntry) → sizes_differ sizes ≡ true
    → AllByRecursion (λ s. find (has_sides s.rows s.columns) sizes ≡ Some s) sizes
found_by_sides [] h = tt
found_by_sides (r ∷ sizes) h =
    let parts = and_parts (list_all (λ s. not (has_sides s.rows s.columns r)) sizes) (sizes_differ sizes) h in
    (first r sizes, behind sizes parts.0 (found_by_sides sizes parts.1))
  where
    first : (r : SizeEntry) (sizes : List SizeEntry) → find (has_sides r.rows r.columns) (r ∷ sizes) ≡ Some r
    first r sizes =
        ap (λ b. cond b (Some r) (find (has_sides r.rows r.columns) sizes))
        (and_from (nat_eq r.rows r.rows) (nat_eq r.columns r.columns) (eq-eqb r.rows r.rows refl)
        (eq-eqb r.columns r.columns refl))

    behind : (later : List SizeEntry) → list_all (λ s. not (has_sides s.rows s.columns r)) later ≡ true
        → AllByRecursion (λ s. find (has_sides s.rows s.columns) sizes ≡ Some s) later
        → AllByRecursion (λ s. find (has_sides s.rows s.columns) (r ∷ sizes) ≡ Some s) later
    behind [] h found = tt
    behind (s ∷ later) h found =
        let parts =
        and_parts (not (has_sides s.rows s.columns r)) (list_all (λ t. not (has_sides t.rows t.columns r)) later)
        h in (
          ap (λ b. cond b (Some r) (find (has_sides s.rows s.columns) sizes))
              (not_true (has_sides s.rows s.columns r) parts.0) ∙ found.0,
          behind later parts.1 found.1,
        )

-- Each size of the table stands in it.
sizes_stand : AllByRecursion IsSize size_table
sizes_stand = found_by_sides size_table table_differs

-- A size that is chosen stands in the table.
pub chosen_stands : (choice : SizeChoice) (count : ℕ) (size : SizeEntry) → entry_for choice count ≡ Some size
    → IsSize size
chosen_stands choice count size e =
    at_found IsSize (λ s. takes choice s && nat_le count s.data_count) size_table size sizes_stand e

-- ---- check codewords

-- A symbol has codewords whose blocks are these.
record HasBlocks (size : SizeEntry) (blocks : ℕ → List ℕ) : Type 0 where
  pub list : List ℕ
  pub of_size : AreOfSize size list
  pub are : (b : ℕ) → b < size.blocks → block_of size.blocks b list ≡ blocks b

-- There are codewords of a symbol with any blocks of the right lengths.
words_of_blocks : (size : SizeEntry) (blocks : ℕ → List ℕ) → IsSize size → AreBlocks size blocks → HasBlocks size blocks
words_of_blocks size blocks entry are =
    let made = blocks_make_words size blocks entry are in
    record { list = made.0.list; of_size = subst (λ s. AreOfSize s made.0.list) made.2 made.1; are = made.3 }

-- The list is the data codewords of a block, and check codewords that make them a codeword.
record IsCompletion (size : SizeEntry) (words : List ℕ) (b : ℕ) (list : List ℕ) : Type 0 where
  pub checks : List ℕ
  pub whole : list ≡ take (block_data size b) (block_of size.blocks b words) ++ checks
  pub long : length list ≡ block_length size b
  pub codeword : IsCodeword (block_check size) list

-- A block has its data codewords.
front_length : (size : SizeEntry) (words : List ℕ) → AreOfSize size words → (b : ℕ) → b < size.blocks
    → length (take (block_data size b) (block_of size.blocks b words)) ≡ block_data size b
front_length size words h b hb =
    length-take-le (block_data size b) (block_of size.blocks b words)
    (omega (arith, length_of_block (words_with size words) b h hb, (block_facts size h.size b hb).parts))

-- Each block has check codewords that complete it.
completion : (size : SizeEntry) (words : List ℕ) → AreOfSize size words → (b : ℕ) → b < size.blocks
    → (list : List ℕ) × IsCompletion size words b list
completion size words h b hb =
    let f = block_facts size h.size b hb in
    let front = take (block_data size b) (block_of size.blocks b words) in
    let long : length front ≡ block_data size b = front_length size words h b hb in
    let bytes = All-take (λ w. w < 256) (block_data size b) (block_of size.blocks b words)
    (bytes_in_block size words h b hb) in
    let made = checks_are_there (block_check size) front bytes (omega (arith, f.few_checks))
    (omega (arith, long, f.parts, f.short)) in (
      front ++ made.0,
      record {
        checks = made.0;
        whole = refl;
        long = omega (arith, length-append front made.0, long, made.1, f.parts);
        codeword = made.2;
      },
    )

-- A symbol has codewords with these data codewords, of which each block is a codeword.
pub record HasChecks (size : SizeEntry) (data_words : List ℕ) : Type 0 where
  pub list : List ℕ
  pub of_size : AreOfSize size list
  pub front : first_data size list ≡ data_words
  pub checked : AreCodewordsOf size list

-- Data codewords with zeros behind them are codewords of a symbol.
with_zeros : (size : SizeEntry) (data_words : List ℕ) → IsSize size → length data_words ≡ size.data_count
    → All (λ w. w < 256) data_words → AreOfSize size (data_words ++ replicate size.check_count 0)
with_zeros size data_words entry long bytes =
    let zeros : List ℕ = replicate size.check_count 0 in
    let count : length zeros ≡ size.check_count = length-replicate {A = ℕ} size.check_count 0 in
    record {
      size = entry;
      count = omega (arith, length-append data_words zeros, long, count);
      bytes = All-append (λ w. w < 256) data_words zeros bytes (All-from_get_or (λ w. w < 256) zeros 0 (λ i hi.
          subst (λ w. w < 256) (sym (get_or-replicate {A = ℕ} size.check_count i 0 0 (omega (arith, hi, count))))
          (omega arith)));
    }

-- Data codewords are completed.
pub checks_for : (size : SizeEntry) (data_words : List ℕ) → IsSize size → length data_words ≡ size.data_count
    → All (λ w. w < 256) data_words → HasChecks size data_words
checks_for size data_words entry long bytes =
    let u = data_words ++ replicate size.check_count 0 in
    let hu = with_zeros size data_words entry long bytes in
    let blocks = chosen size.blocks (IsCompletion size u) (completion size u hu) in
    let made = words_of_blocks size blocks.0 entry
    (λ b hb. ((blocks.1 b hb).long, codeword_bytes (block_check size) (blocks.0 b) (blocks.1 b hb).codeword)) in
    let stay : first_data size made.list ≡ first_data size u =
    same_data_by_blocks (words_with size made.list) (words_with size u) made.of_size hu refl (λ b hb.
    let front = take (block_data size b) (block_of size.blocks b u) in
    let checks = (blocks.1 b hb).checks in
    ap (take (block_data size b)) (made.are b hb ∙ (blocks.1 b hb).whole)
    ∙ ap (λ n. take n (front ++ checks)) (sym (front_length size u hu b hb)) ∙ take-append_seam front checks) in
    record {
      list = made.list;
      of_size = made.of_size;
      front = stay ∙ ap (λ n. take n u) (sym long) ∙ take-append_seam data_words (replicate size.check_count 0);
      checked = λ b hb. subst (IsCodeword (block_check size)) (sym (made.are b hb)) (blocks.1 b hb).codeword;
    }
