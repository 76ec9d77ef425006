-- Cells that are looked at together.
use Rattle.std.proofs.Common.{◌≡◌, ◌∙◌, ◌+◌, ◌-◌, ◌*◌, ◌%◌, ◌^◌, ◌<◌, ◌≤◌, ℕ, zero, suc, Bool, true, false, not, List}
use Rattle.std.proofs.Common.{[]}
use Rattle.std.proofs.Common.{◌∷◌, ◌++◌, refl, sym, ap, subst, length, length-append, map, get_or, take, drop, bit_and}
use Rattle.std.proofs.Common.{replicate}
use Rattle.std.proofs.Common.{bit_or, ◌≢◌, arith, w8, Fits, inl, inr}
use Rattle.std.specs.Prelude.{◌==◌, ◌||◌}
use Rattle.std.specs.List.{list_all, list_any, prefix_len, range_with_len}
use Rattle.std.specs.Simd.Lanes.{mask_l, chunk, Each1}
use Rattle.std.proofs.Math.Nat.{mod-eq_of_lt, one-mul, zero-add}
use Rattle.std.proofs.Math.Pow.{pow_mono}
use Rattle.std.proofs.lemmas.List.{drop-replicate, get_or-append-add, get_or-take, length-take-le, take-append-drop}
use Rattle.std.proofs.lemmas.List.{take-append-le, take-replicate, take-take}
use Rattle.std.proofs.lemmas.List.Folds.{list_all_at, list_any-append}
use Rattle.std.proofs.lemmas.List.FromFn.{get_or-range_with_len, length-range_with_len}
use Rattle.std.proofs.lemmas.List.Sums.{prefix_len-le-length, prefix_len_passes}
use Rattle.std.proofs.lemmas.Nat.{and_mask, mod-mul-add, pow_pos}
use Rattle.std.proofs.lemmas.Simd.{length-replicate}
use Rattle.std.proofs.lemmas.Bool.{cases_lt, eqb-false}
use Rattle.dm_text.specs.Texts.{HasNoLf, lf}
use Rattle.dm_text.specs.Records.{is_foreign}
use Rattle.dm_text.specs.declared.row_part.RowPart.{RowPart}
use Rattle.dm_text.specs.declared.rows.Rows.{Rows}
use Rattle.dm_text.specs.inner.OpenRecords.{AreCells, AreFirstCells, EndsLines, HoldsLines, IsFirstLine, digit_of}
use Rattle.dm_text.specs.inner.OpenRecords.{is_dark, number_of, padded_block}
use Rattle.std.proofs.Math.Seq.{take-add, take-append-add}
use Rattle.dm_text.proofs.KnownBytes.{rest_is}
use Rattle.dm_text.proofs.Pieces.{go_on_by_line, rest_length}
use Rattle.dm_text.proofs.RecordSteps.{or_cases}
use Rattle.dm_text.proofs.KeptRows.{ends_more, number_more, number_put, number_small}

-- The number of a line is the mask of its dark cells.
pub number_is_mask : (line : List ℕ) → number_of line ≡ mask_l (map is_dark line)
number_is_mask [] = refl
number_is_mask (b ∷ line) = ap (λ (n : ℕ). digit_of b + 2 * n) (number_is_mask line)

-- The lowest n bits of the number of a line are the number of its first n characters.
pub prefix_number : (n : ℕ) (line : List ℕ) → n ≤ length line → number_of line % 2 ^ n ≡ number_of (take n line)
prefix_number n line le =
    let long : length (take n line) ≡ n = length-take-le n line le in
    let parts : number_of line ≡ number_of (drop n line) * 2 ^ n + number_of (take n line) =
    ap number_of (sym (take-append-drop n line)) ∙ number_more (take n line) (drop n line)
    ∙ ap (λ (k : ℕ). number_of (drop n line) * 2 ^ k + number_of (take n line)) long in
    ap (λ (k : ℕ). k % 2 ^ n) parts ∙ mod-mul-add (number_of (drop n line)) (2 ^ n) (number_of (take n line))
    (subst (λ (k : ℕ). number_of (take n line) < 2 ^ k) long (number_small (take n line)))

-- A mask of the lowest n bits leaves, of the number of a line, the number of its first n characters.
pub masked_prefix : (n : ℕ) (line : List ℕ) → n ≤ length line →
    bit_and (number_of line) (2 ^ n - 1) ≡ number_of (take n line)
masked_prefix n line le = and_mask (number_of line) n ∙ prefix_number n line le

-- A character is near if it differs from 1 in the lowest bit at most.
abbrev pub is_near : ℕ → Bool
is_near b = bit_or b 1 == 49

-- A near character is a cell.
abbrev cell_if_near : ℕ → Bool
cell_if_near b = not (is_near b) || not (is_foreign b)

-- Each near byte is a cell: a test of all bytes, computed by the checker.
all_bytes : list_all cell_if_near (range_with_len 0 256) ≡ true
all_bytes = refl

-- A test that all numbers below a bound pass is passed by each of them.
holds_at : (p : ℕ → Bool) (n : ℕ) → list_all p (range_with_len 0 n) ≡ true → (b : ℕ) → b < n → p b ≡ true
holds_at p n all b l = by_test (p b) refl
  where
    by_test : (t : Bool) → p b ≡ t → p b ≡ true
    by_test true e = e
    by_test false e =
        let here : get_or (range_with_len 0 n) b 0 ≡ b = get_or-range_with_len 0 n b 0 l ∙ zero-add b in
        let none : list_all p (range_with_len 0 n) ≡ false =
        list_all_at p (range_with_len 0 n) b 0 (omega (arith, length-range_with_len 0 n)) (ap p here ∙ e) in
        let never : false ≡ true = sym none ∙ all in cc

-- A near character that passes the test isn't foreign.
cell_by : (near foreign : Bool) → (not near || not foreign) ≡ true → near ≡ true → foreign ≡ false
cell_by true true e n = sym e
cell_by true false e n = refl
cell_by false foreign e n = cc

-- A near byte isn't foreign.
near_cell : (b : ℕ) → b < 256 → is_near b ≡ true → is_foreign b ≡ false
near_cell b l e = cell_by (is_near b) (is_foreign b) (holds_at cell_if_near 256 all_bytes b l) e

-- The near characters at the start of a list are cells.
pub prefix_cells : (xs : List ℕ) → Each1 (Fits w8) xs → list_any is_foreign (take (prefix_len is_near xs) xs) ≡ false
prefix_cells [] fits = refl
prefix_cells (b ∷ xs) fits = by_test (is_near b) refl (prefix_cells xs fits.1)
  where
    by_test : (t : Bool) → is_near b ≡ t → list_any is_foreign (take (prefix_len is_near xs) xs) ≡ false
        → list_any is_foreign (take (prefix_len is_near (b ∷ xs)) (b ∷ xs)) ≡ false
    by_test true e rest =
        let more : prefix_len is_near (b ∷ xs) ≡ suc (prefix_len is_near xs) = rw e (omega arith) in
        ap (λ (n : ℕ). list_any is_foreign (take n (b ∷ xs))) more ∙ rw (near_cell b fits.0.fits e) rest
    by_test false e rest = let none : prefix_len is_near (b ∷ xs) ≡ 0 = rw e refl in
        ap (λ (n : ℕ). list_any is_foreign (take n (b ∷ xs))) none

-- Cells are no LF.
pub cells_no_lf : (more : List ℕ) → list_any is_foreign more ≡ false → HasNoLf more
cells_no_lf [] e = tt
cells_no_lf (b ∷ more) e =
    let both = or_cases (is_foreign b) (list_any is_foreign more) e in
    (λ lf. let foreign : true ≡ false = ap is_foreign (sym lf) ∙ both.0 in cc, cells_no_lf more both.1)

-- ---- the first cells of a block

-- Where no element of a list passes a test, none of its first ones does.
none_first : (p : ℕ → Bool) (n : ℕ) (xs : List ℕ) → list_any p xs ≡ false → list_any p (take n xs) ≡ false
none_first p n xs none =
    let parts : (list_any p (take n xs) || list_any p (drop n xs)) ≡ false =
    sym (list_any-append p (take n xs) (drop n xs)) ∙ ap (list_any p) (take-append-drop n xs) ∙ none in
    (or_cases (list_any p (take n xs)) (list_any p (drop n xs)) parts).0

-- The near characters at the start of a block are at most 32.
pub near_few : (block : List ℕ) (n : ℕ) → length block ≡ 32 → n ≤ prefix_len is_near block → n ≤ 32
near_few block n long le = omega (arith, le, prefix_len-le-length is_near block, long)

-- A power of 2 with an exponent of at most 32 fits in 64 bits.
pub mask_within : (n : ℕ) → n ≤ 32 → 1 * 2 ^ n % 2 ^ 64 ≡ 2 ^ n
mask_within n le = ap (λ (k : ℕ). k % 2 ^ 64) (one-mul (2 ^ n)) ∙ mod-eq_of_lt (omega (arith, pow_mono le))

-- A power of 2 with an exponent of at most 32, in 64 bits, is at least 1.
pub mask_is : (n : ℕ) → n ≤ 32 → 1 ≤ 1 * 2 ^ n % 2 ^ 64
mask_is n le = rw (mask_within n le) (pow_pos n)

-- The bits and the count that are taken are those of the first cells of a block.
pub first_of_block : (block : List ℕ) (n bits prefix : ℕ) → length block ≡ 32 → Each1 (Fits w8) block →
    n ≤ prefix_len is_near block → 1 ≤ n → bits ≡ mask_l (map is_dark block)
    → prefix ≡ bit_and bits (1 * 2 ^ n % 2 ^ 64 - 1)
    → AreCells (take n block) (let f : RowPart = record { bits = prefix; count = n } in f)
first_of_block block n bits prefix long fits near some is masked =
    let short : n ≤ 32 = near_few block n long near in
    let these : take n (take (prefix_len is_near block) block) ≡ take n block =
    take-take n (prefix_len is_near block) block near in
    record {
      bits_are =
          masked ∙ ap (λ (k : ℕ). bit_and bits (k - 1)) (mask_within n short)
          ∙ ap (λ (k : ℕ). bit_and k (2 ^ n - 1)) (is ∙ sym (number_is_mask block))
          ∙ masked_prefix n block (omega (arith, long, short));
      count_is = sym (length-take-le n block (omega (arith, long, short)));
      some = omega (arith, some);
      few = omega (arith, short);
      cells =
          ap (list_any is_foreign) (sym these)
          ∙ none_first is_foreign n (take (prefix_len is_near block) block) (prefix_cells block fits);
    }

-- The first bytes of a list, no more than stand before its first LF, aren't LF.
pub no_lf_first : (n : ℕ) (xs : List ℕ) → n ≤ prefix_len (λ b. not (b == lf)) xs → HasNoLf (take n xs)
no_lf_first zero xs le = tt
no_lf_first (suc n) [] le = tt
no_lf_first (suc n) (b ∷ xs) le = by_test (b == lf) refl (no_lf_first n xs)
  where
    by_test : (t : Bool) → (b == lf) ≡ t
        → (n ≤ prefix_len (λ b. not (b == lf)) xs → HasNoLf (take n xs)) → HasNoLf (take (suc n) (b ∷ xs))
    by_test true e rest =
        let none : prefix_len (λ b. not (b == lf)) (b ∷ xs) ≡ 0 = rw e refl in absurd (omega (arith, none, le))
    by_test false e rest =
        let more : prefix_len (λ b. not (b == lf)) (b ∷ xs) ≡ suc (prefix_len (λ b. not (b == lf)) xs) =
        rw e (omega arith) in
        (eqb-false b lf e, rest (omega (arith, more, le)))

-- ---- a block at the start of a text

-- The first bytes of a padded block are those of the text.
pub padded_first : (text : List ℕ) (n : ℕ) → n ≤ length text → n ≤ 32 → take n (padded_block text) ≡ take n text
padded_first text n within short =
    take-take n 32 (text ++ replicate 32 0) short ∙ take-append-le n text (replicate 32 0) within

-- A padded block has 32 bytes.
pub padded_length : (text : List ℕ) → length (padded_block text) ≡ 32
padded_length text =
    length-take-le 32 (text ++ replicate 32 0)
    (omega (arith, length-append text (replicate 32 0), length-replicate {A = ℕ} 32 0))

-- The near characters at the start of a padded block are at most 32.
pub near_short : (text : List ℕ) (n : ℕ) → n ≤ prefix_len is_near (padded_block text) → n ≤ 32
near_short text n near = near_few (padded_block text) n (padded_length text) near

-- The zeros behind a text are no cells.
pub near_within : (text : List ℕ) (n : ℕ) → n ≤ prefix_len is_near (padded_block text) → n ≤ length text
near_within text n le = elim (cases_lt (length text) n) [
  | inr ge ↦ ge
  | inl lt ↦
      let k : ℕ = length text in
      let near : is_near (get_or (padded_block text) k 0) ≡ true =
      prefix_len_passes is_near (padded_block text) k 0 (omega (arith, lt, le)) in
      let short : k < 32 = omega (arith, lt, near_short text n le) in
      let zero_here : get_or (padded_block text) k 0 ≡ 0 =
      get_or-take 32 (text ++ replicate 32 0) k 0 short
      ∙ ap (λ (i : ℕ). get_or (text ++ replicate 32 0) i 0) (omega arith)
      ∙ get_or-append-add text (replicate 32 0) 0 0 in
      let never : false ≡ true = sym (ap is_near zero_here) ∙ near in cc
]

-- The first cells of the block at the start of a text are cells at its start.
pub first_of_text : (text : List ℕ) (n : ℕ) (f : RowPart) → n ≤ prefix_len is_near (padded_block text) → f.count ≡ n →
    AreCells (take n (padded_block text)) f → AreFirstCells text f
first_of_text text n f near is cells =
    let short : n ≤ 32 = near_short text n near in
    let within : n ≤ length text = near_within text n near in
    let these : take n (padded_block text) ≡ take f.count text =
    padded_first text n within short ∙ ap (λ (k : ℕ). take k text) (sym is) in
    record { within = omega (arith, within, is); cells = subst (λ (k : List ℕ). AreCells k f) these cells }

-- The first bytes of a text that has at least 32 are its padded block.
pub block_is : (text : List ℕ) → 32 ≤ length text → chunk 0 32 text ≡ padded_block text
block_is text long = sym (take-append-le 32 text (replicate 32 0) long)

-- A text that has fewer than 32 bytes, with zeros behind them, is its padded block.
pub padded_is : (text zeros : List ℕ) → length text < 32 → zeros ≡ drop (length text) (replicate 32 0) →
    text ++ zeros ≡ padded_block text
padded_is text zeros short is =
    let n : ℕ = length text in
    let rest : zeros ≡ take (32 - n) (replicate 32 0) =
    is ∙ drop-replicate n 32 0 ∙ sym (take-replicate (32 - n) 32 0 (omega arith)) in
    let whole : n + (32 - n) ≡ 32 = omega arith in
    ap (λ (k : List ℕ). text ++ k) rest ∙ sym (take-append-add text (replicate 32 0) (32 - n))
    ∙ ap (λ (k : ℕ). take k (text ++ replicate 32 0)) whole

-- The line at the start of a text is that of the first cells of its first block, where LF comes after them.
pub line_of_text : (text : List ℕ) (n : ℕ) (f : RowPart) → 32 < length text → n ≤ 32 → f.count ≡ n →
    get_or text n 0 ≡ lf → AreCells (take n (chunk 0 32 text)) f → IsFirstLine text f
line_of_text text n f long short is ends cells =
    let these : take n (chunk 0 32 text) ≡ take f.count text =
    take-take n 32 text short ∙ ap (λ (k : ℕ). take k text) (sym is) in
    record {
      within = omega (arith, long, short, is);
      cells = subst (λ (k : List ℕ). AreCells k f) these cells;
      ended = ap (λ (k : ℕ). get_or text k 0) is ∙ ends;
    }

-- Cells are those of at least one character.
pub cells_some : (characters : List ℕ) (f : RowPart) → AreCells characters f → characters ≢ []
cells_some [] f cells none = absurd (omega (arith, cells.some, cells.count_is))
cells_some (b ∷ characters) f cells none = cc

-- Where whole lines come before a place, and LF comes after cells that begin there, these are one whole line more.
pub line_more : (t u : Rows) (lines : List (List ℕ)) (bytes : List ℕ) (at n : ℕ) (f : RowPart) → at + n < length bytes →
    get_or bytes (at + n) 0 ≡ lf → AreCells (take n (take (length bytes - at) (drop at bytes))) f
    → (e : EndsLines t lines (take at bytes))
    → HoldsLines u ((lines ++ e.more) ++ take n (take (length bytes - at) (drop at bytes)) ∷ []) []
    → EndsLines u lines (take (at + n + 1) bytes)
line_more t u lines bytes at n f within ends cells e held =
    let line = take n (take (length bytes - at) (drop at bytes)) in
    subst (λ (k : List ℕ). EndsLines u lines k) (go_on_by_line bytes at n lf within ends)
    (ends_more t u lines (take at bytes) line e (cells_some line f cells) (cells_no_lf line cells.cells) held)

-- Cells, and others after them, joined, are those of the characters of both.
pub join_cells : (xs ys : List ℕ) (f g : RowPart) → AreCells xs f → AreCells ys g → f.count + g.count ≤ 128
    → AreCells (xs ++ ys) (let h : RowPart =
    record { bits = bit_or f.bits (g.bits * 2 ^ f.count % 2 ^ 128); count = f.count + g.count } in h)
join_cells xs ys f g a b room =
    let count : f.count + g.count ≡ length (xs ++ ys) = omega (arith, a.count_is, b.count_is, length-append xs ys) in
    let long : length (xs ++ ys) ≤ 128 = omega (arith, room, count) in
    let small : number_of ys * 2 ^ length xs < 2 ^ 128 =
    omega (arith, number_more xs ys, number_small (xs ++ ys), pow_mono long) in
    record {
      bits_are = ap (λ (k : ℕ). bit_or k (g.bits * 2 ^ f.count % 2 ^ 128)) a.bits_are
          ∙ ap (λ (k : ℕ). bit_or (number_of xs) (k * 2 ^ f.count % 2 ^ 128)) b.bits_are
          ∙ ap (λ (k : ℕ). bit_or (number_of xs) (number_of ys * 2 ^ k % 2 ^ 128)) a.count_is
          ∙ ap (bit_or (number_of xs)) (mod-eq_of_lt small) ∙ number_put xs ys;
      count_is = count;
      some = omega (arith, a.some);
      few = room;
      cells = list_any-append is_foreign xs ys ∙ rw (a.cells, b.cells) refl;
    }

-- The cells at the start of a text, joined with those at the start of the rest, are cells at the start of the text.
pub prefix_longer : (text : List ℕ) (at : ℕ) (f g h : RowPart) → AreFirstCells text f → f.count ≡ at →
    AreFirstCells (take (length text - at) (drop at text)) g
    → ((xs ys : List ℕ) → AreCells xs f → AreCells ys g → AreCells (xs ++ ys) h) →
    AreFirstCells text h × (h.count ≡ f.count + g.count)
prefix_longer text at f g h a e b both =
    let rest = take (length text - at) (drop at text) in
    let cells = both (take f.count text) (take g.count rest) a.cells b.cells in
    let whole : take f.count text ++ take g.count rest ≡ take (f.count + g.count) text =
    ap (λ (k : List ℕ). take f.count text ++ take g.count k) (rest_is text at ∙ ap (λ (n : ℕ). drop n text) (sym e))
    ∙ sym (take-add f.count g.count text) in
    let within : f.count + g.count ≤ length text = omega (arith, a.within, b.within, rest_length text at, e) in
    let count : h.count ≡ f.count + g.count =
    cells.count_is ∙ ap length whole ∙ length-take-le (f.count + g.count) text within in (
      record {
        within = omega (arith, within, count);
        cells =
            subst (λ (k : List ℕ). AreCells k h) (whole ∙ ap (λ (n : ℕ). take n text) (sym count)) cells;
      },
      count,
    )
