-- Rows of slots, and the bytes in them.
use Rattle.dm_layout.proofs.Names.{nat_tests, ◌≡◌, ℕ, zero, suc, ◌+◌, ◌*◌, ◌/◌, ◌%◌, ◌^◌, ◌<◌, ◌≤◌, List, [], ◌∷◌, ◌++◌}
use Rattle.dm_layout.proofs.Names.{length, length-take, get_or, set, take, drop, replicate, refl, sym, ◌∙◌, ap, arith}
use Rattle.dm_layout.proofs.Names.{subst, bit_or, put_mid, div-add-mod, mod-lt, mul-le-mul_left, take-append_seam}
use Rattle.dm_layout.proofs.Names.{drop-append_seam, take-set-lt, get_or-map, get_or-take, get_or-drop, map-set}
use Rattle.dm_layout.proofs.Names.{length-drop, length-set, length-replicate, length-take-le, with_byte, slot_byte}
use Rattle.dm_layout.proofs.Names.{slot_numbers, slot_rows, in_bytes}
use Rattle.std.proofs.Common.{append_assoc, length-append}
use Rattle.std.specs.Simd.{first_chunks}
use Rattle.std.proofs.Math.Seq.{take-add}
use Rattle.std.proofs.lemmas.List.{drop-drop, get_or_default, take-set-le, drop-set-lt, drop-set-add}
use Rattle.dm_layout.proofs.symbols.SlotBytes.{byte_over, in_bytes_byte}

-- ---- bytes row by row

-- There are as many rows as are taken.
rows_count : (n k : ℕ) (bytes : List ℕ) → length (first_chunks n k bytes) ≡ k
rows_count n zero bytes = refl
rows_count n (suc k) bytes = ap suc (rows_count n k (drop n bytes))

-- A row has the bytes from its own place on.
row_at : (n k r : ℕ) (bytes : List ℕ) → r < k → get_or (first_chunks n k bytes) r [] ≡ take n (drop (r * n) bytes)
row_at n zero r bytes l = absurd (omega (arith, l))
row_at n (suc k) zero bytes l =
    let e : 0 ≡ 0 * n = omega arith in
    ap (λ (i : ℕ). take n (drop i bytes)) e
row_at n (suc k) (suc r) bytes l =
    let e : n + r * n ≡ suc r * n = omega arith in
    rw (row_at n k r (drop n bytes) (omega (arith, l)), drop-drop (r * n) n bytes, e)

-- It has as many bytes as all rows.
row_length : (n k r : ℕ) (bytes : List ℕ) → r < k → k * n ≤ length bytes →
    length (get_or (first_chunks n k bytes) r []) ≡ n
row_length n k r bytes l room =
    let h : n * (r + 1) ≤ n * k = mul-le-mul_left n (omega (arith, l)) in
    let e : n * (r + 1) ≡ r * n + n = omega arith in
    let t : n * k ≡ k * n = omega arith in
    let d = length-drop (r * n) bytes in
    ap length (row_at n k r bytes l) ∙ length-take-le n (drop (r * n) bytes) (omega (arith, h, e, t, d, room))

-- Its bytes stand at their own places among all.
row_byte : (n k x : ℕ) (bytes : List ℕ) → 0 < n → x / n < k →
    get_or (get_or (first_chunks n k bytes) (x / n) []) (x % n) 0 ≡ get_or bytes x 0
row_byte n k x bytes some l = grind (arith, nat_tests, div-add-mod, row_at, get_or-take, mod-lt, get_or-drop)

taken_small : (n : ℕ) (bytes : List ℕ) → ((i : ℕ) → get_or bytes i 0 < 256) → (i : ℕ) → get_or (take n bytes) i 0 < 256
taken_small zero bytes small i = omega arith
taken_small (suc n) [] small i = omega arith
taken_small (suc n) (b ∷ bytes) small zero = small 0
taken_small (suc n) (b ∷ bytes) small (suc i) = taken_small n bytes (λ j. small (suc j)) i

-- They are bytes.
row_small : (n k r : ℕ) (bytes : List ℕ) → r < k → ((i : ℕ) → get_or bytes i 0 < 256) → (i : ℕ) →
    get_or (get_or (first_chunks n k bytes) r []) i 0 < 256
row_small n k r bytes l small i =
    rw (← row_at n k r bytes l) at (taken_small n (drop (r * n) bytes) (λ j. subst (λ (b : ℕ). b < 256) (sym
    (get_or-drop (r * n) bytes j 0)) (small (r * n + j))) i)

-- Where a byte is put, it is put into its row.
byte_put : (n k r i b : ℕ) (bytes : List ℕ) → r < k → i < n →
    first_chunks n k (set bytes (r * n + i) b) ≡
    set (first_chunks n k bytes) r (set (get_or (first_chunks n k bytes) r []) i b)
byte_put n zero r i b bytes l li = absurd (omega (arith, l))
byte_put n (suc k) zero i b bytes l li =
    let e : 0 * n + i ≡ i = omega arith in
    ap (λ (j : ℕ). first_chunks n (suc k) (set bytes j b)) e
    ∙ ap (λ (bs : List ℕ). bs ∷ first_chunks n k (drop n (set bytes i b))) (take-set-lt n bytes i b li)
    ∙ ap (λ (bs : List ℕ). set (take n bytes) i b ∷ first_chunks n k bs) (drop-set-lt n bytes i b li)
byte_put n (suc k) (suc r) i b bytes l li =
    let e : suc r * n + i ≡ n + (r * n + i) = omega arith in
    ap (λ (j : ℕ). first_chunks n (suc k) (set bytes j b)) e
    ∙ ap (λ (bs : List ℕ). bs ∷ first_chunks n k (drop n (set bytes (n + (r * n + i)) b)))
    (take-set-le n bytes (n + (r * n + i)) b (omega arith))
    ∙ ap (λ (bs : List ℕ). take n bytes ∷ first_chunks n k bs) (drop-set-add n bytes (r * n + i) b)
    ∙ ap (λ (rows : List (List ℕ)). take n bytes ∷ rows) (byte_put n k r i b (drop n bytes) (omega (arith, l)) li)

-- As many bytes stand where some were put.
put_length : (a k : ℕ) (bytes news : List ℕ) → a + k ≤ length bytes → length news ≡ k →
    length (put_mid a k bytes news) ≡ length bytes
put_length a k bytes news room count = grind (arith, nat_tests, length-take, length-drop, length-append)

-- Where a row is put, it is put among the rows.
row_put : (n k r : ℕ) (bytes news : List ℕ) → r < k → k * n ≤ length bytes → length news ≡ n →
    first_chunks n k (put_mid (r * n) n bytes news) ≡ set (first_chunks n k bytes) r news
row_put n zero r bytes news l room count = absurd (omega (arith, l))
row_put n (suc k) zero bytes news l room count =
    let e : 0 * n ≡ 0 = omega arith in
    ap (λ (j : ℕ). first_chunks n (suc k) (put_mid j n bytes news)) e
    ∙ ap (λ (bs : List ℕ). bs ∷ first_chunks n k (drop n (news ++ drop n bytes)))
    (ap (λ (j : ℕ). take j (news ++ drop n bytes)) (sym count) ∙ take-append_seam news (drop n bytes))
    ∙ ap (λ (bs : List ℕ). news ∷ first_chunks n k bs)
    (ap (λ (j : ℕ). drop j (news ++ drop n bytes)) (sym count) ∙ drop-append_seam news (drop n bytes))
row_put n (suc k) (suc r) bytes news l room count =
    let e : suc r * n ≡ n + r * n = omega arith in
    let t : suc k * n ≡ n + k * n = omega arith in
    let d = length-drop n bytes in
    let first : length (take n bytes) ≡ n = length-take-le n bytes (omega (arith, room, t)) in
    ap (λ (j : ℕ). first_chunks n (suc k) (put_mid j n bytes news)) e
    ∙ ap (first_chunks n (suc k)) parts
    ∙ ap (λ (bs : List ℕ). bs ∷ first_chunks n k (drop n (take n bytes ++ rest)))
    (ap (λ (j : ℕ). take j (take n bytes ++ rest)) (sym first) ∙ take-append_seam (take n bytes) rest)
    ∙ ap (λ (bs : List ℕ). take n bytes ∷ first_chunks n k bs)
    (ap (λ (j : ℕ). drop j (take n bytes ++ rest)) (sym first) ∙ drop-append_seam (take n bytes) rest)
    ∙ ap (λ (rows : List (List ℕ)). take n bytes ∷ rows)
    (row_put n k r (drop n bytes) news (omega (arith, l)) (omega (arith, room, t, d)) count)
  where
    rest : List ℕ
    rest = put_mid (r * n) n (drop n bytes) news

    parts : put_mid (n + r * n) n bytes news ≡ take n bytes ++ rest
    parts = grind (arith, nat_tests, news, take-add, append_assoc, drop-drop)

zeros_taken : (n : ℕ) (bytes : List ℕ) → ((i : ℕ) → get_or bytes i 0 ≡ 0) → in_bytes (take n bytes) ≡ 0
unfolding in_bytes
zeros_taken zero bytes light = refl
zeros_taken (suc n) [] light = refl
zeros_taken (suc n) (b ∷ bytes) light =
    let z = light 0 in
    let h = zeros_taken n bytes (λ i. light (suc i)) in
    omega (arith, z, h)

-- Rows of zeros have zeros as their numbers.
rows_light : (n k : ℕ) (bytes : List ℕ) → ((i : ℕ) → get_or bytes i 0 ≡ 0) →
    slot_numbers (first_chunks n k bytes) ≡ replicate k 0
rows_light n zero bytes light = refl
rows_light n (suc k) bytes light =
    rw (zeros_taken n bytes light, rows_light n k (drop n bytes) (λ i. get_or-drop n bytes i 0 ∙ light (n + i)))

-- Slots without a codeword hold zeros.
all_zeros : (n i : ℕ) → get_or (replicate {A = ℕ} n 0) i 0 ≡ 0
all_zeros zero i = refl
all_zeros (suc n) zero = refl
all_zeros (suc n) (suc i) = all_zeros n i

-- ---- rows as numbers

module _ (n : ℕ) (bytes : List ℕ) (some : 0 < n) where
  abbrev k : ℕ
  k = length bytes / n

  abbrev rows : List (List ℕ)
  rows = slot_rows n bytes

  abbrev numbers : List ℕ
  numbers = slot_numbers (slot_rows n bytes)

  whole : k * n ≤ length bytes
  whole = grind (arith, nat_tests, div-add-mod)

  inside : (r : ℕ) → r < k → r < length rows
  inside r l = let e = rows_count n k bytes in omega (arith, l, e)

  -- The number of a row of slots is that of its bytes.
  pub row_read : (r : ℕ) → r < k → in_bytes (get_or rows r []) ≡ get_or numbers r 0
  row_read r l = sym (get_or-map in_bytes rows r [] 0 (inside r l))

  -- A row that is looked up among all.
  pub row_found : (all : List (List ℕ)) (r : ℕ) (row : List ℕ) → all ≡ rows → r < k → row ≡ get_or all r row →
      row ≡ get_or rows r []
  row_found all r row same l is =
      is ∙ ap (λ (xs : List (List ℕ)). get_or xs r row) same ∙ get_or_default rows r row [] (inside r l)

  -- It has as many bytes as all.
  pub row_bytes : (r : ℕ) → r < k → length (get_or rows r []) ≡ n
  row_bytes r l = row_length n k r bytes l whole

  -- Where a row is put, so is its number.
  pub row_written : (r : ℕ) (news : List ℕ) → r < k → length news ≡ n →
      slot_numbers (slot_rows n (put_mid (r * n) n bytes news)) ≡ set numbers r (in_bytes news)
  row_written r news l count =
      rw (same, row_put n k r bytes news l whole count, map-set in_bytes rows r news)
    where
      same : length (put_mid (r * n) n bytes news) ≡ length bytes
      same =
          let h : n * (r + 1) ≤ n * k = mul-le-mul_left n (omega (arith, l)) in
          let e : n * (r + 1) ≡ r * n + n = omega arith in
          let t : n * k ≡ k * n = omega arith in
          put_length (r * n) n bytes news (omega (arith, h, e, t, whole)) count

  module _ (small : (i : ℕ) → get_or bytes i 0 < 256) (x : ℕ) (l : x / n < k) where
    abbrev r : ℕ
    r = x / n

    abbrev bs : List ℕ
    bs = get_or rows r []

    -- A byte is that of its slot.
    pub slot_read : get_or bytes x 0 ≡ slot_byte n numbers x
    slot_read =
        cc (row_byte n k x bytes some l, in_bytes_byte bs (x % n) (row_small n k r bytes l small), row_read r l)

    -- Where a byte is laid over one of the bytes, it is laid over its slot.
    pub slot_added : (y : ℕ) → y < 256 →
        slot_numbers (slot_rows n (set bytes x (bit_or (get_or bytes x 0) y))) ≡ with_byte n numbers x y
    slot_added y ly =
        ap (λ (i : ℕ). slot_numbers (first_chunks n (i / n) (set bytes x new))) (length-set bytes x new)
        ∙ ap (λ (i : ℕ). slot_numbers (first_chunks n k (set bytes i new))) (sym place)
        ∙ ap slot_numbers (byte_put n k r (x % n) new bytes l (mod-lt x some))
        ∙ ap (λ (b : ℕ). slot_numbers (set rows r (set bs (x % n) (bit_or b y)))) (sym (row_byte n k x bytes some l))
        ∙ map-set in_bytes rows r _
        ∙ ap (set numbers r)
        (byte_over n bs (x % n) y (row_length n k r bytes l whole) (row_small n k r bytes l small) (mod-lt x some) ly
        ∙ ap (λ (i : ℕ). bit_or i (y * 2 ^ (8 * (x % n)))) (row_read r l))
      where
        new : ℕ
        new = bit_or (get_or bytes x 0) y

        place : r * n + x % n ≡ x
        place = grind (arith, nat_tests, div-add-mod)

-- Slots without a codeword are rows with the number 0.
pub no_slots : (n count : ℕ) → slot_numbers (slot_rows n (replicate {A = ℕ} count 0)) ≡ replicate (count / n) 0
no_slots n count = grind (arith, nat_tests, length-replicate, rows_light, all_zeros)
