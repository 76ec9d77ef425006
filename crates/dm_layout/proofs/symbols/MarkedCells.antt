-- The cells that a codeword marks, also with its bits in the opposite order.
use Rattle.dm_layout.proofs.Names.{nat_tests, ◌≡◌, ℕ, suc, ◌+◌, ◌-◌, ◌/◌, ◌%◌, ◌^◌, ◌<◌, ◌≤◌, Bool, true, false, ◌&&◌}
use Rattle.dm_layout.proofs.Names.{◌||◌, nat_eq, List, [], ◌∷◌, ◌++◌, length, refl, sym, ◌∙◌, ap, arith, bit_or}
use Rattle.dm_layout.proofs.Names.{list_all, range_with_len, or_assoc, Cell, is_dark_bit, marks_in, reversed_bits}
use Rattle.dm_layout.proofs.Names.{all_below}
use Rattle.std.proofs.lemmas.Bool.{agree_below, agree_below_at}
use Rattle.dm_layout.proofs.symbols.Rows.{or_dark}
use Rattle.dm_layout.proofs.symbols.SlotRows.{reversed_twice}
use Rattle.dm_layout.proofs.symbols.WidenedRows.{low_bit}

-- One of these cells, for the bits of a byte from bit k on, lies at this row and column, and its bit is 1.
abbrev pub marks_low : ℕ → ℕ → List Cell → ℕ → ℕ → Bool
marks_low y k [] r c = false
marks_low y k (x ∷ rest) r c = (nat_eq r x.row && nat_eq c x.column && is_dark_bit y k) || marks_low y (suc k) rest r c

-- A test of all bytes, computed by the checker: each bit of a reversed
-- byte is that of the byte in the opposite order.
reversed_test : list_all (λ x. agree_below (is_dark_bit (reversed_bits x)) (λ k. nat_eq (x / 2 ^ (8 - (k + 1)) % 2) 1)
    8)
    (range_with_len 0 256) ≡ true
reversed_test = refl

reversed_bit : (x k : ℕ) → x < 256 → k < 8 → is_dark_bit (reversed_bits x) k ≡ nat_eq (x / 2 ^ (8 - (k + 1)) % 2) 1
reversed_bit x k l lk =
    agree_below_at (is_dark_bit (reversed_bits x)) (λ k. nat_eq (x / 2 ^ (8 - (k + 1)) % 2) 1) 8 k
    (all_below (λ x. agree_below (is_dark_bit (reversed_bits x)) (λ k. nat_eq (x / 2 ^ (8 - (k + 1)) % 2) 1) 8) 256 x
    reversed_test l) lk

-- A byte whose bits are those of a codeword in the opposite order marks the cells that the codeword marks.
marks_alike : (y w k : ℕ) (xs : List Cell) (r c : ℕ) →
    ((t : ℕ) → t < 8 → is_dark_bit y t ≡ nat_eq (w / 2 ^ (8 - (t + 1)) % 2) 1) → k + length xs ≤ 8 →
    marks_low y k xs r c ≡ marks_in w k xs r c
marks_alike y w k [] r c same h = refl
marks_alike y w k (x ∷ rest) r c same h =
    rw (same k (omega arith), marks_alike y w (suc k) rest r c same (omega arith))

-- A codeword with its bits in the opposite order marks the cells that the codeword marks.
pub marks_reversed : (w : ℕ) (xs : List Cell) (r c : ℕ) → w < 256 → length xs ≤ 8 →
    marks_low (reversed_bits w) 0 xs r c ≡ marks_in w 0 xs r c
marks_reversed w xs r c l h = marks_alike (reversed_bits w) w 0 xs r c (λ t lt. reversed_bit w t l lt) (omega arith)

-- A byte marks the cells that a codeword of its bits in the opposite order marks.
pub marks_turned : (y : ℕ) (xs : List Cell) (r c : ℕ) → length xs ≤ 8 →
    marks_low y 0 xs r c ≡ marks_in (reversed_bits (y % 256)) 0 xs r c
marks_turned y xs r c h = marks_alike y (reversed_bits (y % 256)) 0 xs r c turned (omega arith)
  where
    turned : (t : ℕ) → t < 8 → is_dark_bit y t ≡ nat_eq (reversed_bits (y % 256) / 2 ^ (8 - (t + 1)) % 2) 1
    turned t l =
        sym (low_bit y 8 t l)
        ∙ ap (λ (i : ℕ). is_dark_bit i t) (sym (reversed_twice (y % 256) (omega arith)))
        ∙ reversed_bit (reversed_bits (y % 256)) t (omega arith) l

-- A cell is marked by one of two bits exactly if it is marked by one or by the other.
either_bit : (p a b x y : Bool) → (p && (a || b) || (x || y)) ≡ ((p && a || x) || (p && b || y))
either_bit x a b y z = grind (arith, nat_tests)

-- Two bytes together mark the cells that one of them marks.
pub marks_or : (y z k : ℕ) (xs : List Cell) (r c : ℕ) →
    marks_low (bit_or y z) k xs r c ≡ (marks_low y k xs r c || marks_low z k xs r c)
marks_or y z k [] r c = refl
marks_or y z k (x ∷ rest) r c =
    ap (λ (b : Bool). (nat_eq r x.row && nat_eq c x.column && b) || marks_low (bit_or y z) (suc k) rest r c)
    (or_dark y z k)
    ∙ ap (λ (b : Bool). (nat_eq r x.row && nat_eq c x.column && (is_dark_bit y k || is_dark_bit z k)) || b)
    (marks_or y z (suc k) rest r c)
    ∙ either_bit (nat_eq r x.row && nat_eq c x.column) (is_dark_bit y k) (is_dark_bit z k) (marks_low y (suc k) rest r
    c)
    (marks_low z (suc k) rest r c)

-- Cells followed by others are marked by the bits of a byte that belong to each.
pub marks_append : (y k : ℕ) (xs ys : List Cell) (r c : ℕ) →
    marks_low y k (xs ++ ys) r c ≡ (marks_low y k xs r c || marks_low y (k + length xs) ys r c)
marks_append y k [] ys r c = let e : k ≡ k + 0 = omega arith in ap (λ (i : ℕ). marks_low y i ys r c) e
marks_append y k (x ∷ xs) ys r c =
    let e : suc k + length xs ≡ k + suc (length xs) = omega arith in
    let h : Bool = nat_eq r x.row && nat_eq c x.column && is_dark_bit y k in
    ap (λ (b : Bool). h || b) (marks_append y (suc k) xs ys r c
    ∙ ap (λ (i : ℕ). marks_low y (suc k) xs r c || marks_low y i ys r c) e)
    ∙ sym (or_assoc h (marks_low y (suc k) xs r c) (marks_low y (k + suc (length xs)) ys r c))
