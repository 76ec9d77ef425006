-- Numbers of 256 bits as two of 128.
use Rattle.dm_layout.proofs.Names.{nat_tests, ◌≡◌, ◌⊎◌, inl, inr, ℕ, suc, ◌+◌, ◌-◌, ◌*◌, ◌/◌, ◌%◌, ◌^◌, ◌<◌, ◌≤◌, Bool}
use Rattle.dm_layout.proofs.Names.{false, ◌&&◌, ◌||◌, nat_eq, nat_lt, List, get_or, length, set, sym, ◌∙◌, ap, arith}
use Rattle.dm_layout.proofs.Names.{bit_and, bit_or, or-false, div-div-eq-div-mul, pow-suc, pow_pos, cases_lt, mod_below}
use Rattle.dm_layout.proofs.Names.{mul-add-lt, or_lt, bit_at-zero, bit_at_above, bit_at_cat_low, bit_at_cat_high}
use Rattle.dm_layout.proofs.Names.{get_or-map, length-map, map-set, is_dark_bit, LOW_TWO_BITS, LOW_THREE_BITS, Pair}
use Rattle.dm_layout.proofs.Names.{number_of, numbers_of, pair}
use Rattle.std.specs.Int.Bits.{and_lt}
use Rattle.std.proofs.Math.Nat.{div-le_self}
use Rattle.std.proofs.lemmas.Nat.{mul-mod_first}
use Rattle.dm_layout.proofs.symbols.Rows.{moved_bit, or_dark, same_row_numbers}
use Rattle.dm_layout.proofs.symbols.SlotRows.{AreMasks, and_dark, masks_at}
use Rattle.dm_layout.proofs.symbols.WidenedRows.{bit_up, low_bit, none_up}

-- The lowest 128 bits are those of the first number.
pub low_at : (l h c : ℕ) → c < 128 → is_dark_bit (pair l h) c ≡ is_dark_bit l c
low_at l h c lc = ap (λ (i : ℕ). nat_eq i 1) (bit_at_cat_low h 128 l c lc)

-- The others are those of the second.
pub high_at : (l h c : ℕ) → l < 2 ^ 128 → 128 ≤ c → is_dark_bit (pair l h) c ≡ is_dark_bit h (c - 128)
high_at l h c ll lc = ap (λ (i : ℕ). nat_eq i 1) (bit_at_cat_high h 128 l c ll lc)

-- A number has no bit beyond its width.
above : (x n c : ℕ) → x < 2 ^ n → n ≤ c → is_dark_bit x c ≡ false
above x n c lx l = ap (λ (i : ℕ). nat_eq i 1) (bit_at_above x n c lx l)

nothing : (c : ℕ) → is_dark_bit 0 c ≡ false
nothing c = ap (λ (i : ℕ). nat_eq i 1) (bit_at-zero c)

-- A pair has 256 bits.
pub pair_small : (l h : ℕ) → l < 2 ^ 128 → h < 2 ^ 128 → pair l h < 2 ^ 256
pair_small l h ll lh = mul-add-lt h (2 ^ 128) l (2 ^ 128) lh ll

cut : (x : ℕ) → x % 2 ^ 128 < 2 ^ 128
cut x = mod_below x (2 ^ 128) (pow_pos 128)

-- Two numbers of 256 bits are the same if both their halves have the same bits.
by_halves : (l h x : ℕ) → l < 2 ^ 128 → h < 2 ^ 128 → x < 2 ^ 256 →
    ((c : ℕ) → c < 128 → is_dark_bit l c ≡ is_dark_bit x c) →
    ((c : ℕ) → c < 128 → is_dark_bit h c ≡ is_dark_bit x (c + 128)) → pair l h ≡ x
by_halves l h x ll lh lx first second =
    same_row_numbers 256 _ _ (pair_small l h ll lh) lx (λ c lc. bits c lc (cases_lt c 128))
  where
    bits : (c : ℕ) → c < 256 → (c < 128) ⊎ (128 ≤ c) → is_dark_bit (pair l h) c ≡ is_dark_bit x c
    bits c lc y = grind (arith, nat_tests, low_at, first, high_at, second)

-- ---- moved to the right

-- Two shifts to the left are one.
two_left : (h s : ℕ) → s < 128 → h * 2 ^ 1 % 2 ^ 128 * 2 ^ (127 - s) % 2 ^ 128 ≡ h * 2 ^ (128 - s) % 2 ^ 128
two_left h s l =
    let e : 128 - s ≡ suc (127 - s) = omega (arith, l) in
    let p = pow-suc 2 (127 - s) in
    let a : h * 2 ^ 1 * 2 ^ (127 - s) ≡ h * (2 ^ (127 - s) * 2) = omega arith in
    let q : h * 2 ^ 1 * 2 ^ (127 - s) ≡ h * (2 ^ suc (127 - s)) = a ∙ ap (λ (x : ℕ). h * x) (sym p) in
    rw (mul-mod_first, q, e)

-- Two shifts to the right are one.
two_right : (l s : ℕ) → s < 128 → l / 2 ^ 1 / 2 ^ (127 - s) ≡ l / 2 ^ (128 - s)
two_right l s k =
    let e : 128 - s ≡ suc (127 - s) = omega (arith, k) in
    let p = pow-suc 2 (127 - s) in
    let q : 2 ^ 1 * 2 ^ (127 - s) ≡ 2 ^ suc (127 - s) = omega (arith, p) in
    div-div-eq-div-mul l (2 ^ 1) (2 ^ (127 - s)) ∙ ap (λ (x : ℕ). l / x) q ∙ ap (λ (i : ℕ). l / 2 ^ i) (sym e)

-- A number of 128 bits that is moved to the left, and cut, has its bits further on.
up_at : (h s c : ℕ) → c < 128 → s ≤ c → is_dark_bit (h * 2 ^ s % 2 ^ 128) c ≡ is_dark_bit h (c - s)
up_at h s c lc l =
    let e : c ≡ s + (c - s) = omega (arith, l) in
    low_bit (h * 2 ^ s) 128 c lc ∙ ap (is_dark_bit (h * 2 ^ s)) e ∙ bit_up h s (c - s)

up_none : (h s c : ℕ) → c < 128 → c < s → is_dark_bit (h * 2 ^ s % 2 ^ 128) c ≡ false
up_none h s c lc l = low_bit (h * 2 ^ s) 128 c lc ∙ none_up h s c l

module _ (l h s : ℕ) (ll : l < 2 ^ 128) (lh : h < 2 ^ 128) where
  whole_small : pair l h / 2 ^ s < 2 ^ 256
  whole_small = let a = pair_small l h ll lh in let b = div-le_self (pair l h) (2 ^ s) in omega (arith, a, b)

  -- Both numbers are moved to the right, and the second into the first.
  pub moved_right : s < 128 →
      pair (bit_or (l / 2 ^ s) (h * 2 ^ 1 % 2 ^ 128 * 2 ^ (127 - s) % 2 ^ 128)) (h / 2 ^ s) ≡ pair l h / 2 ^ s
  moved_right k =
      ap (λ (x : ℕ). pair (bit_or (l / 2 ^ s) x) (h / 2 ^ s)) (two_left h s k)
      ∙ by_halves (bit_or (l / 2 ^ s) (h * 2 ^ (128 - s) % 2 ^ 128)) (h / 2 ^ s) (pair l h / 2 ^ s)
      (or_lt 128 (l / 2 ^ s) (h * 2 ^ (128 - s) % 2 ^ 128) below_low (cut (h * 2 ^ (128 - s)))) below_high whole_small
      (λ c lc. or_dark (l / 2 ^ s) (h * 2 ^ (128 - s) % 2 ^ 128) c
      ∙ ap (λ (b : Bool). b || is_dark_bit (h * 2 ^ (128 - s) % 2 ^ 128) c)
      (ap (λ (i : ℕ). nat_eq i 1) (moved_bit l s c))
      ∙ first c lc (cases_lt (s + c) 128) ∙ sym (ap (λ (i : ℕ). nat_eq i 1) (moved_bit (pair l h) s c)))
      (λ c lc.
      let e : s + (c + 128) - 128 ≡ s + c = omega arith in
      ap (λ (i : ℕ). nat_eq i 1) (moved_bit h s c)
      ∙ sym (ap (λ (i : ℕ). nat_eq i 1) (moved_bit (pair l h) s (c + 128))
      ∙ high_at l h (s + (c + 128)) ll (omega arith) ∙ ap (is_dark_bit h) e))
    where
      below_low : l / 2 ^ s < 2 ^ 128
      below_low = let b = div-le_self l (2 ^ s) in omega (arith, ll, b)

      below_high : h / 2 ^ s < 2 ^ 128
      below_high = let b = div-le_self h (2 ^ s) in omega (arith, lh, b)

      first : (c : ℕ) → c < 128 → (s + c < 128) ⊎ (128 ≤ s + c) →
          (is_dark_bit l (s + c) || is_dark_bit (h * 2 ^ (128 - s) % 2 ^ 128) c) ≡ is_dark_bit (pair l h) (s + c)
      first c lc (inl m) =
          ap (λ (b : Bool). is_dark_bit l (s + c) || b) (up_none h (128 - s) c lc (omega (arith, m)))
          ∙ or-false (is_dark_bit l (s + c)) ∙ sym (low_at l h (s + c) m)
      first c lc (inr m) =
          let e : c - (128 - s) ≡ s + c - 128 = omega (arith, m, k) in
          rw (above l 128 (s + c) ll m, up_at h (128 - s) c lc (omega (arith, m)), e, high_at l h (s + c) ll m)

  -- Further than that only the second number is left.
  pub moved_far_right : 128 ≤ s → pair (h / 2 ^ (s - 128)) 0 ≡ pair l h / 2 ^ s
  moved_far_right k =
      by_halves (h / 2 ^ (s - 128)) 0 (pair l h / 2 ^ s) below (omega arith) whole_small
      (λ c lc.
      let e : s - 128 + c ≡ s + c - 128 = omega (arith, k) in
      rw (moved_bit h (s - 128) c, e, moved_bit (pair l h) s c, high_at l h (s + c) ll (omega (arith, k))))
      (λ c lc.
      nothing c
      ∙ sym (ap (λ (i : ℕ). nat_eq i 1) (moved_bit (pair l h) s (c + 128))
      ∙ high_at l h (s + (c + 128)) ll (omega arith)
      ∙ above h 128 (s + (c + 128) - 128) lh (omega (arith, k))))
    where
      below : h / 2 ^ (s - 128) < 2 ^ 128
      below = let b = div-le_self h (2 ^ (s - 128)) in omega (arith, lh, b)

  -- ---- moved to the left

  whole_cut : pair l h * 2 ^ s % 2 ^ 256 < 2 ^ 256
  whole_cut = mod_below (pair l h * 2 ^ s) (2 ^ 256) (pow_pos 256)

  up_whole : (c : ℕ) → c < 256 → s ≤ c → is_dark_bit (pair l h * 2 ^ s % 2 ^ 256) c ≡ is_dark_bit (pair l h) (c - s)
  up_whole c lc k =
      let e : c ≡ s + (c - s) = omega (arith, k) in
      low_bit (pair l h * 2 ^ s) 256 c lc ∙ ap (is_dark_bit (pair l h * 2 ^ s)) e ∙ bit_up (pair l h) s (c - s)

  none_whole : (c : ℕ) → c < 256 → c < s → is_dark_bit (pair l h * 2 ^ s % 2 ^ 256) c ≡ false
  none_whole c lc k = low_bit (pair l h * 2 ^ s) 256 c lc ∙ none_up (pair l h) s c k

  -- Both numbers are moved to the left, and the first into the second.
  pub moved_left : s < 128 →
      pair (l * 2 ^ s % 2 ^ 128) (bit_or (h * 2 ^ s % 2 ^ 128) (l / 2 ^ 1 / 2 ^ (127 - s))) ≡
      pair l h * 2 ^ s % 2 ^ 256
  moved_left k =
      ap (λ (x : ℕ). pair (l * 2 ^ s % 2 ^ 128) (bit_or (h * 2 ^ s % 2 ^ 128) x)) (two_right l s k)
      ∙ by_halves (l * 2 ^ s % 2 ^ 128) (bit_or (h * 2 ^ s % 2 ^ 128) (l / 2 ^ (128 - s)))
      (pair l h * 2 ^ s % 2 ^ 256) (cut (l * 2 ^ s))
      (or_lt 128 (h * 2 ^ s % 2 ^ 128) (l / 2 ^ (128 - s)) (cut (h * 2 ^ s)) below) whole_cut
      (λ c lc. first c lc (cases_lt c s))
      (λ c lc. or_dark (h * 2 ^ s % 2 ^ 128) (l / 2 ^ (128 - s)) c
      ∙ ap (λ (b : Bool). is_dark_bit (h * 2 ^ s % 2 ^ 128) c || b)
      (ap (λ (i : ℕ). nat_eq i 1) (moved_bit l (128 - s) c)) ∙ second c lc (cases_lt c s)
      ∙ sym (up_whole (c + 128) (omega (arith, lc)) (omega (arith, k))))
    where
      below : l / 2 ^ (128 - s) < 2 ^ 128
      below = let b = div-le_self l (2 ^ (128 - s)) in omega (arith, ll, b)

      first : (c : ℕ) → c < 128 → (c < s) ⊎ (s ≤ c) →
          is_dark_bit (l * 2 ^ s % 2 ^ 128) c ≡ is_dark_bit (pair l h * 2 ^ s % 2 ^ 256) c
      first c lc (inl m) = up_none l s c lc m ∙ sym (none_whole c (omega (arith, lc)) m)
      first c lc (inr m) =
          up_at l s c lc m ∙ sym (up_whole c (omega (arith, lc)) m ∙ low_at l h (c - s) (omega (arith, lc)))

      second : (c : ℕ) → c < 128 → (c < s) ⊎ (s ≤ c) →
          (is_dark_bit (h * 2 ^ s % 2 ^ 128) c || is_dark_bit l (128 - s + c)) ≡ is_dark_bit (pair l h) (c + 128 - s)
      second c lc (inl m) =
          let e : 128 - s + c ≡ c + 128 - s = omega (arith, k) in
          ap (λ (b : Bool). b || is_dark_bit l (128 - s + c)) (up_none h s c lc m)
          ∙ ap (is_dark_bit l) e ∙ sym (low_at l h (c + 128 - s) (omega (arith, m)))
      second c lc (inr m) =
          let e : c - s ≡ c + 128 - s - 128 = omega (arith, k, m) in
          ap (λ (b : Bool). is_dark_bit (h * 2 ^ s % 2 ^ 128) c || b) (above l 128 (128 - s + c) ll (omega (
            arith,
            m,
            k,
          )))
          ∙ or-false (is_dark_bit (h * 2 ^ s % 2 ^ 128) c) ∙ up_at h s c lc m ∙ ap (is_dark_bit h) e
          ∙ sym (high_at l h (c + 128 - s) ll (omega (arith, m)))

  -- Further than that only the first number is left.
  pub moved_far_left : 128 ≤ s → s < 256 → pair 0 (l * 2 ^ (s - 128) % 2 ^ 128) ≡ pair l h * 2 ^ s % 2 ^ 256
  moved_far_left k most =
      by_halves 0 (l * 2 ^ (s - 128) % 2 ^ 128) (pair l h * 2 ^ s % 2 ^ 256) (omega arith) (cut (l * 2 ^ (s - 128)))
      whole_cut
      (λ c lc. nothing c ∙ sym (none_whole c (omega (arith, lc)) (omega (arith, lc, k))))
      (λ c lc. second c lc (cases_lt c (s - 128)))
    where
      second : (c : ℕ) → c < 128 → (c < s - 128) ⊎ (s - 128 ≤ c) →
          is_dark_bit (l * 2 ^ (s - 128) % 2 ^ 128) c ≡ is_dark_bit (pair l h * 2 ^ s % 2 ^ 256) (c + 128)
      second c lc x = grind (arith, nat_tests, up_none, none_whole, up_at, up_whole, low_at)

-- ---- laid over one another, and masked

-- Pairs that are laid over one another, number by number, are laid over as numbers of 256 bits.
pub pair_or : (l h x y : ℕ) → l < 2 ^ 128 → h < 2 ^ 128 → x < 2 ^ 128 → y < 2 ^ 128 →
    pair (bit_or l x) (bit_or h y) ≡ bit_or (pair l h) (pair x y)
pair_or l h x y ll lh lx ly =
    by_halves (bit_or l x) (bit_or h y) (bit_or (pair l h) (pair x y)) (or_lt 128 l x ll lx) (or_lt 128 h y lh ly)
    (or_lt 256 (pair l h) (pair x y) (pair_small l h ll lh) (pair_small x y lx ly))
    (λ c lc. cc (or_dark l x c, low_at l h c lc, low_at x y c lc, or_dark (pair l h) (pair x y) c))
    (λ c lc.
    let e : c + 128 - 128 ≡ c = omega arith in
    or_dark h y c
    ∙ ap (λ (b : Bool). b || is_dark_bit y c) (sym (high_at l h (c + 128) ll (omega arith) ∙ ap (is_dark_bit h) e))
    ∙ ap (λ (b : Bool). is_dark_bit (pair l h) (c + 128) || b)
    (sym (high_at x y (c + 128) lx (omega arith) ∙ ap (is_dark_bit y) e))
    ∙ sym (or_dark (pair l h) (pair x y) (c + 128)))

-- A pair whose numbers are both masked is masked by the pair of masks.
pub pair_and : (l h m : ℕ) → l < 2 ^ 128 → h < 2 ^ 128 → m < 2 ^ 128 →
    pair (bit_and l m) (bit_and h m) ≡ bit_and (pair l h) (pair m m)
pair_and l h m ll lh lm =
    by_halves (bit_and l m) (bit_and h m) (bit_and (pair l h) (pair m m)) (and_lt 128 l m ll lm) (and_lt 128 h m lh lm)
    (and_lt 256 (pair l h) (pair m m) (pair_small l h ll lh) (pair_small m m lm lm))
    (λ c lc. cc (and_dark l m c, low_at l h c lc, low_at m m c lc, and_dark (pair l h) (pair m m) c))
    (λ c lc.
    let e : c + 128 - 128 ≡ c = omega arith in
    and_dark h m c
    ∙ ap (λ (b : Bool). b && is_dark_bit m c) (sym (high_at l h (c + 128) ll (omega arith) ∙ ap (is_dark_bit h) e))
    ∙ ap (λ (b : Bool). is_dark_bit (pair l h) (c + 128) && b)
    (sym (high_at m m (c + 128) lm (omega arith) ∙ ap (is_dark_bit m) e))
    ∙ sym (and_dark (pair l h) (pair m m) (c + 128)))

-- A mask of the lowest bits of each byte is one in both numbers.
pub pair_mask : (m count : ℕ) → m < 2 ^ 128 → ((c : ℕ) → c < 128 → is_dark_bit m c ≡ nat_lt (c % 8) count) →
    (c : ℕ) → c < 256 → is_dark_bit (pair m m) c ≡ nat_lt (c % 8) count
pair_mask m count lm masked c lc = grind (arith, nat_tests, cases_lt, pair, low_at, high_at)

-- The masks of sixteen bytes, twice, are those of 32.
pub pair_masks_at : AreMasks (pair LOW_TWO_BITS LOW_TWO_BITS) (pair LOW_THREE_BITS LOW_THREE_BITS) 256
pair_masks_at c l = (
  pair_mask LOW_TWO_BITS 2 (omega arith) (λ i h. (masks_at i h).0) c l,
  pair_mask LOW_THREE_BITS 3 (omega arith) (λ i h. (masks_at i h).1) c l,
)

-- ---- lists of pairs

-- The number of a pair of a list.
pub at_is : (ps : List Pair) (row : ℕ) (d : Pair) → row < length (numbers_of ps) →
    number_of (get_or ps row d) ≡ get_or (numbers_of ps) row 0
at_is ps row d l = let k = length-map ps number_of in sym (get_or-map number_of ps row d 0 (omega (arith, k, l)))

-- A list in which a pair is put has its number.
pub put_is : (ps : List Pair) (row : ℕ) (p : Pair) (n : ℕ) → number_of p ≡ n →
    numbers_of (set ps row p) ≡ set (numbers_of ps) row n
put_is ps row p n e = map-set number_of ps row p ∙ ap (set (numbers_of ps) row) e

-- One in which something is laid over a pair has it over the pair's number.
pub over_is : (ps : List Pair) (ns : List ℕ) (row : ℕ) (p d : Pair) (y : ℕ) → numbers_of ps ≡ ns →
    row < length ns → number_of p ≡ bit_or (number_of (get_or ps row d)) y →
    numbers_of (set ps row p) ≡ set ns row (bit_or (get_or ns row 0) y)
over_is ps ns row p d y same l e = grind (arith, nat_tests, put_is, at_is)
