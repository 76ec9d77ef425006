-- How many cells of a row are dark.
use Rattle.dm_layout.proofs.Names.{nat_tests, is_dark_bit, ◌≡◌, ℕ, zero, suc, ◌+◌, ◌*◌, ◌/◌, ◌%◌, ◌^◌, ◌<◌, Bool, cond}
use Rattle.dm_layout.proofs.Names.{nat_eq, refl, sym, ◌∙◌, ap, subst, arith, count_by, count_ones, range_with_len}
use Rattle.dm_layout.proofs.Names.{mod-lt, sum_by_push, ones_cat, ones-le, div-add-mod', bit_at_cat_low, range-append}
use lib.Count.{ones}
use Rattle.std.proofs.Math.Nat.{div-lt_iff_lt-mul, pow-succ'}
use Rattle.std.proofs.lemmas.Nat.{pow_pos}

-- One more column adds 1 to the count if its test passes.
count_more : (f : ℕ → Bool) (n : ℕ) → count_by f (range_with_len 0 (n + 1)) ≡
    count_by f (range_with_len 0 n) + cond (f n) 1 0
count_more f n = grind (arith, nat_tests, range-append, sum_by_push)

-- A binary digit has as many ones as its value says.
ones_of_digit : (b : ℕ) → b < 2 → count_ones b ≡ cond (nat_eq (b % 2) 1) 1 0
unfolding ones
ones_of_digit zero l = refl
ones_of_digit (suc zero) l = refl
ones_of_digit (suc (suc b)) l = absurd (omega arith)

-- A row of n cells, written as a number, has as many ones as dark cells.
pub counted_ones : (n x : ℕ) (f : ℕ → Bool) → x < 2 ^ n → ((c : ℕ) → c < n → is_dark_bit x c ≡ f c) →
    count_ones x ≡ count_by f (range_with_len 0 n)
counted_ones zero x f l same = let e = ones-le 0 x l in omega (arith, e)
counted_ones (suc n) x f l same =
    let h : ℕ = x / 2 ^ n in
    let r : ℕ = x % 2 ^ n in
    let j : suc n ≡ n + 1 = omega arith in
    let parts : h * 2 ^ n + r ≡ x = div-add-mod' x (2 ^ n) in
    let rl : r < 2 ^ n = mod-lt x (pow_pos n) in
    let prefix : count_ones r ≡ count_by f (range_with_len 0 n) = counted_ones n r f rl (λ c lc.
    cc (bit_at_cat_low h n r c lc, parts, same c (omega arith))) in
    let first : count_ones h ≡ cond (f n) 1 0 =
    ones_of_digit h (half n x l) ∙ ap (λ (b : Bool). cond b 1 0) (same n (omega arith)) in
    let more = count_more f n in
    let whole : count_ones x ≡ count_ones h + count_ones r = ap count_ones (sym parts) ∙ ones_cat n h r rl in
    let all : count_ones x ≡ count_by f (range_with_len 0 (n + 1)) = omega (arith, whole, prefix, first, more) in
    all ∙ ap (λ (i : ℕ). count_by f (range_with_len 0 i)) (sym j)
  where
    half : (n x : ℕ) → x < 2 ^ suc n → x / 2 ^ n < 2
    half n x l = (div-lt_iff_lt-mul (pow_pos n)).1 (subst (λ (i : ℕ). x < i) (pow-succ' 2 n) l)
