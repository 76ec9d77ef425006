-- Rows of bytes as numbers.
use Rattle.dm_layout.proofs.Names.{◌≡◌, ◌⊎◌, inl, inr, ℕ, zero, suc, ◌+◌, ◌-◌, ◌*◌, ◌/◌, ◌%◌, ◌^◌, ◌<◌, ◌≤◌, Bool}
use Rattle.dm_layout.proofs.Names.{false, ◌&&◌, ◌||◌, nat_eq, nat_le, List, [], ◌∷◌, ◌++◌, length, get_or, set, refl}
use Rattle.dm_layout.proofs.Names.{sym, ◌∙◌, ap, arith, subst, get_or-set_other, get_or-set_same, from_le_bytes}
use Rattle.dm_layout.proofs.Names.{to_le_bytes, w128, bit_or, put_mid, or-false, drop-append_seam, take-append_seam}
use Rattle.dm_layout.proofs.Names.{div-div-eq-div-mul, pow-suc, le-leb, lt-leb, cases_lt, cases_eq, length-set, or_lt}
use Rattle.dm_layout.proofs.Names.{pow-add, mod_below, bit_at-zero, bit_at_cat_low, bit_at_cat_high, bit_at_above}
use Rattle.dm_layout.proofs.Names.{is_dark_bit, in_bytes}
use Rattle.std.proofs.Common.{append-nil}
use Rattle.std.specs.Int.{bytes_low_first, byte_at, w64}
use Rattle.std.proofs.Math.Arith.{mod-mul}
use Rattle.std.proofs.lemmas.List.{drop_all}
use Rattle.std.proofs.lemmas.Nat.{pow_pos}
use Rattle.dm_layout.proofs.symbols.Rows.{or_dark, same_row_numbers}
use Rattle.dm_layout.proofs.symbols.LaidSlots.{byte_up, byte_fits}

-- Eight bytes have the number that `from_le_bytes` gives.
pub in_eight : (bs : List ℕ) → length bs ≡ 8 → from_le_bytes w64 bs ≡ in_bytes bs
unfolding in_bytes
in_eight (b0 ∷ b1 ∷ b2 ∷ b3 ∷ b4 ∷ b5 ∷ b6 ∷ b7 ∷ []) h = omega arith
in_eight bs h = absurd (omega arith)

-- Sixteen bytes have the number that `from_le_bytes` gives.
pub in_sixteen : (bs : List ℕ) → length bs ≡ 16 → from_le_bytes w128 bs ≡ in_bytes bs
unfolding in_bytes
in_sixteen (b0 ∷ b1 ∷ b2 ∷ b3 ∷ b4 ∷ b5 ∷ b6 ∷ b7 ∷ b8 ∷ b9 ∷ b10 ∷ b11 ∷ b12 ∷ b13 ∷ b14 ∷ b15 ∷ []) h = omega arith
in_sixteen bs h = absurd (omega arith)

-- The number of bytes has no more bits than they have.
pub in_bytes_small : (bs : List ℕ) → ((i : ℕ) → get_or bs i 0 < 256) → in_bytes bs < 2 ^ (8 * length bs)
unfolding in_bytes
in_bytes_small [] small = omega arith
in_bytes_small (b ∷ bs) small =
    let h = small 0 in
    let r = in_bytes_small bs (λ i. small (suc i)) in
    let e : 8 * suc (length bs) ≡ 8 + 8 * length bs = omega arith in
    let p : 2 ^ (8 + 8 * length bs) ≡ 2 ^ 8 * 2 ^ (8 * length bs) = pow-add 2 8 (8 * length bs) in
    let q : 2 ^ (8 * suc (length bs)) ≡ 2 ^ 8 * 2 ^ (8 * length bs) = ap (λ (i : ℕ). 2 ^ i) e ∙ p in
    omega (arith, h, r, q)

-- A bit of the number of bytes is one of a byte.
in_bytes_bit : (bs : List ℕ) (c : ℕ) → ((i : ℕ) → get_or bs i 0 < 256) →
    is_dark_bit (in_bytes bs) c ≡ is_dark_bit (get_or bs (c / 8) 0) (c % 8)
unfolding in_bytes
in_bytes_bit [] c small = none c ∙ sym (none (c % 8))
  where
    none : (t : ℕ) → is_dark_bit 0 t ≡ false
    none t = ap (λ (i : ℕ). nat_eq i 1) (bit_at-zero t)
in_bytes_bit (b ∷ bs) c small =
    ap (λ (x : ℕ). is_dark_bit x c) turned ∙ by_place (in_bytes_bit bs (c - 8) (λ i. small (suc i))) (cases_lt c 8)
  where
    turned : b + 256 * in_bytes bs ≡ in_bytes bs * 2 ^ 8 + b
    turned = omega arith

    by_place : is_dark_bit (in_bytes bs) (c - 8) ≡ is_dark_bit (get_or bs ((c - 8) / 8) 0) ((c - 8) % 8) →
        (c < 8) ⊎ (8 ≤ c) → is_dark_bit (in_bytes bs * 2 ^ 8 + b) c ≡ is_dark_bit (get_or (b ∷ bs) (c / 8) 0) (c % 8)
    by_place rest (inl l) =
        let q : c / 8 ≡ 0 = omega arith in
        let r : c % 8 ≡ c = omega arith in
        ap (λ (i : ℕ). nat_eq i 1) (bit_at_cat_low (in_bytes bs) 8 b c l)
        ∙ sym (ap (λ (i : ℕ). is_dark_bit (get_or (b ∷ bs) i 0) (c % 8)) q ∙ ap (is_dark_bit b) r)
    by_place rest (inr l) =
        let q : c / 8 ≡ suc ((c - 8) / 8) = omega arith in
        let r : c % 8 ≡ (c - 8) % 8 = omega arith in
        rw (bit_at_cat_high (in_bytes bs) 8 b c (small 0) l, rest, q, r)

-- A byte of the number of bytes is the byte.
pub in_bytes_byte : (bs : List ℕ) (k : ℕ) → ((i : ℕ) → get_or bs i 0 < 256) →
    in_bytes bs / 2 ^ (8 * k) % 256 ≡ get_or bs k 0
unfolding in_bytes
in_bytes_byte [] k small = zero_byte (2 ^ (8 * k)) (pow_pos (8 * k))
  where
    zero_byte : (p : ℕ) → 0 < p → 0 / p % 256 ≡ 0
    zero_byte p h = omega arith
in_bytes_byte (b ∷ bs) zero small =
    let h = small 0 in
    let z : (b + 256 * in_bytes bs) / 1 % 256 ≡ b = omega (arith, h) in
    z
in_bytes_byte (b ∷ bs) (suc k) small =
    let h = small 0 in
    let e : 8 * suc k ≡ 8 + 8 * k = omega arith in
    let s : (b + 256 * in_bytes bs) / 256 ≡ in_bytes bs = omega (arith, h) in
    ap (λ (i : ℕ). (b + 256 * in_bytes bs) / 2 ^ i % 256) e
    ∙ ap (λ (i : ℕ). (b + 256 * in_bytes bs) / i % 256) (pow-add 2 8 (8 * k))
    ∙ ap (λ (i : ℕ). i % 256) (sym (div-div-eq-div-mul (b + 256 * in_bytes bs) 256 (2 ^ (8 * k))))
    ∙ ap (λ (i : ℕ). i / 2 ^ (8 * k) % 256) s
    ∙ in_bytes_byte bs k (λ i. small (suc i))

-- ---- more bytes

-- The number of some bytes and of others behind them.
pub in_bytes_append : (bs cs : List ℕ) → in_bytes (bs ++ cs) ≡ in_bytes cs * 2 ^ (8 * length bs) + in_bytes bs
unfolding in_bytes
in_bytes_append [] cs = omega arith
in_bytes_append (b ∷ bs) cs =
    let h = in_bytes_append bs cs in
    let e : 8 * suc (length bs) ≡ 8 + 8 * length bs = omega arith in
    let p : 2 ^ (8 + 8 * length bs) ≡ 2 ^ 8 * 2 ^ (8 * length bs) = pow-add 2 8 (8 * length bs) in
    let q : 2 ^ (8 * suc (length bs)) ≡ 2 ^ 8 * 2 ^ (8 * length bs) = ap (λ (i : ℕ). 2 ^ i) e ∙ p in
    let m : in_bytes cs * 2 ^ (8 * suc (length bs)) ≡ in_bytes cs * (2 ^ 8 * 2 ^ (8 * length bs)) =
    ap (λ (x : ℕ). in_bytes cs * x) q in
    omega (arith, h, m)

-- Bytes and others behind them are bytes.
pub bytes_append : (bs cs : List ℕ) → ((i : ℕ) → get_or bs i 0 < 256) → ((i : ℕ) → get_or cs i 0 < 256) → (i : ℕ) →
    get_or (bs ++ cs) i 0 < 256
bytes_append [] cs first second i = second i
bytes_append (b ∷ bs) cs first second zero = first 0
bytes_append (b ∷ bs) cs first second (suc i) = bytes_append bs cs (λ j. first (suc j)) second i

-- Sixteen bytes, put before sixteen places, and sixteen put into these.
pub two_put : (bs cs zeros : List ℕ) → length bs ≡ 16 → length cs ≡ 16 → length zeros ≡ 16 →
    put_mid 16 16 (bs ++ zeros) cs ≡ bs ++ cs
two_put bs cs zeros eb ec ez =
    cc (eb, take-append_seam bs zeros, drop-append_seam bs zeros, drop_all 16 zeros (omega (arith, ez)), append-nil cs)

-- ---- one byte more

-- A byte laid over one of others leaves them bytes.
pub over_bytes : (bs : List ℕ) (k y : ℕ) → ((i : ℕ) → get_or bs i 0 < 256) → k < length bs → y < 256 → (i : ℕ) →
    get_or (set bs k (bit_or (get_or bs k 0) y)) i 0 < 256
over_bytes bs k y small room ly i = by_place (cases_eq i k)
  where
    x : ℕ
    x = bit_or (get_or bs k 0) y

    by_place : (i ≡ k) ⊎ (i ≡ k → ⊥) → get_or (set bs k x) i 0 < 256
    by_place (inl e) =
        subst (λ (z : ℕ). z < 256) (sym (ap (λ (j : ℕ). get_or (set bs k x) j 0) e ∙ get_or-set_same bs k x 0 room))
        (or_lt 8 (get_or bs k 0) y (small k) ly)
    by_place (inr ne) = subst (λ (z : ℕ). z < 256) (sym (get_or-set_other bs k i x 0 ne)) (small i)

-- Where a byte is laid over one of others, it is laid over their number, moved to its place.
pub byte_over : (n : ℕ) (bs : List ℕ) (k y : ℕ) → length bs ≡ n → ((i : ℕ) → get_or bs i 0 < 256) → k < n → y < 256 →
    in_bytes (set bs k (bit_or (get_or bs k 0) y)) ≡ bit_or (in_bytes bs) (y * 2 ^ (8 * k))
byte_over n bs k y count small lk ly = same_row_numbers (8 * n) _ _ left right bits
  where
    x : ℕ
    x = bit_or (get_or bs k 0) y

    news : List ℕ
    news = set bs k x

    news_small : (i : ℕ) → get_or news i 0 < 256
    news_small = over_bytes bs k y small (omega (arith, count, lk)) ly

    left : in_bytes news < 2 ^ (8 * n)
    left =
        subst (λ (i : ℕ). in_bytes news < 2 ^ (8 * i)) (length-set bs k x ∙ count) (in_bytes_small news news_small)

    whole : in_bytes bs < 2 ^ (8 * n)
    whole = subst (λ (i : ℕ). in_bytes bs < 2 ^ (8 * i)) count (in_bytes_small bs small)

    fits : y * 2 ^ (8 * k) % 2 ^ (8 * n) ≡ y * 2 ^ (8 * k)
    fits = byte_fits y (8 * k) (8 * n) ly (omega (arith, lk))

    right : bit_or (in_bytes bs) (y * 2 ^ (8 * k)) < 2 ^ (8 * n)
    right =
        or_lt (8 * n) (in_bytes bs) (y * 2 ^ (8 * k)) whole
        (subst (λ (z : ℕ). z < 2 ^ (8 * n)) fits (mod_below (y * 2 ^ (8 * k)) (2 ^ (8 * n)) (pow_pos (8 * n))))

    bits : (c : ℕ) → c < 8 * n → is_dark_bit (in_bytes news) c ≡ is_dark_bit (bit_or (in_bytes bs) (y * 2 ^ (8 * k))) c
    bits c lc =
        in_bytes_bit news c news_small ∙ by_place (cases_eq (c / 8) k)
        ∙ ap (λ (b : Bool). b || is_dark_bit (y * 2 ^ (8 * k)) c) (sym (in_bytes_bit bs c small))
        ∙ sym (or_dark (in_bytes bs) (y * 2 ^ (8 * k)) c)
      where
        moved : is_dark_bit (y * 2 ^ (8 * k)) c ≡ (nat_le (8 * k) c && is_dark_bit y (c - 8 * k))
        moved = ap (λ (z : ℕ). is_dark_bit z c) (sym fits) ∙ byte_up y (8 * k) (8 * n) c ly (omega (arith, lk))

        by_place : (c / 8 ≡ k) ⊎ (c / 8 ≡ k → ⊥) →
            is_dark_bit (get_or news (c / 8) 0) (c % 8) ≡
            (is_dark_bit (get_or bs (c / 8) 0) (c % 8) || is_dark_bit (y * 2 ^ (8 * k)) c)
        by_place (inl e) =
            let r : c % 8 ≡ c - 8 * k = omega (arith, e) in
            ap (λ (i : ℕ). is_dark_bit (get_or news i 0) (c % 8)) e
            ∙ ap (λ (z : ℕ). is_dark_bit z (c % 8)) (get_or-set_same bs k x 0 (omega (arith, count, lk)))
            ∙ or_dark (get_or bs k 0) y (c % 8)
            ∙ ap (λ (i : ℕ). is_dark_bit (get_or bs i 0) (c % 8) || is_dark_bit y (c % 8)) (sym e)
            ∙ ap (λ (i : ℕ). is_dark_bit (get_or bs (c / 8) 0) (c % 8) || is_dark_bit y i) r
            ∙ ap (λ (b : Bool). is_dark_bit (get_or bs (c / 8) 0) (c % 8) || (b && is_dark_bit y (c - 8 * k)))
            (sym (le-leb (8 * k) c (omega (arith, e))))
            ∙ ap (λ (b : Bool). is_dark_bit (get_or bs (c / 8) 0) (c % 8) || b) (sym moved)
        by_place (inr ne) =
            cc (get_or-set_other bs k (c / 8) x 0 ne, or-false _, moved, none (cases_lt c (8 * k)))
          where
            none : (c < 8 * k) ⊎ (8 * k ≤ c) → (nat_le (8 * k) c && is_dark_bit y (c - 8 * k)) ≡ false
            none (inl l) = ap (λ (b : Bool). b && is_dark_bit y (c - 8 * k)) (lt-leb (8 * k) c l)
            none (inr l) =
                let far : 8 ≤ c - 8 * k = omega (arith, l, ne) in
                rw (le-leb (8 * k) c l, bit_at_above y 8 (c - 8 * k) ly far)

-- ---- a number in bytes

power_some : (k : ℕ) → 0 < 256 ^ k
power_some zero = omega arith
power_some (suc k) = let h = power_some k in let e = pow-suc 256 k in omega (arith, h, e)

-- The bytes of a number have its lowest bits as their number.
low_first : (i k n : ℕ) → in_bytes (bytes_low_first i k n) ≡ n / 256 ^ i % 256 ^ k
unfolding in_bytes
low_first i zero n = one (n / 256 ^ i)
  where
    one : (x : ℕ) → 0 ≡ x % 1
    one x = omega arith
low_first i (suc k) n =
    rw (low_first (suc i) k n, byte_is i, next, parts (n / 256 ^ i) (256 ^ k) (power_some k), power)
  where
    byte_is : (i : ℕ) → byte_at i n ≡ n / 256 ^ i % 256
    byte_is zero = let z : n % 256 ≡ n / 1 % 256 = omega arith in z
    byte_is (suc i) = refl

    next : n / 256 ^ suc i ≡ n / 256 ^ i / 256
    next = ap (λ (z : ℕ). n / z) (pow-suc 256 i) ∙ sym (div-div-eq-div-mul n (256 ^ i) 256)

    power : 256 * 256 ^ k ≡ 256 ^ suc k
    power = let e = pow-suc 256 k in omega (arith, e)

    parts : (x p : ℕ) → 0 < p → x % 256 + 256 * (x / 256 % p) ≡ x % (256 * p)
    parts x p h =
        let c : 256 * p ≡ p * 256 = omega arith in
        let e : x % (256 * p) ≡ x % (p * 256) = ap (λ (z : ℕ). x % z) c in
        let m : x % (p * 256) ≡ (x / 256 % p) * 256 + x % 256 = mod-mul x h (omega arith) in
        omega (arith, e, m)

pub eight_first : (n : ℕ) → in_bytes (to_le_bytes w64 n) ≡ n % 2 ^ 64
eight_first n = low_first 0 8 n ∙ whole n
  where
    whole : (n : ℕ) → n / 256 ^ 0 % 256 ^ 8 ≡ n % 2 ^ 64
    whole n = omega arith

pub sixteen_first : (n : ℕ) → in_bytes (to_le_bytes w128 n) ≡ n % 2 ^ 128
sixteen_first n = low_first 0 16 n ∙ whole n
  where
    whole : (n : ℕ) → n / 256 ^ 0 % 256 ^ 16 ≡ n % 2 ^ 128
    whole n = omega arith

-- The bytes of a number are bytes.
pub low_first_small : (k i n j : ℕ) → get_or (bytes_low_first i k n) j 0 < 256
low_first_small zero i n j = omega arith
low_first_small (suc k) zero n zero = omega arith
low_first_small (suc k) (suc i) n zero = omega arith
low_first_small (suc k) i n (suc j) = low_first_small k (suc i) n j
