-- Cells of a row in lanes: sixteen that are cut out of it, and what each lane then has for its cell.
use Rattle.dm_layout.proofs.Names.{nat_tests, ◌≡◌, ◌∙◌, ℕ, ◌+◌, ◌*◌, ◌/◌, ◌%◌, ◌^◌, ◌<◌, min, not, cond, nat_eq}
use Rattle.dm_layout.proofs.Names.{if◌then◌else◌, List, [], ◌∷◌, ◌++◌, map, refl, sym, ap, arith, range_with_len}
use Rattle.dm_layout.proofs.Names.{div-div-eq-div-mul, pow-add, bit_at_and, bit_at-lt, is_dark_bit}
use Rattle.std.proofs.Common.{eqb, bit_and, ap₂}
use Rattle.std.specs.Simd.Lanes.{top}
use Rattle.std.proofs.lemmas.Nat.{pow_pos}
use Rattle.std.proofs.lemmas.Nat.Bits.{and_pow, bit_at_ones}

-- A lane is `dark` where the bit of this weight is 1, and else `light`.
abbrev pub lane : ℕ → ℕ → ℕ → ℕ → ℕ
lane dark light byte weight = cond (top 7 (cond (not (eqb (bit_and byte weight) 0)) 255 0)) dark light

-- A cell is shown as `dark` or as `light`.
abbrev pub shown : ℕ → ℕ → ℕ → ℕ → ℕ
shown dark light cells column = if is_dark_bit cells column then dark else light

-- A lane is `dark` where the bit times its weight isn't 0.
lane_bit : (dark light b w : ℕ) → b < 2 → 0 < w →
    cond (top 7 (cond (not (eqb (b * w) 0)) 255 0)) dark light ≡ (if nat_eq b 1 then dark else light)
lane_bit dark light x w l some = grind (arith, nat_tests)

-- What a lane has for a bit is how its cell is shown.
lane_is : (dark light byte k : ℕ) → lane dark light byte (2 ^ k) ≡ shown dark light byte k
lane_is dark light byte k =
    rw (and_pow byte k, lane_bit dark light (byte / 2 ^ k % 2) (2 ^ k) (bit_at-lt byte k) (pow_pos k))

-- A bit of the mask is kept as it is.
kept_bit : (n mask k : ℕ) → mask / 2 ^ k % 2 ≡ 1 → is_dark_bit (bit_and n mask) k ≡ is_dark_bit n k
kept_bit n mask k e =
    let same : min (n / 2 ^ k % 2) 1 ≡ n / 2 ^ k % 2 = omega (arith, bit_at-lt n k) in
    ap (λ (b : ℕ). nat_eq b 1) (bit_at_and n mask k ∙ ap (λ (b : ℕ). min (n / 2 ^ k % 2) b) e ∙ same)

-- A lane of the low byte shows its cell.
low_is : (dark light cells k : ℕ) → 255 / 2 ^ k % 2 ≡ 1 →
    lane dark light (bit_and cells 255) (2 ^ k) ≡ shown dark light cells k
low_is dark light cells k e =
    lane_is dark light (bit_and cells 255) k ∙ ap (λ b. if b then dark else light) (kept_bit cells 255 k e)

-- A lane of the high byte shows its cell.
high_is : (dark light cells k : ℕ) → 256 * 2 ^ k ≡ 2 ^ (8 + k) →
    lane dark light (cells / 256) (2 ^ k) ≡ shown dark light cells (8 + k)
high_is dark light cells k e =
    rw (lane_is, div-div-eq-div-mul, e)

-- Two lists are equal whose first numbers and whose rests are.
both : {x y : ℕ} {xs ys : List ℕ} → x ≡ y → xs ≡ ys → x ∷ xs ≡ y ∷ ys
both p q = ap₂ (λ a l. a ∷ l) p q

-- The weights of the bits of a byte, from the lowest on.
abbrev pub weights : List ℕ
weights = 1 ∷ 2 ∷ 4 ∷ 8 ∷ 16 ∷ 32 ∷ 64 ∷ 128 ∷ []

-- Sixteen lanes, eight for the low byte and eight for the high one, show sixteen cells.
pub sixteen_shown : (dark light cells : ℕ)
    → map (lane dark light (bit_and cells 255)) weights ++ map (lane dark light (cells / 256)) weights ≡
    map (shown dark light cells) (range_with_len 0 16)
sixteen_shown dark light cells =
    let low = low_is dark light cells in
    let high = high_is dark light cells in
    both (low 0 refl) (both (low 1 refl) (both (low 2 refl)
    (both (low 3 refl) (both (low 4 refl) (both (low 5 refl) (both (low 6 refl) (both (low 7 refl)
    (both (high 0 refl) (both (high 1 refl) (both (high 2 refl)
    (both (high 3 refl) (both (high 4 refl) (both (high 5 refl) (both (high 6 refl)
    (both (high 7 refl) refl)))))))))))))))

-- The cells that are cut out of a row are those of the row from that column on.
pub cut_cell : (cells column k : ℕ) → k < 16 → is_dark_bit (bit_and (cells / 2 ^ column) 65535) k ≡
    is_dark_bit cells (column + k)
cut_cell cells column k l =
    kept_bit (cells / 2 ^ column) 65535 k (bit_at_ones 16 k l)
    ∙ ap (λ (n : ℕ). nat_eq (n % 2) 1) (div-div-eq-div-mul cells (2 ^ column) (2 ^ k)
    ∙ ap (λ (w : ℕ). cells / w) (sym (pow-add 2 column k)))
