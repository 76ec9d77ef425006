-- Functions that take sums to sums. Two of them that agree at each power of 2 agree at every byte.
use Rattle.std.proofs.Common.{◌≡◌, ℕ, zero, suc, ◌+◌, ◌*◌, ◌/◌, ◌%◌, ◌^◌, ◌<◌, sym, ap, subst, ◌∙◌, arith, bit_xor}
use Rattle.std.proofs.Common.{Bool, true, ◌&&◌, inl, inr}
use Rattle.std.proofs.lemmas.Bool.{and_parts, cases_order}
use Rattle.std.proofs.lemmas.Nat.Bits.{bit_at_xor, bit_at-lt}
use Rattle.std.proofs.lemmas.Nat.{mod_below, pow_pos, shr_split, div_below}
use lib.Bits.{xor_assoc, xor_comm, xor_self, xor_zero_r, xor_shifted}
use Rattle.std.proofs.Math.Nat.{zero-mul, one-mul, pow-succ'}
use Rattle.gf301.specs.Field.{◌⊕◌, bit}

-- The middle two of four terms change places.
pub xor_swap : (a b c d : ℕ) → (a ⊕ b) ⊕ (c ⊕ d) ≡ (a ⊕ c) ⊕ (b ⊕ d)
xor_swap a b c d =
    xor_assoc a b (c ⊕ d)
    ∙ ap (bit_xor a) (sym (xor_assoc b c d) ∙ ap (λ x. x ⊕ d) (xor_comm b c) ∙ xor_assoc c b d)
    ∙ sym (xor_assoc a c (b ⊕ d))

-- What is added twice is gone.
pub xor_twice : (a b : ℕ) → a ⊕ (a ⊕ b) ≡ b
xor_twice a b = sym (xor_assoc a a b) ∙ ap (λ x. x ⊕ b) (xor_self a) ∙ xor_comm 0 b ∙ xor_zero_r b

-- The test passes at every number below n.
unfoldable pub all_below : ℕ → (ℕ → Bool) → Bool
all_below zero f = true
all_below (suc n) f = f n && all_below n f

-- Where the test of every number below n passes, it passes at each of them.
pub all_below_at : (n : ℕ) (f : ℕ → Bool) → all_below n f ≡ true → (i : ℕ) → i < n → f i ≡ true
unfolding all_below
all_below_at zero f e i h = absurd (omega arith)
all_below_at (suc n) f e i h =
    elim (cases_order i n) [
      | inl s ↦ ap f s ∙ (and_parts (f n) (all_below n f) e).0
      | inr r ↦ elim r [
        | inl l ↦ all_below_at n f (and_parts (f n) (all_below n f) e).1 i l
        | inr g ↦ absurd
            (omega arith)
      ]
    ]

-- The function f takes sums to sums.
abbrev pub Additive : (ℕ → ℕ) → Type 0
Additive f = (a b : ℕ) → f (a ⊕ b) ≡ f a ⊕ f b

-- An additive function takes 0 to 0.
pub additive_zero : (f : ℕ → ℕ) → Additive f → f 0 ≡ 0
additive_zero f h = ap f (sym (xor_self 0)) ∙ h 0 0 ∙ xor_self (f 0)

-- The sum of two digits 0 or 1, without the carry, times c is the sum of the digits times c.
pub digit_times : (x y c : ℕ) → x < 2 → y < 2 → (x + y) % 2 * c ≡ x * c ⊕ y * c
digit_times zero zero c hx hy = simp (zero-mul)
digit_times zero (suc zero) c hx hy = simp (zero-mul, one-mul)
digit_times (suc zero) zero c hx hy = simp (zero-mul, one-mul, xor_zero_r)
digit_times (suc zero) (suc zero) c hx hy = simp (zero-mul, one-mul, xor_self)
digit_times zero (suc (suc y)) c hx hy = absurd (omega arith)
digit_times (suc zero) (suc (suc y)) c hx hy = absurd (omega arith)
digit_times (suc (suc x)) y c hx hy = absurd (omega arith)

-- A bit of a sum, times c, is the sum of the two bits times c.
pub bit_times : (a b i c : ℕ) → bit (a ⊕ b) i * c ≡ bit a i * c ⊕ bit b i * c
bit_times a b i c =
    ap (λ x. x * c) (bit_at_xor a b i) ∙ digit_times (bit a i) (bit b i) c (bit_at-lt a i) (bit_at-lt b i)

-- A number of w + 1 bits is its highest bit and the rest.
pub top_split : (w a : ℕ) → a < 2 ^ suc w → (q : ℕ) × (q < 2) × (a ≡ q * 2 ^ w ⊕ a % 2 ^ w)
top_split w a h =
    let e : a < 2 * 2 ^ w = subst (λ x. a < x) (pow-succ' 2 w) h in (
      a / 2 ^ w,
      div_below a (2 ^ w) 2 (pow_pos w) e,
      sym (shr_split a w)
          ∙ sym (xor_shifted (a / 2 ^ w) w (a % 2 ^ w) (mod_below a (2 ^ w) (pow_pos w))),
    )

-- Additive functions that agree at p agree at the digits 0 and 1 times p.
digit_agree : (f g : ℕ → ℕ) → Additive f → Additive g → (p q : ℕ) → q < 2 → f p ≡ g p → f (q * p) ≡ g (q * p)
digit_agree f g hf hg p zero h e = simp (zero-mul) (additive_zero f hf ∙ sym (additive_zero g hg))
digit_agree f g hf hg p (suc zero) h e = simp (one-mul) e
digit_agree f g hf hg p (suc (suc q)) h e = absurd (omega arith)

-- Additive functions that agree at each power of 2 below 2 ^ w agree at each number below it.
pub additive_agree : (f g : ℕ → ℕ) → Additive f → Additive g → (w : ℕ) → ((i : ℕ) → i < w → f (2 ^ i) ≡ g (2 ^ i)) →
    (a : ℕ) → a < 2 ^ w → f a ≡ g a
additive_agree f g hf hg zero e zero h = additive_zero f hf ∙ sym (additive_zero g hg)
additive_agree f g hf hg zero e (suc a) h = absurd (omega arith)
additive_agree f g hf hg (suc w) e a h =
    let s : (q : ℕ) × (q < 2) × (a ≡ q * 2 ^ w ⊕ a % 2 ^ w) = top_split w a h in
    let r : f (a % 2 ^ w) ≡ g (a % 2 ^ w) =
    additive_agree f g hf hg w (λ i l. e i (omega arith)) (a % 2 ^ w) (mod_below a (2 ^ w) (pow_pos w)) in
    ap f s.2 ∙ hf (s.0 * 2 ^ w) (a % 2 ^ w)
    ∙ ap (λ x. x ⊕ f (a % 2 ^ w)) (digit_agree f g hf hg (2 ^ w) s.0 s.1 (e w (omega arith)))
    ∙ ap (bit_xor (g (s.0 * 2 ^ w))) r
    ∙ sym (hg (s.0 * 2 ^ w) (a % 2 ^ w)) ∙ sym (ap g s.2)
