-- Lists to whose numbers others are added, sixteen at a time.
use Rattle.std.proofs.Common.{◌≡◌, ℕ, ◌+◌, ◌-◌, ◌<◌, ◌≤◌, List, length, get_or, map, sym, ap, ◌∙◌, arith, bit_xor, inl}
use Rattle.std.proofs.Common.{inr}
use Rattle.std.proofs.lemmas.Bool.{cases_lt}
use Rattle.std.proofs.lemmas.List.{get_or-map, length-map}
use Rattle.std.proofs.lemmas.Simd.{length-zip2, length-chunk, get_or-zip2, get_or-chunk, get_or-put_chunk_below}
use Rattle.std.proofs.lemmas.Simd.{get_or-put_chunk_at, get_or-put_chunk_above, length-put_chunk}
use lib.Lanes.{zip2, chunk, put_chunk}
use Rattle.gf301.specs.Field.{◌⊕◌, ◌⊗◌}

-- The list s is what g makes of the numbers of a and their places, up to the place n, and is a from there on.
pub record IsDoneTo (g : ℕ → ℕ → ℕ) (a s : List ℕ) (n : ℕ) : Type 0 where
  pub long : length s ≡ length a
  pub done : (i : ℕ) → i < n → get_or s i 0 ≡ g i (get_or a i 0)
  pub left : (i : ℕ) → n ≤ i → get_or s i 0 ≡ get_or a i 0

-- With what it makes of the next sixteen numbers stored, this is done up to sixteen places further.
pub done_more : (g : ℕ → ℕ → ℕ) (a s ys : List ℕ) (n : ℕ) → n + 16 ≤ length a → length ys ≡ 16 →
    ((i : ℕ) → i < 16 → get_or ys i 0 ≡ g (n + i) (get_or s (n + i) 0))
    → IsDoneTo g a s n → IsDoneTo g a (put_chunk n s ys) (n + 16)
done_more g a s ys n h yl e k = record {
  long = length-put_chunk n s ys ∙ k.long;
  done = λ i b. elim (cases_lt i n) [
    | inl o ↦ get_or-put_chunk_below n s ys i 0 o ∙ k.done i o
    | inr o ↦
        let j = i - n in
        let jl : j < 16 = omega arith in
        let q : i ≡ n + j = omega arith in
        ap (λ z. get_or (put_chunk n s ys) z 0) q
        ∙ get_or-put_chunk_at n s ys j 0 (omega (arith, yl)) (omega (arith, yl, k.long))
        ∙ e j jl ∙ ap (g (n + j)) (k.left (n + j) (omega arith)) ∙ ap (λ z. g z (get_or a z 0)) (sym q)
  ];
  left = λ i o. get_or-put_chunk_above n s ys i 0 (omega (arith, yl)) ∙ k.left i (omega arith);
}

-- The list s is the sum of a and the numbers that f gives for its places, up to the place n, and is a from there on.
abbrev pub IsAddedTo : (ℕ → ℕ) → List ℕ → List ℕ → ℕ → Type 0
IsAddedTo f a s n = IsDoneTo (λ i x. x ⊕ f i) a s n

-- With sixteen sums stored, the sum is done up to sixteen places further.
pub added_more : (f : ℕ → ℕ) (a s t : List ℕ) (n : ℕ) → n + 16 ≤ length a → length t ≡ 16 →
    ((i : ℕ) → i < 16 → get_or t i 0 ≡ f (n + i)) → IsAddedTo f a s n
    → IsAddedTo f a (put_chunk n s (zip2 bit_xor (chunk n 16 s) t)) (n + 16)
added_more f a s t n h tl e k =
    let cs : length (chunk n 16 s) ≡ 16 = length-chunk n 16 s (omega (arith, k.long)) in
    done_more (λ i x. x ⊕ f i) a s (zip2 bit_xor (chunk n 16 s) t) n h
    (length-zip2 bit_xor (chunk n 16 s) t (cs ∙ sym tl) ∙ cs)
    (λ i l.
    get_or-zip2 bit_xor (chunk n 16 s) t i 0 0 0 (omega (arith, cs)) (omega (arith, tl))
    ∙ ap (λ z. z ⊕ get_or t i 0) (get_or-chunk n 16 s i 0 l) ∙ ap (bit_xor (get_or s (n + i) 0)) (e i l))
    k

-- The sixteen products of c with the numbers of a list from a place on.
pub products_at : (c : ℕ) (b : List ℕ) (n : ℕ) → n + 16 ≤ length b →
    (length (map (λ x. c ⊗ x) (chunk n 16 b)) ≡ 16)
    × ((i : ℕ) → i < 16 → get_or (map (λ x. c ⊗ x) (chunk n 16 b)) i 0 ≡ c ⊗ get_or b (n + i) 0)
products_at c b n h =
    let cb : length (chunk n 16 b) ≡ 16 = length-chunk n 16 b h in (
      length-map (chunk n 16 b) (λ x. c ⊗ x) ∙ cb,
      λ i l. get_or-map (λ x. c ⊗ x) (chunk n 16 b) i 0 0 (omega (arith, cb))
          ∙ ap (λ x. c ⊗ x) (get_or-chunk n 16 b i 0 l),
    )
