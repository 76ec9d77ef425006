-- The first coefficients of a series, as a list.
use Rattle.std.proofs.Common.{◌≡◌, ℕ, zero, suc, ◌+◌, List, ◌<◌, ◌≤◌, [], ◌∷◌, ◌++◌, length, refl, sym, ap, ◌∙◌, arith}
use Rattle.std.proofs.Common.{inl, inr}
use Rattle.std.proofs.lemmas.Bool.{cases_lt}
use Rattle.gf301.specs.Polynomial.{Bytes, coefficient, values_from}
use Rattle.gf301.proofs.Exported.{bytes_cons, shift}

-- The first n coefficients of a series are taken as a list.
unfoldable pub first : (ℕ → ℕ) → ℕ → List ℕ
first f zero = []
first f (suc n) = f 0 ∷ first (shift f) n

-- The list of the first n coefficients has the length n.
pub length-first : (f : ℕ → ℕ) (n : ℕ) → length (first f n) ≡ n
unfolding first
length-first f zero = refl
length-first f (suc n) = ap suc (length-first (shift f) n)

-- Each of the first n coefficients is that of the series.
pub first_at : (f : ℕ → ℕ) (n i : ℕ) → i < n → coefficient (first f n) i ≡ f i
unfolding first
first_at f zero i h = absurd (omega arith)
first_at f (suc n) zero h = refl
first_at f (suc n) (suc i) h = first_at (shift f) n i (omega arith)

-- Past the first n coefficients the list holds 0.
pub first_past : (f : ℕ → ℕ) (n i : ℕ) → n ≤ i → coefficient (first f n) i ≡ 0
unfolding first
first_past f zero i h = refl
first_past f (suc n) zero h = absurd (omega arith)
first_past f (suc n) (suc i) h = first_past (shift f) n i (omega arith)

-- Where the rest of the series is 0, the list has the same coefficients.
pub first_whole : (f : ℕ → ℕ) (n : ℕ) → ((i : ℕ) → n ≤ i → f i ≡ 0) → (i : ℕ) → coefficient (first f n) i ≡ f i
first_whole f n z i =
    elim (cases_lt i n) [ inl h ↦ first_at f n i h | inr h ↦ first_past f n i h ∙ sym (z i h) ]

-- The first coefficients are a list of bytes if all coefficients are bytes.
pub bytes_first : (f : ℕ → ℕ) (n : ℕ) → ((i : ℕ) → f i < 256) → Bytes (first f n)
unfolding first
bytes_first f zero h = λ k d l. absurd (omega arith)
bytes_first f (suc n) h = bytes_cons (f 0) (first (shift f) n) (h 0) (bytes_first (shift f) n (λ i. h (suc i)))

-- Series with the same first n coefficients give the same list.
pub first_same : (f g : ℕ → ℕ) (n : ℕ) → ((i : ℕ) → i < n → f i ≡ g i) → first f n ≡ first g n
unfolding first
first_same f g zero h = refl
first_same f g (suc n) h =
    ap (λ a. a ∷ first (shift f) n) (h 0 (omega arith))
    ∙ ap (λ t. g 0 ∷ t) (first_same (shift f) (shift g) n (λ i l. h (suc i) (omega arith)))

-- The first n + 1 coefficients are the first n, followed by coefficient n.
pub first_push : (f : ℕ → ℕ) (n : ℕ) → first f (suc n) ≡ first f n ++ f n ∷ []
unfolding first
first_push f zero = refl
first_push f (suc n) = ap (λ t. f 0 ∷ t) (first_push (shift f) n)

-- The values of a series from a place on are the first coefficients of the series that begins there.
values_later : (f : ℕ → ℕ) (a n : ℕ) → values_from f a n ≡ first (λ i. f (a + i)) n
unfolding values_from first
values_later f a zero = refl
values_later f a (suc n) =
    ap (λ k. f k ∷ values_from f (suc a) n) (let q : a ≡ a + 0 = omega arith in q)
    ∙ ap (λ t. f (a + 0) ∷ t) (values_later f (suc a) n
    ∙ first_same (λ i. f (suc a + i)) (λ i. f (a + suc i)) n
    (λ i h. ap f (let q : suc a + i ≡ a + suc i = omega arith in q)))

-- The values of a series from the place 0 on are its first coefficients.
pub values_are_first : (f : ℕ → ℕ) (n : ℕ) → values_from f 0 n ≡ first f n
values_are_first f n =
    values_later f 0 n ∙ first_same (λ i. f (0 + i)) f n (λ i h. ap f (let q : 0 + i ≡ i = omega arith in q))
