-- How many bytes are asked for.
use Rattle.std.proofs.Common.{◌≡◌, ◌≤◌, ◌+◌, ◌++◌, ℕ, zero, suc, List, inl, inr, length, length-append, max, refl}
use Rattle.std.proofs.Common.{arith}
use Rattle.std.proofs.lemmas.Bool.{cases_lt, le-ltb, lt-ltb}
use Rattle.dm_text.specs.Runs.{most_asked}

-- At least `most` bytes may be asked for.
most_may_be_asked : (most given : ℕ) → most ≤ most_asked most given
most_may_be_asked most given =
    elim (cases_lt given most) [
      | inl lt ↦ rw (lt-ltb given most lt) (omega arith)
      | inr ge ↦ rw (le-ltb given most ge) (omega arith)
    ]

-- One byte more than `most` may be asked for once `most` bytes have come.
one_more_may_be_asked : (most given : ℕ) → most ≤ given → most + 1 ≤ most_asked most given
one_more_may_be_asked most given all = rw (le-ltb given most all) (omega arith)

-- The next read asks for no more than may be asked for: for the bytes that may still come, or for one more.
next_may_be_asked : (before given left most : ℕ) → before + left ≡ most → before ≤ given →
    before + max left 1 ≤ most_asked most given
next_may_be_asked before given zero most e h = omega (arith, one_more_may_be_asked most given (omega (arith, e, h)))
next_may_be_asked before given (suc left) most e h = omega (arith, e, most_may_be_asked most given)

-- While bytes may still come, the next read asks for no more than `most` in all.
pub next_is_within : (before left most : ℕ) → before + left ≡ most → (left ≡ 0 → ⊥) → before + max left 1 ≤ most
next_is_within before zero most e some = absurd (some refl)
next_is_within before (suc left) most e some = omega (arith, e)

-- After the last read no more bytes were asked for in all than may be.
asked_in_all : {S : Type 0} (Gave : S → S → List ℕ → Type 0) (Asked : S → S → ℕ → Type 0)
    → ((a b c : S) (x : List ℕ) (m n most : ℕ) → Gave a b x → Asked a b m → Asked b c n → m ≤ most →
    length x + n ≤ most → Asked a c most)
    → (a b c : S) (text more : List ℕ) (left most : ℕ) → Gave a b text → Asked a b most → Asked b c (max left 1) →
    length text + left ≡ most → length text ≤ length more
    → Asked a c (most_asked most (length more))
asked_in_all Gave Asked joined a b c text more left most gave before last all longer =
    joined a b c text most (max left 1) (most_asked most (length more)) gave before last
    (most_may_be_asked most (length more))
    (next_may_be_asked (length text) (length more) left most all longer)

-- What the source gave up to the last read, and no more bytes were asked for than may be.
pub asked_by : {S : Type 0} (Gave : S → S → List ℕ → Type 0) (Asked : S → S → ℕ → Type 0)
    → ((a b c : S) (x y : List ℕ) → Gave a b x → Gave b c y → Gave a c (x ++ y))
    → ((a b c : S) (x : List ℕ) (m n most : ℕ) → Gave a b x → Asked a b m → Asked b c n → m ≤ most →
    length x + n ≤ most → Asked a c most)
    → (a b c : S) (text more : List ℕ) (left most : ℕ) → Gave a b text → Gave b c more → Asked a b most →
    Asked b c (max left 1) → length text + left ≡ most
    → (all : List ℕ) × Gave a c all × Asked a c (most_asked most (length all))
asked_by Gave Asked gave_joined asked_joined a b c text more left most gave next before last all = (
  text ++ more,
  gave_joined a b c text more gave next,
  asked_in_all Gave Asked asked_joined a b c text (text ++ more) left most gave before last all
      (omega (arith, length-append text more)),
)
