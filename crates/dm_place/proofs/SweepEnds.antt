-- Where the sweep has ended within some moves, further moves change nothing.
use Rattle.std.proofs.Common.{◌≡◌, ℕ, zero, suc, ◌+◌, ◌*◌, Bool, true, false, ◌||◌, List, [], ◌++◌, refl, ap, arith}
use Rattle.std.specs.Prelude.{ℤ, pos, ◌+ℤ◌, ◌-ℤ◌, int_lt, int_le}
use Rattle.dm_place.specs.declared.shape.Shape.{Shape}
use Rattle.dm_place.specs.Sweep.{Part, comes_by, placed, sweep, sweep_within, inside_at, corner_of_turn, nothing_filled}
use Rattle.dm_place.specs.Sweep.Part.{Corner, Upwards, Downwards}

-- The turns end within so many moves.
unfoldable pub is_done : ℕ → ℕ → ℕ → Part → ℤ → ℤ → Bool
is_done zero rows columns part r c = false
is_done (suc k) rows columns Corner r c =
    elim (int_lt r (pos rows) || int_lt c (pos columns)) [ true ↦ is_done k rows columns Upwards r c | false ↦ true ]
is_done (suc k) rows columns Upwards r c =
    elim (int_lt (r -ℤ pos 2) (pos 0) || int_le (pos columns) (c +ℤ pos 2)) [
      | true ↦ is_done k rows columns Downwards (r -ℤ pos 2 +ℤ pos 1) (c +ℤ pos 2 +ℤ pos 3)
      | false ↦ is_done k rows columns Upwards (r -ℤ pos 2) (c +ℤ pos 2)
    ]
is_done (suc k) rows columns Downwards r c =
    elim (int_le (pos rows) (r +ℤ pos 2) || int_lt (c -ℤ pos 2) (pos 0)) [
      | true ↦ is_done k rows columns Corner (r +ℤ pos 2 +ℤ pos 3) (c -ℤ pos 2 +ℤ pos 1)
      | false ↦ is_done k rows columns Downwards (r +ℤ pos 2) (c -ℤ pos 2)
    ]

-- A choice between two lists stays the same if the list that is chosen does.
same_choice : (t : Bool) (a b c d : List Shape) (p q : Bool) → elim t as (λ _. Bool) [ true ↦ p | false ↦ q ] ≡ true →
    (p ≡ true → a ≡ c) → (q ≡ true → b ≡ d) →
    elim t as (λ _. List Shape) [ true ↦ a | false ↦ b ] ≡ elim t as (λ _. List Shape) [ true ↦ c | false ↦ d ]
same_choice true a b c d p q h f g = f h
same_choice false a b c d p q h f g = g h

-- The upward half of a turn ends by this test.
abbrev up_ends : ℕ → ℕ → ℤ → ℤ → Bool
up_ends rows columns r c = int_lt (r -ℤ pos 2) (pos 0) || int_le (pos columns) (c +ℤ pos 2)

-- The downward half of a turn ends by this test.
abbrev down_ends : ℕ → ℕ → ℤ → ℤ → Bool
down_ends rows columns r c = int_le (pos rows) (r +ℤ pos 2) || int_lt (c -ℤ pos 2) (pos 0)

-- Once the turns have ended, further moves come by no more shapes.
pub comes_by-more : (k j rows columns : ℕ) (part : Part) (r c : ℤ) (more : ℕ) → j ≡ k + more →
    is_done k rows columns part r c ≡ true → comes_by j rows columns part r c ≡ comes_by k rows columns part r c
unfolding comes_by is_done
comes_by-more zero j rows columns part r c more e h = cc
comes_by-more (suc k) zero rows columns part r c more e h = absurd (omega arith)
comes_by-more (suc k) (suc j) rows columns Corner r c more e h =
    let f : j ≡ k + more = omega arith in
    same_choice (int_lt r (pos rows) || int_lt c (pos columns))
    (corner_of_turn rows columns r c ++ comes_by j rows columns Upwards r c) []
    (corner_of_turn rows columns r c ++ comes_by k rows columns Upwards r c) []
    (is_done k rows columns Upwards r c) true h
    (λ g. ap (λ (xs : List Shape). corner_of_turn rows columns r c ++ xs)
    (comes_by-more k j rows columns Upwards r c more f g)) (λ _. refl)
comes_by-more (suc k) (suc j) rows columns Upwards r c more e h =
    let f : j ≡ k + more = omega arith in
    ap (λ (xs : List Shape). inside_at rows columns r c ++ xs)
    (same_choice (up_ends rows columns r c)
    (comes_by j rows columns Downwards (r -ℤ pos 2 +ℤ pos 1) (c +ℤ pos 2 +ℤ pos 3))
    (comes_by j rows columns Upwards (r -ℤ pos 2) (c +ℤ pos 2))
    (comes_by k rows columns Downwards (r -ℤ pos 2 +ℤ pos 1) (c +ℤ pos 2 +ℤ pos 3))
    (comes_by k rows columns Upwards (r -ℤ pos 2) (c +ℤ pos 2))
    (is_done k rows columns Downwards (r -ℤ pos 2 +ℤ pos 1) (c +ℤ pos 2 +ℤ pos 3))
    (is_done k rows columns Upwards (r -ℤ pos 2) (c +ℤ pos 2)) h
    (λ g. comes_by-more k j rows columns Downwards (r -ℤ pos 2 +ℤ pos 1) (c +ℤ pos 2 +ℤ pos 3) more f g)
    (λ g. comes_by-more k j rows columns Upwards (r -ℤ pos 2) (c +ℤ pos 2) more f g))
comes_by-more (suc k) (suc j) rows columns Downwards r c more e h =
    let f : j ≡ k + more = omega arith in
    ap (λ (xs : List Shape). inside_at rows columns r c ++ xs)
    (same_choice (down_ends rows columns r c)
    (comes_by j rows columns Corner (r +ℤ pos 2 +ℤ pos 3) (c -ℤ pos 2 +ℤ pos 1))
    (comes_by j rows columns Downwards (r +ℤ pos 2) (c -ℤ pos 2))
    (comes_by k rows columns Corner (r +ℤ pos 2 +ℤ pos 3) (c -ℤ pos 2 +ℤ pos 1))
    (comes_by k rows columns Downwards (r +ℤ pos 2) (c -ℤ pos 2))
    (is_done k rows columns Corner (r +ℤ pos 2 +ℤ pos 3) (c -ℤ pos 2 +ℤ pos 1))
    (is_done k rows columns Downwards (r +ℤ pos 2) (c -ℤ pos 2)) h
    (λ g. comes_by-more k j rows columns Corner (r +ℤ pos 2 +ℤ pos 3) (c -ℤ pos 2 +ℤ pos 1) more f g)
    (λ g. comes_by-more k j rows columns Downwards (r +ℤ pos 2) (c -ℤ pos 2) more f g))

-- Once the turns have ended, further moves place no more shapes.
pub sweep-more : (rows columns more : ℕ) → is_done (rows * columns) rows columns Corner (pos 4) (pos 0) ≡ true →
    sweep_within (rows * columns + more) rows columns ≡ sweep rows columns
unfolding sweep_within
sweep-more rows columns more h =
    ap (placed rows columns (nothing_filled rows))
    (comes_by-more (rows * columns) (rows * columns + more) rows columns Corner (pos 4) (pos 0) more refl h)
