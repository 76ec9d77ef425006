-- Marks in order stay so.
use Rattle.dm_words.proofs.Names.{ℕ, ◌≤◌, List, [], ◌∷◌, ◌++◌, arith}
use Rattle.dm_words.proofs.Names.{Mark, most_assigned, AreMarks}

-- Marks in order are so with more items behind them.
pub more_items : (least most more : ℕ) (marks : List Mark) → AreMarks least most marks → most ≤ more
    → AreMarks least more marks
more_items least most more [] are le = omega arith
more_items least most more (m ∷ marks) are le = (are.0, are.1, more_items m.place most more marks are.2 le)

-- Marks in order are so with one more at the last place.
pub one_more : (least most number : ℕ) (marks : List Mark) → AreMarks least most marks → number ≤ most_assigned
    → AreMarks least most (marks ++ record { place = most; number = number } ∷ [])
one_more least most number [] are le = (are, le, omega arith)
one_more least most number (m ∷ marks) are le = (are.0, are.1, one_more m.place most number marks are.2 le)

-- Marks in order are so from a lower first place on.
pub lower : (least low most : ℕ) (marks : List Mark) → AreMarks least most marks → low ≤ least → AreMarks low most marks
lower least low most [] are le = omega arith
lower least low most (m ∷ marks) are le = (omega (arith, are.0), are.1, are.2)
