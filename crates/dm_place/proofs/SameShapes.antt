-- A test that two lists of shapes are the same. It is cheaper to compute than the equation.
use Rattle.std.proofs.Common.{arith, ◌≡◌, ℕ, zero, suc, Bool, true, nat_eq, List, [], ◌∷◌, ap, sym, ◌∙◌}
use Rattle.std.proofs.lemmas.Bool.Decides.{nat_tests}
use Rattle.std.specs.Cmp.Lexicographic.{pointwise, same_text}
use Rattle.dm_place.specs.declared.shape.Shape.{Shape}
use Rattle.dm_place.specs.declared.shape.Shape.TheVariants.{Standard, Corner1, Corner2, Corner3, Corner4}

-- The numbers of a shape are the row and the column of its anchor, or the number of its corner less 1.
abbrev pub numbers_of : Shape → List ℕ
numbers_of (Standard r c) = r ∷ c ∷ []
numbers_of Corner1 = 0 ∷ []
numbers_of Corner2 = 1 ∷ []
numbers_of Corner3 = 2 ∷ []
numbers_of Corner4 = 3 ∷ []

-- The shape that these numbers stand for.
abbrev shape_of : List ℕ → Shape
shape_of [] = Corner1
shape_of (zero ∷ []) = Corner1
shape_of (suc zero ∷ []) = Corner2
shape_of (suc (suc zero) ∷ []) = Corner3
shape_of (suc (suc (suc k)) ∷ []) = Corner4
shape_of (r ∷ c ∷ rest) = Standard r c

-- A shape is found again from its numbers.
shape_again : (x : Shape) → shape_of (numbers_of x) ≡ x
shape_again x = grind (arith, nat_tests)

-- Two shapes pass this test if their numbers agree.
abbrev pub same_shape : Shape → Shape → Bool
same_shape x y = pointwise nat_eq (numbers_of x) (numbers_of y)

-- Shapes whose numbers agree are equal.
pub shape_equal : (x y : Shape) → same_shape x y ≡ true → x ≡ y
shape_equal x y h = sym (shape_again x) ∙ ap shape_of (same_text (numbers_of x) (numbers_of y) (sym h)) ∙ shape_again y
