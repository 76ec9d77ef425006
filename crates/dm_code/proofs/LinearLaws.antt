-- One column of elimination.
use Rattle.std.proofs.Common.{◌≡◌, ℕ, zero, suc, ◌+◌, ◌-◌, ◌<◌, ◌≤◌, List, length, Option, Some, None, IfSome, IfNone}
use Rattle.std.proofs.Common.{refl, sym, ap, subst, ◌∙◌, arith, bit_xor}
use lib.Bits.{xor_self, xor_zero_r}
use Rattle.gf301.specs.Field.{◌⊕◌, ◌⊗◌}
use Rattle.gf301.specs.Polynomial.{coefficient}
use Rattle.dm_code.specs.declared.limits.TheConstants.{MOST_ERRORS, MOST_COEFFICIENTS}
use Rattle.dm_code.specs.inner.LinearSystem.{dot, row, Solves, Unsolvable}
use Rattle.gf301.proofs.Exported.{xor_swap, product_sum_left, product_sum_right, product_assoc, product_comm}
use Rattle.gf301.proofs.Exported.{product_at_zero, product_zero_right, product_one_left, product_one_right}
use Rattle.gf301.proofs.Exported.{product_one_middle, product_below, sum_below}

-- The rows are reduced when a multiple of the pivot row g has been added to each, y being the inverse of its
-- coefficient at c.
pub record Reduced (rows less : List (List ℕ)) (g : ℕ → ℕ) (y c : ℕ) : Type 0 where
  pub one : g c ⊗ y ≡ 1
  pub long : length less ≡ length rows
  pub each : (k : ℕ) → k < length rows → (j : ℕ) → row less k j ≡ row rows k j ⊕ (row rows k c ⊗ y) ⊗ g j

-- A sum of rows takes the sum of their products with the unknowns.
dot_sum : (f g v : ℕ → ℕ) (c n : ℕ) → dot (λ j. f j ⊕ g j) v c n ≡ dot f v c n ⊕ dot g v c n
unfolding dot
dot_sum f g v c zero = refl
dot_sum f g v c (suc n) =
    ap (λ y. y ⊕ dot (λ j. f j ⊕ g j) v (suc c) n) (product_sum_left (f c) (g c) (v c))
    ∙ ap (bit_xor (f c ⊗ v c ⊕ g c ⊗ v c)) (dot_sum f g v (suc c) n)
    ∙ xor_swap (f c ⊗ v c) (g c ⊗ v c) (dot f v (suc c) n) (dot g v (suc c) n)

-- A multiple of a row takes the multiple of its products with the unknowns.
dot_scale : (x : ℕ) (f v : ℕ → ℕ) (c n : ℕ) → dot (λ j. x ⊗ f j) v c n ≡ x ⊗ dot f v c n
unfolding dot
dot_scale x f v c zero = sym (product_zero_right x)
dot_scale x f v c (suc n) =
    ap (λ y. y ⊕ dot (λ j. x ⊗ f j) v (suc c) n) (product_assoc x (f c) (v c))
    ∙ ap (bit_xor (x ⊗ (f c ⊗ v c))) (dot_scale x f v (suc c) n)
    ∙ sym (product_sum_right x (f c ⊗ v c) (dot f v (suc c) n))

-- Rows and unknowns that are the same from c on have the same sum of products.
pub dot_same : (f g v u : ℕ → ℕ) (c n : ℕ) → ((j : ℕ) → c ≤ j → f j ≡ g j) → ((j : ℕ) → c ≤ j → v j ≡ u j) →
    dot f v c n ≡ dot g u c n
unfolding dot
dot_same f g v u c zero h k = refl
dot_same f g v u c (suc n) h k =
    ap (λ y. y ⊗ v c ⊕ dot f v (suc c) n) (h c (omega arith))
    ∙ ap (λ y. g c ⊗ y ⊕ dot f v (suc c) n) (k c (omega arith))
    ∙ ap (bit_xor (g c ⊗ u c)) (dot_same f g v u (suc c) n (λ j l. h j (omega arith)) (λ j l. k j (omega arith)))

-- A first product that is 0 can be left out.
dot_head : (f v : ℕ → ℕ) (c n : ℕ) → f c ⊗ v c ≡ 0 → dot f v c (suc n) ≡ dot f v (suc c) n
unfolding dot
dot_head f v c n e = ap (λ y. y ⊕ dot f v (suc c) n) e

-- The sum of products is a byte.
dot_below : (f v : ℕ → ℕ) (c n : ℕ) → dot f v c n < 256
unfolding dot
dot_below f v c zero = omega arith
dot_below f v c (suc n) =
    sum_below (f c ⊗ v c) (dot f v (suc c) n) (product_below (f c) (v c)) (dot_below f v (suc c) n)

-- The sum over n + 1 places is the first product plus the sum over the n places after it.
dot_more : (f v : ℕ → ℕ) (c n : ℕ) → dot f v c (suc n) ≡ f c ⊗ v c ⊕ dot f v (suc c) n
unfolding dot
dot_more f v c n = refl

-- The coefficient of the unknown c in a reduced row is 0.
reduced_head : (rows less : List (List ℕ)) (g : ℕ → ℕ) (y c : ℕ) → Reduced rows less g y c → (k : ℕ) → k < length rows →
    (x : ℕ) → row less k c ⊗ x ≡ 0
reduced_head rows less g y c r k h x =
    let f = row rows k c in
    ap (λ z. z ⊗ x) (r.each k h c) ∙ product_sum_left f ((f ⊗ y) ⊗ g c) x
    ∙ ap (bit_xor (f ⊗ x)) (ap (λ z. z ⊗ x) (product_assoc f y (g c) ∙ ap (λ z. f ⊗ z) (product_comm y (g c) ∙ r.one))
    ∙ product_assoc f 1 x ∙ product_one_middle f x)
    ∙ xor_self (f ⊗ x)

-- A reduced row is the row plus a multiple of the pivot row.
reduced_dot : (rows less : List (List ℕ)) (g v : ℕ → ℕ) (y c n : ℕ) → Reduced rows less g y c → (k : ℕ) →
    k < length rows
    → dot (row less k) v (suc c) n ≡ dot (row rows k) v c (suc n) ⊕ (row rows k c ⊗ y) ⊗ dot g v c (suc n)
reduced_dot rows less g v y c n r k h =
    let z = row rows k c ⊗ y in
    sym (dot_head (row less k) v c n (reduced_head rows less g y c r k h (v c)))
    ∙ dot_same (row less k) (λ j. row rows k j ⊕ z ⊗ g j) v v c (suc n) (λ j l. r.each k h j) (λ j l. refl)
    ∙ dot_sum (row rows k) (λ j. z ⊗ g j) v c (suc n)
    ∙ ap (bit_xor (dot (row rows k) v c (suc n))) (dot_scale z g v c (suc n))

-- A solution of the rows solves the reduced rows.
pub solves_reduced : (rows less : List (List ℕ)) (p y c n : ℕ) (v : ℕ → ℕ) → p < length rows →
    Reduced rows less (row rows p) y c → Solves rows c (suc n) v → Solves less (suc c) n v
solves_reduced rows less p y c n v l r s = record {
  last = ap v (let e : suc c + n ≡ c + suc n = omega arith in e) ∙ s.last;
  each = λ k h.
      let m : k < length rows = omega (arith, r.long) in
      let z = row rows k c ⊗ y in
      reduced_dot rows less (row rows p) v y c (suc n) r k m
      ∙ ap (λ x. x ⊕ z ⊗ dot (row rows p) v c (suc (suc n))) (s.each k m)
      ∙ ap (λ x. z ⊗ x) (s.each p l) ∙ product_zero_right z;
}

-- A solution of the reduced rows gives one of the rows.
pub solves_back : (rows less : List (List ℕ)) (p y c n : ℕ) (v u : ℕ → ℕ) → p < length rows →
    Reduced rows less (row rows p) y c → Solves less (suc c) n v
    → ((j : ℕ) → suc c ≤ j → u j ≡ v j) → u c ≡ y ⊗ dot (row rows p) v (suc c) (suc n) →
    dot (row rows p) v (suc c) (suc n) < 256 → Solves rows c (suc n) u
solves_back rows less p y c n v u l r s h e b =
    let g = row rows p in
    let d = dot g v (suc c) (suc n) in
    let pivot : dot g u c (suc (suc n)) ≡ 0 =
    dot_more g u c (suc n)
    ∙ ap (λ x. g c ⊗ u c ⊕ x) (dot_same g g u v (suc c) (suc n) (λ j q. refl) h)
    ∙ ap (λ x. g c ⊗ x ⊕ d) e ∙ ap (λ x. x ⊕ d) (sym (product_assoc (g c) y d) ∙ ap (λ x. x ⊗ d) r.one
    ∙ product_one_left d b) ∙ xor_self d in
    record {
      last = h (c + suc n) (omega arith) ∙ ap v (let q : c + suc n ≡ suc c + n = omega arith in q) ∙ s.last;
      each = λ k m.
          let z = row rows k c ⊗ y in
          sym (xor_zero_r (dot (row rows k) u c (suc (suc n))))
          ∙ ap (bit_xor (dot (row rows k) u c (suc (suc n)))) (sym (ap (λ x. z ⊗ x) pivot ∙ product_zero_right z))
          ∙ sym (reduced_dot rows less g u y c (suc n) r k m)
          ∙ dot_same (row less k) (row less k) u v (suc c) (suc n) (λ j q. refl) h ∙ s.each k (omega (arith, r.long));
    }

-- Where the column c is 0 in each row, a solution from c on is one from c + 1 on.
pub solves_later : (rows : List (List ℕ)) (c n : ℕ) (v : ℕ → ℕ) → ((k : ℕ) → k < length rows → row rows k c ≡ 0) →
    Solves rows c (suc n) v → Solves rows (suc c) n v
solves_later rows c n v z s = record {
  last = ap v (let e : suc c + n ≡ c + suc n = omega arith in e) ∙ s.last;
  each = λ k h. sym (dot_head (row rows k) v c (suc n) (product_at_zero (row rows k c) (v c) (z k h))) ∙ s.each k h;
}

-- Where the column c is 0 in each row, a solution from c + 1 on is one from c on, whatever its unknown c is.
pub solves_sooner : (rows : List (List ℕ)) (c n : ℕ) (v : ℕ → ℕ) → ((k : ℕ) → k < length rows → row rows k c ≡ 0) →
    Solves rows (suc c) n v → Solves rows c (suc n) v
solves_sooner rows c n v z s = record {
  last = ap v (let e : c + suc n ≡ suc c + n = omega arith in e) ∙ s.last;
  each = λ k h. dot_head (row rows k) v c (suc n) (product_at_zero (row rows k c) (v c) (z k h)) ∙ s.each k h;
}

-- The sum over m places from c on is the first product plus the sum from the next place on.
pub dot_step : (f v : ℕ → ℕ) (c n d m : ℕ) → d ≡ suc c → m ≡ suc n → dot f v c m ≡ f c ⊗ v c ⊕ dot f v d n
dot_step f v c n d m e q = ap (dot f v c) q ∙ dot_more f v c n ∙ ap (λ x. f c ⊗ v c ⊕ dot f v x n) (sym e)

-- ---- the last column
-- The product with the last unknown, which is 1, is the coefficient times 1.
last_dot : (f v : ℕ → ℕ) (c : ℕ) → v c ≡ 1 → dot f v c 1 ≡ f c ⊗ 1
unfolding dot
last_dot f v c e = xor_zero_r (f c ⊗ v c) ∙ ap (λ x. f c ⊗ x) e

-- Rows that are 0 in the last column are solved by any unknowns of which the last is 1.
pub solves_last : (rows : List (List ℕ)) (c : ℕ) (v : ℕ → ℕ) → v c ≡ 1 →
    ((k : ℕ) → k < length rows → row rows k c ≡ 0) → Solves rows c 0 v
solves_last rows c v e z = record {
  last = ap v (let q : c + 0 ≡ c = omega arith in q) ∙ e;
  each = λ k h. last_dot (row rows k) v c e ∙ product_at_zero (row rows k c) 1 (z k h);
}

-- Rows of which one is not 0 in the last column have no solution.
pub last_pivot : (rows : List (List ℕ)) (c p : ℕ) (v : ℕ → ℕ) → p < length rows → 0 < row rows p c →
    row rows p c < 256 → Solves rows c 0 v → ⊥
last_pivot rows c p v h l b s =
    let z : row rows p c ≡ 0 =
    sym (product_one_right (row rows p c) b) ∙ sym
    (last_dot (row rows p) v c (ap v (let q : c ≡ c + 0 = omega arith in q) ∙ s.last)) ∙ s.each p h in
    omega arith

-- ---- the same with numbers that are equal by arithmetic
-- A solution is still one when its place and its count are given by other, equal numbers.
solves_at : (rows : List (List ℕ)) (c d m n : ℕ) (v : ℕ → ℕ) → c ≡ d → m ≡ n → Solves rows c m v → Solves rows d n v
solves_at rows c d m n v e q s = subst (λ x. Solves rows d x v) q (subst (λ x. Solves rows x m v) e s)

-- A solution in the unknowns from c on is one of the reduced rows in those after c.
pub column_down : (rows less kept : List (List ℕ)) (p y c : ℕ) (v : ℕ → ℕ) → c < MOST_ERRORS → p < length rows →
    Reduced rows less (row rows p) y c → kept ≡ less → Solves rows c (MOST_ERRORS - c) v →
    Solves kept (c + 1) (MOST_ERRORS - (c + 1)) v
column_down rows less kept p y c v h l r k s =
    subst (λ x. Solves x (c + 1) (MOST_ERRORS - (c + 1)) v) (sym k)
    (solves_at less (suc c) (c + 1) (MOST_ERRORS - suc c) (MOST_ERRORS - (c + 1)) v (omega arith) (omega arith)
    (solves_reduced rows less p y c (MOST_ERRORS - suc c) v l r
    (solves_at rows c c (MOST_ERRORS - c) (suc (MOST_ERRORS - suc c)) v refl (omega arith) s)))

-- A solution of the reduced rows in the unknowns after c gives one of the rows in those from c on.
pub column_up : (rows less kept : List (List ℕ)) (p y c : ℕ) (v u : ℕ → ℕ) → c < MOST_ERRORS → p < length rows →
    Reduced rows less (row rows p) y c → kept ≡ less → Solves kept (c + 1) (MOST_ERRORS - (c + 1)) v
    → ((j : ℕ) → c < j → u j ≡ v j) → u c ≡ y ⊗ dot (row rows p) v (c + 1) (MOST_COEFFICIENTS - (c + 1)) →
    Solves rows c (MOST_ERRORS - c) u
column_up rows less kept p y c v u h l r k s o e =
    let z : dot (row rows p) v (c + 1) (MOST_COEFFICIENTS - (c + 1)) ≡
    dot (row rows p) v (suc c) (suc (MOST_ERRORS - suc c)) =
    ap (λ x. dot (row rows p) v x (MOST_COEFFICIENTS - (c + 1))) (let q : c + 1 ≡ suc c = omega arith in q)
    ∙ ap (dot (row rows p) v (suc c)) (let q : MOST_COEFFICIENTS - (c + 1) ≡ suc (MOST_ERRORS - suc c) =
    omega arith in q) in
    solves_at rows c c (suc (MOST_ERRORS - suc c)) (MOST_ERRORS - c) u refl (omega arith)
    (solves_back rows less p y c (MOST_ERRORS - suc c) v u l r
    (solves_at less (c + 1) (suc c) (MOST_ERRORS - (c + 1)) (MOST_ERRORS - suc c) v (omega arith) (omega arith)
    (subst (λ x. Solves x (c + 1) (MOST_ERRORS - (c + 1)) v) k s))
    o (e ∙ ap (λ x. y ⊗ x) z) (dot_below (row rows p) v (suc c) (suc (MOST_ERRORS - suc c))))

-- Where the column c is 0 in each row, a solution in the unknowns from c on is one in those after c.
pub free_down : (rows : List (List ℕ)) (c : ℕ) (v : ℕ → ℕ) → c < MOST_ERRORS →
    ((k : ℕ) → k < length rows → row rows k c ≡ 0) → Solves rows c (MOST_ERRORS - c) v →
    Solves rows (c + 1) (MOST_ERRORS - (c + 1)) v
free_down rows c v h z s =
    solves_at rows (suc c) (c + 1) (MOST_ERRORS - suc c) (MOST_ERRORS - (c + 1)) v (omega arith) (omega arith)
    (solves_later rows c (MOST_ERRORS - suc c) v z
    (solves_at rows c c (MOST_ERRORS - c) (suc (MOST_ERRORS - suc c)) v refl (omega arith) s))

-- Where the column c is 0 in each row, a solution in the unknowns after c is one in those from c on.
pub free_up : (rows : List (List ℕ)) (c : ℕ) (v : ℕ → ℕ) → c < MOST_ERRORS →
    ((k : ℕ) → k < length rows → row rows k c ≡ 0) → Solves rows (c + 1) (MOST_ERRORS - (c + 1)) v →
    Solves rows c (MOST_ERRORS - c) v
free_up rows c v h z s =
    solves_at rows c c (suc (MOST_ERRORS - suc c)) (MOST_ERRORS - c) v refl (omega arith)
    (solves_sooner rows c (MOST_ERRORS - suc c) v z
    (solves_at rows (c + 1) (suc c) (MOST_ERRORS - (c + 1)) (MOST_ERRORS - suc c) v (omega arith) (omega arith) s))

-- Where the column c is 0 in each row, a result with a solution in the unknowns after c is right for those from c on.
pub free_some : (rows : List (List ℕ)) (c : ℕ) (o : Option (List ℕ)) → c < MOST_ERRORS →
    ((k : ℕ) → k < length rows → row rows k c ≡ 0)
    → IfSome o (λ v. Solves rows (c + 1) (MOST_ERRORS - (c + 1)) (coefficient v)) →
    IfSome o (λ v. Solves rows c (MOST_ERRORS - c) (coefficient v))
free_some rows c (Some v) h z m = free_up rows c (coefficient v) h z m
free_some rows c None h z m = tt

-- Where the column c is 0 in each row, a result that there is no solution in the unknowns after c is right for those
-- from c on.
pub free_none : (rows : List (List ℕ)) (c : ℕ) (o : Option (List ℕ)) → c < MOST_ERRORS →
    ((k : ℕ) → k < length rows → row rows k c ≡ 0)
    → IfNone o (Unsolvable rows (c + 1) (MOST_ERRORS - (c + 1))) → IfNone o (Unsolvable rows c (MOST_ERRORS - c))
free_none rows c (Some v) h z m = tt
free_none rows c None h z m = λ v s. m v (free_down rows c v h z s)
