-- Border faults, counted one after the other.
use Rattle.dm_layout.proofs.Names.{nat_tests, ◌≡◌, ℕ, zero, suc, ◌+◌, ◌<◌, ◌≤◌, Bool, false, cond, ◌∙◌, ap, arith}
use Rattle.dm_layout.proofs.Names.{count_by, sum_by, range_with_len, sum_by_push, range-append}

-- The sum over one more number has its summand more.
pub sum_more : (f : ℕ → ℕ) (n : ℕ) → sum_by f (range_with_len 0 (n + 1)) ≡ sum_by f (range_with_len 0 n) + f n
sum_more f n = grind (arith, nat_tests, range-append, sum_by_push)

-- Of one more number, one more or as many pass a test.
pub count_more : (p : ℕ → Bool) (n : ℕ) → count_by p (range_with_len 0 (n + 1)) ≡
    count_by p (range_with_len 0 n) + cond (p n) 1 0
count_more p n = sum_more (λ (k : ℕ). cond (p k) 1 0) n

-- A number that passes a test counts 1, and another one 0.
abbrev pub one_if : Bool → ℕ
one_if b = cond b 1 0

-- Numbers that pass no test add nothing.
pub count_none : (p : ℕ → Bool) (n k : ℕ) → ((c : ℕ) → n ≤ c → c < n + k → p c ≡ false) →
    count_by p (range_with_len 0 (n + k)) ≡ count_by p (range_with_len 0 n)
count_none p n zero none = let e : n + 0 ≡ n = omega arith in ap (λ (j : ℕ). count_by p (range_with_len 0 j)) e
count_none p n (suc k) none =
    let e : n + suc k ≡ n + k + 1 = omega arith in
    let more : count_by p (range_with_len 0 (n + k + 1)) ≡ count_by p (range_with_len 0 (n + k)) + one_if (p (n + k)) =
    count_more p (n + k) in
    let last : one_if (p (n + k)) ≡ 0 = ap one_if (none (n + k) (omega arith) (omega arith)) in
    let before : count_by p (range_with_len 0 (n + k)) ≡ count_by p (range_with_len 0 n) =
    count_none p n k (λ c a b. none c a (omega (arith, b))) in
    ap (λ (j : ℕ). count_by p (range_with_len 0 j)) e ∙ omega (arith, more, last, before)
