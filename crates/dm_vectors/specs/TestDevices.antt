-- Steps of the laws of what the source and the sink of the tests tell.
use Rattle.std.specs.Prelude.{◌≡◌, ◌≤◌, ◌<◌, ◌+◌, ℕ, List, ◌++◌, length}
use Rattle.std.proofs.Common.{◌∙◌, sym, ap, subst, append_assoc, add_assoc, add-le-add, le-add_right, le_refl, le_trans}
use Rattle.std.proofs.Common.{length-append, lt_of_le_of_lt}

-- Where at most `count` bytes were given, n further ones end within k if
-- `count` and n together, counted from before, do.
pub place_within : (before after count n most k : ℕ) → after ≤ before + count → count + n ≤ most → before + most ≤ k →
    after + n ≤ k
place_within before after count n most k given within place =
    let far : before + count + n ≤ before + most =
    subst (λ m. m ≤ before + most) (sym (add_assoc before count n)) (add-le-add (le_refl before) within) in
    le_trans (add-le-add given (le_refl n)) (le_trans far place)

-- Fewer bytes reach no further.
pub place_before : (given m most k : ℕ) → m ≤ most → given + most ≤ k → given + m ≤ k
place_before given m most k fewer place = le_trans (add-le-add (le_refl given) fewer) place

-- A count that grows by at most one list and then by at most another grows by at most the two joined.
pub given_joined : (a b c : ℕ) (x y : List ℕ) → b ≤ a + length x → c ≤ b + length y → c ≤ a + length (x ++ y)
given_joined a b c x y p q =
    subst (λ n. c ≤ n) (add_assoc a (length x) (length y) ∙ ap (λ n. a + n) (sym (length-append x y)))
    (le_trans q (add-le-add p (le_refl (length y))))

-- A prefix of a list of fewer than four items has fewer than four itself.
shorter : (a b c : List ℕ) → c ≡ a ++ b → length c < 4 → length a < 4
shorter a b c e few =
    lt_of_le_of_lt (subst (λ n. length a ≤ n) (sym (ap length e ∙ length-append a b))
    (le-add_right (length a) (length b))) few

-- Flushes that are noted in two steps are noted together, as long as they are few.
pub kept_joined : (a b c x y : List ℕ) → (length b < 4 → b ≡ a ++ x) → (length c < 4 → c ≡ b ++ y) → length c < 4 →
    c ≡ a ++ (x ++ y)
kept_joined a b c x y first then few =
    let e = then few in
    e ∙ ap (λ l. l ++ y) (first (shorter b y c e few)) ∙ append_assoc a x y
