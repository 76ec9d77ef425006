-- The smallest size that is large enough.
use Rattle.dm_layout.proofs.Names.{nat_tests, ◌≡◌, ℕ, ◌<◌, ◌≤◌, Bool, true, false, cond, not, ◌&&◌, ◌||◌, nat_eq}
use Rattle.dm_layout.proofs.Names.{nat_le, List, [], ◌∷◌, Option, Some, None, refl, sym, ◌∙◌, ap, arith, eq-eqb, All}
use Rattle.dm_layout.proofs.Names.{IfSome, IfNone, find, AllByRecursion, list_all, and_parts, leb-true, leb-false}
use Rattle.dm_layout.proofs.Names.{le-leb, All-from_recursion, recursion_from_All, AllPass-from_list_all, SizeChoice}
use Rattle.dm_layout.proofs.Names.{SizeEntry, takes, entry_for, area, size_table}
use Rattle.dm_layout.proofs.symbols.TableEntries.{found_none, found_passes}

-- A size is at most as large as another: it has fewer modules, or as many and at most as many columns.
pub record NoLarger (size other : SizeEntry) : Type 0 where
  pub fewer : area size ≤ area other
  pub narrower : area size ≡ area other → size.columns ≤ other.columns

-- The test of it.
abbrev is_no_larger : SizeEntry → SizeEntry → Bool
is_no_larger size other =
    nat_le (area size) (area other) && (not (nat_eq (area size) (area other)) || nat_le size.columns other.columns)

-- A size that passes the test is no larger.
no_larger : (size other : SizeEntry) → is_no_larger size other ≡ true → NoLarger size other
no_larger size other h =
    let both =
    and_parts (nat_le (area size) (area other)) (not (nat_eq (area size) (area other))
    || nat_le size.columns other.columns) h in
    record {
      fewer = leb-true _ _ both.0;
      narrower =
          λ e. leb-true _ _ (cc (eq-eqb (area size) (area other) e, both.1));
    }

-- Each of these items is related to those behind it.
abbrev pub Rises : {X : Type 0} → (X → X → Type 0) → List X → Type 0
Rises R [] = Unit {0}
Rises R (r ∷ items) = AllByRecursion (R r) items × Rises R items

-- The test of it, by a test of the relation.
abbrev pub rises : {X : Type 0} → (X → X → Bool) → List X → Bool
rises test [] = true
rises test (r ∷ items) = list_all (test r) items && rises test items

-- What is so for each item of a list is so for each in a weaker form.
pub weaker_all : {X : Type 0} (P Q : X → Type 0) → ((s : X) → P s → Q s) → (items : List X) → AllByRecursion P items →
    AllByRecursion Q items
weaker_all P Q f [] h = tt
weaker_all P Q f (s ∷ items) h = (f s h.0, weaker_all P Q f items h.1)

-- Items that pass the test rise.
pub rises_test : {X : Type 0} (R : X → X → Type 0) (test : X → X → Bool) →
    ((r s : X) → test r s ≡ true → R r s) → (items : List X) → rises test items ≡ true → Rises R items
rises_test R test told [] h = tt
rises_test R test told (r ∷ items) h =
    let b = and_parts (list_all (test r) items) (rises test items) h in (
      weaker_all (λ s. test r s ≡ true) (R r) (told r) items
          (recursion_from_All _ items (AllPass-from_list_all (test r) items b.0)),
      rises_test R test told items b.1,
    )

-- The sizes of the table rise.
table_rises : Rises NoLarger size_table
unfolding size_table
table_rises = rises_test NoLarger is_no_larger no_larger size_table refl

-- The first item that passes a test is related to any other that does.
pub found_first : {X : Type 0} (R : X → X → Type 0) → ((r : X) → R r r) → (p : X → Bool) (items : List X) (x : X) →
    Rises R items → find p items ≡ Some x → AllByRecursion (λ other. p other ≡ true → R x other) items
found_first R itself p [] x h e = tt
found_first R itself p (r ∷ items) x h e = first_case (p r) refl e (found_first R itself p items x h.1)
  where
    differ : (b : Bool) → b ≡ false → b ≡ true → R x r
    differ b u v = cc

    first_case : (b : Bool) → p r ≡ b → cond b (Some r) (find p items) ≡ Some x →
        (find p items ≡ Some x → AllByRecursion (λ other. p other ≡ true → R x other) items) →
        AllByRecursion (λ other. p other ≡ true → R x other) (r ∷ items)
    first_case y t e later = grind (arith, nat_tests, itself, weaker_all, differ)

-- A size is no larger than itself.
no_larger_itself : (size : SizeEntry) → NoLarger size size
no_larger_itself size = record { fewer = omega arith; narrower = λ _. omega arith }

-- A size that the choice takes and that has enough data codewords passes the test of both.
passes_both : (choice : SizeChoice) (count : ℕ) (other : SizeEntry) → takes choice other ≡ true →
    count ≤ other.data_count → (takes choice other && nat_le count other.data_count) ≡ true
passes_both choice count other t l = ap (λ b. b && nat_le count other.data_count) t ∙ le-leb count other.data_count l

-- The size that `entry_for` gives is taken by the choice.
pub chosen : (choice : SizeChoice) (count : ℕ) (o : Option SizeEntry) → o ≡ entry_for choice count →
    IfSome o (λ size. takes choice size ≡ true)
chosen choice count None e = tt
chosen choice count (Some size) e =
    (and_parts _ _ (found_passes (λ size. takes choice size && nat_le count size.data_count) size_table size (sym e))).0

-- It has enough data codewords.
pub enough : (choice : SizeChoice) (count : ℕ) (o : Option SizeEntry) → o ≡ entry_for choice count →
    IfSome o (λ size. count ≤ size.data_count)
enough choice count None e = tt
enough choice count (Some size) e =
    leb-true _ _ (and_parts (takes choice size) (nat_le count size.data_count)
    (found_passes (λ size. takes choice size && nat_le count size.data_count) size_table size (sym e))).1

-- No other such size has fewer modules.
pub smallest : (choice : SizeChoice) (count : ℕ) (o : Option SizeEntry) → o ≡ entry_for choice count →
    IfSome o (λ size. All (λ other. takes choice other ≡ true → count ≤ other.data_count →
    area size ≤ area other) size_table)
smallest choice count None e = tt
smallest choice count (Some size) e =
    All-from_recursion (λ other. takes choice other ≡ true → count ≤ other.data_count →
    area size ≤ area other) size_table
    (weaker_all (λ other. (takes choice other && nat_le count other.data_count) ≡ true →
    NoLarger size other) _ (λ other f t l. (f (passes_both choice count other t l)).fewer) size_table
    (found_first NoLarger no_larger_itself (λ size. takes choice size && nat_le count size.data_count) size_table size
    table_rises (sym e)))

-- No other such size with as many modules has fewer columns.
pub narrowest : (choice : SizeChoice) (count : ℕ) (o : Option SizeEntry) → o ≡ entry_for choice count →
    IfSome o (λ size. All (λ other. takes choice other ≡ true → count ≤ other.data_count → area size ≡ area other →
    size.columns ≤ other.columns) size_table)
narrowest choice count None e = tt
narrowest choice count (Some size) e =
    All-from_recursion (λ other. takes choice other ≡ true → count ≤ other.data_count → area size ≡ area other →
    size.columns ≤ other.columns) size_table
    (weaker_all (λ other. (takes choice other && nat_le count other.data_count) ≡ true →
    NoLarger size other) _ (λ other f t l. (f (passes_both choice count other t l)).narrower) size_table
    (found_first NoLarger no_larger_itself (λ size. takes choice size && nat_le count size.data_count) size_table size
    table_rises (sym e)))

-- Where there is none, all sizes that the choice takes have too few data codewords.
pub none_enough : (choice : SizeChoice) (count : ℕ) (o : Option SizeEntry) → o ≡ entry_for choice count →
    IfNone o (All (λ other. takes choice other ≡ true → other.data_count < count) size_table)
none_enough choice count (Some size) e = tt
none_enough choice count None e =
    All-from_recursion (λ other. takes choice other ≡ true → other.data_count < count) size_table
    (weaker_all (λ other. (takes choice other && nat_le count other.data_count) ≡ false) _
    (λ other f t. leb-false _ _ (sym (ap (λ b. b && nat_le count other.data_count) t) ∙ f)) size_table
    (found_none (λ size. takes choice size && nat_le count size.data_count) size_table (sym e)))
