-- The words that are written for a content are the smallest that say it; and how far they are determined.
use Rattle.dm_words.proofs.Names.{◌≡◌, ◌∙◌, ℕ, ◌*◌, ◌<◌, ◌≤◌, List, length, sym, ap, subst, arith, inl, inr, cases_lt}
use Rattle.dm_words.proofs.Names.{true, false, nat_eq, ◌&&◌, All, recursion_from_All, Ok, Err, TooLong, SizeChoice}
use Rattle.dm_words.proofs.Names.{SizeEntry, IsSize, area, Extent, Usual, Wide, Item, Ascii, ContentView, Says}
use Rattle.dm_words.proofs.Names.{Spells, as_content, content_form, padded, FramesNoFnc1, IsTaken, IsSmaller, at_end}
use Rattle.dm_words.proofs.Names.{parts_cost, IsSmallestContentResult, is_plain, never, nat_tests}
use Rattle.dm_layout.specs.symbols.Sizes.{size_table, takes}
use Rattle.dm_layout.proofs.symbols.Exported.{at_found, same_size, size_facts}
use Rattle.dm_words.specs.Smallest.{IsPlainestContent}
use Rattle.dm_words.specs.inner.Ways.{AreWritten}
use Rattle.std.proofs.Math.Nat.{eq_of_mul-eq-mul_right}
use Rattle.dm_words.proofs.PadWords.{length-padded}
use Rattle.dm_words.proofs.MessageReadings.{usual_plain}
use Rattle.dm_words.proofs.ContentParts.{not_wide}
use Rattle.dm_words.proofs.ContentBounds.{no_fewer_words}
use Rattle.dm_words.proofs.Extents.{usual_no_frame}

-- ---- what is written

-- What is written in the usual extent is written in each.
pub wider : (extent : Extent) (words : List ℕ) (l : ContentView) → AreWritten Usual words l → AreWritten extent words l
wider Usual words l w = w
wider Wide words l w = record { says = w.wide; wide = w.wide; form = w.form }

-- Words are the plainest if they are the ASCII form where there is room for that, and are said in the usual extent
-- where some are.
pub plainest : (l : ContentView) (words : List ℕ) (count : ℕ) → length words ≤ count
    → (length (content_form Ascii l) ≤ count → words ≡ content_form Ascii l)
    → ((other : List ℕ) → length other ≡ count → Says Usual other l → Says Usual (padded words count) l)
    → IsPlainestContent (padded words count) l
plainest l words count fits ascii usual = grind (arith, nat_tests, padded, length-padded, content_form)

-- No words that spell a message in the usual extent are fewer than the cost of its parts.
pub usual_few : (words : List ℕ) (m : List Item) → 2 * length m ≤ never → Spells Usual words m
    → parts_cost (at_end Usual) m ≤ length words
usual_few words m few s =
    no_fewer_words Usual words m (parts_cost (at_end Usual) m) few
    (record { parts = omega arith; macros = λ word digit text wide k e no_fnc1. absurd (not_wide wide) })
    (λ frames. usual_no_frame words (as_content m) s) s

-- ---- the size

-- What is so for each size of the table is so for a size that stands in it.
at_size : (P : SizeEntry → Type 0) (size : SizeEntry) → IsSize size → All P size_table → P size
at_size P size is all =
    at_found P (λ r. nat_eq r.rows size.rows && nat_eq r.columns size.columns) size_table size
    (recursion_from_All P size_table all) is

-- Another size of the choice that is enough has no fewer modules.
abbrev pub HasNoFewer : SizeChoice → ℕ → SizeEntry → SizeEntry → Type 0
HasNoFewer choice cost size other = takes choice other ≡ true → cost ≤ other.data_count → area size ≤ area other

-- Where it has as many, it has no fewer columns.
abbrev pub IsNoNarrower : SizeChoice → ℕ → SizeEntry → SizeEntry → Type 0
IsNoNarrower choice cost size other = takes choice other ≡ true → cost ≤ other.data_count → area size ≡ area other
    → size.columns ≤ other.columns

-- A size of the choice isn't enough.
abbrev pub IsTooSmall : SizeChoice → ℕ → SizeEntry → Type 0
IsTooSmall choice cost other = takes choice other ≡ true → other.data_count < cost

-- A size of a choice is the least one that has at least so many data codewords.
pub record IsLeastSize (choice : SizeChoice) (cost : ℕ) (size : SizeEntry) : Type 0 where
  pub taken : IsTaken choice size
  pub smallest : All (HasNoFewer choice cost size) size_table
  pub narrowest : All (IsNoNarrower choice cost size) size_table

-- A size of the choice that is smaller than the least one for a cost has fewer data codewords.
too_small : (choice : SizeChoice) (cost : ℕ) (size smaller : SizeEntry) → IsLeastSize choice cost size
    → IsTaken choice smaller → IsSmaller smaller size → smaller.data_count < cost
too_small choice cost size smaller least is less = elim (cases_lt smaller.data_count cost) [
  | inl few ↦ few
  | inr enough ↦ elim less [
    | inl fewer ↦
        let above = at_size (HasNoFewer choice cost size) smaller is.0 least.smallest is.1 enough in
        absurd (omega (arith, fewer, above))
    | inr same ↦
        let wide = at_size (IsNoNarrower choice cost size) smaller is.0 least.narrowest is.1 enough (sym same.0) in
        absurd (omega (arith, same.1, wide))
  ]
]

-- No words that say a content in an extent, and have no macro before FNC1, are fewer.
abbrev pub AreNoFewer : Extent → ContentView → ℕ → Type 0
AreNoFewer extent l cost = (words : List ℕ) → FramesNoFnc1 words l.items → Says extent words l → cost ≤ length words

-- What is written for the least cost, with pads up to the least size for it, is the smallest.
pub written_smallest : (extent : Extent) (choice : SizeChoice) (l : ContentView) (cost count : ℕ) (size : SizeEntry)
    (new words : List ℕ) → AreNoFewer extent l cost → IsLeastSize choice cost size → count ≡ size.data_count
    → words ≡ padded new count → length new ≤ count → AreWritten extent (padded new count) l
    → IsPlainestContent (padded new count) l → IsSmallestContentResult extent choice l (Ok size) words
written_smallest extent choice l cost count size new words lower least counts is fits written plain =
    let w : AreWritten extent words l = subst (λ (w : List ℕ). AreWritten extent w l) (sym is) written in
    record {
      smallest = record {
        says = w.says.says;
        taken = least.taken;
        sized = ap length is ∙ length-padded new count fits ∙ counts;
        form = w.form;
        smallest = λ smaller other taken less sized framed says. absurd
            (omega (arith, lower other framed says, too_small choice cost size smaller least taken less, sized));
      };
      plainest = subst (λ (w : List ℕ). IsPlainestContent w l) (sym is) plain;
      padded = w.says;
      too_long = λ err other_size other taken sized framed says. absurd cc;
    }

-- Where no size of the choice is enough, none has words that say the content.
pub none_written : (extent : Extent) (choice : SizeChoice) (l : ContentView) (cost : ℕ) (fault : TooLong)
    (words : List ℕ) → AreNoFewer extent l cost
    → All (IsTooSmall choice cost) size_table
    → IsSmallestContentResult extent choice l (Err fault) words
none_written extent choice l cost fault words lower none = record {
  smallest = tt;
  plainest = tt;
  padded = tt;
  too_long = λ err size other taken sized framed says. absurd
      (omega (arith, lower other framed says, at_size (IsTooSmall choice cost) size taken.0 none taken.1, sized));
}

-- ---- contents with a head or marks

-- A content without a head and marks is a message.
pub plain_is : (l : ContentView) → is_plain l.head l.marks ≡ true → as_content l.items ≡ l
plain_is l h1 = grind (arith, is_plain, as_content)

-- Nothing says another one in the usual extent.
pub not_usual : (words : List ℕ) (l : ContentView) → is_plain l.head l.marks ≡ false → Says Usual words l → ⊥
not_usual words l marked says =
    let e = usual_plain words l says in
    absurd cc

-- ---- how far they are determined

-- Of two sizes one is smaller than the other, or they are the same.
pub one_is_smaller : (size other : SizeEntry) → IsSize size → IsSize other → (IsSmaller size other → ⊥)
    → (IsSmaller other size → ⊥) → size ≡ other
one_is_smaller size other is is_other not_smaller not_larger =
    let areas : area size ≡ area other = elim (cases_lt (area size) (area other)) [
      | inl lt ↦ absurd (not_smaller (inl lt))
      | inr ge ↦ elim (cases_lt (area other) (area size)) [
        | inl lt ↦ absurd (not_larger (inl lt))
        | inr le ↦ omega (arith, ge, le)
      ]
    ] in
    let columns : size.columns ≡ other.columns = elim (cases_lt size.columns other.columns) [
      | inl lt ↦ absurd (not_smaller (inr (areas, lt)))
      | inr ge ↦ elim (cases_lt other.columns size.columns) [
        | inl lt ↦ absurd (not_larger (inr (sym areas, lt)))
        | inr le ↦ omega (arith, ge, le)
      ]
    ] in
    let some : 0 < size.columns = (let f = size_facts size is in omega (arith, f.columns_below)) in
    let rows : size.rows ≡ other.rows =
    eq_of_mul-eq-mul_right size.columns some size.rows other.rows
    (areas ∙ ap (λ (n : ℕ). other.rows * n) (sym columns)) in
    same_size size other is is_other rows columns
