-- How many codewords are ECI, and room for the marks that they say.
use Rattle.dm_words.proofs.Names.{◌≡◌, ℕ, ◌+◌, ◌*◌, ◌<◌, ◌≤◌, List, [], ◌∷◌, ◌++◌, length, take, drop, ap, arith, ◌∙◌}
use Rattle.dm_words.proofs.Names.{Bool, get_or, drop-cons, add-one, ◌==◌, if◌then◌else◌, eqb-true, take-append-drop}
use Rattle.dm_words.proofs.Names.{drop-drop, drop_all, Extent, eci_word, Said, Items, Number}
use Rattle.dm_words.proofs.Names.{IsContentPart, part, mark, AreMarksAt, Mark, nat_tests, length-append, ◌-◌}
use Rattle.dm_words.specs.Contents.{eci_count, HasMarkRoom}

-- Of words behind others each is counted once.
counted_apart : (first more : List ℕ) → eci_count (first ++ more) ≡ eci_count first + eci_count more
unfolding eci_count
counted_apart [] more = omega arith
counted_apart (w ∷ first) more = omega (arith, counted_apart first more)

-- Those of a list are those of its first words and of what is behind them.
in_parts : (n : ℕ) (words : List ℕ) → eci_count words ≡ eci_count (take n words) + eci_count (drop n words)
in_parts n words = omega (arith, ap eci_count (take-append-drop n words), counted_apart (take n words) (drop n words))

-- No more are left behind some words.
no_more_behind : (n : ℕ) (words : List ℕ) → eci_count (drop n words) ≤ eci_count words
no_more_behind n words = omega (arith, in_parts n words)

-- ECI counts.
one_counts : (more : List ℕ) → eci_count (eci_word ∷ more) ≡ 1 + eci_count more
unfolding eci_count
one_counts more = omega arith

-- No more are left from a later index on.
pub no_more_left : (at to : ℕ) (words : List ℕ) → at ≤ to → eci_count (drop to words) ≤ eci_count (drop at words)
no_more_left at to words on =
    let n = to - at in
    let there : drop n (drop at words) ≡ drop to words =
    drop-drop n at words ∙ ap (λ k. drop k words) (omega (arith, on)) in
    omega (arith, in_parts n (drop at words), ap eci_count there)

-- Before the first part there is no mark.
pub no_marks : (words : List ℕ) (at : ℕ) → AreMarksAt words at []
no_marks words at = record { few = omega arith; eci_left = omega (arith, no_more_behind at words) }

-- Parts without a mark are passed.
pub marks_stay : (words : List ℕ) (at to : ℕ) (marks : List Mark) → AreMarksAt words at marks → at ≤ to
    → AreMarksAt words to marks
marks_stay words at to marks v on =
    record { few = omega (arith, v.few, on); eci_left = omega (arith, v.eci_left, no_more_left at to words on) }

-- The marks of a part stand behind the others.
pub more_marks : (words : List ℕ) (at n : ℕ) (old more : List Mark) → AreMarksAt words at old → 2 * length more ≤ n
    → length more + eci_count (drop (at + n) words) ≤ eci_count (drop at words)
    → AreMarksAt words (at + n) (old ++ more)
more_marks words at n old more v few left = record {
  few = omega (arith, v.few, few, length-append old more);
  eci_left = omega (arith, v.eci_left, left, length-append old more);
}

-- One mark or none is said.
abbrev pub mark_count : Said → ℕ
mark_count (Items items) = 0
mark_count (Number number) = 1

-- A part with a mark takes an ECI.
pub taken_away : (extent : Extent) (at n : ℕ) (words : List ℕ) (said : Said)
    → IsContentPart extent (at + 1) (take n (drop at words)) (drop n (drop at words)) said
    → mark_count said + eci_count (drop (at + n) words) ≤ eci_count (drop at words)
taken_away extent at n words said (part items p is) =
    rw is (omega (arith, no_more_left at (at + n) words (omega arith)))
taken_away extent at n words said (mark d number wide e whole is) =
    let some : eci_count (take n (drop at words)) ≡ 1 + eci_count d = ap eci_count whole ∙ one_counts d in
    rw is (omega (arith, in_parts n (drop at words), ap eci_count (drop-drop n at words), some))

-- Where ECI stands, there is room for its mark.
pub mark_fits : (room : ℕ) (words : List ℕ) (at : ℕ) (marks : List Mark) → HasMarkRoom room words
    → AreMarksAt words at marks → at < length words → drop at words ≡ eci_word ∷ drop (at + 1) words
    → length marks < room
mark_fits room words at marks h1 h2 h3 h4 = grind (arith, eci_count, one_counts)

-- A word counts by whether it is ECI.
abbrev counted : Bool → ℕ
counted is_eci = if is_eci then 1 else 0

-- Where one word is counted, those behind it are left.
counted_here : (words : List ℕ) (at : ℕ) → at < length words → eci_count (drop at words)
    ≡ counted (get_or words at 0 == eci_word) + eci_count (drop (at + 1) words)
unfolding eci_count
counted_here words at lt = grind (arith, nat_tests, eci_count, drop-cons, add-one)

-- An ECI is counted, and another word isn't.
pub eci_counted : (words : List ℕ) (at count : ℕ) → at < length words → eci_count words
    ≡ count + eci_count (drop at words) → get_or words at 0 ≡ eci_word → eci_count words
    ≡ count + 1 + eci_count (drop (at + 1) words)
eci_counted words at count h1 h2 h3 = grind (arith, counted, eci_word, counted_here)

pub other_passed : (words : List ℕ) (at count : ℕ) → at < length words → eci_count words
    ≡ count + eci_count (drop at words) → (get_or words at 0 ≡ eci_word → ⊥) → eci_count words
    ≡ count + eci_count (drop (at + 1) words)
other_passed words at count h1 h2 h3 = grind (arith, counted_here, eci_word, counted, eqb-true)

-- At the end all are counted.
pub all_counted : (words : List ℕ) (at count : ℕ) → length words ≤ at → eci_count words
    ≡ count + eci_count (drop at words) → count ≡ eci_count words
unfolding eci_count
all_counted words at count le so_far = grind (arith, eci_count, drop_all)
