-- The normal form of a content says it.
use Rattle.dm_words.proofs.Names.{◌≡◌, ℕ, ◌+◌, ◌-◌, ◌≤◌, List, [], ◌∷◌, ◌++◌, length, take, drop, refl, sym, subst}
use Rattle.dm_words.proofs.Names.{ap, ◌∙◌, append_assoc, arith, length-append, AllByRecursion, append-nil}
use Rattle.dm_words.proofs.Names.{length-take, length-drop, take-append-drop, Wide, Item, Mark, Profile, IsItem}
use Rattle.dm_words.proofs.Names.{IsAsciiUnit, ascii, Piece, spelled, gathered, whats, AreJoined, padded, IsPlainSaid}
use Rattle.dm_words.proofs.Names.{designator, ContentView, AreMarks, Said, Items, Number, IsContentPart, said_items}
use Rattle.dm_words.proofs.Names.{said_marks, mark_words, ascii_with_marks, content_form}
use Rattle.dm_words.specs.Plain as plainly
use Rattle.dm_words.proofs.AsciiWords.{AreItems, units_of}
use Rattle.dm_words.proofs.Designators.{designator_says}
use Rattle.dm_words.proofs.PadWords.{length-padded}
use Rattle.dm_words.proofs.PlainParts.{plain_said}
use Rattle.dm_words.proofs.Pieces.{all-take}

-- A piece is right wherever it stands.
abbrev pub IsPlace : (ℕ → List ℕ → List ℕ → Said → Type 0) → Piece Said → Type 0
IsPlace R p = (place : ℕ) (after : List ℕ) → R place p.words after p.what

-- A plain part of a content is one wherever it stands.
abbrev pub IsFree : Piece Said → Type 0
IsFree = IsPlace IsPlainSaid

-- Such parts are joined.
pub free_joined : (R : ℕ → List ℕ → List ℕ → Said → Type 0) (place : ℕ) (ps : List (Piece Said)) (after : List ℕ)
    → AllByRecursion (IsPlace R) ps → AreJoined R place ps after
free_joined R place [] after h = tt
free_joined R place (p ∷ ps) after h =
    (h.0 place (spelled ps ++ after), free_joined R (place + length p.words) ps after h.1)

-- What is plain is a part of a content.
pub all_said : (ps : List (Piece Said)) → AllByRecursion IsFree ps → AllByRecursion (IsPlace (IsContentPart Wide)) ps
all_said [] h = tt
all_said (p ∷ ps) h = ((λ place after. plain_said place p.words after p.what (h.0 place after)), all_said ps h.1)

-- Units of ASCII as parts of a content, before others.
abbrev units_then : List (Piece (List Item)) → List (Piece Said) → List (Piece Said)
units_then [] rest = rest
units_then (u ∷ us) rest = record { words = u.words; what = Items u.what } ∷ units_then us rest

-- They are parts wherever they stand.
units_free : (us : List (Piece (List Item))) (rest : List (Piece Said))
    → AllByRecursion (λ u. IsAsciiUnit u.words u.what) us → AllByRecursion IsFree rest
    → AllByRecursion IsFree (units_then us rest)
units_free [] rest each h = h
units_free (u ∷ us) rest each h =
    ((λ place after. plainly.part u.what (plainly.ascii each.0) refl), units_free us rest each.1 h)

-- Their words.
units_words : (us : List (Piece (List Item))) (rest : List (Piece Said)) → spelled (units_then us rest) ≡ spelled us
    ++ spelled rest
units_words [] rest = refl
units_words (u ∷ us) rest = cc (units_words us rest, append_assoc u.words (spelled us) (spelled rest))

-- Their items.
units_items : (us : List (Piece (List Item))) (rest : List (Piece Said)) → said_items (whats (units_then us rest))
    ≡ gathered us ++ said_items (whats rest)
units_items [] rest = refl
units_items (u ∷ us) rest = cc (units_items us rest, append_assoc u.what (gathered us) (said_items (whats rest)))

-- The marks behind them.
units_marks : (before : ℕ) (us : List (Piece (List Item))) (rest : List (Piece Said))
    → said_marks before (whats (units_then us rest)) ≡ said_marks (before + length (gathered us)) (whats rest)
units_marks before [] rest = (let e : before ≡ before + 0 = omega arith in ap (λ (n : ℕ). said_marks n (whats rest)) e)
units_marks before (u ∷ us) rest =
    let e : before + length u.what + length (gathered us) ≡ before + length (u.what ++ gathered us) =
    omega (arith, length-append u.what (gathered us)) in
    units_marks (before + length u.what) us rest ∙ ap (λ (n : ℕ). said_marks n (whats rest)) e

-- Items with marks are what these parts say, whose words are these.
pub record HasParts (before : ℕ) (items : List Item) (marks : List Mark) (words : List ℕ) : Type 0 where
  pub parts : List (Piece Said)
  pub free : AllByRecursion IsFree parts
  pub whole : words ≡ spelled parts
  pub items_are : said_items (whats parts) ≡ items
  pub marks_are : said_marks before (whats parts) ≡ marks

-- Marks lie no further back than the last place.
pub marks_within : (least most : ℕ) (marks : List Mark) → AreMarks least most marks → least ≤ most
marks_within least most [] are = are
marks_within least most (m ∷ marks) are = (let r = marks_within m.place most marks are.2 in omega (arith, are.0, r))

-- A mark stands where it is said, before those behind it.
marks_from : (m : Mark) (at : ℕ) (rest : List Said) (marks : List Mark) → at ≡ m.place
    → said_marks m.place rest ≡ marks → said_marks at (Number m.number ∷ rest) ≡ m ∷ marks
marks_from m at rest marks there are =
    ap (λ (k : ℕ). (let q : Mark = record { place = k; number = m.number } in q) ∷ said_marks k rest) there
    ∙ ap (λ (ms : List Mark). m ∷ ms) are

-- The ASCII form of items is what units say.
ascii_parts : (before : ℕ) (items : List Item) (rest : List (Piece Said)) (words : List ℕ) (marks : List Mark)
    → AreItems items → AllByRecursion IsFree rest → words ≡ spelled rest
    → said_marks (before + length items) (whats rest) ≡ marks
    → HasParts before (items ++ said_items (whats rest)) marks (ascii items ++ words)
ascii_parts before items rest words marks fit free whole are =
    let u = units_of items fit in
    record {
      parts = units_then u.units rest;
      free = units_free u.units rest u.each free;
      whole = rw (whole, u.whole) (sym (units_words u.units rest));
      items_are = units_items u.units rest ∙ ap (λ (r : List Item). r ++ said_items (whats rest)) (sym u.items);
      marks_are = units_marks before u.units rest
          ∙ ap (λ (r : List Item). said_marks (before + length r) (whats rest)) (sym u.items) ∙ are;
    }

-- Items in ASCII, a mark behind them, and what such parts say behind that.
mark_then : (before : ℕ) (items : List Item) (m : Mark) (rest : List Item) (marks : List Mark) (words : List ℕ)
    → AreItems items → IsFree (record { words = mark_words m; what = Number m.number })
    → before + length items ≡ m.place → HasParts m.place rest marks words
    → HasParts before (items ++ rest) (m ∷ marks) (ascii items ++ (mark_words m ++ words))
mark_then before items m rest marks words fit free there r =
    let p : Piece Said = record { words = mark_words m; what = Number m.number } in
    let h = ascii_parts before items (p ∷ r.parts) (mark_words m ++ words) (m ∷ marks) fit (free, r.free)
    (ap (λ (w : List ℕ). mark_words m ++ w) r.whole)
    (marks_from m (before + length items) (whats r.parts) marks there r.marks_are) in
    subst (λ (i : List Item). HasParts before (items ++ i) (m ∷ marks) (ascii items ++ (mark_words m ++ words)))
    r.items_are h

-- Items with marks are what parts say, whose words are the items in ASCII from mark to mark, and the marks.
pub parts_of : (before : ℕ) (items : List Item) (marks : List Mark) → AreItems items
    → AreMarks before (before + length items) marks → HasParts before items marks (ascii_with_marks before items marks)
parts_of before items [] fit are =
    let h = ascii_parts before items [] [] [] fit tt refl refl in
    rw (append-nil items) at (subst (λ (w : List ℕ). HasParts before (items ++ []) [] w) (append-nil (ascii items)) h)
parts_of before items (m ∷ marks) fit are =
    let n = m.place - before in
    let within = marks_within m.place (before + length items) marks are.2 in
    let there : before + length (take n items) ≡ m.place = omega (arith, length-take n items, within, are.0) in
    let last : before + length items ≡ m.place + length (drop n items) =
    omega (arith, length-drop n items, within, are.0) in
    let fits = all-take IsItem n items fit in
    let r = parts_of m.place (drop n items) marks fits.1 (subst (λ (k : ℕ). AreMarks m.place k marks) last are.2) in
    subst (λ (i : List Item). HasParts before i (m ∷ marks) (ascii_with_marks before items (m ∷ marks)))
    (take-append-drop n items)
    (mark_then before (take n items) m (drop n items) marks (ascii_with_marks m.place (drop n items) marks) fits.0
    (λ place after. plainly.mark (designator m.number) m.number (designator_says m.number are.1) refl refl) there r)

-- With pads the normal form has as many codewords as asked for.
pub content_form_count : (profile : Profile) (l : ContentView) (count : ℕ) → length (content_form profile l) ≤ count
    → length (padded (content_form profile l) count) ≡ count
content_form_count profile l count le = length-padded (content_form profile l) count le
