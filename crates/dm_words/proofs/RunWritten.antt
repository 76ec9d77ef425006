-- The runs that are written are runs.
use Rattle.dm_words.proofs.Names.{◌≡◌, ℕ, ◌+◌, ◌-◌, ◌*◌, ◌/◌, ◌<◌, ◌≤◌, List, [], ◌∷◌, ◌++◌, length, take, drop, get_or}
use Rattle.dm_words.proofs.Names.{add-one, append_assoc, refl, sym, ap, subst, ◌∙◌, arith, Some, None, true}
use Rattle.dm_words.proofs.Names.{AllByRecursion, nat_tests, append-nil, length-append, length-take, length-drop}
use Rattle.dm_words.proofs.Names.{take-suc, Item, Byte, CodeSet, Waiting, Extent, Usual, codeword_of}
use Rattle.dm_words.proofs.Names.{Piece, spelled, gathered, whats, IsShifted, IsSpelling, inl, nothing, IsPair}
use Rattle.dm_words.proofs.Names.{IsRun, IsRunEnd, unlatch, symbol_end, last_word, run, is_basic, set_values}
use Rattle.dm_words.proofs.Names.{part_values, ArePushed, IsItemPushed, is_empty, NoUnlatchFirst, IsPartWritten}
use Rattle.dm_words.proofs.Pieces.{all-append, spelled-append, spelled-last, whats-append, gathered-append}
use Rattle.dm_words.proofs.Pieces.{gathered-last}
use Rattle.dm_words.proofs.Runs.{pairs_room}
use Rattle.dm_words.specs.inner.Written.{IsCharacterPushed, IsSmallPart, IsValuePushed}
use Rattle.dm_words.specs.declared.codeword.Codeword.TheVariants as codeword
use Rattle.dm_words.specs.declared.c40.set.Shifted.TheVariants as shifted
use Rattle.dm_words.specs.Values.{character, raised}
use Rattle.dm_words.specs.Plain as plainly

-- A byte below 128 is spelled.
pub spelled_low : (set : CodeSet) (byte : ℕ) (old new : List ℕ) (item : Item) → old ≡ [] → item ≡ Byte byte
    → IsCharacterPushed set byte old new → IsSpelling set new item
spelled_low set byte old new item none is p =
    let e : new ≡ p.0 = p.1 ∙ ap (λ (o : List ℕ). o ++ p.0) none in
    subst (λ (v : List ℕ). IsSpelling set v item) (sym e) (character byte p.2 is)

-- An Upper Shift is these values.
upper : (set : CodeSet) (byte : ℕ) → 128 ≤ byte → 0 < set_values set (Byte byte)
    → IsShifted set (1 ∷ 30 ∷ []) (Some shifted.UpperShift)
upper set byte h1 h2 = grind (arith, nat_tests, is_basic)

-- A byte of 128 or more is spelled.
pub spelled_raised : (set : CodeSet) (byte : ℕ) (old new : List ℕ) (item : Item) → old ≡ 1 ∷ 30 ∷ [] → item
    ≡ Byte byte → 128 ≤ byte → 0 < set_values set item
    → IsCharacterPushed set (byte - 128) old new → IsSpelling set new item
spelled_raised set byte old new item two is high some p =
    let e : new ≡ (1 ∷ 30 ∷ []) ++ p.0 = p.1 ∙ ap (λ (o : List ℕ). o ++ p.0) two in
    let b : byte ≡ (byte - 128) + 128 = omega (arith, high) in
    let u = upper set byte high (rw is at some) in
    raised (1 ∷ 30 ∷ []) p.0 (byte - 128) u p.2 e (is ∙ ap Byte b)

-- Nothing is pushed yet.
pub none_pushed : (old : List ℕ) (p : Waiting) → IsSmallPart p → ArePushed old (part_values p) [] old p
none_pushed old p small =
    record {
      pairs = [];
      each = tt;
      values_are = append-nil (part_values p);
      words_are = sym (append-nil old);
      small =
          small;
    }

-- One more value is pushed.
pub one_pushed : (old waiting values words words' : List ℕ) (p p' : Waiting) (v : ℕ) → v < 40
    → ArePushed old waiting values words p → IsValuePushed p words v p' words'
    → ArePushed old waiting (values ++ v ∷ []) words' p'
one_pushed old waiting values words words' Waiting.Empty p' v lt a i = record {
  pairs = a.pairs;
  each = a.each;
  values_are = sym (append_assoc waiting values (v ∷ [])) ∙ ap (λ (l : List ℕ). l ++ v ∷ []) a.values_are
      ∙ append_assoc (gathered a.pairs) [] (v ∷ []) ∙ ap (λ (q : Waiting). gathered a.pairs ++ part_values q) (sym i.0);
  words_are = i.1 ∙ a.words_are;
  small = subst IsSmallPart (sym i.0) lt;
}
one_pushed old waiting values words words' (Waiting.One x) p' v lt a i = record {
  pairs = a.pairs;
  each = a.each;
  values_are =
      cc (append_assoc waiting values (v ∷ []), a.values_are, append_assoc (gathered a.pairs) (x ∷ []) (v ∷ []), i.0);
  words_are = i.1 ∙ a.words_are;
  small = subst IsSmallPart (sym i.0) (a.small, lt);
}
one_pushed old waiting values words words' (Waiting.Two x y) p' v lt a i =
    let piece : Piece (List ℕ) = record { words = i.1.0; what = x ∷ y ∷ v ∷ [] } in
    record {
      pairs = a.pairs ++ piece ∷ [];
      each = all-append (λ q. IsPair q.words q.what) a.pairs (piece ∷ []) a.each (i.1.1, tt);
      values_are = sym (append_assoc waiting values (v ∷ [])) ∙ ap (λ (l : List ℕ). l ++ v ∷ []) a.values_are
          ∙ append_assoc (gathered a.pairs) (x ∷ y ∷ []) (v ∷ []) ∙ sym (gathered-last a.pairs piece)
          ∙ sym (append-nil (gathered (a.pairs ++ piece ∷ [])))
          ∙ ap (λ (q : Waiting). gathered (a.pairs ++ piece ∷ []) ++ part_values q) (sym i.0);
      words_are = cc (i.1.2, a.words_are, append_assoc old (spelled a.pairs) i.1.0, spelled-last a.pairs piece);
      small = subst IsSmallPart (sym i.0) tt;
    }

-- So many codewords were written, and so many values stand.
pub pushed_lengths : (old waiting values new : List ℕ) (p : Waiting) → ArePushed old waiting values new p
    → (n : ℕ) × (length new ≡ length old + 2 * n) × (length waiting + length values ≡ 3 * n + length (part_values p))
pushed_lengths old waiting values new p a =
    let room = pairs_room a.pairs a.each in (
      length (spelled a.pairs) / 2,
      omega (arith, room, ap length a.words_are, length-append old (spelled a.pairs)),
      omega (
        arith,
        ap length a.values_are,
        length-append waiting values,
        length-append (gathered a.pairs) (part_values p),
      ),
    )

-- One more value of a list is pushed.
pub next_pushed : (old waiting values words words' : List ℕ) (p p' : Waiting) (i v d : ℕ) → i < length values → v
    ≡ get_or values i d → v < 40 → ArePushed old waiting (take i values) words p → IsValuePushed p words v p' words'
    → ArePushed old waiting (take (i + 1) values) words' p'
next_pushed old waiting values words words' p p' i v d lt is small a push =
    let more : take i values ++ v ∷ [] ≡ take (i + 1) values = ap (λ (y : ℕ). take i values ++ y ∷ []) is
    ∙ sym (rw add-one (take-suc values i d lt)) in
    rw more at (one_pushed old waiting (take i values) words words' p p' v small a push)

-- More values are pushed.
pushed_more : (old vs ws words words' : List ℕ) (p p' : Waiting) → ArePushed old [] vs words p
    → ArePushed words (part_values p) ws words' p' → ArePushed old [] (vs ++ ws) words' p'
pushed_more old vs ws words words' p p' a b = record {
  pairs = a.pairs ++ b.pairs;
  each = all-append (λ q. IsPair q.words q.what) a.pairs b.pairs a.each b.each;
  values_are = ap (λ (l : List ℕ). l ++ ws) a.values_are ∙ append_assoc (gathered a.pairs) (part_values p) ws
      ∙ ap (λ (l : List ℕ). gathered a.pairs ++ l) b.values_are
      ∙ sym (append_assoc (gathered a.pairs) (gathered b.pairs) (part_values p'))
      ∙ ap (λ (l : List ℕ). l ++ part_values p') (sym (gathered-append a.pairs b.pairs));
  words_are = cc
      (b.words_are, a.words_are, append_assoc old (spelled a.pairs) (spelled b.pairs), spelled-append a.pairs b.pairs);
  small = b.small;
}

-- So far a run has these items.
pub record IsRunSoFar (set : CodeSet) (old new : List ℕ) (p : Waiting) (items : List Item) : Type 0 where
  pub latch : ℕ
  pub is_latch : codeword_of latch ≡ Some (codeword.Latch set)
  pub spellings : List (Piece Item)
  pub each : AllByRecursion (λ piece. IsSpelling set piece.words piece.what) spellings
  pub items_are : items ≡ whats spellings
  pub pushed : ArePushed (old ++ latch ∷ []) [] (spelled spellings) new p

-- A run begins with its latch.
pub run_begun : (set : CodeSet) (old new : List ℕ) (l : ℕ) → codeword_of l ≡ Some (codeword.Latch set) → new ≡ old
    ++ l ∷ [] → IsRunSoFar set old new Waiting.Empty []
run_begun set old new l is e = grind (arith, nat_tests, none_pushed)

-- One more item of a run.
pub run_more : (set : CodeSet) (old words words' : List ℕ) (p p' : Waiting) (items : List Item) (x : Item)
    → IsRunSoFar set old words p items → IsItemPushed set x p words words' p'
    → IsRunSoFar set old words' p' (items ++ x ∷ [])
run_more set old words words' p p' items x r i =
    let piece : Piece Item = record { words = i.0; what = x } in
    let more : spelled (r.spellings ++ piece ∷ []) ≡ spelled r.spellings ++ i.0 = spelled-last r.spellings piece in
    record {
      latch = r.latch;
      is_latch = r.is_latch;
      spellings = r.spellings ++ piece ∷ [];
      each = all-append (λ q. IsSpelling set q.words q.what) r.spellings (piece ∷ []) r.each (i.1, tt);
      items_are = ap (λ (l : List Item). l ++ x ∷ []) r.items_are ∙ sym (whats-append r.spellings (piece ∷ []));
      pushed = rw more (pushed_more (old ++ r.latch ∷ []) (spelled r.spellings) i.0 words words' p p' r.pushed i.2);
    }

-- A run that went on has some items.
pub run_some : (m : List Item) (at next : ℕ) → at + 1 ≤ next → next ≤ length m
    → 0 < length (take (next - at) (drop at m))
run_some m at next from within = grind (arith, nat_tests, length-take, length-drop)

-- All values of a run spell items.
abbrev IsWholeRun : Extent → CodeSet → List ℕ → List ℕ → List Item → Type 0
IsWholeRun extent set words after items = (is : IsRun extent set words after items) × (is.filler ≡ [])

-- A run that is whole is a run, whatever end follows.
pub run_whole : (set : CodeSet) (old words : List ℕ) (items : List Item)
    (r : IsRunSoFar set old words Waiting.Empty items)
    → (pairs : List ℕ) × (words ≡ old ++ r.latch ∷ pairs) × ((extent : Extent) (end after : List ℕ) → IsRunEnd end after
    → IsWholeRun extent set (r.latch ∷ (pairs ++ end)) after items)
run_whole set old words items r = (
  spelled r.pushed.pairs,
  r.pushed.words_are ∙ append_assoc old (r.latch ∷ []) (spelled r.pushed.pairs),
  λ extent end after is. (
    record {
      latch = r.latch;
      is_latch = r.is_latch;
      pairs = r.pushed.pairs;
      each = r.pushed.each;
      end = end;
      ended = is;
      whole = refl;
      spellings = r.spellings;
      each_spelling = r.each;
      filler = [];
      dropped = inl (nothing refl);
      values = cc (append-nil (gathered r.pushed.pairs), r.pushed.values_are, append-nil (spelled r.spellings));
      items_are = r.items_are;
    },
    refl,
  ),
)

-- A latch isn't the unlatch.
latch_begins : (set : CodeSet) (l : ℕ) (more : List ℕ) → codeword_of l ≡ Some (codeword.Latch set)
    → NoUnlatchFirst (l ∷ more)
latch_begins set l more is e = (let none : codeword_of l ≡ None = ap codeword_of e in cc)

-- A run is written: with an unlatch.
pub written_unlatch : (extent : Extent) (set : CodeSet) (total : ℕ) (old words new : List ℕ) (items : List Item)
    (p : Waiting) → is_empty p ≡ true → 0 < length items → IsRunSoFar set old words p items → new ≡ words ++ 254 ∷ []
    → IsPartWritten extent total old new items
written_unlatch extent set total old words new items Waiting.Empty e some r is =
    let w = run_whole set old words items r in
    record {
      part = r.latch ∷ (w.0 ++ 254 ∷ []);
      some = omega arith;
      begins = latch_begins set r.latch (w.0 ++ 254 ∷ []) r.is_latch;
      whole = is ∙ ap (λ (l : List ℕ). l ++ 254 ∷ []) w.1 ∙ append_assoc old (r.latch ∷ w.0) (254 ∷ []);
      right = λ after fills first. run set (w.2 extent (254 ∷ []) after (unlatch refl)).0;
      plain = λ after fills first. (
          let q = w.2 Usual (254 ∷ []) after (unlatch refl) in
          plainly.run set q.0 q.1 some
          );
    }
written_unlatch extent set total old words new items (Waiting.One x) e some r is = absurd cc
written_unlatch extent set total old words new items (Waiting.Two x y) e some r is = absurd cc

-- A run is written: with none, where at most one codeword is left.
pub written_bare : (extent : Extent) (set : CodeSet) (total : ℕ) (old words : List ℕ) (items : List Item) (p : Waiting)
    → is_empty p ≡ true → 0 < length items → total ≤ length words + 1 → IsRunSoFar set old words p items
    → IsPartWritten extent total old words items
written_bare extent set total old words items Waiting.Empty e some few r =
    let w = run_whole set old words items r in
    record {
      part = r.latch ∷ w.0;
      some = omega arith;
      begins = latch_begins set r.latch w.0 r.is_latch;
      whole = w.1;
      right = λ after fills first. run set
          (rw (append-nil w.0) at (w.2 extent [] after (by_after after (omega (arith, fills, few)) first))).0;
      plain = λ after fills first. (
          let q = rw (append-nil w.0) at (w.2 Usual [] after (by_after after (omega (arith, fills, few)) first)) in
          plainly.run set q.0 q.1 some
          );
    } where
      by_after : (after : List ℕ) → length after ≤ 1 → NoUnlatchFirst after → IsRunEnd [] after
      by_after [] le first = symbol_end refl refl
      by_after (v ∷ []) le first = last_word v first refl refl
      by_after (v ∷ u ∷ more) le first = absurd (omega (arith, le))
written_bare extent set total old words items (Waiting.One x) e some few r = absurd cc
written_bare extent set total old words items (Waiting.Two x y) e some few r = absurd cc
