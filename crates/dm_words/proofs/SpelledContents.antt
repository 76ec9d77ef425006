-- Codewords that spell a message are parts of it, and parts of a message say it as a content.
use Rattle.dm_words.proofs.Names.{◌≡◌, ℕ, ◌+◌, List, [], ◌∷◌, ◌++◌, length, refl, sym, subst, ap, ◌∙◌}
use Rattle.dm_words.proofs.Names.{arith, Some, None, inl, inr, ◌⊎◌, CodeSet, Extent, Wide, Item}
use Rattle.dm_words.proofs.Names.{ContentFault, Plain, Framed, codeword_of, Piece, spelled, gathered}
use Rattle.dm_words.proofs.Names.{whats, AreJoined, unlatch, nothing, IsPart, run, AreParts, Spells, left_out}
use Rattle.dm_words.proofs.Names.{macro_behind, ContentView, Said, Items, IsContentPart, part}
use Rattle.dm_words.proofs.Names.{AreContentParts, said_items, said_marks, AreFrame, BeginsNoFrame}
use Rattle.dm_words.proofs.Names.{BeginsNoHeadWord, framed, AreOpened, IsContentFault, word, HaveContentFault}
use Rattle.dm_words.proofs.Names.{macro_text, IsPlainPart, IsPlainSaid, ArePads, SaysThenPads, as_content}
use Rattle.dm_words.specs.declared.codeword.Codeword.TheVariants as codeword
use Rattle.dm_words.specs.declared.fault.WordFault.TheVariants as word_fault
use Rattle.dm_words.specs.declared.contents.fault.ContentFault.TheVariants as fault
use Rattle.dm_words.specs.Contents.{plain as opens_plain}
use Rattle.dm_words.specs.Plain as plainly
use Rattle.dm_words.proofs.WholeContents.{parts_read, fault_read}
use Rattle.dm_words.specs.Laws.{AreMacro}

-- An empty run is a part of a message.
empty_run : (place latch unlatch_there : ℕ) (set : CodeSet) (after : List ℕ) → codeword_of latch
    ≡ Some (codeword.Latch set) → unlatch_there ≡ 254
    → IsPart Wide place (latch ∷ unlatch_there ∷ []) after []
empty_run place latch unlatch_there set after k is =
    run set (record {
      latch = latch;
      is_latch = k;
      pairs = [];
      each = tt;
      end = 254 ∷ [];
      ended = unlatch refl;
      whole = ap (λ (u : ℕ). latch ∷ u ∷ []) is;
      spellings = [];
      each_spelling = tt;
      filler = [];
      dropped = inl (nothing refl);
      values = refl;
      items_are = refl;
    })

-- A macro begins no part of a content.
macro_faulty : (place w digit : ℕ) (more : List ℕ) → codeword_of w ≡ Some (codeword.Macro digit)
    → IsContentFault Wide place (w ∷ more) (fault.Word (word_fault.LeftOut w place))
macro_faulty place w digit more k =
    word (word_fault.LeftOut w place)
    (λ wide rest is. (let same : w ≡ 241 = cc in
    let l : codeword_of w ≡ Some codeword.LeftOut = ap codeword_of same in cc))
    (macro_behind w digit more k refl refl) refl

-- A macro, alone or behind empty runs, is a fault where parts would begin: the runs are parts, and the macro is none.
frame_faulty : (place : ℕ) (frame rest : List ℕ) (digit : ℕ) → AreFrame frame digit
    → (f : ContentFault) × HaveContentFault Wide place (frame ++ rest) f
frame_faulty place [] rest digit f = absurd f
frame_faulty place (w ∷ []) rest digit f = (
  fault.Word (word_fault.LeftOut w (place + 0)),
  record {
    parts = [];
    after = w ∷ rest;
    joined = tt;
    whole = refl;
    faulty = macro_faulty (place + 0) w digit rest f;
  },
)
frame_faulty place (l ∷ u ∷ frame) rest digit f =
    let t = frame_faulty (place + 2) frame rest digit f.2 in
    let p : Piece Said = record { words = l ∷ u ∷ []; what = Items [] } in
    let after : List ℕ = spelled t.1.parts ++ t.1.after in
    let same : place + 2 + length (spelled t.1.parts)
    ≡ place + length (spelled (p ∷ t.1.parts)) = omega arith in (
      t.0,
      record {
        parts = p ∷ t.1.parts;
        after = t.1.after;
        joined = (part [] (empty_run place l u f.0.0 after f.0.1 f.1) refl, t.1.joined);
        whole = ap (λ (r : List ℕ). l ∷ u ∷ r) t.1.whole;
        faulty = subst (λ (k : ℕ). IsContentFault Wide k t.1.after t.0) same t.1.faulty;
      },
    )

-- Nothing was read.
abbrev nothing_read : ContentView
nothing_read = record { head = None; items = []; marks = [] }

-- Parts of a content begin with no macro, alone or behind empty runs.
pub no_frame : (words : List ℕ) (said : List Said) → AreContentParts Wide 1 words said → BeginsNoFrame words
no_frame words said parts frame rest digit f whole =
    let g = frame_faulty 1 frame rest digit f in
    let there : HaveContentFault Wide 1 words g.0 =
    subst (λ (ws : List ℕ). HaveContentFault Wide 1 ws g.0) (sym whole) g.1 in
    let reads = parts_read Wide nothing_read 1 words said parts in
    let refuses = fault_read Wide nothing_read 1 words g.0 there in
    absurd cc

-- The codewords of a head are left out where a part would begin.
head_faulty : (words : List ℕ) (v : ℕ) (rest : List ℕ) → (v ≡ 233) ⊎ (v ≡ 234) → words ≡ v ∷ rest
    → (f : ContentFault) × HaveContentFault Wide 1 words f
head_faulty words v rest is whole = (
  fault.Word (word_fault.LeftOut v 1),
  record { parts = []; after = words; joined = tt; whole = refl; faulty = by_word is },
) where
  there : (w : ℕ) → v ≡ w → codeword_of w ≡ Some codeword.LeftOut → (w ≡ 241 → ⊥)
      → IsContentFault Wide 1 words (fault.Word (word_fault.LeftOut v 1))
  there w is k other =
      word (word_fault.LeftOut v 1)
      (λ wide more e. (let same : v ∷ rest ≡ 241 ∷ more = sym whole ∙ e in
      let eci : v ≡ 241 = cc in other (sym is ∙ eci)))
      (left_out v rest (ap codeword_of is ∙ k) whole refl) refl

  by_word : (v ≡ 233) ⊎ (v ≡ 234) → IsContentFault Wide 1 words (fault.Word (word_fault.LeftOut v 1))
  by_word (inl is) = there 233 is refl (λ e. absurd (omega (arith, e)))
  by_word (inr is) = there 234 is refl (λ e. absurd (omega (arith, e)))

-- Parts of a content begin with neither of them.
pub no_head_word : (words : List ℕ) (said : List Said) → AreContentParts Wide 1 words said → BeginsNoHeadWord words
no_head_word words said parts v rest is whole =
    let f = head_faulty words v rest is whole in
    let reads = parts_read Wide nothing_read 1 words said parts in
    let refuses = fault_read Wide nothing_read 1 words f.0 f.1 in
    absurd cc

-- Parts of a content from the first place on have nothing before them.
pub opened_plain : (extent : Extent) (words more : List ℕ) (said : List Said) → words ≡ more
    → AreContentParts extent 1 more said → AreOpened extent words Plain 1 more
opened_plain extent words more said whole parts =
    let wider = λ (wide : extent ≡ Wide). subst (λ (e : Extent). AreContentParts e 1 more said) wide parts in
    record {
      first = [];
      is_opening = opens_plain refl (λ wide. no_head_word more said (wider wide))
          (λ wide. no_frame more said (wider wide)) refl;
      whole = whole;
      place_is = refl;
    }

-- Pieces of a message, as pieces of a content.
abbrev pub as_said : List (Piece (List Item)) → List (Piece Said)
as_said [] = []
as_said (p ∷ ps) = record { words = p.words; what = Items p.what } ∷ as_said ps

-- They have the same words.
pub said_words : (ps : List (Piece (List Item))) → spelled (as_said ps) ≡ spelled ps
said_words [] = refl
said_words (p ∷ ps) = ap (λ (r : List ℕ). p.words ++ r) (said_words ps)

-- They say the same items.
pub same_items : (ps : List (Piece (List Item))) → said_items (whats (as_said ps)) ≡ gathered ps
same_items [] = refl
same_items (p ∷ ps) = ap (λ (r : List Item). p.what ++ r) (same_items ps)

-- They say no mark.
pub no_marks : (before : ℕ) (ps : List (Piece (List Item))) → said_marks before (whats (as_said ps)) ≡ []
no_marks before [] = refl
no_marks before (p ∷ ps) = no_marks (before + length p.what) ps

-- They are parts of a content.
pub said_joined : (extent : Extent) (place : ℕ) (ps : List (Piece (List Item))) (after : List ℕ)
    → AreJoined (IsPart extent) place ps after → AreJoined (IsContentPart extent) place (as_said ps) after
said_joined extent place [] after h = tt
said_joined extent place (p ∷ ps) after h = (
  part p.what (subst (λ (r : List ℕ). IsPart extent place p.words (r ++ after) p.what) (sym (said_words ps)) h.0) refl,
  said_joined extent (place + length p.words) ps after h.1,
)

-- Plain parts are plain parts of a content.
pub plainly_joined : (place : ℕ) (ps : List (Piece (List Item))) (after : List ℕ) → AreJoined IsPlainPart place ps after
    → AreJoined IsPlainSaid place (as_said ps) after
plainly_joined place [] after h = tt
plainly_joined place (p ∷ ps) after h = (
  plainly.part p.what (rw (sym (said_words ps)) at h.0) refl,
  plainly_joined (place + length p.words) ps after h.1,
)

-- Parts of a message are parts of a content.
pub said_parts : (extent : Extent) (place : ℕ) (words : List ℕ) (items : List Item)
    (p : AreParts extent place words items) → AreContentParts extent place words (whats (as_said p.parts))
said_parts extent place words items p = record {
  parts = as_said p.parts;
  after = p.after;
  joined = said_joined extent place p.parts p.after p.joined;
  ended = p.ended;
  whole = p.whole ∙ ap (λ (r : List ℕ). r ++ p.after) (sym (said_words p.parts));
  said_are = refl;
}

-- Codewords that are parts of a message spell it.
pub parts_spell : (extent : Extent) (words : List ℕ) (m : List Item) → AreParts extent 1 words m
    → Spells extent words m
parts_spell extent words m p =
    let parts = said_parts extent 1 words m p in
    record {
      opening = Plain;
      place = 1;
      more = words;
      opened = opened_plain extent words words (whats (as_said p.parts)) refl parts;
      said = whats (as_said p.parts);
      parts = parts;
      content_is = rw (same_items p.parts, no_marks 0 p.parts, ← p.items_are) refl;
    }

-- With pads behind them they say it as a content.
pub parts_say : (extent : Extent) (words : List ℕ) (m : List Item) (p : AreParts extent 1 words m)
    → ArePads words p.after → SaysThenPads extent words (as_content m)
unfolding parts_spell said_parts
parts_say extent words m p pads = record { says = parts_spell extent words m p; pads = pads }

-- Behind a macro they spell its text, in the wide extent.
pub macro_spells : (extent : Extent) (w digit : ℕ) (words more : List ℕ) (text : List Item) → extent ≡ Wide
    → codeword_of w ≡ Some (codeword.Macro digit) → words ≡ w ∷ more → AreParts extent 2 more text
    → Spells extent words (macro_text digit text)
macro_spells extent w digit words more text wide k whole p = record {
  opening = Framed digit;
  place = 2;
  more = more;
  opened = record {
    first = w ∷ [];
    is_opening = framed digit wide k refl;
    whole = whole;
    place_is = refl;
  };
  said = whats (as_said p.parts);
  parts = said_parts extent 2 more text p;
  content_is = rw (same_items p.parts, no_marks 7 p.parts, ← p.items_are) refl;
}

-- So a macro spells its text in the wide extent.
pub macro_short : (digit : ℕ) (words : List ℕ) (text : List Item) → AreMacro digit words text
    → Spells Wide words (macro_text digit text)
macro_short digit words text m = macro_spells Wide m.word digit words m.more text refl m.is_macro m.whole m.spelled
