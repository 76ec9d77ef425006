-- The opening that is found first is the one of the definition.
use Rattle.dm_words.proofs.Names.{drop-cons, ◌≡◌, ℕ, zero, suc, ◌+◌, ◌≤◌, List, [], ◌∷◌, ◌++◌, length, drop, refl, sym}
use Rattle.dm_words.proofs.Names.{ap, subst, ◌∙◌, arith, Bool, true, false, cond, Option, Some, None, inl, ◌==◌}
use Rattle.dm_words.proofs.Names.{◌&&◌, slice_get, nat_tests, Codeword, CodeSet, Extent, Usual, Wide, Head, Opened}
use Rattle.dm_words.proofs.Names.{Opening, Plain, codeword_of, SpellsHead, programming, appended, inr}
use Rattle.dm_words.proofs.Names.{append-nil, closing_items, opening_head, opening_items, said_content, said_items}
use Rattle.dm_words.proofs.Names.{said_marks, Said, Headed, Framed}
use Rattle.dm_words.proofs.Names.{AreFrame, BeginsNoFrame, BeginsNoHeadWord, IsOpening}
use Rattle.dm_words.proofs.Names.{headed, framed, plain, is_one_word, append_by, first_head, head_length, moved, opened}
use Rattle.std.proofs.lemmas.Option.{slice_get_within, get_or_from_slice_get}
use Rattle.dm_words.specs.declared.codeword.Codeword.TheVariants as codeword
use Rattle.dm_words.specs.declared.contents.opening.Frame.{Frame}
use Rattle.dm_words.specs.inner.Scan.Prefixes.{digit_by, begins_with_one_word}
use Rattle.dm_words.specs.inner.ContentScan.{is_latch, is_empty_run, frame_by, first_frame, begins_append, opened_by}
use Rattle.dm_words.proofs.Heads.{BeginsNoHead}
use Rattle.dm_words.proofs.Heads as heads
use Rattle.dm_words.proofs.ContentParts.{not_wide}

-- ---- frames

-- The words begin with the frame that was found.
record FrameFound (words : List ℕ) (f : Frame) : Type 0 where
  first : List ℕ
  more : List ℕ
  is_frame : AreFrame first f.digit
  whole : words ≡ first ++ more
  count : f.count ≡ length first

-- What is found is right.
abbrev FrameJudged : List ℕ → Option Frame → Type 0
FrameJudged words None = Unit {0}
FrameJudged words (Some f) = FrameFound words f

-- A codeword whose meaning has a digit is a macro.
digit_is : (k : Option Codeword) (digit : ℕ) → digit_by k ≡ Some digit → k ≡ Some (codeword.Macro digit)
digit_is k digit h1 = grind (arith, nat_tests)

-- A macro is a frame.
one_macro : (w d : ℕ) (more : List ℕ) → digit_by (codeword_of w) ≡ Some d
    → FrameJudged (w ∷ more) (Some (record { count = 1; digit = d }))
one_macro w d more e = record {
  first = w ∷ [];
  more = more;
  is_frame = digit_is (codeword_of w) d e;
  whole = refl;
  count = refl;
}

-- A codeword that meets the test is a latch.
latch_is : (k : Option Codeword) → is_latch k ≡ true → (set : CodeSet) × (k ≡ Some (codeword.Latch set))
latch_is (Some (codeword.Latch set)) e = (set, refl)
latch_is k e = absurd cc

-- An empty run before a frame makes a frame.
one_more_run : (w n : ℕ) (more : List ℕ) (o : Option Frame) → is_latch (codeword_of w) ≡ true → n ≡ 254
    → FrameJudged more o → FrameJudged (w ∷ n ∷ more) (moved 2 o)
one_more_run w n more None latch is j = tt
one_more_run w n more (Some f) latch is j =
    record {
      first = w ∷ n ∷ j.first;
      more = j.more;
      is_frame = (latch_is (codeword_of w) latch, is, j.is_frame);
      whole = ap (λ (r : List ℕ). w ∷ n ∷ r) j.whole;
      count = omega (arith, j.count);
    }

-- What is found of the words is right.
frame_judged : (words : List ℕ) → FrameJudged words (first_frame words)
unfolding first_frame
frame_judged [] = tt
frame_judged (w ∷ []) = grind (arith, nat_tests, digit_by, codeword_of, frame_by, one_macro)
frame_judged (w ∷ n ∷ more) =
    by_digit (digit_by (codeword_of w)) (is_latch (codeword_of w)) (n == 254) refl refl refl
    (frame_judged more) where
      by_digit : (o : Option ℕ) (l u : Bool) → digit_by (codeword_of w) ≡ o → is_latch (codeword_of w) ≡ l
          → (n == 254) ≡ u → FrameJudged more (first_frame more)
          → FrameJudged (w ∷ n ∷ more) (frame_by o (cond (l && u) (moved 2 (first_frame more)) None))
      by_digit (Some d) l u e el eu j = one_macro w d (n ∷ more) e
      by_digit None true true e el eu j = one_more_run w n more (first_frame more) el (grind (arith, nat_tests)) j
      by_digit None true false e el eu j = tt
      by_digit None false u e el eu j = tt

-- A frame that is found is there.
frame_found : (words : List ℕ) (f : Frame) → first_frame words ≡ Some f → FrameFound words f
frame_found words f e = let P : Option Frame → Type 0 = λ o. FrameJudged words o in subst P e (frame_judged words)

-- A macro is found.
macro_complete : (w : ℕ) (more : List ℕ) (digit : ℕ) → codeword_of w ≡ Some (codeword.Macro digit)
    → first_frame (w ∷ more) ≡ Some (record { count = 1; digit = digit })
unfolding first_frame
macro_complete w [] digit k = rw k refl
macro_complete w (n ∷ more) digit k = rw k refl

-- A frame that is there is found.
frame_complete : (words more : List ℕ) (digit : ℕ) → AreFrame words digit → first_frame (words ++ more)
    ≡ Some (record { count = length words; digit = digit })
unfolding first_frame
frame_complete [] more digit f = absurd f
frame_complete (w ∷ []) more digit f = macro_complete w more digit f
frame_complete (l ∷ u ∷ words) more digit f = grind (arith, nat_tests, frame_complete words more digit f.2)

-- A frame has a macro.
pub frame_macro : (words : List ℕ) (digit : ℕ) → AreFrame words digit
    → (w : ℕ) × (codeword_of w ≡ Some (codeword.Macro digit)) × (1 ≤ length words)
frame_macro [] digit f = absurd f
frame_macro (w ∷ []) digit f = (w, f, omega arith)
frame_macro (l ∷ u ∷ words) digit f = (let m = frame_macro words digit f.2 in (m.0, m.1, omega arith))

-- A frame of one codeword is a macro.
pub frame_alone : (words : List ℕ) (digit : ℕ) → AreFrame words digit → length words ≡ 1
    → (w : ℕ) × (codeword_of w ≡ Some (codeword.Macro digit)) × (words ≡ w ∷ [])
frame_alone [] digit f one = absurd f
frame_alone (w ∷ []) digit f one = (w, f, refl)
frame_alone (l ∷ u ∷ words) digit f one = absurd (omega arith)

-- ---- openings

-- Behind an opening, parts say its head, and its items before and behind theirs.
pub said_behind : (opening : Opening) (said : List Said) → said_content opening said
    ≡ record {
      head = opening_head opening;
      items = opening_items opening ++ (said_items said ++ closing_items opening);
      marks = said_marks (length (opening_items opening)) said;
    }
said_behind Plain said = rw (append-nil (said_items said)) refl
said_behind (Headed head) said = rw (append-nil (said_items said)) refl
said_behind (Framed digit) said = refl

-- The words open with what was found.
pub record OpeningFound (extent : Extent) (words : List ℕ) (f : Opened) : Type 0 where
  pub first : List ℕ
  pub more : List ℕ
  pub is_opening : IsOpening extent first more f.opening
  pub whole : words ≡ first ++ more
  pub count : f.count ≡ length first

-- The words begin with structured append and no head, in the wide extent.
pub record HasNoHead (extent : Extent) (words : List ℕ) : Type 0 where
  pub wide : extent ≡ Wide
  pub more : List ℕ
  pub whole : words ≡ 233 ∷ more
  pub none : BeginsNoHead words

-- What is found is right.
abbrev pub OpeningJudged : Extent → List ℕ → Option Opened → Type 0
OpeningJudged extent words None = HasNoHead extent words
OpeningJudged extent words (Some f) = OpeningFound extent words f

-- Words that begin with structured append.
append_is : (words : List ℕ) → begins_append words ≡ true → (more : List ℕ) × (words ≡ 233 ∷ more)
append_is [] e = absurd cc
append_is (w ∷ more) e = (let is : w ≡ 233 = grind (arith, nat_tests) in (more, ap (λ (x : ℕ). x ∷ more) is))

-- Where no head is found and the words don't begin with structured append, they begin with none of its two codewords.
no_head_word : (words : List ℕ) → first_head words ≡ None → begins_append words ≡ false → BeginsNoHeadWord words
no_head_word words h1 h2 word rest is whole = grind (arith, nat_tests, begins_append)

-- Where no frame is found, the words begin with none.
no_frame : (words : List ℕ) → first_frame words ≡ None → BeginsNoFrame words
no_frame words e frame rest digit f whole =
    let c = frame_complete frame rest digit f in
    let w : first_frame words ≡ first_frame (frame ++ rest) = ap first_frame whole in
    absurd cc

-- What is found by the head and the frame is right.
judged_by : (words : List ℕ) (h : Option Head) (a : Bool) (f : Option Frame) → first_head words ≡ h
    → begins_append words ≡ a → first_frame words ≡ f
    → OpeningJudged Wide words (opened_by h a f)
judged_by words (Some said) a f eh ea ef =
    let b = heads.found words said eh in
    record {
      first = b.first;
      more = b.more;
      is_opening = headed said refl b.spells refl;
      whole = b.whole;
      count = b.count;
    }
judged_by words None true f eh ea ef =
    (let b = append_is words ea in record { wide = refl; more = b.0; whole = b.1; none = heads.none_begins words eh })
judged_by words None false (Some f) eh ea ef =
    let b = frame_found words f ef in
    record {
      first = b.first;
      more = b.more;
      is_opening = framed f.digit refl b.is_frame refl;
      whole = b.whole;
      count = b.count;
    }
judged_by words None false None eh ea ef =
    record {
      first = [];
      more = words;
      is_opening = plain refl (λ wide. no_head_word words eh ea) (λ wide. no_frame words ef) refl;
      whole = refl;
      count = refl;
    }

-- What is found of the words is right.
pub judged : (extent : Extent) (words : List ℕ) → OpeningJudged extent words (opened extent words)
judged Usual words = record {
  first = [];
  more = words;
  is_opening = plain refl (λ wide. absurd (not_wide wide)) (λ wide. absurd (not_wide wide)) refl;
  whole = refl;
  count = refl;
}
judged Wide words = judged_by words (first_head words) (begins_append words) (first_frame words) refl refl refl

-- What opens with a latch or a macro has no head and no structured append.
record OpensOtherwise (words : List ℕ) : Type 0 where
  head : first_head words ≡ None
  append : begins_append words ≡ false

-- A codeword that isn't left out is neither structured append nor reader programming.
opens_otherwise : (w : ℕ) (more : List ℕ) (k : Codeword) → codeword_of w ≡ Some k → (k ≡ codeword.LeftOut → ⊥)
    → OpensOtherwise (w ∷ more)
opens_otherwise w more k e not = grind (arith, nat_tests, codeword_of)

-- A frame opens so.
frame_opens : (words more : List ℕ) (digit : ℕ) → AreFrame words digit → OpensOtherwise (words ++ more)
frame_opens [] more digit f = absurd f
frame_opens (w ∷ []) more digit f = opens_otherwise w more (codeword.Macro digit) f (λ is. cc)
frame_opens (l ∷ u ∷ words) more digit f =
    opens_otherwise l (u ∷ (words ++ more)) (codeword.Latch f.0.0) f.0.1 (λ is. cc)

-- A head has as many codewords as it takes.
head_count : (words : List ℕ) (said : Head) → SpellsHead words said → head_length said ≡ length words
head_count words said h1 = grind (arith, nat_tests)

-- A head begins with one of its two codewords.
head_begins : (words first more : List ℕ) (said : Head) → SpellsHead first said → words ≡ first ++ more
    → BeginsNoHeadWord words → ⊥
head_begins words first more said (programming e is) whole none =
    none 234 more (inr refl) (whole ∙ ap (λ (l : List ℕ). l ++ more) e)
head_begins words first more said (appended q s right i c e is) whole none =
    none 233 (q ∷ s.file_high ∷ s.file_low ∷ more) (inl refl) (whole ∙ ap (λ (l : List ℕ). l ++ more) e)

-- Words that begin with neither a head nor a frame open with nothing.
plain_by : (words : List ℕ) (h : Option Head) (a : Bool) (f : Option Frame) → first_head words ≡ h
    → begins_append words ≡ a → first_frame words ≡ f → BeginsNoHeadWord words → BeginsNoFrame words
    → opened_by h a f ≡ Some (record { opening = Plain; count = 0 })
plain_by words (Some said) a f eh ea ef no_head no_frame_there =
    (let b = heads.found words said eh in absurd (head_begins words b.first b.more said b.spells b.whole no_head))
plain_by words None true f eh ea ef no_head no_frame_there =
    (let b = append_is words ea in absurd (no_head 233 b.0 (inl refl) b.1))
plain_by words None false (Some f) eh ea ef no_head no_frame_there =
    (let b = frame_found words f ef in absurd (no_frame_there b.first b.more f.digit b.is_frame b.whole))
plain_by words None false None eh ea ef no_head no_frame_there = refl

-- An opening that is there is found.
pub complete : (extent : Extent) (words more : List ℕ) (opening : Opening) → IsOpening extent words more opening
    → opened extent (words ++ more) ≡ Some (record { opening = opening; count = length words })
complete extent words more opening (headed said wide s is) =
    rw (wide, is, heads.head_complete words more said s, head_count words said s) refl
complete extent words more opening (framed digit wide f is) =
    let o = frame_opens words more digit f in
    rw (wide, is, o.head, o.append, frame_complete words more digit f) refl
complete Usual words more opening (plain e no_head no_frame_there is) = rw (e, is) refl
complete Wide words more opening (plain e no_head no_frame_there is) =
    rw (e, is) (plain_by more (first_head more) (begins_append more) (first_frame more) refl refl refl (no_head refl)
    (no_frame_there refl))

-- Where structured append begins no head, nothing opens.
pub no_head_complete : (words more : List ℕ) → words ≡ 233 ∷ more → BeginsNoHead words → opened Wide words ≡ None
no_head_complete words more e none = grind (arith, heads.none_found, first_head, begins_append)

-- ---- the loop that goes over empty runs

-- A codeword that is there begins the words from its index on.
word_there : (words : List ℕ) (at w : ℕ) → slice_get words at ≡ Some w → drop at words ≡ w ∷ drop (suc at) words
word_there words at w e = drop-cons words at 0 (slice_get_within words at w e)
    ∙ ap (λ (x : ℕ). x ∷ drop (suc at) words) (get_or_from_slice_get words at w 0 e)

-- Frames that are moved in two steps are moved in one.
moved-moved : (a b c : ℕ) (o : Option Frame) → a + b ≡ c → moved a (moved b o) ≡ moved c o
moved-moved a b c o h1 = grind (arith, nat_tests)

-- What begins the words from an index on stands there.
at_first : (words : List ℕ) (at n : ℕ) (more : List ℕ) → drop at words ≡ n ∷ more → slice_get words at ≡ Some n
at_first [] zero n more e = absurd cc
at_first [] (suc at) n more e = absurd cc
at_first (w ∷ words) zero n more e = (let same : w ≡ n = cc in ap Some same)
at_first (w ∷ words) (suc at) n more e = at_first words at n more e

-- What begins the words behind an index stands at the next one.
at_index : (words : List ℕ) (at n : ℕ) (more : List ℕ) → drop (suc at) words ≡ n ∷ more → slice_get words (at + 1)
    ≡ Some n
at_index words at n more h1 = grind (arith, nat_tests, at_first)

-- Where a macro comes next, the frame ends behind it.
pub macro_next : (words : List ℕ) (at w d : ℕ) (total : Option Frame) → slice_get words at ≡ Some w
    → digit_by (codeword_of w) ≡ Some d
    → total ≡ moved at (first_frame (drop at words)) → Some (record { count = at + 1; digit = d }) ≡ total
unfolding first_frame
macro_next words at w d total e m so_far =
    let here = word_there words at w e in
    by_more (drop (suc at) words) here where
      by_more : (more : List ℕ) → drop at words ≡ w ∷ more → Some (record { count = at + 1; digit = d }) ≡ total
      by_more [] here = sym (so_far ∙ rw (here, m) refl)
      by_more (n ∷ more) here = sym (so_far ∙ rw (here, m) refl)

-- Where neither a macro nor an empty run comes next, there is no frame.
pub none_next : (words : List ℕ) (at w : ℕ) (next : Option ℕ) (total : Option Frame) → slice_get words at ≡ Some w
    → slice_get words (at + 1) ≡ next
    → digit_by (codeword_of w) ≡ None → is_empty_run (codeword_of w) next ≡ false → total
    ≡ moved at (first_frame (drop at words)) → None ≡ total
unfolding first_frame
none_next words at w next total e f m r so_far = by_more (drop (suc at) words) (word_there words at w e) refl where
  by_more : (more : List ℕ) → drop at words ≡ w ∷ more → drop (suc at) words ≡ more → None ≡ total
  by_more [] here rest = sym (so_far ∙ rw (here, m) refl)
  by_more (n ∷ more) here rest =
      let there : next ≡ Some n = sym f ∙ at_index words at n more rest in
      let run : is_empty_run (codeword_of w) (Some n) ≡ false = ap (is_empty_run (codeword_of w)) (sym there) ∙ r in
      sym (so_far ∙ rw (here, m, run) refl)

-- Where an empty run comes next, the search goes on behind it.
pub run_next : (words : List ℕ) (at w : ℕ) (next : Option ℕ) (total : Option Frame) → slice_get words at ≡ Some w
    → slice_get words (at + 1) ≡ next
    → digit_by (codeword_of w) ≡ None → is_empty_run (codeword_of w) next ≡ true → total
    ≡ moved at (first_frame (drop at words))
    → (at + 2 ≤ length words) × (total ≡ moved (at + 2) (first_frame (drop (at + 2) words)))
unfolding first_frame
run_next words at w None total e f m r so_far = absurd cc
run_next words at w (Some n) total e f m r so_far =
    let within = slice_get_within words (at + 1) n f in
    let one : suc at ≡ at + 1 = omega arith in
    let two : suc (at + 1) ≡ at + 2 = omega arith in
    let behind : drop (suc at) words ≡ n ∷ drop (at + 2) words = cc (word_there words (at + 1) n f) in
    let here : drop at words ≡ w ∷ n ∷ drop (at + 2) words = word_there words at w e
    ∙ ap (λ (l : List ℕ). w ∷ l) behind in (
      omega (arith, within),
      so_far
          ∙ rw (here, m, r) (moved-moved at 2 (at + 2) (first_frame (drop (at + 2) words)) refl),
    )

-- At the end there is no frame.
pub none_at_end : (words : List ℕ) (at : ℕ) (total : Option Frame) → slice_get words at ≡ None → total
    ≡ moved at (first_frame (drop at words)) → None ≡ total
unfolding first_frame
none_at_end words at total h1 h2 = grind (arith, nat_tests, at_first)

-- ---- a first codeword that is a part by itself

-- A codeword that is a part by itself is neither a macro nor a latch.
alone_is : (k : Option Codeword) → is_one_word k ≡ true → (digit_by k ≡ None) × (is_latch k ≡ false)
alone_is k h1 = grind (arith, nat_tests)

-- It begins no frame.
no_frame_alone : (w : ℕ) (more : List ℕ) → digit_by (codeword_of w) ≡ None → is_latch (codeword_of w) ≡ false
    → first_frame (w ∷ more) ≡ None
unfolding first_frame
no_frame_alone w more h1 h2 = grind (arith, nat_tests, frame_by)

-- It isn't structured append or reader programming.
alone_other : (w v : ℕ) → is_one_word (codeword_of w) ≡ true → is_one_word (codeword_of v) ≡ false → w ≡ v → ⊥
alone_other w v e f is = (let g : true ≡ false = sym e ∙ ap (λ (x : ℕ). is_one_word (codeword_of x)) is ∙ f in cc)

no_head_alone : (w : ℕ) (more : List ℕ) → (w ≡ 233 → ⊥) → (w ≡ 234 → ⊥) → first_head (w ∷ more) ≡ None
no_head_alone w more h1 h2 = grind (arith, nat_tests, append_by, slice_get)

-- Where it is the first one, nothing opens the content.
pub alone_opens : (words : List ℕ) → begins_with_one_word words ≡ true
    → (let o : Opened = record { opening = Plain; count = 0 } in Some o) ≡ opened Wide words
alone_opens words h1 =
    grind (arith, nat_tests, alone_is, codeword_of, alone_other, opened_by, first_frame, no_head_alone, no_frame_alone)
