-- Which number plain codewords have, by their first two: it is that of the codewords with which they keep the sign.
use Rattle.dm_words.proofs.Names.{◌≡◌, ◌⊎◌, inl, inr, ℕ, suc, ◌+◌, ◌-◌, ◌*◌, ◌/◌, ◌%◌, ◌<◌, ◌≤◌, List, [], ◌∷◌, ◌++◌}
use Rattle.dm_words.proofs.Names.{length, map, refl, sym, ap, subst, ◌∙◌, arith, Bool, true, false, cond, ltb, Option}
use Rattle.dm_words.proofs.Names.{Some, length-append, append_assoc, ◌==◌, ◌&&◌, AllByRecursion, nat_tests, Codeword}
use Rattle.dm_words.proofs.Names.{CodeSet, Usual, Item, Byte, Fnc1, IsAsciiUnit, character, digits, fnc1, raised}
use Rattle.dm_words.proofs.Names.{is_digit, digit_pair, codeword_of, IsGroup, IsEdifactRun, IsEdifactEnd, few_left}
use Rattle.dm_words.proofs.Names.{first, second, third, fourth, edifact_byte, Piece, spelled, gathered, whats}
use Rattle.dm_words.proofs.Names.{AreJoined, Said, Items, Number, BeginsFnc1, byte_items, IsPlainPart, IsPlainSaid}
use Rattle.dm_words.proofs.Names.{IsRun, IsEnd, pad, IsSpelling, fnc1_number, is_alone, sign_words}
use Rattle.dm_words.specs.declared.codeword.Codeword.TheVariants as codeword
use Rattle.dm_words.specs.Plain.{part, mark}
use Rattle.dm_words.specs.Plain as plainly
use Rattle.dm_words.specs.Parts.{nothing}
use Rattle.dm_words.proofs.AsciiWords.{character_is, character_of, digits_of}
use Rattle.dm_words.proofs.Fnc1Places.{other_word}
use Rattle.dm_words.proofs.Runs.{pairs_room}
use Rattle.dm_words.proofs.SpellingCounts.{spelling_count, held}

-- Items up to the first mark are said first.
abbrev pub first_said : List Said → List Item
first_said [] = []
first_said (Items items ∷ said) = items ++ first_said said
first_said (Number number ∷ said) = []

-- ---- a first codeword that is none

-- A codeword before which FNC1 isn't alone, in what follows it.
abbrev IsNoSign : Option Codeword → List ℕ → Type 0
IsNoSign k [] = Unit {0}
IsNoSign k (next ∷ rest) = (next == 232) && is_alone k (length rest) ≡ false

-- It is no sign.
no_first : (w : ℕ) (rest : List ℕ) (k : Codeword) → codeword_of w ≡ Some k → (k ≡ codeword.Fnc1 → ⊥)
    → IsNoSign (Some k) rest → fnc1_number (w ∷ rest) ≡ 1
no_first w rest k is other none = by_rest rest none (w == 232) refl where
  by_rest : (rest : List ℕ) → IsNoSign (Some k) rest → (t : Bool) → (w == 232) ≡ t → fnc1_number (w ∷ rest) ≡ 1
  by_rest rest none true e = absurd (other_word w k is other e)
  by_rest [] none false e = rw e refl
  by_rest (next ∷ rest) none false e =
      ap (λ (t : Bool). cond t 2 (cond ((next == 232) && is_alone (codeword_of w) (length rest)) 3 1)) e
      ∙ ap (λ (o : Option Codeword). cond ((next == 232) && is_alone o (length rest)) 3 1) is
      ∙ ap (λ (t : Bool). cond t 3 1) none

-- So it is where none stands before others.
never_alone : (k : Codeword) (rest : List ℕ) → ((n : ℕ) → is_alone (Some k) n ≡ false) → IsNoSign (Some k) rest
never_alone k rest h1 = grind (arith, nat_tests, rest)

-- And where another codeword than 232 follows.
other_next : (k : Codeword) (rest : List ℕ) → ((more : List ℕ) → rest ≡ 232 ∷ more → ⊥) → IsNoSign (Some k) rest
other_next k rest h1 = grind (arith, nat_tests, is_alone, rest)

-- And where more codewords follow than would end a run.
more_follow : (k : Codeword) (n : ℕ) (rest : List ℕ) → n < length rest
    → ((m : ℕ) → n ≤ m → is_alone (Some k) m ≡ false) → IsNoSign (Some k) rest
more_follow k n rest h1 h2 = grind (arith, nat_tests, rest)

-- ---- parts that begin with FNC1

-- A part that begins with 232 says FNC1 first.
unit_fnc1 : (words more : List ℕ) (items : List Item) → IsAsciiUnit words items → (after : List ℕ)
    → words ++ after ≡ 232 ∷ more → BeginsFnc1 items
unit_fnc1 words more items h1 after h2 = grind (arith, nat_tests, codeword_of)

-- A codeword with another meaning isn't 232.
not_fnc1 : (w : ℕ) (k : Codeword) (words rest after more : List ℕ) → codeword_of w ≡ Some k
    → (k ≡ codeword.Fnc1 → ⊥) → words ≡ w ∷ rest → words ++ after ≡ 232 ∷ more → ⊥
not_fnc1 w k words rest after more h1 h2 h3 h4 = grind (arith, nat_tests)

part_fnc1 : (place : ℕ) (words follow more after : List ℕ) (items : List Item)
    → IsPlainPart place words follow items → words ++ after ≡ 232 ∷ more → BeginsFnc1 items
part_fnc1 place words follow more after items h1 h2 = grind (arith, nat_tests, unit_fnc1, not_fnc1)

begins_more : (items more : List Item) → BeginsFnc1 items → BeginsFnc1 (items ++ more)
begins_more items more h1 = grind (arith, nat_tests)

said_fnc1 : (place : ℕ) (words follow more after : List ℕ) (said : Said) (others : List Said)
    → IsPlainSaid place words follow said → words ++ after ≡ 232 ∷ more → BeginsFnc1 (first_said (said ∷ others))
said_fnc1 place words follow more after said others h1 h2 =
    grind (arith, nat_tests, begins_more, first_said, part_fnc1, not_fnc1)

-- So do parts that are joined, before an end.
pub joined_fnc1 : (place : ℕ) (ps : List (Piece Said)) (after more : List ℕ) → AreJoined IsPlainSaid place ps after
    → IsEnd after → spelled ps ++ after ≡ 232 ∷ more → BeginsFnc1 (first_said (whats ps))
joined_fnc1 place [] after more h (nothing none) is = absurd (let n = ap length (sym none ∙ is) in omega (arith, n))
joined_fnc1 place [] after more h (pad w rest k e) is =
    let same : w ≡ 232 = cc in
    absurd (let g : Some codeword.Pad ≡ Some codeword.Fnc1 = sym k ∙ ap codeword_of same in cc)
joined_fnc1 place (p ∷ ps) after more h ended is =
    said_fnc1 _ _ _ more (spelled ps ++ after) _ (whats ps) h.0 (sym (append_assoc p.words (spelled ps) after) ∙ is)

-- ---- how long parts are

-- A run of some items has some pairs.
run_long : (set : CodeSet) (words after : List ℕ) (items : List Item) (r : IsRun Usual set words after items)
    → 0 < length items → 2 ≤ length (spelled r.pairs)
run_long set words after items r some =
    omega (
      arith,
      pairs_room r.pairs r.each,
      ap length r.values,
      length-append (spelled r.spellings) r.filler,
      by_spellings r.spellings r.each_spelling (ap length r.items_are),
    ) where
      by_spellings : (q : List (Piece Item)) → AllByRecursion (λ piece. IsSpelling set piece.words piece.what) q
          → length items ≡ length (whats q) → 1 ≤ length (spelled q)
      by_spellings [] each e = absurd (omega (arith, e, some))
      by_spellings (s ∷ q) each e =
          omega (
            arith,
            spelling_count set s.words s.what each.0,
            (held set s.words s.what each.0).some,
            length-append s.words (spelled q),
          )

-- A run of EDIFACT of some items has, with what follows, three codewords behind its latch.
edifact_long : (words after : List ℕ) (items : List Item) (r : IsEdifactRun words after items) → 0 < length items
    → 4 ≤ length words + length after
edifact_long words after items r some =
    by_groups r.groups r.each (ap length r.whole) (ap length r.items_are) where
      group_long : (ws vs : List ℕ) → IsGroup ws vs → length ws ≡ 3
      group_long ws vs g = ap length g.words_are

      count : (vs : List ℕ) → length (byte_items (map edifact_byte vs)) ≡ length vs
      count [] = refl
      count (v ∷ vs) = ap suc (count vs)

      by_end : (e : IsEdifactEnd r.end after r.last) → 0 < length r.last → 3 ≤ length r.end + length after
      by_end (few_left a b c) some = absurd (omega (arith, ap length b, some))
      by_end (first w x a b c d e) some = absurd (omega (arith, ap length d, some))
      by_end (second h l v x a b c d e f g) some = omega (arith, ap length e, g)
      by_end (third a b c g d) some = omega (arith, group_long _ _ g)
      by_end (fourth a b c g d) some = omega (arith, group_long _ _ g)

      by_groups : (gs : List (Piece (List ℕ))) → AllByRecursion (λ piece. IsGroup piece.words piece.what) gs
          → length words ≡ suc (length (spelled gs ++ r.end))
          → length items ≡ length (byte_items (map edifact_byte (gathered gs ++ r.last)))
          → 4 ≤ length words + length after
      by_groups [] each long is =
          omega (arith, long, by_end r.ended (omega (arith, is, count r.last, some)))
      by_groups (g ∷ gs) each long is =
          omega (
            arith,
            long,
            group_long g.words g.what each.0,
            length-append (g.words ++ spelled gs) r.end,
            length-append g.words (spelled gs),
          )

-- ---- the number

-- Where the items up to the first mark have no sign, the number is 1.
module _ (place : ℕ) (p : Piece Said) (ps : List (Piece Said)) (after : List ℕ)
    (h : AreJoined IsPlainSaid (place + length p.words) ps after) (ended : IsEnd after) where
  abbrev rest : List ℕ
  rest = spelled ps ++ after

  -- FNC1 isn't next where it isn't said next.
  no_next : (BeginsFnc1 (first_said (whats ps)) → ⊥) → (more : List ℕ) → rest ≡ 232 ∷ more → ⊥
  no_next none more e = none (joined_fnc1 (place + length p.words) ps after more h ended e)

  by_unit : (words : List ℕ) (items : List Item) → IsAsciiUnit words items
      → sign_words (items ++ first_said (whats ps)) ≡ [] → fnc1_number (words ++ rest) ≡ 1
  by_unit words items (character w b k e i) none =
      rw e (no_first w rest (codeword.Character b) k (λ f. cc)
      (other_next (codeword.Character b) rest
      (no_next (before (first_said (whats ps)) (rw i at none))))) where
        before : (m : List Item) → sign_words (Byte b ∷ m) ≡ [] → BeginsFnc1 m → ⊥
        before [] s f = f
        before (Byte c ∷ m) s f = f
        before (Fnc1 ∷ m) s f =
            let low : ltb b 128 ≡ true = (let c = character_is w b k in grind (arith, nat_tests)) in
            let l = ap length (rw low at s) in omega (arith, l)
  by_unit words items (digits w n k e i) none =
      rw e (no_first w rest (codeword.Digits n) k (λ f. cc)
      (other_next (codeword.Digits n) rest
      (no_next (before (first_said (whats ps)) (rw i at none))))) where
        before : (m : List Item) → sign_words (Byte (48 + n / 10) ∷ Byte (48 + n % 10) ∷ m) ≡ [] → BeginsFnc1 m → ⊥
        before [] s f = f
        before (Byte c ∷ m) s f = f
        before (Fnc1 ∷ m) s f =
            let tens : is_digit (48 + n / 10) ≡ true = grind (arith, nat_tests) in
            let ones : is_digit (48 + n % 10) ≡ true = grind (arith, nat_tests) in
            let l = ap length (rw (tens, ones) at s) in omega (arith, l)
  by_unit words items (fnc1 w k e i) none = absurd (let l = ap length (rw i at none) in omega (arith, l))
  by_unit words items (raised s w b k l e i) none =
      rw e (no_first s (w ∷ rest) codeword.UpperShift k (λ f. cc)
      (never_alone codeword.UpperShift (w ∷ rest) (λ n. refl)))

  by_part : (words : List ℕ) (items : List Item) → IsPlainPart place words rest items
      → sign_words (items ++ first_said (whats ps)) ≡ [] → fnc1_number (words ++ rest) ≡ 1
  by_part words items (plainly.ascii u) none = by_unit words items u none
  by_part words items (plainly.run set r e some) none =
      let long = run_long set words rest items r some in
      let tail = spelled r.pairs ++ r.end in
      rw r.whole (no_first r.latch (tail ++ rest) (codeword.Latch set) r.is_latch (λ f. cc)
      (more_follow (codeword.Latch set) 1 (tail ++ rest)
      (omega (arith, long, length-append tail rest, length-append (spelled r.pairs) r.end))
      (λ m le. grind (arith, nat_tests))))
  by_part words items (plainly.segment s some) none =
      rw s.whole (no_first s.latch _ codeword.Base256 s.is_latch (λ f. cc) (never_alone codeword.Base256 _ (λ n. refl)))
  by_part words items (plainly.edifact r some) none =
      let long = edifact_long words rest items r some in
      let tail = spelled r.groups ++ r.end in
      rw r.whole (no_first r.latch (tail ++ rest) codeword.Edifact r.is_latch (λ f. cc)
      (more_follow codeword.Edifact 2 (tail ++ rest)
      (omega (arith, long, ap length r.whole, length-append tail rest))
      (λ m le. grind (arith, nat_tests))))

  by_said : (words : List ℕ) (said : Said) → IsPlainSaid place words rest said
      → sign_words (first_said (said ∷ whats ps)) ≡ [] → fnc1_number (words ++ rest) ≡ 1
  by_said words said (part items q is) none =
      by_part words items q (subst (λ (s : Said). sign_words (first_said (s ∷ whats ps)) ≡ []) is none)
  by_said words said (mark d n is whole all) none =
      rw whole (no_first 241 (d ++ rest) codeword.LeftOut refl (λ f. cc)
      (never_alone codeword.LeftOut (d ++ rest) (λ m. refl)))

unsigned : (place : ℕ) (ps : List (Piece Said)) (after : List ℕ) → AreJoined IsPlainSaid place ps after → IsEnd after
    → sign_words (first_said (whats ps)) ≡ [] → fnc1_number (spelled ps ++ after) ≡ 1
unsigned place [] after h (nothing none) s = rw none refl
unsigned place [] after h (pad w rest k e) s =
    rw e (no_first w rest codeword.Pad k (λ f. cc) (never_alone codeword.Pad rest (λ n. refl)))
unsigned place (p ∷ ps) after h ended s =
    rw (append_assoc p.words (spelled ps) after) (by_said place p ps after h.1 ended p.words p.what h.0 s)

-- A sign is FNC1 alone, or behind one codeword of ASCII.
signs : (m : List Item) → (sign_words m ≡ []) ⊎ (sign_words m ≡ 232 ∷ []) ⊎
    ((w : ℕ) × (sign_words m ≡ w ∷ 232 ∷ []) × ((n : ℕ) → is_alone (codeword_of w) n ≡ true))
signs [] = inl refl
signs (Fnc1 ∷ m) = inr (inl refl)
signs (Byte b ∷ []) = inl refl
signs (Byte b ∷ Byte c ∷ []) = inl refl
signs (Byte b ∷ Byte c ∷ Byte d ∷ m) = inl refl
signs (Byte b ∷ Fnc1 ∷ m) = by_test (ltb b 128) refl where
  by_test : (t : Bool) → ltb b 128 ≡ t → let s = cond t ((b + 1) ∷ 232 ∷ []) [] in (s ≡ []) ⊎ (s ≡ 232 ∷ []) ⊎
      ((w : ℕ) × (s ≡ w ∷ 232 ∷ []) × ((n : ℕ) → is_alone (codeword_of w) n ≡ true))
  by_test false e = inl refl
  by_test true e =
      let low : b < 128 = grind (arith, nat_tests) in
      inr (inr (b + 1, refl, (λ n. rw (character_of b low) refl)))
signs (Byte b ∷ Byte c ∷ Fnc1 ∷ m) = both (is_digit b) (is_digit c) refl refl where
  both : (t u : Bool) → is_digit b ≡ t → is_digit c ≡ u → let s = cond (t && u) (digit_pair b c ∷ 232 ∷ []) [] in
      (s ≡ []) ⊎ (s ≡ 232 ∷ []) ⊎
      ((w : ℕ) × (s ≡ w ∷ 232 ∷ []) × ((n : ℕ) → is_alone (codeword_of w) n ≡ true))
  both true true eb ec =
      let small : 10 * (b - 48) + (c - 48) < 100 = grind (arith, nat_tests) in
      inr (inr (digit_pair b c, refl, (λ n. rw (digits_of (10 * (b - 48) + (c - 48)) small) refl)))
  both true false eb ec = inl refl
  both false u eb ec = inl refl

-- With a sign, what follows doesn't count.
signed_first : (rest : List ℕ) → fnc1_number (232 ∷ rest) ≡ 2
signed_first rest = grind (arith, nat_tests)

signed_second : (w : ℕ) (rest : List ℕ) → ((n : ℕ) → is_alone (codeword_of w) n ≡ true)
    → fnc1_number (w ∷ 232 ∷ rest) ≡ fnc1_number (w ∷ 232 ∷ [])
signed_second w rest alone = rw (alone (length rest), alone 0) refl

-- The number of plain codewords that keep the sign of what they say is that of the sign.
pub number_of_sign : (place : ℕ) (ps : List (Piece Said)) (after rest : List ℕ) (text : List Item)
    → AreJoined IsPlainSaid place ps after → IsEnd after → text ≡ first_said (whats ps)
    → spelled ps ++ after ≡ sign_words text ++ rest
    → fnc1_number (spelled ps ++ after) ≡ fnc1_number (sign_words text)
number_of_sign place ps after rest text h ended is whole =
    elim (signs text) [
      | inl none ↦ unsigned place ps after h ended (ap sign_words (sym is) ∙ none) ∙ ap fnc1_number (sym none)
      | inr some ↦ elim some [
        | inl one ↦ ap fnc1_number (whole ∙ ap (λ (s : List ℕ). s ++ rest) one) ∙ signed_first rest
            ∙ ap fnc1_number (sym one)
        | inr two ↦ ap fnc1_number (whole ∙ ap (λ (s : List ℕ). s ++ rest) two.1) ∙ signed_second two.0 rest two.2
            ∙ ap fnc1_number (sym two.1)
      ]
    ]

-- Behind a macro, before no FNC1, it is 1.
pub number_of_macro : (place w digit : ℕ) (ps : List (Piece Said)) (after : List ℕ) → codeword_of w
    ≡ Some (codeword.Macro digit) → AreJoined IsPlainSaid place ps after → IsEnd after
    → (BeginsFnc1 (first_said (whats ps)) → ⊥) → fnc1_number (w ∷ (spelled ps ++ after)) ≡ 1
number_of_macro place w digit ps after k h ended none =
    no_first w (spelled ps ++ after) (codeword.Macro digit) k (λ f. cc)
    (other_next (codeword.Macro digit) (spelled ps ++ after) (λ more e. none (joined_fnc1 place ps _ more h ended e)))
