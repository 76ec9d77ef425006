-- Where FNC1 is a codeword of its own: first or second behind a head, as its first two codewords say.
use Rattle.dm_words.proofs.Names.{◌≡◌, ℕ, suc, ◌+◌, ◌-◌, ◌/◌, ◌%◌, ◌<◌, ◌≤◌, List, [], ◌∷◌, ◌++◌, length, refl, sym, ap}
use Rattle.dm_words.proofs.Names.{subst, ◌∙◌, arith, length-append, Bool, true, false, cond, Option, Some, drop}
use Rattle.dm_words.proofs.Names.{take, append_assoc, drop-append_seam, ◌==◌, ◌&&◌, nat_tests, nil_from_length}
use Rattle.dm_words.proofs.Names.{take_rest, Codeword, Wide, Item, Byte, Fnc1, Head, Opened, Opening, codeword_of}
use Rattle.dm_words.proofs.Names.{head_words, Piece, spelled, AreJoined, Said, Items, IsContentPart, part, mark}
use Rattle.dm_words.proofs.Names.{AreOpened, IsOpening, headed, framed, plain, AreContentParts, AreFrame, Says}
use Rattle.dm_words.proofs.Names.{ContentView, opening_head, character, digits, fnc1, raised, IsLengthField, to_the_end}
use Rattle.dm_words.proofs.Names.{short, long, written, one, two, three, IsEdifactEnd, few_left, first, second, third}
use Rattle.dm_words.proofs.Names.{fourth, IsRun, IsRunEnd, unlatch, symbol_end, last_word, inl, nothing, IsPart, run}
use Rattle.dm_words.proofs.Names.{segment, edifact, IsEnd, Mark, IsFnc1Number, IsIdentifier, marks_number, part_by}
use Rattle.dm_words.proofs.Names.{as_said, first_content_part, opened, fnc1_number, is_alone}
use Rattle.dm_words.specs.declared.codeword.Codeword.TheVariants as codeword
use Rattle.dm_words.specs.Parts.{ascii}
use Rattle.dm_words.specs.Parts as spells
use Rattle.dm_words.specs.Symbology.{IsFnc1At}
use Rattle.dm_words.specs.Symbology as symbology
use Rattle.dm_words.proofs.ContentParts.{as_part, content_part_complete}
use Rattle.dm_words.proofs.Segments.{length-written}
use Rattle.dm_words.proofs.Openings as openings
use Rattle.dm_words.proofs.Heads as heads

-- ---- one opening

-- Lists that are equal and begin with lists of one length have the same rest.
same_rest : (xs ys us vs : List ℕ) → length xs ≡ length ys → xs ++ us ≡ ys ++ vs → us ≡ vs
same_rest [] [] us vs l e = e
same_rest [] (y ∷ ys) us vs l e = absurd (omega arith)
same_rest (x ∷ xs) [] us vs l e = absurd (omega arith)
same_rest (x ∷ xs) (y ∷ ys) us vs l e =
    let tails : xs ++ us ≡ ys ++ vs = cc in same_rest xs ys us vs (omega arith) tails

-- What is found once has one count.
one_count : (x : Option Opened) (k l : Opened) → x ≡ Some k → x ≡ Some l → k.count ≡ l.count
one_count x k l e f = (let h : k ≡ l = cc in ap (λ (q : Opened). q.count) h)

-- Words open in one way: two openings have as many codewords, and the same behind them.
same_opened : (words : List ℕ) (o p : Opening) (s t : ℕ) (us vs : List ℕ) → AreOpened Wide words o s us
    → AreOpened Wide words p t vs → (s ≡ t) × (us ≡ vs)
same_opened words o p s t us vs a b =
    let count : length a.first ≡ length b.first =
    one_count (opened Wide words) (record { opening = o; count = length a.first })
    (record { opening = p; count = length b.first }) (ap (opened Wide) a.whole ∙ openings.complete _ _ _ o a.is_opening)
    (ap (opened Wide) b.whole ∙ openings.complete _ _ _ p b.is_opening) in
    (omega (arith, count, a.place_is, b.place_is), same_rest a.first b.first us vs count (sym a.whole ∙ b.whole))

-- ---- FNC1 where the parts begin

-- It is the first codeword behind the opening.
begins : (words : List ℕ) (o : Opening) (start : ℕ) (more : List ℕ) → AreOpened Wide words o start more
    → IsFnc1At words start → (after : List ℕ) × (more ≡ 232 ∷ after)
begins words o start more there_is x =
    let same = same_opened words o x.opening start x.start more x.more there_is x.opened in
    let none : spelled x.parts ≡ [] = nil_from_length (spelled x.parts) (omega (arith, x.place_is, same.0)) in
    (x.after, same.1 ∙ x.whole ∙ ap (λ (l : List ℕ). l ++ 232 ∷ x.after) none)

-- And where it is, it is one.
begun : (words : List ℕ) (o : Opening) (start : ℕ) (more after : List ℕ) → AreOpened Wide words o start more
    → more ≡ 232 ∷ after → IsFnc1At words start
begun words o start more after there_is e =
    record {
      opening = o;
      start = start;
      more = more;
      opened = there_is;
      parts = [];
      after = after;
      joined = tt;
      whole = e;
      place_is = omega arith;
    }

-- It never stands before them.
not_before : (words : List ℕ) (o : Opening) (start place : ℕ) (more : List ℕ) → AreOpened Wide words o start more
    → place < start → IsFnc1At words place → ⊥
not_before words o start place more there_is below x =
    let same = same_opened words o x.opening start x.start more x.more there_is x.opened in
    absurd (omega (arith, x.place_is, same.0))

-- ---- FNC1 behind a part of one codeword

-- One codeword is a part, and FNC1 stands behind it.
record IsAlone (start w : ℕ) (more : List ℕ) : Type 0 where
  after : List ℕ
  said : Said
  whole : more ≡ 232 ∷ after
  taken : IsContentPart Wide start (w ∷ []) (232 ∷ after) said

-- A list of one number has it.
one_first : (xs : List ℕ) → length xs ≡ 1 → (x : ℕ) × (xs ≡ x ∷ [])
one_first [] e = absurd (omega arith)
one_first (x ∷ []) e = (x, refl)
one_first (x ∷ y ∷ xs) e = absurd (omega arith)

-- The first part is one codeword, and no other part stands before FNC1.
alone_by : (start : ℕ) (parts : List (Piece Said)) (after more : List ℕ)
    → AreJoined (IsContentPart Wide) start parts (232 ∷ after) → more ≡ spelled parts ++ 232 ∷ after
    → length (spelled parts) ≡ 1 → (w : ℕ) × (rest : List ℕ) × (more ≡ w ∷ rest) × IsAlone start w rest
alone_by start [] after more joined e k = absurd (omega arith)
alone_by start (p ∷ ps) after more joined e k =
    let c = content_part_complete Wide start p.words (spelled ps ++ 232 ∷ after) p.what joined.0 in
    let sum = length-append p.words (spelled ps) in
    let none : spelled ps ≡ [] = nil_from_length (spelled ps) (omega (arith, sum, k, c.1)) in
    let w = one_first p.words (omega (arith, sum, k, c.1)) in
    let rest : spelled ps ++ 232 ∷ after ≡ 232 ∷ after = ap (λ (l : List ℕ). l ++ 232 ∷ after) none in
    let whole : more ≡ w.0 ∷ 232 ∷ after = cc in
    let there : IsContentPart Wide start (w.0 ∷ []) (232 ∷ after) p.what =
    subst (λ (l : List ℕ). IsContentPart Wide start l (232 ∷ after) p.what) w.1 (rw rest at joined.0) in
    (w.0, 232 ∷ after, whole, record { after = after; said = p.what; whole = refl; taken = there })

-- It is the second codeword behind the opening.
follows : (words : List ℕ) (o : Opening) (start : ℕ) (more : List ℕ) → AreOpened Wide words o start more
    → IsFnc1At words (start + 1) → (w : ℕ) × (rest : List ℕ) × (more ≡ w ∷ rest) × IsAlone start w rest
follows words o start more there_is x =
    let same = same_opened words o x.opening start x.start more x.more there_is x.opened in
    let P : ℕ → Type 0 = λ n. AreJoined (IsContentPart Wide) n x.parts (232 ∷ x.after) in
    alone_by start x.parts x.after more (subst P (sym same.0) x.joined) (same.1 ∙ x.whole)
    (omega (arith, x.place_is, same.0))

-- And where it is, it is one.
followed : (words : List ℕ) (o : Opening) (start w : ℕ) (more rest : List ℕ) → AreOpened Wide words o start more
    → more ≡ w ∷ rest → IsAlone start w rest → IsFnc1At words (start + 1)
followed words o start w more rest there_is e a =
    let p : Piece Said = record { words = w ∷ []; what = a.said } in
    record {
      opening = o;
      start = start;
      more = more;
      opened = there_is;
      parts = p ∷ [];
      after = a.after;
      joined = (a.taken, tt);
      whole = e ∙ ap (λ (l : List ℕ). w ∷ l) a.whole;
      place_is = omega arith;
    }

-- ---- the codewords that are parts alone

-- A run of one codeword ends with the symbol, but for one codeword.
run_ends : (xs ys after : List ℕ) (w latch : ℕ) → w ∷ [] ≡ latch ∷ (xs ++ ys) → IsRunEnd ys (232 ∷ after)
    → after ≡ []
run_ends (x ∷ xs) ys after w latch e ended = absurd (let l = ap length e in omega (arith, l, length-append xs ys))
run_ends [] ys after w latch e (unlatch is) = cc
run_ends [] ys after w latch e (symbol_end is none) = absurd (let l = ap length none in omega arith)
run_ends [] ys after w latch e (last_word word other is all) = (let t : after ≡ [] = cc in t)

-- A run of EDIFACT of one codeword stands before at most two.
group_ends : (xs ys after last : List ℕ) (w latch : ℕ) → w ∷ [] ≡ latch ∷ (xs ++ ys)
    → IsEdifactEnd ys (232 ∷ after) last → length after ≤ 1
group_ends xs ys after last w latch e (few_left is none few) = omega (arith, few)
group_ends xs ys after last w latch e (first u rest is small all none some) =
    absurd (omega (arith, ap length e, ap length all, length-append xs ys))
group_ends xs ys after last w latch e (second high low value rest a b c d all none some) =
    absurd (omega (arith, ap length e, ap length all, length-append xs ys))
group_ends xs ys after last w latch e (third a b rest g none) =
    absurd (omega (arith, ap length e, ap length g.words_are, length-append xs ys))
group_ends xs ys after last w latch e (fourth a b c g none) =
    absurd (omega (arith, ap length e, ap length g.words_are, length-append xs ys))

-- A part of a message of one codeword, before FNC1, is alone.
part_alone : (place w : ℕ) (after : List ℕ) (items : List Item) → IsPart Wide place (w ∷ []) (232 ∷ after) items
    → is_alone (codeword_of w) (length after) ≡ true
part_alone place w after items (ascii (character word byte k is all)) =
    (let same : w ≡ word = cc in rw (ap codeword_of same ∙ k) refl)
part_alone place w after items (ascii (digits word number k is all)) =
    (let same : w ≡ word = cc in rw (ap codeword_of same ∙ k) refl)
part_alone place w after items (ascii (fnc1 word k is all)) =
    (let same : w ≡ word = cc in rw (ap codeword_of same ∙ k) refl)
part_alone place w after items (ascii (raised shift word byte k l is all)) =
    absurd (let n = ap length is in omega (arith, n))
part_alone place w after items (run set r) =
    let same : w ≡ r.latch = (let e = r.whole in cc) in
    let none : after ≡ [] = run_ends (spelled r.pairs) r.end after w r.latch r.whole r.ended in
    rw (ap codeword_of same ∙ r.is_latch, none) refl
part_alone place w after items (segment s) = absurd (one_field s.field s.bytes s.counted (ap length s.whole))
  where
    one_field : (field bytes : List ℕ) → IsLengthField field (length bytes) (232 ∷ after)
        → 1 ≡ suc (length (written (place + 1) (field ++ bytes))) → ⊥
    one_field field bytes (to_the_end is none) e = absurd (let l = ap length none in omega arith)
    one_field field bytes (short f some most is n) e =
        absurd (omega (arith, ap length is, e, length-written (place + 1) (field ++ bytes), length-append field bytes))
    one_field field bytes (long f g a b c is n) e =
        absurd (omega (arith, ap length is, e, length-written (place + 1) (field ++ bytes), length-append field bytes))
part_alone place w after items (edifact wide r) =
    let same : w ≡ r.latch = (let e = r.whole in cc) in
    let few : length after ≤ 1 = group_ends (spelled r.groups) r.end after r.last w r.latch r.whole r.ended in
    rw (ap codeword_of same ∙ r.is_latch) (grind (arith, nat_tests))

-- So is a part of a content.
alone_tests : (start w : ℕ) (after : List ℕ) (said : Said) → IsContentPart Wide start (w ∷ []) (232 ∷ after) said
    → is_alone (codeword_of w) (length after) ≡ true
alone_tests start w after said (part items p is) = part_alone start w after items p
alone_tests start w after said (mark d number wide (one f a b e is) whole all) = cc
alone_tests start w after said (mark d number wide (two f g a b c k e is) whole all) = cc
alone_tests start w after said (mark d number wide (three f g h a b c k m n e is few) whole all) = cc

-- A codeword that is alone, and no macro, is a part before FNC1.
alone_part : (start w : ℕ) (after : List ℕ) (k : Option Codeword) → codeword_of w ≡ k
    → is_alone k (length after) ≡ true → ((digit : ℕ) → k ≡ Some (codeword.Macro digit) → ⊥)
    → (said : Said) × IsContentPart Wide start (w ∷ []) (232 ∷ after) said
alone_part start w after (Some (codeword.Character byte)) e is other =
    let items = Byte byte ∷ [] in (Items items, part items (ascii (character w byte e refl refl)) refl)
alone_part start w after (Some (codeword.Digits number)) e is other =
    let items = Byte (48 + number / 10) ∷ Byte (48 + number % 10) ∷ [] in
    (Items items, part items (ascii (digits w number e refl refl)) refl)
alone_part start w after (Some codeword.Fnc1) e is other =
    (Items (Fnc1 ∷ []), part (Fnc1 ∷ []) (ascii (fnc1 w e refl refl)) refl)
alone_part start w after (Some (codeword.Macro digit)) e is other = absurd (other digit refl)
alone_part start w after (Some (codeword.Latch set)) e is other =
    let none : after ≡ [] = nil_from_length after (grind (arith, nat_tests)) in
    let empty : IsRun Wide set (w ∷ []) (232 ∷ []) [] = record {
      latch = w;
      is_latch = e;
      pairs = [];
      each = tt;
      end = [];
      ended = last_word 232 (λ same. absurd (omega (arith, same))) refl refl;
      whole = refl;
      spellings = [];
      each_spelling = tt;
      filler = [];
      dropped = inl (nothing refl);
      values = refl;
      items_are = refl;
    } in
    (Items [], part [] (run set (subst (λ (l : List ℕ). IsRun Wide set (w ∷ []) (232 ∷ l) []) (sym none) empty)) refl)
alone_part start w after (Some codeword.Edifact) e is other =
    let few : length after ≤ 1 = grind (arith, nat_tests) in (
      Items [],
      part [] (edifact refl (record {
        latch = w;
        is_latch = e;
        groups = [];
        each = tt;
        end = [];
        last = [];
        ended = few_left refl refl (omega (arith, few));
        no_unlatch = tt;
        whole = refl;
        items_are = refl;
      })) refl,
    )
alone_part start w after k e is other = absurd cc

-- ---- the number, by the first two codewords

-- Where no macro follows, an opening that is none or a head leaves the number to the codewords behind it.
by_rest : (words : List ℕ) (o : Opening) (start behind : ℕ) (more : List ℕ) → AreOpened Wide words o start more
    → start ≡ behind + 1
    → ((w digit : ℕ) (ms : List ℕ) → more ≡ w ∷ ms → codeword_of w ≡ Some (codeword.Macro digit) → ⊥)
    → IsFnc1Number words behind (fnc1_number more)
by_rest words o start behind more there_is at no_macro = by_list more refl where
  -- FNC1 isn't the first codeword.
  not_first : (w : ℕ) (ms : List ℕ) → more ≡ w ∷ ms → (w == 232) ≡ false → IsFnc1At words (behind + 1) → ⊥
  not_first w ms e other x =
      let b = begins words o start more there_is (subst (IsFnc1At words) (sym at) x) in
      absurd (grind (arith, nat_tests))

  -- What the second codeword is where FNC1 stands there.
  if_second : IsFnc1At words (behind + 2) → (w : ℕ) × (rest : List ℕ) × (more ≡ w ∷ rest) × IsAlone start w rest
  if_second x =
      let place : behind + 2 ≡ start + 1 = omega (arith, at) in
      follows words o start more there_is (subst (IsFnc1At words) place x)

  -- Where it stands first.
  at_first : (w : ℕ) (ms : List ℕ) → more ≡ w ∷ ms → (w == 232) ≡ true → IsFnc1At words (behind + 1)
  at_first w ms e is =
      let same : w ≡ 232 = grind (arith, nat_tests) in
      subst (IsFnc1At words) at (begun words o start more ms there_is (e ∙ ap (λ (x : ℕ). x ∷ ms) same))

  by_one : (w : ℕ) → more ≡ w ∷ [] → (t : Bool) → (w == 232) ≡ t → IsFnc1Number words behind (cond t 2 1)
  by_one w e true is = symbology.first (at_first w [] e is) refl
  by_one w e false is =
      symbology.neither (not_first w [] e is)
      (λ x. let f = if_second x in let g : w ∷ [] ≡ f.0 ∷ f.1 = sym e ∙ f.2 in let h : [] ≡ f.1 = cc in
      absurd (let n = ap length (h ∙ f.3.whole) in omega (arith, n))) refl

  by_alone : (w m : ℕ) (ms : List ℕ) → more ≡ w ∷ m ∷ ms → (w == 232) ≡ false → m ≡ 232 → (t : Bool)
      → is_alone (codeword_of w) (length ms) ≡ t → IsFnc1Number words behind (cond t 3 1)
  by_alone w m ms e other is true alone =
      let a = alone_part start w ms (codeword_of w) refl alone (λ digit k. no_macro w digit (m ∷ ms) e k) in
      let place : start + 1 ≡ behind + 2 = omega (arith, at) in
      let whole : m ∷ ms ≡ 232 ∷ ms = ap (λ (x : ℕ). x ∷ ms) is in
      symbology.second (not_first w (m ∷ ms) e other)
      (subst (IsFnc1At words) place (followed words o start w more (m ∷ ms) there_is e
      (record { after = ms; said = a.0; whole = whole; taken = a.1 }))) refl
  by_alone w m ms e other is false alone =
      symbology.neither (not_first w (m ∷ ms) e other)
      (λ x. let f = if_second x in let g : w ∷ m ∷ ms ≡ f.0 ∷ f.1 = sym e ∙ f.2 in
      let same : w ≡ f.0 = cc in let rest : m ∷ ms ≡ f.1 = cc in
      let after : m ∷ ms ≡ 232 ∷ f.3.after = rest ∙ f.3.whole in let tail : ms ≡ f.3.after = cc in
      let test = alone_tests start f.0 f.3.after f.3.said f.3.taken in
      let here : is_alone (codeword_of w) (length ms) ≡ true = rw (same, tail) test in
      absurd (let n : true ≡ false = sym here ∙ alone in cc)) refl

  by_two : (w m : ℕ) (ms : List ℕ) → more ≡ w ∷ m ∷ ms → (w == 232) ≡ false → (t : Bool) → (m == 232) ≡ t
      → IsFnc1Number words behind (cond (t && is_alone (codeword_of w) (length ms)) 3 1)
  by_two w m ms e other true is =
      by_alone w m ms e other (grind (arith, nat_tests)) (is_alone (codeword_of w) (length ms)) refl
  by_two w m ms e other false is =
      symbology.neither (not_first w (m ∷ ms) e other)
      (λ x. let f = if_second x in let g : w ∷ m ∷ ms ≡ f.0 ∷ f.1 = sym e ∙ f.2 in let rest : m ∷ ms ≡ f.1 = cc in
      absurd (grind (arith, nat_tests))) refl

  by_more : (w m : ℕ) (ms : List ℕ) → more ≡ w ∷ m ∷ ms → (t : Bool) → (w == 232) ≡ t
      → IsFnc1Number words behind (cond t 2 (cond ((m == 232) && is_alone (codeword_of w) (length ms)) 3 1))
  by_more w m ms e true is = symbology.first (at_first w (m ∷ ms) e is) refl
  by_more w m ms e false is = by_two w m ms e is (m == 232) refl

  by_list : (list : List ℕ) → more ≡ list → IsFnc1Number words behind (fnc1_number list)
  by_list [] e =
      symbology.neither
      (λ x. let b = begins words o start more there_is (subst (IsFnc1At words) (sym at) x) in
      absurd (let n = ap length (sym e ∙ b.1) in omega (arith, n)))
      (λ x. let f = if_second x in absurd (let n = ap length (sym e ∙ f.2) in omega (arith, n))) refl
  by_list (w ∷ []) e = by_one w e (w == 232) refl
  by_list (w ∷ m ∷ ms) e = by_more w m ms e (w == 232) refl

-- A codeword that is a macro or a latch isn't FNC1.
pub other_word : (w : ℕ) (k : Codeword) → codeword_of w ≡ Some k → (k ≡ codeword.Fnc1 → ⊥) → (w == 232) ≡ true → ⊥
other_word w k h1 h2 h3 = grind (arith, nat_tests)

-- Behind a macro FNC1 can stand second, and behind empty runs and a macro it is neither.
by_frame : (words : List ℕ) (o : Opening) (start : ℕ) (more frame : List ℕ) (digit : ℕ)
    → AreOpened Wide words o start more → start ≡ 1 + length frame → AreFrame frame digit
    → IsFnc1Number words 0 (fnc1_number (frame ++ more))
by_frame words o start more [] digit there_is at f = absurd f
by_frame words o start more (l ∷ u ∷ frame) digit there_is at f = by_test (l == 232) refl where
  by_test : (t : Bool) → (l == 232) ≡ t
      → IsFnc1Number words 0 (cond t 2
      (cond ((u == 232) && is_alone (codeword_of l) (length (frame ++ more))) 3 1))
  by_test true is = absurd (other_word l (codeword.Latch f.0.0) f.0.1 (λ same. cc) is)
  by_test false is =
      rw f.1 (symbology.neither (not_before words o start 1 more there_is (omega (arith, at)))
      (not_before words o start 2 more there_is (omega (arith, at))) refl)
by_frame words o start more (word ∷ []) digit there_is at f = by_more more refl where
  k : codeword_of word ≡ Some (codeword.Macro digit)
  k = f

  not_first : IsFnc1At words 1 → ⊥
  not_first = not_before words o start 1 more there_is (omega (arith, at))

  place : start ≡ 2
  place = omega (arith, at)

  by_second : (m : ℕ) (ms : List ℕ) → more ≡ m ∷ ms → (t : Bool) → (m == 232) ≡ t
      → IsFnc1Number words 0 (cond (t && is_alone (codeword_of word) (length ms)) 3 1)
  by_second m ms e true is =
      let same : m ≡ 232 = grind (arith, nat_tests) in
      rw k (symbology.second not_first (subst (IsFnc1At words) place
      (begun words o start more ms there_is (e ∙ ap (λ (x : ℕ). x ∷ ms) same))) refl)
  by_second m ms e false is =
      symbology.neither not_first
      (λ x. let b = begins words o start more there_is (subst (IsFnc1At words) (sym place) x) in
      absurd (grind (arith, nat_tests))) refl

  by_first : (m : ℕ) (ms : List ℕ) → more ≡ m ∷ ms → (t : Bool) → (word == 232) ≡ t
      → IsFnc1Number words 0 (cond t 2 (cond ((m == 232) && is_alone (codeword_of word) (length ms)) 3 1))
  by_first m ms e true is = absurd (other_word word (codeword.Macro digit) k (λ same. cc) is)
  by_first m ms e false is = by_second m ms e (m == 232) refl

  by_only : more ≡ [] → (t : Bool) → (word == 232) ≡ t → IsFnc1Number words 0 (cond t 2 1)
  by_only e true is = absurd (other_word word (codeword.Macro digit) k (λ same. cc) is)
  by_only e false is =
      symbology.neither not_first
      (λ x. let b = begins words o start more there_is (subst (IsFnc1At words) (sym place) x) in
      absurd (let n = ap length (sym e ∙ b.1) in omega (arith, n))) refl

  by_more : (list : List ℕ) → more ≡ list → IsFnc1Number words 0 (fnc1_number (word ∷ list))
  by_more [] e = by_only e (word == 232) refl
  by_more (m ∷ ms) e = by_first m ms e (word == 232) refl

-- Where parts begin no macro stands.
parts_begin : (start : ℕ) (more : List ℕ) (said : List Said) → AreContentParts Wide start more said → (w digit : ℕ)
    (ms : List ℕ) → more ≡ w ∷ ms → codeword_of w ≡ Some (codeword.Macro digit) → ⊥
parts_begin start more said are w digit ms e k = by_parts are.parts are.joined are.ended are.whole where
  by_end : (after : List ℕ) → IsEnd after → more ≡ after → ⊥
  by_end after (spells.nothing none) is = absurd (let n = ap length (sym e ∙ is ∙ none) in omega (arith, n))
  by_end after (spells.pad word rest p all) is =
      let f : w ∷ ms ≡ word ∷ rest = sym e ∙ is ∙ all in let same : w ≡ word = cc in
      let g : Some (codeword.Macro digit) ≡ Some codeword.Pad = sym k ∙ ap codeword_of same ∙ p in cc

  by_parts : (parts : List (Piece Said)) → AreJoined (IsContentPart Wide) start parts are.after → IsEnd are.after
      → more ≡ spelled parts ++ are.after → ⊥
  by_parts [] joined ended is = by_end are.after ended is
  by_parts (p ∷ ps) joined ended is =
      let c = content_part_complete Wide start p.words (spelled ps ++ are.after) p.what joined.0 in
      let whole : w ∷ ms ≡ p.words ++ (spelled ps ++ are.after) = cc (append_assoc p.words (spelled ps) are.after) in
      let taken = ap (first_content_part Wide start) whole ∙ c.0 in
      let eci : w ≡ 241 → ⊥ = λ same. (let g : Some (codeword.Macro digit) ≡ Some codeword.LeftOut = sym k
      ∙ ap codeword_of same in cc) in
      let stops : first_content_part Wide start (w ∷ ms) ≡ as_said
      (part_by Wide start w ms (Some (codeword.Macro digit))) = cc (as_part Wide start w ms (λ wide. eci)) in
      let g = sym stops ∙ taken in absurd (cc)

-- The words that say a content have its head first, and a number by what follows.
pub identified : (words : List ℕ) (l : ContentView) → Says Wide words l
    → (length (head_words l.head) ≤ length words)
    × IsFnc1Number words (length (head_words l.head)) (fnc1_number (drop (length (head_words l.head)) words))
identified words l said =
    rw (ap (λ (x : ContentView). x.head) (said.content_is ∙ openings.said_behind said.opening said.said))
    (by_kind said.opened.is_opening) where
      by_kind : IsOpening Wide said.opened.first said.more said.opening
          → (length (head_words (opening_head said.opening)) ≤ length words)
          × IsFnc1Number words (length (head_words (opening_head said.opening)))
          (fnc1_number (drop (length (head_words (opening_head said.opening))) words))
      by_kind (headed h wide s is) =
          let only = (heads.head_only said.opened.first h s).1 in
          let count : length said.opened.first ≡ length (head_words (Some h)) = ap length only in
          let behind : drop (length (head_words (Some h))) words ≡ said.more =
          cc (said.opened.whole, drop-append_seam said.opened.first said.more) in
          rw is (
            omega (arith, ap length said.opened.whole, length-append said.opened.first said.more, count),
            rw behind (by_rest words said.opening said.place (length (head_words (Some h))) said.more said.opened
                (omega (arith, said.opened.place_is, count)) (parts_begin said.place said.more said.said said.parts)),
          )
      by_kind (framed digit wide f is) =
          let whole : said.opened.first ++ said.more ≡ words = sym said.opened.whole in
          rw is (
            omega arith,
            subst (λ (x : List ℕ). IsFnc1Number words 0 (fnc1_number x)) whole
                (by_frame words said.opening said.place said.more said.opened.first digit said.opened
                said.opened.place_is f),
          )
      by_kind (plain none no_head no_frame is) =
          let whole : said.more ≡ words = sym (said.opened.whole ∙ ap (λ (x : List ℕ). x ++ said.more) none) in
          rw is (
            omega arith,
            subst (λ (x : List ℕ). IsFnc1Number words 0 (fnc1_number x)) whole
                (by_rest words said.opening said.place 0 said.more said.opened
                (omega (arith, said.opened.place_is, ap length none)) (parts_begin said.place said.more said.said
                said.parts)),
          )

-- A content's marks are none, or some, as their count says.
pub no_marks : (marks : List Mark) → (length marks == 0) ≡ true → marks_number marks ≡ 0
no_marks marks h1 = grind (arith, nat_tests)

pub some_marks : (marks : List Mark) → (length marks == 0) ≡ false → marks_number marks ≡ 3
some_marks marks h1 = grind (arith, nat_tests)

-- Codewords have one number by their first two behind a head.
pub one_number : (words : List ℕ) (behind m n : ℕ) → IsFnc1Number words behind m → IsFnc1Number words behind n → m ≡ n
one_number words behind m n h1 h2 = grind (arith, nat_tests)

-- Codewords that say a content have at most one identifier.
pub identifier_is_one : (words : List ℕ) (l : ContentView) (a b : ℕ) → IsIdentifier words l a → IsIdentifier words l b
    → a ≡ b
identifier_is_one words l a b x y = grind (arith, nat_tests, one_number, head_words)

-- And they have one.
pub identifier_is_there : (words : List ℕ) (l : ContentView) → Says Wide words l
    → (number : ℕ) × IsIdentifier words l number
identifier_is_there words l said =
    let i = identified words l said in
    let number = fnc1_number (drop (length (head_words l.head)) words) in
    (number + marks_number l.marks, record { fnc1 = number; is_fnc1 = i.1; number_is = refl })

-- So a number that is made of what follows the head, and of the marks, is the identifier's.
pub identifier_of : (words : List ℕ) (l : ContentView) (h : Option Head) (n number total : ℕ) → Says Wide words l
    → h ≡ l.head → n ≡ length (head_words h) → number ≡ fnc1_number (take (length words - n) (drop n words))
    → total ≡ number + marks_number l.marks → IsIdentifier words l total
identifier_of words l h n number total said head count is all =
    grind (arith, nat_tests, identified, head_words, take_rest, fnc1)
