-- What is written is plain, and has the identifier of the ASCII form.
use Rattle.dm_words.proofs.Names.{◌≡◌, ℕ, zero, suc, ◌+◌, ◌-◌, ◌<◌, ◌≤◌, List, [], ◌∷◌, ◌++◌, length, refl, sym, ap}
use Rattle.dm_words.proofs.Names.{subst, ◌∙◌, arith, Bool, true, false, cond, ltb, Option, Some, None}
use Rattle.dm_words.proofs.Names.{append_assoc, take, drop, get_or, ◌&&◌, drop-append_seam, take-append-add}
use Rattle.dm_words.proofs.Names.{append-nil, take_rest, Extent, Wide, Item, Byte, Fnc1, Head, Mark}
use Rattle.dm_words.proofs.Names.{Opened, Opening, Framed, Ascii, ascii, single, is_digit, digit_pair, codeword_of}
use Rattle.dm_words.proofs.Names.{head_words, Piece, spelled, whats, AreJoined, as_content, ascii_with_marks, form_by}
use Rattle.dm_words.proofs.Names.{content_form, ContentView, Said, Items, Number, said_items, said_marks}
use Rattle.dm_words.proofs.Names.{said_content, IsOpening, headed, framed, plain, AreOpened, AreFrame, Says}
use Rattle.dm_words.proofs.Names.{macro_text, BeginsFnc1, padded, FramesNoFnc1, IsPlainPart, IsPart, IsFnc1Number}
use Rattle.dm_words.proofs.Names.{IsIdentifier, marks_number, fnc1_number, AreSaid, first_text, view_of, sign_words}
use Rattle.dm_words.proofs.Names.{KeepsSign, IsMacroOf, inner_text, ArePartsWritten, IsContent, IsItem, IsMessage}
use Rattle.dm_words.proofs.Names.{recursion_from_All, nat_tests}
use Rattle.dm_words.specs.declared.codeword.Codeword.TheVariants as codeword
use Rattle.dm_words.specs.inner.Ways.{AreWritten}
use Rattle.dm_words.proofs.Fnc1Places.{identified, one_number}
use Rattle.dm_words.proofs.Openings.{frame_alone}
use Rattle.dm_words.proofs.Heads as heads
use Rattle.dm_words.proofs.ContentBounds.{starts}
use Rattle.dm_words.proofs.ContentWritten.{SaysPlainly, nothing_said, text_said, form_said, says_plain, says_by_head}
use Rattle.dm_words.proofs.ContentWritten.{says_framed, says_so}
use Rattle.dm_words.proofs.MarkedCosts.{StartAt}
use Rattle.dm_words.proofs.PartsWritten.{written_say}
use Rattle.dm_words.proofs.PlainParts.{plain_part}
use Rattle.dm_words.proofs.Signs.{first_said, number_of_sign, number_of_macro}
use Rattle.dm_words.proofs.WholeContents.{opens_so}

-- ---- the items up to the first mark

-- They are those that are said up to it.
first_is : (seen : ℕ) (said : List Said) → first_text seen (said_items said) (said_marks seen said) ≡ first_said said
first_is seen [] = refl
first_is seen (Items items ∷ said) =
    by_marks (said_marks (seen + length items) said)
    (starts (seen + length items) (seen + length items) said (omega arith))
    (first_is (seen + length items) said) where
      by_marks : (ms : List Mark) → StartAt (seen + length items) ms
          → first_text (seen + length items) (said_items said) ms ≡ first_said said
          → first_text seen (items ++ said_items said) ms ≡ items ++ first_said said
      by_marks [] le e = ap (λ (l : List Item). items ++ l) e
      by_marks (m ∷ ms) le e =
          let n : m.place - seen ≡ length items + (m.place - (seen + length items)) = omega (arith, le) in
          cc (take-append-add items (said_items said) (m.place - (seen + length items)))
first_is seen (Number number ∷ said) = grind (arith, nat_tests, said_items)

-- Where FNC1 comes first among them, it comes first among all.
first_fnc1 : (said : List Said) → BeginsFnc1 (first_said said) → BeginsFnc1 (said_items said)
first_fnc1 [] b = b
first_fnc1 (Items [] ∷ said) b = first_fnc1 said b
first_fnc1 (Items (Byte byte ∷ items) ∷ said) b = b
first_fnc1 (Items (Fnc1 ∷ items) ∷ said) b = tt
first_fnc1 (Number number ∷ said) b = absurd b

-- A header begins with no sign.
frame_sign : (digit : ℕ) (text : List Item) (marks : List Mark) → StartAt 7 marks
    → sign_words (first_text 0 (macro_text digit text) marks) ≡ []
frame_sign digit text [] le = refl
frame_sign digit text (m ∷ marks) le =
    let n : m.place - 0 ≡ suc (suc (suc (m.place - 3))) = omega (arith, le) in
    ap (λ (k : ℕ). sign_words (take k (macro_text digit text))) n

-- ---- one opening

one_opening : (x : Option Opened) (k l : Opened) → x ≡ Some k → x ≡ Some l → k.opening ≡ l.opening
one_opening x k l e f = (let h : k ≡ l = cc in ap (λ (q : Opened). q.opening) h)

-- Words that begin with a frame are opened by it.
frame_opens : (words : List ℕ) (opening : Opening) (place : ℕ) (more : List ℕ) → AreOpened Wide words opening place more
    → (frame rest : List ℕ) (digit : ℕ) → AreFrame frame digit → words ≡ frame ++ rest → opening ≡ Framed digit
frame_opens words opening place more opened frame rest digit f whole =
    let there : AreOpened Wide words (Framed digit) (1 + length frame) rest = record {
      first = frame;
      is_opening = framed digit refl f refl;
      whole = whole;
      place_is = refl;
    } in
    one_opening _ _ _ (opens_so _ _ _ _ _ opened).0 (opens_so _ _ _ _ _ there).0

-- What is said plainly has no macro before FNC1.
no_frame : (words : List ℕ) (l : ContentView) → SaysPlainly words l → FramesNoFnc1 words l.items
no_frame words l p fnc1 frame rest digit f whole =
    p.no_fnc1 digit (frame_opens _ _ _ _ p.spells.opened frame rest digit f whole) fnc1

-- ---- the number

module _ (words : List ℕ) (l : ContentView) (p : SaysPlainly words l)
    (sign : KeepsSign (head_words l.head) words (first_text 0 l.items l.marks)) where
  abbrev text : List Item
  text = first_text 0 l.items l.marks

  -- What the content is behind this opening.
  content_by : (opening : Opening) → p.spells.opening ≡ opening → l ≡ said_content opening p.spells.said
  content_by opening is = p.spells.content_is ∙ ap (λ (o : Opening). said_content o p.spells.said) is

  -- Where the words behind the head are those of the parts, the number is that of the sign.
  behind_head : drop (length (head_words l.head)) words ≡ p.spells.more → l.items ≡ said_items p.spells.said
      → l.marks ≡ said_marks 0 p.spells.said
      → fnc1_number (drop (length (head_words l.head)) words) ≡ fnc1_number (sign_words text)
  behind_head rest items marks =
      let parts = p.spells.parts in
      let here : text ≡ first_said (whats parts.parts) = cc (first_is 0 p.spells.said, parts.said_are) in
      let kept : spelled parts.parts ++ parts.after ≡ sign_words text ++ sign.0 =
      cc (parts.whole, sign.1, drop-append_seam (head_words l.head) (sign_words text ++ sign.0)) in
      cc (parts.whole, number_of_sign p.spells.place parts.parts parts.after sign.0 text p.plain parts.ended here kept)

  number_by : IsOpening Wide p.spells.opened.first p.spells.more p.spells.opening
      → fnc1_number (drop (length (head_words l.head)) words) ≡ fnc1_number (sign_words text)
  number_by (headed h wide s is) =
      let e = content_by _ is in
      let head : head_words l.head ≡ p.spells.opened.first = cc ((heads.head_only p.spells.opened.first h s).1) in
      behind_head (ap (λ (ws : List ℕ). drop (length ws) words) head
      ∙ ap (drop (length p.spells.opened.first)) p.spells.opened.whole
      ∙ drop-append_seam p.spells.opened.first p.spells.more)
      (ap (λ (k : ContentView). k.items) e)
      (ap (λ (k : ContentView). k.marks) e)
  number_by (plain none no_head no_frame is) =
      let e = content_by _ is in
      let head : head_words l.head ≡ p.spells.opened.first = ap (λ (k : ContentView). head_words k.head) e ∙ sym none in
      behind_head (ap (λ (ws : List ℕ). drop (length ws) words) head
      ∙ ap (drop (length p.spells.opened.first)) p.spells.opened.whole
      ∙ drop-append_seam p.spells.opened.first p.spells.more)
      (ap (λ (k : ContentView). k.items) e)
      (ap (λ (k : ContentView). k.marks) e)
  number_by (framed digit wide f is) =
      let e = content_by _ is in
      let s = p.spells in
      let parts = s.parts in
      let head : l.head ≡ None = ap (λ (k : ContentView). k.head) e in
      let items : l.items ≡ macro_text digit (said_items s.said) = ap (λ (k : ContentView). k.items) e in
      let marks : l.marks ≡ said_marks 7 s.said = ap (λ (k : ContentView). k.marks) e in
      let m = frame_alone s.opened.first digit f (omega (arith, p.macro_first digit is, s.opened.place_is)) in
      let whole : words ≡ m.0 ∷ (spelled parts.parts ++ parts.after) = s.opened.whole
      ∙ ap (λ (ws : List ℕ). ws ++ s.more) m.2 ∙ ap (λ (ws : List ℕ). m.0 ∷ ws) parts.whole in
      let no_fnc1 : BeginsFnc1 (first_said (whats parts.parts)) → ⊥ = λ b. p.no_fnc1 digit is (
        digit,
        said_items s.said,
        items,
        first_fnc1 s.said (rw (sym parts.said_are) at b),
      ) in
      let sign_none : sign_words text ≡ [] =
      cc (frame_sign digit (said_items s.said) (said_marks 7 s.said) (starts 7 7 s.said (omega arith))) in
      ap (λ (h : Option Head). fnc1_number (drop (length (head_words h)) words)) head ∙ ap fnc1_number whole
      ∙ number_of_macro s.place m.0 digit parts.parts parts.after m.1 p.plain parts.ended no_fnc1
      ∙ sym (ap fnc1_number sign_none)

  number : fnc1_number (drop (length (head_words l.head)) words) ≡ fnc1_number (sign_words text)
  number = number_by p.spells.opened.is_opening

-- Words that say a content with the same number have the same identifier.
same_identifier : (words other : List ℕ) (l : ContentView) → Says Wide words l → Says Wide other l
    → fnc1_number (drop (length (head_words l.head)) words) ≡ fnc1_number (drop (length (head_words l.head)) other)
    → (n : ℕ) → IsIdentifier words l n → IsIdentifier other l n
same_identifier words other l s o same n x =
    let h = length (head_words l.head) in
    let there : IsFnc1Number other h (fnc1_number (drop h other)) = (identified other l o).1 in
    let is : x.fnc1 ≡ fnc1_number (drop h other) =
    one_number words h x.fnc1 (fnc1_number (drop h words)) x.is_fnc1 (identified words l s).1 ∙ same in
    record {
      fnc1 = fnc1_number (drop h other);
      is_fnc1 = there;
      number_is = x.number_is ∙ ap (λ (k : ℕ). k + marks_number l.marks) is;
    }

-- ---- the ASCII form

-- It begins with the sign.
ascii_sign : (m : List Item) → KeepsSign [] (ascii m) m
ascii_sign [] = ([], refl)
ascii_sign (Fnc1 ∷ m) = (ascii m, refl)
ascii_sign (Byte b ∷ []) = (single b, refl)
ascii_sign (Byte b ∷ Byte c ∷ []) = (ascii (Byte b ∷ Byte c ∷ []), refl)
ascii_sign (Byte b ∷ Byte c ∷ Byte d ∷ m) = (ascii (Byte b ∷ Byte c ∷ Byte d ∷ m), refl)
ascii_sign (Byte b ∷ Fnc1 ∷ m) = by_test (ltb b 128) where
  by_test : (t : Bool) → (rest : List ℕ) × (cond t ((b + 1) ∷ []) (235 ∷ (b - 127) ∷ []) ++ 232 ∷ ascii m
      ≡ cond t ((b + 1) ∷ 232 ∷ []) [] ++ rest)
  by_test true = (ascii m, refl)
  by_test false = (235 ∷ (b - 127) ∷ 232 ∷ ascii m, refl)
ascii_sign (Byte b ∷ Byte c ∷ Fnc1 ∷ m) =
    by_test (is_digit b && is_digit c) (single b ++ ascii (Byte c ∷ Fnc1 ∷ m)) where
      by_test : (t : Bool) (other : List ℕ) → (rest : List ℕ) × (cond t (digit_pair b c ∷ 232 ∷ ascii m) other
          ≡ cond t (digit_pair b c ∷ 232 ∷ []) [] ++ rest)
      by_test true other = (ascii m, refl)
      by_test false other = (other, refl)

-- More codewords keep it.
pub keeps_more : (old new after : List ℕ) (m : List Item) → KeepsSign old new m → KeepsSign old (new ++ after) m
keeps_more old new after m k = (
  k.0 ++ after,
  cc (k.1, append_assoc old (sign_words m ++ k.0) after, append_assoc (sign_words m) k.0 after),
)

-- Others before it too.
keeps_behind : (old new : List ℕ) (m : List Item) → KeepsSign [] new m → KeepsSign old (old ++ new) m
keeps_behind old new m k = (k.0, ap (λ (l : List ℕ). old ++ l) k.1)

-- With marks it does too.
marked_sign : (items : List Item) (marks : List Mark)
    → KeepsSign [] (ascii_with_marks 0 items marks) (first_text 0 items marks)
marked_sign items [] = ascii_sign items
marked_sign items (m ∷ marks) = keeps_more [] (ascii (take (m.place - 0) items)) _ (take (m.place - 0) items)
    (ascii_sign (take (m.place - 0) items))

-- It is the head's codewords and the items with their marks.
pub form_is : (head : Option Head) (items : List Item) (marks : List Mark) → form_by Ascii head items marks
    ≡ head_words head ++ ascii_with_marks 0 items marks
form_is head items marks = grind arith

-- It says the content plainly, with pads.
pub form_plainly : (l : ContentView) (count : ℕ) → IsContent l → length (content_form Ascii l) ≤ count
    → SaysPlainly (padded (content_form Ascii l) count) l
form_plainly l count w fits =
    let base = head_words l.head in
    let new = base ++ ascii_with_marks 0 l.items l.marks in
    let is : content_form Ascii l ≡ new = form_is l.head l.items l.marks in
    rw (sym is) at (says_by_head count base new l.head l.items l.marks w.head refl
    (form_said count base new l.items l.marks
    (recursion_from_All IsItem l.items w.items) w.marks refl) (omega (arith, fits, ap length is)))

-- And it keeps the sign.
pub form_sign : (l : ContentView) → KeepsSign (head_words l.head) (content_form Ascii l) (first_text 0 l.items l.marks)
form_sign l =
    rw (sym (form_is l.head l.items l.marks)) at (keeps_behind (head_words l.head) (ascii_with_marks 0 l.items l.marks)
    (first_text 0 l.items l.marks) (marked_sign l.items l.marks))

-- Without pads too.
no_pads : (words : List ℕ) → padded words (length words) ≡ words
no_pads words = grind (arith, append-nil)

-- ---- the whole

-- What says a content plainly and keeps the sign says it as words that are written do.
pub plain_form : (words : List ℕ) (l : ContentView) → IsContent l → SaysPlainly words l
    → KeepsSign (head_words l.head) words (first_text 0 l.items l.marks) → AreWritten Wide words l
plain_form words l w p sign =
    let form = content_form Ascii l in
    let fp : SaysPlainly form l = rw (no_pads form) at (form_plainly l (length form) w (omega arith)) in
    let same = number words l p sign ∙ sym (number form l fp (form_sign l)) in
    let says = says_so words l p in
    record {
      says = says;
      wide = says;
      form = record {
        plain = record {
          opening = p.spells.opening;
          place = p.spells.place;
          more = p.spells.more;
          opened = p.spells.opened;
          macro_first = p.macro_first;
          parts = p.spells.parts.parts;
          after = p.spells.parts.after;
          joined = p.plain;
          ended = p.spells.parts.ended;
          whole = p.spells.parts.whole;
        };
        identifier = λ n. (
          same_identifier words form l p.spells fp.spells same n,
          same_identifier form words l fp.spells p.spells (sym same) n,
        );
        framed = no_frame words l p;
      };
    }

-- The ASCII form, with pads, is one.
pub ascii_plain : (l : ContentView) (count : ℕ) → IsContent l → length (content_form Ascii l) ≤ count
    → AreWritten Wide (padded (content_form Ascii l) count) l
ascii_plain l count w fits =
    plain_form (padded (content_form Ascii l) count) l w (form_plainly l count w fits)
    (keeps_more (head_words l.head) (content_form Ascii l) _ (first_text 0 l.items l.marks) (form_sign l))

-- ---- messages

-- Parts that were written are parts in the wide extent.
parts_wide : (extent : Extent) (total : ℕ) (base new : List ℕ) (m : List Item)
    → ArePartsWritten extent total base new m → ArePartsWritten Wide total base new m
parts_wide extent total base new m w = record {
  parts = w.parts;
  whole = w.whole;
  items_are = w.items_are;
  begins = w.begins;
  right = λ after fills first. joined (length base + 1) w.parts after (w.plain after fills first);
  plain = w.plain;
} where
  joined : (place : ℕ) (ps : List (Piece (List Item))) (after : List ℕ) → AreJoined IsPlainPart place ps after
      → AreJoined (IsPart Wide) place ps after
  joined place [] after h = tt
  joined place (p ∷ ps) after h = (
    plain_part place p.words (spelled ps ++ after) p.what h.0,
    joined (place + length p.words) ps after h.1,
  )

-- A message is a content.
pub message_is_content : (m : List Item) → IsMessage m → IsContent (as_content m)
message_is_content m fit = record { head = tt; items = fit; marks = omega arith }

-- Parts of a message that were written, with pads, say it so.
pub message_form : (extent : Extent) (count : ℕ) (base new : List ℕ) (m : List Item) → IsMessage m → base ≡ []
    → ArePartsWritten extent count base new m → KeepsSign base new m → length new ≤ count
    → AreWritten extent (padded new count) (as_content m)
message_form extent count base new m fit none w sign fits =
    let here : ArePartsWritten Wide count [] new m = rw none at (parts_wide extent count base new m w) in
    let written = plain_form (padded new count) (as_content m) (message_is_content m fit)
    (says_plain count new m [] (text_said count [] [] new 0 [] m [] (nothing_said count [] 0) here) fits)
    (keeps_more [] new _ m (subst (λ (b : List ℕ). KeepsSign b new m) none sign)) in
    record { says = written_say extent count base new m none w fits; wide = written.wide; form = written.form }

-- What a macro frames begins with no sign.
framed_sign : (words : List ℕ) (m : List Item) (marks : List Mark) (digit : ℕ) (text : List Item)
    → m ≡ macro_text digit text → StartAt 7 marks → KeepsSign [] words (first_text 0 m marks)
framed_sign words m marks digit text is le = (
  words,
  ap (λ (s : List ℕ). s ++ words) (sym (ap (λ (i : List Item). sign_words (first_text 0 i marks)) is
      ∙ frame_sign digit text marks le)),
)

-- So do a macro and parts of its text that were written, with pads.
pub macro_form : (extent : Extent) (count word : ℕ) (base new : List ℕ) (m text : List Item) → IsMessage m
    → base ≡ word ∷ [] → text ≡ inner_text m → IsMacroOf extent m word → ArePartsWritten extent count base new text
    → length new ≤ count → AreWritten extent (padded new count) (as_content m)
macro_form extent count word base new m text fit one is_text is w fits =
    let framed : m ≡ macro_text is.digit text = is.framed ∙ ap (macro_text is.digit) (sym is_text) in
    let none : BeginsFnc1 text → ⊥ = λ b. is.no_fnc1 (subst BeginsFnc1 is_text b) in
    subst (λ (e : Extent). AreWritten e (padded new count) (as_content m)) (sym is.wide)
    (plain_form _ _ (message_is_content m fit) (says_framed _ word is.digit _ _ m _ _ is.is_macro framed one
    (text_said _ _ _ _ 7 _ _ _ (nothing_said count base 7) (parts_wide _ _ _ _ _ w)) none fits)
    (framed_sign (padded new count) m [] is.digit text framed tt))

-- ---- contents

-- A text up to a mark, and the mark, keep the sign: the first ones have it, and the others leave it.
pub sign_turn : (base words new newer part more : List ℕ) (seen : ℕ) (items : List Item) (marks : List Mark)
    (k from end : ℕ) (d : Mark)
    → k < length marks → end ≡ (get_or marks k d).place - seen → (k ≡ 0 → (from ≡ 0) × (words ≡ base))
    → (0 < k → KeepsSign base words (first_text seen items marks))
    → KeepsSign words new (take (end - from) (drop from items)) → new ≡ words ++ part → newer ≡ new ++ more
    → KeepsSign base newer (first_text seen items marks)
sign_turn base words new newer part more seen items [] k from end d lt place first later text is added =
    absurd (omega (arith, lt))
sign_turn base words new newer part more seen items (m ∷ marks) zero from end d lt place first later text is added =
    let f = first refl in
    let same : take (end - from) (drop from items) ≡ take (m.place - seen) items =
    ap (λ (n : ℕ). take (end - n) (drop n items)) f.0 ∙ ap (λ (n : ℕ). take n items) (omega (arith, place)) in
    subst (λ (l : List ℕ). KeepsSign base l (take (m.place - seen) items)) (sym added)
    (keeps_more base new more (take (m.place - seen) items) (rw same at (rw f.1 at text)))
sign_turn base words new newer part more seen items (m ∷ marks) (suc k) from end d lt place first later text is added =
    let here = later (omega arith) in
    subst (λ (l : List ℕ). KeepsSign base l (take (m.place - seen) items)) (sym added) (keeps_more base new more
    (take (m.place - seen) items) (rw (sym is) at (keeps_more base words part (take (m.place - seen) items) here)))

-- So does the text behind the last mark.
pub sign_end : (base words new part : List ℕ) (seen : ℕ) (items : List Item) (marks : List Mark) (k from : ℕ)
    → length marks ≤ k → (k ≡ 0 → (from ≡ 0) × (words ≡ base))
    → (0 < k → KeepsSign base words (first_text seen items marks))
    → KeepsSign words new (take (length items - from) (drop from items)) → new ≡ words ++ part
    → KeepsSign base new (first_text seen items marks)
sign_end base words new part seen items [] zero from le first later text is =
    let f = first refl in
    let same : take (length items - from) (drop from items) ≡ items = cc (take_rest items from, f.0) in
    subst (λ (l : List Item). KeepsSign base new l) same (rw f.1 at text)
sign_end base words new part seen items (m ∷ marks) zero from le first later text is = absurd (omega (arith, le))
sign_end base words new part seen items marks (suc k) from le first later text is =
    rw (sym is) at (keeps_more base words part (first_text seen items marks) (later (omega arith)))

-- Behind a head, or none, what is said with marks is written so.
pub headed_form : (count : ℕ) (base new : List ℕ) (head : Option Head) (items : List Item) (marks : List Mark)
    → IsContent (view_of head items marks) → base ≡ head_words head → AreSaid count base new 0 items marks
    → KeepsSign base new (first_text 0 items marks) → length new ≤ count
    → AreWritten Wide (padded new count) (view_of head items marks)
headed_form count base new head items marks w is said sign fits =
    plain_form (padded new count) (view_of head items marks) w
    (says_by_head count base new head items marks w.head is said fits)
    (keeps_more (head_words head) new _ (first_text 0 items marks) (rw is at sign))

-- Behind a macro too.
pub framed_form : (count word digit : ℕ) (base new : List ℕ) (items text : List Item) (marks : List Mark)
    → IsContent (view_of None items marks) → codeword_of word ≡ Some (codeword.Macro digit)
    → items ≡ macro_text digit text → base ≡ word ∷ [] → AreSaid count base new 7 text marks → StartAt 7 marks
    → (BeginsFnc1 text → ⊥) → length new ≤ count → AreWritten Wide (padded new count) (view_of None items marks)
framed_form count word digit base new items text marks w k is one said from none fits =
    plain_form _ _ w (says_framed _ word digit _ _ _ _ _ k is one said none fits)
    (framed_sign (padded new count) _ marks digit text is from)
