-- The normal form under each profile is a plain form.
use Rattle.dm_words.proofs.Names.{◌≡◌, ℕ, ◌+◌, ◌<◌, ◌≤◌, List, [], ◌∷◌, ◌++◌, length, map, refl, sym, ap, subst, ◌∙◌}
use Rattle.dm_words.proofs.Names.{arith, true, false, Option, Some, None, ◌↔◌, inl, inr, Result, Ok}
use Rattle.dm_words.proofs.Names.{Err, take, cases_lt, nat_tests, length-map}
use Rattle.dm_words.proofs.Names.{Wide, TooLong, Item, Head, Mark, Profile, Ascii, Shorter}
use Rattle.dm_words.proofs.Names.{written, IsHead, head_words, as_content, ascii_with_marks, form_by, content_form}
use Rattle.dm_words.proofs.Names.{ContentView, AreMarks, IsContent, byte_of, IsMessage, has_fnc1}
use Rattle.dm_words.proofs.Names.{length_numbers, one_segment, normal_form, shorter, padded, IsPlainForm, view_of}
use Rattle.dm_words.proofs.Names.{is_plain, sign_words, ArePartsWritten, Says, most_data}
use Rattle.std.specs.Prelude.{IfOk, IsErr}
use Rattle.dm_words.specs.Plain.{IsPlainWithPads}
use Rattle.dm_words.proofs.NormalForms.{normal_form_spells, length-one_segment, says_count, segment_whole}
use Rattle.dm_words.proofs.NormalForms.{segment_or_ascii, some_items}
use Rattle.dm_words.proofs.PartsWritten.{no_parts, parts_more}
use Rattle.dm_words.proofs.PlainForms.{form_plainly, message_form, message_is_content, ascii_plain}
use Rattle.dm_words.proofs.SegmentWritten.{field_written}

-- Without FNC1 there is no sign.
no_fnc1_sign : (m : List Item) → has_fnc1 m ≡ false → sign_words m ≡ []
no_fnc1_sign m h1 = grind (arith, nat_tests)

-- One segment of all bytes is a plain form.
segment_plain : (m : List Item) (count : ℕ) → IsMessage m → has_fnc1 m ≡ false → 0 < length m → length m < 1750
    → length (one_segment (map byte_of m)) ≤ count
    → IsPlainForm (padded (one_segment (map byte_of m)) count) (as_content m)
segment_plain m count fit none some few fits =
    let bytes = map byte_of m in
    let field = length_numbers (length bytes) in
    let counted = (231 ∷ []) ++ written 2 field in
    let new = counted ++ written (length counted + 1) bytes in
    let long : length bytes ≡ length m = length-map m byte_of in
    let is : new ≡ one_segment bytes = segment_whole [] (231 ∷ []) counted new field bytes refl refl refl in
    let part = field_written Wide count [] (231 ∷ []) counted new field m some
    fit none refl refl refl
    (λ after fills. says_count (length bytes) after (omega (arith, long, some)) (omega (arith, long, few))) in
    let parts : ArePartsWritten Wide count [] new m =
    parts_more Wide count [] [] new [] m (no_parts Wide count []) part in
    subst (λ (l : List ℕ). IsPlainForm (padded l count) (as_content m)) is
    (message_form Wide count [] new m fit refl parts
    (new, ap (λ (s : List ℕ). s ++ new) (sym (no_fnc1_sign m none))) (omega (arith, ap length is, fits))).form

-- So is the shorter form of a message.
shorter_plain : (m : List Item) (count : ℕ) → IsMessage m → length (shorter m) ≤ 1558 → length (shorter m) ≤ count
    → IsPlainForm (padded (shorter m) count) (as_content m)
shorter_plain m count fit few fits =
    elim (segment_or_ascii m) [
      | inl s ↦
          let long : length m < 1750 =
          omega (arith, ap length s.is, few, length-one_segment (map byte_of m), length-map m byte_of) in
          subst (λ (w : List ℕ). IsPlainForm (padded w count) (as_content m)) (sym s.is)
          (segment_plain m count fit s.none (some_items m s.less) long (omega (arith, ap length s.is, fits)))
      | inr e ↦ subst (λ (w : List ℕ). IsPlainForm (padded w count) (as_content m)) (sym e)
          (ascii_plain (as_content m) count (message_is_content m fit) (omega (arith, ap length e, fits))).form
    ]

-- The normal form of a content, under each profile, is a plain form with pads up to any count.
form_plain : (profile : Profile) (head : Option Head) (items : List Item) (marks : List Mark)
    → IsContent (view_of head items marks) → length (content_form profile (view_of head items marks)) ≤ 1558
    → IsPlainWithPads (content_form profile (view_of head items marks)) (view_of head items marks)
form_plain Ascii head items marks w few count fits = (ascii_plain (view_of head items marks) count w fits).form
form_plain Shorter None items [] w few count fits = shorter_plain items count w.items few fits
form_plain Shorter None items (m ∷ marks) w few count fits = (ascii_plain _ count w fits).form
form_plain Shorter (Some head) items marks w few count fits =
    (ascii_plain (view_of (Some head) items marks) count w fits).form

pub content_form_plain : (profile : Profile) (l : ContentView) → IsContent l → length (content_form profile l) ≤ 1558
    → IsPlainWithPads (content_form profile l) l
content_form_plain profile l right few =
    form_plain profile l.head l.items l.marks right few

-- With pads up to a count it says the content.
form_says : (profile : Profile) (head : Option Head) (items : List Item) (marks : List Mark) (count : ℕ)
    → IsContent (view_of head items marks) → length (form_by profile head items marks) ≤ count → count ≤ 1558
    → Says Wide (padded (form_by profile head items marks) count) (view_of head items marks)
form_says profile None items [] count right le most =
    normal_form_spells Wide profile items count right.items le most
form_says profile None items (m ∷ marks) count right le most =
    (form_plainly (view_of None items (m ∷ marks)) count right le).spells
form_says profile (Some said) items marks count right le most =
    (form_plainly (view_of (Some said) items marks) count right le).spells

pub content_form_says : (profile : Profile) (l : ContentView) (count : ℕ) → IsContent l
    → length (content_form profile l) ≤ count → count ≤ most_data
    → Says Wide (padded (content_form profile l) count) l
content_form_says profile l count right le most = form_says profile l.head l.items l.marks count right le most

-- What was written is one.
pub written_plain : (profile : Profile) (l : ContentView) (words : List ℕ) → words ≡ content_form profile l
    → length words ≤ 1558 → IsContent l → IsPlainWithPads words l
written_plain profile l words is few right =
    rw (sym is) at (content_form_plain profile l right (omega (arith, ap length is, few)))

pub message_plain : (profile : Profile) (m : List Item) (words : List ℕ) → words ≡ normal_form profile m
    → length words ≤ 1558 → IsMessage m → IsPlainWithPads words (as_content m)
message_plain profile m words is few fit = written_plain profile (as_content m) words is few (message_is_content m fit)

-- Where the normal form of a head, items and marks was written, it is one.
pub content_plain : (profile : Profile) (head : Option Head) (items : List Item) (marks : List Mark)
    (words form : List ℕ)
    (room : ℕ) (result : Result ℕ TooLong)
    → IsHead head → AreMarks 0 (length items) marks → room ≤ 1558 → form ≡ form_by profile head items marks
    → IfOk result (λ count. take count words ≡ form) → (IsErr result ↔ (room < length form))
    → IfOk result (λ count. IsMessage items → IsPlainWithPads (take count words) (view_of head items marks))
content_plain profile head items marks words form room (Ok count) right are few is written long = λ fit.
    written_plain profile (view_of head items marks) (take count words) (written ∙ is)
    (elim (cases_lt room (length form)) [
      | inl lt ↦ absurd (let e = long.1 lt in cc)
      | inr le ↦ omega (arith, le, ap length written, few)
    ])
    (record { head = right; items = fit; marks = are })
content_plain profile head items marks words form room (Err why) right are few is written long = tt

-- That of a message is this.
pub plain_is_normal : (profile : Profile) (head : Option Head) (items : List Item) (marks : List Mark)
    → is_plain head marks ≡ true → normal_form profile items ≡ form_by profile head items marks
plain_is_normal profile head items marks h1 = grind (arith, nat_tests)

-- And that of another content is this.
pub marked_is_ascii : (profile : Profile) (head : Option Head) (items : List Item) (marks : List Mark)
    → is_plain head marks ≡ false → head_words head ++ ascii_with_marks 0 items marks
    ≡ form_by profile head items marks
marked_is_ascii profile head items marks h1 = grind (arith, nat_tests)
