-- What the calls that read a content leave.
use Rattle.dm_words.proofs.Names.{◌≡◌, ℕ, ◌+◌, ◌*◌, ◌≤◌, List, [], ◌++◌, length, refl, sym, ap, subst, ◌∙◌, arith}
use Rattle.dm_words.proofs.Names.{length-append, Option, Some, None, Result, Ok, Err, Extent, Item, ContentFault, Mark}
use Rattle.dm_words.proofs.Names.{Opened, Opening, most_spelled, ContentView, IsOpening, Says, opening_items}
use Rattle.dm_words.proofs.Names.{closing_items, IsContentResult, opened, opening_content, content_of, IsContentAt}
use Rattle.dm_words.proofs.Names.{nat_tests, content_on, drop}
use Rattle.dm_words.specs.inner.ContentScan.{and_closing}
use Rattle.dm_words.proofs.Pairs.{IsBytes}
use Rattle.dm_words.proofs.Openings as openings
use Rattle.dm_words.proofs.Openings.{OpeningJudged}
use Rattle.dm_words.proofs.EciCounts.{no_marks}
use Rattle.dm_words.proofs.SaidBounds.{said_counts}
use Rattle.dm_words.proofs.SaidContents.{said_is_content}
use Rattle.dm_words.proofs.SpelledBounds.{room_of_two}
use Rattle.dm_words.proofs.WholeContents.{reads, said_reads, refused_reads}

-- An opening that is found stands in the words, and where all that they can spell has room, so have its items, those
-- that close it, and two for each codeword behind it.
pub record HasOpeningRoom (extent : Extent) (words : List ℕ) (o : Opened) : Type 0 where
  pub in_range : o.count ≤ length words
  pub room : (most : ℕ) → most_spelled extent (length words) ≤ most
      → length (opening_items o.opening) + length (closing_items o.opening) + 2 * length words ≤ most + 2 * o.count

-- The items of an opening have room, and so have those that close it.
room_by : (extent : Extent) (words more : List ℕ) (opening : Opening) (count most : ℕ)
    → IsOpening extent words more opening → length words ≤ count → most_spelled extent count ≤ most
    → length (opening_items opening) + length (closing_items opening) + 2 * count ≤ most + 2 * length words
room_by extent words more opening count most h1 h2 h3 = grind (arith, room_of_two, length-append, nat_tests)

-- What is found has room.
pub opening_room : (extent : Extent) (words : List ℕ) (o : Opened) → opened extent words ≡ Some o
    → HasOpeningRoom extent words o
opening_room extent words o e =
    let j = (let P : Option Opened → Type 0 = λ x. OpeningJudged extent words x in
    subst P e (openings.judged extent words)) in
    let within : length j.first ≤ length words = omega (arith, ap length j.whole, length-append j.first j.more) in
    record {
      in_range = omega (arith, j.count, within);
      room = λ most le. omega (arith, j.count, room_by _ _ _ _ (length words) most j.is_opening within le);
    }

-- Behind an opening, reading begins with its items and no mark.
pub begins_at : (extent : Extent) (most : ℕ) (words : List ℕ) (o : Opened) (before items : List Item)
    (none marks : List Mark)
    → opened extent words ≡ Some o → most_spelled extent (length words) ≤ most → before ≡ [] → none ≡ []
    → items ≡ before ++ opening_items o.opening → marks ≡ none
    → let l : ContentView = record { head = None; items = items; marks = marks } in
    IsContentAt most words o.count l × (l ≡ opening_content o.opening)
begins_at extent most words o before items none marks e le message empty is same =
    let r = (opening_room extent words o e).room most le in
    let all : items ≡ opening_items o.opening = is ∙ ap (λ (l : List Item). l ++ opening_items o.opening) message in
    let no_mark : marks ≡ [] = same ∙ empty in (
      record {
        item_room = rw all (omega (arith, r));
        marks = rw no_mark (no_marks words o.count);
        in_order = rw no_mark (omega arith);
      },
      rw (all, no_mark) refl,
    )

-- Where a call gives what is read, this is the right result.
pub is_content_result : (extent : Extent) (words : List ℕ) (result : Result ContentView ContentFault) → IsBytes words
    → result ≡ content_of extent words → IsContentResult extent words result
is_content_result extent words (Ok l) fit is =
    let said : Says extent words l = (reads extent words fit).content_is l (sym is) in
    record {
      content = λ k. (
        (λ e. (reads extent words fit).content_is k (sym is ∙ e)),
        (λ s. is ∙ said_reads extent words k s),
      );
      fault = λ why. (
        (λ e. (reads extent words fit).fault_is why (sym is ∙ e)),
        (λ f. is ∙ refused_reads extent words why f),
      );
      right = said_is_content extent words l said;
      most = (said_counts extent words l said).0;
      most_marks = (said_counts extent words l said).1;
    }
is_content_result extent words (Err f) fit is = record {
  content = λ k. ((λ e. (reads extent words fit).content_is k (sym is ∙ e)), (λ s. is ∙ said_reads extent words k s));
  fault = λ why. (
    (λ e. (reads extent words fit).fault_is why (sym is ∙ e)),
    (λ w. is ∙ refused_reads extent words why w),
  );
  right = tt;
  most = tt;
  most_marks = tt;
}

-- What is read behind an opening is, with the items that close it, what the words say.
pub closed : (extent : Extent) (words : List ℕ) (o : Opened) (first : ContentView)
    (read : Result ContentView ContentFault)
    → opened extent words ≡ Some o → first ≡ opening_content o.opening
    → read ≡ content_on extent first (o.count + 1) (drop o.count words)
    → and_closing o.opening read ≡ content_of extent words
closed extent words o first read e begins is =
    let place : o.count + 1 ≡ 1 + o.count = omega arith in
    rw e (ap (and_closing o.opening) (rw (place, begins) at is))
