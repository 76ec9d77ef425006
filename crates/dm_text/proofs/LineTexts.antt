-- A text of message lines that goes on.
use Rattle.std.proofs.Common.{◌≡◌, ◌∙◌, ℕ, List, [], ◌∷◌, ◌++◌, refl, sym, ap, subst, append_assoc, append-nil, drop}
use Rattle.std.specs.List.{concat}
use Rattle.dm_text.specs.MessageLines.{IsLine}
use Rattle.dm_text.specs.inner.OpenLines.{EndsLine}
use Rattle.dm_text.specs.Texts.{ended_lines, IsSplit}
use Rattle.dm_text.specs.LineFacts.{LineFacts, AreLineFacts}
use Rattle.dm_text.specs.LineFeeds.{LineMeaning, AreMeanings, AreLinesFed, AreOfText, ClosesLine, LeavesLineOpen}
use Rattle.dm_text.specs.LineFeeds.{closes, leaves_open, no_piece}
use Rattle.dm_text.proofs.LineCuts.{fed_after}
use Rattle.dm_text.proofs.RecordCuts.{split_lines}

-- Lines with their meanings, followed by others with theirs, are lines with their meanings.
meanings_append : (lines more : List (List ℕ)) (meanings others : List LineMeaning) → AreMeanings lines meanings →
    AreMeanings more others
    → AreMeanings (lines ++ more) (meanings ++ others)
meanings_append [] more [] others p q = q
meanings_append [] more (x ∷ meanings) others p q = absurd p
meanings_append (l ∷ lines) more [] others p q = absurd p
meanings_append (l ∷ lines) more (x ∷ meanings) others p q = (p.0, meanings_append lines more meanings others p.1 q)

-- A text that goes on in pieces has the meanings so far, followed by those of the pieces.
pub lines_go_on : (text : List ℕ) (meanings more : List LineMeaning) (old new : LineFacts) (pieces : List (List ℕ))
    → AreOfText text meanings old → AreLinesFed old pieces more new →
    AreOfText (text ++ concat pieces) (meanings ++ more) new
lines_go_on text meanings more old new pieces t fed =
    let later = fed_after t.rest old new pieces more fed t.left t.split.rest_no_lf in
    let text_is : ended_lines t.lines ++ (t.rest ++ concat pieces) ≡ text ++ concat pieces =
    sym (append_assoc (ended_lines t.lines) t.rest (concat pieces))
    ∙ ap (λ l. l ++ concat pieces) (sym t.split.whole) in
    record {
      lines = t.lines ++ later.lines;
      rest = later.rest;
      split = subst (λ l. IsSplit l (t.lines ++ later.lines) later.rest) text_is
          (split_lines t.lines later.lines (t.rest ++ concat pieces) later.rest t.split.lines_no_lf later.split);
      each = meanings_append t.lines later.lines meanings more t.each later.each;
      left = later.left;
    }

-- A piece that closes no line gives a text no further meaning.
pub lines_stay_open : (text : List ℕ) (meanings : List LineMeaning) (old new : LineFacts) (piece : List ℕ) (taken : ℕ)
    → AreOfText text meanings old → LeavesLineOpen old piece taken new → AreOfText (text ++ piece) (meanings ++ []) new
lines_stay_open text meanings old new piece taken t now =
    subst (λ l. AreOfText (text ++ l) (meanings ++ []) new) (append-nil piece)
    (lines_go_on text meanings [] old new (piece ∷ []) t (leaves_open old new new piece taken [] [] now (no_piece new)))

-- The empty piece closes no line and changes nothing.
nothing_more : (facts : LineFacts) → AreLinesFed facts ([] ∷ []) [] facts
nothing_more facts = leaves_open facts facts facts [] 0 [] []
    (record {
      whole = refl;
      no_lf = tt;
      grown =
          λ line known. subst (λ l. AreLineFacts l facts) (sym (append-nil line)) known;
    }) (no_piece facts)

-- A piece that closes a line with its last byte gives a text that line's meaning.
pub line_is_closed : (text : List ℕ) (meanings : List LineMeaning) (old new : LineFacts) (piece : List ℕ) (taken : ℕ)
    (meaning : LineMeaning)
    → AreOfText text meanings old → ClosesLine old piece taken meaning new → drop taken piece ≡ [] →
    AreOfText (text ++ piece) (meanings ++ meaning ∷ []) new
line_is_closed text meanings old new piece taken meaning t now all =
    let rest = subst (λ l. AreLinesFed new (l ∷ []) [] new) (sym all) (nothing_more new) in
    subst (λ l. AreOfText (text ++ l) (meanings ++ meaning ∷ []) new) (append-nil piece)
    (lines_go_on text meanings (meaning ∷ []) old new (piece ∷ []) t
    (closes old new new piece taken meaning [] [] now rest))

-- A line that is held at its LF is closed with the meaning that it means.
pub line_ends : (old mid new : LineFacts) (piece : List ℕ) (taken : ℕ) (message : LineMeaning) →
    EndsLine old piece taken mid
    → ((line : List ℕ) → AreLineFacts line mid → IsLine line message) → AreLineFacts [] new →
    ClosesLine old piece taken message new
line_ends old mid new piece taken message held means none = record {
  before = held.before;
  after = held.after;
  piece_is = held.piece_is;
  no_lf = held.no_lf;
  taken_is = held.taken_is;
  means = λ line known. means (line ++ held.before) (held.grown line known);
  empty = none;
}
