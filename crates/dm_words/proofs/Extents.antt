-- What the wide extent reads of what the usual one reads.
use Rattle.dm_words.proofs.Names.{◌≡◌, ℕ, ◌+◌, List, [], ◌∷◌, ◌++◌, length, refl, sym, ap, subst, ◌∙◌, Extent, Usual}
use Rattle.dm_words.proofs.Names.{Wide, Item, CodeSet, Opening, Plain, Piece, spelled, AreJoined, inl, inr}
use Rattle.dm_words.proofs.Names.{IsPart, run, segment, edifact, ContentView, Said, IsContentPart}
use Rattle.dm_words.proofs.Names.{part, mark, AreContentParts, IsOpening, headed, framed, plain, said_content, Says}
use Rattle.dm_words.proofs.Names.{BeginsNoFrame, arith, nat_tests}
use Rattle.dm_words.specs.Parts.{ascii}
use Rattle.dm_words.proofs.ContentParts.{not_wide}
use Rattle.dm_words.proofs.Values.{IsDropped}
use Rattle.dm_words.proofs.SpelledContents.{opened_plain, no_frame}

-- What is dropped in the usual extent is dropped in the wide one.
dropped_wider : (set : CodeSet) (values : List ℕ) → IsDropped Usual set values → IsDropped Wide set values
dropped_wider set values (inl f) = inl f
dropped_wider set values (inr w) = inr (refl, w.1)

-- A part in the usual extent is one in the wide extent.
pub part_wider : (place : ℕ) (words after : List ℕ) (items : List Item) → IsPart Usual place words after items
    → IsPart Wide place words after items
part_wider place words after items (ascii u) = ascii u
part_wider place words after items (segment s) = segment s
part_wider place words after items (edifact is r) = edifact refl r
part_wider place words after items (run set r) =
    run set (record {
      latch = r.latch;
      is_latch = r.is_latch;
      pairs = r.pairs;
      each = r.each;
      end = r.end;
      ended =
          r.ended;
      whole = r.whole;
      spellings = r.spellings;
      each_spelling = r.each_spelling;
      filler = r.filler;
      dropped = dropped_wider set r.filler r.dropped;
      values = r.values;
      items_are = r.items_are;
    })

-- Parts in the usual extent are parts in the wide one.
said_joined_wider : (place : ℕ) (ps : List (Piece Said)) (after : List ℕ)
    → AreJoined (IsContentPart Usual) place ps after → AreJoined (IsContentPart Wide) place ps after
said_joined_wider place [] after h = tt
said_joined_wider place (p ∷ ps) after h =
    (by_part h.0, said_joined_wider (place + length p.words) ps after h.1) where
      by_part : IsContentPart Usual place p.words (spelled ps ++ after) p.what
          → IsContentPart Wide place p.words (spelled ps ++ after) p.what
      by_part (part items q is) = part items (part_wider place p.words (spelled ps ++ after) items q) is
      by_part (mark d number wide e whole is) = absurd (not_wide wide)

-- What codewords say in the usual extent, from the first codeword on, in parts of the wide one.
record HasWideParts (words : List ℕ) (l : ContentView) : Type 0 where
  said : List Said
  parts : AreContentParts Wide 1 words said
  content_is : l ≡ said_content Plain said

wide_parts : (words : List ℕ) (l : ContentView) → Says Usual words l → HasWideParts words l
wide_parts words l s = by_opening s.opened.is_opening where
  by_opening : IsOpening Usual s.opened.first s.more s.opening → HasWideParts words l
  by_opening (headed said wide h is) = absurd (not_wide wide)
  by_opening (framed digit wide f is) = absurd (not_wide wide)
  by_opening (plain e no_head no_frame is) =
      let whole : words ≡ s.more = s.opened.whole ∙ ap (λ (w : List ℕ). w ++ s.more) e in
      let place : s.place ≡ 1 = s.opened.place_is ∙ ap (λ (w : List ℕ). 1 + length w) e in
      let parts : AreContentParts Wide s.place s.more s.said = record {
        parts = s.parts.parts;
        after = s.parts.after;
        joined = said_joined_wider s.place s.parts.parts s.parts.after s.parts.joined;
        ended = s.parts.ended;
        whole = s.parts.whole;
        said_are = s.parts.said_are;
      } in
      record {
        said = s.said;
        parts = subst (λ (w : List ℕ). AreContentParts Wide 1 w s.said) (sym whole) (rw place at parts);
        content_is = s.content_is ∙ ap (λ (o : Opening). said_content o s.said) is;
      }

-- They say it in the wide one.
pub usual_said_wide : (words : List ℕ) (l : ContentView) → Says Usual words l → Says Wide words l
usual_said_wide words l s =
    let w = wide_parts words l s in
    record {
      opening = Plain;
      place = 1;
      more = words;
      opened = opened_plain Wide words words w.said refl w.parts;
      said = w.said;
      parts = w.parts;
      content_is = w.content_is;
    }

-- And they begin with no macro.
pub usual_no_frame : (words : List ℕ) (l : ContentView) → Says Usual words l → BeginsNoFrame words
usual_no_frame words l s = (let w = wide_parts words l s in no_frame words w.said w.parts)

-- What they say in some extent they say in the wide one.
pub said_wide : (extent : Extent) (words : List ℕ) (l : ContentView) → Says extent words l → Says Wide words l
said_wide extent words l h1 = grind (arith, nat_tests, usual_said_wide)
