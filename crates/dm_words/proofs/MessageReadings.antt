-- What reading gives in the usual extent: a message, or the fault of a codeword.
use Rattle.dm_words.proofs.Names.{◌≡◌, ℕ, ◌+◌, List, [], ◌∷◌, ◌++◌, length, refl, sym, ap, subst, ◌∙◌, None, Result, Ok}
use Rattle.dm_words.proofs.Names.{Err, Usual, Item, WordFault, ContentFault, Mark, Opening, Plain, Piece, spelled}
use Rattle.dm_words.proofs.Names.{whats, AreJoined, ContentView, Said, IsContentPart, part, mark, said_items}
use Rattle.dm_words.proofs.Names.{said_marks, said_content, IsOpening, headed, framed, plain, Says, IsRefused}
use Rattle.dm_words.proofs.Names.{IsContentFault, as_content, IsContentResult, Spells}
use Rattle.dm_words.specs.declared.contents.fault.ContentFault.TheVariants as fault
use Rattle.dm_words.specs.Contents as contents
use Rattle.dm_words.specs.Results.{IsMessageResult}
use Rattle.dm_words.specs.Spells.{Refused}
use Rattle.dm_words.proofs.ContentParts.{not_wide}

-- Parts say no mark there.
no_marks : (before place : ℕ) (ps : List (Piece Said)) (after : List ℕ) → AreJoined (IsContentPart Usual) place ps after
    → said_marks before (whats ps) ≡ []
no_marks before place [] after h = refl
no_marks before place (p ∷ ps) after h =
    by_part h.0 (λ n. no_marks n (place + length p.words) ps after h.1) where
      by_part : IsContentPart Usual place p.words (spelled ps ++ after) p.what
          → ((n : ℕ) → said_marks n (whats ps) ≡ []) → said_marks before (p.what ∷ whats ps) ≡ []
      by_part (mark d number wide e whole is) rest = absurd (not_wide wide)
      by_part (part items q is) rest =
          ap (λ (t : Said). said_marks before (t ∷ whats ps)) is ∙ rest (before + length items)

-- What is said there is what a message is.
pub usual_plain : (words : List ℕ) (l : ContentView) → Says Usual words l → l ≡ as_content l.items
usual_plain words l s = by_opening s.opened.is_opening where
  by_opening : IsOpening Usual s.opened.first s.more s.opening → l ≡ as_content l.items
  by_opening (headed said wide h is) = absurd (not_wide wide)
  by_opening (framed digit wide f is) = absurd (not_wide wide)
  by_opening (plain e no_head no_frame is) =
      let marks : said_marks 0 s.said ≡ [] = ap (said_marks 0) s.parts.said_are
      ∙ no_marks 0 s.place s.parts.parts s.parts.after s.parts.joined in
      let all : l ≡ said_content Plain s.said = s.content_is ∙ ap (λ (o : Opening). said_content o s.said) is in
      all ∙ ap (λ (ms : List Mark). let k : ContentView = record {
        head = None;
        items = said_items s.said;
        marks = ms;
      } in k) marks ∙ ap (λ (k : ContentView). as_content k.items) (sym all)

-- What is refused there has the fault of a codeword.
pub usual_word : (words : List ℕ) (why : ContentFault) → IsRefused Usual words why
    → (of_word : WordFault) × (why ≡ fault.Word of_word)
usual_word words why (contents.no_head more wide e none is) = absurd (not_wide wide)
usual_word words why (contents.behind opening place more opened parts after joined whole faulty) = by_fault faulty where
  by_fault : IsContentFault Usual (place + length (spelled parts)) after why
      → (of_word : WordFault) × (why ≡ fault.Word of_word)
  by_fault (contents.designator rest wide none e is) = absurd (not_wide wide)
  by_fault (contents.word f other there is) = (f, is)

-- A right result that is a content is a right result that is a message.
pub message_result : (words : List ℕ) (l : ContentView) → IsContentResult Usual words (Ok l)
    → IsMessageResult words (Ok l.items)
message_result words l r =
    let said : Says Usual words l = (r.content l).0 refl in
    let plain : l ≡ as_content l.items = usual_plain words l said in
    record {
      message = λ m. (
        (λ e. subst (Spells Usual words) (same_items l.items m e) (subst (Says Usual words) plain said)),
        (λ s. ap (λ (k : ContentView). Ok k.items) (same_content l (as_content m) ((r.content (as_content m)).1 s))),
      );
      fault = λ why. (
        (λ e. absurd (no_word l.items why e)),
        (λ f. absurd (no_fault l (fault.Word why) ((r.fault (fault.Word why)).1 f))),
      );
      most = r.most;
      bytes = r.right.items;
    }
  where
    same_items : (m n : List Item) → ◌≡◌ {A = Result (List Item) WordFault} (Ok m) (Ok n) → m ≡ n
    same_items m n e = cc

    same_content : (k l : ContentView) → ◌≡◌ {A = Result ContentView ContentFault} (Ok k) (Ok l) → k ≡ l
    same_content k l e = cc

    no_word : (m : List Item) (f : WordFault) → ◌≡◌ {A = Result (List Item) WordFault} (Ok m) (Err f) → ⊥
    no_word m f e = cc

    no_fault : (l : ContentView) (f : ContentFault) → ◌≡◌ {A = Result ContentView ContentFault} (Ok l) (Err f) → ⊥
    no_fault l f e = cc

-- And so is a fault.
pub fault_result : (words : List ℕ) (f : WordFault) → IsContentResult Usual words (Err (fault.Word f))
    → IsMessageResult words (Err f)
fault_result words f r =
    record {
      message = λ m. (
        (λ e. absurd (no_message m f e)),
        (λ s. absurd (no_content (as_content m) (fault.Word f) ((r.content (as_content m)).1 s))),
      );
      fault = λ why. (
        (λ e. subst (Refused words) (same_word f why e) ((r.fault (fault.Word f)).0 refl)),
        (λ w. ap (λ (g : WordFault). Err g) (same_fault f why ((r.fault (fault.Word why)).1 w))),
      );
      most = tt;
      bytes = tt;
    }
  where
    no_message : (m : List Item) (f : WordFault) → ◌≡◌ {A = Result (List Item) WordFault} (Err f) (Ok m) → ⊥
    no_message m f e = cc

    no_content : (l : ContentView) (f : ContentFault) → ◌≡◌ {A = Result ContentView ContentFault} (Err f) (Ok l) → ⊥
    no_content l f e = cc

    same_word : (f g : WordFault) → ◌≡◌ {A = Result (List Item) WordFault} (Err f) (Err g) → f ≡ g
    same_word f g e = cc

    same_fault : (f g : WordFault)
        → ◌≡◌ {A = Result ContentView ContentFault} (Err (fault.Word f)) (Err (fault.Word g)) → f ≡ g
    same_fault f g e = cc

-- Nothing else is a fault there.
pub no_designator_fault : (words : List ℕ) (why : ContentFault) (place : ℕ) → why ≡ fault.Designator place
    → IsContentResult Usual words (Err why) → ⊥
no_designator_fault words why place is r = (let w = usual_word words why ((r.fault why).0 refl) in cc)

pub no_append_fault : (words : List ℕ) (why : ContentFault) (place : ℕ) → why ≡ fault.Append place
    → IsContentResult Usual words (Err why) → ⊥
no_append_fault words why place is r = (let w = usual_word words why ((r.fault why).0 refl) in cc)
