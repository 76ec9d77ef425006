-- How a text is cut into pieces changes nothing for its lines.
use Rattle.std.proofs.Common.{◌≡◌, ◌∙◌, ◌+◌, ℕ, List, [], ◌∷◌, ◌++◌, refl, sym, ap, subst, append_assoc, append-nil}
use Rattle.std.proofs.Common.{length, length-append, drop, arith, min}
use Rattle.std.specs.List.{concat}
use Rattle.std.proofs.lemmas.List.{drop_at}
use Rattle.dm_symbol.specs.declared.Item.{Item}
use Rattle.dm_text.specs.Texts.{lf, HasNoLf, IsSplit}
use Rattle.dm_text.specs.MessageLines.{IsLongestPrefix, most_bytes}
use Rattle.dm_text.specs.LineFacts.{LineFacts, Faulty, Good, AreLineFacts, kept}
use Rattle.dm_text.specs.LineFeeds.{LineMeaning, AreLinesFed, no_piece, leaves_open, closes, AreMeanings, AreOfText}
use Rattle.dm_text.proofs.Texts.{no_lf_append, split_more, split_unique}
use Rattle.dm_text.specs.Spellings.{IsJoining, IsJoined, IsSpelling}
use Rattle.dm_text.proofs.Joinings.{joining_append, joining_one, joining_unique}
use Rattle.dm_text.proofs.OpenLineSteps.{line_unique}

-- What is left of a piece after its first line is what comes after the LF.
pub rest_of : (piece before after : List ℕ) (taken : ℕ) → piece ≡ before ++ lf ∷ after → taken ≡ length before + 1 →
    drop taken piece ≡ after
rest_of piece before after taken e n =
    let cut : piece ≡ (before ++ lf ∷ []) ++ after = e ∙ sym (append_assoc before (lf ∷ []) after) in
    let long : length (before ++ lf ∷ []) ≡ taken = length-append before (lf ∷ []) ∙ sym n in
    ap (drop taken) cut ∙ drop_at (before ++ lf ∷ []) after taken long

-- Pieces that are fed while a line stands open close and leave open what that line does with their bytes after it.
pub fed_after : (u : List ℕ) (old new : LineFacts) (pieces : List (List ℕ)) (meanings : List LineMeaning) →
    AreLinesFed old pieces meanings new
    → AreLineFacts u old → HasNoLf u → AreOfText (u ++ concat pieces) meanings new
fed_after u old new pieces meanings (no_piece facts) known h = record {
  lines = [];
  rest = u;
  split = record { whole = append-nil u; lines_no_lf = tt; rest_no_lf = h };
  each = tt;
  left = known;
}
fed_after u old new pieces meanings (leaves_open _ mid _ piece taken more _ now later) known h =
    subst (λ l. AreOfText l meanings new) (append_assoc u piece (concat more))
    (fed_after (u ++ piece) mid new more meanings later (now.grown u known) (no_lf_append u piece h now.no_lf))
fed_after u old new pieces meanings (closes _ mid _ piece taken meaning more others now later) known h =
    let rest = fed_after [] mid new (drop taken piece ∷ more) others later now.empty tt in
    let left : concat (drop taken piece ∷ more) ≡ now.after ++ concat more =
    ap (λ l. l ++ concat more) (rest_of piece now.before now.after taken now.piece_is now.taken_is) in
    let text : (u ++ now.before) ++ lf ∷ (concat (drop taken piece ∷ more)) ≡ u ++ (piece ++ concat more) =
    ap (λ l. (u ++ now.before) ++ lf ∷ l) left ∙ append_assoc u now.before (lf ∷ (now.after ++ concat more))
    ∙ ap (λ l. u ++ l) (sym (append_assoc now.before (lf ∷ now.after) (concat more))
    ∙ ap (λ l. l ++ concat more) (sym now.piece_is)) in
    record {
      lines = (u ++ now.before) ∷ rest.lines;
      rest = rest.rest;
      split = subst (λ l. IsSplit l ((u ++ now.before) ∷ rest.lines) rest.rest) text
          (split_more (u ++ now.before) (concat (drop taken piece ∷ more)) rest.lines rest.rest
          (no_lf_append u now.before h now.no_lf) rest.split);
      each = (now.means u known, rest.each);
      left = rest.left;
    }

-- Pieces close, and leave open, what their joined text does.
pub fed_is_text : (pieces : List (List ℕ)) (meanings : List LineMeaning) (old new : LineFacts) → AreLineFacts [] old →
    AreLinesFed old pieces meanings new
    → AreOfText (concat pieces) meanings new
fed_is_text pieces meanings old new known fed = fed_after [] old new pieces meanings fed known tt

-- Two longest prefixes of a line that are joined spellings have one length.
prefix_length : (line f g r s : List ℕ) → IsLongestPrefix line f r → IsLongestPrefix line g s → length f ≡ length g
prefix_length line f g r s p q =
    let one = q.longest f r p.whole p.joined in
    let two = p.longest g s q.whole q.joined in omega arith

-- Two prefixes of the same bytes that have one length are the same, and so is what comes after them.
same_prefix : (f g r s : List ℕ) → length f ≡ length g → f ++ r ≡ g ++ s → (f ≡ g) × (r ≡ s)
same_prefix [] [] r s n e = (refl, e)
same_prefix [] (y ∷ g) r s n e = absurd (omega arith)
same_prefix (x ∷ f) [] r s n e = absurd (omega arith)
same_prefix (x ∷ f) (y ∷ g) r s n e =
    let tail : f ++ r ≡ g ++ s = cc in
    let head : x ≡ y = cc in
    let less : length f ≡ length g = omega arith in
    let t = same_prefix f g r s less tail in (ap (λ k. k ∷ f) head ∙ ap (λ l. y ∷ l) t.0, t.1)

-- A good line becomes joined spellings by bytes that complete its pending ones.
joined_on : (line prefix pending more : List ℕ) (items : List Item) (item : Item) → line ≡ prefix ++ pending →
    IsJoining prefix items → IsSpelling (pending ++ more) item
    → IsJoined (line ++ more)
joined_on line prefix pending more items item e j s = (
  items ++ item ∷ [],
  subst (λ l. IsJoining l (items ++ item ∷ [])) (sym (ap (λ l. l ++ more) e ∙ append_assoc prefix pending more))
      (joining_append items (item ∷ []) prefix (pending ++ more) j (joining_one (pending ++ more) item s)),
)

-- A line has only one set of facts.
pub facts_unique : (line : List ℕ) (a b : LineFacts) → AreLineFacts line a → AreLineFacts line b → a ≡ b
facts_unique line (Faulty m) (Faulty n) p q =
    ap Faulty (p.column_is ∙ ap (λ k. min (k + 1) most_bytes)
    (prefix_length line p.prefix q.prefix p.rest q.rest p.longest q.longest) ∙ sym q.column_is)
facts_unique line (Faulty m) (Good n items pending) p q =
    let can = q.can_become in
    absurd (p.broken can.0 (joined_on line q.prefix pending can.0 q.items can.1 q.longest.whole q.joining can.2))
facts_unique line (Good n items pending) (Faulty m) p q =
    let can = p.can_become in
    absurd (q.broken can.0 (joined_on line p.prefix pending can.0 p.items can.1 p.longest.whole p.joining can.2))
facts_unique line (Good n items pending) (Good n' items' pending') p q =
    let same =
    same_prefix p.prefix q.prefix pending pending'
    (prefix_length line p.prefix q.prefix pending pending' p.longest q.longest) (sym p.longest.whole
    ∙ q.longest.whole) in
    let list = joining_unique p.items q.items q.prefix (subst (λ l. IsJoining l p.items) same.0 p.joining) q.joining in
    let count : n ≡ n' = p.count_is ∙ ap (λ l. min (length l) most_bytes) same.0 ∙ sym q.count_is in
    let known : items ≡ items' = p.known_is ∙ ap kept list ∙ sym q.known_is in
    let waiting : pending ≡ pending' = same.1 in cc

-- Lines have only one list of meanings.
meanings_unique : (lines : List (List ℕ)) (a b : List LineMeaning) → AreMeanings lines a → AreMeanings lines b → a ≡ b
meanings_unique [] [] [] p q = refl
meanings_unique [] [] (y ∷ b) p q = absurd q
meanings_unique [] (x ∷ a) b p q = absurd p
meanings_unique (l ∷ lines) [] b p q = absurd p
meanings_unique (l ∷ lines) (x ∷ a) [] p q = absurd q
meanings_unique (l ∷ lines) (x ∷ a) (y ∷ b) p q =
    let head : x ≡ y = line_unique l x y p.0 q.0 in
    let tail : a ≡ b = meanings_unique lines a b p.1 q.1 in cc

-- A text has only one list of meanings, and leaves open only one thing.
pub of_text_unique : (text : List ℕ) (a b : List LineMeaning) (f g : LineFacts) → AreOfText text a f →
    AreOfText text b g → (a ≡ b) × (f ≡ g)
of_text_unique text a b f g p q =
    let same = split_unique p.lines q.lines text p.rest q.rest p.split q.split in (
      meanings_unique q.lines a b (subst (λ l. AreMeanings l a) same.0 p.each) q.each,
      facts_unique q.rest f g (subst (λ l. AreLineFacts l f) same.1 p.left) q.left,
    )

-- How a text is cut into pieces changes neither the meanings nor what is left open.
pub cuts_change_nothing : (pieces others : List (List ℕ)) (meanings theirs : List LineMeaning)
    (old new end : LineFacts) → AreLineFacts [] old
    → concat pieces ≡ concat others → AreLinesFed old pieces meanings new → AreLinesFed old others theirs end →
    (meanings ≡ theirs) × (new ≡ end)
cuts_change_nothing pieces others meanings theirs old new end known same p q =
    of_text_unique (concat others) meanings theirs new end
    (subst (λ l. AreOfText l meanings new) same (fed_is_text pieces meanings old new known p))
    (fed_is_text others theirs old end known q)
