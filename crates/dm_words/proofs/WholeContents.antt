-- A content is read from codewords exactly where they say it, and a fault is found exactly where they are refused with
-- it.
use Rattle.dm_words.proofs.Names.{◌≡◌, ℕ, zero, suc, ◌+◌, List, [], ◌∷◌, ◌++◌, length, drop, refl, sym, ap, subst, ◌∙◌}
use Rattle.dm_words.proofs.Names.{append_assoc, arith, Option, Some, None, Result, Ok, Err, inl, inr, drop_at, Extent}
use Rattle.dm_words.proofs.Names.{ContentFault, Opened, Opening, spelled, AreBytes, ContentView, Said, IsContentPart}
use Rattle.dm_words.proofs.Names.{AreContentParts, said_items, opening_items, closing_items}
use Rattle.dm_words.proofs.Names.{said_content, AreOpened, Says, IsContentFault, HaveContentFault, IsRefused, no_head}
use Rattle.dm_words.proofs.Names.{behind, HasOneContentResult, Stops, Walked, opened, first_content_part, extended}
use Rattle.dm_words.proofs.Names.{content_to, opening_content, content_by, content_of}
use Rattle.dm_words.specs.declared.contents.fault.ContentFault.TheVariants as fault
use Rattle.dm_words.specs.inner.Scan.Walk.{walk}
use Rattle.dm_words.specs.inner.ContentScan.{content_on, and_closing}
use Rattle.dm_words.proofs.Walks.{Walks, walks, walk-joined}
use Rattle.dm_words.proofs.Pairs.{IsBytes, IsBytes-drop}
use Rattle.dm_words.proofs.Openings as openings
use Rattle.dm_words.proofs.Openings.{OpeningJudged}
use Rattle.dm_words.proofs.ContentParts.{content_part_sound, content_part_complete, content_fault_sound}
use Rattle.dm_words.proofs.ContentParts.{content_fault_complete, content_end_sound, content_end_complete}
use Rattle.dm_words.proofs.Names.{nat_tests}

-- ---- parts from a place on

-- This walk goes over all parts from a place on.
abbrev walked : Extent → ℕ → List ℕ → Walked Said (Option ContentFault)
walked extent place words = walk (first_content_part extent) None (suc (length words)) place words

-- The walk takes parts, one after the other.
the_walk : (extent : Extent) (place : ℕ) (words : List ℕ) → IsBytes words
    → Walks (first_content_part extent) (IsContentPart extent) IsBytes place words (walked extent place words)
the_walk extent place words fit = grind (arith, nat_tests, walks, first_content_part, content_part_sound)

-- Behind what was read before, a content is this with what parts say, and a fault is there.
record Tells (extent : Extent) (so_far : ContentView) (place : ℕ) (words : List ℕ)
    (r : Result ContentView ContentFault) :
    Type 0 where
  content_is : (l : ContentView) → r ≡ Ok l
      → (said : List Said) × (l ≡ extended so_far said) × AreContentParts extent place words said
  fault_is : (f : ContentFault) → r ≡ Err f → HaveContentFault extent place words f

-- A walk that came to the end gives what is said; another one gives a fault that is there.
walk_tells : (extent : Extent) (so_far : ContentView) (place : ℕ) (words : List ℕ)
    (w : Walked Said (Option ContentFault))
    (why : Option ContentFault) → w.why ≡ why
    → Walks (first_content_part extent) (IsContentPart extent) IsBytes place words w
    → Tells extent so_far place words (content_to (extended so_far w.taken) why)
walk_tells extent so_far place words w None e v = record {
  content_is = λ l h. (
    w.taken,
    (let h2 : extended so_far w.taken ≡ l = cc in sym h2),
    record {
      parts = v.pieces;
      after = v.after;
      whole = v.whole;
      joined = v.joined;
      ended = content_end_sound extent w.place v.after v.fits (v.stopped ∙ ap Stops e);
      said_are = v.taken;
    },
  );
  fault_is = λ f h. absurd cc;
}
walk_tells extent so_far place words w (Some g) e v = record {
  content_is = λ l h. absurd cc;
  fault_is = λ f h. record {
    parts = v.pieces;
    after = v.after;
    whole = v.whole;
    joined = v.joined;
    faulty = (let same : g
        ≡ f = cc in subst (λ (k : ℕ). IsContentFault extent k v.after f) v.place_is
        (subst (λ (x : ContentFault). IsContentFault extent w.place v.after x) same
        (content_fault_sound extent w.place v.after g v.fits (v.stopped ∙ ap Stops e))));
  };
}

-- What is read from a place on is right.
read_tells : (extent : Extent) (so_far : ContentView) (place : ℕ) (words : List ℕ) → IsBytes words
    → Tells extent so_far place words (content_on extent so_far place words)
unfolding content_on
read_tells extent so_far place words fit = grind (arith, nat_tests, walk_tells, walked, the_walk)

-- What is said from a place on is read.
pub parts_read : (extent : Extent) (so_far : ContentView) (place : ℕ) (words : List ℕ) (said : List Said)
    → AreContentParts extent place words said → content_on extent so_far place words ≡ Ok (extended so_far said)
unfolding content_on
parts_read extent so_far place words said s =
    let w = walk-joined (first_content_part extent) (IsContentPart extent) IsBytes None (content_part_complete extent)
    (suc (length (spelled s.parts ++ s.after))) place s.parts s.after None s.joined
    (content_end_complete extent (place + length (spelled s.parts)) s.after s.ended) (omega arith) in
    rw (s.whole, w, s.said_are) refl

-- A fault that is there from a place on is found.
pub fault_read : (extent : Extent) (so_far : ContentView) (place : ℕ) (words : List ℕ) (f : ContentFault)
    → HaveContentFault extent place words f → content_on extent so_far place words ≡ Err f
unfolding content_on
fault_read extent so_far place words f r =
    let w = walk-joined (first_content_part extent) (IsContentPart extent) IsBytes None (content_part_complete extent)
    (suc (length (spelled r.parts ++ r.after))) place r.parts r.after (Some f) r.joined
    (content_fault_complete extent (place + length (spelled r.parts)) r.after f r.faulty) (omega arith) in
    rw (r.whole, w) refl

-- ---- the whole

-- What an opening and parts say, with what closes it.
closed_content : (opening : Opening) (said : List Said)
    → and_closing opening (Ok (extended (opening_content opening) said)) ≡ Ok (said_content opening said)
closed_content opening said =
    rw (
      openings.said_behind opening said,
      append_assoc (opening_items opening) (said_items said) (closing_items opening),
    ) refl

-- A content before what closes it is read from a content.
closing_content : (closing : Opening) (r : Result ContentView ContentFault) (l : ContentView) → and_closing closing r
    ≡ Ok l → (k : ContentView) × (r ≡ Ok k) × (Ok l ≡ and_closing closing (Ok k))
closing_content closing (Ok k) l e = (k, refl, sym e)
closing_content closing (Err f) l e = absurd cc

-- A fault before what closes a content is found before it.
closing_fault : (closing : Opening) (r : Result ContentView ContentFault) (f : ContentFault) → and_closing closing r
    ≡ Err f → r ≡ Err f
closing_fault closing r f h1 = grind (arith, nat_tests)

-- A right reading: a content that is read is said, and a fault that is found is one with which the codewords are
-- refused.
pub record IsRightReading (extent : Extent) (words : List ℕ) (r : Result ContentView ContentFault) : Type 0 where
  pub content_is : (l : ContentView) → r ≡ Ok l → Says extent words l
  pub fault_is : (f : ContentFault) → r ≡ Err f → IsRefused extent words f

-- What is read behind an opening is right.
reading_tells : (extent : Extent) (words : List ℕ) (o : Option Opened) → OpeningJudged extent words o → IsBytes words
    → IsRightReading extent words (content_by extent words o)
reading_tells extent words None j fit = record {
  content_is = λ l h. absurd cc;
  fault_is = λ f h. (let same : fault.Append 1 ≡ f = cc in no_head j.more j.wide j.whole j.none (sym same));
}
reading_tells extent words (Some o) j fit =
    let rest : drop o.count words ≡ j.more = ap (drop o.count) j.whole ∙ drop_at j.first j.more o.count (sym j.count) in
    let t = read_tells extent (opening_content o.opening) (1 + o.count) (drop o.count words)
    (IsBytes-drop o.count words fit) in
    let opens : AreOpened extent words o.opening (1 + o.count) j.more =
    record { first = j.first; is_opening = j.is_opening; whole = j.whole; place_is = omega (arith, j.count) } in
    record {
      content_is = λ l h. (
          let q = closing_content o.opening
          (content_on extent (opening_content o.opening) (1 + o.count) (drop o.count words)) l
          h in
          let p = t.content_is q.0 q.1 in
          let is : Ok l ≡ Ok (said_content o.opening p.0) = q.2
          ∙ ap (λ (k : ContentView). and_closing o.opening (Ok k)) p.1 ∙ closed_content o.opening p.0 in
          record {
            opening = o.opening;
            place = 1 + o.count;
            more = j.more;
            opened = opens;
            said = p.0;
            parts = subst (λ (ws : List ℕ). AreContentParts extent (1 + o.count) ws p.0) rest p.2;
            content_is = cc;
          }
          );
      fault_is = λ f h. (
          let g = t.fault_is f
          (closing_fault o.opening (content_on extent (opening_content o.opening) (1 + o.count) (drop o.count words)) f
          h) in
          let there : HaveContentFault extent (1 + o.count) j.more f =
          subst (λ (ws : List ℕ). HaveContentFault extent (1 + o.count) ws f) rest g in
          behind o.opening (1 + o.count) j.more opens there.parts there.after there.joined there.whole there.faulty
          );
    }

-- What is read is right.
pub reads : (extent : Extent) (words : List ℕ) → IsBytes words → IsRightReading extent words (content_of extent words)
reads extent words fit = reading_tells extent words (opened extent words) (openings.judged extent words) fit

-- What opens the words is found.
pub opens_so : (extent : Extent) (words : List ℕ) (opening : Opening) (place : ℕ) (more : List ℕ)
    (a : AreOpened extent words opening place more)
    → (opened extent words ≡ Some (record { opening = opening; count = length a.first })) × (drop (length a.first) words
    ≡ more)
opens_so extent words opening place more a = (
  ap (opened extent) a.whole ∙ openings.complete extent a.first more opening a.is_opening,
  cc (a.whole, drop_at a.first more (length a.first) refl),
)

-- A content that is said is read.
pub said_reads : (extent : Extent) (words : List ℕ) (l : ContentView) → Says extent words l
    → content_of extent words ≡ Ok l
said_reads extent words l s =
    let o = opens_so extent words s.opening s.place s.more s.opened in
    let read = parts_read extent (opening_content s.opening) s.place s.more s.said s.parts in
    let place : 1 + length s.opened.first ≡ s.place = sym s.opened.place_is in
    rw s.content_is (ap (content_by extent words) o.0
    ∙ ap (λ (ws : List ℕ). and_closing s.opening
    (content_on extent (opening_content s.opening) (1 + length s.opened.first) ws)) o.1
    ∙ ap (λ (p : ℕ). and_closing s.opening (content_on extent (opening_content s.opening) p s.more)) place
    ∙ ap (and_closing s.opening) read ∙ closed_content s.opening s.said)

-- A fault with which the codewords are refused is found.
pub refused_reads : (extent : Extent) (words : List ℕ) (f : ContentFault) → IsRefused extent words f
    → content_of extent words ≡ Err f
refused_reads extent words f (no_head more wide e none is) = rw (wide, openings.no_head_complete _ more e none, is) refl
refused_reads extent words f (behind opening place more a parts after joined whole faulty) =
    let h : HaveContentFault extent place more f =
    record { parts = parts; after = after; joined = joined; whole = whole; faulty = faulty } in
    let o = opens_so extent words opening place more a in
    let read = fault_read extent (opening_content opening) place more f h in
    let p : 1 + length a.first ≡ place = sym a.place_is in
    cc

-- Codewords have one result, by what is read from them.
result_of : (extent : Extent) (words : List ℕ) (r : Result ContentView ContentFault) → content_of extent words ≡ r
    → IsBytes words
    → HasOneContentResult extent words
result_of extent words (Ok l) e fit = inl (record {
  content = l;
  says = (reads extent words fit).content_is l e;
  only = λ k s. (let h = said_reads extent words k s in cc);
  not_refused = λ f r. (let h = refused_reads extent words f r in cc);
})
result_of extent words (Err f) e fit = inr (record {
  why = f;
  refused = (reads extent words fit).fault_is f e;
  only = λ g r. (let h = refused_reads extent words g r in cc);
  not_said = λ l s. (let h = said_reads extent words l s in cc);
})

-- Bytes by recursion are bytes by index.
bytes_at : (words : List ℕ) → AreBytes words → IsBytes words
bytes_at [] fit i = omega arith
bytes_at (w ∷ words) fit zero = fit.0
bytes_at (w ∷ words) fit (suc i) = bytes_at words fit.1 i

-- Codewords have one result: a content or a fault.
pub one_content : (extent : Extent) (words : List ℕ) → AreBytes words → HasOneContentResult extent words
one_content extent words fit = result_of extent words (content_of extent words) refl (bytes_at words fit)
