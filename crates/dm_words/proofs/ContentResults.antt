-- What codewords say in an extent, and with which fault they are refused: one content or one fault.
use Rattle.dm_words.proofs.Names.{◌≡◌, ◌≤◌, ◌<◌, ℕ, List, length, ap, subst, ◌∙◌, inl, inr, recursion_from_All}
use Rattle.dm_words.proofs.Names.{Extent, Usual, Wide, Profile, WordFault, ContentFault, most_data, padded}
use Rattle.dm_words.proofs.Names.{normal_form, Spells, AreCodewords, ContentView, IsContent, Says, IsRefused}
use Rattle.dm_words.proofs.Names.{content_form, HasOneContentResult, as_content, arith, nat_tests}
use Rattle.dm_words.specs.declared.contents.fault.ContentFault.TheVariants as fault
use Rattle.dm_words.specs.Laws.{HasOneResult}
use Rattle.dm_words.specs.ContentExtents.{IsSaidIn}
use Rattle.dm_words.proofs.Extents.{said_wide}
use Rattle.dm_words.proofs.MessageReadings.{usual_plain, usual_word}
use Rattle.dm_words.proofs.NormalForms.{normal_form_spells}
use Rattle.dm_words.proofs.NormalPlain.{content_form_says}
use Rattle.dm_words.proofs.WholeContents.{said_reads, refused_reads}
use Rattle.dm_words.proofs.WholeContents as whole

-- Codewords say at most one content, whatever the extents.
pub said_is_one : (extent other : Extent) (words : List ℕ) (l k : ContentView) → Says extent words l
    → Says other words k → l ≡ k
said_is_one extent other words l k s t =
    let a = said_reads Wide words l (said_wide extent words l s) in
    let b = said_reads Wide words k (said_wide other words k t) in
    cc

-- Codewords that say a content in an extent aren't refused in it.
pub said_not_refused : (extent : Extent) (words : List ℕ) (l : ContentView) (f : ContentFault)
    → Says extent words l → IsRefused extent words f → ⊥
said_not_refused extent words l f s r =
    let a = said_reads extent words l s in
    let b = refused_reads extent words f r in
    absurd cc

-- Codewords are refused with at most one fault in an extent.
pub refused_is_one : (extent : Extent) (words : List ℕ) (f g : ContentFault) → IsRefused extent words f
    → IsRefused extent words g → f ≡ g
refused_is_one extent words f g r t =
    let a = refused_reads extent words f r in
    let b = refused_reads extent words g t in
    cc

-- Codewords say a content in an extent, or are refused in it.
pub one_content : (extent : Extent) (words : List ℕ) → AreCodewords words → HasOneContentResult extent words
one_content extent words fit = whole.one_content extent words (recursion_from_All (λ w. w < 256) words fit)

-- What is said in the usual extent is a message that the codewords spell.
pub usual_spells : (words : List ℕ) (l : ContentView) → Says Usual words l
    → (l ≡ as_content l.items) × Spells Usual words l.items
usual_spells words l s = (let e = usual_plain words l s in (e, subst (Says Usual words) e s))

-- Codewords spell one message or are refused with one fault.
pub one_result : (words : List ℕ) → AreCodewords words → HasOneResult words
one_result words fit = elim (one_content Usual words fit) [
  | inl one ↦
      let spells = usual_spells words one.content one.says in
      inl (record {
        message = one.content.items;
        spells = spells.1;
        only = λ other s. ap (λ (l : ContentView). l.items) (one.only (as_content other) s);
        not_refused = λ why r. one.not_refused (fault.Word why) r;
      })
  | inr one ↦
      let of_word = usual_word words one.why one.refused in
      inr (record {
        why = of_word.0;
        refused = subst (IsRefused Usual words) of_word.1 one.refused;
        only = λ other r. same_word other of_word.0 (one.only (fault.Word other) r ∙ of_word.1);
        not_spelled = λ m s. one.not_said (as_content m) s;
      })
]
  where
    same_word : (f g : WordFault) → fault.Word f ≡ fault.Word g → f ≡ g
    same_word f g e = cc

-- The normal form of a content, with pads, says it in each extent in which it can be said.
pub form_says_in : (extent : Extent) (profile : Profile) (l : ContentView) (count : ℕ) → IsContent l → IsSaidIn extent l
    → length (content_form profile l) ≤ count → count ≤ most_data
    → Says extent (padded (content_form profile l) count) l
form_says_in extent profile l count h1 h2 h3 h4 =
    grind (arith, nat_tests, content_form_says, content_form, normal_form, padded, normal_form_spells)
