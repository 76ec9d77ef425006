use Rattle.dm_words.proofs.Names.{ℕ, List, ◌≤◌, arith, sym, Extent, Usual, Wide, ContentView, Says}
use Rattle.dm_words.proofs.Names.{content_form, padded}
use Rattle.dm_layout.proofs.symbols.Exported.{size_facts}
use Rattle.dm_words.specs.ContentExtents.{IsSaidIn}
use Rattle.dm_words.proofs.ContentForms.{content_form_count}
use Rattle.dm_words.proofs.ContentResults.{form_says_in}
use Rattle.dm_words.proofs.Extents.{said_wide}
use Rattle.dm_words.proofs.MessageReadings.{usual_plain}
use Rattle.dm_words.proofs.NormalPlain.{content_form_plain}
use Rattle.dm_words.proofs.SmallestSymbols.{one_is_smaller}
use Rattle.dm_words.proofs.content_laws.smallest_content_words_are_alike.Goals as goal

-- What is said in an extent can be said there.
can_be_said : (extent : Extent) (words : List ℕ) (l : ContentView) → Says extent words l → IsSaidIn extent l
can_be_said Usual words l s = usual_plain words l s
can_be_said Wide words l s = tt

pub returns : goal.returns
returns c = record {
  size = λ extent choice size other_size l words other s o. one_is_smaller size other_size s.taken.0 o.taken.0
      (λ less. o.smallest size words s.taken less s.sized s.form.framed s.says)
      (λ less. s.smallest other_size other o.taken less o.sized o.form.framed o.says);
  some = λ extent choice size l words s none. none size words s.taken s.sized s.form.framed s.says;
  ascii = λ l words other s o same room. cc (s.ascii room, (o.ascii (omega (arith, room, same))));
  usual = λ l words other s o same. ((λ says. o.usual words same says), (λ says. s.usual other (sym same) says));
  wide = λ choice size other_size l words other s o less.
      o.smallest size words s.taken less s.sized s.form.framed (said_wide Usual words l s.says);
  normal = λ extent profile choice size other_size l words right s taken room less.
      let count = other_size.data_count in
      let most : count ≤ 1558 = (let f = size_facts other_size taken.0 in omega (arith, f.data_fits)) in
      s.smallest other_size (padded (content_form profile l) count) taken less
      (content_form_count profile l count room)
      (content_form_plain profile l right (omega (arith, room, most)) count room).framed
      (form_says_in extent profile l count right (can_be_said extent words l s.says) room most);
}
