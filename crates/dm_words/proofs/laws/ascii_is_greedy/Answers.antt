use Rattle.dm_words.proofs.Names.{ℕ, List, sym, subst, recursion_from_All, IsItem, IsAscii}
use Rattle.dm_words.proofs.AsciiWords.{ascii_only, units_of}
use Rattle.dm_words.proofs.laws.ascii_is_greedy.Goals as goal

pub returns : goal.returns
returns c = λ m words fit. (
  (λ h. ascii_only m words h),
  (λ e. subst (λ (w : List ℕ). IsAscii m w) (sym e) (units_of m (recursion_from_All IsItem m fit))),
)
