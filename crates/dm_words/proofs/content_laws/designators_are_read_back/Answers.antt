use Rattle.dm_words.proofs.Names.{ℕ, List, sym, subst, IsDesignator}
use Rattle.dm_words.proofs.Designators.{designator_only, designator_says}
use Rattle.dm_words.proofs.content_laws.designators_are_read_back.Goals as goal

pub returns : goal.returns
returns c = λ words n le. (
  (λ d. designator_only words n d),
  (λ e. subst (λ (w : List ℕ). IsDesignator w n) (sym e) (designator_says n le)),
)
