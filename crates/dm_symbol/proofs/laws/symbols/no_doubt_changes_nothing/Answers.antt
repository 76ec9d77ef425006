use Rattle.dm_symbol.proofs.Names.{near_none_but, near_but_none, sym, subst, IsNearBut}
use Rattle.dm_symbol.proofs.SymbolDoubt.{erased_by_none}
use Rattle.dm_symbol.proofs.laws.symbols.no_doubt_changes_nothing.Goals as goal

pub returns-clause-near : goal.returns-clause-near
returns-clause-near c size b k block other = (
  λ h. near_but_none k block other (subst (λ e. IsNearBut k block e other) (erased_by_none size b) h),
  λ h. subst (λ e. IsNearBut k block e other) (sym (erased_by_none size b)) (near_none_but k block other h),
)
