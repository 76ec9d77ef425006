-- That `==` on modules tells equal values.
use Rattle.dm_layout.proofs.Names.{◌≡◌, Bool, true, nat_eq, sym, ◌∙◌, ap, beq, booleans_Decides, pointwise, and_parts}
use Rattle.dm_layout.proofs.Names.{eqb-true, SizeEntry, IsSize, SymbolView, IsSymbol, equal_sizes, equal_modules}
use Rattle.std.specs.Cmp.{IsEquivalence}
use Rattle.dm_layout.proofs.symbols.TableEntries.{same_size}
use Rattle.dm_place.proofs.Exported.{same_by_pointwise}
use Rattle.dm_layout.proofs.symbols.ModulesLemmas.{same_parts}

-- Sizes that compare equal are the same.
pub told_sizes : (s t : SizeEntry) → IsSize s → IsSize t → equal_sizes s t ≡ true → s ≡ t
told_sizes s t h k e =
    let both = and_parts (nat_eq s.rows t.rows) (nat_eq s.columns t.columns) e in
    same_size s t h k (eqb-true _ _ both.0) (eqb-true _ _ both.1)

-- Modules that compare equal are the same.
pub told_modules : (m n : SymbolView) → IsSymbol m → IsSymbol n → equal_modules m n ≡ true → m ≡ n
told_modules m n a b e =
    let both = and_parts (equal_sizes m.size n.size) (pointwise (pointwise beq) m.rows n.rows) e in
    same_parts m.size n.size m.rows n.rows (told_sizes m.size n.size a.size b.size both.0)
    (same_by_pointwise (pointwise beq) (same_by_pointwise beq (λ x y. (booleans_Decides x y).0)) m.rows n.rows both.1)

-- Equal values compare equal by every equivalence.
pub equal_itself : {A : Type 0} (E : A → A → Bool) → IsEquivalence E → (x y : A) → x ≡ y → E x y ≡ true
equal_itself E e x y p = ap (E x) (sym p) ∙ e.refl x
