-- Rows with the same modules.
use Rattle.dm_layout.proofs.Names.{nat_tests, ◌≡◌, ◌⊎◌, inl, inr, ℕ, ◌+◌, ◌-◌, ◌*◌, ◌%◌, ◌^◌, ◌<◌, ◌≤◌, Bool, true}
use Rattle.dm_layout.proofs.Names.{false, nat_eq, refl, sym, ◌∙◌, ap, arith, eq-eqb, eqb-true, cases_lt, pow_pos}
use Rattle.dm_layout.proofs.Names.{equal_modules, SymbolView, IsSymbol, is_dark_bit, module_at, SizeEntry}
use Rattle.std.proofs.Common.{◌↔◌, IsTrue}
use Rattle.dm_layout.specs.symbols.Equality.{modules_equiv}
use Rattle.dm_layout.proofs.symbols.EqualityLaws.{equal_itself, told_modules}
use Rattle.dm_layout.proofs.symbols.ModulesLemmas.{same_modules}
use Rattle.dm_layout.proofs.symbols.Rows.{prefix_cell, same_row_numbers, weight}

-- Rows have the same modules in their first columns exactly if what is cut from them is the same.
pub same_below : (a b n : ℕ) (result : Bool) → n < 128 →
    result ≡ nat_eq (a % (1 * 2 ^ n % 2 ^ 128)) (b % (1 * 2 ^ n % 2 ^ 128)) →
    IsTrue result ↔ ((c : ℕ) → c < n → is_dark_bit a c ≡ is_dark_bit b c)
same_below a b n result small is = (
  λ t c l.
      let e : a % (1 * 2 ^ n % 2 ^ 128) ≡ b % (1 * 2 ^ n % 2 ^ 128) = eqb-true _ _ (sym is ∙ is_true t) in
      sym (prefix_cell a n c small l) ∙ ap (λ (i : ℕ). is_dark_bit i c) e ∙ prefix_cell b n c small l,
  λ h. to_true (is ∙ eq-eqb _ _ (same_row_numbers n _ _ (narrow a) (narrow b) (λ c l.
      prefix_cell a n c small l ∙ h c l ∙ sym (prefix_cell b n c small l)))),
)
  where
    narrow : (x : ℕ) → x % (1 * 2 ^ n % 2 ^ 128) < 2 ^ n
    narrow x = by_mod x (1 * 2 ^ n % 2 ^ 128) (2 ^ n) (weight n small) (pow_pos n)
      where
        by_mod : (x m n : ℕ) → m ≡ n → 0 < n → x % m < n
        by_mod x m n e p = omega arith

    is_true : IsTrue result → result ≡ true
    is_true t = t

    to_true : result ≡ true → IsTrue result
    to_true e = e

-- ---- symbols that are the same

-- Symbols of one size are equal exactly if all modules are.
pub all_tell : (m n : SymbolView) (b : Bool) → IsSymbol m → IsSymbol n → n.size ≡ m.size →
    (IsTrue b ↔ ((r c : ℕ) → r < m.size.rows → c < m.size.columns → module_at m r c ≡ module_at n r c)) →
    IsTrue b ↔ (m ≡ n)
all_tell m n b x y same told = grind (arith, nat_tests, same_modules)

-- What is true exactly where symbols are equal is whether they compare equal.
pub by_told : (m n : SymbolView) (b : Bool) → IsSymbol m → IsSymbol n → (IsTrue b ↔ (m ≡ n)) → b ≡ equal_modules m n
by_told m n true x y told = sym (equal_itself equal_modules modules_equiv m n (told.0 refl))
by_told m n false x y told = by_test (equal_modules m n) refl
  where
    by_test : (t : Bool) → equal_modules m n ≡ t → false ≡ t
    by_test true e = let f : false ≡ true = told.1 (told_modules m n x y e) in f
    by_test false e = refl

module _ (m n : SymbolView) (row a b : ℕ) (same : n.size ≡ m.size)
    (mine : (c : ℕ) → c < 128 → c < m.size.columns → is_dark_bit a c ≡ module_at m row c)
    (other : (c : ℕ) → c < 128 → c < n.size.columns → is_dark_bit b c ≡ module_at n row c) where
  columns : n.size.columns ≡ m.size.columns
  columns = ap (λ (s : SizeEntry). s.columns) same

  -- In a row of at most 128 columns the modules are the same where the bits are.
  pub told_first : (result : Bool) (k : ℕ) → k ≡ m.size.columns → k ≤ 128 →
      (IsTrue result ↔ ((c : ℕ) → c < k → is_dark_bit a c ≡ is_dark_bit b c)) →
      IsTrue result ↔ ((c : ℕ) → c < m.size.columns → module_at m row c ≡ module_at n row c)
  told_first result k ek few told = (
    λ t c l.
        let lk : c < k = omega (arith, l, ek) in
        let low : c < 128 = omega (arith, lk, few) in
        let far : c < n.size.columns = omega (arith, l, columns) in
        sym (mine c low l) ∙ told.0 t c lk ∙ other c low far,
    λ h. told.1 (λ c lk.
        let l : c < m.size.columns = omega (arith, lk, ek) in
        let low : c < 128 = omega (arith, lk, few) in
        let far : c < n.size.columns = omega (arith, l, columns) in
        mine c low l ∙ h c l ∙ sym (other c low far)),
  )

  -- In a longer row they are so where the first numbers agree, and the bits of the second.
  pub told_end : (x y : ℕ) (result : Bool) (k : ℕ) → k ≡ m.size.columns → a ≡ b →
      ((c : ℕ) → 128 + c < m.size.columns → is_dark_bit x c ≡ module_at m row (128 + c)) →
      ((c : ℕ) → 128 + c < n.size.columns → is_dark_bit y c ≡ module_at n row (128 + c)) →
      (IsTrue result ↔ ((c : ℕ) → c < k - 128 → is_dark_bit x c ≡ is_dark_bit y c)) →
      IsTrue result ↔ ((c : ℕ) → c < m.size.columns → module_at m row c ≡ module_at n row c)
  told_end x y result k ek e my_end other_end told = (
    λ t c l. by_column t c l (cases_lt c 128),
    λ h. told.1 (λ c lk.
        let l : 128 + c < m.size.columns = omega (arith, lk, ek) in
        let far : 128 + c < n.size.columns = omega (arith, l, columns) in
        my_end c l ∙ h (128 + c) l ∙ sym (other_end c far)),
  )
    where
      by_column : IsTrue result → (c : ℕ) → c < m.size.columns → (c < 128) ⊎ (128 ≤ c) →
          module_at m row c ≡ module_at n row c
      by_column t c l (inl low) =
          let far : c < n.size.columns = omega (arith, l, columns) in
          sym (mine c low l) ∙ ap (λ (i : ℕ). is_dark_bit i c) e ∙ other c low far
      by_column t c l (inr high) =
          let is : 128 + (c - 128) ≡ c = omega (arith, high) in
          ap (module_at m row) (sym is)
          ∙ sym (my_end (c - 128) (omega (arith, l, high))) ∙ told.0 t (c - 128) (omega (arith, l, high, ek))
          ∙ other_end (c - 128) (omega (arith, l, high, columns)) ∙ ap (module_at n row) is

  -- Where the first numbers of a longer row differ, so do modules.
  pub told_none : 128 < m.size.columns → a < 2 ^ 128 → b < 2 ^ 128 → (a ≡ b → ⊥) →
      ((c : ℕ) → c < m.size.columns → module_at m row c ≡ module_at n row c) → ⊥
  told_none wide la lb ne h =
      ne (same_row_numbers 128 a b la lb (λ c low.
      let l : c < m.size.columns = omega (arith, low, wide) in
      let far : c < n.size.columns = omega (arith, l, columns) in
      mine c low l ∙ h c l ∙ sym (other c low far)))
