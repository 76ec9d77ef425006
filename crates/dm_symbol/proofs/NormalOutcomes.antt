-- There is one result of normalising, and each kind of result is given exactly where its condition holds, for grids as
-- for symbols of any size.
use Rattle.dm_symbol.proofs.Names.{◌≡◌, Result, Ok, Err, refl, sym, ap, subst, ◌∙◌, IsNormalOrFault, IsNormalGiven}

-- The conditions exclude each other, and hold of one thing each; and the faults tell which they are.
pub record AreApart {N F E : Type 0} (read : F → E) (long : E) (has : N → Type 0) (has_none : Type 0)
    (refused : F → Type 0) : Type 0 where
  pub same_read : (why other : F) → read why ≡ read other → why ≡ other
  pub read_no_long : (why : F) → read why ≡ long → ⊥
  pub one : (n o : N) → has n → has o → n ≡ o
  pub some_or_none : (n : N) → has n → has_none → ⊥
  pub has_or_refused : (n : N) (why : F) → has n → refused why → ⊥
  pub none_or_refused : (why : F) → has_none → refused why → ⊥
  pub one_refused : (why other : F) → refused why → refused other → why ≡ other

module _ {N F E : Type 0} (read : F → E) (long : E) (has : N → Type 0) (has_none : Type 0) (refused : F → Type 0)
    (apart : AreApart read long has has_none refused) where
  -- There is at most one result.
  pub one_normalised : (a b : Result N E) → IsNormalOrFault read long has has_none refused a
      → IsNormalOrFault read long has has_none refused b → a ≡ b
  one_normalised a b (IsNormalOrFault.normal n h e) (IsNormalOrFault.normal o k f) =
      e ∙ ap (λ x. Ok x) (apart.one n o h k) ∙ sym f
  one_normalised a b (IsNormalOrFault.normal n h e) (IsNormalOrFault.too_long k f) = absurd (apart.some_or_none n h k)
  one_normalised a b (IsNormalOrFault.normal n h e) (IsNormalOrFault.fault why k f) =
      absurd (apart.has_or_refused n why h k)
  one_normalised a b (IsNormalOrFault.too_long h e) (IsNormalOrFault.normal o k f) = absurd (apart.some_or_none o k h)
  one_normalised a b (IsNormalOrFault.too_long h e) (IsNormalOrFault.too_long k f) = e ∙ sym f
  one_normalised a b (IsNormalOrFault.too_long h e) (IsNormalOrFault.fault why k f) =
      absurd (apart.none_or_refused why h k)
  one_normalised a b (IsNormalOrFault.fault why h e) (IsNormalOrFault.normal o k f) =
      absurd (apart.has_or_refused o why k h)
  one_normalised a b (IsNormalOrFault.fault why h e) (IsNormalOrFault.too_long k f) =
      absurd (apart.none_or_refused why k h)
  one_normalised a b (IsNormalOrFault.fault why h e) (IsNormalOrFault.fault other k f) =
      e ∙ ap (λ x. Err (read x)) (apart.one_refused why other h k) ∙ sym f

  -- Where the result is a normal one, there is that one.
  pub told_normal : (n : N) (result : Result N E) → IsNormalOrFault read long has has_none refused result
      → result ≡ Ok n → has n
  told_normal n result (IsNormalOrFault.normal o h e) f = let same : o ≡ n = cc in subst has same h
  told_normal n result (IsNormalOrFault.too_long h e) f = absurd cc
  told_normal n result (IsNormalOrFault.fault why h e) f = absurd cc

  -- Where the result is that there is none, there is none.
  told_none : (result : Result N E) → IsNormalOrFault read long has has_none refused result → result ≡ Err long
      → has_none
  told_none result (IsNormalOrFault.normal o h e) f = absurd cc
  told_none result (IsNormalOrFault.too_long h e) f = h
  told_none result (IsNormalOrFault.fault why h e) f = absurd (apart.read_no_long why cc)

  -- Where the result is a fault of reading, it is that of reading.
  told_fault : (why : F) (result : Result N E) → IsNormalOrFault read long has has_none refused result
      → result ≡ Err (read why) → refused why
  told_fault why result (IsNormalOrFault.normal o h e) f = absurd cc
  told_fault why result (IsNormalOrFault.too_long h e) f = absurd (apart.read_no_long why cc)
  told_fault why result (IsNormalOrFault.fault other h e) f = subst refused (apart.same_read other why cc) h

  -- The result defined is what normalising gives.
  pub is_normal_given : (result : Result N E) → IsNormalOrFault read long has has_none refused result
      → IsNormalGiven read long has has_none refused result
  is_normal_given result a = record {
    result_is = a;
    normal = λ n. (
      told_normal n result a,
      λ h. one_normalised result (Ok n) a (IsNormalOrFault.normal n h refl),
    );
    too_long = (
      told_none result a,
      λ h. one_normalised result (Err long) a (IsNormalOrFault.too_long h refl),
    );
    fault = λ why. (
      told_fault why result a,
      λ h. one_normalised result (Err (read why)) a (IsNormalOrFault.fault why h refl),
    );
  }
