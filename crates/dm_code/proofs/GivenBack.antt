-- A place given back to a word from which it was weighed away.
use Rattle.std.proofs.Common.{◌≡◌, ◌≢◌, ℕ, suc, ◌-◌, ◌<◌, ◌≤◌, List, [], ◌∷◌, length, get_or, slice_set, sym, ap, subst}
use Rattle.std.proofs.Common.{◌∙◌, arith, bit_xor, inl, inr, length-set}
use Rattle.std.proofs.lemmas.Bool.{cases_eq}
use Rattle.std.proofs.lemmas.List.{get_or-set_same, get_or-set_other, ext_get_or}
use lib.Bits.{xor_self}
use Rattle.gf301.specs.Field.{◌⊕◌, ◌⊗◌, raise, power}
use Rattle.gf301.specs.Polynomial.{Bytes, value}
use Rattle.gf301.proofs.Exported.{bytes_weighted, inverse_of, length-weighted, product_assoc, product_below}
use Rattle.gf301.proofs.Exported.{product_comm, product_inverse, product_one_right, raise_below, raise_positive}
use Rattle.gf301.proofs.Exported.{sum_below, value_below, weighted}
use Rattle.dm_code.specs.Erased.{distance_but, IsNearBut}
use Rattle.dm_code.proofs.Bytes.{bytes_places}
use Rattle.dm_code.proofs.Codewords.{codeword_bytes}
use Rattle.dm_code.proofs.Corrections.{value_set}
use Rattle.dm_code.proofs.ErasedPlaces.{distance_step, factor_positive, get_or-weighted, length-lessened, lessened}
use Rattle.dm_code.proofs.ErasedPlaces.{lessened_at, lessened_same, near_but_back}
use Rattle.dm_code.proofs.ErrorPlaces.{locator_at}

-- The power 1 of 2 is 2.
power_one : power 1 ≡ 2
unfolding raise
power_one = product_one_right 2 (omega arith)

-- A product with the inverse of a number and then with the number is what was multiplied.
inverse_undone : (a x : ℕ) → a < 256 → 0 < x → x < 256 → (a ⊗ inverse_of x) ⊗ x ≡ a
inverse_undone a x h p b =
    product_assoc a (inverse_of x) x
    ∙ ap (λ y. a ⊗ y) (product_comm (inverse_of x) x ∙ product_inverse x p b) ∙ product_one_right a h

-- Each number of a list is divided by x - r at its locator x.
abbrev divided : ℕ → List ℕ → List ℕ
divided r d = weighted (λ x. inverse_of (value (1 ∷ r ∷ []) x)) d

-- What is missing at the place with the locator r so that the first syndrome is 0.
abbrev missing : ℕ → List ℕ → ℕ
missing r d = value (divided r d) 2 ⊗ inverse_of r

-- The list with the place p, whose locator is r, given back.
unfoldable pub given_back : ℕ → ℕ → List ℕ → List ℕ
given_back p r d = slice_set (divided r d) p (get_or (divided r d) p 0 ⊕ missing r d)

-- It is as long.
length-given_back : (p r : ℕ) (d : List ℕ) → length (given_back p r d) ≡ length d
unfolding given_back
length-given_back p r d =
    length-set (divided r d) p (get_or (divided r d) p 0 ⊕ missing r d)
    ∙ length-weighted (λ x. inverse_of (value (1 ∷ r ∷ []) x)) d

-- It has bytes.
bytes_given_back : (p r : ℕ) (d : List ℕ) → p < length d → Bytes (given_back p r d)
unfolding given_back
bytes_given_back p r d h =
    let a = divided r d in
    let y = get_or a p 0 ⊕ missing r d in
    let la : length a ≡ length d = length-weighted (λ x. inverse_of (value (1 ∷ r ∷ []) x)) d in
    let b = bytes_weighted (λ x. inverse_of (value (1 ∷ r ∷ []) x)) d in
    bytes_places (slice_set a p y) (λ i l. elim (cases_eq i p) [
      | inl e ↦
          subst (λ z. z < 256) (sym (ap (λ j. get_or (slice_set a p y) j 0) e
          ∙ get_or-set_same a p y 0 (omega (arith, la))))
          (sum_below (get_or a p 0) (missing r d) (b p 0 (omega (arith, la)))
          (product_below (value a 2) (inverse_of r)))
      | inr n ↦
          subst (λ z. z < 256) (sym (get_or-set_other a p i y 0 n))
          (b i 0 (omega (arith, length-set a p y)))
    ])

-- It is 0 at the first root.
given_back_root : (p r : ℕ) (d : List ℕ) → p < length d → r ≡ locator_at (length d) p →
    value (given_back p r d) (power 1) ≡ 0
unfolding given_back
given_back_root p r d h e =
    let a = divided r d in
    let la : length a ≡ length d = length-weighted (λ x. inverse_of (value (1 ∷ r ∷ []) x)) d in
    let rb : r < 256 = subst (λ x. x < 256) (sym e) (raise_below 2 (length d - suc p)) in
    let rp : 0 < r =
    subst (λ x. 0 < x) (sym e) (raise_positive 2 (length d - suc p) (omega arith) (omega arith)) in
    ap (value (slice_set a p (get_or a p 0 ⊕ missing r d))) power_one
    ∙ value_set a p (missing r d) 2 (omega (arith, la))
    ∙ ap (λ m. value a 2 ⊕ missing r d ⊗ power (m - suc p)) la
    ∙ ap (λ x. value a 2 ⊕ missing r d ⊗ x) (sym e)
    ∙ ap (bit_xor (value a 2)) (inverse_undone (value a 2) r (value_below a 2) rp rb) ∙ xor_self (value a 2)

-- At another place it has what was divided.
given_other : (p r : ℕ) (d : List ℕ) (i : ℕ) → i ≢ p → get_or (given_back p r d) i 0 ≡ get_or (divided r d) i 0
unfolding given_back
given_other p r d i n = get_or-set_other (divided r d) p i (get_or (divided r d) p 0 ⊕ missing r d) 0 n

-- Once it is lessened again, it is what it was, if that is 0 at the place.
given_back_lessened : (p r : ℕ) (d : List ℕ) → p < length d → length d ≤ 255 → Bytes d → get_or d p 0 ≡ 0 →
    r ≡ locator_at (length d) p → lessened r (given_back p r d) ≡ d
given_back_lessened p r d h s b z e =
    let g = given_back p r d in
    let f = value (1 ∷ r ∷ []) in
    let lg : length g ≡ length d = length-given_back p r d in
    ext_get_or 0 (lessened r g) d (length-lessened r g ∙ lg) (λ i l.
    let ib : i < length d = omega (arith, length-lessened r g, lg) in
    elim (cases_eq i p) [
      | inl q ↦
          ap (λ j. get_or (lessened r g) j 0) q ∙ ap (λ x. get_or (lessened x g) p 0) (e
          ∙ ap (λ m. locator_at m p) (sym lg)) ∙ lessened_same g p (omega (arith, lg))
          ∙ sym (ap (λ j. get_or d j 0) q ∙ z)
      | inr n ↦
          let x = locator_at (length d) i in
          let fp : 0 < f x = subst (λ y. 0 < value (1 ∷ y ∷ []) x) (sym e) (factor_positive (length d) p i s h ib n) in
          lessened_at g r i (omega (arith, lg)) ∙ ap (λ m. get_or g i 0 ⊗ f (locator_at m i)) lg
          ∙ ap (λ y. y ⊗ f x) (given_other p r d i n ∙ get_or-weighted (λ y. inverse_of (f y)) d i ib)
          ∙ inverse_undone (get_or d i 0) (f x) (b i 0 ib) fp (value_below (1 ∷ r ∷ []) x)
    ])

-- The word c is near to the word w but for a place and others, as d is to the lessened word but for the others: d is
-- the lessened c.
pub record IsStepBack (k : ℕ) (q w d : List ℕ) (p : ℕ) (c : List ℕ) : Type 0 where
  pub bytes : Bytes c
  pub less : lessened (locator_at (length w) p) c ≡ d
  pub is_near : IsNearBut (suc k) w (p ∷ q) c
  pub distance : distance_but (p ∷ q) w c ≡ distance_but q (lessened (locator_at (length w) p) w) d

-- There is such a word where what is near to the lessened one is 0 at the place.
pub step_back : (k : ℕ) (q w d : List ℕ) (p : ℕ) → suc k < 255 → Bytes w → length w ≤ 255 → suc k ≤ length w →
    p < length w
    → IsNearBut k (lessened (locator_at (length w) p) w) q d → get_or d p 0 ≡ 0 →
    IsStepBack k q w d p (given_back p (locator_at (length w) p) d)
step_back k q w d p small wb s room h n z =
    let r = locator_at (length w) p in
    let c = given_back p r d in
    let ld : length d ≡ length w = n.long ∙ length-lessened r w in
    let re : r ≡ locator_at (length d) p = ap (λ m. locator_at m p) (sym ld) in
    let lc : length c ≡ length w = length-given_back p r d ∙ ld in
    let cb : Bytes c = bytes_given_back p r d (omega (arith, ld)) in
    let ce : lessened r c ≡ d =
    given_back_lessened p r d (omega (arith, ld)) (omega (arith, ld)) (codeword_bytes k d n.codeword) z re in
    record {
      bytes = cb;
      less = ce;
      is_near =
          near_but_back k q w c p small wb cb lc s room h (given_back_root p r d (omega (arith, ld)) re)
          (subst (IsNearBut k (lessened r w) q) (sym ce) n);
      distance = distance_step q w c p wb cb lc s h ∙ ap (distance_but q (lessened r w)) ce;
    }
