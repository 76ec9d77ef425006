-- Several places of a word weighed away, one after another, and given back.
use Rattle.std.proofs.Common.{◌≡◌, ◌≢◌, ◌⊎◌, ℕ, zero, suc, ◌+◌, ◌-◌, ◌<◌, ◌≤◌, List, [], ◌∷◌, ◌++◌, length, get_or}
use Rattle.std.proofs.Common.{take, take-suc, length-take, refl, sym, ap, subst, ◌∙◌, arith, Bool, true, false, inl}
use Rattle.std.proofs.Common.{inr, if◌then◌else◌, append-nil}
use Rattle.std.proofs.lemmas.Bool.{cases_eq, cases_lt}
use Rattle.std.proofs.lemmas.List.{ext_get_or, get_or-take, get_or_past}
use Rattle.std.proofs.lemmas.List.Elements.{All-from_get_or}
use Rattle.std.specs.List.{All}
use lib.Bits.{xor_self}
use Rattle.gf301.specs.Field.{◌⊗◌}
use Rattle.gf301.specs.Polynomial.{Bytes, coefficient, value}
use Rattle.gf301.specs.Generator.{generator}
use Rattle.gf301.proofs.Exported.{factor_value, length_times, product_assoc, product_cancel, product_cancels}
use Rattle.gf301.proofs.Exported.{product_comm, product_one_right, product_positive, product_zero_left}
use Rattle.gf301.proofs.Exported.{product_zero_right, raise_below, value_below, value_one, value_times}
use Rattle.dm_code.specs.Erased.{IsNearBut, distance_but, erased_places_from}
use Rattle.dm_code.specs.inner.Lessened.{AreValues, IsAscending, IsSameBut, IsWeighed, places_locator}
use Rattle.dm_code.proofs.Codewords.{codeword_bytes}
use Rattle.dm_code.proofs.ErrorPlaces.{locator_at}
use Rattle.dm_code.proofs.ErasedPlaces.{ArePlaces, bytes_lessened, factor_positive, length-lessened, lessened}
use Rattle.dm_code.proofs.ErasedPlaces.{lessened_at, near_but_lessened, near_but_one}
use Rattle.dm_code.proofs.GivenBack.{given_back, step_back}

-- ---- the erased places
-- One place more is erased, or isn't.
pub erased_snoc : (n : ℕ) (l : List Bool) (b : Bool) →
    erased_places_from n (l ++ (b ∷ [])) ≡ erased_places_from n l ++ (if b then (n + length l) ∷ [] else [])
unfolding erased_places_from
erased_snoc n [] true = ap (λ m. m ∷ []) (let q : n ≡ n + 0 = omega arith in q)
erased_snoc n [] false = refl
erased_snoc n (true ∷ l) b =
    ap (λ t. n ∷ t) (erased_snoc (suc n) l b ∙ ap (λ m. erased_places_from (suc n) l ++ (if b then m ∷ [] else []))
    (let q : suc n + length l ≡ n + suc (length l) = omega arith in q))
erased_snoc n (false ∷ l) b =
    erased_snoc (suc n) l b ∙ ap (λ m. erased_places_from (suc n) l ++ (if b then m ∷ [] else []))
    (let q : suc n + length l ≡ n + suc (length l) = omega arith in q)

-- Those of none are none.
pub erased_nil : erased_places_from 0 [] ≡ []
unfolding erased_places_from
erased_nil = refl

-- One place more of a list is looked at.
erased_next : (l : List Bool) (i : ℕ) → i < length l →
    erased_places_from 0 (take (i + 1) l) ≡ erased_places_from 0 (take i l) ++ (if get_or l i false then i ∷ [] else [])
erased_next l i h =
    let n : 0 + length (take i l) ≡ i = omega (arith, length-take i l) in
    ap (erased_places_from 0) (ap (λ j. take j l) (let q : i + 1 ≡ suc i = omega arith in q) ∙ take-suc l i false h)
    ∙ erased_snoc 0 (take i l) (get_or l i false)
    ∙ ap (λ m. erased_places_from 0 (take i l) ++ (if get_or l i false then m ∷ [] else [])) n

-- It is erased.
pub erased_more : (l : List Bool) (i : ℕ) → i < length l → get_or l i false ≡ true →
    erased_places_from 0 (take (i + 1) l) ≡ erased_places_from 0 (take i l) ++ (i ∷ [])
erased_more l i h e = erased_next l i h ∙ ap (λ b. erased_places_from 0 (take i l) ++ (if b then i ∷ [] else [])) e

-- It isn't.
pub erased_no_more : (l : List Bool) (i : ℕ) → i < length l → get_or l i false ≡ false →
    erased_places_from 0 (take (i + 1) l) ≡ erased_places_from 0 (take i l)
erased_no_more l i h e =
    erased_next l i h ∙ ap (λ b. erased_places_from 0 (take i l) ++ (if b then i ∷ [] else [])) e
    ∙ append-nil (erased_places_from 0 (take i l))

-- Each of them is below the end of the list.
pub erased_within : (n m : ℕ) (l : List Bool) → n + length l ≤ m → (i d : ℕ) → i < length (erased_places_from n l) →
    get_or (erased_places_from n l) i d < m
unfolding erased_places_from
erased_within n m [] h i d b = absurd (omega arith)
erased_within n m (true ∷ l) h zero d b = omega arith
erased_within n m (true ∷ l) h (suc i) d b = erased_within (suc n) m l (omega arith) i d (omega arith)
erased_within n m (false ∷ l) h i d b = erased_within (suc n) m l (omega arith) i d b

-- The places of a word that a list of them has, however they are handed on.
pub places_within : (w q : List ℕ) (e : List Bool) → length e ≡ length w → q ≡ erased_places_from 0 e → (i d : ℕ) →
    i < length q → get_or q i d < length w
places_within w q e h z i d b =
    subst (λ t. get_or t i d < length w) (sym z)
    (erased_within 0 (length w) e (omega (arith, h)) i d (omega (arith, ap length z, b)))

-- Each of them is at or after the first place.
erased_after : (n : ℕ) (l : List Bool) (i : ℕ) → i < length (erased_places_from n l) →
    n ≤ get_or (erased_places_from n l) i 0
unfolding erased_places_from
erased_after n [] i b = absurd (omega arith)
erased_after n (true ∷ l) zero b = omega arith
erased_after n (true ∷ l) (suc i) b = omega (arith, erased_after (suc n) l i (omega arith))
erased_after n (false ∷ l) i b = omega (arith, erased_after (suc n) l i b)

-- They are in ascending order.
pub erased_ascending : (n : ℕ) (l : List Bool) → IsAscending (erased_places_from n l)
unfolding erased_places_from
erased_ascending n [] i j h b = absurd (omega arith)
erased_ascending n (true ∷ l) i zero h b = absurd (omega arith)
erased_ascending n (true ∷ l) zero (suc j) h b = omega (arith, erased_after (suc n) l j (omega arith))
erased_ascending n (true ∷ l) (suc i) (suc j) h b = erased_ascending (suc n) l i j (omega arith) (omega arith)
erased_ascending n (false ∷ l) i j h b = erased_ascending (suc n) l i j h b

-- ---- the locator of some places
-- The locator of no places is 1.
one_value : (x : ℕ) → value (1 ∷ []) x ≡ 1
unfolding generator
one_value x = value_one x

-- It has a coefficient more than there are places.
pub length_locator : (n : ℕ) (q : List ℕ) → length (places_locator n q) ≡ suc (length q)
unfolding places_locator
length_locator n [] = refl
length_locator n (p ∷ q) =
    let e = length_locator n q in
    let m = length_times (1 ∷ locator_at n p ∷ []) (places_locator n q) (omega (arith, e)) in
    omega (arith, m, e)

-- A list of its coefficients and zeros, as far as it has coefficients, is the locator.
pub locator_taken : (n : ℕ) (q l : List ℕ) → length q < length l →
    ((i : ℕ) → get_or l i 0 ≡ coefficient (places_locator n q) i) → take (length q + 1) l ≡ places_locator n q
locator_taken n q l room e =
    let tl : length (take (length q + 1) l) ≡ length q + 1 = simp length-take (omega arith) in
    ext_get_or 0 (take (length q + 1) l) (places_locator n q) (omega (arith, tl, length_locator n q))
    (λ i b. get_or-take (length q + 1) l i 0 (omega arith) ∙ e i)

-- The value of the locator of one place more is the product of that of the place and that of the others.
pub locator_more : (n p : ℕ) (q : List ℕ) (x : ℕ) → value (places_locator n (p ∷ q)) x ≡
    value (1 ∷ locator_at n p ∷ []) x ⊗ value (places_locator n q) x
unfolding places_locator
locator_more n p q x =
    value_times x (1 ∷ locator_at n p ∷ []) (places_locator n q) (omega (arith, length_locator n q))

-- At each of the places it is 0.
pub locator_zero : (n : ℕ) (q : List ℕ) (j : ℕ) → j < length q →
    value (places_locator n q) (locator_at n (get_or q j 0)) ≡ 0
locator_zero n [] j h = absurd (omega arith)
locator_zero n (p ∷ q) zero h =
    let r = locator_at n p in
    let b : r < 256 = raise_below 2 (n - suc p) in
    locator_more n p q r ∙ ap (λ y. y ⊗ value (places_locator n q) r) (factor_value r r b b ∙ xor_self r)
    ∙ product_zero_left (value (places_locator n q) r)
locator_zero n (p ∷ q) (suc j) h =
    let x = locator_at n (get_or q j 0) in
    locator_more n p q x ∙ ap (λ y. value (1 ∷ locator_at n p ∷ []) x ⊗ y) (locator_zero n q j (omega arith))
    ∙ product_zero_right (value (1 ∷ locator_at n p ∷ []) x)

-- At other places it isn't.
pub locator_positive : (n : ℕ) (q : List ℕ) (i : ℕ) → n ≤ 255 → ArePlaces n q → i < n →
    ((j : ℕ) → j < length q → get_or q j 0 ≢ i) → 0 < value (places_locator n q) (locator_at n i)
unfolding places_locator
locator_positive n [] i s a h o = subst (λ y. 0 < y) (sym (one_value (locator_at n i))) (omega arith)
locator_positive n (p ∷ q) i s a h o =
    let x = locator_at n i in
    let ne : i ≢ p = λ e. o 0 (omega arith) (sym e) in
    subst (λ y. 0 < y) (sym (locator_more n p q x))
    (product_positive (value (1 ∷ locator_at n p ∷ []) x) (value (places_locator n q) x)
    (factor_positive n p i s (a 0 (omega arith)) h ne) (value_below (1 ∷ locator_at n p ∷ []) x)
    (locator_positive n q i s (λ j b. a (suc j) (omega arith)) h (λ j b. o (suc j) (omega arith)))
    (value_below (places_locator n q) x))

-- A number is in a list, or it is not.
pub in_or_not : (q : List ℕ) (i : ℕ) → ((j : ℕ) × (j < length q) × (get_or q j 0 ≡ i)) ⊎
    ((j : ℕ) → j < length q → get_or q j 0 ≢ i)
in_or_not [] i = inr (λ j h. absurd (omega arith))
in_or_not (p ∷ q) i =
    elim (cases_eq p i) [
      | inl e ↦ inl (0, omega arith, e)
      | inr ne ↦
          elim (in_or_not q i) [
            | inl (j, b, e) ↦ inl (suc j, omega arith, e)
            | inr o ↦ inr (not_in p q i ne o)
          ]
    ] where
      not_in : (p : ℕ) (q : List ℕ) (i : ℕ) → p ≢ i → ((j : ℕ) → j < length q → get_or q j 0 ≢ i) → (j : ℕ) →
          j < length (p ∷ q) → get_or (p ∷ q) j 0 ≢ i
      not_in p q i ne o zero h = ne
      not_in p q i ne o (suc j) h = o j (omega arith)

-- Where the locator is 0 there is one of the places.
pub locator_root : (n : ℕ) (q : List ℕ) (i : ℕ) → n ≤ 255 → ArePlaces n q → i < n →
    value (places_locator n q) (locator_at n i) ≡ 0 → (j : ℕ) × (j < length q) × (get_or q j 0 ≡ i)
locator_root n q i s a h z =
    elim (in_or_not q i) [
      | inl m ↦ m
      | inr o ↦ absurd (omega (arith, locator_positive n q i s a h o, z))
    ]

-- ---- all places weighed away
-- The places are weighed away from a word of n numbers, the first one first.
unfoldable pub lessened_all : ℕ → List ℕ → List ℕ → List ℕ
lessened_all n [] w = w
lessened_all n (p ∷ q) w = lessened_all n q (lessened (locator_at n p) w)

-- What is left is as long.
pub length-lessened_all : (n : ℕ) (q w : List ℕ) → length (lessened_all n q w) ≡ length w
unfolding lessened_all
length-lessened_all n [] w = refl
length-lessened_all n (p ∷ q) w =
    length-lessened_all n q (lessened (locator_at n p) w) ∙ length-lessened (locator_at n p) w

-- Each number is multiplied by the value of the locator at its place's own.
pub lessened_all_at : (n : ℕ) (q w : List ℕ) (i : ℕ) → length w ≡ n → Bytes w → i < n →
    get_or (lessened_all n q w) i 0 ≡ get_or w i 0 ⊗ value (places_locator n q) (locator_at n i)
unfolding lessened_all places_locator
lessened_all_at n [] w i e b h =
    sym (ap (λ y. get_or w i 0 ⊗ y) (one_value (locator_at n i)) ∙ product_one_right (get_or w i 0)
    (b i 0 (omega arith)))
lessened_all_at n (p ∷ q) w i e b h =
    let r = locator_at n p in
    let x = locator_at n i in
    let f = value (1 ∷ r ∷ []) in
    lessened_all_at n q (lessened r w) i (length-lessened r w ∙ e) (bytes_lessened r w) h
    ∙ ap (λ y. y ⊗ value (places_locator n q) x) (lessened_at w r i (omega arith)
    ∙ ap (λ m. get_or w i 0 ⊗ f (locator_at m i)) e)
    ∙ product_assoc (get_or w i 0) (f x) (value (places_locator n q) x)
    ∙ ap (λ y. get_or w i 0 ⊗ y) (sym (locator_more n p q x))

-- Where a codeword is near to a word but for the places, what is left of it is near to what is left of the word.
pub near_all : (k m n : ℕ) (q w c : List ℕ) → length q + k ≡ m → m < 255 → m ≤ n → n ≤ 255 → length w ≡ n → Bytes w →
    ArePlaces n q → IsNearBut m w q c → IsNearBut k (lessened_all n q w) [] (lessened_all n q c)
unfolding lessened_all
near_all k m n [] w c e small room s l b a h = subst (λ j. IsNearBut j w [] c) (let q : m ≡ k = omega arith in q) h
near_all k m n (p ∷ q) w c e small room s l b a h =
    let i = length q + k in
    near_all k i n q (lessened (locator_at n p) w) (lessened (locator_at n p) c) refl (omega arith) (omega arith) s
    (length-lessened (locator_at n p) w ∙ l) (bytes_lessened (locator_at n p) w) (λ j z. a (suc j) (omega arith))
    (subst (λ x. IsNearBut i (lessened (locator_at x p) w) q (lessened (locator_at x p) c)) l
    (near_but_lessened i q w c p (omega arith) b (omega arith) (omega arith) (omega (arith, a 0 (omega arith)))
    (subst (λ j. IsNearBut j w (p ∷ q) c) (let t : m ≡ suc i = omega arith in t) h)))

-- The word c, with the places given back, is near to the word w but for them, and differs from it elsewhere in as many
-- places as what is left of both; d is what is left of c.
pub record IsGivenBack (n m : ℕ) (q w d c : List ℕ) : Type 0 where
  pub bytes : Bytes c
  pub less : lessened_all n q c ≡ d
  pub is_near : IsNearBut m w q c
  pub distance : distance_but q w c ≡ distance_but [] (lessened_all n q w) d

-- What is near to what is left comes from such a word if it is 0 at each of the places.
pub back_all : (k m n : ℕ) (q w d : List ℕ) → length q + k ≡ m → m < 255 → m ≤ n → n ≤ 255 → length w ≡ n → Bytes w →
    ArePlaces n q → IsAscending q
    → IsNearBut k (lessened_all n q w) [] d → ((i : ℕ) → i < length q → get_or d (get_or q i 0) 0 ≡ 0) →
    (c : List ℕ) × IsGivenBack n m q w d c
unfolding lessened_all
back_all k m n [] w d e small room s l b a o nd z = (
  d,
  record {
    bytes = codeword_bytes k d nd.codeword;
    less = refl;
    is_near = subst (λ j. IsNearBut j w [] d) (let q : k ≡ m = omega arith in q) nd;
    distance = refl;
  },
)
back_all k m n (p ∷ q) w d e small room s l b a o nd z =
    let i = length q + k in
    let r = locator_at n p in
    let u = lessened r w in
    let ph : p < n = a 0 (omega arith) in
    let (c, g) = back_all k i n q u d refl (omega arith) (omega arith) s (length-lessened r w ∙ l) (bytes_lessened r w)
    (λ j h. a (suc j) (omega arith)) (λ j h x y. o (suc j) (suc h) (omega arith) (omega arith)) nd
    (λ j h. z (suc j) (omega arith)) in
    let lc : length c ≡ n = g.is_near.long ∙ length-lessened r w ∙ l in
    let v = value (places_locator n q) (locator_at n p) in
    let vp : 0 < v =
    locator_positive n q p s (λ j h. a (suc j) (omega arith)) ph
    (λ j h x. absurd (omega (arith, o 0 (suc j) (omega arith) (omega arith), x))) in
    let cz : get_or c p 0 ≡ 0 =
    product_cancel v (get_or c p 0) vp (value_below (places_locator n q) (locator_at n p)) (g.bytes p 0 (omega arith))
    (product_comm v (get_or c p 0) ∙ sym (lessened_all_at n q c p lc g.bytes ph) ∙ ap (λ t. get_or t p 0) g.less
    ∙ z 0 (omega arith)) in
    let re : locator_at (length w) p ≡ r = ap (λ x. locator_at x p) l in
    let t = step_back i q w c p (omega arith) b (omega arith) (omega arith) (omega arith)
    (subst (λ x. IsNearBut i (lessened x w) q c) (sym re) g.is_near) cz in
    let f = given_back p (locator_at (length w) p) c in (
      f,
      record {
        bytes = t.bytes;
        less = ap (λ x. lessened_all n q (lessened x f)) (sym re) ∙ ap (lessened_all n q) t.less ∙ g.less;
        is_near = subst (λ j. IsNearBut j w (p ∷ q) f) (let y : suc i ≡ m = omega arith in y) t.is_near;
        distance = t.distance ∙ ap (λ x. distance_but q (lessened x w) c) re ∙ g.distance;
      },
    )

-- What is near to what is left is 0 at each of the places if it comes from a codeword.
pub back_zero : (k m n : ℕ) (q w d c : List ℕ) → length q + k ≡ m → m < 255 → m ≤ n → n ≤ 255 → length w ≡ n →
    Bytes w → ArePlaces n q → IsNearBut k (lessened_all n q w) [] d
    → IsNearBut m w q c → (j : ℕ) → j < length q → get_or d (get_or q j 0) 0 ≡ 0
back_zero k m n q w d c e small room s l b a nd nc j h =
    let p = get_or q j 0 in
    let same : d ≡ lessened_all n q c =
    near_but_one k (lessened_all n q w) [] d (lessened_all n q c) (omega (arith, length-lessened_all n q w)) nd
    (near_all k m n q w c e small room s l b a nc) in
    ap (λ t. get_or t p 0) same
    ∙ lessened_all_at n q c p (nc.long ∙ l) (codeword_bytes m c nc.codeword) (a j h)
    ∙ ap (λ y. get_or c p 0 ⊗ y) (locator_zero n q j h) ∙ product_zero_right (get_or c p 0)

-- ---- the way of a block
-- A word that was weighed by the values of the locator is what is left of it.
weighed_all : (n : ℕ) (q w v values : List ℕ) → length w ≡ n → Bytes w → AreValues (places_locator n q) n values →
    IsWeighed values w v → v ≡ lessened_all n q w
weighed_all n q w v values l b a h =
    ext_get_or 0 v (lessened_all n q w) (h.long ∙ sym (length-lessened_all n q w)) (λ i z.
    let ib : i < length w = omega (arith, h.long) in
    h.each i ib ∙ ap (λ y. get_or w i 0 ⊗ y) (a (length w - suc i) (omega arith)
    ∙ ap (λ m. value (places_locator n q) (locator_at m i)) l)
    ∙ sym (lessened_all_at n q w i l b (omega arith)))

-- What is left of a word was weighed by them.
all_weighed : (n : ℕ) (q w v values : List ℕ) → length w ≡ n → Bytes w → AreValues (places_locator n q) n values →
    lessened_all n q w ≡ v → IsWeighed values w v
all_weighed n q w v values l b a e = record {
  long = ap length (sym e) ∙ length-lessened_all n q w;
  each = λ i h.
      ap (λ t. get_or t i 0) (sym e) ∙ lessened_all_at n q w i l b (omega arith)
      ∙ ap (λ y. get_or w i 0 ⊗ y) (sym (a (length w - suc i) (omega arith)
      ∙ ap (λ m. value (places_locator n q) (locator_at m i)) l));
}

-- The places of a word are weighed away by the values of their locator; there are at most as many as checks.
pub record AreWeighedAway (k : ℕ) (word places values less : List ℕ) : Type 0 where
  pub bytes : Bytes word
  pub short : length word ≤ 255
  pub small : k < 255
  pub room : k ≤ length word
  pub few : length places ≤ k
  pub within : ArePlaces (length word) places
  pub values_at : AreValues (places_locator (length word) places) (length word) values
  pub weighed : IsWeighed values word less

-- So they are where the values are those of the locator.
pub weighed_places : (k : ℕ) (w q l values u v : List ℕ) → Bytes w → length w ≤ 255 → k < 255 → k ≤ length w →
    length q ≤ k → ArePlaces (length w) q
    → l ≡ places_locator (length w) q → AreValues l (length w) values → IsWeighed values w u → v ≡ u
    → AreWeighedAway k w q values v
weighed_places k w q l values u v b s small room few within e a h ve = record {
  bytes = b;
  short = s;
  small = small;
  room = room;
  few = few;
  within = within;
  values_at = subst (λ t. AreValues t (length w) values) e a;
  weighed = subst (IsWeighed values w) (sym ve) h;
}

-- Where nothing is near to what is left, no codeword is near to the word but for the places.
pub nothing_left : (k : ℕ) (w q values v c : List ℕ) → AreWeighedAway k w q values v →
    ((d : List ℕ) → IsNearBut (k - length q) v [] d → ⊥) → IsNearBut k w q c → ⊥
nothing_left k w q values v c a none n =
    let few = a.few in
    let ve = weighed_all (length w) q w v values refl a.bytes a.values_at a.weighed in
    none (lessened_all (length w) q c)
    (subst (λ t. IsNearBut (k - length q) t [] (lessened_all (length w) q c)) (sym ve)
    (near_all (k - length q) k (length w) q w c (omega arith) a.small a.room a.short refl a.bytes a.within n))

-- Nor is one where what is near to it isn't 0 at each of the places.
pub nothing_back : (k : ℕ) (w q values v d c : List ℕ) → AreWeighedAway k w q values v →
    IsNearBut (k - length q) v [] d → (All (λ p. get_or d p 0 ≡ 0) q → ⊥) → IsNearBut k w q c → ⊥
nothing_back k w q values v d c a nd none n =
    let few = a.few in
    let ve = weighed_all (length w) q w v values refl a.bytes a.values_at a.weighed in
    none (All-from_get_or (λ p. get_or d p 0 ≡ 0) q 0
    (λ j h. back_zero (k - length q) k (length w) q w d c (omega arith) a.small a.room a.short refl a.bytes a.within
    (subst (λ t. IsNearBut (k - length q) t [] d) ve nd) n j h))

-- What is near to it and 0 at each of the places comes from a codeword that is near to the word but for the places.
pub record IsRestored (k : ℕ) (word places values less near c : List ℕ) : Type 0 where
  pub bytes : Bytes c
  pub weighed : IsWeighed values c near
  pub is_near : IsNearBut k word places c
  pub distance : distance_but places word c ≡ distance_but [] less near

-- There is such a codeword.
pub restored : (k : ℕ) (w q values v d : List ℕ) → AreWeighedAway k w q values v → IsAscending q →
    IsNearBut (k - length q) v [] d → All (λ p. get_or d p 0 ≡ 0) q
    → (c : List ℕ) × IsRestored k w q values v d c
restored k w q values v d a o nd z =
    let few = a.few in
    let ve = weighed_all (length w) q w v values refl a.bytes a.values_at a.weighed in
    let (c, g) = back_all (k - length q) k (length w) q w d (omega arith) a.small a.room a.short refl a.bytes a.within o
    (subst (λ t. IsNearBut (k - length q) t [] d) ve nd) (λ i h. z i 0 h) in (
      c,
      record {
        bytes = g.bytes;
        weighed = all_weighed (length w) q c d values g.is_near.long g.bytes a.values_at g.less;
        is_near = g.is_near;
        distance = g.distance ∙ ap (λ t. distance_but [] t d) (sym ve);
      },
    )

-- What is divided where the near word isn't what is left, is the codeword but for the places.
pub changed_same : (k : ℕ) (w q values v d x t f : List ℕ) → AreWeighedAway k w q values v → Bytes x →
    length x ≡ length w → IsWeighed values x d → t ≡ w → length f ≡ length t → Bytes f
    → ((i : ℕ) → i < length t → get_or d i 0 ≡ get_or v i 0 → get_or f i 0 ≡ get_or t i 0)
    → ((i : ℕ) → i < length t → (get_or d i 0 ≡ get_or v i 0 → ⊥) → 0 < get_or values (length t - suc i) 0 →
    get_or values (length t - suc i) 0 ⊗ get_or f i 0 ≡ get_or d i 0) → IsSameBut q f x
changed_same k w q values v d x t f a xb xl xw te fl fb same changed i apart =
    elim (cases_lt i (length w)) [
      | inr past ↦
          let tl : length t ≡ length w = ap length te in
          get_or_past f i 0 (omega arith) ∙ sym (get_or_past x i 0 (omega arith))
      | inl h ↦
          let n = length w in
          let tl : length t ≡ n = ap length te in
          let y = get_or values (n - suc i) 0 in
          let ye : y ≡ value (places_locator n q) (locator_at n i) = a.values_at (n - suc i) (omega arith) in
          let yp : 0 < y = subst (λ z. 0 < z) (sym ye) (locator_positive n q i a.short a.within h apart) in
          let yb : y < 256 = subst (λ z. z < 256) (sym ye) (value_below (places_locator n q) (locator_at n i)) in
          let xe : get_or d i 0 ≡ get_or x i 0 ⊗ y =
          xw.each i (omega arith) ∙ ap (λ m. get_or x i 0 ⊗ get_or values (m - suc i) 0) xl in
          let ti : i < length t = omega arith in
          product_cancels y (get_or f i 0) (get_or x i 0) yp yb (fb i 0 (omega arith)) (xb i 0 (omega arith))
          (elim (cases_eq (get_or d i 0) (get_or v i 0)) [
            | inl e ↦
                ap (λ z. y ⊗ z) (same i ti e ∙ ap (λ s. get_or s i 0) te) ∙ product_comm y (get_or w i 0)
                ∙ sym (a.weighed.each i h) ∙ sym e ∙ xe ∙ product_comm (get_or x i 0) y
            | inr ne ↦
                let back : get_or values (length t - suc i) 0 ≡ y = ap (λ m. get_or values (m - suc i) 0) tl in
                ap (λ z. z ⊗ get_or f i 0) (sym back)
                ∙ changed i ti ne (subst (λ z. 0 < z) (sym back) yp) ∙ xe ∙ product_comm (get_or x i 0) y
          ])
    ]
