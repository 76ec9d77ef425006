-- A word and a codeword of one check less, with each place but an erased one weighed.
use Rattle.std.proofs.Common.{◌≡◌, ◌≢◌, ℕ, zero, suc, ◌+◌, ◌-◌, ◌<◌, ◌≤◌, List, [], ◌∷◌, length, get_or, slice_set}
use Rattle.std.proofs.Common.{refl, sym, ap, subst, ◌∙◌, arith, bit_xor, inl, inr, length-set}
use Rattle.std.proofs.lemmas.Bool.{cases_eq}
use Rattle.std.proofs.lemmas.List.{get_or-set_same, get_or-set_other}
use Rattle.std.proofs.Math.Nat.{pos_of_ne-zero}
use lib.Bits.{xor_zero_r, xor_zero_l, xor_self}
use Rattle.gf301.specs.Field.{◌⊕◌, ◌⊗◌, raise, power}
use Rattle.gf301.specs.Polynomial.{Bytes, value}
use Rattle.gf301.proofs.Exported.{product_comm, product_zero_right, product_one_left, product_cancels, raise_below}
use Rattle.gf301.proofs.Exported.{sum_zero, power_injective, factor_value, value_below, weigh, weighted, weigh_same}
use Rattle.gf301.proofs.Exported.{weigh_weighted, value_weigh, length-weighted, bytes_weighted, laid, sums, laid_sums}
use Rattle.dm_code.specs.Codeword.{IsCodeword, IsNear, differing, distance}
use Rattle.dm_code.specs.Erased.{blank, distance_but, IsNearBut}
use Rattle.dm_code.proofs.Codewords.{codeword_bytes, codeword_values, codeword_from_values}
use Rattle.dm_code.proofs.Distance.{codewords_one, differs_apart, differs_le, differs_same, differing_triangle, differs}
use Rattle.dm_code.proofs.ErrorPlaces.{locator_at}
use Rattle.dm_code.proofs.CleanWords.{distance_self}

-- ---- one place weighed away
-- Each number of a list is multiplied by x - r at its locator x, where r is the locator of a place: there it becomes 0.
unfoldable pub lessened : ℕ → List ℕ → List ℕ
lessened r w = weighted (value (1 ∷ r ∷ [])) w

-- A weighed list is weighed place by place.
pub get_or-weighted : (f : ℕ → ℕ) (e : List ℕ) (i : ℕ) → i < length e →
    get_or (weighted f e) i 0 ≡ get_or e i 0 ⊗ f (locator_at (length e) i)
unfolding weighted
get_or-weighted f [] i h = absurd (omega arith)
get_or-weighted f (a ∷ e) zero h = ap (λ n. a ⊗ f (power n)) (let r : length e ≡ length (a ∷ e) - 1 = omega arith in r)
get_or-weighted f (a ∷ e) (suc i) h =
    get_or-weighted f e i (omega arith) ∙ ap (λ n. get_or e i 0 ⊗ f (power n))
    (let r : length e - suc i ≡ length (a ∷ e) - suc (suc i) = omega arith in r)

-- The power sums of a weighed list are the polynomial laid on those of the list.
pub weighted_sums : (p e : List ℕ) (i : ℕ) → sums (weighted (value p) e) i ≡ laid p (sums e) i
unfolding sums
weighted_sums p e i =
    weigh_weighted (λ x. raise x (suc i)) (value p) e
    ∙ weigh_same (λ x. value p x ⊗ raise x (suc i)) (λ x. raise x (suc i) ⊗ value p x)
    (λ x. product_comm (value p x) (raise x (suc i))) e
    ∙ sym (laid_sums e p i)

-- The value at a root of the generator is a power sum.
value_sums : (e : List ℕ) (i : ℕ) → value e (power (1 + i)) ≡ sums e i
unfolding sums
value_sums e i = value_weigh (1 + i) e ∙ ap (λ j. weigh (λ x. raise x j) e) (let q : 1 + i ≡ suc i = omega arith in q)

-- A list of two coefficients, laid on a series.
laid_two : (r : ℕ) (s : ℕ → ℕ) (i : ℕ) → laid (1 ∷ r ∷ []) s i ≡ 1 ⊗ s (suc i) ⊕ r ⊗ s i
unfolding laid
laid_two r s i =
    ap (bit_xor (1 ⊗ s (1 + i))) (xor_zero_r (r ⊗ s (0 + i)))
    ∙ ap (λ j. 1 ⊗ s j ⊕ r ⊗ s (0 + i)) (let q : 1 + i ≡ suc i = omega arith in q)
    ∙ ap (λ j. 1 ⊗ s (suc i) ⊕ r ⊗ s j) (let q : 0 + i ≡ i = omega arith in q)

-- The value of a lessened word at a root is its value at the next root, and r times that at this one.
lessened_value : (r : ℕ) (w : List ℕ) (i : ℕ) → value (lessened r w) (power (1 + i)) ≡
    value w (power (1 + suc i)) ⊕ r ⊗ value w (power (1 + i))
unfolding lessened
lessened_value r w i =
    value_sums (weighted (value (1 ∷ r ∷ [])) w) i ∙ weighted_sums (1 ∷ r ∷ []) w i ∙ laid_two r (sums w) i
    ∙ ap (λ y. 1 ⊗ y ⊕ r ⊗ sums w i) (sym (value_sums w (suc i)))
    ∙ ap (λ y. 1 ⊗ value w (power (1 + suc i)) ⊕ r ⊗ y) (sym (value_sums w i))
    ∙ ap (λ y. y ⊕ r ⊗ value w (power (1 + i))) (product_one_left (value w (power (1 + suc i)))
    (value_below w (power (1 + suc i))))

-- A lessened word is as long.
pub length-lessened : (r : ℕ) (w : List ℕ) → length (lessened r w) ≡ length w
unfolding lessened
length-lessened r w = length-weighted (value (1 ∷ r ∷ [])) w

-- It has bytes.
pub bytes_lessened : (r : ℕ) (w : List ℕ) → Bytes (lessened r w)
unfolding lessened
bytes_lessened r w = bytes_weighted (value (1 ∷ r ∷ [])) w

-- A codeword that is lessened is a codeword of one check less.
pub codeword_lessened : (k r : ℕ) (c : List ℕ) → suc k < 255 → length c ≤ 255 → k ≤ length c → IsCodeword (suc k) c →
    IsCodeword k (lessened r c)
codeword_lessened k r c small short room q =
    codeword_from_values k (lessened r c) (omega arith) (omega (arith, length-lessened r c))
    (omega (arith, length-lessened r c)) (bytes_lessened r c)
    (λ i h. lessened_value r c i
    ∙ ap (λ y. y ⊕ r ⊗ value c (power (1 + i))) (codeword_values (suc k) c q (suc i) (omega arith))
    ∙ ap (λ y. 0 ⊕ r ⊗ y) (codeword_values (suc k) c q i (omega arith)) ∙ xor_zero_l (r ⊗ 0) ∙ product_zero_right r)

-- Where a lessened word is a codeword, and the word is 0 at the first root, it is 0 at the next ones.
values_back : (k r : ℕ) (c : List ℕ) → IsCodeword k (lessened r c) → value c (power 1) ≡ 0 → (i : ℕ) → i < suc k →
    value c (power (1 + i)) ≡ 0
values_back k r c q z zero h = z
values_back k r c q z (suc i) h =
    sum_zero (value c (power (1 + suc i))) (r ⊗ value c (power (1 + i))) (sym (lessened_value r c i)
    ∙ codeword_values k (lessened r c) q i (omega arith))
    ∙ ap (λ y. r ⊗ y) (values_back k r c q z i (omega arith)) ∙ product_zero_right r

-- Such a word is a codeword of one check more.
pub codeword_back : (k r : ℕ) (c : List ℕ) → suc k < 255 → length c ≤ 255 → suc k ≤ length c → Bytes c →
    IsCodeword k (lessened r c) → value c (power 1) ≡ 0 → IsCodeword (suc k) c
codeword_back k r c small short room b q z = codeword_from_values (suc k) c small short room b (values_back k r c q z)

-- ---- what stands at the places
-- At the place itself a lessened word has 0.
pub lessened_same : (w : List ℕ) (p : ℕ) → p < length w → get_or (lessened (locator_at (length w) p) w) p 0 ≡ 0
unfolding lessened
lessened_same w p h =
    let r = locator_at (length w) p in
    let b : r < 256 = raise_below 2 (length w - suc p) in
    get_or-weighted (value (1 ∷ r ∷ [])) w p h ∙ ap (λ y. get_or w p 0 ⊗ y) (factor_value r r b b ∙ xor_self r)
    ∙ product_zero_right (get_or w p 0)

-- At another place it has a multiple of what the word has there.
pub lessened_at : (w : List ℕ) (r i : ℕ) → i < length w →
    get_or (lessened r w) i 0 ≡ get_or w i 0 ⊗ value (1 ∷ r ∷ []) (locator_at (length w) i)
unfolding lessened
lessened_at w r i h = get_or-weighted (value (1 ∷ r ∷ [])) w i h

-- The multiple isn't by 0.
pub factor_positive : (n p i : ℕ) → n ≤ 255 → p < n → i < n → i ≢ p →
    0 < value (1 ∷ locator_at n p ∷ []) (locator_at n i)
factor_positive n p i h a b ne =
    let r = locator_at n p in
    let x = locator_at n i in
    pos_of_ne-zero (λ z. ne (let e : n - suc i ≡ n - suc p =
    power_injective (n - suc i) (n - suc p) (omega arith) (omega arith)
    (sum_zero x r (sym (factor_value r x (raise_below 2 (n - suc p)) (raise_below 2 (n - suc i))) ∙ z)) in omega arith))

-- Two words of one length that agree at another place once they are lessened agree there.
pub lessened_apart : (w c : List ℕ) (p i : ℕ) → Bytes w → Bytes c → length c ≡ length w → length w ≤ 255 →
    p < length w → i < length w → i ≢ p
    → get_or (lessened (locator_at (length w) p) w) i 0 ≡ get_or (lessened (locator_at (length w) p) c) i 0 →
    get_or w i 0 ≡ get_or c i 0
lessened_apart w c p i wb cb l s h b ne e =
    let f = value (1 ∷ locator_at (length w) p ∷ []) in
    let x = locator_at (length w) i in
    product_cancels (f x) (get_or w i 0) (get_or c i 0) (factor_positive (length w) p i s h b ne)
    (value_below (1 ∷ locator_at (length w) p ∷ []) x) (wb i 0 b) (cb i 0 (omega (arith, l)))
    (product_comm (f x) (get_or w i 0) ∙ sym (lessened_at w (locator_at (length w) p) i b) ∙ e
    ∙ lessened_at c (locator_at (length w) p) i (omega (arith, l)) ∙ ap (λ n. get_or c i 0 ⊗ f (locator_at n i)) l
    ∙ product_comm (get_or c i 0) (f x))

-- ---- how far apart two words are
-- Words that differ at the same places of the first n differ at as many.
differing_same : (t u v w : List ℕ) (n : ℕ) → ((i : ℕ) → i < n →
    differs (get_or t i 0) (get_or u i 0) ≡ differs (get_or v i 0) (get_or w i 0)) → differing t u n ≡ differing v w n
unfolding differing
differing_same t u v w zero h = refl
differing_same t u v w (suc n) h =
    let i : differing t u n ≡ differing v w n = differing_same t u v w n (λ j l. h j (omega arith)) in
    omega (arith, h n (omega arith))

-- Words that have 0 at one place differ at one place less at most.
differing_set : (v w : List ℕ) (p n : ℕ) → differing v w n ≤ differing (slice_set v p 0) (slice_set w p 0) n + 1
unfolding differing
differing_set v w p zero = omega arith
differing_set v w p (suc n) =
    elim (cases_eq n p) [
      | inl e ↦
          let same : differing v w n ≡ differing (slice_set v p 0) (slice_set w p 0) n =
          differing_same v w (slice_set v p 0) (slice_set w p 0) n (λ i l. sym (set_elsewhere v w p i (omega arith))) in
          omega (arith, differs_le (get_or v n 0) (get_or w n 0))
      | inr ne ↦ omega (arith, differing_set v w p n, set_elsewhere v w p n ne)
    ] where
      set_elsewhere : (v w : List ℕ) (p i : ℕ) → i ≢ p
          → differs (get_or (slice_set v p 0) i 0) (get_or (slice_set w p 0) i 0) ≡
          differs (get_or v i 0) (get_or w i 0)
      set_elsewhere v w p i ne =
          ap (λ y. differs y (get_or (slice_set w p 0) i 0)) (get_or-set_other v p i 0 0 ne)
          ∙ ap (differs (get_or v i 0)) (get_or-set_other w p i 0 0 ne)

-- A word is as long with 0 at the erased places.
pub length-blank : (q w : List ℕ) → length (blank q w) ≡ length w
unfolding blank
length-blank [] w = refl
length-blank (p ∷ q) w = length-set (blank q w) p 0 ∙ length-blank q w

-- At the erased place there is 0.
blank_at : (q w : List ℕ) (p i : ℕ) → i < length w → i ≡ p → get_or (slice_set (blank q w) p 0) i 0 ≡ 0
blank_at q w p i h e =
    ap (λ j. get_or (slice_set (blank q w) p 0) j 0) e
    ∙ get_or-set_same (blank q w) p 0 0 (omega (arith, length-blank q w))

-- Whether two words differ at a place, once both have 0 at the erased ones, depends on whether they differ there
-- before.
blank_differs : (q t u v w : List ℕ) (i : ℕ) → i < length t → length u ≡ length t → length v ≡ length t →
    length w ≡ length t
    → differs (get_or t i 0) (get_or u i 0) ≡ differs (get_or v i 0) (get_or w i 0)
    → differs (get_or (blank q t) i 0) (get_or (blank q u) i 0) ≡
    differs (get_or (blank q v) i 0) (get_or (blank q w) i 0)
unfolding blank
blank_differs [] t u v w i h lu lv lw e = e
blank_differs (p ∷ q) t u v w i h lu lv lw e =
    elim (cases_eq i p) [
      | inl s ↦
          differs_same (get_or (slice_set (blank q t) p 0) i 0) (get_or (slice_set (blank q u) p 0) i 0)
          (blank_at q t p i (omega arith) s ∙ sym (blank_at q u p i (omega arith) s))
          ∙ sym (differs_same (get_or (slice_set (blank q v) p 0) i 0) (get_or (slice_set (blank q w) p 0) i 0)
          (blank_at q v p i (omega arith) s ∙ sym (blank_at q w p i (omega arith) s)))
      | inr s ↦
          ap (λ y. differs y (get_or (slice_set (blank q u) p 0) i 0)) (get_or-set_other (blank q t) p i 0 0 s)
          ∙ ap (differs (get_or (blank q t) i 0)) (get_or-set_other (blank q u) p i 0 0 s)
          ∙ blank_differs q t u v w i h lu lv lw e
          ∙ sym (ap (λ y. differs y (get_or (slice_set (blank q w) p 0) i 0)) (get_or-set_other (blank q v) p i 0 0 s)
          ∙ ap (differs (get_or (blank q v) i 0)) (get_or-set_other (blank q w) p i 0 0 s))
    ]

-- Two words differ at another place where they do once they are lessened.
lessened_differs : (w c : List ℕ) (p i : ℕ) → Bytes w → Bytes c → length c ≡ length w → length w ≤ 255 → p < length w →
    i < length w → i ≢ p
    → differs (get_or w i 0) (get_or c i 0) ≡ differs (get_or (lessened (locator_at (length w) p) w) i 0)
    (get_or (lessened (locator_at (length w) p) c) i 0)
lessened_differs w c p i wb cb l s h b ne =
    let r = locator_at (length w) p in
    let f = value (1 ∷ r ∷ []) in
    elim (cases_eq (get_or w i 0) (get_or c i 0)) [
      | inl e ↦
          differs_same (get_or w i 0) (get_or c i 0) e
          ∙ sym (differs_same (get_or (lessened r w) i 0) (get_or (lessened r c) i 0)
          (lessened_at w r i b ∙ ap (λ y. y ⊗ f (locator_at (length w) i)) e
          ∙ ap (λ n. get_or c i 0 ⊗ f (locator_at n i)) (sym l) ∙ sym (lessened_at c r i (omega (arith, l)))))
      | inr n ↦
          differs_apart (get_or w i 0) (get_or c i 0) n
          ∙ sym (differs_apart (get_or (lessened r w) i 0) (get_or (lessened r c) i 0)
          (λ e. n (lessened_apart w c p i wb cb l s h b ne e)))
    ]

-- At the place itself lessened words agree.
lessened_agree : (w c : List ℕ) (p : ℕ) → length c ≡ length w → p < length w →
    get_or (lessened (locator_at (length w) p) w) p 0 ≡ get_or (lessened (locator_at (length w) p) c) p 0
lessened_agree w c p l h =
    lessened_same w p h ∙ sym (ap (λ n. get_or (lessened (locator_at n p) c) p 0) (sym l)
    ∙ lessened_same c p (omega (arith, l)))

-- With a place erased, two words differ at a place where they do once they are lessened.
step_differs : (q w c : List ℕ) (p i : ℕ) → Bytes w → Bytes c → length c ≡ length w → length w ≤ 255 → p < length w →
    i < length w
    → differs (get_or (blank (p ∷ q) w) i 0) (get_or (blank (p ∷ q) c) i 0)
    ≡ differs (get_or (blank q (lessened (locator_at (length w) p) w)) i 0)
    (get_or (blank q (lessened (locator_at (length w) p) c)) i 0)
unfolding blank
step_differs q w c p i wb cb l s h b =
    let r = locator_at (length w) p in
    let v = lessened r w in
    let d = lessened r c in
    elim (cases_eq i p) [
      | inl e ↦
          differs_same (get_or (slice_set (blank q w) p 0) i 0) (get_or (slice_set (blank q c) p 0) i 0)
          (blank_at q w p i b e ∙ sym (blank_at q c p i (omega (arith, l)) e))
          ∙ sym (blank_differs q v d v v i (omega (arith, length-lessened r w)) (length-lessened r c ∙ l
          ∙ sym (length-lessened r w)) refl refl
          (differs_same (get_or v i 0) (get_or d i 0) (ap (λ j. get_or v j 0) e ∙ lessened_agree w c p l h
          ∙ ap (λ j. get_or d j 0) (sym e)) ∙ sym (differs_same (get_or v i 0) (get_or v i 0) refl))
          ∙ differs_same (get_or (blank q v) i 0) (get_or (blank q v) i 0) refl)
      | inr n ↦
          ap (λ y. differs y (get_or (slice_set (blank q c) p 0) i 0)) (get_or-set_other (blank q w) p i 0 0 n)
          ∙ ap (differs (get_or (blank q w) i 0)) (get_or-set_other (blank q c) p i 0 0 n)
          ∙ blank_differs q w c v d i b l (length-lessened r w) (length-lessened r c ∙ l)
          (lessened_differs w c p i wb cb l s h b n)
    ]

-- With a place erased, two words are as far apart as they are once they are lessened.
pub distance_step : (q w c : List ℕ) (p : ℕ) → Bytes w → Bytes c → length c ≡ length w → length w ≤ 255 → p < length w
    → distance_but (p ∷ q) w c ≡ distance_but q (lessened (locator_at (length w) p) w)
    (lessened (locator_at (length w) p) c)
distance_step q w c p wb cb l s h =
    let r = locator_at (length w) p in
    ap (differing (blank (p ∷ q) w) (blank (p ∷ q) c)) (length-blank (p ∷ q) w)
    ∙ differing_same (blank (p ∷ q) w) (blank (p ∷ q) c) (blank q (lessened r w)) (blank q (lessened r c)) (length w)
    (λ i b. step_differs q w c p i wb cb l s h b)
    ∙ sym (ap (differing (blank q (lessened r w)) (blank q (lessened r c))) (length-blank q (lessened r w)
    ∙ length-lessened r w))

-- ---- nearness but for erased places
-- Completeness of a step: where a codeword is near but for a place and others, it is near once both are lessened, but
-- for the others, with one check less.
pub near_but_lessened : (k : ℕ) (q w c : List ℕ) (p : ℕ) → suc k < 255 → Bytes w → length w ≤ 255 → suc k ≤ length w →
    p < length w
    → IsNearBut (suc k) w (p ∷ q) c → IsNearBut k (lessened (locator_at (length w) p) w) q
    (lessened (locator_at (length w) p) c)
near_but_lessened k q w c p small wb s room h n =
    let r = locator_at (length w) p in
    let e = distance_step q w c p wb (codeword_bytes (suc k) c n.codeword) n.long s h in
    record {
      codeword = codeword_lessened k r c small (omega (arith, n.long)) (omega (arith, n.long)) n.codeword;
      long = length-lessened r c ∙ n.long ∙ sym (length-lessened r w);
      close = omega (arith, n.close, e);
    }

-- Soundness of a step: a word that is near in this way once it is lessened, and is 0 at the first root, is near before.
pub near_but_back : (k : ℕ) (q w c : List ℕ) (p : ℕ) → suc k < 255 → Bytes w → Bytes c → length c ≡ length w →
    length w ≤ 255 → suc k ≤ length w → p < length w → value c (power 1) ≡ 0
    → IsNearBut k (lessened (locator_at (length w) p) w) q (lessened (locator_at (length w) p) c) →
    IsNearBut (suc k) w (p ∷ q) c
near_but_back k q w c p small wb cb l s room h z n =
    let r = locator_at (length w) p in
    let e = distance_step q w c p wb cb l s h in
    record {
      codeword = codeword_back k r c small (omega (arith, l)) (omega (arith, l)) cb n.codeword z;
      long = l;
      close = omega (arith, n.close, e);
    }

-- With no place erased, a codeword is near where it is near but for none.
pub near_but_none : (k : ℕ) (w c : List ℕ) → IsNearBut k w [] c → IsNear k w c
unfolding blank
near_but_none k w c n = record { codeword = n.codeword; long = n.long; close = omega (arith, n.close) }

pub near_none_but : (k : ℕ) (w c : List ℕ) → IsNear k w c → IsNearBut k w [] c
unfolding blank
near_none_but k w c n = record { codeword = n.codeword; long = n.long; close = omega (arith, n.close) }

-- ---- the law
-- Each erased place is a place of a word of n numbers.
abbrev pub ArePlaces : ℕ → List ℕ → Type 0
ArePlaces n q = (i : ℕ) → i < length q → get_or q i 0 < n

-- Words that have 0 at some places differ at no more places less than these are.
differing_blank : (q v w : List ℕ) (n : ℕ) → differing v w n ≤ differing (blank q v) (blank q w) n + length q
unfolding blank
differing_blank [] v w n = omega arith
differing_blank (p ∷ q) v w n = omega (arith, differing_blank q v w n, differing_set (blank q v) (blank q w) p n)

-- At most one codeword is near to a word but for erased places: two would differ in at most k places.
pub near_but_one : (k : ℕ) (w q c d : List ℕ) → length w ≤ 255 → IsNearBut k w q c → IsNearBut k w q d → c ≡ d
near_but_one k w q c d s m n =
    let all : length (blank q w) ≡ length w = length-blank q w in
    let t = differing_triangle (blank q w) (blank q c) (blank q d) (length w) in
    let b = differing_blank q c d (length w) in
    let of_c : distance_but q w c ≡ differing (blank q w) (blank q c) (length w) =
    ap (differing (blank q w) (blank q c)) all in
    let of_d : distance_but q w d ≡ differing (blank q w) (blank q d) (length w) =
    ap (differing (blank q w) (blank q d)) all in
    let long : distance c d ≡ differing c d (length w) = ap (differing c d) m.long in
    codewords_one k c d m.codeword n.codeword (m.long ∙ sym n.long) (omega (arith, m.long))
    (omega (arith, t, b, of_c, of_d, long, m.close, n.close))

-- ---- without erased places, and without checks
-- With no place erased, the distance is that of the words.
pub distance_but_none : (w c : List ℕ) → distance_but [] w c ≡ distance w c
unfolding blank
distance_but_none w c = refl

-- Without checks each word is near to itself.
pub self_near_zero : (w c : List ℕ) → Bytes w → length w ≤ 255 → c ≡ w → IsNearBut 0 w [] c
self_near_zero w c b s e =
    near_none_but 0 w c (record {
      codeword =
          subst (IsCodeword 0) (sym e) (codeword_from_values 0 w (omega arith) s (omega arith) b
          (λ i h. absurd (omega arith)));
      long = ap length e;
      close = omega (arith, distance_self w c e);
    })
