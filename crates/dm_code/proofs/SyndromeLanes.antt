-- Syndromes in lanes: the values of a word at sixteen elements, part by part, and at one element, sixteen codewords at
-- a time.
use Rattle.std.proofs.Common.{◌≡◌, ℕ, zero, suc, ◌+◌, ◌≤◌, List, [], ◌∷◌, ◌++◌, length, map, take, drop, replicate}
use Rattle.std.proofs.Common.{get_or, refl, sym, ap, ◌∙◌, arith, bit_xor, drop-cons, length-drop}
use Rattle.std.proofs.lemmas.List.{append-nil, take-replicate, length-replicate}
use Rattle.std.proofs.lemmas.Simd.{splat_is_map}
use Rattle.std.proofs.Math.Nat.{add-zero, zero-add}
use borrow.Rule.Slice.PartMut.{put_mid}
use lib.Lanes.{zip2}
use lib.Bits.{xor_comm}
use Rattle.gf301.specs.Field.{◌⊕◌, ◌⊗◌, raise, power}
use Rattle.gf301.specs.Polynomial.{value, values_from}
use Rattle.gf301.proofs.Exported.{product_comm, product_zero_left, plus, scale, length_scale, value_plus, value_scale}
use Rattle.gf301.proofs.Exported.{value_zeros}
use Rattle.dm_code.proofs.Register.{value_append}
use Rattle.dm_code.specs.Syndromes.{syndromes_of}

-- Before the first codeword each value is 0.
pub lanes_start : (xs : List ℕ) (n : ℕ) → length xs ≡ n → replicate n 0 ≡ map (value []) xs
unfolding value
lanes_start xs n e = splat_is_map xs n 0 e

-- A codeword in front adds its multiple of the power of each element.
lanes_first : (a : ℕ) (p xs : List ℕ) → zip2 bit_xor (map (value p) xs)
    (map (λ x. a ⊗ x) (map (λ x. raise x (length p)) xs)) ≡ map (value (a ∷ p)) xs
unfolding value
lanes_first a p [] = refl
lanes_first a p (x ∷ xs) = λ i. xor_comm (value p x) (a ⊗ raise x (length p)) i ∷ lanes_first a p xs i

-- The codeword in front of the n last ones of a word adds its multiple of the powers n.
pub lanes_more : (w xs : List ℕ) (i n : ℕ) → i + suc n ≡ length w
    → zip2 bit_xor (map (value (drop (suc i) w)) xs) (map (λ x. get_or w i 0 ⊗ x) (map (λ x. raise x n) xs)) ≡
    map (value (drop i w)) xs
lanes_more w xs i n e =
    let l : length (drop (suc i) w) ≡ n = simp length-drop (omega arith) in
    ap (λ m. zip2 bit_xor (map (value (drop (suc i) w)) xs) (map (λ x. get_or w i 0 ⊗ x) (map (λ x. raise x m) xs)))
    (sym l)
    ∙ lanes_first (get_or w i 0) (drop (suc i) w) xs
    ∙ ap (λ t. map (value t) xs) (sym (drop-cons w i 0 (omega arith)))

-- ---- parts of a word
-- With one part more, the values so far are multiplied by the powers of its length, and its values are added.
pub lanes_part : (p r xs : List ℕ) (n : ℕ) → length r ≡ n →
    zip2 bit_xor (zip2 (λ x y. x ⊗ y) (map (value p) xs) (map (λ x. raise x n) xs)) (map (value r) xs) ≡
    map (value (p ++ r)) xs
lanes_part p r [] n e = refl
lanes_part p r (x ∷ xs) n e =
    λ i. (ap (λ m. value p x ⊗ raise x m ⊕ value r x) (sym e) ∙ sym (value_append p r x)) i ∷ lanes_part p r xs n e i

-- Past a list's end nothing is left.
pub drop_whole : (w : List ℕ) (n : ℕ) → length w ≤ n → drop n w ≡ []
drop_whole [] zero h = refl
drop_whole [] (suc n) h = refl
drop_whole (a ∷ w) zero h = absurd (omega arith)
drop_whole (a ∷ w) (suc n) h = drop_whole w n (omega arith)

-- A prefix of an empty list is the list itself.
take_none : (m : ℕ) (w : List ℕ) → length w ≡ 0 → take m w ≡ w
take_none zero [] h = refl
take_none (suc m) [] h = refl
take_none m (a ∷ w) h = absurd (omega arith)

-- The first n + m numbers are the first n and the m that follow them.
pub take_parts : (n m : ℕ) (w : List ℕ) → take (n + m) w ≡ take n w ++ take m (drop n w)
take_parts zero m w = ap (λ j. take j w) (zero-add m)
take_parts (suc n) m [] =
    ap (λ j. take j []) (let e : suc n + m ≡ suc (n + m) = omega arith in e) ∙ sym (take_none m [] refl)
take_parts (suc n) m (a ∷ w) =
    ap (λ j. take j (a ∷ w)) (let e : suc n + m ≡ suc (n + m) = omega arith in e) ∙ ap (λ t. a ∷ t) (take_parts n m w)

-- ---- sixteen codewords at a time
-- The sum of two lists is taken lane by lane.
plus_in_lanes : (p q : List ℕ) → zip2 bit_xor p q ≡ plus p q
unfolding plus
plus_in_lanes [] q = refl
plus_in_lanes (a ∷ p) [] = refl
plus_in_lanes (a ∷ p) (b ∷ q) = ap (λ t. (a ⊕ b) ∷ t) (plus_in_lanes p q)

-- A polynomial with the value of p at x, times x to the power of a part's length, plus the part, has the value of both
-- joined.
pub joined_value : (l p r : List ℕ) (s x n : ℕ) → length l ≡ n → length r ≡ n → s ≡ raise x n → value l x ≡ value p x →
    value (zip2 bit_xor (map (λ y. s ⊗ y) l) r) x ≡ value (p ++ r) x
unfolding scale
joined_value l p r s x n a b e h =
    ap (λ t. value t x) (plus_in_lanes (scale s l) r)
    ∙ value_plus x (scale s l) r (length_scale s l ∙ a ∙ sym b)
    ∙ ap (λ y. y ⊕ value r x)
    (value_scale x s l ∙ ap (λ y. s ⊗ y) h ∙ product_comm s (value p x)
    ∙ ap (λ y. value p x ⊗ y) (e ∙ ap (raise x) (sym b)))
    ∙ sym (value_append p r x)

-- A list written at the end of zeros has the same value as without them.
pub value_behind_zeros : (m a k : ℕ) (p : List ℕ) (x : ℕ) → a + k ≡ m → length p ≡ k →
    value (put_mid a k (replicate m 0) p) x ≡ value p x
value_behind_zeros m a k p x h e =
    let z : drop k (drop a (replicate m 0)) ≡ [] =
    drop_whole (drop k (drop a (replicate m 0))) 0 (simp (length-drop, length-replicate) (omega arith)) in
    ap (λ t. value (t ++ (p ++ drop k (drop a (replicate m 0)))) x) (take-replicate a m 0 (omega arith))
    ∙ ap (λ t. value (replicate a 0 ++ (p ++ t)) x) z ∙ ap (λ t. value (replicate a 0 ++ t) x) (append-nil p)
    ∙ value_append (replicate a 0) p x
    ∙ ap (λ y. y ⊗ raise x (length p) ⊕ value p x) (value_zeros x a)
    ∙ ap (λ y. y ⊕ value p x) (product_zero_left (raise x (length p)))

-- ---- groups of syndromes
-- A function of the values of another one gives the values of both in turn.
map_values : (g f : ℕ → ℕ) (first n : ℕ) → map g (values_from f first n) ≡ values_from (λ i. g (f i)) first n
unfolding values_from
map_values g f first zero = refl
map_values g f first (suc n) = ap (λ t. g (f first) ∷ t) (map_values g f (suc first) n)

-- The values at m places and those at the n places that follow are the values at m + n places.
append_values : (f : ℕ → ℕ) (first m n : ℕ) → values_from f first m ++ values_from f (first + m) n ≡
    values_from f first (m + n)
unfolding values_from
append_values f first zero n =
    ap (λ a. values_from f a n) (add-zero first) ∙ ap (values_from f first) (sym (zero-add n))
append_values f first (suc m) n =
    ap (λ t. f first ∷ t)
    (ap (λ a. values_from f (suc first) m ++ values_from f a n) (let e : first + suc m ≡ suc first + m = omega arith in
    e)
    ∙ append_values f (suc first) m n)
    ∙ ap (values_from f first) (let e : suc (m + n) ≡ suc m + n = omega arith in e)

-- The values at the next n roots are n more syndromes.
pub more_syndromes : (w : List ℕ) (m n : ℕ) → syndromes_of w m ++ map (value w) (values_from power (1 + m) n) ≡
    syndromes_of w (m + n)
more_syndromes w m n =
    ap (λ t. syndromes_of w m ++ t) (map_values (value w) power (1 + m) n)
    ∙ append_values (λ i. value w (power i)) 1 m n

-- The first k of the values at n places are those at the first k places.
first_values : (f : ℕ → ℕ) (first n k : ℕ) → k ≤ n → take k (values_from f first n) ≡ values_from f first k
unfolding values_from
first_values f first n zero h = refl
first_values f first zero (suc k) h = absurd (omega arith)
first_values f first (suc n) (suc k) h = ap (λ t. f first ∷ t) (first_values f (suc first) n k (omega arith))

-- The first k of the values at the next n roots are k more syndromes.
pub some_syndromes : (w : List ℕ) (m n k : ℕ) → k ≤ n →
    syndromes_of w m ++ take k (map (value w) (values_from power (1 + m) n)) ≡ syndromes_of w (m + k)
some_syndromes w m n k h =
    ap (λ t. syndromes_of w m ++ take k t) (map_values (value w) power (1 + m) n)
    ∙ ap (λ t. syndromes_of w m ++ t) (first_values (λ i. value w (power i)) (1 + m) n k h)
    ∙ append_values (λ i. value w (power i)) 1 m k
