-- The pairs that the scan finds in a run are those that stand there.
use Rattle.dm_words.proofs.Names.{◌≡◌, ◌≢◌, ℕ, ◌+◌, ◌-◌, ◌*◌, ◌/◌, ◌%◌, ◌<◌, ◌≤◌, List, [], ◌∷◌, length, take, drop}
use Rattle.dm_words.proofs.Names.{get_or, refl, ap, subst, arith, Bool, true, false, cond, eqb, ltb, inl, inr, ◌⊎◌}
use Rattle.dm_words.proofs.Names.{eqb-true, ltb-false, nat_tests, get_or-drop, PairsEnd, IsPair, Step, Takes, Stops}
use Rattle.dm_words.proofs.Names.{first_pair}
use Rattle.dm_words.specs.declared.c40.pair.PairsEnd.TheVariants as stop
use Rattle.dm_words.specs.inner.Scan.Prefixes.{values_of, pair_by}
use Rattle.dm_words.proofs.Walks.{IsSound, IsComplete}

-- Each word is 0 to 255.
abbrev pub IsBytes : List ℕ → Type 0
IsBytes words = (i : ℕ) → get_or words i 0 < 256

-- Where each word is 0 to 255, so is each word after the first n.
pub IsBytes-drop : (n : ℕ) (words : List ℕ) → IsBytes words → IsBytes (drop n words)
IsBytes-drop n words h i = rw get_or-drop (h (n + i))

-- No pair is a prefix of the words, for this reason.
pub data IsStop (words : List ℕ) (kind : PairsEnd) : Type 0 where
  over : words ≡ [] → kind ≡ stop.SymbolEnd → IsStop words kind
  one_left : (w : ℕ) → w ≢ 254 → words ≡ w ∷ [] → kind ≡ stop.SymbolEnd → IsStop words kind
  unlatched : (more : List ℕ) → words ≡ 254 ∷ more → kind ≡ stop.Unlatch → IsStop words kind
  bad : (v w : ℕ) (more : List ℕ) → v ≢ 254 → (256 * v + w ≡ 0) ⊎ (64000 < 256 * v + w) → words ≡ v ∷ w ∷ more → kind
      ≡ stop.BadPair → IsStop words kind

-- A pair is right wherever it stands.
abbrev pub PairRight : ℕ → List ℕ → List ℕ → List ℕ → Type 0
PairRight place words after values = IsPair words values

-- The first n words are a pair with these values.
abbrev Right : List ℕ → ℕ → List ℕ → Type 0
Right words n values = IsPair (take n words) values × (0 < n) × (n ≤ length words)

-- What is found first is right.
abbrev Judged : List ℕ → Step (List ℕ) PairsEnd → Type 0
Judged words (Takes n values) = Right words n values
Judged words (Stops kind) = IsStop words kind

-- The three values of a number of 1 to 64000 are below 40.
digits_small : (n : ℕ) → (let m = n - 1 in 0 < n) → n ≤ 64000
    → ((n - 1) / 1600 < 40) × ((n - 1) / 40 % 40 < 40) × ((n - 1) % 40 < 40)
digits_small n pos le = (omega arith, omega arith, omega arith)

-- A number is made of its three values.
digits_join : (n : ℕ) → 0 < n → n ≡ 1600 * ((n - 1) / 1600) + 40 * ((n - 1) / 40 % 40) + (n - 1) % 40 + 1
digits_join n pos = omega arith

-- What is found by the number of two words is right.
judged_number : (v w : ℕ) (more : List ℕ) (a b : Bool) → w < 256 → v ≢ 254 → eqb (256 * v + w) 0 ≡ a
    → ltb 64000 (256 * v + w) ≡ b
    → Judged (v ∷ w ∷ more)
    (cond a (Stops stop.BadPair) (cond b (Stops stop.BadPair) (Takes 2 (values_of (256 * v + w)))))
judged_number v w more true b small ne ea eb = bad v w more ne (inl (eqb-true _ _ ea)) refl refl
judged_number v w more false true small ne ea eb = bad v w more ne (inr (grind (arith, nat_tests))) refl refl
judged_number v w more false false small ne ea eb =
    let pos : 0 < 256 * v + w = grind (arith, nat_tests) in
    let le : 256 * v + w ≤ 64000 = ltb-false _ _ eb in
    let d = digits_small (256 * v + w) pos le in
    let is : IsPair (v ∷ w ∷ []) (values_of (256 * v + w)) =
    record {
      high = v;
      low = w;
      is_byte = small;
      first = _;
      second = _;
      third = _;
      first_small =
          d.0;
      second_small = d.1;
      third_small = d.2;
      number = digits_join (256 * v + w) pos;
      words_are =
          refl;
      values_are = refl;
    } in
    (is, omega arith, omega arith)

-- What is found by the first of two words is right.
judged_two : (v w : ℕ) (more : List ℕ) (a : Bool) → w < 256 → eqb v 254 ≡ a
    → Judged (v ∷ w ∷ more) (cond a (Stops stop.Unlatch) (pair_by (256 * v + w)))
judged_two v w more true small e = let is : v
    ≡ 254 = eqb-true _ _ e in unlatched (w ∷ more) (ap (λ (x : ℕ). x ∷ w ∷ more) is) refl
judged_two v w more false small e =
    judged_number v w more _ _ small (λ is. (let t : eqb v 254 ≡ true = rw is refl in cc)) refl refl

-- What is found where one word is left is right.
judged_one : (v : ℕ) (a : Bool) → eqb v 254 ≡ a → Judged (v ∷ []) (cond a (Stops stop.Unlatch) (Stops stop.SymbolEnd))
judged_one v true e = let is : v ≡ 254 = eqb-true _ _ e in unlatched [] (ap (λ (x : ℕ). x ∷ []) is) refl
judged_one v false e = one_left v (λ is. (let t : eqb v 254 ≡ true = rw is refl in cc)) refl refl

-- What is found is right, however many words are left.
judged : (place : ℕ) (words : List ℕ) → IsBytes words → Judged words (first_pair place words)
judged place [] fit = over refl refl
judged place (v ∷ []) fit = judged_one v _ refl
judged place (v ∷ w ∷ more) fit = judged_two v w more _ (fit 1) refl

-- A pair that is found is a pair.
pub pair_sound : IsSound first_pair PairRight IsBytes
pair_sound = record {
  right = λ place words n values fit e. let P : Step (List ℕ) PairsEnd
      → Type 0 = λ s. Judged words s in subst P e (judged place words fit);
  fits = IsBytes-drop;
}

-- Where no pair is found, none stands.
pub stop_sound : (place : ℕ) (words : List ℕ) (kind : PairsEnd) → IsBytes words → first_pair place words ≡ Stops kind
    → IsStop words kind
stop_sound place words kind fit e = let P : Step (List ℕ) PairsEnd
    → Type 0 = λ s. Judged words s in subst P e (judged place words fit)

-- ---- the other way

-- The three values of a number are those that it was made of.
values_again : (n a b c : ℕ) → a < 40 → b < 40 → c < 40 → n ≡ 1600 * a + 40 * b + c + 1
    → ((n - 1) / 1600 ≡ a) × ((n - 1) / 40 % 40 ≡ b) × ((n - 1) % 40 ≡ c)
values_again n a b c la lb lc e = (omega arith, omega arith, omega arith)

-- A pair doesn't begin with the unlatch.
not_unlatch : (v w n : ℕ) → 256 * v + w ≡ n → n ≤ 64000 → eqb v 254 ≡ false
not_unlatch v w n e le = let ne : v ≢ 254 = omega arith in grind (arith, nat_tests)

-- A pair that is a prefix is found.
pub pair_complete : IsComplete first_pair PairRight
pair_complete place words after values p = grind (arith, nat_tests, eqb, not_unlatch, ltb, values_again)

-- Where no pair stands, none is found.
pub stop_complete : (place : ℕ) (words : List ℕ) (kind : PairsEnd) → IsStop words kind → first_pair place words
    ≡ Stops kind
stop_complete place words kind h1 = grind (arith, nat_tests, pair_by)
