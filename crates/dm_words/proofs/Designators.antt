-- The designator that is found first is the one of the definition, and each number has one.
use Rattle.dm_words.proofs.Names.{◌≡◌, ℕ, ◌+◌, ◌-◌, ◌*◌, ◌/◌, ◌%◌, ◌<◌, ◌≤◌, List, [], ◌∷◌, ◌++◌, length, refl}
use Rattle.dm_words.proofs.Names.{subst, arith, Bool, true, false, cond, leb, ltb, ◌&&◌, Option, Some, None}
use Rattle.dm_words.proofs.Names.{slice_get, ◌==◌, nat_tests, Designator, most_assigned, IsDesignator, one, two, three}
use Rattle.dm_words.proofs.Names.{designator, first_designator, ◌≢◌}
use Rattle.dm_words.specs.inner.ContentScan.{is_further, two_words, three_words}

-- A designator that is there is found.
pub designator_complete : (words more : List ℕ) (number : ℕ) → IsDesignator words number
    → first_designator (words ++ more) ≡ Some (record { count = length words; number = number })
designator_complete words more number h1 = grind (arith, nat_tests)

-- The words begin with the designator that was found.
pub record Found (words : List ℕ) (d : Designator) : Type 0 where
  pub first : List ℕ
  pub more : List ℕ
  pub is_designator : IsDesignator first d.number
  pub whole : words ≡ first ++ more
  pub count : d.count ≡ length first

-- What is found is right.
abbrev Judged : List ℕ → Option Designator → Type 0
Judged words None = Unit {0}
Judged words (Some d) = Found words d

-- Two words that are found are a designator.
judged_two : (a : ℕ) (ws : List ℕ) → 128 ≤ a → a ≤ 191 → Judged (a ∷ ws) (two_words a (slice_get ws 0))
judged_two a [] low high = tt
judged_two a (b ∷ ws) low high = by_test (is_further b) refl where
  by_test : (t : Bool) → is_further b ≡ t
      → Judged (a ∷ b ∷ ws) (cond t (Some (record { count = 2; number = (a - 128) * 254 + 127 + (b - 1) })) None)
  by_test true e =
      let f : (1 ≤ b) × (b ≤ 254) = grind (arith, nat_tests) in
      record {
        first = a ∷ b ∷ [];
        more = ws;
        is_designator = two a b low high f.0 f.1 refl refl;
        whole = refl;
        count = refl;
      }
  by_test false e = tt

-- Three words that are found are a designator.
judged_three : (a : ℕ) (ws : List ℕ) → 192 ≤ a → a ≤ 207
    → Judged (a ∷ ws) (three_words a (slice_get ws 0) (slice_get ws 1))
judged_three a [] low high = tt
judged_three a (b ∷ []) low high = tt
judged_three a (b ∷ c ∷ ws) low high =
    by_test (is_further b && is_further c) (leb ((a - 192) * 64516 + 16383 + (b - 1) * 254 + (c - 1)) most_assigned)
    refl refl where
      by_test : (t s : Bool) → (is_further b && is_further c) ≡ t
          → leb ((a - 192) * 64516 + 16383 + (b - 1) * 254 + (c - 1)) most_assigned ≡ s
          → Judged (a ∷ b ∷ c ∷ ws)
          (cond t (cond s (Some (record { count = 3; number = (a - 192) * 64516 + 16383 + (b - 1) * 254 + (c - 1) }))
          None) None)
      by_test true true e k =
          let f : (1 ≤ b) × (b ≤ 254) × (1 ≤ c) × (c ≤ 254) = grind (arith, nat_tests) in
          let m : (a - 192) * 64516 + 16383 + (b - 1) * 254 + (c - 1) ≤ most_assigned = grind (arith, nat_tests) in
          record {
            first = a ∷ b ∷ c ∷ [];
            more = ws;
            is_designator = three a b c low high f.0 f.1 f.2 f.3 refl refl m;
            whole = refl;
            count = refl;
          }
      by_test true false e k = tt
      by_test false s e k = tt

-- Where words are found, they are a designator.
pub judged : (words : List ℕ) → Judged words (first_designator words)
judged [] = tt
judged (a ∷ ws) = by_test (a == 0) (leb a 127) (leb a 191) (leb a 207) refl refl refl refl where
  by_test : (z o t h : Bool) → (a == 0) ≡ z → leb a 127 ≡ o → leb a 191 ≡ t → leb a 207 ≡ h
      → Judged (a ∷ ws)
      (cond z None
      (cond o (Some (record { count = 1; number = a - 1 }))
      (cond t (two_words a (slice_get ws 0)) (cond h (three_words a (slice_get ws 0) (slice_get ws 1)) None))))
  by_test true o t h ez eo et eh = tt
  by_test false true t h ez eo et eh =
      let f : (1 ≤ a) × (a ≤ 127) = grind (arith, nat_tests) in
      record {
        first = a ∷ [];
        more = ws;
        is_designator = one a f.0 f.1 refl refl;
        whole = refl;
        count = refl;
      }
  by_test false false true h ez eo et eh = judged_two a ws (grind (arith, nat_tests)) (grind (arith, nat_tests))
  by_test false false false true ez eo et eh = judged_three a ws (grind (arith, nat_tests)) (grind (arith, nat_tests))
  by_test false false false false ez eo et eh = tt

-- A designator that is found is there.
pub found : (words : List ℕ) (d : Designator) → first_designator words ≡ Some d → Found words d
found words d e = let P : Option Designator → Type 0 = λ o. Judged words o in subst P e (judged words)

-- No designator begins the words.
abbrev pub BeginsNoDesignator : List ℕ → Type 0
BeginsNoDesignator words = (first more : List ℕ) (number : ℕ) → IsDesignator first number → words ≢ first ++ more

-- Where none is found, there is none.
pub none_begins : (words : List ℕ) → first_designator words ≡ None → BeginsNoDesignator words
none_begins words e first more number d whole = grind (arith, nat_tests, designator_complete, first_designator)

-- Where there is none, none is found.
pub none_found : (words : List ℕ) (o : Option Designator) → first_designator words ≡ o → BeginsNoDesignator words
    → first_designator words ≡ None
none_found words None e none = e
none_found words (Some d) e none =
    (let f = found words d e in absurd (none f.first f.more d.number f.is_designator f.whole))

-- The designator of a number says it.
pub designator_says : (number : ℕ) → number ≤ most_assigned → IsDesignator (designator number) number
designator_says n le = by_test (ltb n 127) (ltb n 16383) refl refl where
  by_test : (o t : Bool) → ltb n 127 ≡ o → ltb n 16383 ≡ t
      → IsDesignator
      (cond o ((n + 1) ∷ [])
      (cond t ((128 + (n - 127) / 254) ∷ (1 + (n - 127) % 254) ∷ [])
      ((192 + (n - 16383) / 64516) ∷ (1 + (n - 16383) / 254 % 254) ∷ (1 + (n - 16383) % 254) ∷ []))) n
  by_test true t eo et =
      (let f : n < 127 = grind (arith, nat_tests) in one (n + 1) (omega arith) (omega arith) refl (omega arith))
  by_test false true eo et =
      let f : (127 ≤ n) × (n < 16383) = grind (arith, nat_tests) in
      two (128 + (n - 127) / 254) (1 + (n - 127) % 254) (omega arith) (omega arith) (omega arith) (omega arith) refl
      (omega arith)
  by_test false false eo et =
      let f : 16383 ≤ n = grind (arith, nat_tests) in
      three (192 + (n - 16383) / 64516) (1 + (n - 16383) / 254 % 254) (1 + (n - 16383) % 254) (omega arith)
      (omega arith) (omega arith) (omega arith) (omega arith) (omega arith) refl (omega arith) le

-- Nothing but the designator of a number says it.
pub designator_only : (words : List ℕ) (number : ℕ) → IsDesignator words number → words ≡ designator number
designator_only words number h1 = grind (arith, nat_tests)
