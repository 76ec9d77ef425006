-- The head that is found first is the one of the definition, and what is written for a head says it.
use Rattle.dm_words.proofs.Names.{◌≡◌, ℕ, ◌+◌, ◌-◌, ◌*◌, ◌≤◌, List, [], ◌∷◌, ◌++◌, length, refl, subst, arith}
use Rattle.dm_words.proofs.Names.{Bool, true, false, cond, Option, Some, None, slice_get, ◌==◌, nat_tests, Head, IsHead}
use Rattle.dm_words.proofs.Names.{SpellsHead, programming, appended, head_words, append_by, first_head}
use Rattle.dm_words.proofs.Names.{head_length, ◌≢◌}
use Rattle.dm_words.specs.declared.contents.head.Appended.{Appended}
use Rattle.dm_words.specs.declared.contents.head.Head.TheVariants as head
use Rattle.dm_words.specs.Heads.{IsAppended}
use Rattle.dm_words.specs.inner.ContentScan.{is_appended, appended_symbol}

-- The test finds a symbol of a sequence.
pub appended_test : (symbol : Appended) → is_appended symbol ≡ true → IsAppended symbol
appended_test s e =
    let f : (1 ≤ s.index) × (s.index ≤ s.count) × (2 ≤ s.count) × (s.count ≤ 16) × (1 ≤ s.file_high) ×
    (s.file_high ≤ 254) × (1 ≤ s.file_low) × (s.file_low ≤ 254) = grind (arith, nat_tests) in
    record {
      counted = f.0;
      within = f.1;
      some = f.2;
      most = f.3;
      high_some = f.4;
      high_most = f.5;
      low_some = f.6;
      low_most = f.7;
    }

-- A head that is there is found.
pub head_complete : (words more : List ℕ) (said : Head) → SpellsHead words said → first_head (words ++ more) ≡ Some said
head_complete words more said h1 = grind (arith, nat_tests, appended_symbol, is_appended)

-- The words begin with the head that was found.
pub record Found (words : List ℕ) (said : Head) : Type 0 where
  pub first : List ℕ
  pub more : List ℕ
  pub spells : SpellsHead first said
  pub whole : words ≡ first ++ more
  pub count : head_length said ≡ length first

-- What is found is right.
abbrev Judged : List ℕ → Option Head → Type 0
Judged words None = Unit {0}
Judged words (Some said) = Found words said

-- Behind structured append, what is found is right.
judged_append : (ws : List ℕ) → Judged (233 ∷ ws) (append_by (slice_get ws 0) (slice_get ws 1) (slice_get ws 2))
judged_append [] = tt
judged_append (q ∷ []) = tt
judged_append (q ∷ a ∷ []) = tt
judged_append (q ∷ a ∷ b ∷ ws) = by_test (is_appended (appended_symbol q a b)) refl where
  by_test : (t : Bool) → is_appended (appended_symbol q a b) ≡ t
      → Judged (233 ∷ q ∷ a ∷ b ∷ ws) (cond t (Some (head.Appended (appended_symbol q a b))) None)
  by_test true e =
      let right = appended_test (appended_symbol q a b) e in
      record {
        first = 233 ∷ q ∷ a ∷ b ∷ [];
        more = ws;
        spells = appended q (appended_symbol q a b) right refl (omega arith) refl refl;
        whole = refl;
        count = refl;
      }
  by_test false e = tt

-- What is found of the words is right.
judged : (words : List ℕ) → Judged words (first_head words)
judged [] = tt
judged (w ∷ ws) = by_test (w == 234) (w == 233) refl refl where
  by_test : (p a : Bool) → (w == 234) ≡ p → (w == 233) ≡ a
      → Judged (w ∷ ws)
      (cond p (Some head.Programming) (cond a (append_by (slice_get ws 0) (slice_get ws 1) (slice_get ws 2)) None))
  by_test true a ep ea =
      let is : w ≡ 234 = grind (arith, nat_tests) in
      record { first = w ∷ []; more = ws; spells = programming (rw is refl) refl; whole = refl; count = refl }
  by_test false true ep ea = (let is : w ≡ 233 = grind (arith, nat_tests) in rw is (judged_append ws))
  by_test false false ep ea = tt

-- A head that is found is there.
pub found : (words : List ℕ) (said : Head) → first_head words ≡ Some said → Found words said
found words said e = let P : Option Head → Type 0 = λ o. Judged words o in subst P e (judged words)

-- No head begins the words.
abbrev pub BeginsNoHead : List ℕ → Type 0
BeginsNoHead words = (first more : List ℕ) (said : Head) → SpellsHead first said → words ≢ first ++ more

-- Where none is found, there is none.
pub none_begins : (words : List ℕ) → first_head words ≡ None → BeginsNoHead words
none_begins words e first more said s whole = grind (arith, nat_tests, head_complete, first_head)

-- Where there is none, none is found.
pub none_found : (words : List ℕ) (o : Option Head) → first_head words ≡ o → BeginsNoHead words → first_head words
    ≡ None
none_found words None e none = e
none_found words (Some said) e none =
    (let f = found words said e in absurd (none f.first f.more said f.spells f.whole))

-- The codewords of a head say it.
pub head_says : (said : Head) → IsHead (Some said) → SpellsHead (head_words (Some said)) said
head_says head.Programming right = programming refl refl
head_says (head.Appended s) right =
    appended (16 * (s.index - 1) + (17 - s.count)) s right (omega arith) (omega arith) refl refl

-- What says a head is right, and nothing but these codewords says it.
pub head_only : (words : List ℕ) (said : Head) → SpellsHead words said
    → IsHead (Some said) × (words ≡ head_words (Some said))
head_only words said h1 = grind (arith, nat_tests)
