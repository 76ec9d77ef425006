-- The loop that reads a segment, and the ways in which it is length-others.
use Rattle.dm_words.proofs.Names.{◌≡◌, ℕ, zero, suc, ◌+◌, ◌-◌, ◌<◌, ◌≤◌, List, [], ◌∷◌, ◌++◌, length, take, drop}
use Rattle.dm_words.proofs.Names.{get_or, refl, sym, ap, subst, ◌∙◌, append_assoc, add-zero, add-one, arith, Option}
use Rattle.dm_words.proofs.Names.{Some, take-append-drop, length-take, get_or-drop, length-drop, nil_from_length}
use Rattle.dm_words.proofs.Names.{take_all, take-suc, drop-cons, Item, Byte, WordFault, long_count, IsLengthField}
use Rattle.dm_words.proofs.Names.{short, long, byte_items, Step, Takes, Stops, nat_tests}
use Rattle.dm_words.specs.declared.fault.WordFault.TheVariants as fault
use Rattle.dm_words.specs.inner.Scan.Prefixes.{plain_at, plain, segment_behind}
use Rattle.dm_words.proofs.Segments.{segment_again, past_short, no_second, wrong_second, past_long}

-- The items of two lists of bytes, joined, are those of each, joined.
pub byte_items-append : (a b : List ℕ) → byte_items (a ++ b) ≡ byte_items a ++ byte_items b
byte_items-append [] b = refl
byte_items-append (x ∷ a) b = ap (λ (r : List Item). Byte x ∷ r) (byte_items-append a b)

-- Each codeword stands for one value.
pub length-plain : (place : ℕ) (ws : List ℕ) → length (plain place ws) ≡ length ws
length-plain place [] = refl
length-plain place (w ∷ ws) = ap suc (length-plain (place + 1) ws)

-- The value at an index is that of the codeword there.
get_or-plain : (place : ℕ) (ws : List ℕ) (i : ℕ) → i < length ws → get_or (plain place ws) i 0
    ≡ plain_at (place + i) (get_or ws i 0)
get_or-plain place [] i lt = absurd (omega arith)
get_or-plain place (w ∷ ws) zero lt = rw add-zero refl
get_or-plain place (w ∷ ws) (suc i) lt = grind (arith, nat_tests, plain_at, get_or-plain (place + 1) ws i (omega arith))

-- One more byte is read.
pub bytes_more : (words : List ℕ) (start i b : ℕ) (first old new : List Item) → start + i < length words → b
    ≡ plain_at (start + i + 1) (get_or words (start + i) 0)
    → old ≡ first ++ byte_items (take i (plain (start + 1) (drop start words))) → new ≡ old ++ Byte b ∷ []
    → new ≡ first ++ byte_items (take (i + 1) (plain (start + 1) (drop start words)))
bytes_more words start i b first old new lt is so_far e =
    let vs = plain (start + 1) (drop start words) in
    let long : i < length (drop start words) = omega (arith, length-drop start words) in
    let within : i < length vs = omega (arith, length-plain (start + 1) (drop start words)) in
    let value : get_or vs i 0 ≡ b = get_or-plain (start + 1) (drop start words) i long
    ∙ ap (λ (k : ℕ). plain_at k (get_or (drop start words) i 0)) (omega arith)
    ∙ ap (plain_at (start + i + 1)) (get_or-drop start words i 0) ∙ sym is in
    let more : take (i + 1) vs ≡ take i vs
    ++ b ∷ [] = rw add-one (take-suc vs i 0 within ∙ ap (λ (k : ℕ). take i vs ++ k ∷ []) value) in
    cc (append_assoc first (byte_items (take i vs)) (Byte b ∷ []), byte_items-append (take i vs) (b ∷ []))

-- The values from an index on begin with the value there.
pub plain_first : (words : List ℕ) (place k d : ℕ) → k < length words → d ≡ plain_at place (get_or words k 0)
    → plain place (drop k words) ≡ d ∷ plain (place + 1) (drop (k + 1) words)
plain_first words place k d h1 h2 = grind (arith, drop-cons, add-one, plain)

-- A length field and as many bytes as it says are taken.
pub segment_takes : (place : ℕ) (field values : List ℕ) (n : ℕ) → n ≤ length values
    → ((after : List ℕ) → IsLengthField field n after) → segment_behind place (field ++ values)
    ≡ Takes (1 + length field + n) (byte_items (take n values))
segment_takes place field values n le counted =
    let len : length (take n values) ≡ n = omega (arith, length-take n values) in
    let regrouped : (field ++ take n values) ++ drop n values ≡ field ++ values =
    cc (append_assoc field (take n values) (drop n values), take-append-drop n values) in
    let again =
    segment_again place field (take n values) (drop n values)
    (subst (λ (k : ℕ). IsLengthField field k (drop n values)) (sym len) (counted (drop n values))) in
    cc

-- Equal numbers make equal pairs.
pair_path : {a b x y : ℕ} → a ≡ x → b ≡ y → (let p : ℕ × ℕ = (a, b) in p) ≡ (x, y)
pair_path e f = cc

-- ---- the exits of the function that reads a segment whose latch stands at an index

module _ (words : List ℕ) (at : ℕ) where
  -- This is found behind the latch.
  abbrev pub Finds : Step (List Item) (Option WordFault) → Type 0
  Finds step = segment_behind (at + 1) (plain (at + 2) (drop (at + 1) words)) ≡ step

  -- The length is bad.
  abbrev Bad : Type 0
  Bad = Finds (Stops (Some (fault.Length (at + 1))))

  -- The length is bad where no codeword follows the latch.
  pub nothing_left : length words - at - 1 ≡ 0 → Bad
  unfolding segment_behind
  nothing_left e =
      let none : drop (at + 1) words
      ≡ [] = nil_from_length (drop (at + 1) words) (omega (arith, length-drop (at + 1) words)) in
      rw none refl

  module _ (d : ℕ) (lt : at + 1 < length words) (is : d ≡ plain_at (at + 1 + 1) (get_or words (at + 1) 0)) where
    -- These are the values behind the first length number.
    abbrev others : List ℕ
    others = plain (at + 2 + 1) (drop (at + 2) words)

    -- The values behind the latch are the first length number and these.
    values_are : plain (at + 2) (drop (at + 1) words) ≡ d ∷ others
    values_are = grind (arith, nat_tests, plain_first, plain_at, plain, pair_path)

    -- There are as many of these values as codewords behind the first length number.
    length-others : length others ≡ length words - at - 2
    length-others = length-plain (at + 2 + 1) (drop (at + 2) words) ∙ omega (arith, length-drop (at + 2) words)

    -- A first length number of 0 takes all bytes up to the end of the symbol.
    pub to_the_end_found : d ≡ 0
        → Finds (Takes (length words - at - 1 + 1) (byte_items (take (length words - at - 1 - 1) others)))
    unfolding segment_behind
    to_the_end_found zero_d = grind (arith, nat_tests, others, take_all, length-others, values_are)

    -- The length is bad where fewer bytes are left than one length number says.
    pub past_short_found : d ≤ 249 → length words - at - 1 - 1 < d → Bad
    past_short_found le past =
        rw values_are (past_short (at + 1) d others le (omega (arith, length-others)))

    -- A first length number of 1 to 249 takes as many bytes as it says.
    pub short_found : 0 < d → d ≤ 249 → d ≤ length words - at - 1 - 1
        → Finds (Takes (d + 2) (byte_items (take d others)))
    short_found pos le within =
        let found =
        segment_takes (at + 1) (d ∷ []) others d (omega (arith, length-others))
        (λ after. short d pos le refl refl) in
        rw values_are (found ∙ ap (λ (k : ℕ). Takes k (byte_items (take d others))) (omega arith))

    -- The length is bad where no second length number follows a first one of 250 or more.
    pub no_second_found : 249 < d → length words - at - 1 ≡ 1 → Bad
    no_second_found big e =
        let none : others ≡ [] = nil_from_length others (omega (arith, length-others)) in
        rw (values_are, none) (no_second (at + 1) d big)

    module _ (big : 249 < d) (f : ℕ) (lt2 : at + 2 < length words) (is2 : f
        ≡ plain_at (at + 2 + 1) (get_or words (at + 2) 0)) where
      -- These are the values behind the second length number.
      abbrev more : List ℕ
      more = plain (at + 3 + 1) (drop (at + 3) words)

      -- The values behind the first length number are the second one and these.
      others_are : others ≡ f ∷ more
      others_are = grind (arith, nat_tests, plain_first, plain, pair_path)

      -- There are as many of these values as codewords behind the second length number.
      length-more : length more ≡ length words - at - 3
      length-more = length-plain (at + 3 + 1) (drop (at + 3) words) ∙ omega (arith, length-drop (at + 3) words)

      -- The length is bad where the second length number is above 249.
      pub wrong_second_found : 249 < f → Bad
      wrong_second_found wrong =
          rw (values_are, others_are) (wrong_second (at + 1) d f more big wrong)

      -- The length is bad where fewer bytes are left than the two length numbers say.
      pub past_long_found : f ≤ 249 → length words - at - 1 - 2 < long_count d f → Bad
      past_long_found le past =
          rw (values_are, others_are) (past_long (at + 1) d f more big le (omega (arith, length-more)))

      -- Two length numbers take as many bytes as they say.
      pub long_found : f ≤ 249 → long_count d f ≤ length words - at - 1 - 2
          → Finds (Takes (long_count d f + 3) (byte_items (take (long_count d f) more)))
      long_found le within =
          let found =
          segment_takes (at + 1) (d ∷ f ∷ []) more (long_count d f) (omega (arith, length-more))
          (λ after. long d f big (omega (arith, is)) le refl refl) in
          rw (values_are, others_are) (found
          ∙ ap (λ (k : ℕ). Takes k (byte_items (take (long_count d f) more))) (omega arith))
