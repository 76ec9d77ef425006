-- A segment that the scan finds is a segment of the definition.
use Rattle.dm_words.proofs.Names.{◌≡◌, ℕ, suc, ◌+◌, ◌-◌, ◌*◌, ◌%◌, ◌<◌, ◌≤◌, List, [], ◌∷◌, ◌++◌, length, take}
use Rattle.dm_words.proofs.Names.{drop, refl, sym, ap, ◌∙◌, append_assoc, add-zero, arith, Bool, true, false, cond, eqb}
use Rattle.dm_words.proofs.Names.{ltb, Option, Some, None, eqb-true, ltb-false, nat_tests, take_at, append-nil}
use Rattle.dm_words.proofs.Names.{length-append, length-take, take-append-drop, Item, WordFault, codeword_of, random_at}
use Rattle.dm_words.proofs.Names.{written, AreBytes, long_count, IsLengthField, to_the_end, short, long, IsSegment}
use Rattle.dm_words.proofs.Names.{byte_items, Step, Takes, Stops, zero}
use Rattle.std.proofs.lemmas.Bool.{ltb-true, le-ltb}
use Rattle.dm_words.specs.declared.codeword.Codeword.TheVariants as codeword
use Rattle.dm_words.specs.declared.fault.WordFault.TheVariants as fault
use Rattle.dm_words.specs.Base256.{IsFaultySegment}
use Rattle.dm_words.specs.inner.Scan.Prefixes.{plain, segment_by, long_segment, segment_behind}
use Rattle.dm_words.proofs.Pairs.{IsBytes}
use Rattle.dm_words.proofs.Runs.{cut_behind_prefix}
use Rattle.dm_words.proofs.Pieces.{all-append, all-take}

-- ---- written values and plain ones

-- Adding a random number and taking it away gives the same value.
random_goes : (v m : ℕ) → v < 256 → 0 < m → m < 256 → ((v + m) % 256 + 256 - m) % 256 ≡ v
random_goes v m lv pm lm = omega arith

-- Taking a random number away and adding it gives the same codeword.
random_comes : (w m : ℕ) → w < 256 → 0 < m → m < 256 → ((w + 256 - m) % 256 + m) % 256 ≡ w
random_comes w m lw pm lm = omega arith

-- A random number is 1 to 255.
random_small : (place : ℕ) → (0 < random_at place) × (random_at place < 256)
random_small place = (omega arith, omega arith)

-- The words behind the first one are 0 to 255.
IsBytes-rest : (w : ℕ) (ws : List ℕ) → IsBytes (w ∷ ws) → IsBytes ws
IsBytes-rest w ws h i = h (suc i)

-- Codewords are written from the values that they stand for.
pub written-plain : (place : ℕ) (ws : List ℕ) → IsBytes ws → written place (plain place ws) ≡ ws
written-plain place [] fit = refl
written-plain place (w ∷ ws) fit =
    let m = random_small place in
    rw (random_comes w (random_at place) (fit 0) m.0 m.1, written-plain (place + 1) ws (IsBytes-rest w ws fit)) refl

-- The codewords that are written for values stand for these values.
pub plain-written : (place : ℕ) (vs : List ℕ) → AreBytes vs → plain place (written place vs) ≡ vs
plain-written place [] fit = refl
plain-written place (v ∷ vs) fit =
    grind (arith, random_small, random_goes, random_at, plain-written (place + 1) vs fit.1)

-- A codeword stands for a value of 0 to 255.
pub plain_small : (place : ℕ) (ws : List ℕ) → AreBytes (plain place ws)
plain_small place [] = tt
plain_small place (w ∷ ws) = (omega arith, plain_small (place + 1) ws)

-- Two lists of values, joined, are written one behind the other.
pub written-append : (place : ℕ) (a b : List ℕ) → written place (a ++ b) ≡ written place a
    ++ written (place + length a) b
written-append place [] b = rw add-zero refl
written-append place (v ∷ a) b = grind (arith, nat_tests, random_at, written, written-append (place + 1) a b)

-- Each value is written as one codeword.
pub length-written : (place : ℕ) (vs : List ℕ) → length (written place vs) ≡ length vs
length-written place [] = refl
length-written place (v ∷ vs) = ap suc (length-written (place + 1) vs)

-- ---- what is found is right

-- The first n codewords are a segment, by what follows them.
pub record SegmentTakes (place : ℕ) (words : List ℕ) (n : ℕ) (items : List Item) : Type 0 where
  pub right : IsSegment place (take n words) (drop n words) items
  pub some : 0 < n
  pub within : n ≤ length words

-- What is found behind a latch is a segment, or the fault of a bad length.
abbrev pub SegmentJudged : ℕ → List ℕ → Step (List Item) (Option WordFault) → Type 0
SegmentJudged place words (Takes n items) = SegmentTakes place words n items
SegmentJudged place words (Stops None) = ⊥
SegmentJudged place words (Stops (Some f)) = f ≡ fault.Length place

module _ (place w : ℕ) (is_latch : codeword_of w ≡ Some codeword.Base256) (words : List ℕ) where
  -- With this field and these bytes, the segment that is found is a segment.
  taken : (field bytes more : List ℕ) (n : ℕ) → words ≡ written (place + 1) ((field ++ bytes) ++ more) → AreBytes bytes
      → IsLengthField field (length bytes) (written (place + 1 + length (field ++ bytes)) more) → n
      ≡ 1 + length field + length bytes → SegmentTakes place (w ∷ words) n (byte_items bytes)
  taken field bytes more n e fit counted len =
      let prefix : List ℕ = w ∷ written (place + 1) (field ++ bytes) in
      let back : List ℕ = written (place + 1 + length (field ++ bytes)) more in
      let whole : w ∷ words ≡ prefix
      ++ back = ap (λ (r : List ℕ). w ∷ r) (e ∙ written-append (place + 1) (field ++ bytes) more) in
      let c = cut_behind_prefix (w ∷ words) prefix back n whole
      (omega (arith, len, length-written (place + 1) (field ++ bytes), length-append field bytes)) in
      let right : IsSegment place prefix back (byte_items bytes) =
      record {
        latch = w;
        is_latch = is_latch;
        field = field;
        bytes = bytes;
        whole = refl;
        in_range =
            fit;
        counted = counted;
        items_are = refl;
      } in
      record { right = rw (c.0, c.1) right; some = omega (arith, len); within = c.2 }

  -- What is found by the number of bytes that the field says is right.
  by_count : (field values : List ℕ) (n : ℕ) (b : Bool) → words ≡ written (place + 1) (field ++ values)
      → AreBytes values → ltb (length values) n ≡ b
      → ((count : ℕ) (after : List ℕ) → count ≡ n → IsLengthField field count after)
      → SegmentJudged place (w ∷ words)
      (cond b (Stops (Some (fault.Length place))) (Takes (1 + length field + n) (byte_items (take n values))))
  by_count field values n true e fit eb good = refl
  by_count field values n false e fit eb good =
      let le : n ≤ length values = ltb-false _ _ eb in
      let len : length (take n values) ≡ n = omega (arith, length-take n values) in
      let regrouped : words ≡ written (place + 1) ((field ++ take n values) ++ drop n values) =
      cc (take-append-drop n values, append_assoc field (take n values) (drop n values)) in
      taken field (take n values) (drop n values) (1 + length field + n) regrouped
      (all-take (λ v. v < 256) n values fit).0
      (good (length (take n values)) _ len) (omega (arith, len))

  -- What is found by the second length number is right.
  by_second : (d e : ℕ) (values : List ℕ) (b : Bool) → words ≡ written (place + 1) (d ∷ e ∷ values)
      → AreBytes (d ∷ e ∷ values) → 249 < d → ltb 249 e ≡ b
      → SegmentJudged place (w ∷ words)
      (cond b (Stops (Some (fault.Length place))) (segment_by place 2 (long_count d e) values))
  by_second d e values true eq fit big eb = refl
  by_second d e values false eq fit big eb =
      let le : e ≤ 249 = ltb-false _ _ eb in
      by_count (d ∷ e ∷ []) values (long_count d e) _ eq fit.1.1 refl (λ count after is. long d e big fit.0 le refl is)

  -- What is found behind a first length number of 250 or more is right.
  by_long : (d : ℕ) (values : List ℕ) → words ≡ written (place + 1) (d ∷ values) → AreBytes (d ∷ values) → 249 < d
      → SegmentJudged place (w ∷ words) (long_segment place d values)
  by_long d [] eq fit big = refl
  by_long d (e ∷ values) eq fit big = by_second d e values _ eq fit big refl

  -- What is found by the first length number is right.
  by_first : (d : ℕ) (values : List ℕ) (a b : Bool) → words ≡ written (place + 1) (d ∷ values) → AreBytes (d ∷ values)
      → eqb d 0 ≡ a → ltb 249 d ≡ b
      → SegmentJudged place (w ∷ words)
      (cond a (Takes (2 + length values) (byte_items values))
      (cond b (long_segment place d values) (segment_by place 1 d values)))
  by_first d values true b eq fit ea eb =
      let is : d ≡ 0 = eqb-true _ _ ea in
      taken (d ∷ []) values [] (2 + length values) (eq
      ∙ ap (λ (r : List ℕ). written (place + 1) r) (sym (append-nil (d ∷ values)))) fit.1
      (to_the_end (ap (λ (k : ℕ). k ∷ []) is) refl) (omega arith)
  by_first d values false true eq fit ea eb = by_long d values eq fit (ltb-true _ _ eb)
  by_first d values false false eq fit ea eb =
      let le : d ≤ 249 = ltb-false _ _ eb in
      let pos : 0 < d = grind (arith, nat_tests) in
      by_count (d ∷ []) values d _ eq fit.1 refl (λ count after is. short d pos le refl is)

  -- What is found by the values behind the latch is right.
  by_values : (values : List ℕ) → words ≡ written (place + 1) values → AreBytes values
      → SegmentJudged place (w ∷ words) (segment_behind place values)
  unfolding segment_behind
  by_values [] h1 h2 = refl
  by_values (d ∷ values) h1 h2 = by_first d values _ _ h1 h2 refl refl

-- A segment that is found is a segment, and a fault is that of a bad length.
pub segment_judged : (place w : ℕ) (words : List ℕ) → codeword_of w ≡ Some codeword.Base256 → IsBytes words
    → SegmentJudged place (w ∷ words) (segment_behind place (plain (place + 1) words))
segment_judged place w words is_latch fit = grind (arith, nat_tests, by_values, plain, written-plain, plain_small)

-- ---- what is right is found

-- A field and its bytes are found.
pub segment_again : (place : ℕ) (field bytes more : List ℕ) → IsLengthField field (length bytes) more
    → segment_behind place ((field ++ bytes) ++ more) ≡ Takes (1 + length field + length bytes) (byte_items bytes)
unfolding segment_behind
segment_again place field bytes more h1 =
    grind (arith, nat_tests, to_the_end, append-nil, le-ltb, length-append, take_at, long_count)

-- The length is bad where fewer bytes follow than one length number says.
pub past_short : (place first : ℕ) (more : List ℕ) → first ≤ 249 → length more < first
    → segment_behind place (first ∷ more) ≡ Stops (Some (fault.Length place))
unfolding segment_behind
past_short place first more le past = grind (arith, nat_tests)

-- It is bad where no second length number follows a first one of 250 or more.
pub no_second : (place first : ℕ) → 249 < first
    → segment_behind place (first ∷ []) ≡ Stops (Some (fault.Length place))
unfolding segment_behind
no_second place first big = grind (arith, nat_tests)

-- It is bad where the second length number is above 249.
pub wrong_second : (place first second : ℕ) (more : List ℕ) → 249 < first → 249 < second
    → segment_behind place (first ∷ second ∷ more) ≡ Stops (Some (fault.Length place))
unfolding segment_behind
wrong_second place first second more big wrong = grind (arith, nat_tests)

-- It is bad where fewer bytes follow than two length numbers say.
pub past_long : (place first second : ℕ) (more : List ℕ) → 249 < first → second ≤ 249
    → length more < long_count first second
    → segment_behind place (first ∷ second ∷ more) ≡ Stops (Some (fault.Length place))
unfolding segment_behind
past_long place first second more big le past = grind (arith, nat_tests, long_count)

-- The words begin with the latch of a segment, and this is found behind it.
pub record SegmentFound (place : ℕ) (words : List ℕ) (step : Step (List Item) (Option WordFault)) : Type 0 where
  pub latch : ℕ
  pub others : List ℕ
  pub whole : words ≡ latch ∷ others
  pub is_latch : codeword_of latch ≡ Some codeword.Base256
  pub found : segment_behind place (plain (place + 1) others) ≡ step

-- Words that are written for values, and further words, stand for these values and for those of the further words.
plain-append : (place : ℕ) (vs ws : List ℕ) → AreBytes vs → plain place (written place vs ++ ws) ≡ vs
    ++ plain (place + length vs) ws
plain-append place [] ws fit = rw add-zero refl
plain-append place (v ∷ vs) ws fit =
    grind (arith, random_small, random_goes, random_at, plain-append (place + 1) vs ws fit.1)

-- Length numbers are 0 to 255.
field_fits : (field : List ℕ) (count : ℕ) (after : List ℕ) → IsLengthField field count after → AreBytes field
field_fits field count after h1 = grind (arith, nat_tests)

-- A length field says the same before the words and before their values.
field_before : (place : ℕ) (field : List ℕ) (count : ℕ) (after : List ℕ) → IsLengthField field count after
    → IsLengthField field count (plain place after)
field_before place field count after (to_the_end f m) = to_the_end f (rw m refl)
field_before place field count after (short d pos le f len) = short d pos le f len
field_before place field count after (long d e big small le f len) = long d e big small le f len

-- A segment that is a prefix is found.
pub segment_complete : (place : ℕ) (words after : List ℕ) (items : List Item) → IsSegment place words after items
    → SegmentFound place (words ++ after) (Takes (length words) items) × (0 < length words)
segment_complete place words after items s =
    let q = place + 1 + length (s.field ++ s.bytes) in
    let fit = all-append (λ w. w < 256) s.field s.bytes
    (field_fits s.field (length s.bytes) after s.counted) s.in_range in
    let len : 1 + length s.field + length s.bytes
    ≡ length words =
    omega (
      arith,
      ap length s.whole,
      length-written (place + 1) (s.field ++ s.bytes),
      length-append s.field s.bytes,
    ) in
    let again = segment_again place _ s.bytes _ (field_before q _ _ _ s.counted) in (
      record {
        latch = s.latch;
        others = written (place + 1) (s.field ++ s.bytes) ++ after;
        whole = ap (λ (x : List ℕ). x ++ after) s.whole;
        is_latch = s.is_latch;
        found = ap (segment_behind place) (plain-append (place + 1) (s.field ++ s.bytes) after fit) ∙ again
            ∙ rw (len, s.items_are) refl;
      },
      omega (arith, len),
    )

-- Where a fault is found behind a latch, the segment is faulty.
pub bad_sound : (place w : ℕ) (words : List ℕ) (f : WordFault) → codeword_of w ≡ Some codeword.Base256 → IsBytes words
    → segment_behind place (plain (place + 1) words) ≡ Stops (Some f) → IsFaultySegment place (w ∷ words)
bad_sound place w words f is_latch fit e = record {
  latch = w;
  is_latch = is_latch;
  values = plain (place + 1) words;
  in_range = plain_small (place + 1) words;
  whole = ap (λ (r : List ℕ). w ∷ r) (sym (written-plain (place + 1) words fit));
  no_segment = λ first after items s is. none first after items (segment_complete place first after items s).0 is;
} where
  none : (first after : List ℕ) (items : List Item) → SegmentFound place (first ++ after) (Takes (length first) items)
      → w ∷ words ≡ first ++ after → ⊥
  none first after items found is = (let same : w ∷ words ≡ found.latch ∷ found.others = is ∙ found.whole in
      let others : words ≡ found.others = cc in
      let both = sym e ∙ ap (λ (r : List ℕ). segment_behind place (plain (place + 1) r)) others ∙ found.found in cc)

-- Values that are written are 0 to 255.
written_small : (place : ℕ) (vs : List ℕ) → IsBytes (written place vs)
written_small place [] i = omega arith
written_small place (v ∷ vs) zero = omega arith
written_small place (v ∷ vs) (suc i) = written_small (place + 1) vs i

-- A bad length that is a prefix is found.
pub bad_complete : (place : ℕ) (words : List ℕ) → IsFaultySegment place words
    → SegmentFound place words (Stops (Some (fault.Length place)))
bad_complete place words s = record {
  latch = s.latch;
  others = written (place + 1) s.values;
  whole = s.whole;
  is_latch = s.is_latch;
  found = by_found _ refl (segment_judged place s.latch (written (place + 1) s.values) s.is_latch
      (written_small (place + 1) s.values));
} where
  by_found : (step : Step (List Item) (Option WordFault))
      → segment_behind place (plain (place + 1) (written (place + 1) s.values)) ≡ step
      → SegmentJudged place (s.latch ∷ written (place + 1) s.values) step → step ≡ Stops (Some (fault.Length place))
  by_found (Takes n items) e j =
      absurd (s.no_segment _ _ items j.right (s.whole
      ∙ sym (take-append-drop n (s.latch ∷ written (place + 1) s.values))))
  by_found (Stops None) e j = absurd j
  by_found (Stops (Some f)) e j = rw j refl

-- There is one item for each byte.
pub byte_items-length : (bs : List ℕ) → length (byte_items bs) ≡ length bs
byte_items-length [] = refl
byte_items-length (b ∷ bs) = ap suc (byte_items-length bs)

-- A segment has at most two items for each word.
pub segment_room : (place : ℕ) (words after : List ℕ) (items : List Item) → IsSegment place words after items
    → length items ≤ 2 * length words
segment_room place words after items s = grind (arith, byte_items-length, length-written, length-append)
