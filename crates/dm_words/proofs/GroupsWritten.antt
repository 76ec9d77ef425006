-- The runs of EDIFACT that are written are runs.
use Rattle.dm_words.proofs.Names.{◌≡◌, ◌≢◌, ◌⊎◌, inl, inr, ℕ, ◌+◌, ◌-◌, ◌%◌, ◌<◌, ◌≤◌, List, [], ◌∷◌, ◌++◌, length, map}
use Rattle.dm_words.proofs.Names.{take, drop, get_or, append_assoc, refl, sym, ap, subst, ◌∙◌, arith}
use Rattle.dm_words.proofs.Names.{cond, ltb, AllByRecursion, nat_tests, append-nil, length-append, map-append, Extent}
use Rattle.dm_words.proofs.Names.{Wide, Item, Byte, Group, Piece, spelled, gathered, IsGroup, edifact_byte}
use Rattle.dm_words.proofs.Names.{IsEdifactEnd, IsEdifactRun, few_left, first, fourth, edifact, waiting_values}
use Rattle.dm_words.proofs.Names.{IsGroupPushed, IsEdifactEnded, IsPartWritten, byte_of, byte_items}
use Rattle.dm_words.specs.declared.smallest.edifact.Group.TheVariants.{Empty, One, Two, Three}
use Rattle.dm_words.specs.Plain as plainly
use Rattle.dm_words.specs.inner.Written.{IsSmallGroup}
use Rattle.dm_words.proofs.SegmentLoops.{byte_items-append}
use Rattle.dm_words.proofs.Pieces.{all-append, spelled-last, gathered-last}
use Rattle.dm_words.proofs.RunBudget.{one_more}

-- The value of a byte of 32 to 94 is below 64, isn't the unlatch, and stands for the byte.
pub value_of_byte : (b : ℕ) → 32 ≤ b → b ≤ 94 → (b % 64 < 64) × (b % 64 ≢ 31) × (edifact_byte (b % 64) ≡ b)
value_of_byte b low high = grind (arith, nat_tests, ltb, cond)

-- So far a run has these items.
pub record IsEdifactSoFar (old new : List ℕ) (g : Group) (items : List Item) : Type 0 where
  pub groups : List (Piece (List ℕ))
  pub each : AllByRecursion (λ piece. IsGroup piece.words piece.what) groups
  pub words_are : new ≡ old ++ 240 ∷ spelled groups
  pub small : IsSmallGroup g
  pub no_unlatch : AllByRecursion (λ v. v ≢ 31) (gathered groups ++ waiting_values g)
  pub items_are : items ≡ byte_items (map edifact_byte (gathered groups ++ waiting_values g))

-- A run begins with its latch.
pub edifact_begun : (old new : List ℕ) → new ≡ old ++ 240 ∷ [] → IsEdifactSoFar old new Empty []
edifact_begun old new e = grind (arith, nat_tests)

-- One more item of a run.
pub edifact_more : (old words words' : List ℕ) (g g' : Group) (items : List Item) (v b : ℕ) → v < 64 → v ≢ 31
    → edifact_byte v ≡ b
    → IsEdifactSoFar old words g items → IsGroupPushed g words v g' words'
    → IsEdifactSoFar old words' g' (items ++ Byte b ∷ [])
edifact_more old words words' g g' items v b lt none is s push = by_group g s push where
  -- The values, with one more.
  with_one : (g : Group) (s : IsEdifactSoFar old words g items) (groups : List (Piece (List ℕ)))
      → AllByRecursion (λ piece. IsGroup piece.words piece.what) groups
      → words' ≡ old ++ 240 ∷ spelled groups → IsSmallGroup g' → gathered groups ++ waiting_values g'
      ≡ (gathered s.groups ++ waiting_values g) ++ v ∷ []
      → IsEdifactSoFar old words' g' (items ++ Byte b ∷ [])
  with_one g s groups each is_words small e =
      let before = gathered s.groups ++ waiting_values g in
      record {
        groups = groups;
        each = each;
        words_are = is_words;
        small = small;
        no_unlatch = rw (sym e) at (all-append (λ u. u ≢ 31) before (v ∷ []) s.no_unlatch (none, tt));
        items_are = ap (λ (l : List Item). l ++ Byte b ∷ []) s.items_are
            ∙ ap (λ (c : ℕ). byte_items (map edifact_byte before) ++ Byte c ∷ []) (sym is)
            ∙ sym (byte_items-append (map edifact_byte before) (edifact_byte v ∷ []))
            ∙ ap byte_items (sym (map-append edifact_byte before (v ∷ [])))
            ∙ ap (λ (l : List ℕ). byte_items (map edifact_byte l)) (sym e);
      }

  by_group : (g : Group) (s : IsEdifactSoFar old words g items) → IsGroupPushed g words v g' words'
      → IsEdifactSoFar old words' g' (items ++ Byte b ∷ [])
  by_group Empty s p =
      with_one Empty s s.groups s.each (p.1 ∙ s.words_are) (subst IsSmallGroup (sym p.0) (lt, tt))
      (ap (λ (q : Group). gathered s.groups ++ waiting_values q) p.0
      ∙ ap (λ (l : List ℕ). l ++ v ∷ []) (sym (append-nil (gathered s.groups))))
  by_group (One x) s p =
      with_one (One x) s s.groups s.each (p.1 ∙ s.words_are) (subst IsSmallGroup (sym p.0) (s.small.0, (lt, tt)))
      (ap (λ (q : Group). gathered s.groups ++ waiting_values q) p.0
      ∙ sym (append_assoc (gathered s.groups) (x ∷ []) (v ∷ [])))
  by_group (Two x y) s p =
      with_one (Two x y) s s.groups s.each (p.1
      ∙ s.words_are) (subst IsSmallGroup (sym p.0) (s.small.0, (s.small.1.0, (lt, tt))))
      (ap (λ (q : Group). gathered s.groups ++ waiting_values q) p.0
      ∙ sym (append_assoc (gathered s.groups) (x ∷ y ∷ []) (v ∷ [])))
  by_group (Three x y z) s p =
      let piece : Piece (List ℕ) = record { words = p.1.0; what = x ∷ y ∷ z ∷ v ∷ [] } in
      with_one (Three x y z) s (s.groups
      ++ piece ∷ []) (all-append (λ q. IsGroup q.words q.what) s.groups (piece ∷ []) s.each (p.1.1, tt))
      (p.1.2 ∙ ap (λ (l : List ℕ). l ++ p.1.0) s.words_are ∙ append_assoc old (240 ∷ spelled s.groups) p.1.0
      ∙ ap (λ (l : List ℕ). old ++ 240 ∷ l) (sym (spelled-last s.groups piece)))
      (subst IsSmallGroup (sym p.0) tt)
      (ap (λ (q : Group). gathered (s.groups ++ piece ∷ []) ++ waiting_values q) p.0
      ∙ append-nil (gathered (s.groups ++ piece ∷ [])) ∙ gathered-last s.groups piece
      ∙ sym (append_assoc (gathered s.groups) (x ∷ y ∷ z ∷ []) (v ∷ [])))

-- One more item, at an index.
pub edifact_item : (old words words' : List ℕ) (g g' : Group) (m : List Item) (from i : ℕ) (d : Item) (b byte : ℕ)
    → from ≤ i → i < length m → get_or m i d ≡ Byte byte → 32 ≤ byte → byte ≤ 94
    → b ≡ byte_of (get_or m i d) → IsEdifactSoFar old words g (take (i - from) (drop from m))
    → IsGroupPushed g words (b % 64) g' words' → IsEdifactSoFar old words' g' (take (i + 1 - from) (drop from m))
edifact_item old words words' g g' m from i d b byte le lt is low high is_byte s push =
    let same : b ≡ byte = is_byte ∙ ap byte_of is in
    let v = value_of_byte byte low high in
    let value : b % 64 ≡ byte % 64 = ap (λ (n : ℕ). n % 64) same in
    let not_unlatch : b % 64 ≢ 31 = λ e. v.1 (sym value ∙ e) in
    let next : IsEdifactSoFar old words' g' (take (i - from) (drop from m) ++ Byte byte ∷ []) =
    edifact_more _ _ words' g g' _ (b % 64) byte (omega arith) not_unlatch (ap edifact_byte value ∙ v.2) s push in
    let more : take (i - from) (drop from m) ++ Byte byte ∷ [] ≡ take (i + 1 - from) (drop from m) =
    ap (λ (x : Item). take (i - from) (drop from m) ++ x ∷ []) (sym is) ∙ one_more m from i d le lt in
    subst (λ (l : List Item). IsEdifactSoFar old words' g' l) more next

-- A run of EDIFACT with an end is a part.
edifact_part : (total : ℕ) (old words new : List ℕ) (items : List Item) (g : Group)
    (s : IsEdifactSoFar old words g items) (end : List ℕ) → 0 < length items → new ≡ words ++ end
    → ((after : List ℕ) → length new + length after ≡ total → IsEdifactEnd end after (waiting_values g))
    → IsPartWritten Wide total old new items
edifact_part total old words new items g s end some is ended = record {
  part = 240 ∷ (spelled s.groups ++ end);
  some = omega arith;
  begins = λ e. absurd (omega (arith, e));
  whole = is ∙ ap (λ (l : List ℕ). l ++ end) s.words_are ∙ append_assoc old (240 ∷ spelled s.groups) end;
  right = λ after fills none. edifact refl (run_is after fills);
  plain = λ after fills none. plainly.edifact (run_is after fills) some;
} where
  run_is : (after : List ℕ) → length new + length after ≡ total
      → IsEdifactRun (240 ∷ (spelled s.groups ++ end)) after items
  run_is after fills = record {
    latch = 240;
    is_latch = refl;
    groups = s.groups;
    each = s.each;
    end = end;
    last = waiting_values g;
    ended = ended after fills;
    no_unlatch = s.no_unlatch;
    whole = refl;
    items_are = s.items_are;
  }

-- A run of EDIFACT was written.
pub edifact_written : (extent : Extent) (total : ℕ) (old words new : List ℕ) (items : List Item) (g : Group) → extent
    ≡ Wide → length words ≤ total → (length (waiting_values g) ≡ 0) ⊎ (length (waiting_values g) ≡ 3)
    → 0 < length items → IsEdifactSoFar old words g items → IsEdifactEnded g total words new
    → IsPartWritten extent total old new items
edifact_written extent total old words new items g wide fits stopped some s ended =
    subst (λ (x : Extent). IsPartWritten x total old new items) (sym wide) (by_group g stopped s ended) where
      by_group : (g : Group) → (length (waiting_values g) ≡ 0) ⊎ (length (waiting_values g) ≡ 3)
          → IsEdifactSoFar old words g items → IsEdifactEnded g total words new → IsPartWritten Wide total old new items
      by_group Empty stopped s ended =
          elim ended [
            | inl more ↦ edifact_part total old words new items Empty s (124 ∷ []) some more.1
                (λ after fills. first 124 0 refl (omega arith) refl refl
                (omega (arith, fills, ap length more.1, length-append words (124 ∷ []), more.0)))
            | inr few ↦ edifact_part total old words new items Empty s [] some (few.1 ∙ sym (append-nil words))
                (λ after fills. few_left refl refl (omega (arith, fills, ap length few.1, few.0)))
          ]
      by_group (One x) stopped s ended = absurd (elim stopped [ inl e ↦ omega (arith, e) | inr e ↦ omega (arith, e) ])
      by_group (Two x y) stopped s ended = absurd (elim stopped [ inl e ↦ omega (arith, e) | inr e ↦ omega (arith, e) ])
      by_group (Three x y z) stopped s ended =
          let p = ended.1 in
          edifact_part total _ _ _ _ _ s p.1.0 some p.1.2 (λ after fills. fourth x y z p.1.1 refl)
