-- The facts of an open line, as the line grows and as it ends.
use Rattle.std.proofs.Common.{◌≡◌, ◌∙◌, ◌+◌, ◌≤◌, ◌<◌, min, ℕ, Bool, true, false, List, [], ◌∷◌, ◌++◌, Option, Some}
use Rattle.std.proofs.Common.{None, Result, Ok, Err, refl, sym, ap, subst, append_assoc, append-nil, length}
use Rattle.std.proofs.Common.{length-append, map, suc, take, arith, inl, inr}
use Rattle.std.specs.Prelude.{nat_le, if◌then◌else◌, ◌↔◌}
use Rattle.std.proofs.lemmas.Bool.{cases_lt, le-leb, leb-true}
use Rattle.dm_symbol.specs.declared.Item.{Item}
use Rattle.dm_symbol.specs.declared.Item.TheVariants.{Byte}
use Rattle.dm_text.specs.declared.message_line.LineFault.{LineFault}
use Rattle.dm_text.specs.declared.message_line.LineFault.TheVariants.{BadEscape, TooLong}
use Rattle.dm_text.specs.Spellings.{IsSpelling, plain, IsJoining, IsJoined}
use Rattle.dm_text.specs.MessageLines.{IsBadEscape, IsLine, most_bytes}
use Rattle.dm_symbol.specs.Messages.{most_items}
use Rattle.dm_text.specs.LineFacts.{CanBecomeSpelling, LineFacts, IsFaultyLine, IsGoodLine, AreLineFacts, kept}
use Rattle.std.specs.List.{AllByRecursion}
use Rattle.std.proofs.lemmas.List.{length-map, length-take-le, nil_from_length}
use Rattle.dm_text.specs.Texts.{HasNoLf}
use Rattle.dm_text.specs.inner.OpenLines.{BeginsNoSpelling, IsPlain}
use Rattle.dm_text.proofs.Joinings.{prefix_longest, joining_append, joining_one, joining_unique, spelling_some}

-- When a line becomes longer by one byte, so does what comes after its prefix.
grown : (line prefix rest : List ℕ) (b : ℕ) → line ≡ prefix ++ rest → line ++ b ∷ [] ≡ prefix ++ (rest ++ b ∷ [])
grown line prefix rest b e = ap (λ l. l ++ b ∷ []) e ∙ append_assoc prefix rest (b ∷ [])

-- No spelling stands at the start of the empty line.
pub none_begun : BeginsNoSpelling []
none_begun piece more item e h =
    let some = spelling_some piece item h in
    let long : 0 ≡ length piece + length more = ap length e ∙ length-append piece more in absurd (omega arith)

-- Without any bytes yet, a spelling can still come.
pub nothing_can : CanBecomeSpelling []
nothing_can = (32 ∷ [], Byte 32, plain 32 (omega arith) (omega arith) (λ e. omega arith) refl refl)

-- The empty line is a good one, with no items and nothing pending.
pub good_none : IsGoodLine [] 0 (Some []) []
good_none = record {
  prefix = [];
  items = [];
  longest =
      record {
        whole = refl;
        joined = ([], refl);
        longest =
            λ other after e j. prefix_longest [] j.0 [] [] other after refl none_begun e j.1;
      };
  joining = refl;
  can_become = nothing_can;
  count_is = refl;
  known_is = refl;
}

-- A good line stays good with a byte after which the pending bytes can still become a spelling, but are none.
pub good_begun : (line pending : List ℕ) (b n : ℕ) (known : Option (List Item)) → IsGoodLine line n known pending
    → CanBecomeSpelling (pending ++ b ∷ []) → BeginsNoSpelling (pending ++ b ∷ []) →
    IsGoodLine (line ++ b ∷ []) n known (pending ++ b ∷ [])
good_begun line pending b n known good can none =
    let whole = grown line good.prefix pending b good.longest.whole in
    record {
      prefix = good.prefix;
      items = good.items;
      longest = record {
        whole = whole;
        joined = good.longest.joined;
        longest =
            λ other after e j. prefix_longest good.items j.0 good.prefix (pending ++ b ∷ []) other after good.joining
            none (sym whole ∙ e) j.1;
      };
      joining = good.joining;
      can_become = can;
      count_is = good.count_is;
      known_is = good.known_is;
    }

-- A count that stops at its most is right after the bytes of a spelling if it was right before them.
counted : (n prefix pending line : ℕ) → n ≡ min prefix most_bytes → line ≡ prefix + (pending + 1) →
    min (n + (pending + 1)) most_bytes ≡ min line most_bytes
counted n prefix pending line e f = omega arith

-- A good line stays good with a byte that makes the pending bytes a spelling.
pub good_whole : (line pending : List ℕ) (b n : ℕ) (known more : Option (List Item)) (item : Item) →
    IsGoodLine line n known pending
    → IsSpelling (pending ++ b ∷ []) item → ((all : List Item) → known ≡ kept all → more ≡ kept (all ++ item ∷ []))
    → IsGoodLine (line ++ b ∷ []) (min (n + (length pending + 1)) most_bytes) more []
good_whole line pending b n known more item good spelling pushed =
    let whole = grown line good.prefix pending b good.longest.whole in
    let joining : IsJoining (line ++ b ∷ []) (good.items ++ item ∷ []) =
    subst (λ l. IsJoining l (good.items ++ item ∷ [])) (sym whole)
    (joining_append good.items (item ∷ []) good.prefix (pending ++ b ∷ []) good.joining
    (joining_one (pending ++ b ∷ []) item spelling)) in
    let long : length (line ++ b ∷ []) ≡ length good.prefix + (length pending + 1) =
    ap length whole ∙ length-append good.prefix (pending ++ b ∷ [])
    ∙ ap (λ k. length good.prefix + k) (length-append pending (b ∷ [])) in
    record {
      prefix = line ++ b ∷ [];
      items = good.items ++ item ∷ [];
      longest = record {
        whole = sym (append-nil (line ++ b ∷ []));
        joined = (good.items ++ item ∷ [], joining);
        longest = λ other after e j. let parts : length (line ++ b ∷ []) ≡ length other + length after =
            ap length e ∙ length-append other after in omega arith;
      };
      joining = joining;
      can_become = nothing_can;
      count_is = counted n (length good.prefix) (length pending) (length (line ++ b ∷ [])) good.count_is long;
      known_is = pushed good.items good.known_is;
    }

-- Items that are kept, with one more for which there is room, are what is kept of all of them.
kept_more : (items all : List Item) (item : Item) → Some items ≡ kept all → length items + 1 ≤ most_items →
    Some (items ++ item ∷ []) ≡ kept (all ++ item ∷ [])
kept_more items all item e room = by_test (nat_le (length all) most_items) e
  where
    by_test : (t : Bool) → Some items ≡ (if t then Some all else None) →
        Some (items ++ item ∷ []) ≡ kept (all ++ item ∷ [])
    by_test true h =
        let same : items ≡ all = cc in
        let long : length (all ++ item ∷ []) ≤ most_items = rw length-append (omega (arith, room, ap length same)) in
        rw (le-leb (length (all ++ item ∷ [])) most_items long) (ap (λ l. Some (l ++ item ∷ [])) same)
    by_test false h = cc

-- Counting one byte and then k more, up to the most, counts k + 1.
counted_more : (n k : ℕ) → min (min (n + (0 + 1)) most_bytes + k) most_bytes ≡ min (n + suc k) most_bytes
counted_more n k = omega arith

-- A good line with nothing pending stays good with bytes that stand for themselves.
pub good_plain : (line bytes : List ℕ) (n : ℕ) (items : List Item) → IsGoodLine line n (Some items) [] →
    AllByRecursion IsPlain bytes
    → length items + length bytes ≤ most_items →
    IsGoodLine (line ++ bytes) (min (n + length bytes) most_bytes) (Some (items ++ map Byte bytes)) []
good_plain line [] n items good plains few =
    let count : n ≡ min (n + 0) most_bytes = let c = good.count_is in omega arith in
    subst (λ (l : List ℕ). IsGoodLine l (min (n + 0) most_bytes) (Some (items ++ [])) []) (sym (append-nil line))
    (subst (λ (l : List Item). IsGoodLine line (min (n + 0) most_bytes) (Some l) []) (sym (append-nil items))
    (subst (λ (k : ℕ). IsGoodLine line k (Some items) []) count good))
good_plain line (b ∷ bytes) n items good plains few =
    let p = plains.0 in
    let one =
    good_whole line [] b n (Some items) (Some (items ++ Byte b ∷ [])) (Byte b) good (plain b p.0 p.1 p.2 refl refl)
    (λ all e. kept_more items all (Byte b) e (omega (arith, few))) in
    let more : length (items ++ Byte b ∷ []) + length bytes ≤ most_items = rw length-append (omega (arith, few)) in
    let rest =
    good_plain (line ++ b ∷ []) bytes (min (n + (0 + 1)) most_bytes) (items ++ Byte b ∷ []) one plains.1 more in
    subst (λ (l : List ℕ). IsGoodLine l (min (n + suc (length bytes)) most_bytes) (Some (items ++ map Byte (b ∷ bytes)))
    []) (append_assoc line (b ∷ []) bytes)
    (subst (λ (l : List Item). IsGoodLine ((line ++ b ∷ []) ++ bytes) (min (n + suc (length bytes)) most_bytes) (Some l)
    []) (append_assoc items (Byte b ∷ []) (map Byte bytes))
    (subst (λ (k : ℕ). IsGoodLine ((line ++ b ∷ []) ++ bytes) k (Some ((items ++ Byte b ∷ []) ++ map Byte bytes)) [])
    (counted_more n (length bytes)) rest))

-- Items that are kept are not too many.
kept_few : (items all : List Item) → Some items ≡ kept all → length items ≤ most_items
kept_few items all e = by_test (nat_le (length all) most_items) refl e
  where
    by_test : (t : Bool) → nat_le (length all) most_items ≡ t → Some items ≡ (if t then Some all else None) →
        length items ≤ most_items
    by_test true few h = let same : items ≡ all =
        cc in omega (arith, ap length same, leb-true (length all) most_items few)
    by_test false few h = cc

-- A good line with nothing pending stays good with the first bytes of a piece that stand for themselves.
pub good_prefix : (line bytes pending : List ℕ) (prefix n : ℕ) (known : Option (List Item)) (old new : List Item) →
    IsGoodLine line prefix known pending
    → length pending ≡ 0 → known ≡ Some old → AllByRecursion IsPlain (take n bytes) → n ≤ length bytes →
    new ≡ old ++ map Byte (take n bytes)
    → (length old ≤ most_items → length new ≤ most_items) →
    IsGoodLine (line ++ take n bytes) (min (prefix + n) most_bytes) (Some new) pending
good_prefix line bytes pending prefix n known old new good zero_p is plains le added few =
    let none : pending ≡ [] = nil_from_length pending zero_p in
    let good0 : IsGoodLine line prefix (Some old) [] =
    subst (λ (k : Option (List Item)). IsGoodLine line prefix k []) is
    (subst (λ (p : List ℕ). IsGoodLine line prefix known p) none good) in
    let less : length new ≤ most_items = few (kept_few old good0.items good0.known_is) in
    let parts : length new ≡ length old + length (take n bytes) =
    ap length added ∙ length-append old (map Byte (take n bytes))
    ∙ ap (λ (k : ℕ). length old + k) (length-map (take n bytes) Byte) in
    subst (λ (p : List ℕ). IsGoodLine (line ++ take n bytes) (min (prefix + n) most_bytes) (Some new) p) (sym none)
    (subst (λ (m : List Item). IsGoodLine (line ++ take n bytes) (min (prefix + n) most_bytes) (Some m) []) (sym added)
    (subst (λ (k : ℕ). IsGoodLine (line ++ take n bytes) (min (prefix + k) most_bytes)
    (Some (old ++ map Byte (take n bytes))) []) (length-take-le n bytes le)
    (good_plain line (take n bytes) prefix old good0 plains (omega arith))))

-- Bytes that stand for themselves are no LF.
pub plain_no_lf : (bytes : List ℕ) → AllByRecursion IsPlain bytes → HasNoLf bytes
plain_no_lf [] h = tt
plain_no_lf (b ∷ bytes) h = (λ e. let low = h.0.0 in omega arith, plain_no_lf bytes h.1)

-- The column after a prefix is one more than the count of its bytes, up to the most.
column_is : (n prefix : ℕ) → n ≡ min prefix most_bytes → min (n + 1) most_bytes ≡ min (prefix + 1) most_bytes
column_is n prefix e = omega arith

-- A good line becomes faulty with a byte after which the pending bytes can't become a spelling.
pub good_fault : (line pending : List ℕ) (b n : ℕ) (known : Option (List Item)) → IsGoodLine line n known pending
    → ((more : List ℕ) → BeginsNoSpelling ((pending ++ b ∷ []) ++ more)) →
    IsFaultyLine (line ++ b ∷ []) (min (n + 1) most_bytes)
good_fault line pending b n known good none =
    let whole = grown line good.prefix pending b good.longest.whole in
    let now : BeginsNoSpelling (pending ++ b ∷ []) =
    subst BeginsNoSpelling (append-nil (pending ++ b ∷ [])) (none []) in
    record {
      prefix = good.prefix;
      rest = pending ++ b ∷ [];
      longest = record {
        whole = whole;
        joined = good.longest.joined;
        longest =
            λ other after e j. prefix_longest good.items j.0 good.prefix (pending ++ b ∷ []) other after good.joining
            now (sym whole ∙ e) j.1;
      };
      broken = λ more j.
          let all : good.prefix ++ ((pending ++ b ∷ []) ++ more) ≡ ((line ++ b ∷ []) ++ more) ++ [] =
          sym (append_assoc good.prefix (pending ++ b ∷ []) more) ∙ ap (λ l. l ++ more) (sym whole)
          ∙ sym (append-nil ((line ++ b ∷ []) ++ more)) in
          let less : length ((line ++ b ∷ []) ++ more) ≤ length good.prefix =
          prefix_longest good.items j.0 good.prefix ((pending ++ b ∷ []) ++ more) ((line ++ b ∷ []) ++ more) []
          good.joining (none more) all j.1 in
          let long : length ((line ++ b ∷ []) ++ more) ≡ length (line ++ b ∷ []) + length more =
          length-append (line ++ b ∷ []) more in
          let before : length (line ++ b ∷ []) ≡ length good.prefix + (length pending + 1) =
          ap length whole ∙ length-append good.prefix (pending ++ b ∷ [])
          ∙ ap (λ k. length good.prefix + k) (length-append pending (b ∷ [])) in
          absurd (omega arith);
      column_is = column_is n (length good.prefix) good.count_is;
    }

-- A prefix of a line and further bytes that is no longer than the line is a prefix of the line.
cut : (other line t after : List ℕ) → line ++ t ≡ other ++ after → length other ≤ length line →
    (s : List ℕ) × (line ≡ other ++ s)
cut [] line t after e le = (line, refl)
cut (x ∷ o) [] t after e le = absurd (omega arith)
cut (x ∷ o) (y ∷ l) t after e le =
    let tail : l ++ t ≡ o ++ after = cc in
    let head : y ≡ x = cc in
    let less : length o ≤ length l = omega arith in
    let r = cut o l t after tail less in (r.0, ap (λ k. k ∷ l) head ∙ ap (λ k. x ∷ k) r.1)

-- A faulty line stays faulty with one more byte.
pub faulty_more : (line : List ℕ) (b column : ℕ) → IsFaultyLine line column → IsFaultyLine (line ++ b ∷ []) column
faulty_more line b column faulty = record {
  prefix = faulty.prefix;
  rest = faulty.rest ++ b ∷ [];
  longest = record {
    whole = grown line faulty.prefix faulty.rest b faulty.longest.whole;
    joined = faulty.longest.joined;
    longest = λ other after e j.
        let parts : length line + 1 ≡ length other + length after =
        sym (length-append line (b ∷ [])) ∙ ap length e ∙ length-append other after in
        elim (cases_lt (length line) (length other)) [
          | inl lt ↦
              let none : after ≡ [] = nil_from_length after (omega arith) in
              let same : other ≡ line ++ b ∷ [] = sym (append-nil other) ∙ ap (λ l. other ++ l) (sym none) ∙ sym e in
              absurd (faulty.broken (b ∷ []) (subst IsJoined same j))
          | inr le ↦ let r = cut other line (b ∷ []) after e le in faulty.longest.longest other r.0 r.1 j
        ];
  };
  broken = λ more j. faulty.broken (b ∷ more) (subst IsJoined (append_assoc line (b ∷ []) more) j);
  column_is = faulty.column_is;
}

-- A faulty line that ends has a bad escape.
pub faulty_end : (line : List ℕ) (column : ℕ) → IsFaultyLine line column → IsBadEscape line column
faulty_end line column faulty = record {
  prefix = faulty.prefix;
  rest = faulty.rest;
  longest = faulty.longest;
  broken = λ j. faulty.broken [] (subst IsJoined (sym (append-nil line)) j);
  column_is = faulty.column_is;
}

-- A line that ends in the middle of a spelling has a bad escape.
pub pending_end : (line pending : List ℕ) (n : ℕ) (known : Option (List Item)) → IsGoodLine line n known pending →
    0 < length pending
    → IsBadEscape line (min (n + 1) most_bytes)
pending_end line pending n known good some = record {
  prefix = good.prefix;
  rest = pending;
  longest = good.longest;
  broken = λ j.
      let less = good.longest.longest line [] (sym (append-nil line)) j in
      let parts : length line ≡ length good.prefix + length pending =
      ap length good.longest.whole ∙ length-append good.prefix pending in
      absurd (omega arith);
  column_is = column_is n (length good.prefix) good.count_is;
}

-- A line has only one column of a bad escape.
fault_column : (line : List ℕ) (a b : ℕ) → IsBadEscape line a → IsBadEscape line b → a ≡ b
fault_column line a b p q =
    let one = q.longest.longest p.prefix p.rest p.longest.whole p.longest.joined in
    let two = p.longest.longest q.prefix q.rest q.longest.whole q.longest.joined in
    p.column_is ∙ ap (λ n. min (n + 1) most_bytes) (omega arith) ∙ sym q.column_is

-- A line means only one thing.
pub line_unique : (line : List ℕ) (a b : Result (List Item) LineFault) → IsLine line a → IsLine line b → a ≡ b
line_unique line (Ok xs) (Ok ys) p q = ap Ok (joining_unique xs ys line p.0 q.0)
line_unique line (Ok xs) (Err TooLong) p q = let same = ap length (joining_unique xs q.0 line p.0 q.1) in
    absurd (omega arith)
line_unique line (Ok xs) (Err (BadEscape n)) p q = absurd (q.broken (xs, p.0))
line_unique line (Err TooLong) (Ok ys) p q = let same = ap length (joining_unique p.0 ys line p.1 q.0) in
    absurd (omega arith)
line_unique line (Err TooLong) (Err TooLong) p q = refl
line_unique line (Err TooLong) (Err (BadEscape n)) p q = absurd (q.broken (p.0, p.1))
line_unique line (Err (BadEscape m)) (Ok ys) p q = absurd (p.broken (ys, q.0))
line_unique line (Err (BadEscape m)) (Err TooLong) p q = absurd (p.broken (q.0, q.1))
line_unique line (Err (BadEscape m)) (Err (BadEscape n)) p q = ap (λ k. Err (BadEscape k)) (fault_column line m n p q)

-- Where a line means one answer, another is equal to it exactly if the line means that too.
pub line_only : (line : List ℕ) (a : Result (List Item) LineFault) → IsLine line a →
    (b : Result (List Item) LineFault) → (a ≡ b) ↔ IsLine line b
line_only line a p b = (λ e. subst (IsLine line) e p, λ q. line_unique line a b p q)

-- A faulty line has at least one byte.
pub faulty_some : (line : List ℕ) (column : ℕ) → IsFaultyLine line column → line ≡ [] → ⊥
faulty_some line column faulty e = faulty.broken [] ([], ap (λ l. l ++ []) e)

-- A good line that is empty has a count of 0 and nothing pending.
pub good_empty_counts : (line pending : List ℕ) (n : ℕ) (known : Option (List Item)) → IsGoodLine line n known pending →
    line ≡ [] → (n ≡ 0) × (length pending ≡ 0)
good_empty_counts line pending n known good e =
    let parts : length line ≡ length good.prefix + length pending =
    ap length good.longest.whole ∙ length-append good.prefix pending in
    let none : length line ≡ 0 = ap length e in
    let c = good.count_is in (omega arith, omega arith)

-- The facts of a line that is empty are facts of the empty line.
pub facts_empty : (line : List ℕ) (facts : LineFacts) → AreLineFacts line facts → line ≡ [] → AreLineFacts [] facts
facts_empty line facts h e = subst (λ l. AreLineFacts l facts) e h
