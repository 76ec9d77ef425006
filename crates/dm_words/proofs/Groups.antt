-- A run of EDIFACT that the scan finds is a run of the definition.
use Rattle.dm_words.proofs.Names.{◌≡◌, ◌≢◌, ℕ, suc, ◌+◌, ◌*◌, ◌/◌, ◌%◌, ◌<◌, ◌≤◌, List, [], ◌∷◌, ◌++◌, length, take}
use Rattle.dm_words.proofs.Names.{drop, refl, sym, ap, ◌∙◌, append_assoc, arith, Bool, true, false, eqb, Some, zero-add}
use Rattle.dm_words.proofs.Names.{AllByRecursion, eqb-true, nat_tests, length-append, length-map, Item, codeword_of}
use Rattle.dm_words.proofs.Names.{Piece, spelled, gathered, IsGroup, edifact_byte, IsEdifactEnd, few_left, first}
use Rattle.dm_words.proofs.Names.{second, third, fourth, IsEdifactRun, group_values, group_by, edifact_items}
use Rattle.dm_words.specs.declared.codeword.Codeword.TheVariants as codeword
use Rattle.dm_words.specs.inner.Scan.Prefixes.{edifact_run}
use Rattle.dm_words.proofs.Pairs.{IsBytes}
use Rattle.dm_words.proofs.Runs.{cut_behind_prefix}
use Rattle.dm_words.proofs.Segments.{byte_items-length}

-- No value is the unlatch.
abbrev pub NoUnlatch : List ℕ → Type 0
NoUnlatch values = AllByRecursion (λ v. v ≢ 31) values

-- ---- what is found is right

-- The words begin with groups and an end of a run, which have this many words and these values.
record HasRun (words : List ℕ) (n : ℕ) (values : List ℕ) : Type 0 where
  groups : List (Piece (List ℕ))
  each : AllByRecursion (λ p. IsGroup p.words p.what) groups
  end : List ℕ
  after : List ℕ
  last : List ℕ
  ended : IsEdifactEnd end after last
  whole : words ≡ spelled groups ++ (end ++ after)
  count : n ≡ length (spelled groups) + length end
  values_are : values ≡ gathered groups ++ last
  no_unlatch : NoUnlatch values

-- A value that is not found to be the unlatch isn't.
not_unlatch : (v : ℕ) → eqb v 31 ≡ false → v ≢ 31
not_unlatch v e is = (let t : eqb v 31 ≡ true = rw is refl in cc)

-- The number of three codewords is that of their four values.
group_number : (a b c : ℕ) → b < 256 → c < 256
    → 65536 * a + 256 * b + c ≡ 262144 * (a / 4) + 4096 * (a % 4 * 16 + b / 16) + 64 * (b % 16 * 4 + c / 64) + c % 64
group_number a b c lb lc = omega arith

-- Three codewords are a group of their values.
is_group : (a b c : ℕ) → a < 256 → b < 256 → c < 256 → IsGroup (a ∷ b ∷ c ∷ []) (group_values a b c)
is_group a b c la lb lc = record {
  high = a;
  middle = b;
  low = c;
  middle_is_byte = lb;
  low_is_byte = lc;
  first = _;
  second = _;
  third = _;
  fourth = _;
  first_small = omega arith;
  second_small = omega arith;
  third_small = omega arith;
  fourth_small = omega arith;
  number = group_number a b c lb lc;
  words_are = refl;
  values_are = refl;
}

-- A run that ends at once has no groups.
ends_at_once : (words end after last : List ℕ) (n : ℕ) → IsEdifactEnd end after last → words ≡ end ++ after → n
    ≡ length end → NoUnlatch last → HasRun words n last
ends_at_once words end after last n ended whole count none = record {
  groups = [];
  each = tt;
  end = end;
  after = after;
  last = last;
  ended = ended;
  whole = whole;
  count = omega (arith, count);
  values_are = refl;
  no_unlatch = none;
}

module _ (a b c : ℕ) (more : List ℕ) (la : a < 256) (lb : b < 256) (lc : c < 256) where
  -- Three codewords whose values are not the unlatch are a group before a run.
  one_group_more : (n : ℕ) (values : List ℕ) → NoUnlatch (group_values a b c) → HasRun more n values
      → HasRun (a ∷ b ∷ c ∷ more) (3 + n) (group_values a b c ++ values)
  one_group_more n values none r =
      let p : Piece (List ℕ) = record { words = a ∷ b ∷ c ∷ []; what = group_values a b c } in
      record {
        groups = p ∷ r.groups;
        each = (is_group a b c la lb lc, r.each);
        end = r.end;
        after = r.after;
        last = r.last;
        ended = r.ended;
        whole = ap (λ (x : List ℕ). a ∷ b ∷ c ∷ x) r.whole;
        count = omega (arith, r.count);
        values_are = ap (λ (x : List ℕ). group_values a b c ++ x) r.values_are;
        no_unlatch = (none.0, (none.1.0, (none.1.1.0, (none.1.1.1.0, r.no_unlatch))));
      }

  -- What is found at three codewords is right, whichever of their values is the first unlatch.
  by_group : (s t u v : Bool) → eqb (a / 4) 31 ≡ s → eqb (a % 4 * 16 + b / 16) 31 ≡ t → eqb (b % 16 * 4 + c / 64) 31
      ≡ u → eqb (c % 64) 31 ≡ v
      → (rest : ℕ × List ℕ) → HasRun more rest.0 rest.1
      → (let found : ℕ × List ℕ = group_by (group_values a b c) rest in HasRun (a ∷ b ∷ c ∷ more) found.0 found.1)
  by_group true t u v es et eu ev rest r =
      let is : a / 4 ≡ 31 = eqb-true _ _ es in
      rw es (ends_at_once (a ∷ b ∷ c ∷ more) (a ∷ []) (b ∷ c ∷ more) [] 1
      (first a (a % 4) (omega (arith, is)) (omega arith) refl refl (omega arith)) refl refl tt)
  by_group false true u v es et eu ev rest r =
      let is : a % 4 * 16 + b / 16 ≡ 31 = eqb-true _ _ et in
      rw (es, et)
      (ends_at_once (a ∷ b ∷ c ∷ more) (a ∷ b ∷ []) (c ∷ more) ((a / 4) ∷ []) 2
      (second a b (a / 4) (b % 16) lb (omega arith) (omega (arith, is)) (omega arith) refl refl (omega arith))
      refl refl (not_unlatch _ es, tt))
  by_group false false true v es et eu ev rest r =
      let is : b % 16 * 4 + c / 64 ≡ 31 = eqb-true _ _ eu in
      let g : IsGroup (a ∷ b ∷ c ∷ []) ((a / 4) ∷ (a % 4 * 16 + b / 16) ∷ 31 ∷ (c % 64) ∷ []) =
      rw is at (is_group a b c la lb lc) in
      rw (es, et, eu)
      (ends_at_once (a ∷ b ∷ c ∷ more) (a ∷ b ∷ c ∷ []) more _ 3 (third _ _ _ g refl) refl refl
      (not_unlatch _ es, (not_unlatch _ et, tt)))
  by_group false false false true es et eu ev rest r =
      let is : c % 64 ≡ 31 = eqb-true _ _ ev in
      let g : IsGroup (a ∷ b ∷ c ∷ []) ((a / 4) ∷ (a % 4 * 16 + b / 16) ∷ (b % 16 * 4 + c / 64) ∷ 31 ∷ []) =
      rw is at (is_group a b c la lb lc) in
      rw (es, et, eu, ev)
      (ends_at_once (a ∷ b ∷ c ∷ more) (a ∷ b ∷ c ∷ []) more _ 3 (fourth _ _ _ g refl) refl refl
      (not_unlatch _ es, (not_unlatch _ et, (not_unlatch _ eu, tt))))
  by_group false false false false es et eu ev rest r =
      rw (es, et, eu, ev)
      (one_group_more rest.0 rest.1
      (not_unlatch _ es, (not_unlatch _ et, (not_unlatch _ eu, (not_unlatch _ ev, tt)))) r)

-- At the border of a group, where at most two codewords are left, the run ends.
at_border : (words : List ℕ) → length words ≤ 2 → HasRun words 0 []
at_border words le = ends_at_once words [] words [] 0 (few_left refl refl le) refl refl tt

-- The run that is found is a prefix.
run_found : (words : List ℕ) → IsBytes words → HasRun words (edifact_run words).0 (edifact_run words).1
unfolding edifact_run
run_found [] fit = at_border [] (omega arith)
run_found (a ∷ []) fit = at_border (a ∷ []) (omega arith)
run_found (a ∷ b ∷ []) fit = at_border (a ∷ b ∷ []) (omega arith)
run_found (a ∷ b ∷ c ∷ more) fit =
    by_group a b c more (fit 0) (fit 1) (fit 2) _ _ _ _ refl refl refl refl (edifact_run more)
    (run_found more (λ i. fit (suc (suc (suc i)))))

-- The first n codewords are a run, by what follows them.
pub record EdifactTakes (words : List ℕ) (n : ℕ) (items : List Item) : Type 0 where
  pub right : IsEdifactRun (take n words) (drop n words) items
  pub some : 0 < n
  pub within : n ≤ length words

-- A run that is found behind a latch is a run.
pub edifact_judged : (w : ℕ) (words : List ℕ) → codeword_of w ≡ Some codeword.Edifact → IsBytes words
    → EdifactTakes (w ∷ words) (1 + (edifact_run words).0) (edifact_items (edifact_run words).1)
edifact_judged w words is_latch fit =
    let r = run_found words fit in
    let prefix : List ℕ = w ∷ (spelled r.groups ++ r.end) in
    let whole : w ∷ words ≡ prefix
    ++ r.after = ap (λ (x : List ℕ). w ∷ x) (r.whole ∙ sym (append_assoc (spelled r.groups) r.end r.after)) in
    let c = cut_behind_prefix (w ∷ words) prefix r.after (1 + (edifact_run words).0) whole
    (omega (arith, r.count, length-append (spelled r.groups) r.end)) in
    let run : IsEdifactRun prefix r.after (edifact_items (edifact_run words).1) = record {
      latch = w;
      is_latch = is_latch;
      groups = r.groups;
      each = r.each;
      end = r.end;
      last = r.last;
      ended = r.ended;
      no_unlatch = rw r.values_are at r.no_unlatch;
      whole = refl;
      items_are = ap edifact_items r.values_are;
    } in
    record { right = rw (c.0, c.1) run; some = omega arith; within = c.2 }

-- ---- what is right is found

-- The values of a group are those of its codewords.
group_again : (a b c v w x y : ℕ) → b < 256 → c < 256 → v < 64 → w < 64 → x < 64 → y < 64 → 65536 * a + 256 * b + c
    ≡ 262144 * v + 4096 * w + 64 * x + y
    → (a / 4 ≡ v) × (a % 4 * 16 + b / 16 ≡ w) × (b % 16 * 4 + c / 64 ≡ x) × (c % 64 ≡ y)
group_again a b c v w x y lb lc lv lw lx ly e = (omega arith, omega arith, omega arith, omega arith)

-- The values of codewords that are a group are found.
values_found : (words values more : List ℕ) → IsGroup words values → edifact_run (words ++ more)
    ≡ group_by values (edifact_run more)
unfolding edifact_run
values_found words values more g = grind (arith, group_again)

-- A value that isn't the unlatch is found not to be.
pub is_not : (v : ℕ) → v ≢ 31 → eqb v 31 ≡ false
is_not v ne = grind (arith, nat_tests)

-- At most two codewords are no group.
pub border_found : (words : List ℕ) → length words ≤ 2 → edifact_run words ≡ (0, [])
unfolding edifact_run
border_found words h1 = grind (arith, nat_tests)

-- An unlatch that is the first value of a group is found.
first_found : (word rest : ℕ) (after : List ℕ) → word ≡ 4 * 31 + rest → rest < 4 → 2 ≤ length after
    → edifact_run (word ∷ after) ≡ (1, [])
unfolding edifact_run
first_found word rest after h1 h2 h3 = grind (arith, nat_tests)

-- An unlatch that is the second value of a group is found.
second_found : (high low value rest : ℕ) (after : List ℕ) → low < 256 → 256 * high + low
    ≡ 1024 * value + 16 * 31 + rest → rest < 16 → value ≢ 31 → 1 ≤ length after
    → edifact_run (high ∷ low ∷ after) ≡ (2, value ∷ [])
unfolding edifact_run
second_found high low value rest after h1 h2 h3 h4 h5 = grind (arith, nat_tests, is_not)

-- The end of a run is found.
end_found : (end after last : List ℕ) → IsEdifactEnd end after last → NoUnlatch last → edifact_run (end ++ after)
    ≡ (length end, last)
end_found end after last (few_left w v le) none = rw (w, v) (border_found after le)
end_found end after last (first word rest is lt w v le) none = rw (w, v) (first_found word rest after is lt le)
end_found end after last (second high low value rest small six is lt w v le) none = let n : NoUnlatch (value ∷ []) =
    rw v at none in rw (w, v) (second_found high low value rest after small is lt n.0 le)
end_found end after last (third one two rest g v) none =
    let n : NoUnlatch (one ∷ two ∷ []) = rw v at none in
    values_found end _ after g ∙ rw (is_not one n.0, is_not two n.1.0, g.words_are, v) refl
end_found end after last (fourth one two three g v) none =
    let n : NoUnlatch (one ∷ two ∷ three ∷ []) = rw v at none in
    values_found end _ after g ∙ rw (is_not one n.0, is_not two n.1.0, is_not three n.1.1.0, g.words_are, v) refl

-- A prefix and the rest of values without an unlatch have none.
NoUnlatch-right : (x y : List ℕ) → NoUnlatch (x ++ y) → NoUnlatch y
NoUnlatch-right [] y none = none
NoUnlatch-right (v ∷ x) y none = NoUnlatch-right x y none.1

-- Where none of its values is the unlatch, a group is taken.
whole_group : (words values more : List ℕ) (n : ℕ) (rest others : List ℕ) → IsGroup words values
    → NoUnlatch (values ++ others) → edifact_run more ≡ (n, rest)
    → (edifact_run (words ++ more) ≡ (length words + n, values ++ rest))
whole_group words values more n rest others g none e =
    let d : NoUnlatch (g.first ∷ g.second ∷ g.third ∷ g.fourth ∷ others) = rw g.values_are at none in
    values_found _ _ more g ∙ rw (
      e,
      g.values_are,
      is_not g.first d.0,
      is_not g.second d.1.0,
      is_not g.third d.1.1.0,
      is_not g.fourth d.1.1.1.0,
      g.words_are,
    ) refl

-- Groups and the end of a run behind them are found.
groups_found : (groups : List (Piece (List ℕ))) (end after last : List ℕ)
    → AllByRecursion (λ p. IsGroup p.words p.what) groups → IsEdifactEnd end after last
    → NoUnlatch (gathered groups ++ last)
    → edifact_run (spelled groups ++ (end ++ after)) ≡ (length (spelled groups) + length end, gathered groups ++ last)
groups_found [] end after last each ended none = cc (end_found end after last ended none, zero-add (length end))
groups_found (p ∷ groups) end after last each ended none =
    let assoc = append_assoc p.what (gathered groups) last in
    let all : NoUnlatch (p.what ++ (gathered groups ++ last)) = rw assoc at none in
    let rest = groups_found groups end after last each.1 ended (NoUnlatch-right p.what (gathered groups ++ last) all) in
    let one = whole_group _ _ (spelled groups ++ (end ++ after)) _ _ (gathered groups ++ last) each.0 all rest in
    let grouped : (p.words ++ spelled groups) ++ (end ++ after) ≡ p.words ++ (spelled groups ++ (end ++ after)) = cc in
    let len : length p.words + (length (spelled groups) + length end)
    ≡ length (p.words ++ spelled groups) + length end = omega (arith, length-append p.words (spelled groups)) in
    cc

-- The words begin with a latch to EDIFACT, and a run with this many words and these items is found there.
pub record EdifactFound (words : List ℕ) (n : ℕ) (items : List Item) : Type 0 where
  pub latch : ℕ
  pub others : List ℕ
  pub whole : words ≡ latch ∷ others
  pub is_latch : codeword_of latch ≡ Some codeword.Edifact
  pub count : 1 + (edifact_run others).0 ≡ n
  pub found : edifact_items (edifact_run others).1 ≡ items

-- A run that is a prefix is found.
pub edifact_complete : (words after : List ℕ) (items : List Item) → IsEdifactRun words after items
    → EdifactFound (words ++ after) (length words) items × (0 < length words)
edifact_complete words after items r =
    let again = groups_found r.groups r.end after r.last r.each r.ended r.no_unlatch in
    let len : 1 + (length (spelled r.groups) + length r.end)
    ≡ length words = omega (arith, ap length r.whole, length-append (spelled r.groups) r.end) in (
      record {
        latch = r.latch;
        others = spelled r.groups ++ (r.end ++ after);
        whole = cc (r.whole, append_assoc (spelled r.groups) r.end after);
        is_latch = r.is_latch;
        count = rw again len;
        found = rw again (sym r.items_are);
      },
      omega (arith, len),
    )

-- ---- how many items a run has

-- Three codewords have four values.
pub groups_room : (ps : List (Piece (List ℕ))) → AllByRecursion (λ p. IsGroup p.words p.what) ps
    → 3 * length (gathered ps) ≡ 4 * length (spelled ps)
groups_room [] h = refl
groups_room (p ∷ ps) h = grind (arith, nat_tests, length-append, gathered, spelled, groups_room ps h.1)

-- A run has at most two items for each word.
pub edifact_room : (words after : List ℕ) (items : List Item) → IsEdifactRun words after items
    → length items ≤ 2 * length words
edifact_room words after items r =
    grind (arith, byte_items-length, edifact_byte, length-map, length-append, groups_room, nat_tests, few_left)
