-- A run that the scan finds is a run of the definition.
use Rattle.dm_words.proofs.Names.{◌≡◌, ◌≢◌, ℕ, suc, ◌+◌, ◌*◌, ◌<◌, ◌≤◌, List, [], ◌∷◌, ◌++◌, length, take, drop, refl}
use Rattle.dm_words.proofs.Names.{sym, ap, subst, ◌∙◌, append_assoc, arith, Option, Some, None, zero-add, inl, inr}
use Rattle.dm_words.proofs.Names.{AllByRecursion, take_at, drop_at, length-append, CodeSet, PairsEnd, Extent, Usual}
use Rattle.dm_words.proofs.Names.{Wide, Item, WordFault, codeword_of, Piece, spelled, gathered, whats, AreJoined}
use Rattle.dm_words.proofs.Names.{IsSpelling, IsPair, IsRunEnd, unlatch, Bool, true, false, ◌⊎◌}
use Rattle.dm_words.proofs.Names.{symbol_end, last_word, IsRun, Step, Takes, Stops, Walked, flat, first_pair}
use Rattle.dm_words.proofs.Names.{first_spelling, run_fault, end_length, run_unless, pairs_in, items_in}
use Rattle.dm_words.specs.declared.codeword.Codeword.TheVariants as codeword
use Rattle.dm_words.specs.declared.c40.pair.PairsEnd.TheVariants as stop
use Rattle.dm_words.specs.declared.c40.value.Rest.{Rest}
use Rattle.dm_words.specs.declared.c40.value.Rest.TheVariants as left
use Rattle.dm_words.specs.declared.fault.WordFault.TheVariants as fault
use Rattle.dm_words.specs.RunFaults.{StopsPairs, run_end, bad_pair, OpenRun, pair_place, IsRunFault, value}
use Rattle.dm_words.specs.RunFaults.{upper_shift, triplet, unfinished}
use Rattle.dm_words.specs.inner.Scan.Prefixes.{run_behind}
use Rattle.dm_words.proofs.Walks.{Walks, walks, walk-joined}
use Rattle.dm_words.proofs.Values.{ItemRight, Anything, AreSmall, IsRestOf, IsDropped, item_sound, rest_sound}
use Rattle.dm_words.proofs.Values.{item_complete, rest_complete}
use Rattle.dm_words.proofs.Pairs.{IsBytes, PairRight, IsStop, over, one_left, unlatched, bad, pair_sound, stop_sound}
use Rattle.dm_words.proofs.Pairs.{pair_complete, stop_complete}

module _ {B : Type 0} where
  -- The lists that the pieces stand for are joined in two ways, with the same result.
  pub flat-whats : (ps : List (Piece (List B))) → flat (whats ps) ≡ gathered ps
  flat-whats [] = refl
  flat-whats (p ∷ ps) = ap (λ (r : List B). p.what ++ r) (flat-whats ps)

module _ {A : Type 0} (R : List ℕ → A → Type 0) where
  -- Pieces that are right where they stand are right by themselves, if their place and what follows don't matter.
  each_right : (place : ℕ) (ps : List (Piece A)) (after : List ℕ)
      → AreJoined (λ place words after a. R words a) place ps after → AllByRecursion (λ p. R p.words p.what) ps
  each_right place [] after h = tt
  each_right place (p ∷ ps) after h = (h.0, each_right (place + length p.words) ps after h.1)

  -- Pieces that are right by themselves are right where they stand.
  joined_right : (place : ℕ) (ps : List (Piece A)) (after : List ℕ) → AllByRecursion (λ p. R p.words p.what) ps
      → AreJoined (λ place words after a. R words a) place ps after
  joined_right place [] after h = tt
  joined_right place (p ∷ ps) after h = (h.0, joined_right (place + length p.words) ps after h.1)

-- ---- what is found is right

-- A run has no fault only where its rest is dropped and no bad pair follows.
no_fault : (extent : Extent) (set : CodeSet) (rest : List ℕ) (place n values : ℕ) (t : PairsEnd) (k : Rest)
    → IsRestOf set rest k → run_fault extent place n t values k ≡ None
    → IsDropped extent set rest × (t ≢ stop.BadPair)
no_fault extent set rest place n values t (left.Meaningless i) r e = absurd cc
no_fault extent set rest place n values t left.WrongUpperShift r e = absurd cc
no_fault extent set rest place n values stop.BadPair left.Waiting r e = absurd cc
no_fault Usual set rest place n values stop.SymbolEnd left.Waiting r e = absurd cc
no_fault Usual set rest place n values stop.Unlatch left.Waiting r e = absurd cc
no_fault Wide set rest place n values stop.SymbolEnd left.Waiting r e = (inr (refl, r), λ h. cc)
no_fault Wide set rest place n values stop.Unlatch left.Waiting r e = (inr (refl, r), λ h. cc)
no_fault extent set rest place n values stop.BadPair left.Complete r e = absurd cc
no_fault extent set rest place n values stop.SymbolEnd left.Complete r e = (inl r, λ h. cc)
no_fault extent set rest place n values stop.Unlatch left.Complete r e = (inl r, λ h. cc)

-- The pairs stop before a bad one.
abbrev is_bad : PairsEnd → Bool
is_bad stop.BadPair = true
is_bad stop.SymbolEnd = false
is_bad stop.Unlatch = false

-- The pairs stop where they end or before a bad one.
stops_pairs : (words : List ℕ) (t : PairsEnd) → IsStop words t → StopsPairs (is_bad t) words
stops_pairs words t (over e is) = rw is (run_end [] [] refl (symbol_end refl refl) e)
stops_pairs words t (one_left w ne e is) = rw is (run_end [] (w ∷ []) refl (last_word w ne refl refl) e)
stops_pairs words t (unlatched more e is) = rw is (run_end (254 ∷ []) more refl (unlatch refl) e)
stops_pairs words t (bad v w more ne h e is) = rw is (bad_pair v w more refl ne h e)

-- The fault that is found is the one that is there.
fault_is : (extent : Extent) (set : CodeSet) (place : ℕ) (words : List ℕ) (run : OpenRun set words) (t : PairsEnd)
    (k : Rest) (f : WordFault) → IsRestOf set run.rest k → run.bad ≡ is_bad t
    → run_fault extent place (length (spelled run.pairs)) t (length (spelled run.spellings)) k ≡ Some f
    → IsRunFault extent set place words run f
fault_is extent set place words run t (left.Meaningless i) f r s e = value i r cc
fault_is extent set place words run t left.WrongUpperShift f r s e = upper_shift r cc
fault_is extent set place words run stop.BadPair left.Waiting f r s e = triplet (inr r) s cc
fault_is extent set place words run stop.BadPair left.Complete f r s e = triplet (inl r) s cc
fault_is Usual set place words run stop.SymbolEnd left.Waiting f r s e = unfinished refl r s cc
fault_is Usual set place words run stop.Unlatch left.Waiting f r s e = unfinished refl r s cc
fault_is Wide set place words run stop.SymbolEnd left.Waiting f r s e = absurd cc
fault_is Wide set place words run stop.Unlatch left.Waiting f r s e = absurd cc
fault_is extent set place words run stop.SymbolEnd left.Complete f r s e = absurd cc
fault_is extent set place words run stop.Unlatch left.Complete f r s e = absurd cc

-- The back of a list of values below 40 is such a list.
run_values-right : (a b : List ℕ) → AreSmall (a ++ b) → AreSmall b
run_values-right [] b h = h
run_values-right (v ∷ a) b h = run_values-right a b h.1

-- Two lists of values below 40, joined, are such a list.
run_values-append : (a b : List ℕ) → AreSmall a → AreSmall b → AreSmall (a ++ b)
run_values-append [] b ha hb = hb
run_values-append (v ∷ a) b ha hb = (ha.0, run_values-append a b ha.1 hb)

-- The values of pairs are below 40.
pairs_run_values : (ps : List (Piece (List ℕ))) → AllByRecursion (λ p. IsPair p.words p.what) ps
    → AreSmall (gathered ps)
pairs_run_values [] h = tt
pairs_run_values (p ∷ ps) h =
    let one : AreSmall p.what = rw h.0.values_are (h.0.first_small, (h.0.second_small, (h.0.third_small, tt))) in
    run_values-append p.what (gathered ps) one (pairs_run_values ps h.1)

-- The first n codewords are a run, by what follows them.
pub record RunTakes (extent : Extent) (set : CodeSet) (words : List ℕ) (n : ℕ) (items : List Item) : Type 0 where
  pub right : IsRun extent set (take n words) (drop n words) items
  pub some : 0 < n
  pub within : n ≤ length words

-- The words from a latch on are an open run with this fault.
abbrev pub FaultyRun : Extent → CodeSet → ℕ → List ℕ → WordFault → Type 0
FaultyRun extent set place words f = (run : OpenRun set words) × IsRunFault extent set place words run f

-- What is found behind a latch is a run, or a faulty run with the fault that is found.
abbrev pub RunJudged : Extent → CodeSet → ℕ → List ℕ → Step (List Item) (Option WordFault) → Type 0
RunJudged extent set place words (Takes n items) = RunTakes extent set words n items
RunJudged extent set place words (Stops None) = ⊥
RunJudged extent set place words (Stops (Some f)) = FaultyRun extent set place words f

-- A list that is a prefix and a rest is cut behind the prefix.
pub cut_behind_prefix : (words prefix back : List ℕ) (n : ℕ) → words ≡ prefix ++ back → n ≡ length prefix
    → (take n words ≡ prefix) × (drop n words ≡ back) × (n ≤ length words)
cut_behind_prefix words prefix back n e len =
    rw e (
      take_at prefix back n (sym len),
      drop_at prefix back n (sym len),
      omega (arith, len, length-append prefix back),
    )

module _ (extent : Extent) (set : CodeSet) (place w : ℕ) (is_latch : codeword_of w
    ≡ Some (codeword.Latch set)) (words : List ℕ) (pw : Walked (List ℕ) PairsEnd)
    (p : Walks first_pair PairRight IsBytes 0 words pw)
    (vw : Walked Item Rest) (v : Walks (first_spelling set) (ItemRight set) Anything 0 (flat pw.taken) vw) where
  -- The values of the pairs are the values of the spellings and a rest.
  joined_values : gathered p.pieces ≡ spelled v.pieces ++ v.after
  joined_values = sym (flat-whats p.pieces) ∙ sym (ap flat p.taken) ∙ v.whole

  -- Each piece that was taken from the values is a spelling.
  spellings_right : AllByRecursion (λ p. IsSpelling set p.words p.what) v.pieces
  spellings_right = each_right (IsSpelling set) 0 v.pieces v.after v.joined

  -- Each piece that was taken from the codewords is a pair.
  pairs_right : AllByRecursion (λ p. IsPair p.words p.what) p.pieces
  pairs_right = each_right IsPair 0 p.pieces p.after p.joined

  -- The rest is of the kind that was found.
  rest_is : IsRestOf set v.after vw.why
  rest_is =
      rest_sound set vw.place v.after vw.why
      (run_values-right (spelled v.pieces) v.after
      (subst AreSmall joined_values (pairs_run_values p.pieces pairs_right))) v.stopped

  -- The pairs stop as was found.
  stop_is : IsStop p.after pw.why
  stop_is = stop_sound pw.place p.after pw.why p.fits p.stopped

  -- With this end, the run that is found is a run.
  run_taken : (end more : List ℕ) (n : ℕ) → p.after ≡ end ++ more → IsRunEnd end more → IsDropped extent set v.after
      → n ≡ 1 + length (spelled p.pieces) + length end → RunTakes extent set (w ∷ words) n vw.taken
  run_taken end more n e ended dropped len =
      let prefix : List ℕ = w ∷ (spelled p.pieces ++ end) in
      let whole : w ∷ words ≡ prefix
      ++ more =
      ap (λ (r : List ℕ). w ∷ r) (p.whole ∙ ap (λ (r : List ℕ). spelled p.pieces ++ r) e
      ∙ sym (append_assoc (spelled p.pieces) end more)) in
      let c = cut_behind_prefix _ prefix more n whole (omega (arith, len, length-append (spelled p.pieces) end)) in
      let run : IsRun extent set prefix more vw.taken =
      record {
        latch = w;
        is_latch = is_latch;
        pairs = p.pieces;
        each = pairs_right;
        end = end;
        ended =
            ended;
        whole = refl;
        spellings = v.pieces;
        each_spelling = spellings_right;
        filler = v.after;
        dropped = dropped;
        values = joined_values;
        items_are = v.taken;
      } in
      record { right = rw (c.0, c.1) run; some = omega (arith, len); within = c.2 }

  -- However the pairs end without a bad one, the run that is found is a run.
  taken_by : (t : PairsEnd) (tw : List ℕ) → p.after ≡ tw → IsStop tw t → t ≢ stop.BadPair
      → IsDropped extent set v.after → RunTakes extent set (w ∷ words) (1 + pw.place + end_length t) vw.taken
  taken_by t tw e (over h is) good dropped =
      rw is (run_taken [] p.after (1 + pw.place + 0) refl (symbol_end refl (e ∙ h)) dropped (omega (arith, p.place_is)))
  taken_by t tw e (one_left x ne h is) good dropped =
      rw is (run_taken [] p.after (1 + pw.place + 0) refl (last_word x ne refl (e ∙ h)) dropped
      (omega (arith, p.place_is)))
  taken_by t tw e (unlatched more h is) good dropped =
      rw is (run_taken (254 ∷ []) more (1 + pw.place + 1) (e ∙ h) (unlatch refl) dropped (omega (arith, p.place_is)))
  taken_by t tw e (bad x y more ne b h is) good dropped = absurd (good is)

  -- Without a fault it is a run, and with a fault a faulty run.
  judged_by : (f : Option WordFault) → run_fault extent place pw.place pw.why vw.place vw.why ≡ f
      → RunJudged extent set place (w ∷ words) (run_unless f (1 + pw.place + end_length pw.why) vw.taken)
  judged_by None e = let h =
      no_fault extent set v.after place pw.place vw.place pw.why vw.why rest_is e in taken_by pw.why p.after refl
      stop_is h.1 h.0
  judged_by (Some f) e =
      let a : pw.place ≡ length (spelled p.pieces) = omega (arith, p.place_is) in
      let b : vw.place ≡ length (spelled v.pieces) = omega (arith, v.place_is) in
      let same : run_fault extent place (length (spelled p.pieces)) pw.why (length (spelled v.pieces)) vw.why
      ≡ Some f = rw (← a, ← b) e in
      let run : OpenRun set (w ∷ words) =
      record {
        latch = w;
        is_latch = is_latch;
        pairs = p.pieces;
        each = pairs_right;
        others = p.after;
        bad = is_bad pw.why;
        stopped = stops_pairs p.after pw.why stop_is;
        whole = ap (λ (r : List ℕ). w ∷ r) p.whole;
        spellings = v.pieces;
        each_spelling = spellings_right;
        rest = v.after;
        values = joined_values;
      } in
      (run, fault_is extent set place _ run pw.why vw.why f rest_is refl same)

-- A run that is found is a run, and a faulty one is faulty.
pub run_judged : (extent : Extent) (set : CodeSet) (place w : ℕ) (words : List ℕ) → codeword_of w
    ≡ Some (codeword.Latch set) → IsBytes words
    → RunJudged extent set place (w ∷ words) (run_behind extent set place words)
unfolding run_behind
run_judged extent set place w words is_latch fit =
    judged_by extent set place w is_latch words (pairs_in words)
    (walks first_pair PairRight IsBytes stop.SymbolEnd pair_sound (suc (length words)) 0 words (omega arith) fit)
    (items_in set (flat (pairs_in words).taken))
    (walks (first_spelling set) (ItemRight set) Anything left.Complete (item_sound set)
    (suc (length (flat (pairs_in words).taken))) 0 (flat (pairs_in words).taken) (omega arith) tt)
    (run_fault extent place (pairs_in words).place (pairs_in words).why
    (items_in set (flat (pairs_in words).taken)).place (items_in set (flat (pairs_in words).taken)).why) refl

-- ---- what is right is found

-- The pairs and the spellings that stand behind a latch are found there.
run_again : (extent : Extent) (set : CodeSet) (place : ℕ) (pairs : List (Piece (List ℕ))) (others : List ℕ)
    (t : PairsEnd) (spellings : List (Piece Item)) (rest : List ℕ) (kind : Rest)
    → AllByRecursion (λ p. IsPair p.words p.what) pairs → IsStop others t
    → AllByRecursion (λ p. IsSpelling set p.words p.what) spellings → IsRestOf set rest kind → gathered pairs
    ≡ spelled spellings ++ rest
    → run_behind extent set place (spelled pairs ++ others)
    ≡ run_unless (run_fault extent place (length (spelled pairs)) t (length (spelled spellings)) kind)
    (1 + length (spelled pairs) + end_length t) (whats spellings)
unfolding run_behind
run_again extent set place pairs others t spellings rest kind each stop_right each_spelling rest_right whole =
    let p : pairs_in (spelled pairs ++ others)
    ≡ record { taken = whats pairs; place = length (spelled pairs); why = t } =
    walk-joined first_pair PairRight IsBytes stop.SymbolEnd pair_complete (suc (length (spelled pairs ++ others))) 0
    pairs others t (joined_right IsPair 0 pairs others each)
    (stop_complete (0 + length (spelled pairs)) others t stop_right) (omega arith)
    ∙ ap (λ (k : ℕ). record { taken = whats pairs; place = k; why = t }) (zero-add (length (spelled pairs))) in
    let v : items_in set (spelled spellings ++ rest)
    ≡ record { taken = whats spellings; place = length (spelled spellings); why = kind } =
    walk-joined (first_spelling set) (ItemRight set) Anything left.Complete (item_complete set)
    (suc (length (spelled spellings ++ rest))) 0 spellings rest kind
    (joined_right (IsSpelling set) 0 spellings rest each_spelling)
    (rest_complete set (0 + length (spelled spellings)) rest kind rest_right) (omega arith)
    ∙ ap (λ (k : ℕ). record { taken = whats spellings; place = k; why = kind })
    (zero-add (length (spelled spellings))) in
    let values : flat (whats pairs) ≡ spelled spellings ++ rest = flat-whats pairs ∙ whole in
    rw (p, values, v) refl

-- The words begin with the latch of a run, and this is found behind it.
pub record RunFound (extent : Extent) (set : CodeSet) (place : ℕ) (words : List ℕ)
    (step : Step (List Item) (Option WordFault)) : Type 0 where
  pub latch : ℕ
  pub others : List ℕ
  pub whole : words ≡ latch ∷ others
  pub is_latch : codeword_of latch ≡ Some (codeword.Latch set)
  pub found : run_behind extent set place others ≡ step

-- The pairs stop at the end of a run, and not before a bad pair.
end_found : (end after : List ℕ) → IsRunEnd end after
    → (t : PairsEnd) × IsStop (end ++ after) t × (end_length t ≡ length end) × (t ≢ stop.BadPair)
end_found end after (unlatch e) = (stop.Unlatch, rw e (unlatched after refl refl), rw e refl, λ h. cc)
end_found end after (symbol_end e h) = (stop.SymbolEnd, rw (e, h) (over refl refl), rw e refl, λ h2. cc)
end_found end after (last_word w ne e h) = (stop.SymbolEnd, rw (e, h) (one_left w ne refl refl), rw e refl, λ h2. cc)

-- What is dropped at the end of a run is a rest, which is no fault where no bad pair follows.
record DroppedFound (extent : Extent) (set : CodeSet) (place n values : ℕ) (rest : List ℕ) (t : PairsEnd) : Type 0 where
  kind : Rest
  left_so : IsRestOf set rest kind
  no_fault_there : run_fault extent place n t values kind ≡ None

-- What is dropped is found.
dropped_found : (extent : Extent) (set : CodeSet) (place n values : ℕ) (rest : List ℕ) (t : PairsEnd)
    → IsDropped extent set rest → t ≢ stop.BadPair → DroppedFound extent set place n values rest t
dropped_found extent set place n values rest stop.Unlatch (inl f) ne =
    record { kind = left.Complete; left_so = f; no_fault_there = refl }
dropped_found extent set place n values rest stop.SymbolEnd (inl f) ne =
    record { kind = left.Complete; left_so = f; no_fault_there = refl }
dropped_found extent set place n values rest stop.Unlatch (inr w) ne =
    record { kind = left.Waiting; left_so = w.1; no_fault_there = rw w.0 refl }
dropped_found extent set place n values rest stop.SymbolEnd (inr w) ne =
    record { kind = left.Waiting; left_so = w.1; no_fault_there = rw w.0 refl }
dropped_found extent set place n values rest stop.BadPair d ne = absurd (ne refl)

-- A run that is a prefix is found.
pub run_complete : (extent : Extent) (set : CodeSet) (place : ℕ) (words after : List ℕ) (items : List Item)
    → IsRun extent set words after items
    → RunFound extent set place (words ++ after) (Takes (length words) items) × (0 < length words)
run_complete extent set place words after items r =
    let t = end_found r.end after r.ended in
    let d = dropped_found extent set place (length (spelled r.pairs)) (length (spelled r.spellings))
    r.filler t.0 r.dropped t.3 in
    let again = run_again extent set place r.pairs _ _ r.spellings r.filler d.kind r.each t.1
    r.each_spelling d.left_so r.values in
    let len : 1 + length (spelled r.pairs) + end_length t.0
    ≡ length words = omega (arith, t.2, ap length r.whole, length-append (spelled r.pairs) r.end) in
    let none_there = d.no_fault_there in (
      record {
        latch = r.latch;
        others = spelled r.pairs ++ (r.end ++ after);
        whole = cc (r.whole, append_assoc (spelled r.pairs) r.end after);
        is_latch = r.is_latch;
        found = again ∙ rw (none_there, len, r.items_are) refl;
      },
      omega (arith, len),
    )

-- A fault of a run tells how its pairs end and what the rest of its values is.
record FaultFound (extent : Extent) (set : CodeSet) (place : ℕ) (words : List ℕ) (run : OpenRun set words)
    (f : WordFault) : Type 0 where
  end : PairsEnd
  kind : Rest
  stops : IsStop run.others end
  left_so : IsRestOf set run.rest kind
  found :
      run_fault extent place (length (spelled run.pairs)) end (length (spelled run.spellings)) kind ≡ Some f

-- Where the pairs stop otherwise, no bad pair follows.
no_bad : (t : PairsEnd) → t ≢ stop.BadPair → is_bad t ≡ false
no_bad stop.BadPair ne = absurd (ne refl)
no_bad stop.SymbolEnd ne = refl
no_bad stop.Unlatch ne = refl

-- The pairs stop in one of the ways that the scan knows.
stop_of : (is : Bool) (words : List ℕ) → StopsPairs is words → (t : PairsEnd) × IsStop words t × (is_bad t ≡ is)
stop_of is words (run_end end after is_not ended whole) =
    (let f = end_found end after ended in (f.0, rw whole f.1, no_bad f.0 f.3 ∙ sym is_not))
stop_of is words (bad_pair high low more so ne h whole) = (stop.BadPair, bad high low more ne h whole refl, sym so)

-- The pairs of an open run stop in one of these ways.
stop_in : (set : CodeSet) (words : List ℕ) (run : OpenRun set words)
    → (t : PairsEnd) × IsStop run.others t × (is_bad t ≡ run.bad)
stop_in set words run = stop_of run.bad run.others run.stopped

-- A bad pair is the fault where the rest is dropped.
fault_triplet : (extent : Extent) (place n values : ℕ) (t : PairsEnd) (k : Rest)
    → (k ≡ left.Complete) ⊎ (k ≡ left.Waiting) → is_bad t ≡ true
    → run_fault extent place n t values k ≡ Some (fault.Triplet (place + 1 + n))
fault_triplet extent place n values stop.BadPair k (inl is) b = rw is refl
fault_triplet extent place n values stop.BadPair k (inr is) b = rw is refl
fault_triplet extent place n values stop.SymbolEnd k is b = absurd cc
fault_triplet extent place n values stop.Unlatch k is b = absurd cc

-- An Upper Shift that waits is the fault in the usual extent, where no bad pair follows.
fault_unfinished : (extent : Extent) (place n values : ℕ) (t : PairsEnd) → extent ≡ Usual → is_bad t ≡ false
    → run_fault extent place n t values left.Waiting ≡ Some (fault.Unfinished (pair_place place (values + 1)))
fault_unfinished extent place n values stop.BadPair h1 h2 = absurd cc
fault_unfinished extent place n values stop.SymbolEnd h1 h2 = rw h1 refl
fault_unfinished extent place n values stop.Unlatch h1 h2 = rw h1 refl

-- The fault that is there tells how the pairs stop and what the rest is.
fault_found : (extent : Extent) (set : CodeSet) (place : ℕ) (words : List ℕ) (run : OpenRun set words) (f : WordFault)
    → IsRunFault extent set place words run f → FaultFound extent set place words run f
fault_found extent set place words run f (value index b is) =
    let t = stop_in set words run in
    record { end = t.0; kind = left.Meaningless index; stops = t.1; left_so = b; found = ap Some (sym is) }
fault_found extent set place words run f (upper_shift b is) =
    let t = stop_in set words run in
    record { end = t.0; kind = left.WrongUpperShift; stops = t.1; left_so = b; found = ap Some (sym is) }
fault_found extent set place words run f (triplet (inl r) b is) =
    let t = stop_in set words run in
    record {
      end = t.0;
      kind = left.Complete;
      stops = t.1;
      left_so = r;
      found = fault_triplet extent place (length (spelled run.pairs)) (length (spelled run.spellings)) t.0
          left.Complete (inl refl) (t.2 ∙ b) ∙ ap Some (sym is);
    }
fault_found extent set place words run f (triplet (inr r) b is) =
    let t = stop_in set words run in
    record {
      end = t.0;
      kind = left.Waiting;
      stops = t.1;
      left_so = r;
      found = fault_triplet extent place (length (spelled run.pairs)) (length (spelled run.spellings)) t.0
          left.Waiting (inr refl) (t.2 ∙ b) ∙ ap Some (sym is);
    }
fault_found extent set place words run f (unfinished usual r b is) =
    let t = stop_in set words run in
    record {
      end = t.0;
      kind = left.Waiting;
      stops = t.1;
      left_so = r;
      found = fault_unfinished extent place (length (spelled run.pairs)) (length (spelled run.spellings)) t.0
          usual (t.2 ∙ b) ∙ ap Some (sym is);
    }

-- A faulty run that is a prefix is found.
pub fault_complete : (extent : Extent) (set : CodeSet) (place : ℕ) (words : List ℕ) (f : WordFault)
    (r : OpenRun set words) → IsRunFault extent set place words r f → RunFound extent set place words (Stops (Some f))
fault_complete extent set place words f r is =
    let g = fault_found extent set place words r f is in
    record {
      latch = r.latch;
      others = spelled r.pairs ++ r.others;
      whole = r.whole;
      is_latch = r.is_latch;
      found = run_again extent set place r.pairs r.others g.end r.spellings r.rest g.kind r.each g.stops
          r.each_spelling g.left_so r.values ∙ rw g.found refl;
    }

-- ---- how many items a run has

-- Two codewords have three values.
pub pairs_room : (ps : List (Piece (List ℕ))) → AllByRecursion (λ p. IsPair p.words p.what) ps
    → 2 * length (gathered ps) ≡ 3 * length (spelled ps)
pairs_room [] h = refl
pairs_room (p ∷ ps) h =
    let one = pair_room p.words p.what h.0 in
    omega (arith, one, pairs_room ps h.1, length-append p.what (gathered ps), length-append p.words (spelled ps)) where
      pair_room : (words values : List ℕ) → IsPair words values → 2 * length values ≡ 3 * length words
      pair_room words values p = rw (p.words_are, p.values_are) refl

-- Each spelling has a value.
items_room : (set : CodeSet) (ps : List (Piece Item)) → AllByRecursion (λ p. IsSpelling set p.words p.what) ps
    → length (whats ps) ≤ length (spelled ps)
items_room set [] h = omega arith
items_room set (p ∷ ps) h = grind (arith, item_complete, length-append, items_room set ps h.1)

-- A run has at most two items for each word.
pub run_room : (extent : Extent) (set : CodeSet) (words after : List ℕ) (items : List Item)
    → IsRun extent set words after items → length items ≤ 2 * length words
run_room extent set words after items r =
    omega (
      arith,
      ap length r.items_are,
      items_room set r.spellings r.each_spelling,
      ap length r.values,
      length-append (spelled r.spellings) r.filler,
      pairs_room r.pairs r.each,
      ap length r.whole,
      length-append (spelled r.pairs) r.end,
    )
