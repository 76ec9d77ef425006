-- What holds of the matches before a walk over words, and is kept by each use of an argument that has no fault, holds
-- after the walk.
use Rattle.std.proofs.Common.{◌≡◌, ◌&&◌, not, ℕ, Bool, true, false, zero, suc, cond, refl, subst, List, [], ◌∷◌, Option}
use Rattle.std.proofs.Common.{Some, None, is_some, length}
use Rattle.std.specs.Prelude.{find, fold}
use Rattle.std.specs.Prelude.{encode_utf8, drop, slice_get}
use Rattle.std.specs.Option.{option_map_or}
use Rattle.std.specs.Str.{bytes_eq, chars}
use Rattle.clap.specs.Lexer.{long_of, short_of}
use Rattle.clap.specs.Kinds.{Kinds, or_else}
use Rattle.clap.specs.Faults.{bundle_step_fault, bundle_fault, flag_word_fault, flags_fault, long_fault, option_fault}
use Rattle.clap.specs.Faults.{other_fault, positional_fault, react_fault, settle_fault, short_fault, step_fault}
use Rattle.clap.specs.Faults.{stray_fault, turn_fault, use_fault, walk_fault, word_fault}
use Rattle.clap.specs.Simple.{Shape}
use Rattle.clap.specs.declared.error.kind.ErrorKind.TheVariants as kind
use Rattle.clap.specs.Walk.{Held, Names, Outcome, Row, Rule, Step, Text, Waiting, Walk, done, waits, plain, refused}
use Rattle.clap.specs.Walk.{idle, option, positional, next, trailing, subcommand, value, after_flag, after_step}
use Rattle.clap.specs.Walk.{arg_by_id, arg_by_index, arg_by_long, arg_by_short, attached_value, bundle, bundle_met}
use Rattle.clap.specs.Walk.{bundle_step, flag_met, is_pending, long_met, long_or_other, option_met, option_word}
use Rattle.clap.specs.Walk.{has_long, has_short, plain_word, pushed, reacted, settled, settled_rows, short_met}
use Rattle.clap.specs.Walk.{short_or_plain, subcommand_met, subcommand_or_other, takes_several, takes_values}
use Rattle.clap.specs.Walk.{to_positional, used, used_by_id, walked, walked_from, word_met}

-- Where two steps together have no fault, the first has none.
pub first_none : (a b : Kinds) → or_else a b ≡ [] → a ≡ []
first_none [] b e = refl
first_none (k ∷ ks) b e = (cc)

-- Where two steps together have no fault, the second has none.
pub later_none : (a b : Kinds) → or_else a b ≡ [] → b ≡ []
later_none [] b e = e
later_none (k ∷ ks) b e = (cc)

module _ (c : List Rule) (again : Bool) (Good : List Row → Type 0)
    (keeps : (p : Rule → Bool) (a : Rule) → find p c ≡ Some a → (values : List Text) (rows : List Row) →
    use_fault again a values rows ≡ [] → Good rows → Good (used a values rows)) where
  settle_rows : (p : Option (Text × List Text)) (rows : List Row)
      → option_map_or (λ q. option_map_or (λ a. use_fault again a q.1 rows) (arg_by_id c q.0) []) p [] ≡ [] →
      Good rows → Good (settled_rows c p rows)
  settle_rows None rows e good = good
  settle_rows (Some q) rows e good = go (arg_by_id c q.0) refl e
    where
      go : (o : Option Rule) → arg_by_id c q.0 ≡ o → option_map_or (λ a. use_fault again a q.1 rows) o [] ≡ [] →
          Good (used_by_id o q.1 rows)
      go None is e = good
      go (Some a) is e = keeps (λ a. bytes_eq a.id q.0) a is q.1 rows e good

  -- Using the pending argument keeps the rows good.
  pub settle_keeps : (h : Held) → settle_fault c again h ≡ [] → Good h.rows → Good (settled c h).rows
  settle_keeps h e good = settle_rows h.pending h.rows e good

  react_keeps : (p : Rule → Bool) (a : Rule) → find p c ≡ Some a → (values : List Text) (h : Held) →
      react_fault c again a values h ≡ [] → Good h.rows
      → Good (reacted c a values h).rows
  react_keeps p a is values h e good =
      keeps p a is values (settled c h).rows (later_none (settle_fault c again h) _ e)
      (settle_keeps h (first_none (settle_fault c again h) _ e) good)

  option_keeps : (p : Rule → Bool) (a : Rule) → find p c ≡ Some a → (v : Option Text) (h : Held) →
      option_fault c again a v h ≡ [] → Good h.rows
      → Good (option_met c a v h).0.rows
  option_keeps p a is (Some v) h e good = react_keeps p a is (v ∷ []) h e good
  option_keeps p a is None h e good = settle_keeps h e good

  -- A word `--name` or `--name=value` keeps the rows good.
  long_keeps : (p : Rule → Bool) (o : Option Rule) → find p c ≡ o → (v : Option Text) (h : Held) →
      long_fault c again o v h ≡ [] → Good h.rows
      → Good (long_met c o v h).0.rows
  long_keeps p None is v h e good = good
  long_keeps p (Some a) is v h e good = go (takes_values a) v e
    where
      go : (b : Bool) (v : Option Text) → cond b (option_fault c again a v h)
          (cond (is_some v) (kind.TooManyValues ∷ []) (react_fault c again a [] h)) ≡ []
          → Good (cond b (option_met c a v h) (flag_met c a v h)).0.rows
      go true v e = option_keeps p a is v h e good
      go false (Some v) e = good
      go false None e = react_keeps p a is [] h e good

  -- A flag of a bundle, with the rest of the bundle after it, keeps the rows good.
  short_keeps : (p : Rule → Bool) (o : Option Rule) → find p c ≡ o →
      (rest : Text) (h : Held) (fault : Held → Kinds) (met : Held → Held × Outcome)
      → ((g : Held) → fault g ≡ [] → Good g.rows → Good (met g).0.rows)
      → short_fault c again o rest h fault ≡ [] → Good h.rows → Good (short_met c o rest h met).0.rows
  short_keeps p None is rest h fault met later e good = good
  short_keeps p (Some a) is rest h fault met later e good = go (takes_values a) e
    where
      go : (b : Bool) → cond b (option_fault c again a (attached_value rest) h)
          (or_else (react_fault c again a [] h) (fault (reacted c a [] h))) ≡ []
          → Good (cond b (option_met c a (attached_value rest) h) (met (reacted c a [] h))).0.rows
      go true e = option_keeps p a is (attached_value rest) h e good
      go false e = later (reacted c a [] h) (later_none (react_fault c again a [] h) _ e)
          (react_keeps p a is [] h (first_none (react_fault c again a [] h) _ e) good)

  -- The flags of a bundle keep the rows good.
  flags_keep : (k : ℕ) (flags : Text) (skip : ℕ) (so_far : Outcome) (h : Held) →
      flags_fault c again k flags skip h ≡ [] → Good h.rows
      → Good (bundle_met c k flags skip so_far h).0.rows
  unfolding flags_fault bundle_met
  flags_keep zero flags skip so_far h e good = good
  flags_keep (suc k) flags skip so_far h e good = go (flags_keep k) (slice_get (chars flags) 0) skip e
    where
      go : ((rest : Text) (n : ℕ) (o : Outcome) (g : Held) → flags_fault c again k rest n g ≡ [] → Good g.rows →
          Good (bundle_met c k rest n o g).0.rows)
          → (x : Option ℕ) (skip : ℕ) → bundle_step_fault c again x flags skip h (flags_fault c again k) ≡ []
          → Good (bundle_step c x flags skip so_far h (bundle_met c k)).0.rows
      go later None skip e = good
      go later (Some x) zero e =
          short_keeps (λ a. not (is_some a.index) && has_short a x) (arg_by_short c x) refl
          (drop (length (encode_utf8 x)) flags) h
          (flags_fault c again k (drop (length (encode_utf8 x)) flags) 0)
          (bundle_met c k (drop (length (encode_utf8 x)) flags) 0 done)
          (λ g. later (drop (length (encode_utf8 x)) flags) 0 done g) e good
      go later (Some x) (suc n) e = later (drop (length (encode_utf8 x)) flags) n so_far h e good

  -- A word that is no flag keeps the rows good.
  plain_rows : (waiting : Waiting) (word : Text) (h : Held) → Good h.rows → Good (plain_word c waiting word h).0.rows
  plain_rows idle word h good = good
  plain_rows positional word h good = good
  plain_rows (option id) word h good = go (arg_by_id c id)
    where
      go : (o : Option Rule) → Good (option_word o id word h).0.rows
      go None = good
      go (Some a) = good

  after_flag_rows : (waiting : Waiting) (word : Text) (h : Held) (o : Outcome) → Good h.rows →
      Good (after_flag c waiting word h o).0.rows
  after_flag_rows waiting word h done good = good
  after_flag_rows waiting word h (waits id) good = good
  after_flag_rows waiting word h plain good = plain_rows waiting word h good
  after_flag_rows waiting word h refused good = plain_rows waiting word h good

  flag_word_keeps : (waiting : Waiting) (word : Text) (o : Option (Text × Option Text)) (h : Held) →
      flag_word_fault c again o word h ≡ [] → Good h.rows
      → Good (long_or_other c waiting word o h).0.rows
  flag_word_keeps waiting word (Some q) h e good =
      after_flag_rows waiting word (long_met c (arg_by_long c q.0) q.1 h).0 (long_met c (arg_by_long c q.0) q.1 h).1
      (long_keeps (λ a. not (is_some a.index) && has_long a q.0) (arg_by_long c q.0) refl q.1 h e good)
  flag_word_keeps waiting word None h e good = go (short_of word) e
    where
      go : (o : Option Text) → option_map_or (λ flags. bundle_fault c again flags h) o [] ≡ [] →
          Good (short_or_plain c waiting word o h).0.rows
      go None e = plain_rows waiting word h good
      go (Some flags) e = after_flag_rows waiting word (bundle c flags h).0 (bundle c flags h).1
          (flags_keep (length flags) flags h.skip plain (record h { skip = 0 }) e good)

  -- Whatever a word is, before it goes to a positional, it keeps the rows good.
  word_keeps : (s : Shape) (names : Names) → s.rules ≡ c → s.args_override_self ≡ again →
      (is_trailing : Bool) (waiting : Waiting) (position : ℕ) (word : Text) (h : Held)
      → word_fault s names is_trailing waiting word h ≡ [] → Good h.rows →
      Good (word_met c names is_trailing waiting position word h).0.rows
  word_keeps s names rules over true waiting position word h e good = good
  word_keeps s names rules over false waiting position word h e good = go (subcommand_met names waiting word) e
    where
      flag : (b : Bool) → cond b [] (flag_word_fault s.rules s.args_override_self (long_of word) word h) ≡ []
          → Good (cond b (h, trailing position) (long_or_other c waiting word (long_of word) h)).0.rows
      flag true e = good
      flag false e = flag_word_keeps waiting word (long_of word) h (rw (rules, over) at e) good

      go : (o : Option Text) → other_fault s o word h ≡ [] →
          Good (subcommand_or_other c o waiting position word h).0.rows
      go (Some name) e = good
      go None e = flag (bytes_eq word (45 ∷ 45 ∷ [])) e

  -- The step that is made of a word keeps the rows good.
  step_keeps : (s : Shape) → s.rules ≡ c → s.args_override_self ≡ again →
      (w : Walk) (word : Text) (h : Held) (step : Step)
      → step_fault s w.position h step ≡ [] → Good h.rows → Good (after_step c word w h step).held.rows
  step_keeps s rules over w word h (next waiting) e good = good
  step_keeps s rules over w word h (trailing position) e good = good
  step_keeps s rules over w word h (subcommand name) e good = good
  step_keeps s rules over w word h value e good = go (arg_by_index c w.position) (rw (rules, over) at e)
    where
      held : (a : Rule) (b : Bool) → cond b [] (settle_fault c again h) ≡ [] →
          Good (pushed a.id word (cond b h (settled c h))).rows
      held a true e = good
      held a false e = settle_keeps h e good

      go : (o : Option Rule) → option_map_or (λ a. positional_fault c again a h) o (stray_fault s) ≡ [] →
          Good (to_positional c o word w h).held.rows
      go None e = good
      go (Some a) e = held a (is_pending a h.pending && takes_several a) e

  turn_keeps : (s : Shape) (names : Names) → s.rules ≡ c → s.args_override_self ≡ again → (w : Walk) (word : Text)
      → turn_fault s names w word ≡ [] → Good w.held.rows → Good (walked c names w word).held.rows
  unfolding walked
  turn_keeps s names rules over w word e good = go w.stopped e
    where
      go : (o : Option (Text × List Text)) → cond (is_some o) []
          (or_else (word_fault s names w.is_trailing w.waiting word w.held)
          (step_fault s w.position (word_met s.rules names w.is_trailing w.waiting w.position word w.held).0
          (word_met s.rules names w.is_trailing w.waiting w.position word w.held).1)) ≡ []
          → Good (walked_from c names o w word).held.rows
      go (Some q) e = good
      go None e =
          let met = word_met c names w.is_trailing w.waiting w.position word w.held in
          step_keeps s rules over w word met.0 met.1
          (subst (λ (r : List Rule). step_fault s w.position
          (word_met r names w.is_trailing w.waiting w.position word w.held).0
          (word_met r names w.is_trailing w.waiting w.position word w.held).1 ≡ []) rules
          (later_none (word_fault s names w.is_trailing w.waiting word w.held) _ e))
          (word_keeps s names rules over w.is_trailing w.waiting w.position word w.held
          (first_none (word_fault s names w.is_trailing w.waiting word w.held) _ e) good)

  -- The walk over all words keeps the rows good.
  pub walk_keeps : (s : Shape) (names : Names) → s.rules ≡ c → s.args_override_self ≡ again →
      (w : Walk) (words : List Text)
      → walk_fault s names w words ≡ [] → Good w.held.rows → Good (fold (walked c names) w words).held.rows
  unfolding walk_fault
  walk_keeps s names rules over w [] e good = good
  walk_keeps s names rules over w (word ∷ rest) e good =
      walk_keeps s names rules over (walked c names w word) rest
      (rw rules at (later_none (turn_fault s names w word) _ e))
      (turn_keeps s names rules over w word (first_none (turn_fault s names w word) _ e) good)
