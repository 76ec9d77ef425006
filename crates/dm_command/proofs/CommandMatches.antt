-- Where clap finds no fault in the words of a subcommand, the border's text among its matches is a limit's.
use Rattle.std.proofs.Common.{◌≡◌, ◌∙◌, ◌⊎◌, inl, inr, ℕ, ℤ, Bool, true, false, cond, true≢false, refl, sym, ap, subst}
use Rattle.std.proofs.Common.{List, [], ◌∷◌, ◌++◌, Option, Some, None, length, pos, negsuc, codes, arith}
use Rattle.std.proofs.lemmas.Slice.Eq.{bytes_eq-Decides}
use Rattle.std.specs.Prelude.{◌||◌, find, fold, option_map, option_and_then, slice_get, unwrap_or}
use Rattle.std.specs.List.{list_all}
use Rattle.std.specs.Str.{bytes_eq}
use Rattle.std.specs.Str.Parse.{signed_digits_value}
use Rattle.std.proofs.lemmas.Int.{ints}
use Rattle.clap.specs.Values.{IsSignedIn, read_as, refused_kind}
use Rattle.clap.specs.ValueTests.{accepts}
use Rattle.clap.specs.Kinds.{or_else, range_kinds, value_kinds, values_kinds}
use Rattle.clap.specs.Faults.{level_fault, repeat_fault, settle_fault, use_fault, values_fault, walk_fault}
use Rattle.clap.specs.Simple.{Shape, filled, help_rule}
use Rattle.clap.specs.Walk.{Row, Rule, Text, at_row, first_of, has_row, more_values, nothing_held, one_of, row_text}
use Rattle.clap.specs.Walk.{rows_after, used, values_or_missing, walk, walk_from, with_default, with_values, without}
use Rattle.clap.specs.declared.builder.value_parser.Reading.{Reading}
use Rattle.clap.specs.declared.builder.value_parser.Reading.TheVariants as reading
use Rattle.clap.specs.declared.builder.value_parser.ValueParser.{ValueParser}
use Rattle.clap.specs.declared.builder.value_parser.ValueParser.TheVariants as vp
use Rattle.clap.specs.declared.error.kind.ErrorKind.{ErrorKind}
use Rattle.clap.specs.declared.error.kind.ErrorKind.TheVariants as kind
use Rattle.clap.specs.declared.parser.matches.ValueSource.{ValueSource}
use Rattle.clap.specs.declared.parser.matches.ValueSource.TheVariants.{CommandLine, DefaultValue}
use Rattle.clap.proofs.WalkLemmas.{both}
use Rattle.clap.proofs.ValueTestLemmas.{accepts-Accepts}
use Rattle.dm_command.specs.CommandLine.{IsBorderLimit, border_rule, shorter_rule}
use Rattle.dm_command.specs.inner.CommandReads.{IsReadable}
use Rattle.dm_command.proofs.CommandWalks.{first_none, later_none, settle_keeps, walk_keeps}

-- A text of which a parser reports no fault is taken.
taken_by : (b : Bool) (k : ErrorKind) → cond b [] (k ∷ []) ≡ [] → b ≡ true
taken_by true k e = refl
taken_by false k e = (cc)

-- A word that equals one text doesn't equal a different one.
apart_from : (x other id : Text) → bytes_eq other id ≡ false → bytes_eq x other ≡ true → bytes_eq x id ≡ true → ⊥
apart_from x other id apart is same =
    let e : x ≡ other = (bytes_eq-Decides x other).0 is in
    true≢false (sym (subst (λ (t : Text). bytes_eq t id ≡ true) e same) ∙ apart)

-- A choice between two lists of rows that are the same is good if they are.
either : (P : List Row → Type 0) (b : Bool) (rows : List Row) → P rows → P (cond b rows rows)
either P true rows good = good
either P false rows good = good

-- ---- the rows of one argument, with its parser

module _ (id : Text) (how : Reading) (parser : ValueParser) where
  -- The texts of the row are such as the parser takes, and are read in this way.
  abbrev pub Passes : Row → Type 0
  Passes r = (r.reading ≡ how) × (list_all (accepts false parser) r.values ≡ true)

  -- Each row of the argument passes.
  abbrev pub Good : List Row → Type 0
  Good [] = Unit {0}
  Good (r ∷ rs) = (bytes_eq r.id id ≡ true → Passes r) × Good rs

  good_append : (xs ys : List Row) → Good xs → Good ys → Good (xs ++ ys)
  good_append [] ys a b = b
  good_append (x ∷ xs) ys a b = (a.0, good_append xs ys a.1 b)

  all_append : (xs ys : List Text) → list_all (accepts false parser) xs ≡ true →
      list_all (accepts false parser) ys ≡ true
      → list_all (accepts false parser) (xs ++ ys) ≡ true
  all_append [] ys a b = b
  all_append (x ∷ xs) ys a b =
      let parts = both (accepts false parser x) (list_all (accepts false parser) xs) a in
      rw parts.0 (all_append xs ys parts.1 b)

  -- Rows stay good when the first row of an argument is changed into good ones.
  good_at : (other : Text) (change : Row → List Row) (missing : List Row) →
      ((r : Row) → bytes_eq r.id other ≡ true → (bytes_eq r.id id ≡ true → Passes r) → Good (change r))
      → Good missing → (rows : List Row) → Good rows → Good (at_row other change missing rows)
  good_at other change missing keeps last [] good = last
  good_at other change missing keeps last (r ∷ rs) good =
      go (bytes_eq r.id other) refl (good_at other change missing keeps last rs good.1)
    where
      go : (b : Bool) → bytes_eq r.id other ≡ b → Good (at_row other change missing rs) →
          Good (cond b (change r ++ rs) (r ∷ at_row other change missing rs))
      go true e later = good_append (change r) rs (keeps r e good.0) good.1
      go false e later = (good.0, later)

  -- Rows stay good when those of an argument are removed.
  good_without : (other : Text) (rows : List Row) → Good rows → Good (without other rows)
  good_without other rows good = good_at other (λ r. []) [] (λ r is passes. tt) tt rows good

  -- Rows stay good when the argument gets more texts that its parser takes.
  own_more : (s : ValueSource) (vs : List Text) (rows : List Row) → list_all (accepts false parser) vs ≡ true →
      Good rows → Good (with_values id how s vs rows)
  own_more s vs rows taken good =
      let new : Row = record { id = id; values = vs; count = None; source = Some s; reading = how } in
      good_at id (more_values s vs) (new ∷ []) (λ r is passes.
      (λ same. ((passes is).0, all_append r.values vs (passes is).1 taken), tt)) (λ same. (refl, taken), tt) rows
      good

  -- Rows stay good when another argument gets more texts.
  other_more : (other : Text) (other_how : Reading) → bytes_eq other id ≡ false →
      (s : ValueSource) (vs : List Text) (rows : List Row) → Good rows
      → Good (with_values other other_how s vs rows)
  other_more other other_how apart s vs rows good =
      let new : Row = record { id = other; values = vs; count = None; source = Some s; reading = other_how } in
      good_at other (more_values s vs) (new ∷ [])
      (λ r is passes. (λ same. absurd (apart_from r.id other id apart is same), tt))
      (λ same. absurd (true≢false (sym same ∙ apart)), tt) rows good

  -- Texts in which the parser finds no fault are taken.
  all_taken : (vs : List Text) → values_kinds false parser vs ≡ [] → list_all (accepts false parser) vs ≡ true
  all_taken [] e = refl
  all_taken (v ∷ vs) e =
      let first =
      taken_by (accepts false parser v) (refused_kind parser) (first_none _ (values_kinds false parser vs) e) in
      rw first (all_taken vs (later_none (value_kinds false parser v) (values_kinds false parser vs) e))

  -- Rows stay good when the argument is used with texts that have no fault.
  own_use : (vs : List Text) (rows : List Row) → values_kinds false parser vs ≡ [] → Good rows →
      Good (with_values id how CommandLine vs (without id rows))
  own_use vs rows e good = own_more CommandLine vs (without id rows) (all_taken vs e) (good_without id rows good)

  -- Rows stay good when another argument is used.
  other_use : (other : Text) (other_how : Reading) → bytes_eq other id ≡ false → (vs : List Text) (rows : List Row) →
      Good rows
      → Good (with_values other other_how CommandLine vs (without other rows))
  other_use other other_how apart vs rows good =
      other_more other other_how apart CommandLine vs (without other rows) (good_without other rows good)

  -- Each use of this argument that has no fault keeps the rows good.
  abbrev pub KeepsOne : Bool → Rule → Type 0
  KeepsOne again a = (values : List Text) (rows : List Row) → use_fault again a values rows ≡ [] → Good rows →
      Good (used a values rows)

  -- Each use of one of these arguments that has no fault keeps the rows good.
  abbrev pub Keeps : Bool → List Rule → Type 0
  Keeps again c = (p : Rule → Bool) (a : Rule) → find p c ≡ Some a → KeepsOne again a

  nil_keeps : (again : Bool) → Keeps again []
  nil_keeps again p a is values rows e good = (cc)

  cons_keeps : (again : Bool) (x : Rule) (c : List Rule) → KeepsOne again x → Keeps again c → Keeps again (x ∷ c)
  cons_keeps again x c first rest p a is values rows e good = go (p x) is
    where
      go : (b : Bool) → cond b (Some x) (find p c) ≡ Some a → Good (used a values rows)
      go true is =
          let same : x ≡ a = ap (λ o. unwrap_or o x) is in
          subst (λ (y : Rule). use_fault again y values rows ≡ [] → Good rows →
          Good (used y values rows)) same (first values rows) e good
      go false is = rest p a is values rows e good

  -- The defaults of these arguments keep the rows good.
  abbrev pub KeepsDefaults : List Rule → Type 0
  KeepsDefaults c = (rows : List Row) → Good rows → Good (fold with_default rows c)

  -- Words in which the subcommand finds no fault leave good rows.
  abbrev pub Sound : Shape → Type 0
  Sound s = (words : List Text) → level_fault s [] nothing_held words false [] ≡ [] → Good (rows_after s.rules [] words)

  sound : (s : Shape) → Keeps s.args_override_self s.rules → KeepsDefaults s.rules → Sound s
  sound s keeps defaults words e =
      let end = (walk s.rules [] nothing_held words).held in
      let walked = first_none (walk_fault s [] (walk_from nothing_held) words) _ e in
      let settle =
      first_none (settle_fault s.rules s.args_override_self end) _
      (later_none (walk_fault s [] (walk_from nothing_held) words) _ e) in
      defaults _ (settle_keeps s.rules s.args_override_self Good keeps end settle
      (walk_keeps s.rules s.args_override_self Good keeps s [] refl refl (walk_from nothing_held) words walked tt))

  -- The row that is found for the argument passes.
  found_passes : (rows : List Row) → Good rows → (r : Row) → find (λ r. bytes_eq r.id id) rows ≡ Some r → Passes r
  found_passes [] good r is = (cc)
  found_passes (x ∷ xs) good r is = go (bytes_eq x.id id) refl is (found_passes xs good.1 r)
    where
      go : (b : Bool) → bytes_eq x.id id ≡ b → cond b (Some x) (find (λ r. bytes_eq r.id id) xs) ≡ Some r
          → (find (λ r. bytes_eq r.id id) xs ≡ Some r → Passes r) → Passes r
      go true e is later = subst Passes (ap (λ o. unwrap_or o x) is) (good.0 e)
      go false e is later = later is

  -- The argument's first text among good rows is taken by the parser, and is read in this way.
  first_taken : (rows : List Row) → Good rows → (text : Text) → first_of id rows ≡ Some text →
      (one_of id rows ≡ Some (read_as how text)) × (accepts false parser text ≡ true)
  first_taken rows good text = go (find (λ r. bytes_eq r.id id) rows) refl
    where
      first : (found : Reading) (vs : List Text) → found ≡ how → list_all (accepts false parser) vs ≡ true →
          slice_get vs 0 ≡ Some text
          → (option_map (read_as found) (slice_get vs 0) ≡ Some (read_as how text)) × (accepts false parser text ≡ true)
      first found [] is taken e = (cc)
      first found (v ∷ vs) is taken e =
          let same : v ≡ text = ap (λ o. unwrap_or o v) e in
          let as_written : Some (read_as found v) ≡ Some (read_as how text) = rw (is, same) refl in
          (as_written, subst (λ (t : Text). accepts false parser t ≡ true) same (both _ _ taken).0)

      go : (o : Option Row) → find (λ r. bytes_eq r.id id) rows ≡ o →
          option_and_then (λ r. slice_get r.values 0) o ≡ Some text
          → (option_and_then row_text o ≡ Some (read_as how text)) × (accepts false parser text ≡ true)
      go None is e = (cc)
      go (Some r) is e =
          let passes = found_passes rows good r is in
          first r.reading r.values passes.0 passes.1 e

-- ---- the arguments of the subcommands

-- The parser of the border takes numbers of 0 to 65535.
abbrev border_parser : ValueParser
border_parser = vp.Signed (pos 0) (pos 65535)

-- Each row of the border passes.
abbrev GoodBorder : List Row → Type 0
GoodBorder = Good (codes "border") reading.WithoutMinus border_parser

-- Each row of the flag passes.
abbrev GoodFlag : List Row → Type 0
GoodFlag = Good (codes "shorter") reading.AsWritten vp.Bool

-- The option `--border` as clap completes it.
abbrev pub border : Rule
border = filled border_rule

-- The flag `--shorter` as clap completes it.
abbrev pub flag : Rule
flag = filled shorter_rule

-- The flag for help as clap completes it.
abbrev pub help : Rule
help = filled help_rule

-- A use of the option that has no fault has texts without a fault.
border_values : (again : Bool) (values : List Text) (rows : List Row) → use_fault again border values rows ≡ [] →
    values_kinds false border_parser (values_or_missing border values) ≡ []
border_values again values rows e =
    let vs = values_or_missing border values in
    later_none (repeat_fault again (codes "border") rows) (values_fault border vs)
    (later_none (range_kinds 1 1 (length values))
    (or_else (repeat_fault again (codes "border") rows) (values_fault border vs)) e)

-- A use of the flag that has no fault has texts without a fault.
flag_values : (again : Bool) (values : List Text) (rows : List Row) → use_fault again flag values rows ≡ [] →
    values_kinds false vp.Bool (values_or_missing flag values) ≡ []
flag_values again values rows e =
    let vs = values_or_missing flag values in
    later_none (repeat_fault again (codes "shorter") rows) (values_fault flag vs)
    (later_none (range_kinds 0 0 (length values))
    (or_else (repeat_fault again (codes "shorter") rows) (values_fault flag vs)) e)

-- Each use of help has a fault.
help_none : (again : Bool) (values : List Text) (rows : List Row) → use_fault again help values rows ≡ [] → ⊥
help_none again values rows e =
    let none : kind.DisplayHelp ∷ [] ≡ [] = later_none (range_kinds 0 0 (length values)) (kind.DisplayHelp ∷ []) e in
    (cc)

-- Each use of the option that has no fault keeps its own rows good.
border_keeps_border : (again : Bool) → KeepsOne (codes "border") reading.WithoutMinus border_parser again border
border_keeps_border again values rows e good =
    own_use (codes "border") reading.WithoutMinus border_parser (values_or_missing border values) rows
    (border_values again values rows e) good

-- Each use of the flag keeps the rows of the option good.
flag_keeps_border : (again : Bool) → KeepsOne (codes "border") reading.WithoutMinus border_parser again flag
flag_keeps_border again values rows e good =
    other_use (codes "border") reading.WithoutMinus border_parser (codes "shorter") reading.AsWritten refl
    (values_or_missing flag values) rows good

-- No use of help is without a fault, so each keeps the rows of the option good.
help_keeps_border : (again : Bool) → KeepsOne (codes "border") reading.WithoutMinus border_parser again help
help_keeps_border again values rows e good = absurd (help_none again values rows e)

-- Each use of the option keeps the rows of the flag good.
border_keeps_flag : (again : Bool) → KeepsOne (codes "shorter") reading.AsWritten vp.Bool again border
border_keeps_flag again values rows e good =
    other_use (codes "shorter") reading.AsWritten vp.Bool (codes "border") reading.WithoutMinus refl
    (values_or_missing border values) rows good

-- Each use of the flag that has no fault keeps its own rows good.
flag_keeps_flag : (again : Bool) → KeepsOne (codes "shorter") reading.AsWritten vp.Bool again flag
flag_keeps_flag again values rows e good =
    own_use (codes "shorter") reading.AsWritten vp.Bool (values_or_missing flag values) rows
    (flag_values again values rows e) good

-- No use of help is without a fault, so each keeps the rows of the flag good.
help_keeps_flag : (again : Bool) → KeepsOne (codes "shorter") reading.AsWritten vp.Bool again help
help_keeps_flag again values rows e good = absurd (help_none again values rows e)

-- The default of the flag keeps the rows of the option good.
flag_default_border : (rows : List Row) → GoodBorder rows → GoodBorder (with_default rows flag)
flag_default_border rows good = go (has_row (codes "shorter") rows)
  where
    go : (b : Bool) →
        GoodBorder (cond b rows (with_values (codes "shorter") reading.AsWritten DefaultValue (codes "false" ∷ [])
        rows))
    go true = good
    go false =
        other_more (codes "border") reading.WithoutMinus border_parser (codes "shorter") reading.AsWritten refl
        DefaultValue (codes "false" ∷ []) rows good

-- The default of the flag keeps its own rows good.
flag_default_flag : (rows : List Row) → GoodFlag rows → GoodFlag (with_default rows flag)
flag_default_flag rows good = go (has_row (codes "shorter") rows)
  where
    go : (b : Bool) →
        GoodFlag (cond b rows (with_values (codes "shorter") reading.AsWritten DefaultValue (codes "false" ∷ []) rows))
    go true = good
    go false = own_more (codes "shorter") reading.AsWritten vp.Bool DefaultValue (codes "false" ∷ []) rows refl good

-- What holds of the rows still holds after the default of an argument that has none.
module _ (P : List Row → Type 0) where
  border_default : (rows : List Row) → P rows → P (with_default rows border)
  border_default rows good = either P (has_row (codes "border") rows) rows good

  help_default : (rows : List Row) → P rows → P (with_default rows help)
  help_default rows good = either P (has_row (codes "help") rows) rows good

-- Words in which the subcommand finds no fault leave rows that are good for the option and for the flag.
abbrev pub IsSound : Shape → Type 0
IsSound s =
    Sound (codes "border") reading.WithoutMinus border_parser s × Sound (codes "shorter") reading.AsWritten vp.Bool s

-- The subcommand has these arguments.
abbrev pub Ruled : Shape → List Rule → Type 0
Ruled s c = s.rules ≡ c

-- A subcommand is sound if uses and defaults of its arguments keep the rows good for the option and for the flag.
ruled_sound : (s : Shape) (c : List Rule) → Ruled s c
    → ((again : Bool) → Keeps (codes "border") reading.WithoutMinus border_parser again c) →
    KeepsDefaults (codes "border") reading.WithoutMinus border_parser c
    → ((again : Bool) → Keeps (codes "shorter") reading.AsWritten vp.Bool again c) →
    KeepsDefaults (codes "shorter") reading.AsWritten vp.Bool c → IsSound s
ruled_sound s c is keeps_border border_defaults keeps_flag flag_defaults = (
  sound (codes "border") reading.WithoutMinus border_parser s
      (subst (Keeps (codes "border") reading.WithoutMinus border_parser s.args_override_self) (sym is)
      (keeps_border s.args_override_self))
      (subst (KeepsDefaults (codes "border") reading.WithoutMinus border_parser) (sym is) border_defaults),
  sound (codes "shorter") reading.AsWritten vp.Bool s
      (subst (Keeps (codes "shorter") reading.AsWritten vp.Bool s.args_override_self) (sym is)
      (keeps_flag s.args_override_self))
      (subst (KeepsDefaults (codes "shorter") reading.AsWritten vp.Bool) (sym is) flag_defaults),
)

-- Where help is the only argument, its uses keep the rows of the option good.
help_alone_border : (again : Bool) → Keeps (codes "border") reading.WithoutMinus border_parser again (help ∷ [])
help_alone_border again =
    cons_keeps (codes "border") reading.WithoutMinus border_parser again help [] (help_keeps_border again)
    (nil_keeps (codes "border") reading.WithoutMinus border_parser again)

-- Where help is the only argument, its uses keep the rows of the flag good.
help_alone_flag : (again : Bool) → Keeps (codes "shorter") reading.AsWritten vp.Bool again (help ∷ [])
help_alone_flag again =
    cons_keeps (codes "shorter") reading.AsWritten vp.Bool again help [] (help_keeps_flag again)
    (nil_keeps (codes "shorter") reading.AsWritten vp.Bool again)

-- Where the flag and help are the only arguments, their uses keep the rows of the option good.
flag_alone_border : (again : Bool) → Keeps (codes "border") reading.WithoutMinus border_parser again (flag ∷ help ∷ [])
flag_alone_border again =
    cons_keeps (codes "border") reading.WithoutMinus border_parser again flag (help ∷ []) (flag_keeps_border again)
    (help_alone_border again)

-- Where the flag and help are the only arguments, their uses keep the rows of the flag good.
flag_alone_flag : (again : Bool) → Keeps (codes "shorter") reading.AsWritten vp.Bool again (flag ∷ help ∷ [])
flag_alone_flag again =
    cons_keeps (codes "shorter") reading.AsWritten vp.Bool again flag (help ∷ []) (flag_keeps_flag again)
    (help_alone_flag again)

-- A subcommand with neither the option nor the flag is sound.
pub plain_sound : (s : Shape) → Ruled s (help ∷ []) → IsSound s
plain_sound s is = ruled_sound s (help ∷ []) is help_alone_border (λ rows good. help_default GoodBorder rows good)
    help_alone_flag (λ rows good. help_default GoodFlag rows good)

-- A subcommand with only the option is sound.
pub bordered_sound : (s : Shape) → Ruled s (border ∷ help ∷ []) → IsSound s
bordered_sound s is =
    ruled_sound s (border ∷ help ∷ []) is
    (λ again. cons_keeps (codes "border") reading.WithoutMinus border_parser again border (help ∷ [])
    (border_keeps_border again) (help_alone_border again))
    (λ rows good. help_default GoodBorder (with_default rows border) (border_default GoodBorder rows good))
    (λ again. cons_keeps (codes "shorter") reading.AsWritten vp.Bool again border (help ∷ []) (border_keeps_flag again)
    (help_alone_flag again))
    (λ rows good. help_default GoodFlag (with_default rows border) (border_default GoodFlag rows good))

-- A subcommand with only the flag is sound.
pub flagged_sound : (s : Shape) → Ruled s (flag ∷ help ∷ []) → IsSound s
flagged_sound s is =
    ruled_sound s (flag ∷ help ∷ []) is
    flag_alone_border (λ rows good. help_default GoodBorder (with_default rows flag) (flag_default_border rows good))
    flag_alone_flag (λ rows good. help_default GoodFlag (with_default rows flag) (flag_default_flag rows good))

-- A subcommand with both the option and the flag is sound.
pub both_sound : (s : Shape) → Ruled s (border ∷ flag ∷ help ∷ []) → IsSound s
both_sound s is =
    ruled_sound s (border ∷ flag ∷ help ∷ []) is
    (λ again. cons_keeps (codes "border") reading.WithoutMinus border_parser again border (flag ∷ help ∷ [])
    (border_keeps_border again) (flag_alone_border again))
    (λ rows good. help_default GoodBorder (with_default (with_default rows border) flag)
    (flag_default_border (with_default rows border) (border_default GoodBorder rows good)))
    (λ again. cons_keeps (codes "shorter") reading.AsWritten vp.Bool again border (flag ∷ help ∷ [])
    (border_keeps_flag again) (flag_alone_flag again))
    (λ rows good. help_default GoodFlag (with_default (with_default rows border) flag)
    (flag_default_flag (with_default rows border) (border_default GoodFlag rows good)))

-- ---- what is readable

-- A text that the border's parser takes writes a limit.
limit_of : (text : Text) → accepts false border_parser text ≡ true → (n : ℕ) × IsBorderLimit text n
limit_of text e = go (signed_digits_value 10 text) refl
  where
    passed : IsSignedIn (pos 0) (pos 65535) text
    passed = accepts-Accepts false border_parser text e

    go : (z : ℤ) → signed_digits_value 10 text ≡ z → (n : ℕ) × IsBorderLimit text n
    go (pos n) is =
        let high = rw is at passed.3 in
        (n, (passed.0, is, omega (arith, ints)))
    go (negsuc n) is =
        let low = rw is at passed.2 in
        absurd (omega (arith, ints))

-- A text that the flag's parser takes is `true` or `false`.
flag_text : (text : Text) → accepts false vp.Bool text ≡ true → (text ≡ codes "true") ⊎ (text ≡ codes "false")
flag_text text e = go (bytes_eq text (codes "true")) refl e
  where
    go : (b : Bool) → bytes_eq text (codes "true") ≡ b → (b || bytes_eq text (codes "false")) ≡ true →
        (text ≡ codes "true") ⊎ (text ≡ codes "false")
    go true is e = inl ((bytes_eq-Decides text (codes "true")).0 is)
    go false is e = inr ((bytes_eq-Decides text (codes "false")).0 e)

-- Rows that are good for the option and for the flag can be read.
pub readable : (rows : List Row) → GoodBorder rows → GoodFlag rows → IsReadable rows
readable rows border_good flag_good = record {
  limit = λ text is.
      let t = first_taken (codes "border") reading.WithoutMinus border_parser rows border_good text is in
      (t.0, limit_of text t.1);
  flag = λ text is.
      let t = first_taken (codes "shorter") reading.AsWritten vp.Bool rows flag_good text is in
      (t.0, flag_text text t.1);
}
