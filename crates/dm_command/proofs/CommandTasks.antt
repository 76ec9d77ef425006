-- Words in which clap finds no fault name a subcommand with readable matches, and it is a task.
use Rattle.std.proofs.Common.{◌≡◌, ◌&&◌, Bool, true, false, not, cond, refl, sym, ap, subst, List, [], ◌∷◌, Option}
use Rattle.std.proofs.Common.{Some, None, is_some, true≢false}
use Rattle.std.specs.Prelude.{find, option_map, unwrap_or}
use Rattle.std.specs.List.{list_any}
use Rattle.std.specs.Option.{option_map_or}
use Rattle.clap.specs.Walk.{Row, Text, Held, Names, answers_to, nothing_held, finished, rows_after, settled, walk}
use Rattle.clap.specs.Walk.{walk_from}
use Rattle.clap.specs.Simple.{App, Shape, argument_words, built, entered, label_of, names_of, rows_at, subcommand_of}
use Rattle.clap.specs.Kinds.{Kinds, check_kinds, or_else}
use Rattle.clap.specs.Faults.{check_fault, defaults_fault, entered_fault, fault_of, level_fault, settle_fault}
use Rattle.clap.specs.Faults.{walk_fault}
use Rattle.clap.specs.Facts.{explicit_source}
use Rattle.clap.specs.Takes.{is_given}
use Rattle.dm_command.specs.CommandLine.{IsTaskOf, dm_app}
use Rattle.dm_command.specs.inner.CommandReads.{IsReadable}
use Rattle.dm_text.specs.declared.Task.{Task}
use Rattle.dm_text.specs.declared.Task.TheVariants.{Read, Check, Normal, Write, Table}
use Rattle.dm_command.proofs.CommandWalks.{first_none, later_none}
use Rattle.dm_command.proofs.CommandNames.{limit_given, profile_given}
use Rattle.dm_command.proofs.CommandMatches.{IsSound, bordered_sound, both_sound, flagged_sound, plain_sound, readable}

-- Two values in equal options are equal.
pub unwrapped : (x y : Text × List Row) → Some x ≡ Some y → x ≡ y
unwrapped x y e = ap (λ o. unwrap_or o x) e

-- Where a subcommand is required and the last checks find no fault, there is one.
wanted : (help has rest required : Bool) → required ≡ true → check_kinds help (not has && required) rest ≡ [] →
    has ≡ true
wanted true has rest required r e = (cc)
wanted false true rest required r e = refl
wanted false false rest true r e = (cc)
wanted false false rest false r e = (cc)

-- The subcommand is a task by any matches that can be read, and words without a fault leave good ones.
abbrev Known : Shape → Type 0
Known s = ((rows : List Row) → IsReadable rows → (t : Task) × IsTaskOf s.name rows t) × IsSound s

-- Each of these subcommands is a task and leaves good matches.
abbrev AllKnown : List Shape → Type 0
AllKnown [] = Unit {0}
AllKnown (s ∷ rest) = Known s × AllKnown rest

-- There is a subcommand, its matches can be read, and it is a task.
abbrev pub IsThere : Option (Text × List Row) → Type 0
IsThere o =
    (found : Text × List Row) × (o ≡ Some found) × IsReadable found.1 × ((t : Task) × IsTaskOf found.0 found.1 t)

-- A subcommand that is found among known ones is known.
found_known : (p : Shape → Bool) (xs : List Shape) → AllKnown xs → (s : Shape) → find p xs ≡ Some s → Known s
found_known p [] known s is = (cc)
found_known p (x ∷ xs) known s is = go (p x) is (found_known p xs known.1 s)
  where
    go : (b : Bool) → cond b (Some x) (find p xs) ≡ Some s → (find p xs ≡ Some s → Known s) → Known s
    go true is later = subst Known (ap (λ o. unwrap_or o x) is) known.0
    go false is later = later is

-- Where the words come to a subcommand, all subcommands are known and
-- there is no fault, it is a task with matches that can be read.
entered_there : (a : App) (stop : Option (Text × List Text)) → AllKnown a.subs → is_some (entered a stop) ≡ true →
    entered_fault a stop ≡ [] → IsThere (entered a stop)
entered_there a None known has e = absurd (true≢false (sym has))
entered_there a (Some q) known has e = go (find (λ s. answers_to q.0 (label_of s)) a.subs) refl has e
  where
    go : (o : Option Shape) → find (λ s. answers_to q.0 (label_of s)) a.subs ≡ o →
        is_some (option_map (λ s. rows_at s q.1) o) ≡ true
        → option_map_or (λ s. level_fault s [] nothing_held q.1 false []) o [] ≡ [] →
        IsThere (option_map (λ s. rows_at s q.1) o)
    go None is has e = absurd (true≢false (sym has))
    go (Some s) is has e =
        let known_s = found_known (λ s. answers_to q.0 (label_of s)) a.subs known s is in
        let read = readable (rows_after s.rules [] q.1) (known_s.1.0 q.1 e) (known_s.1.1 q.1 e) in
        (rows_at s q.1, refl, read, known_s.0 (rows_after s.rules [] q.1) read)

-- Each of the five subcommands is a task and leaves good matches.
all_known : AllKnown (built dm_app).subs
all_known = (
  (λ rows r. let l = limit_given rows r in (Read l.0, (refl, l.1)), bordered_sound _ refl),
  (
    (λ rows r. let l = limit_given rows r in (Check l.0, (refl, l.1)), bordered_sound _ refl),
    (
      (
        λ rows r. let l = limit_given rows r in let p = profile_given rows in
            (Normal l.0 p.0, (refl, l.1, p.1)),
        both_sound _ refl,
      ),
      (
        (λ rows r. let p = profile_given rows in (Write p.0, (refl, p.1)), flagged_sound _ refl),
        ((λ rows r. (Table, refl), plain_sound _ refl), tt),
      ),
    ),
  ),
)

-- Where a subcommand is required and a level has no fault, there is a subcommand, and its level has no fault.
level_checked : (s : Shape) (names : Names) (h : Held) (ws : List Text) (has : Bool) (below : Kinds)
    → s.subcommand_required ≡ true → level_fault s names h ws has below ≡ [] → (has ≡ true) × (below ≡ [])
level_checked s names h ws has below required e =
    let end = (walk s.rules names h ws).held in
    let check = check_fault s (finished s.rules end) has in
    let defaults = or_else (defaults_fault (settled s.rules end).rows s.rules) check in
    let settle = or_else (settle_fault s.rules s.args_override_self end) defaults in
    let one : or_else below settle ≡ [] = later_none (walk_fault s names (walk_from h) ws) (or_else below settle) e in
    let two : settle ≡ [] = later_none below settle one in
    let three : defaults ≡ [] = later_none (settle_fault s.rules s.args_override_self end) defaults two in
    let four : check ≡ [] = later_none (defaults_fault (settled s.rules end).rows s.rules) check three in (
      wanted (not has && (s.arg_required_else_help
          && not (list_any (λ r. explicit_source r.source) (finished s.rules end)))) has
          (not (s.subcommand_negates_reqs && has)
          && list_any (λ a. a.required && not (is_given a.id (finished s.rules end))) s.rules)
          s.subcommand_required required four,
      first_none below settle one,
    )

-- Words in which clap finds no fault name a subcommand that is a task, with matches that can be read.
pub subcommand_there : (words : List Text) → fault_of dm_app words ≡ [] → IsThere (subcommand_of dm_app words)
subcommand_there words e =
    let b = built dm_app in
    let stop = (walk b.top.rules (names_of b) nothing_held (argument_words dm_app words)).stopped in
    let level =
    level_checked b.top (names_of b) nothing_held (argument_words dm_app words) (is_some (entered b stop))
    (entered_fault b stop) refl e in
    entered_there b stop all_known level.0 level.1
