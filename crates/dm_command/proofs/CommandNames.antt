-- A subcommand with readable matches is at most one task.
use Rattle.std.proofs.Common.{◌≡◌, ◌∙◌, ℕ, Bool, true, false, refl, sym, ap, List, Option, Some, None, pos, slice_index}
use Rattle.std.proofs.Common.{codes, arith}
use Rattle.std.specs.Prelude.{unwrap_or}
use Rattle.std.specs.Str.{bytes_eq}
use Rattle.std.proofs.lemmas.Bool.Decides.{not_from_Decides}
use Rattle.std.proofs.lemmas.Slice.Eq.{bytes_eq-Decides}
use Rattle.std.specs.Str.Parse.{signed_digits_value}
use Rattle.std.proofs.lemmas.Int.{ints}
use Rattle.clap.specs.Walk.{Row, Text, first_of}
use Rattle.dm_command.specs.CommandLine.{GivesLimit, GivesProfile, IsTaskOf}
use Rattle.dm_command.specs.inner.CommandReads.{HasNoTask, IsReadable}
use Rattle.dm_text.specs.declared.Profile.{Profile}
use Rattle.dm_text.specs.declared.Profile.TheVariants.{Ascii, Shorter}
use Rattle.dm_text.specs.declared.Task.{Task}
use Rattle.dm_text.specs.declared.Task.TheVariants.{Read, Check, Normal, Write, Table}

-- Matches that can be read give a limit or none.
pub limit_given : (rows : List Row) → IsReadable rows → (limit : Option ℕ) × GivesLimit rows limit
limit_given rows readable = go (first_of (codes "border") rows) refl
  where
    go : (o : Option Text) → first_of (codes "border") rows ≡ o → (limit : Option ℕ) × GivesLimit rows limit
    go None is = (None, is)
    go (Some text) is =
        let number = (readable.limit text is).1 in
        (Some number.0, (text, is, number.1))

-- Matches always choose a profile.
pub profile_given : (rows : List Row) → (profile : Profile) × GivesProfile rows profile
profile_given rows = go (first_of (codes "shorter") rows) refl
  where
    by_text : (text : Text) (b : Bool) → bytes_eq text (codes "true") ≡ b →
        first_of (codes "shorter") rows ≡ Some text → (profile : Profile) × GivesProfile rows profile
    by_text text true e is = (Shorter, is ∙ ap Some ((bytes_eq-Decides text (codes "true")).0 e))
    by_text text false e is = (
      Ascii,
      λ given. not_from_Decides (bytes_eq text (codes "true")) (bytes_eq-Decides text (codes "true")) e
          (ap (λ o. unwrap_or o text) (sym is ∙ given)),
    )

    go : (o : Option Text) → first_of (codes "shorter") rows ≡ o → (profile : Profile) × GivesProfile rows profile
    go None is = (Ascii, λ given. let no : None ≡ Some (codes "true") = sym is ∙ given in cc)
    go (Some text) is = by_text text (bytes_eq text (codes "true")) refl is

-- A subcommand whose name is none of the five is no task.
pub no_task : (name : Text) (rows : List Row) (t : Task) → IsTaskOf name rows t → HasNoTask name → ⊥
no_task name rows (Read limit) is none = none.read is.0
no_task name rows (Check limit) is none = none.check is.0
no_task name rows (Normal limit profile) is none = none.normal is.0
no_task name rows (Write profile) is none = none.write is.0
no_task name rows Table is none = none.table is

-- Matches give at most one limit.
one_limit : (rows : List Row) (a b : Option ℕ) → GivesLimit rows a → GivesLimit rows b → a ≡ b
one_limit rows None None x y = refl
one_limit rows None (Some n) x y =
    let no : None ≡ Some y.0 = sym x ∙ y.1 in
    (cc)
one_limit rows (Some m) None x y =
    let no : None ≡ Some x.0 = sym y ∙ x.1 in
    (cc)
one_limit rows (Some m) (Some n) x y =
    let text : x.0 ≡ y.0 = ap (λ o. unwrap_or o x.0) (sym x.1 ∙ y.1) in
    let number : pos m ≡ pos n = sym x.2.1 ∙ ap (signed_digits_value 10) text ∙ y.2.1 in
    let same : m ≡ n = omega (arith, ints) in
    ap Some same

-- Matches choose at most one profile.
one_profile : (rows : List Row) (a b : Profile) → GivesProfile rows a → GivesProfile rows b → a ≡ b
one_profile rows Ascii Ascii x y = refl
one_profile rows Ascii Shorter x y = absurd (x y)
one_profile rows Shorter Ascii x y = absurd (y x)
one_profile rows Shorter Shorter x y = refl

-- The names of the five tasks begin with different letters.
abbrev letter : Task → ℕ
letter (Read limit) = 114
letter (Check limit) = 99
letter (Normal limit profile) = 110
letter (Write profile) = 119
letter Table = 116

-- The name of a subcommand that is a task begins with the letter of the task.
has_letter : (name : Text) (rows : List Row) (t : Task) → IsTaskOf name rows t → slice_index name 0 ≡ letter t
has_letter name rows (Read limit) is = ap (λ n. slice_index n 0) is.0
has_letter name rows (Check limit) is = ap (λ n. slice_index n 0) is.0
has_letter name rows (Normal limit profile) is = ap (λ n. slice_index n 0) is.0
has_letter name rows (Write profile) is = ap (λ n. slice_index n 0) is.0
has_letter name rows Table is = ap (λ n. slice_index n 0) is

-- Two tasks with one letter that a subcommand is are the same.
same_letter : (name : Text) (rows : List Row) (s t : Task) → letter s ≡ letter t → IsTaskOf name rows s →
    IsTaskOf name rows t → s ≡ t
same_letter name rows (Read a) (Read b) e x y = ap Read (one_limit rows a b x.1 y.1)
same_letter name rows (Read a) (Check b) e x y = absurd (omega arith)
same_letter name rows (Read a) (Normal b q) e x y = absurd (omega arith)
same_letter name rows (Read a) (Write q) e x y = absurd (omega arith)
same_letter name rows (Read a) Table e x y = absurd (omega arith)
same_letter name rows (Check a) (Read b) e x y = absurd (omega arith)
same_letter name rows (Check a) (Check b) e x y = ap Check (one_limit rows a b x.1 y.1)
same_letter name rows (Check a) (Normal b q) e x y = absurd (omega arith)
same_letter name rows (Check a) (Write q) e x y = absurd (omega arith)
same_letter name rows (Check a) Table e x y = absurd (omega arith)
same_letter name rows (Normal a p) (Read b) e x y = absurd (omega arith)
same_letter name rows (Normal a p) (Check b) e x y = absurd (omega arith)
same_letter name rows (Normal a p) (Normal b q) e x y =
    ap (λ l. Normal l p) (one_limit rows a b x.1 y.1) ∙ ap (λ r. Normal b r) (one_profile rows p q x.2 y.2)
same_letter name rows (Normal a p) (Write q) e x y = absurd (omega arith)
same_letter name rows (Normal a p) Table e x y = absurd (omega arith)
same_letter name rows (Write profile) (Read b) e x y = absurd (omega arith)
same_letter name rows (Write profile) (Check b) e x y = absurd (omega arith)
same_letter name rows (Write profile) (Normal b q) e x y = absurd (omega arith)
same_letter name rows (Write profile) (Write q) e x y = ap Write (one_profile rows profile q x.1 y.1)
same_letter name rows (Write profile) Table e x y = absurd (omega arith)
same_letter name rows Table (Read b) e x y = absurd (omega arith)
same_letter name rows Table (Check b) e x y = absurd (omega arith)
same_letter name rows Table (Normal b q) e x y = absurd (omega arith)
same_letter name rows Table (Write q) e x y = absurd (omega arith)
same_letter name rows Table Table e x y = refl

-- A subcommand with its matches is at most one task.
pub one_task : (name : Text) (rows : List Row) (s t : Task) → IsTaskOf name rows s → IsTaskOf name rows t → s ≡ t
one_task name rows s t x y = same_letter name rows s t (sym (has_letter name rows s x) ∙ has_letter name rows t y) x y
