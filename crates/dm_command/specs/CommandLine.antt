-- The program's command line, in the words of clap, and the task that its matches name.
use Rattle.std.specs.Prelude.{◌≡◌, ◌≢◌, ◌<◌, ◌^◌, ℕ, true, List, map, Option, Some, None, codes, pos}
use Rattle.std.specs.Str.Parse.{IsNumeral, signed_digits_value, without_leading_sign}
use Rattle.std.specs.Borrow.{Bor}
use Rattle.clap.specs.Walk.{Row, Rule, Text, first_of}
use Rattle.clap.specs.Simple.{App, Shape, new_app, new_rule, new_shape, with_rule, with_subcommand}
use Rattle.clap.specs.declared.builder.action.ArgAction.TheVariants.{SetTrue}
use Rattle.clap.specs.declared.builder.value_parser.ValueParser.TheVariants as vp
use Rattle.dm_text.specs.declared.Profile.{Profile}
use Rattle.dm_text.specs.declared.Profile.TheVariants.{Ascii, Shorter}
use Rattle.dm_text.specs.declared.Task.{Task}
use Rattle.dm_text.specs.declared.Task.TheVariants.{Read, Check, Normal, Write, Table}

-- The words of a command line have these texts.
abbrev pub texts_of : List (Bor Text) → List Text
texts_of = map (λ s. s.now)

-- The option `--border N` has a number N of 0 to 65535.
abbrev pub border_rule : Rule
border_rule = record (new_rule (codes "border")) {
  long = Some (codes "border");
  parser = Some (vp.Signed (pos 0) (pos 65535));
}

-- The flag `--shorter` has no value.
abbrev pub shorter_rule : Rule
shorter_rule = record (new_rule (codes "shorter")) { long = Some (codes "shorter"); action = Some SetTrue }

-- A subcommand of this kind has only the option.
abbrev pub with_border : Text → Shape
with_border name = (with_rule (new_app name) border_rule).top

-- A subcommand of this kind has only the flag.
abbrev pub with_shorter : Text → Shape
with_shorter name = (with_rule (new_app name) shorter_rule).top

-- A subcommand of this kind has both the option and the flag.
abbrev pub with_both : Text → Shape
with_both name = (with_rule (with_rule (new_app name) border_rule) shorter_rule).top

-- The command requires a subcommand, and `help` is none.
abbrev pub top_app : App
top_app = let a = new_app (codes "dm_tool") in
    record a { top = record a.top { subcommand_required = true; disable_help_subcommand = true } }

-- The command has five subcommands: `read` and `check` have the option,
-- `write` has the flag, `normal` has both and `table` neither.
abbrev pub dm_app : App
dm_app = with_subcommand (with_subcommand (with_subcommand (with_subcommand (with_subcommand top_app
    (with_border (codes "read"))) (with_border (codes "check"))) (with_both (codes "normal")))
    (with_shorter (codes "write"))) (new_shape (codes "table"))

-- A text writes the border limit n, a number of 0 to 65535, if it is decimal digits, after one sign or none, whose
-- value with that sign is n: `+007` is 7, and `-0` is 0.
abbrev pub IsBorderLimit : Text → ℕ → Type 0
IsBorderLimit text n = IsNumeral 10 (without_leading_sign text) × (signed_digits_value 10 text ≡ pos n) × (n < 2 ^ 16)

-- The matches give no limit if they have no text for the border, and a limit if they have a text that writes it; with
-- a text that writes none they give neither.
abbrev pub GivesLimit : List Row → Option ℕ → Type 0
GivesLimit rows None = first_of (codes "border") rows ≡ None
GivesLimit rows (Some n) = (text : Text) × (first_of (codes "border") rows ≡ Some text) × IsBorderLimit text n

-- The matches choose the profile `Shorter` if their text for the flag is `true`, which clap puts there where the flag
-- is given, and else the profile `Ascii`.
abbrev pub GivesProfile : List Row → Profile → Type 0
GivesProfile rows Shorter = first_of (codes "shorter") rows ≡ Some (codes "true")
GivesProfile rows Ascii = first_of (codes "shorter") rows ≢ Some (codes "true")

-- A subcommand of this name, with these matches, is this task.
abbrev pub IsTaskOf : Text → List Row → Task → Type 0
IsTaskOf name rows (Read limit) = (name ≡ codes "read") × GivesLimit rows limit
IsTaskOf name rows (Check limit) = (name ≡ codes "check") × GivesLimit rows limit
IsTaskOf name rows (Normal limit profile) = (name ≡ codes "normal") × GivesLimit rows limit × GivesProfile rows profile
IsTaskOf name rows (Write profile) = (name ≡ codes "write") × GivesProfile rows profile
IsTaskOf name rows Table = name ≡ codes "table"

-- The matches name this task by their subcommand.
abbrev pub NamesTask : Option (Text × List Row) → Task → Type 0
NamesTask None task = ⊥
NamesTask (Some found) task = IsTaskOf found.0 found.1 task

-- The matches name exactly one task.
abbrev pub NamesOneTask : Option (Text × List Row) → Type 0
NamesOneTask matches =
    (task : Task) × NamesTask matches task × ((other : Task) → NamesTask matches other → other ≡ task)
