-- What the program's own readers of clap's matches go by.
use Rattle.std.specs.Prelude.{◌≡◌, ◌≢◌, ◌⊎◌, ℕ, List, Some, codes}
use Rattle.clap.specs.Walk.{Row, Text, first_of, one_of}
use Rattle.clap.specs.Lexer.{without_minus}
use Rattle.dm_command.specs.CommandLine.{IsBorderLimit}

-- The border's text, if there is one, writes a limit, and is read without its minus sign.
abbrev pub HasLimit : List Row → Type 0
HasLimit rows = (text : Text) → first_of (codes "border") rows ≡ Some text
    → (one_of (codes "border") rows ≡ Some (without_minus text)) × ((n : ℕ) × IsBorderLimit text n)

-- The flag's text, if there is one, is `true` or `false`, and is read as it stands.
abbrev pub HasFlag : List Row → Type 0
HasFlag rows = (text : Text) → first_of (codes "shorter") rows ≡ Some text
    → (one_of (codes "shorter") rows ≡ Some text) × ((text ≡ codes "true") ⊎ (text ≡ codes "false"))

-- The matches can be read if both the limit and the flag can.
pub record IsReadable (rows : List Row) : Type 0 where
  pub limit : HasLimit rows
  pub flag : HasFlag rows

-- The name is that of none of the five subcommands.
pub record HasNoTask (name : Text) : Type 0 where
  pub read : name ≢ codes "read"
  pub check : name ≢ codes "check"
  pub normal : name ≢ codes "normal"
  pub write : name ≢ codes "write"
  pub table : name ≢ codes "table"
