-- The program's endings: its exit status, and its line on standard error.
use Rattle.std.specs.Prelude.{◌≡◌, ◌<◌, ℕ, List, [], codes, Result, Ok, Err}
use Rattle.dm_text.specs.declared.RunFault.{RunFault}
use Rattle.dm_text.specs.declared.RunFault.TheVariants as fault
use Rattle.dm_text.specs.declared.Tally.{Tally}
use Rattle.dm_command.specs.declared.fault.CallFault.{CallFault}
use Rattle.dm_command.specs.declared.fault.CallFault.TheVariants.{Usage, Memory}

-- The program ends with this status, and with this line on standard error.
abbrev pub Ends : ℕ → List ℕ → ℕ → List ℕ → Type 0
Ends s l status line = (status ≡ s) × (line ≡ l)

-- A run ends with status 0 if nothing was refused, with 1 if something
-- was, and with 3 and a line of its own at each fault.
abbrev pub IsEndingOf : Result Tally RunFault → ℕ → List ℕ → Type 0
IsEndingOf (Ok tally) status line =
    (tally.refused ≡ 0 → Ends 0 [] status line) × (0 < tally.refused → Ends 1 [] status line)
IsEndingOf (Err fault.Read) status line = Ends 3 (codes "dm_tool: read failed") status line
IsEndingOf (Err fault.Write) status line = Ends 3 (codes "dm_tool: write failed") status line
IsEndingOf (Err fault.TooMuchInput) status line = Ends 3 (codes "dm_tool: too much input") status line

-- A command line that gives no task ends the program: with status 2 and
-- the usage if it names none, and with 3 if memory was lacking.
abbrev pub IsEndingOfCall : CallFault → ℕ → List ℕ → Type 0
IsEndingOfCall Usage status line =
    Ends 2
    (codes
    "dm_tool: usage: dm_tool read|check [--border N] | normal [--border N] [--shorter] | write [--shorter] | table")
    status line
IsEndingOfCall Memory status line = Ends 3 (codes "dm_tool: no memory") status line
