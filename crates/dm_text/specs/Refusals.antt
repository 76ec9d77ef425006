-- The texts of refusals: one line each, without its LF.
use Rattle.std.specs.Prelude.{ℕ, List, ◌++◌, codes}
use Rattle.std.specs.Fmt.{decimal}
use Rattle.dm_symbol.specs.declared.WordFault.{WordFault}
use Rattle.dm_symbol.specs.declared.WordFault.TheVariants as word
use Rattle.dm_symbol.specs.declared.ReadFault.{ReadFault}
use Rattle.dm_symbol.specs.declared.ReadFault.TheVariants as read
use Rattle.dm_symbol.specs.declared.NormalFault.{NormalFault}
use Rattle.dm_symbol.specs.declared.NormalFault.TheVariants as normal
use Rattle.dm_text.specs.declared.record.RecordFault.{RecordFault}
use Rattle.dm_text.specs.declared.record.RecordFault.TheVariants as record_fault
use Rattle.dm_text.specs.declared.message_line.LineFault.{LineFault}
use Rattle.dm_text.specs.declared.message_line.LineFault.TheVariants as line

-- A record that is no grid is refused with this line.
abbrev pub record_refusal : RecordFault → List ℕ
record_refusal record_fault.Character = codes "\\no 1 character"
record_refusal record_fault.Large = codes "\\no 2 large"
record_refusal record_fault.NotSquare = codes "\\no 3 shape"
record_refusal (record_fault.NoSuchSize side) = codes "\\no 4 side " ++ decimal side

-- Data codewords that spell no message are refused with this line.
abbrev pub word_refusal : WordFault → List ℕ
word_refusal (word.Reserved place) = codes "\\no 7 reserved " ++ decimal place
word_refusal (word.LeftOut value place) = codes "\\no 8 left-out " ++ decimal value ++ codes " " ++ decimal place
word_refusal (word.UpperShift place) = codes "\\no 9 upper-shift " ++ decimal place
word_refusal (word.Triplet place) = codes "\\no 10 triplet " ++ decimal place
word_refusal (word.Value place) = codes "\\no 11 value " ++ decimal place
word_refusal (word.Length place) = codes "\\no 12 length " ++ decimal place
word_refusal (word.Unfinished place) = codes "\\no 13 unfinished " ++ decimal place

-- A grid that isn't read is refused with this line.
abbrev pub read_refusal : ReadFault → List ℕ
read_refusal (read.Border count) = codes "\\no 5 border " ++ decimal count
read_refusal (read.Block block) = codes "\\no 6 block " ++ decimal block
read_refusal (read.Words why) = word_refusal why

-- A message that fits no size is refused with this line.
abbrev pub too_long_refusal : List ℕ
too_long_refusal = codes "\\no 14 too-long"

-- A message line that means no message is refused with this line.
abbrev pub line_refusal : LineFault → List ℕ
line_refusal line.TooLong = too_long_refusal
line_refusal (line.BadEscape column) = codes "\\no 15 escape " ++ decimal column

-- A grid that has no normal grid is refused with this line.
abbrev pub normal_refusal : NormalFault → List ℕ
normal_refusal (normal.Read why) = read_refusal why
normal_refusal normal.TooLong = too_long_refusal
