-- Faults as numbers: the codes of the header. The numbers 3 to 14 are those of the program's refusals.
use Rattle.std.specs.Prelude.{ℕ}
use Rattle.dm_symbol.specs.declared.WordFault.TheVariants as word
use Rattle.dm_symbol.specs.declared.ReadFault.{ReadFault}
use Rattle.dm_symbol.specs.declared.ContentFault.TheVariants as content
use Rattle.dm_symbol.specs.declared.ContentReadFault.{ContentReadFault}
use Rattle.dm_symbol.specs.declared.ContentReadFault.TheVariants as read_content
use Rattle.dm_symbol.specs.declared.ContentNormalFault.{ContentNormalFault}
use Rattle.dm_symbol.specs.declared.ContentNormalFault.TheVariants as normal_content
use Rattle.dm_symbol.specs.Reading.{content_fault}
use Rattle.ecc200_calls.specs.declared.fault.Fault.{Fault}

-- A fault has three numbers, the first of which is a code of the header:
--      0  there is no fault
--      3  there are not as many modules as the rows times the columns
--      4  no size has these rows and columns
--  5, 6  a symbol isn't read, because of its borders or of a block
--  7 ..  its data codewords spell no message, to 13, or no content, 20 and 21
--     14  what is to be written fits no size that may be taken
--     15  this number, at this index, counted from 0 and 65535 at most, stands for no item
--     16  this number stands for no profile or form, for no extent (17), choice of sizes (18) or border limit (24)
--     19  doubtful modules are given, but not as many as the symbol has modules
--     22  the mark with this index, counted from 0 and 65535 at most, is wrong
--     23  the numbers of a head are those of none
abbrev pub fault : ℕ → ℕ → ℕ → Fault
fault code value place = record { code = code; value = value; place = place }

-- A symbol is not read as a content: because of its borders, with the number of their wrong modules; because of a
-- block, with its number, from 0; or because of its data codewords, which places count from 1: they spell no message,
-- ECI has no designator, or structured append begins no head.
abbrev pub read_content_fault : ContentReadFault → Fault
read_content_fault (read_content.Border count) = fault 5 count 0
read_content_fault (read_content.Block block) = fault 6 0 block
read_content_fault (read_content.Words (content.Word (word.Reserved place))) = fault 7 0 place
read_content_fault (read_content.Words (content.Word (word.LeftOut value place))) = fault 8 value place
read_content_fault (read_content.Words (content.Word (word.UpperShift place))) = fault 9 0 place
read_content_fault (read_content.Words (content.Word (word.Triplet place))) = fault 10 0 place
read_content_fault (read_content.Words (content.Word (word.Value place))) = fault 11 0 place
read_content_fault (read_content.Words (content.Word (word.Length place))) = fault 12 0 place
read_content_fault (read_content.Words (content.Word (word.Unfinished place))) = fault 13 0 place
read_content_fault (read_content.Words (content.Designator place)) = fault 20 0 place
read_content_fault (read_content.Words (content.Append place)) = fault 21 0 place

-- A symbol is not read as a message: for the same reasons.
abbrev pub read_fault : ReadFault → Fault
read_fault why = read_content_fault (content_fault why)

-- A symbol has no normal symbol.
abbrev pub normal_content_fault : ContentNormalFault → Fault
normal_content_fault (normal_content.Read why) = read_content_fault why
normal_content_fault normal_content.TooLong = fault 14 0 0
