-- Choices of sizes as numbers.
use Rattle.std.specs.Prelude.{nat_eq, if◌then◌else◌, Option, Some, None}
use Rattle.dm_symbol.specs.declared.SizeChoice.{SizeChoice}
use Rattle.dm_symbol.specs.declared.SizeChoice.TheVariants.{Square, Rectangle, AnyRectangle, Any, Exact}
use Rattle.ecc200_calls.specs.declared.how.How.{How}

-- The number 0 stands for the squares, 1 for the rectangles of ISO/IEC 16022, 2 for those of both standards, 3 for all
-- sizes, 4 for the size with the rows and columns that are given, and no other number for any choice.
abbrev pub choice_of : How → Option SizeChoice
choice_of how =
    if nat_eq how.shape 0 then Some Square
    else (if nat_eq how.shape 1 then Some Rectangle
    else (if nat_eq how.shape 2 then Some AnyRectangle
    else (if nat_eq how.shape 3 then Some Any
    else (if nat_eq how.shape 4 then Some (Exact how.rows how.columns) else None))))
