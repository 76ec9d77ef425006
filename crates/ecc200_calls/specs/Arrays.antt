-- Arrays of a fixed length, of which only the first elements mean something.
use Rattle.std.specs.Prelude.{List, ◌++◌, drop, length}

-- These elements stand over the first ones of those that were there before; the others stay.
abbrev pub over : {X : Type 0} → List X → List X → List X
over elements before = elements ++ drop (length elements) before
