-- The numbers of a head without a symbol of a sequence.
use Rattle.std.specs.Prelude.{◌≡◌, [], ◌∷◌}
use Rattle.ecc200_calls.specs.declared.head.HeadNumbers.{HeadNumbers}

-- All of the numbers but the kind are 0.
abbrev pub IsEmpty : HeadNumbers → Type 0
IsEmpty numbers = (numbers.part ≡ 0) × (numbers.parts ≡ 0) × (numbers.file ≡ 0 ∷ 0 ∷ [])
