use Rattle.dm_words.proofs.Names.{ℕ, ◌≡◌, [], ◌∷◌, refl, Some, None, Option, CodeSet, Item, Byte, basic_of, IsSpelling}
use Rattle.std.specs.Prelude.{IfSome}
use Rattle.dm_words.specs.declared.c40.set.Basic.TheVariants as Basic
use Rattle.dm_words.specs.Values.{plain}
use Rattle.dm_words.proofs.smallest.values.one_value.Goals as goal

-- The value of a byte in a basic set spells it.
spelled : (set : CodeSet) (byte : ℕ) (item : Item) (found : Option ℕ) → item ≡ Byte byte
    → IfSome found (λ value. basic_of set value ≡ Some (Basic.Character byte))
    → IfSome found (λ value. IsSpelling set (value ∷ []) item)
spelled set byte item None is means = tt
spelled set byte item (Some value) is means = IsSpelling.character byte (plain value means refl) is

pub returns-in-Byte-clause-value : goal.returns-in-Byte-clause-value
returns-in-Byte-clause-value c = spelled _ _ _ _ c.in-Byte.is c.basic_value.ensures.value
