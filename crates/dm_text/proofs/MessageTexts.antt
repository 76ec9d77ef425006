-- The text of a message is a joining of its items' spellings.
use Rattle.std.proofs.Common.{suc, ◌≡◌, ◌+◌, ◌*◌, ◌/◌, ◌%◌, ◌≤◌, ◌<◌, ℕ, Bool, true, false, List, [], ◌∷◌, refl, ap}
use Rattle.std.proofs.Common.{length, arith, Ok, inl, inr}
use Rattle.std.specs.Prelude.{nat_le, ◌==◌, ◌&&◌, if◌then◌else◌}
use Rattle.std.proofs.lemmas.Bool.{cases_lt, eqb-true, eqb-false, leb-true, lt-ltb, le-ltb}
use Rattle.dm_symbol.specs.declared.Item.{Item}
use Rattle.dm_symbol.specs.declared.Item.TheVariants.{Byte, Fnc1}
use Rattle.dm_symbol.specs.Messages.{IsItem, IsMessage, most_items}
use Rattle.dm_text.specs.Spellings.{IsHexDigit, figure, upper, IsSpelling, plain, backslash, fnc1, byte, IsJoining}
use Rattle.dm_text.specs.Spellings.{spelling_of, text_of, upper_digit}
use Rattle.dm_text.specs.MessageLines.{IsLine}

-- The digit that is written for a value has this value.
digit_value : (v : ℕ) → v < 16 → IsHexDigit (upper_digit v) v
digit_value v small = elim (cases_lt v 10) [
  | inl lt ↦ rw (lt-ltb v 10 lt) (figure lt refl)
  | inr ge ↦ rw (le-ltb v 10 ge) (upper ge small (omega arith))
]

-- However a byte is written by its tests, that is a spelling of it.
bytes : (b : ℕ) → b < 256 → (e f g : Bool) → (b == 92) ≡ e → nat_le 32 b ≡ f → nat_le b 126 ≡ g
    → IsSpelling (if e then 92 ∷ 92 ∷ [] else if f && g then b ∷ [] else 92 ∷ 120 ∷ upper_digit (b / 16) ∷
    upper_digit (b % 16) ∷ []) (Byte b)
bytes b small true f g p q r = backslash refl (ap Byte (eqb-true b 92 p))
bytes b small false true true p q r = plain b (leb-true 32 b q) (leb-true b 126 r) (eqb-false b 92 p) refl refl
bytes b small false true false p q r = written b small
  where
    written : (b : ℕ) → b < 256 → IsSpelling (92 ∷ 120 ∷ upper_digit (b / 16) ∷ upper_digit (b % 16) ∷ []) (Byte b)
    written b small =
        byte (upper_digit (b / 16)) (upper_digit (b % 16)) (b / 16) (b % 16) (digit_value (b / 16) (omega arith))
        (digit_value (b % 16) (omega arith)) refl
        (let e : b ≡ 16 * (b / 16) + b % 16 = omega arith in ap Byte e)
bytes b small false false g p q r =
    byte (upper_digit (b / 16)) (upper_digit (b % 16)) (b / 16) (b % 16) (digit_value (b / 16) (omega arith))
    (digit_value (b % 16) (omega arith)) refl
    (let e : b ≡ 16 * (b / 16) + b % 16 = omega arith in ap Byte e)

-- How an item is written is a spelling of it.
pub spelled_spells : (item : Item) → IsItem item → IsSpelling (spelling_of item) item
spelled_spells Fnc1 small = fnc1 refl refl
spelled_spells (Byte b) small = bytes b small (b == 92) (nat_le 32 b) (nat_le b 126) refl refl refl

-- The text of a message joins the spellings of its items.
pub text_joins : (items : List Item) → IsMessage items → IsJoining (text_of items) items
text_joins [] all = refl
text_joins (item ∷ items) all = (
  spelling_of item,
  text_of items,
  spelled_spells item (all 0 item (omega arith)),
  refl,
  text_joins items (λ k d within. all (suc k) d (omega arith)),
)

-- The text of a message is a line that means the message.
pub text_is_line : (items : List Item) → IsMessage items → length items ≤ most_items → IsLine (text_of items) (Ok items)
text_is_line items all few = (text_joins items all, few)
