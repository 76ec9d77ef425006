-- What is given where codewords are read, and where those of a message are chosen. A call that leaves its result in a
-- target promises this of its
-- outcome.
use Rattle.std.specs.Prelude.{◌≡◌, ◌≤◌, ◌<◌, ◌↔◌, ◌*◌, ℕ, List, length, Result, Ok, Err, IfOk, IsErr}
use Rattle.arrayvec.specs.ArrayVec.{ArrayVec}
use Rattle.dm_layout.specs.Sizes.{most_grid_data}
use Rattle.dm_words.specs.declared.extent.Extent.TheVariants.{Usual}
use Rattle.dm_words.specs.declared.fault.TooLong.{TooLong}
use Rattle.dm_words.specs.declared.fault.WordFault.{WordFault}
use Rattle.dm_words.specs.declared.item.Item.{Item}
use Rattle.dm_words.specs.declared.profile.Profile.{Profile}
use Rattle.dm_words.specs.Messages.{IsMessage}
use Rattle.dm_words.specs.NormalForm.{normal_form}
use Rattle.dm_words.specs.Spells.{Spells, Refused}

-- What reading codewords in the usual extent gives: a message exactly where they spell it, a fault exactly where they
-- are refused with it. The message has at most two items for each codeword, and its bytes are 0 to 255.
pub record IsMessageResult (words : List ℕ) (result : Result (List Item) WordFault) : Type 0 where
  pub message : (m : List Item) → (result ≡ Ok m) ↔ Spells Usual words m
  pub fault : (why : WordFault) → (result ≡ Err why) ↔ Refused words why
  pub most : IfOk result (λ m. length m ≤ 2 * length words)
  pub bytes : IfOk result (λ m. IsMessage m)

-- What choosing the codewords of a message under a profile for a square of at most 104 rows gives: its normal form,
-- unless this has more codewords than the largest of these squares holds.
pub record IsNormalFormResult (profile : Profile) (message : List Item) (result : Result (ArrayVec ℕ) TooLong) : Type
    0 where
  pub words : IfOk result (λ words. words.items ≡ normal_form profile message)
  pub most : IfOk result (λ words. length words.items ≤ most_grid_data)
  pub too_long : IsErr result ↔ (most_grid_data < length (normal_form profile message))
