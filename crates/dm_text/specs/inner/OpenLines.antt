-- What the bytes of a line make, one after another: a spelling, the beginning of one, or neither.
use Rattle.std.specs.Prelude.{◌≡◌, ◌≢◌, ◌≤◌, ◌+◌, ℕ, List, [], ◌∷◌, ◌++◌, length, Result, Ok, Err}
use Rattle.std.specs.Borrow.{Bor}
use Rattle.dm_symbol.specs.declared.Item.{Item}
use Rattle.dm_text.specs.Spellings.{IsSpelling}
use Rattle.dm_text.specs.Texts.{HasNoLf, lf}
use Rattle.dm_text.specs.LineFacts.{AreLineFacts, CanBecomeSpelling, LineFacts, Faulty, Good}
use Rattle.dm_text.specs.LineFeeds.{LineMeaning}
use Rattle.dm_text.specs.declared.message_line.LineFault.{LineFault}
use Rattle.dm_text.specs.declared.spelling.Pending.{Pending}
use Rattle.dm_text.specs.declared.spelling.Pending.TheVariants as begun
use Rattle.dm_text.specs.declared.spelling.Next.{Next}
use Rattle.dm_text.specs.declared.spelling.Next.TheVariants as next
use Rattle.dm_text.specs.declared.open_line.State.{State}
use Rattle.dm_text.specs.declared.open_line.State.TheVariants as state

-- A plain byte stands for itself: it is one of 32 to 126, but not the backslash, which is 92.
abbrev pub IsPlain : ℕ → Type 0
IsPlain b = (32 ≤ b) × (b ≤ 126) × (b ≢ 92)

-- No spelling stands at the start of these bytes.
abbrev pub BeginsNoSpelling : List ℕ → Type 0
BeginsNoSpelling bytes = (piece more : List ℕ) (item : Item) → bytes ≡ piece ++ more → IsSpelling piece item → ⊥

-- A spelling that is begun has these bytes so far.
abbrev pub pending_bytes : Pending → List ℕ
pending_bytes begun.Nothing = []
pending_bytes begun.Backslash = 92 ∷ []
pending_bytes begun.Hexadecimal = 92 ∷ 120 ∷ []
pending_bytes (begun.Digit first) = 92 ∷ 120 ∷ first ∷ []

-- Bytes are a spelling, or the beginning of one, or, whatever follows them, begin with no spelling.
abbrev pub IsNext : List ℕ → Next → Type 0
IsNext bytes (next.Whole item) = IsSpelling bytes item
IsNext bytes (next.Begun pending) = (pending_bytes pending ≡ bytes) × CanBecomeSpelling bytes × BeginsNoSpelling bytes
IsNext bytes next.Fault = (more : List ℕ) → BeginsNoSpelling (bytes ++ more)

-- A state stands for these facts.
abbrev pub facts_of : State → LineFacts
facts_of (state.Faulty column) = Faulty column
facts_of (state.Good good) = Good good.prefix_length good.items (pending_bytes good.pending)

-- A line whose message is pointed to means that message.
abbrev pub meaning_by_value : Result (Bor (List Item)) LineFault → LineMeaning
meaning_by_value (Ok message) = Ok message.now
meaning_by_value (Err fault) = Err fault

-- The first LF of a text stands after `before`.
pub record IsFirstLf (text before after : List ℕ) : Type 0 where
  pub whole : text ≡ before ++ lf ∷ after
  pub no_lf : HasNoLf before

-- The first LF of the piece ends the line, which is still held: the piece is taken up to and including it.
pub record EndsLine (old : LineFacts) (piece : List ℕ) (taken : ℕ) (new : LineFacts) : Type 0 where
  pub before : List ℕ
  pub after : List ℕ
  pub piece_is : piece ≡ before ++ lf ∷ after
  pub no_lf : HasNoLf before
  pub taken_is : taken ≡ length before + 1
  pub grown : (line : List ℕ) → AreLineFacts line old → AreLineFacts (line ++ before) new
