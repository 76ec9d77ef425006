-- Items that begin with the header of a macro and end with its trailer.
use Rattle.dm_words.proofs.Names.{◌≡◌, ℕ, zero, suc, ◌+◌, ◌-◌, ◌<◌, ◌≤◌, List, [], ◌∷◌, ◌++◌, length, take, drop}
use Rattle.dm_words.proofs.Names.{get_or, add-one, append_assoc, refl, ap, ◌∙◌, arith, length-append}
use Rattle.dm_words.proofs.Names.{take-append-drop, drop-drop, take-suc, drop-append_seam, Item, Byte, byte_items}
use Rattle.dm_words.proofs.Names.{macro_header, macro_trailer, macro_text, BeginsFnc1, FramesFnc1, inner_text}
use Rattle.dm_words.proofs.SegmentLoops.{byte_items-append}
use Rattle.dm_words.proofs.Names.{nat_tests}

-- The item of a byte at an index.
pub byte_at : (bytes : List ℕ) (i : ℕ) (d : Item) → i < length bytes → get_or (byte_items bytes) i d
    ≡ Byte (get_or bytes i 0)
byte_at [] i d lt = absurd (omega (arith, lt))
byte_at (b ∷ bytes) zero d lt = refl
byte_at (b ∷ bytes) (suc i) d lt = byte_at bytes i d (omega (arith, lt))

-- One more item is the next byte.
pub bytes_so_far : (m : List Item) (bytes : List ℕ) (i : ℕ) (d : Item) → i < length m → i < length bytes → take i m
    ≡ byte_items (take i bytes) → get_or m i d ≡ Byte (get_or bytes i 0)
    → take (i + 1) m ≡ byte_items (take (i + 1) bytes)
bytes_so_far m bytes i d there within so_far is =
    let more : take (i + 1) m ≡ take i m ++ get_or m i d ∷ [] = rw add-one (take-suc m i d there) in
    let next : take (i + 1) bytes ≡ take i bytes ++ get_or bytes i 0 ∷ [] = rw add-one (take-suc bytes i 0 within) in
    cc (byte_items-append (take i bytes) (get_or bytes i 0 ∷ []))

-- Items that begin with a header and end with the trailer are the text of a macro.
pub is_framed : (m : List Item) (digit : ℕ) → 9 ≤ length m → take 7 m ≡ macro_header digit → drop (length m - 2) m
    ≡ macro_trailer → m ≡ macro_text digit (inner_text m)
is_framed m digit long header trailer =
    let behind : drop (length m - 2 - 7) (drop 7 m) ≡ macro_trailer = drop-drop (length m - 2 - 7) 7 m
    ∙ ap (λ (k : ℕ). drop k m) (omega (arith, long)) ∙ trailer in
    cc (take-append-drop 7 m, take-append-drop (length m - 2 - 7) (drop 7 m))

-- The text of a macro is that long, begins with the header and ends with the trailer.
pub frame_is : (m : List Item) (digit : ℕ) (text : List Item) → m ≡ macro_text digit text
    → (9 ≤ length m) × (take 7 m ≡ macro_header digit) × (drop (length m - 2) m ≡ macro_trailer)
frame_is m digit text is =
    let n : length m ≡ length text + 9 = omega (arith, ap length is, length-append text macro_trailer) in
    let front = macro_header digit ++ text in
    let k : length m - 2 ≡ length front = omega (arith, n) in (
      omega (arith, n),
      ap (take 7) is,
      cc (append_assoc (macro_header digit) text macro_trailer, drop-append_seam front macro_trailer),
    )

-- Where FNC1 doesn't come first between a header and a trailer, these frame no FNC1.
pub frames_not : (m : List Item) (digit : ℕ) (text : List Item) → m ≡ macro_text digit text → (BeginsFnc1 text → ⊥)
    → FramesFnc1 m → ⊥
frames_not m digit text h1 h2 h3 = grind (arith, macro_text)

-- FNC1 that comes first between them comes first in the text.
pub fnc1_inside : (m : List Item) (digit : ℕ) (text : List Item) (count : ℕ) → m ≡ macro_text digit text
    → BeginsFnc1 (take count (drop 7 m)) → BeginsFnc1 text
fnc1_inside m digit text count is b = grind (arith, nat_tests, macro_trailer)
