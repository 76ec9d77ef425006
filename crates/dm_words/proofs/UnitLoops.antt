-- The loop that writes one unit of ASCII after the other.
use Rattle.dm_words.proofs.Names.{◌≡◌, ℕ, suc, ◌+◌, ◌<◌, ◌≤◌, List, ◌∷◌, ◌++◌, length, get_or, drop, drop-cons, refl}
use Rattle.dm_words.proofs.Names.{ap, sym, ◌∙◌, append_assoc, arith, length-append, Bool, true, false, ◌||◌}
use Rattle.dm_words.proofs.Names.{append-nil, at_drop_all, Item, Byte, Fnc1, Unit, ascii, is_digit, digit_pair}
use Rattle.dm_words.proofs.Names.{has_fnc1, unit_words, unit_items, nat_tests}
use Rattle.std.proofs.Common.{ap₂}
use Rattle.dm_words.specs.declared.ascii.Unit.TheVariants.{Digits, Fnc1}
use Rattle.dm_words.specs.inner.Scan.Results.{BeginsAscii, unit_is_fnc1}

-- The codewords of the items from an index on are those of the unit there and those of the items behind it.
pub record HasUnit (u : Unit) (items : List Item) (at : ℕ) : Type 0 where
  pub words : ascii (drop at items) ≡ unit_words u ++ ascii (drop (at + unit_items u) items)
  pub some : 0 < unit_items u
  pub within : at + unit_items u ≤ length items
  pub fnc1 : has_fnc1 (drop at items) ≡ (unit_is_fnc1 u || has_fnc1 (drop (at + unit_items u) items))

-- What begins the codewords from an index on is a unit there.
pub has_unit : (u : Unit) (items : List Item) (at : ℕ) → at < length items → BeginsAscii u items at → HasUnit u items at
has_unit u items at h1 h2 = grind (arith, nat_tests)

-- One unit more is written.
pub unit_added : (u : Unit) (items : List Item) (at : ℕ) (total old new : List ℕ) → HasUnit u items at → total ≡ old
    ++ ascii (drop at items) → new ≡ old ++ unit_words u
    → total ≡ new ++ ascii (drop (at + unit_items u) items)
unit_added u items at total old new h1 h2 h3 = grind (arith, append_assoc, unit_words, unit_items)

-- The codewords that are left are so many fewer.
pub unit_length : (u : Unit) (items : List Item) (at : ℕ) → HasUnit u items at
    → length (ascii (drop at items)) ≡ length (unit_words u) + length (ascii (drop (at + unit_items u) items))
unit_length u items at h =
    omega (arith, ap length h.words, length-append (unit_words u) (ascii (drop (at + unit_items u) items)))

-- Whether FNC1 is among the items is still known after one turn.
pub fnc1_turn : (u : Unit) (items : List Item) (at : ℕ) (found here : Bool) → HasUnit u items at → here ≡ unit_is_fnc1 u
    → (found || has_fnc1 (drop at items)) ≡ has_fnc1 items
    → ((found || here) || has_fnc1 (drop (at + unit_items u) items)) ≡ has_fnc1 items
fnc1_turn u items at found here h1 h2 h3 = grind (arith, nat_tests)

-- At the end all of it is written.
pub units_end : (items : List Item) (at : ℕ) (total words : List ℕ) → length items ≤ at → total ≡ words
    ++ ascii (drop at items) → words ≡ total
units_end items at total words le so_far =
    sym (so_far ∙ at_drop_all (λ (r : List Item). words ++ ascii r) items at le ∙ append-nil words)

-- At the end it is known whether FNC1 is among all items.
pub fnc1_end : (items : List Item) (at : ℕ) (found : Bool) → length items ≤ at → (found || has_fnc1 (drop at items))
    ≡ has_fnc1 items → found ≡ has_fnc1 items
fnc1_end items at true le so_far = so_far
fnc1_end items at false le so_far = sym (at_drop_all has_fnc1 items at le) ∙ so_far

-- Two digits at an index are the unit there.
pub pair_begins : (items : List Item) (at b c word : ℕ) → at + 2 ≤ length items → get_or items at Fnc1 ≡ Byte b
    → get_or items (at + 1) Fnc1 ≡ Byte c
    → is_digit b ≡ true → is_digit c ≡ true → word ≡ digit_pair b c → BeginsAscii (Digits word) items at
pair_begins items at b c word within first second hb hc is =
    let behind : (i j : ℕ) (x : Item) → i < length items → get_or items i Fnc1 ≡ x → suc i ≡ j → drop i items
    ≡ x ∷ drop j items =
    λ i j x lt is next. drop-cons items i Fnc1 lt ∙ ap₂ (λ (y : Item) (k : ℕ). y ∷ drop k items) is next in
    let cut : drop at items ≡ Byte b ∷ Byte c ∷ drop (at + 2) items =
    behind at (at + 1) (Byte b) (omega arith) first (omega arith)
    ∙ ap (λ (r : List Item). Byte b ∷ r) (behind (at + 1) (at + 2) (Byte c) (omega arith) second (omega arith)) in
    (rw (cut, hb, hc) (ap (λ (w : ℕ). w ∷ ascii (drop (at + 2) items)) (sym is)), rw cut refl, within)
