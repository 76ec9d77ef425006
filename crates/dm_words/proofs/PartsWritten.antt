-- Parts that are written one behind the other are parts.
use Rattle.dm_words.proofs.Names.{◌≡◌, ℕ, ◌+◌, ◌<◌, List, [], ◌∷◌, ◌++◌, length, append_assoc, refl, sym, ap, subst}
use Rattle.dm_words.proofs.Names.{◌∙◌, arith, append-nil, length-append, Extent, Item, Piece, spelled, ◌-◌, ◌≤◌}
use Rattle.dm_words.proofs.Names.{as_content, pads, padded, SaysThenPads, IsPlainPart, IsPart, NoUnlatchFirst}
use Rattle.dm_words.proofs.Names.{IsPartWritten, ArePartsWritten, nat_tests}
use Rattle.dm_words.proofs.AsciiWords.{pads_end}
use Rattle.dm_words.proofs.PadWords.{filled, pads_are, pads_begin}
use Rattle.dm_words.proofs.Pieces.{spelled-last, gathered-last, joined-last}
use Rattle.dm_words.proofs.SpelledContents.{parts_say}

-- Nothing is written yet.
pub no_parts : (extent : Extent) (total : ℕ) (base : List ℕ) → ArePartsWritten extent total base base []
no_parts extent total base =
    record {
      parts = [];
      whole = sym (append-nil base);
      items_are = refl;
      begins = λ after first. first;
      right = λ after fills first. tt;
      plain = λ after fills first. tt;
    }

-- No unlatch comes first where it doesn't in a part.
no_unlatch : (part after : List ℕ) → 0 < length part → NoUnlatchFirst part → NoUnlatchFirst (part ++ after)
no_unlatch part after h1 h2 = grind (arith, nat_tests)

-- One more part is written.
pub parts_more : (extent : Extent) (total : ℕ) (base old new : List ℕ) (items more : List Item)
    → ArePartsWritten extent total base old items → IsPartWritten extent total old new more
    → ArePartsWritten extent total base new (items ++ more)
parts_more extent total base old new items more w p =
    let piece : Piece (List Item) = record { words = p.part; what = more } in
    let place : length old + 1 ≡ length base + 1 + length (spelled w.parts) =
    omega (arith, ap length w.whole, length-append base (spelled w.parts)) in
    let fills_so : (after : List ℕ) → length new + length after ≡ total
    → length old + length (p.part ++ after) ≡ total =
    λ after fills. omega (arith, fills, ap length p.whole, length-append old p.part, length-append p.part after) in
    record {
      parts = w.parts ++ piece ∷ [];
      whole = cc (p.whole, w.whole, append_assoc base (spelled w.parts) p.part, spelled-last w.parts piece);
      items_are = ap (λ (l : List Item). l ++ more) w.items_are ∙ sym (gathered-last w.parts piece);
      begins = λ after first.
          (let all : spelled w.parts ++ (p.part ++ after) ≡ spelled (w.parts ++ piece ∷ []) ++ after =
          sym (append_assoc (spelled w.parts) p.part after)
          ∙ ap (λ (l : List ℕ). l ++ after) (sym (spelled-last w.parts piece)) in
          subst NoUnlatchFirst all (w.begins (p.part ++ after) (no_unlatch p.part after p.some p.begins)));
      right = λ after fills first. joined-last (IsPart extent) (length base + 1) w.parts piece after
          (w.right (p.part ++ after) (fills_so after fills) (no_unlatch p.part after p.some p.begins))
          (rw place at (p.right after fills first));
      plain = λ after fills first. joined-last IsPlainPart (length base + 1) w.parts piece after
          (w.plain (p.part ++ after) (fills_so after fills) (no_unlatch p.part after p.some p.begins))
          (rw place at (p.plain after fills first));
    }

-- Parts with pads behind them say a message.
pub written_say : (extent : Extent) (count : ℕ) (base new : List ℕ) (m : List Item) → base ≡ []
    → ArePartsWritten extent count base new m → length new ≤ count
    → SaysThenPads extent (padded new count) (as_content m)
written_say extent count base new m none written fits =
    let w : ArePartsWritten extent count [] new m = rw none at written in
    let after = pads (length new + 1) (count - length new) in
    let first = pads_begin (length new + 1) (count - length new) in
    parts_say extent (padded new count) m (record {
      parts = w.parts;
      after = after;
      joined = w.right after (filled new count fits) first;
      ended = pads_end (length new + 1) (count - length new);
      whole = ap (λ (l : List ℕ). l ++ after) w.whole;
      items_are = w.items_are;
    }) (pads_are new count)
