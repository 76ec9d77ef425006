-- What the private functions that read a content part by part give.
use Rattle.std.specs.Prelude.{◌≡◌, ℕ, ◌+◌, ◌*◌, ◌≤◌, List, ◌++◌, length, take, drop, Option, Some, None, Result, Ok}
use Rattle.std.specs.Prelude.{Err}
use Rattle.dm_words.specs.declared.extent.Extent.{Extent}
use Rattle.dm_words.specs.declared.extent.Extent.TheVariants.{Wide}
use Rattle.dm_words.specs.declared.item.Item.{Item}
use Rattle.dm_words.specs.declared.contents.fault.ContentFault.{ContentFault}
use Rattle.dm_words.specs.declared.contents.reading.Holding.{Holding}
use Rattle.dm_words.specs.declared.contents.mark.Mark.{Mark}
use Rattle.dm_words.specs.Joined.{Piece, spelled, AreJoined}
use Rattle.dm_words.specs.Contents.{ContentView, Said, AreMarks, AreContentParts, IsContentPart, IsContentFault}
use Rattle.dm_words.specs.Contents.{eci_count}
use Rattle.dm_words.specs.Designations.{designation, designations}
use Rattle.dm_words.specs.inner.Scan.Walk.{Step, Takes, Stops}
use Rattle.dm_words.specs.inner.Scan.Results.{HasRoomAt}
use Rattle.dm_words.specs.inner.ContentScan.{with_said}

-- The marks before an index are no more than one for each two codewords there, or one for each ECI.
pub record AreMarksAt (words : List ℕ) (at : ℕ) (marks : List Mark) : Type 0 where
  pub few : 2 * length marks ≤ at
  pub eci_left : length marks + eci_count (drop at words) ≤ eci_count words

-- A content with room for so many items has room for what the codewords from an index on say; the marks so far are in
-- order, and no more than can stand before that index.
pub record IsContentAt (room : ℕ) (words : List ℕ) (at : ℕ) (so_far : ContentView) : Type 0 where
  pub item_room : HasRoomAt room words at (length so_far.items)
  pub marks : AreMarksAt words at so_far.marks
  pub in_order : AreMarks 0 (length so_far.items) so_far.marks

-- A part with the given number of words was taken, and what it says stands behind what was there; or the end was met;
-- or a fault.
abbrev pub IsContentPartTaken : Result (Option ℕ) ContentFault → ContentView → ContentView
    → Step Said (Option ContentFault) → Type 0
IsContentPartTaken (Ok None) old new step = (step ≡ Stops None) × (new ≡ old)
IsContentPartTaken (Ok (Some n)) old new step = (said : Said) × (step ≡ Takes n said) × (new ≡ with_said old said)
IsContentPartTaken (Err why) old new step = step ≡ Stops (Some why)

-- Where reading tells what the lists hold, its outcome is the content of the head and of the items and marks that they
-- do; otherwise it is the fault.
abbrev pub held_outcome : Result Holding ContentFault → List Item → List Mark → Result ContentView ContentFault
held_outcome (Ok holding) items marks =
    Ok (record { head = holding.head; items = take holding.items items; marks = take holding.marks marks })
held_outcome (Err why) items marks = Err why

-- A part with the given number of words was taken behind so many codewords, and its designator, if it is one, stands
-- behind those that were there; or the end was met; or a fault.
abbrev pub IsDesignationTaken : Result (Option ℕ) ContentFault → ℕ → List Mark → List Mark
    → Step Said (Option ContentFault) → Type 0
IsDesignationTaken (Ok None) before old new step = (step ≡ Stops None) × (new ≡ old)
IsDesignationTaken (Ok (Some n)) before old new step =
    (said : Said) × (step ≡ Takes n said) × (new ≡ old ++ designation before said)
IsDesignationTaken (Err why) before old new step = step ≡ Stops (Some why)

-- The words from a place on, up to the end of the symbol, are parts of a content, one after the other, and then
-- codewords with this fault.
pub record HaveContentFault (extent : Extent) (place : ℕ) (words : List ℕ) (why : ContentFault) : Type 0 where
  pub parts : List (Piece Said)
  pub after : List ℕ
  pub joined : AreJoined (IsContentPart extent) place parts after
  pub whole : words ≡ spelled parts ++ after
  pub faulty : IsContentFault extent (place + length (spelled parts)) after why

-- The words from an index on are parts of a content up to the end, and the first so many marks are their designators;
-- or they have a fault.
abbrev pub AreDesignationsFrom : Result ℕ ContentFault → ℕ → List ℕ → List Mark → Type 0
AreDesignationsFrom (Ok count) start words marks =
    (said : List Said) × (parts : AreContentParts Wide (start + 1) (drop start words) said)
    × (take count marks ≡ designations start parts.parts)
AreDesignationsFrom (Err why) start words marks = HaveContentFault Wide (start + 1) (drop start words) why
