-- How a content is read from the left: its opening, a designator, and one part after the other.
use Rattle.std.specs.Prelude.{ℕ, suc, ◌+◌, ◌-◌, ◌*◌, ◌/◌, ◌%◌, List, [], ◌∷◌, ◌++◌, length, drop, Option}
use Rattle.std.specs.Prelude.{Some, None, Result, Ok, Err, Bool, true, false, slice_get, nat_le, ◌==◌, ◌&&◌}
use Rattle.std.specs.Prelude.{if◌then◌else◌, ◌≡◌, ◌≢◌, ◌⊎◌}
use Rattle.dm_words.specs.declared.extent.Extent.{Extent}
use Rattle.dm_words.specs.declared.extent.Extent.TheVariants.{Usual, Wide}
use Rattle.dm_words.specs.declared.item.Item.{Item}
use Rattle.dm_words.specs.declared.fault.WordFault.{WordFault}
use Rattle.dm_words.specs.declared.codeword.Codeword.{Codeword}
use Rattle.dm_words.specs.declared.codeword.Codeword.TheVariants as codeword
use Rattle.dm_words.specs.declared.contents.designator.Designator.{Designator}
use Rattle.dm_words.specs.declared.contents.fault.ContentFault.{ContentFault}
use Rattle.dm_words.specs.declared.contents.fault.ContentFault.TheVariants as fault
use Rattle.dm_words.specs.declared.contents.head.Appended.{Appended}
use Rattle.dm_words.specs.declared.contents.head.Head.{Head}
use Rattle.dm_words.specs.declared.contents.head.Head.TheVariants as head
use Rattle.dm_words.specs.declared.contents.mark.Mark.{Mark}
use Rattle.dm_words.specs.declared.contents.opening.Frame.{Frame}
use Rattle.dm_words.specs.declared.contents.opening.Opened.{Opened}
use Rattle.dm_words.specs.declared.contents.opening.Opening.{Opening}
use Rattle.dm_words.specs.declared.contents.opening.Opening.TheVariants.{Plain, Headed, Framed}
use Rattle.dm_words.specs.Codewords.{codeword_of}
use Rattle.dm_words.specs.Designators.{eci_word, most_assigned}
use Rattle.dm_words.specs.Contents.{ContentView, with_mark, Said, Items, Number, said_items, said_marks, AreFrame}
use Rattle.dm_words.specs.inner.Scan.Walk.{Step, Takes, Stops, walk}
use Rattle.dm_words.specs.inner.Scan.Prefixes.{byte_items, digit_by, first_part}

-- ---- designators

-- A codeword can stand behind the first one of a designator.
abbrev pub is_further : ℕ → Bool
is_further word = nat_le 1 word && nat_le word 254

-- This many codewords say this number, unless it is too large.
abbrev pub within_assigned : ℕ → ℕ → Option Designator
within_assigned count number =
    if nat_le number most_assigned then Some (record { count = count; number = number }) else None

-- Behind a first codeword of 128 to 191, the next one decides which designator is there.
abbrev pub two_words : ℕ → Option ℕ → Option Designator
two_words first None = None
two_words first (Some second) =
    if is_further second then Some (record { count = 2; number = (first - 128) * 254 + 127 + (second - 1) }) else None

-- Behind a first codeword of 192 to 207, the next two decide which designator is there.
abbrev pub three_words : ℕ → Option ℕ → Option ℕ → Option Designator
three_words first None third = None
three_words first (Some second) None = None
three_words first (Some second) (Some third) =
    if is_further second && is_further third
    then within_assigned 3 ((first - 192) * 64516 + 16383 + (second - 1) * 254 + (third - 1)) else None

-- The first three words, where there are as many, decide which designator is there.
abbrev pub designator_by : Option ℕ → Option ℕ → Option ℕ → Option Designator
designator_by None second third = None
designator_by (Some first) second third =
    if first == 0 then None else
    if nat_le first 127 then Some (record { count = 1; number = first - 1 }) else
    if nat_le first 191 then two_words first second else
    if nat_le first 207 then three_words first second third else None

-- The words begin with this designator, or with none.
abbrev pub first_designator : List ℕ → Option Designator
first_designator words = designator_by (slice_get words 0) (slice_get words 1) (slice_get words 2)

-- ---- heads

-- The numbers are those of a symbol of a sequence.
abbrev pub is_appended : Appended → Bool
is_appended symbol =
    nat_le 1 symbol.index && nat_le symbol.index symbol.count && nat_le 2 symbol.count && nat_le symbol.count 16
    && nat_le 1 symbol.file_high && nat_le symbol.file_high 254 && nat_le 1 symbol.file_low && nat_le symbol.file_low
    254

-- The three codewords behind structured append say this.
abbrev pub appended_symbol : ℕ → ℕ → ℕ → Appended
appended_symbol indicator high low =
    record { index = indicator / 16 + 1; count = 17 - indicator % 16; file_high = high; file_low = low }

-- Behind structured append, the next three words decide which head is there.
abbrev pub append_by : Option ℕ → Option ℕ → Option ℕ → Option Head
append_by (Some indicator) (Some high) (Some low) =
    if is_appended (appended_symbol indicator high low) then Some (head.Appended (appended_symbol indicator high low))
    else None
append_by _ _ _ = None

-- The first word decides which head is there.
abbrev pub head_by : Option ℕ → List ℕ → Option Head
head_by None words = None
head_by (Some word) words =
    if word == 234 then Some head.Programming else
    if word == 233 then append_by (slice_get words 1) (slice_get words 2) (slice_get words 3) else None

-- The words begin with this head, or with none.
abbrev pub first_head : List ℕ → Option Head
first_head words = head_by (slice_get words 0) words

-- A head has this many codewords.
abbrev pub head_length : Head → ℕ
head_length head.Programming = 1
head_length (head.Appended symbol) = 4

-- ---- openings

-- A codeword with this meaning is a latch to C40, Text or X12.
abbrev pub is_latch : Option Codeword → Bool
is_latch (Some (codeword.Latch set)) = true
is_latch _ = false

-- A frame has this many more codewords before it.
abbrev pub moved : ℕ → Option Frame → Option Frame
moved more None = None
moved more (Some frame) = Some (record { count = more + frame.count; digit = frame.digit })

-- The codewords are an empty run: a latch with this meaning, and an unlatch.
abbrev pub is_empty_run : Option Codeword → Option ℕ → Bool
is_empty_run latch None = false
is_empty_run latch (Some unlatch) = is_latch latch && (unlatch == 254)

-- A macro of this digit is a frame; where there is none, the other is.
abbrev pub frame_by : Option ℕ → Option Frame → Option Frame
frame_by (Some digit) other = Some (record { count = 1; digit = digit })
frame_by None other = other

-- The words begin with this frame, or with none.
unfoldable pub first_frame : List ℕ → Option Frame
first_frame [] = None
first_frame (word ∷ []) = frame_by (digit_by (codeword_of word)) None
first_frame (word ∷ next ∷ more) =
    frame_by (digit_by (codeword_of word))
    (if is_empty_run (codeword_of word) (Some next) then moved 2 (first_frame more) else None)

-- The words don't begin with ECI.
abbrev pub BeginNoEci : List ℕ → Type 0
BeginNoEci words = (more : List ℕ) → words ≢ 241 ∷ more

-- No frame begins the words.
abbrev pub BeginsNoFrame : List ℕ → Type 0
BeginsNoFrame words = (frame rest : List ℕ) (digit : ℕ) → AreFrame frame digit → words ≢ frame ++ rest

-- The words begin with neither structured append nor reader programming.
abbrev pub BeginsNoHeadWord : List ℕ → Type 0
BeginsNoHeadWord words = (word : ℕ) (rest : List ℕ) → (word ≡ 233) ⊎ (word ≡ 234) → words ≢ word ∷ rest

-- The words begin with structured append.
abbrev pub begins_append : List ℕ → Bool
begins_append [] = false
begins_append (word ∷ more) = word == 233

-- A head opens the content, or a frame, or nothing; none does where structured append begins no head.
abbrev pub opened_by : Option Head → Bool → Option Frame → Option Opened
opened_by (Some said) append frame = Some (record { opening = Headed said; count = head_length said })
opened_by None true frame = None
opened_by None false (Some frame) = Some (record { opening = Framed frame.digit; count = frame.count })
opened_by None false None = Some (record { opening = Plain; count = 0 })

-- The words open with this, or are refused. In the usual extent nothing opens them.
abbrev pub opened : Extent → List ℕ → Option Opened
opened Usual words = Some (record { opening = Plain; count = 0 })
opened Wide words = opened_by (first_head words) (begins_append words) (first_frame words)

-- ---- parts

-- A part of a message is a part of a content.
abbrev pub as_said : Step (List Item) (Option WordFault) → Step Said (Option ContentFault)
as_said (Takes count items) = Takes count (Items items)
as_said (Stops None) = Stops None
as_said (Stops (Some why)) = Stops (Some (fault.Word why))

-- Behind ECI at a place, a designator is a mark.
abbrev pub mark_by : ℕ → Option Designator → Step Said (Option ContentFault)
mark_by place (Some designator) = Takes (1 + designator.count) (Number designator.number)
mark_by place None = Stops (Some (fault.Designator place))

-- This codeword is ECI, where it is read.
abbrev pub is_eci : Extent → ℕ → Bool
is_eci Usual word = false
is_eci Wide word = word == eci_word

-- The words begin with a part of a content, the end, or a fault.
abbrev pub first_content_part : Extent → ℕ → List ℕ → Step Said (Option ContentFault)
first_content_part extent place [] = Stops None
first_content_part extent place (word ∷ more) =
    if is_eci extent word then mark_by place (first_designator more)
    else as_said (first_part extent place (word ∷ more))

-- The content has more items or one more mark, which a part says.
abbrev pub with_said : ContentView → Said → ContentView
with_said content (Items items) = record content { items = content.items ++ items }
with_said content (Number number) = with_mark content number

-- The content has more items and marks, which parts say.
abbrev pub extended : ContentView → List Said → ContentView
extended content said = record content {
  items = content.items ++ said_items said;
  marks = content.marks ++ said_marks (length content.items) said;
}

-- Items and marks are a content without a head.
abbrev pub items_with : List Mark → List Item → ContentView
items_with marks items = record { head = None; items = items; marks = marks }

-- The content is given if the walk came to the end, and else the fault.
abbrev pub content_to : ContentView → Option ContentFault → Result ContentView ContentFault
content_to content None = Ok content
content_to content (Some why) = Err why

-- This is read from a place on, behind what was read before.
unfoldable pub content_on : Extent → ContentView → ℕ → List ℕ → Result ContentView ContentFault
content_on extent content place words =
    let found =
    walk (first_content_part extent) None (suc (length words)) place words in content_to (extended content found.taken)
    found.why

-- The header of the format whose second digit is this byte.
abbrev pub macro_header : ℕ → List Item
macro_header digit = byte_items (91 ∷ 41 ∷ 62 ∷ 30 ∷ 48 ∷ digit ∷ 29 ∷ [])

-- The trailer.
abbrev pub macro_trailer : List Item
macro_trailer = byte_items (30 ∷ 4 ∷ [])

-- An opening says this head, or none.
abbrev pub opening_head : Opening → Option Head
opening_head Plain = None
opening_head (Headed head) = Some head
opening_head (Framed digit) = None

-- These items stand before those of the parts.
abbrev pub opening_items : Opening → List Item
opening_items Plain = []
opening_items (Headed head) = []
opening_items (Framed digit) = macro_header digit

-- These items stand behind those of the parts.
abbrev pub closing_items : Opening → List Item
closing_items Plain = []
closing_items (Headed head) = []
closing_items (Framed digit) = macro_trailer

-- These items stand before those of the parts, and no mark does.
abbrev pub opening_content : Opening → ContentView
opening_content opening = record { head = None; items = opening_items opening; marks = [] }

-- A content that was read behind an opening has its head, and stands before the items that close it.
abbrev pub and_closing : Opening → Result ContentView ContentFault → Result ContentView ContentFault
and_closing opening (Ok content) =
    Ok (record { head = opening_head opening; items = content.items ++ closing_items opening; marks = content.marks })
and_closing opening (Err why) = Err why

-- This is read behind an opening.
abbrev pub content_by : Extent → List ℕ → Option Opened → Result ContentView ContentFault
content_by extent words None = Err (fault.Append 1)
content_by extent words (Some found) =
    and_closing found.opening
    (content_on extent (opening_content found.opening) (1 + found.count) (drop found.count words))

-- This is read from all of the words.
abbrev pub content_of : Extent → List ℕ → Result ContentView ContentFault
content_of extent words = content_by extent words (opened extent words)
