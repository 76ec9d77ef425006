-- The codewords of the normal form of a content are 0 to 255.
use Rattle.dm_words.proofs.Names.{ℕ, ◌-◌, ◌<◌, List, [], ◌∷◌, length, take, drop, arith, Option, All-from_recursion}
use Rattle.dm_words.proofs.Names.{recursion_from_All, Item, Head, Mark, Profile, ascii, AreBytes, IsDesignator}
use Rattle.dm_words.proofs.Names.{designator, IsHead, SpellsHead, AreCodewords, ContentView, IsContent}
use Rattle.dm_words.proofs.Names.{AreMarks, ascii_with_marks, form_by, content_form, IsItem, padded, nat_tests}
use Rattle.dm_words.proofs.AsciiWords.{AreItems, ascii_bytes}
use Rattle.dm_words.proofs.Designators.{designator_says}
use Rattle.dm_words.proofs.Heads.{head_says}
use Rattle.dm_words.proofs.NormalForms.{normal_form_bytes}
use Rattle.dm_words.proofs.PadWords.{padded_bytes}
use Rattle.dm_words.proofs.Pieces.{all-append, all-take}

-- A designator is bytes.
said_bytes : (words : List ℕ) (number : ℕ) → IsDesignator words number → AreBytes words
said_bytes words number h1 = grind (arith, nat_tests)

-- So is a head.
head_bytes : (words : List ℕ) (said : Head) → SpellsHead words said → AreBytes words
head_bytes words said h1 = grind (arith, nat_tests)

-- So are items with marks.
marked_bytes : (before most : ℕ) (items : List Item) (marks : List Mark) → AreItems items → AreMarks before most marks
    → AreBytes (ascii_with_marks before items marks)
marked_bytes before most items [] fit are = ascii_bytes items fit
marked_bytes before most items (m ∷ marks) fit are =
    let n = m.place - before in
    let fits = all-take IsItem n items fit in
    let rest = marked_bytes m.place most (drop n items) marks fits.1 are.2 in
    let mark = said_bytes (designator m.number) m.number (designator_says m.number are.1) in
    all-append (λ w. w < 256) (ascii (take n items)) _ (ascii_bytes (take n items) fits.0)
    (omega arith, all-append (λ w. w < 256) (designator m.number) _ mark rest)

-- So is the normal form.
form_bytes : (profile : Profile) (said : Option Head) (items : List Item) (marks : List Mark) → IsHead said
    → AreItems items → AreMarks 0 (length items) marks → AreBytes (form_by profile said items marks)
form_bytes profile said items marks h1 h2 h3 =
    grind (arith, nat_tests, normal_form_bytes, marked_bytes, all-append, head_bytes, head_says)

-- The codewords of the normal form with pads are bytes.
pub content_form_codewords : (profile : Profile) (l : ContentView) (count : ℕ) → IsContent l
    → AreCodewords (padded (content_form profile l) count)
content_form_codewords profile l count right =
    All-from_recursion (λ w. w < 256) (padded (content_form profile l) count)
    (padded_bytes (content_form profile l) count
    (form_bytes profile l.head l.items l.marks right.head (recursion_from_All IsItem l.items right.items) right.marks))
