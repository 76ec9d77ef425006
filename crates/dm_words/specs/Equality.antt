-- What `==` gives for messages and for contents: whether their items, heads and marks agree.
use Rattle.std.specs.Prelude.{List, Bool}
use Rattle.std.specs.Option.{option_eq}
use Rattle.std.specs.Ordering.{on, eq_of_both}
use Rattle.std.specs.Cmp.{IsEquivalence, and_equiv, on_equiv}
use Rattle.std.specs.Cmp.Lexicographic.{pointwise, lists_equiv, options_equiv}
use Rattle.dm_words.specs.declared.item.Item.{Item}
use Rattle.dm_words.specs.declared.contents.head.Head.{Head}
use Rattle.dm_words.specs.declared.contents.mark.Mark.{Mark}
use Rattle.dm_words.specs.Contents.{ContentView}
use Rattle.dm_words.specs.contracts.item.ItemPartialEq.TheImpl as item
use Rattle.dm_words.specs.contracts.item.ItemEq.TheImpl.Laws as item_laws
use Rattle.dm_words.specs.contracts.contents.head.HeadPartialEq.TheImpl as head
use Rattle.dm_words.specs.contracts.contents.head.HeadEq.TheImpl.Laws as head_laws
use Rattle.dm_words.specs.contracts.contents.mark.MarkPartialEq.TheImpl as mark
use Rattle.dm_words.specs.contracts.contents.mark.MarkEq.TheImpl.Laws as mark_laws

-- Two messages are equal if their items agree.
abbrev pub equal_items : List Item → List Item → Bool
equal_items = pointwise (λ (a b : Item). item.ghosts.eq a b)

-- Two contents are equal if their heads, items and marks agree.
abbrev pub equal_contents : ContentView → ContentView → Bool
equal_contents =
    eq_of_both (on (λ c. c.head) (option_eq (λ (a b : Head). head.ghosts.eq a b)))
    (eq_of_both (on (λ c. c.items) equal_items) (on (λ c. c.marks) (pointwise (λ (a b : Mark). mark.ghosts.eq a b))))

-- Equality of messages is an equivalence.
pub items_equiv : IsEquivalence equal_items
items_equiv = lists_equiv item_laws.laws-law

-- Equality of contents is an equivalence.
pub contents_equiv : IsEquivalence equal_contents
contents_equiv =
    and_equiv (on_equiv (λ (c : ContentView). c.head) (options_equiv head_laws.laws-law))
    (and_equiv (on_equiv (λ (c : ContentView). c.items) items_equiv)
    (on_equiv (λ (c : ContentView). c.marks) (lists_equiv mark_laws.laws-law)))
