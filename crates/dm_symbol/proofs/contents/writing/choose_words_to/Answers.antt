use Rattle.dm_symbol.proofs.Names.{AreChosen, Err, IfOk, sym, subst, take, OnErr, TooLong, ContentView, Form}
use Rattle.dm_symbol.proofs.Names.{IsWrittenAs}
use Rattle.dm_symbol.proofs.ChosenWords.{smallest_chosen, smallest_none}
use Rattle.dm_symbol.proofs.contents.writing.choose_words_to.Goals as goal

pub returns-in-Profiled-clause-none : goal.returns-in-Profiled-clause-none
returns-in-Profiled-clause-none c =
    let a = c.args in
    let l : ContentView = record { head = a.head; items = a.items.now; marks = a.marks.now } in
    let r = c.choose_normal_to in
    subst (λ (f : Form). OnErr r.result ((why : TooLong) → IsWrittenAs f a.how.size l (Err why))) (sym c.in-Profiled.is)
    r.ensures.none

pub returns-in-Smallest-clause-none : goal.returns-in-Smallest-clause-none
returns-in-Smallest-clause-none c =
    let a = c.args in
    let l : ContentView = record { head = a.head; items = a.items.now; marks = a.marks.now } in
    let r = c.smallest_words_to in
    subst (λ (f : Form). OnErr r.result ((why : TooLong) → IsWrittenAs f a.how.size l (Err why))) (sym c.in-Smallest.is)
    (smallest_none c.in-Smallest.extent a.how.size l r.new.words r.result r.ensures.smallest)

pub returns-in-Smallest-clause-chosen : goal.returns-in-Smallest-clause-chosen
returns-in-Smallest-clause-chosen c =
    let a = c.args in
    let l : ContentView = record { head = a.head; items = a.items.now; marks = a.marks.now } in
    let r = c.smallest_words_to in
    subst
    (λ (f : Form). IfOk r.result (λ size. AreChosen f a.how.size l size (take size.data_count r.new.words)))
    (sym c.in-Smallest.is)
    (smallest_chosen c.in-Smallest.extent a.how.size l r.new.words r.result r.ensures.smallest)
