use Rattle.ecc200_calls.proofs.Names.{Ok, ContentReadResult, ContentView, content_is, content_reading_of, refl, rules}
use Rattle.ecc200_calls.proofs.Names.{subst, sym, refused_content_result, said_content_result}
use Rattle.dm_words.proofs.Exported.{said_wide}
use Rattle.ecc200_calls.proofs.answer.answer_words.Goals as goal

pub symbology_number-identifier-requires : goal.symbology_number-identifier-requires
symbology_number-identifier-requires g c =
    let content = c.content_to_as.new.content in (
      search rules,
      said_wide c.args.extent c.data_part-list.result.now content ((c.in-Ok.ensures.read.content content).0 refl),
    )

pub returns-in-Ok : goal.returns-in-Ok
returns-in-Ok g c symbol doubtful limit is =
    let a = c.args in
    let restored = a.restored.now in
    let content = c.content_to_as.new.content in
    let number = c.symbology_number-identifier.result in
    let says = rw c.data_part-list.ensures.value at ((c.in-Ok.ensures.read.content content).0 refl) in
    let numbered = rw c.data_part-list.ensures.value at c.symbology_number-identifier.ensures.identifier in
    let same = content_is content c.head.result c.items.result.now c.marks.result.now c.head.ensures.value
    c.items.ensures.value c.marks.ensures.value in
    rw c.size.ensures.value at (c.show.ensures a.extent symbol doubtful limit
    (subst (λ (l : ContentView). ContentReadResult a.extent symbol doubtful limit
    (Ok (content_reading_of l number restored.dealing restored.blocks.items restored.border_faults))) (sym same)
    (said_content_result a.extent symbol doubtful limit a.words.now restored.dealing restored.blocks.items
    restored.border_faults is content number says numbered)))

pub returns-in-Err : goal.returns-in-Err
returns-in-Err g c symbol doubtful limit is =
    let a = c.args in
    let restored = a.restored.now in
    let refused = rw c.data_part-list.ensures.value at ((c.in-Err.ensures.read.fault c.in-Err.why).0 refl) in
    c.refuse.ensures a.extent a.words.now.size.rows a.words.now.size.columns symbol doubtful limit
    (refused_content_result a.extent symbol doubtful limit a.words.now restored.dealing restored.blocks.items
    restored.border_faults is c.in-Err.why refused)
