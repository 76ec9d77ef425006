use Rattle.ecc200_calls.proofs.Names.{Ok, ContentView, refl, reads_content_by_result}
use Rattle.ecc200_calls.specs.inner.Restored.{reading_said}
use Rattle.ecc200_calls.proofs.NormalGiven.{normal_of_content}
use Rattle.ecc200_calls.proofs.normalising.NormalSymbolAnswer.show.Goals as goal

pub returns : goal.returns
returns c extent symbol doubtful limit read =
    let a = c.args in
    let content : ContentView =
    record { head = a.said.now.head; items = a.said.now.items.now; marks = a.said.now.marks.now } in
    normal_of_content extent a.self.now.profile symbol doubtful limit a.out.now c.write_content.new.out content
    (reads_content_by_result symbol doubtful extent limit (Ok (reading_said a.said.now)) content read refl)
    c.write_content.ensures
