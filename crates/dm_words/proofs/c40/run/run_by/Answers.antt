use Rattle.dm_words.proofs.Names.{◌+◌, take, refl, sym, ◌∙◌, Some, None, items_in}
use Rattle.dm_words.proofs.RunLoops.{run_is}
use Rattle.dm_words.proofs.c40.run.run_by.Goals as goal

pub returns-in-Some-clause-taken : goal.returns-in-Some-clause-taken
returns-in-Some-clause-taken c =
    let p = c.pairs_to-pairs in
    let r = c.read_values-spelled in
    run_is _ _ (c.args.at + 1) _ _ p.result.word_count p.result.end r.result.value_count r.result.rest
    (Some c.in-Some.fault) (p.ensures.values, p.ensures.word_count, p.ensures.end) r.ensures.value_count r.ensures.rest
    (sym c.fault_of.ensures ∙ c.in-Some.is)

pub returns-in-None-clause-taken : goal.returns-in-None-clause-taken
returns-in-None-clause-taken c =
    let p = c.pairs_to-pairs in
    let r = c.read_values-spelled in
    let values = take p.result.value_count p.new.values in
    let run = run_is c.args.extent c.args.set (c.args.at + 1) c.args.words.now values p.result.word_count
    p.result.end _ _ None (p.ensures.values, p.ensures.word_count, p.ensures.end) r.ensures.value_count r.ensures.rest
    (sym c.fault_of.ensures ∙ c.in-None.is) in
    ((items_in c.args.set values).taken, run ∙ rw c.end_length.ensures refl, r.ensures.items)
