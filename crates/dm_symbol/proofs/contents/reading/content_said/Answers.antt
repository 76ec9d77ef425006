use Rattle.dm_symbol.proofs.Names.{refl, rules, said_wide}
use Rattle.dm_symbol.proofs.contents.reading.content_said.Goals as goal

pub symbology_number-requires : goal.symbology_number-requires
symbology_number-requires g c =
    let content = c.content_to_as.new.content in
    (search rules, said_wide c.args.extent c.args.words.now content ((c.in-Ok.ensures.read.content content).0 refl))

pub returns-in-Ok-clause-said : goal.returns-in-Ok-clause-said
returns-in-Ok-clause-said g c =
    ((c.in-Ok.ensures.read.content c.content_to_as.new.content).0 refl, c.symbology_number.ensures.identifier)

pub returns-in-Err-clause-refused : goal.returns-in-Err-clause-refused
returns-in-Err-clause-refused g c = (c.in-Err.ensures.read.fault c.in-Err.fault).0 refl
