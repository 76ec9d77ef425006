use Rattle.dm_words.proofs.Names.{◌∙◌, sym, refl, take, Wide}
use Rattle.dm_words.proofs.DesignationLoops.{of_fault, of_no_opening, of_parts}
use Rattle.dm_words.proofs.ContentReadings.{opening_room}
use Rattle.dm_words.proofs.contents.designation.designations_to.Goals as goal

pub returns-in_default-clause-found : goal.returns-in_default-clause-found
returns-in_default-clause-found c =
    of_no_opening c.args.words.now _ (sym c.opening_of.ensures ∙ c.in_default.is) refl

pub designations_from-requires : goal.designations_from-requires
designations_from-requires c =
    let opens = sym c.opening_of.ensures ∙ c.in-Some.is in record {
      in_range = (opening_room Wide c.args.words.now c.in-Some.opened opens).in_range;
      short = c.requires.short;
      room = c.requires.room;
    }

pub returns-in-Ok-clause-found : goal.returns-in-Ok-clause-found
returns-in-Ok-clause-found c =
    let opens = sym c.opening_of.ensures ∙ c.in-Some.is in
    let from = c.in-Ok.ensures.found in
    of_parts c.args.words.now c.in-Some.opened (take c.in-Ok.count c.designations_from.new.marks) opens from.0 from.1
    from.2

pub returns-in-Err-clause-found : goal.returns-in-Err-clause-found
returns-in-Err-clause-found c =
    let opens = sym c.opening_of.ensures ∙ c.in-Some.is in
    of_fault c.args.words.now c.in-Some.opened _ _ opens c.in-Err.ensures.found refl
