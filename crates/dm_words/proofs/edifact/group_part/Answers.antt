use Rattle.dm_words.proofs.Names.{take, ◌+◌, ◌*◌, ◌/◌, ◌%◌}
use Rattle.dm_words.proofs.GroupLoops.{ends_second, ends_third, ends_fourth, is_whole}
use Rattle.dm_words.proofs.edifact.group_part.Goals as goal

pub returns-then-second-eq-UNLATCH_VALUE-clause-taken : goal.returns-then-second-eq-UNLATCH_VALUE-clause-taken
returns-then-second-eq-UNLATCH_VALUE-clause-taken c =
    ends_second (c.args.high / 4) (c.args.high % 4 * 16 + c.args.middle / 16)
    (c.args.middle % 16 * 4 + c.args.low / 64) (c.args.low % 64) (take c.args.held.now c.args.items.now)
    c.character.result c.character.ensures (take c.add.new.held c.add.new.list) c.add.ensures.added
    c.if-first-eq-UNLATCH_VALUE.false
    c.if-second-eq-UNLATCH_VALUE.true

pub returns-then-third-eq-UNLATCH_VALUE-clause-taken : goal.returns-then-third-eq-UNLATCH_VALUE-clause-taken
returns-then-third-eq-UNLATCH_VALUE-clause-taken c =
    ends_third (c.args.high / 4) (c.args.high % 4 * 16 + c.args.middle / 16)
    (c.args.middle % 16 * 4 + c.args.low / 64) (c.args.low % 64) (take c.args.held.now c.args.items.now)
    c.character.result c.character.ensures (take c.add.new.held c.add.new.list) c.add.ensures.added
    c.if-first-eq-UNLATCH_VALUE.false
    c.character-2.result c.character-2.ensures (take c.add-2.new.held c.add-2.new.list) c.add-2.ensures.added
    c.if-second-eq-UNLATCH_VALUE.false
    c.if-third-eq-UNLATCH_VALUE.true

pub returns-then-fourth-eq-UNLATCH_VALUE-clause-taken : goal.returns-then-fourth-eq-UNLATCH_VALUE-clause-taken
returns-then-fourth-eq-UNLATCH_VALUE-clause-taken c =
    ends_fourth (c.args.high / 4) (c.args.high % 4 * 16 + c.args.middle / 16)
    (c.args.middle % 16 * 4 + c.args.low / 64) (c.args.low % 64) (take c.args.held.now c.args.items.now)
    c.character.result c.character.ensures (take c.add.new.held c.add.new.list) c.add.ensures.added
    c.if-first-eq-UNLATCH_VALUE.false
    c.character-2.result c.character-2.ensures (take c.add-2.new.held c.add-2.new.list) c.add-2.ensures.added
    c.if-second-eq-UNLATCH_VALUE.false
    c.character-3.result c.character-3.ensures (take c.add-3.new.held c.add-3.new.list) c.add-3.ensures.added
    c.if-third-eq-UNLATCH_VALUE.false
    c.if-fourth-eq-UNLATCH_VALUE.true

pub returns-clause-taken : goal.returns-clause-taken
returns-clause-taken c =
    is_whole (c.args.high / 4) (c.args.high % 4 * 16 + c.args.middle / 16) (c.args.middle % 16 * 4 + c.args.low / 64)
    (c.args.low % 64) (take c.args.held.now c.args.items.now)
    c.character.result c.character.ensures (take c.add.new.held c.add.new.list) c.add.ensures.added
    c.if-first-eq-UNLATCH_VALUE.false
    c.character-2.result c.character-2.ensures (take c.add-2.new.held c.add-2.new.list) c.add-2.ensures.added
    c.if-second-eq-UNLATCH_VALUE.false
    c.character-3.result c.character-3.ensures (take c.add-3.new.held c.add-3.new.list) c.add-3.ensures.added
    c.if-third-eq-UNLATCH_VALUE.false
    c.character-4.result c.character-4.ensures (take c.add-4.new.held c.add-4.new.list) c.add-4.ensures.added
    c.if-fourth-eq-UNLATCH_VALUE.false
