use Rattle.dm_symbol.proofs.Names.{◌∙◌, ap, arith, option_map, SizeEntry, IsDealtTwoWays, codeword_count}
use Rattle.dm_symbol.proofs.Dealings.{size_is, turned_of_size}
use Rattle.dm_symbol.proofs.Restarts.{is_restarted, none_restarted}
use Rattle.dm_symbol.proofs.symbol.dealing.restore_restarted.Goals as goal
use Rattle.dm_symbol.proofs.symbol.dealing.restore_restarted.Goals.{After-lift_to}

-- The size is dealt in two ways, and so has so many codewords.
two : (c : After-lift_to) → IsDealtTwoWays c.args.symbol.now.size
two c =
    let same = c.size-size.ensures.value in (
      omega (arith, c.if-rows-ne-SIDE.false, c.rows.ensures.value, ap (λ (s : SizeEntry). s.rows) same),
      omega (arith, c.if-columns-ne-SIDE.false, c.columns.ensures.value, ap (λ (s : SizeEntry). s.columns) same),
    )

pub turn_checks-requires-clause-count : goal.turn_checks-requires-clause-count
turn_checks-requires-clause-count c =
    let held = c.lift_to.ensures.holds.codewords in
    held.count ∙ ap codeword_count (size_is c.args.symbol.now.size held.size
    (two (goal.at.turn_checks-requires-clause-count c).After-lift_to))

pub restore_blocks-requires : goal.restore_blocks-requires
restore_blocks-requires c =
    let is = two (goal.at.restore_blocks-requires c).After-lift_to in
    rw (c.size-size.ensures.value, c.turn_checks.ensures) (record {
      words =
          turned_of_size c.args.symbol.now.size is 1558 c.lift_to.new.words c.lift_to.ensures.holds.codewords;
      doubtful = c.requires.doubtful;
      dealing = λ e. is;
    })

pub turn_checks-requires-in-Ok-clause-count : goal.turn_checks-requires-in-Ok-clause-count
turn_checks-requires-in-Ok-clause-count c =
    let words = rw c.size-size.ensures.value at c.in-Ok.ensures.words in
    words.count ∙ ap codeword_count (size_is c.args.symbol.now.size words.size
    (two (goal.at.turn_checks-requires-in-Ok-clause-count c).After-lift_to))

pub returns-in-Ok-clause-restored : goal.returns-in-Ok-clause-restored
returns-in-Ok-clause-restored c e =
    let same = c.size-size.ensures.value in
    is_restarted c.args.symbol.now (option_map (λ d. d.now) c.args.doubtful) c.lift_to.new.words
    c.lift_to.ensures.holds (two (goal.at.returns-in-Ok-clause-restored c).After-lift_to) c.turn_checks.new.words
    c.restore_blocks.new.words c.turn_checks-in-Ok.new.words c.restore_blocks.new.blocks.items
    (rw c.turn_checks.ensures) (rw same at c.in-Ok.ensures.words) (rw same at c.in-Ok.ensures.near)
    (rw same at c.in-Ok.ensures.readings) (rw c.turn_checks-in-Ok.ensures)

pub returns-in-Err-clause-lost : goal.returns-in-Err-clause-lost
returns-in-Err-clause-lost c e two_ways held codewords r =
    none_restarted c.args.symbol.now (option_map (λ d. d.now) c.args.doubtful) c.lift_to.new.words
    c.lift_to.ensures.holds (two (goal.at.returns-in-Err-clause-lost c).After-lift_to) c.turn_checks.new.words
    c.in-Err.field-0 c.turn_checks.ensures (rw c.size-size.ensures.value at c.in-Err.ensures.lost) held codewords r
