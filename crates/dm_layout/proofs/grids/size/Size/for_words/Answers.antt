use Rattle.std.proofs.Common.{rules, ◌∙◌, sym}
use Rattle.dm_layout.proofs.SquareSizes.{no_square_for, one_square_for}
use Rattle.dm_layout.proofs.TableRows.{none_for_words, smallest_for_words}
use Rattle.dm_layout.proofs.grids.size.Size.for_words.Goals as goal

pub returns-in_err-for_words-clause-value : goal.returns-in_err-for_words-clause-value
returns-in_err-for_words-clause-value c =
    let none = sym (no_square_for c.args.count c.in_err-for_words.ensures.none) in search rules

pub returns-in_err-for_words-clause-none : goal.returns-in_err-for_words-clause-none
returns-in_err-for_words-clause-none c =
    none_for_words c.args.count c.from_residual.result (returns-in_err-for_words-clause-value c)

pub returns-clause-value : goal.returns-clause-value
returns-clause-value c =
    let found = c.in_ok-for_words.ensures in
    c.of_symbol.ensures.value
    ∙ sym (one_square_for c.args.count c.in_ok-for_words.field-0 found.size found.chosen found.enough found.smallest)

pub returns-clause-smallest : goal.returns-clause-smallest
returns-clause-smallest c = smallest_for_words c.args.count c.of_symbol.result (returns-clause-value c)

pub returns-clause-none : goal.returns-clause-none
returns-clause-none c = none_for_words c.args.count c.of_symbol.result (returns-clause-value c)
