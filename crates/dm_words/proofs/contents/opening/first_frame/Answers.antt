use Rattle.dm_words.proofs.Names.{◌∙◌, sym, arith, nat_tests}
use Rattle.dm_words.proofs.Openings.{macro_next, none_next, run_next, none_at_end}
use Rattle.dm_words.proofs.contents.opening.first_frame.Goals as goal

pub returns-in-Some-digit_of : goal.returns-in-Some-digit_of
returns-in-Some-digit_of c = grind (arith, nat_tests, macro_next)

pub returns-then-not-is_empty_run : goal.returns-then-not-is_empty_run
returns-then-not-is_empty_run c = grind (arith, nat_tests, none_next)

pub loop-word-preserved : goal.loop-word-preserved
loop-word-preserved c =
    let r = run_next _ _ _ _ _ (sym c.word_at.ensures ∙ c.in-Some.is) (sym c.word_at-in-Some.ensures)
    (sym c.digit_of.ensures ∙ c.in_default-digit_of.is) (sym c.is_empty_run.ensures ∙ c.if-not-is_empty_run.false)
    c.loop-word.invariant.so_far in
    record { in_range = r.0; so_far = r.1 }

pub loop-word-smaller : goal.loop-word-smaller
loop-word-smaller c =
    let r = run_next c.args.words.now c.loop-word.at c.in-Some.word c.word_at-in-Some.result _ (sym c.word_at.ensures
    ∙ c.in-Some.is)
    (sym c.word_at-in-Some.ensures) (sym c.digit_of.ensures ∙ c.in_default-digit_of.is) (sym c.is_empty_run.ensures
    ∙ c.if-not-is_empty_run.false)
    c.loop-word.invariant.so_far in
    omega (arith, r.0)

pub returns : goal.returns
returns c =
    none_at_end c.args.words.now c.loop-word.at _ (sym c.word_at.ensures ∙ c.in_default.is) c.loop-word.invariant.so_far
