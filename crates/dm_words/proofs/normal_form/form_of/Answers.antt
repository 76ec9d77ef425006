use Rattle.dm_words.proofs.Names.{◌∙◌, sym, ap, cond, arith, nat_tests}
use Rattle.dm_words.proofs.NormalForms.{form_known}
use Rattle.dm_words.proofs.normal_form.form_of.Goals as goal

pub returns-then-is_segment-clause-form : goal.returns-then-is_segment-clause-form
returns-then-is_segment-clause-form c = grind (arith, nat_tests, form_known)

pub returns-then-is_segment-clause-length : goal.returns-then-is_segment-clause-length
returns-then-is_segment-clause-length c =
    ap (λ t. cond t c.segment_length-segment.result c.args.known.length) (sym c.if-is_segment.true)
    ∙ (form_known c.args.profile c.args.items.now c.takes_segment-is_segment.result c.args.known.has_fnc1
    c.segment_length-segment.result c.args.known.length c.takes_segment-is_segment.ensures.ascii
    c.takes_segment-is_segment.ensures.shorter c.requires.has_fnc1 c.segment_length-segment.ensures
    c.requires.length).1

pub returns-else-is_segment-clause-form : goal.returns-else-is_segment-clause-form
returns-else-is_segment-clause-form c = grind (arith, nat_tests, form_known)

pub returns-else-is_segment-clause-length : goal.returns-else-is_segment-clause-length
returns-else-is_segment-clause-length c =
    ap (λ t. cond t c.segment_length-segment.result c.args.known.length) (sym c.if-is_segment.false)
    ∙ (form_known c.args.profile c.args.items.now c.takes_segment-is_segment.result c.args.known.has_fnc1
    c.segment_length-segment.result c.args.known.length c.takes_segment-is_segment.ensures.ascii
    c.takes_segment-is_segment.ensures.shorter c.requires.has_fnc1 c.segment_length-segment.ensures
    c.requires.length).1
