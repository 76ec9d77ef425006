use Rattle.dm_words.proofs.Names.{◌≡◌, ◌∙◌, ℕ, arith, ap, length, length-take, map, sym, subst, take, ascii, byte_of}
use Rattle.dm_words.proofs.Names.{one_segment, nat_tests}
use Rattle.dm_words.proofs.NormalPlain.{message_plain}
use Rattle.dm_words.proofs.normal_form.normal_words_to.Goals as goal

pub write_segment-requires : goal.write_segment-requires
write_segment-requires c = grind (arith, nat_tests)

pub returns-then-form-clause-form : goal.returns-then-form-clause-form
returns-then-form-clause-form c =
    let e = c.form_of-form.ensures in
    let form = rw c.if-form.true at e.form in
    subst (λ (n : ℕ). take n c.write_segment.new.words ≡ one_segment (map byte_of c.args.items.now))
    (sym (e.length ∙ ap length form)) c.write_segment.ensures ∙ sym form

pub returns-then-form-clause-plain : goal.returns-then-form-clause-plain
returns-then-form-clause-plain c =
    message_plain c.args.profile c.args.items.now (take c.form_of-form.result.length c.write_segment.new.words)
    (returns-then-form-clause-form c) (omega (arith, c.requires.most, length-take {A = ℕ}))

pub returns-else-form-clause-form : goal.returns-else-form-clause-form
returns-else-form-clause-form c =
    let e = c.form_of-form.ensures in
    let form = rw c.if-form.false at e.form in
    subst (λ (n : ℕ). take n c.write_ascii.new.words ≡ ascii c.args.items.now)
    (c.write_ascii.ensures.length ∙ sym (e.length ∙ ap length form)) c.write_ascii.ensures.words ∙ sym form

pub returns-else-form-clause-plain : goal.returns-else-form-clause-plain
returns-else-form-clause-plain c =
    message_plain c.args.profile c.args.items.now (take c.form_of-form.result.length c.write_ascii.new.words)
    (returns-else-form-clause-form c) (omega (arith, c.requires.most, length-take {A = ℕ}))

pub returns-then-not-surely_fits-clause-same : goal.returns-then-not-surely_fits-clause-same
returns-then-not-surely_fits-clause-same c = c.write_counted.ensures.same
