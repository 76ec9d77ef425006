use Rattle.dm_words.proofs.Names.{◌≡◌, ◌∙◌, ℕ, arith, ap, length, length-take, map, sym, subst, take, ascii, byte_of}
use Rattle.dm_words.proofs.Names.{one_segment, refl}
use Rattle.dm_words.proofs.NormalPlain.{message_plain}
use Rattle.dm_words.proofs.normal_form.write_counted.Goals as goal

pub returns-then-form-clause-form : goal.returns-then-form-clause-form
returns-then-form-clause-form c =
    let e = c.form_of-form.ensures in
    let form = rw c.if-form.true at e.form in
    subst (λ (n : ℕ). take n c.write_segment.new.words ≡ one_segment (map byte_of c.args.items.now))
    (sym (e.length ∙ ap length form)) c.write_segment.ensures ∙ sym form

pub returns-then-form-clause-plain : goal.returns-then-form-clause-plain
returns-then-form-clause-plain c =
    message_plain c.args.profile c.args.items.now (take c.form_of-form.result.length c.write_segment.new.words)
    (returns-then-form-clause-form c) (omega (arith, c.requires.most, length-take {A = ℕ}))

pub returns-else-form-clause-form : goal.returns-else-form-clause-form
returns-else-form-clause-form c =
    let e = c.form_of-form.ensures in
    let form = rw c.if-form.false at e.form in
    subst (λ (n : ℕ). take n c.write_ascii-same.new.words ≡ ascii c.args.items.now)
    (c.write_ascii-same.ensures.length ∙ sym (e.length ∙ ap length form)) c.write_ascii-same.ensures.words ∙ sym form

pub returns-else-form-clause-plain : goal.returns-else-form-clause-plain
returns-else-form-clause-plain c =
    message_plain c.args.profile c.args.items.now (take c.form_of-form.result.length c.write_ascii-same.new.words)
    (returns-else-form-clause-form c) (omega (arith, c.requires.most, length-take {A = ℕ}))

pub returns-then-form-words-clause-same : goal.returns-then-form-words-clause-same
returns-then-form-words-clause-same c = refl
