use Rattle.ecc200_calls.proofs.Names.{inl, inr, arith, length-map}
use Rattle.ecc200_calls.proofs.Written.{too_long_given}
use Rattle.ecc200_calls.proofs.writing.write_numbers.Goals as goal

pub returns-then-not-may_be_said : goal.returns-then-not-may_be_said
returns-then-not-may_be_said g c =
    let a = c.args in
    too_long_given a.wanted.form a.wanted.size a.wanted.head _ a.marks.now a.out.now c.show_fault.new.out
    c.requires.head c.requires.items (rw length-map c.requires.marks)
    (elim (c.may_be_said.ensures.many c.if-not-may_be_said.true) [
      | inl items ↦ inl (rw length-map (omega (arith, items)))
      | inr marks ↦ inr (omega (arith, marks))
    ])
    (cc)
