use Rattle.std.proofs.Common.{ℕ, ap, arith, length, length-append, rules}
use Rattle.dm_text.proofs.answer.push_counts.Goals as goal

pub push_decimal-requires : goal.push_decimal-requires
push_decimal-requires c = (omega arith, omega (arith, length-append {A = ℕ}, ap length c.push_all.ensures))

pub push_all-requires-2 : goal.push_all-requires-2
push_all-requires-2 c = (omega arith, omega (arith, length-append {A = ℕ}, ap length c.push_all.ensures))

pub push_decimal-requires-2 : goal.push_decimal-requires-2
push_decimal-requires-2 c =
    (omega arith, omega (arith, length-append {A = ℕ}, ap length c.push_all.ensures, ap length c.push_all-2.ensures))

pub push_all-requires-3 : goal.push_all-requires-3
push_all-requires-3 c =
    (omega arith, omega (arith, length-append {A = ℕ}, ap length c.push_all.ensures, ap length c.push_all-2.ensures))

pub push_spaced-requires : goal.push_spaced-requires
push_spaced-requires c = (
  omega arith,
  (
    omega (
      arith,
      length-append {A = ℕ},
      ap length c.push_all.ensures,
      ap length c.push_all-2.ensures,
      ap length c.push_all-3.ensures,
    ),
    search rules,
  ),
)

pub returns-clause-room : goal.returns-clause-room
returns-clause-room c =
    omega (
      arith,
      length-append {A = ℕ},
      ap length c.push_all.ensures,
      ap length c.push_all-2.ensures,
      ap length c.push_all-3.ensures,
      c.deref.ensures.1,
    )
