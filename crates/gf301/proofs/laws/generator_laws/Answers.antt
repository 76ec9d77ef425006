use Rattle.std.proofs.Common.{◌≡◌, ◌+◌, ◌-◌, suc, arith, ap, ◌∙◌}
use Rattle.gf301.specs.Field.{power}
use Rattle.gf301.specs.Polynomial.{value}
use Rattle.gf301.specs.Generator.{generator}
use Rattle.gf301.proofs.GeneratorLaws.{generator_length, generator_first, bytes_generator, generator_root}
use Rattle.gf301.proofs.GeneratorLaws.{generator_positive}
use Rattle.gf301.proofs.laws.generator_laws.Goals as goal

pub returns-clause-length : goal.returns-clause-length
returns-clause-length c = λ k. let e : suc k ≡ k + 1 = omega arith in generator_length k ∙ e

pub returns-clause-first : goal.returns-clause-first
returns-clause-first c = generator_first

pub returns-clause-bytes : goal.returns-clause-bytes
returns-clause-bytes c = bytes_generator

pub returns-clause-roots : goal.returns-clause-roots
returns-clause-roots c = λ k i l h.
    let e : i ≡ 1 + (i - 1) = omega arith in
    ap (λ j. value (generator k) (power j)) e ∙ generator_root k (i - 1) (omega arith)

pub returns-clause-no_other : goal.returns-clause-no_other
returns-clause-no_other c = generator_positive
