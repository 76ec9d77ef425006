use Rattle.std.proofs.Common.{take, refl, arith}
use Rattle.dm_code.specs.Syndromes.{syndromes_of}
use Rattle.dm_code.proofs.Bytes.{bytes_places}
use Rattle.dm_code.proofs.CleanWords.{codeword_from_syndromes, zeros_of_zeros, zeros_of_first}
use Rattle.dm_code.proofs.correction.correct_to.Goals as goal

-- ---- a word that is a codeword
pub returns-then-are_zero-clause-near : goal.returns-then-are_zero-clause-near
returns-then-are_zero-clause-near g c none = absurd (none refl)

pub returns-then-are_zero-clause-changed : goal.returns-then-are_zero-clause-changed
returns-then-are_zero-clause-changed g c none = absurd (none refl)

pub returns-then-are_zero-clause-itself : goal.returns-then-are_zero-clause-itself
returns-then-are_zero-clause-itself g c =
    let w = c.args.word.now in
    let k = c.args.k in
    let r = c.remainder-rest.result in (
      λ e. codeword_from_syndromes k w (syndromes_of (take k r) k) c.requires.most c.requires.data c.requires.long
          (bytes_places w (λ i h. omega (arith, c.type_inv.word i))) c.remainder-rest.ensures.same
          (zeros_of_zeros k (take k r) (zeros_of_first k r (c.are_zero.ensures.0 c.if-are_zero.true))),
      λ h. refl,
    )

pub mend-requires-clause-rest : goal.mend-requires-clause-rest
mend-requires-clause-rest g c = c.remainder-rest.ensures.same
