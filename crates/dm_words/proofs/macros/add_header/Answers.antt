use Rattle.dm_words.proofs.Names.{append_assoc, refl}
use Rattle.dm_words.proofs.macros.add_header.Goals as goal

pub returns-clause-added : goal.returns-clause-added
returns-clause-added c =
    rw (
      c.add-7.ensures.added,
      c.add-6.ensures.added,
      c.add-5.ensures.added,
      c.add-4.ensures.added,
      c.add-3.ensures.added,
      c.add-2.ensures.added,
      c.add.ensures.added,
    ) (simp append_assoc refl)
