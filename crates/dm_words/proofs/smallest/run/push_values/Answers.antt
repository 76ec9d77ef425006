use Rattle.dm_words.proofs.Names.{ℕ, rules, arith, refl, length-take}
use Rattle.dm_words.proofs.RunWritten.{pushed_lengths, next_pushed}
use Rattle.dm_words.proofs.smallest.run.push_values.Goals as goal

pub push_value-part-requires : goal.push_value-part-requires
push_value-part-requires c =
    let n = pushed_lengths _ _ _ _ _ c.loop-value.invariant.pushed in record {
      small = search rules;
      part = search rules;
      room = omega (arith, length-take {A = ℕ});
    }

pub loop-value-preserved : goal.loop-value-preserved
loop-value-preserved c =
    record {
      within = c.push_value-part.ensures.within;
      pushed = next_pushed _ _ c.args.values.now _ _ _ c.push_value-part.result c.loop-value.value-index _ 0
          c.loop-value-test.true refl (search rules) c.loop-value.invariant.pushed c.push_value-part.ensures.pushed;
    }
