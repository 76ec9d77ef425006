use Rattle.dm_words.proofs.Names.{◌≡◌, ℕ, ◌+◌, ◌++◌, ◌∷◌, [], take, subst, arith, randomised}
use Rattle.dm_words.proofs.NormalForms.{bytes_more}
use Rattle.dm_words.proofs.base256.write_bytes.Goals as goal

pub loop-item-preserved : goal.loop-item-preserved
loop-item-preserved c =
    let held = c.loop-item.held in
    let old = take held c.loop-item.words in
    let new = take c.add.new.held c.add.new.list in
    let v = c.loop-item.invariant in
    let put : new ≡ old ++ randomised (held + 1) c.byte.result ∷ [] = cc in
    let place : held + 1 ≡ c.args.held.now + 1 + c.loop-item.item-index = omega (arith, v.counted) in
    record {
      counted = omega (arith, v.counted, c.add.ensures.counted);
      so_far = bytes_more (c.args.held.now + 1) _ old _ _ _ _ _ c.loop-item-test.true c.byte.ensures v.so_far
          (subst (λ (n : ℕ). new ≡ old ++ randomised n c.byte.result ∷ []) place put);
      number = cc (c.next_random-number.ensures.next (held + 1) v.number, c.add.ensures.counted);
    }
