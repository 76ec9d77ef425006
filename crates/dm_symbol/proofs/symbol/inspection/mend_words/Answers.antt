use Rattle.dm_symbol.proofs.Names.{◌≡◌, refl, sym, option_map, rules, None, Some, Option, IsSome, BlockReading, true}
use Rattle.dm_symbol.proofs.Names.{false, false≢true, arith}
use Rattle.std.proofs.Common.{tests}
use Rattle.std.specs.Prelude.{IsNone}
use Rattle.std.proofs.lemmas.Iterator.{cases_from_any, YieldsList-from_slice}
use Rattle.dm_symbol.proofs.Restarts.{mended_none_lost, mended_not_restarted, mended_restarted}
use Rattle.dm_symbol.proofs.symbol.inspection.mend_words.Goals as goal

pub mend_blocks-requires : goal.mend_blocks-requires
mend_blocks-requires c =
    rw c.size-size.ensures.value (record { words = c.requires.held.codewords; doubtful = c.requires.doubtful })

-- None is none.
is_none : (o : Option BlockReading) → IsNone o → o ≡ None
is_none None h = refl
is_none (Some block) h = absurd (false≢true (sym h))

pub returns-then-not-any : goal.returns-then-not-any
returns-then-not-any c =
    let e = c.size-size.ensures.value in
    let none =
    cases_from_any _ _ false (λ (o : Option BlockReading). IsNone o) (λ (o : Option BlockReading). IsSome o)
    c.if-not-any.ensures.ran (YieldsList-from_slice c.mend_blocks.new.blocks.items cc) (λ x q k. search (rules, tests))
    (λ x q k. search (rules, tests)) in
    mended_none_lost c.args.symbol.now (option_map (λ d. d.now) c.args.doubtful) c.args.words.now c.requires.held
    c.mend_blocks.new.words c.mend_blocks.new.blocks.items (rw e at c.mend_blocks.ensures.words)
    (rw e at c.mend_blocks.ensures.count) (rw e at c.mend_blocks.ensures.mended)
    (λ b hb. none b None (omega arith) hb)

pub returns-then-mend_restarted : goal.returns-then-mend_restarted
returns-then-mend_restarted c =
    let e = c.size-size.ensures.value in
    let some =
    cases_from_any _ _ true (λ (o : Option BlockReading). IsNone o) (λ (o : Option BlockReading). IsSome o)
    c.if-not-any.ensures.ran (YieldsList-from_slice c.mend_blocks.new.blocks.items cc) (λ x q k. search (rules, tests))
    (λ x q k. search (rules, tests)) in
    let r = c.if-mend_restarted.ensures.restored refl in
    mended_restarted c.args.symbol.now (option_map (λ d. d.now) c.args.doubtful) c.args.words.now c.requires.held
    c.mend_blocks.new.words c.mend_restarted.new.words c.mend_blocks.new.blocks.items
    c.mend_restarted.new.blocks.items (rw e at c.mend_blocks.ensures.count) (rw e at c.mend_blocks.ensures.mended)
    some.0 some.1 (is_none _ (some.2 None)) r.0 r.1 r.2

pub returns-else-mend_restarted : goal.returns-else-mend_restarted
returns-else-mend_restarted c =
    let e = c.size-size.ensures.value in
    let stay = c.if-mend_restarted.ensures.same refl in
    rw (stay.0, stay.1)
    (mended_not_restarted c.args.symbol.now (option_map (λ d. d.now) c.args.doubtful) c.args.words.now c.requires.held
    c.mend_blocks.new.words c.mend_blocks.new.blocks.items (rw e at c.mend_blocks.ensures.words)
    (rw e at c.mend_blocks.ensures.count) (rw e at c.mend_blocks.ensures.mended)
    (c.if-mend_restarted.ensures.lost refl))
