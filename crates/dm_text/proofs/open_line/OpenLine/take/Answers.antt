use Rattle.std.proofs.Common.{◌∷◌, ◌++◌, [], List, ℕ, sym, ap, ◌∙◌, take, append-nil, append_assoc, get_or}
use Rattle.std.proofs.lemmas.List.{take_more, take_all}
use Rattle.dm_text.proofs.open_line.OpenLine.take.Goals as goal

pub loop-byte-init : goal.loop-byte-init
loop-byte-init c line facts = rw append-nil facts

pub loop-byte-preserved : goal.loop-byte-preserved
loop-byte-preserved c line facts =
    let prefix = take c.loop-byte.byte-index c.args.bytes.now in
    let byte = get_or c.args.bytes.now c.loop-byte.byte-index 0 in
    let more =
    ap (λ (l : List ℕ). line ++ l) (take_more c.args.bytes.now c.loop-byte.byte-index 0 c.loop-byte-test.true)
    ∙ sym (append_assoc line prefix (byte ∷ [])) in
    rw more (c.push.ensures (line ++ prefix) (c.loop-byte.invariant line facts))

pub returns : goal.returns
returns c line facts =
    rw (take_all c.loop-byte.byte-index c.args.bytes.now c.loop-byte-test.false) at (c.loop-byte.invariant line facts)
