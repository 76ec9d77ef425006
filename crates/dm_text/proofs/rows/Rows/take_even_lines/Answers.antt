use Rattle.std.proofs.Common.{◌≡◌, ◌∙◌, ◌+◌, ◌-◌, ◌<◌, ◌++◌, List, ℕ, ap, sym, subst, get_or, length, take, drop, arith}
use Rattle.std.proofs.lemmas.List.{get_or-drop}
use Rattle.dm_text.specs.inner.OpenRecords.{EndsLines}
use Rattle.dm_text.specs.Texts.{lf}
use Rattle.dm_text.proofs.KnownBytes.{rest_is}
use Rattle.dm_text.proofs.Pieces.{rest_length}
use Rattle.dm_text.proofs.RowParts.{line_more}
use Rattle.dm_text.proofs.rows.Rows.take_even_lines.Goals as goal

pub loop-line-preserved : goal.loop-line-preserved
loop-line-preserved c =
    let bytes : List ℕ = c.args.bytes.now in
    let at : ℕ = c.loop-line.at in
    let n : ℕ = c.in-Some.line.count in
    let first = c.in-Some.ensures.line in
    let line : List ℕ = take n (take (length bytes - at) (drop at bytes)) in
    let within : at + n < length bytes =
    omega (arith, first.within, rest_length bytes at, c.loop-line.invariant.within) in
    let ends : get_or bytes (at + n) 0 ≡ lf =
    sym (get_or-drop at bytes n 0) ∙ ap (λ (k : List ℕ). get_or k n 0) (sym (rest_is bytes at)) ∙ first.ended in
    let next : at + (c.from-in-Some.result + 1) ≡ at + n + 1 = omega (arith, c.from-in-Some.ensures) in
    record {
      within = omega (arith, within, next);
      ended = λ lines held.
          let before = c.loop-line.invariant.ended lines held in
          subst (λ (i : ℕ). EndsLines c.push_line.new.self lines (take i bytes)) (sym next)
          (line_more c.loop-line.self c.push_line.new.self lines bytes at n c.in-Some.line within ends first.cells
          before (c.if-not-push_line.ensures.held (lines ++ before.more) line before.held first.cells));
    }
