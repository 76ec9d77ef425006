use Rattle.std.proofs.Common.{◌≡◌, ◌≢◌, ◌∙◌, ◌+◌, ◌-◌, ◌<◌, ◌≤◌, ◌∷◌, ◌++◌, [], List, ℕ, ap, sym, subst, get_or, length}
use Rattle.std.proofs.Common.{take, drop, arith}
use Rattle.dm_text.specs.inner.OpenRecords.{EndsLines}
use Rattle.dm_text.specs.Texts.{lf}
use Rattle.dm_text.proofs.Pieces.{go_on, rest_length}
use Rattle.dm_text.proofs.RowParts.{line_more}
use Rattle.dm_text.proofs.KeptRows.{ends_joined}
use Rattle.dm_text.proofs.rows.Rows.take_lines.Goals as goal

-- The cells at a place are a line that ends before the bytes do.
line_within : (bytes : List ℕ) (at n : ℕ) → at ≤ length bytes → at + n ≢ length bytes →
    n ≤ length (take (length bytes - at) (drop at bytes)) → at + n < length bytes
line_within bytes at n within other le = omega (arith, other, le, rest_length bytes at, within)

pub take_even_lines-requires : goal.take_even_lines-requires
take_even_lines-requires c =
    let bytes : List ℕ = c.args.bytes.now in
    let at : ℕ = c.loop-cells.at in
    let cells = c.in-Some.ensures.cells in
    let line : List ℕ = take c.in-Some.cells.count (take (length bytes - at) (drop at bytes)) in
    let before = c.loop-cells.invariant.ended c.requires.0 c.requires.1 in (
      (c.requires.0 ++ before.more) ++ line ∷ [],
      c.if-not-push_line.ensures.held (c.requires.0 ++ before.more) line before.held cells,
    )

pub loop-cells-preserved : goal.loop-cells-preserved
loop-cells-preserved c =
    let bytes : List ℕ = c.args.bytes.now in
    let at : ℕ = c.loop-cells.at in
    let n : ℕ = c.in-Some.cells.count in
    let k : ℕ = c.take_even_lines.result in
    let cells = c.in-Some.ensures.cells in
    let line : List ℕ = take n (take (length bytes - at) (drop at bytes)) in
    let within : at + n < length bytes =
    line_within bytes at n c.loop-cells.invariant.within
    (λ e. c.if-end-bytes.false (ap (λ (i : ℕ). at + i) c.from.ensures ∙ e)) c.in-Some.ensures.within in
    let ends : get_or bytes (at + n) 0 ≡ lf =
    ap (λ (i : ℕ). get_or bytes (at + i) 0) (sym c.from.ensures) ∙ c.if-bytes-end-ne-LF.false in
    let next : at + c.from.result + 1 ≡ at + n + 1 = ap (λ (i : ℕ). at + i + 1) c.from.ensures in
    record {
      within = omega (
        arith,
        c.take_even_lines.ensures.within,
        rest_length bytes (at + c.from.result + 1),
        within,
        next,
      );
      ended = λ lines held.
          let before = c.loop-cells.invariant.ended lines held in
          let one =
          line_more c.loop-cells.self c.push_line.new.self lines bytes at n c.in-Some.cells within ends cells before
          (c.if-not-push_line.ensures.held (lines ++ before.more) line before.held cells) in
          let here =
          subst (λ (i : ℕ). EndsLines c.push_line.new.self lines (take i bytes)) (sym next) one in
          subst (λ (i : List ℕ). EndsLines c.take_even_lines.new.self lines i)
          (go_on [] bytes (at + c.from.result + 1) k)
          (ends_joined c.push_line.new.self c.take_even_lines.new.self lines (take (at + c.from.result + 1) bytes) _
          here (c.take_even_lines.ensures.ended (lines ++ here.more) here.held));
    }
