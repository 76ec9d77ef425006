use Rattle.std.proofs.Common.{◌∙◌, ◌++◌, List, ℕ, ap, drop, length, refl, replicate}
use Rattle.dm_text.proofs.RowParts.{padded_is}
use Rattle.dm_text.proofs.row_part.last_bytes.Goals as goal

pub returns : goal.returns
returns c =
    let text : List ℕ = c.args.text.now in
    ap (λ (k : List ℕ). k ++ drop (length text) (replicate 32 0)) c.copy_from_slice.ensures.after
    ∙ padded_is text (drop (length text) (replicate 32 0)) c.requires refl
