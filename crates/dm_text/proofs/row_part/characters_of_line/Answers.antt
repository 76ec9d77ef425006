use Rattle.std.proofs.Common.{◌≡◌, ◌∙◌, ◌≤◌, ℕ, List, ap, arith, eqb, length, not, subst, take}
use Rattle.std.specs.List.{prefix_len}
use Rattle.dm_text.specs.Texts.{HasNoLf}
use Rattle.dm_text.specs.inner.OpenRecords.{padded_block}
use Rattle.dm_text.proofs.RowParts.{no_lf_first, padded_first, padded_length}
use Rattle.std.proofs.lemmas.List.Sums.{prefix_len-le-length}
use Rattle.std.proofs.Math.Nat.{min-le_right}
use Rattle.dm_text.proofs.row_part.characters_of_line.Goals as goal

pub returns-clause-no_lf : goal.returns-clause-no_lf
returns-clause-no_lf c =
    let text : List ℕ = c.args.text.now in
    let block : List ℕ = c.first_bytes.result in
    let same : block ≡ padded_block text = c.first_bytes.ensures in
    let n : ℕ = c.min.result in
    let long : length block ≡ 32 = ap length same ∙ padded_length text in
    let count = c.lanes_before-count.ensures (λ b. eqb b 10) block long c.lf_bits.ensures in
    let few : n ≤ prefix_len (λ b. not (eqb b 10)) block =
    omega (arith, count, c.min.ensures, min-le_right (length text) c.lanes_before-count.result) in
    let short : n ≤ 32 = omega (arith, few, long, prefix_len-le-length (λ b. not (eqb b 10)) block) in
    let first : take n block ≡ take n text =
    ap (λ (k : List ℕ). take n k) same ∙ padded_first text n (omega arith) short in
    subst HasNoLf first (no_lf_first n block few)
