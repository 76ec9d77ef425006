-- The list of syndromes: how long it is, what it holds, and one syndrome more.
use Rattle.std.proofs.Common.{◌≡◌, ℕ, suc, ◌+◌, ◌<◌, ◌≤◌, ◌↔◌, List, [], ◌∷◌, ◌++◌, length, get_or, replicate, sym, ap}
use Rattle.std.proofs.Common.{◌∙◌, arith}
use Rattle.std.proofs.lemmas.List.{ext_get_or, length-replicate, get_or-replicate}
use Rattle.gf301.specs.Field.{power}
use Rattle.gf301.specs.Polynomial.{value, Bytes}
use Rattle.gf301.proofs.Exported.{bytes_values_from, length-values_from, get_or-values_from, values_from_push}
use Rattle.gf301.proofs.Exported.{value_below}
use Rattle.dm_code.specs.Codeword.{IsCodeword}
use Rattle.dm_code.specs.Syndromes.{syndromes_of}
use Rattle.dm_code.proofs.Codewords.{codeword_values, codeword_from_values}

-- The values of a word are taken at the powers of 2.
values : List ℕ → ℕ → ℕ
values w i = value w (power i)

-- There are k syndromes.
pub syndromes_length : (w : List ℕ) (k : ℕ) → length (syndromes_of w k) ≡ k
unfolding values
syndromes_length w k = length-values_from (values w) 1 k

-- The syndrome at the place i is the value at 2^(1 + i).
pub syndrome_at : (w : List ℕ) (k i : ℕ) → i < k → get_or (syndromes_of w k) i 0 ≡ value w (power (1 + i))
unfolding values
syndrome_at w k i h = get_or-values_from (values w) 1 k i h

-- Syndromes are bytes.
pub syndromes_bytes : (w : List ℕ) (k : ℕ) → Bytes (syndromes_of w k)
unfolding values
syndromes_bytes w k = bytes_values_from (values w) (λ i. value_below w (power i)) 1 k

-- One root more gives one syndrome more, at the end.
pub syndromes_push : (w : List ℕ) (n : ℕ) → syndromes_of w (suc n) ≡ syndromes_of w n ++ value w (power (1 + n)) ∷ []
unfolding values
syndromes_push w n = values_from_push (values w) 1 n

-- Two lists with the same values at 2^1 to 2^k have the same k syndromes.
pub same_syndromes : (v w : List ℕ) (k : ℕ) → ((i : ℕ) → i < k → value v (power (suc i)) ≡ value w (power (suc i))) →
    syndromes_of v k ≡ syndromes_of w k
same_syndromes v w k h =
    ext_get_or 0 (syndromes_of v k) (syndromes_of w k) (syndromes_length v k ∙ sym (syndromes_length w k))
    (λ i l.
    let b : i < k = omega (arith, syndromes_length v k) in
    let q : 1 + i ≡ suc i = omega arith in
    syndrome_at v k i b ∙ ap (λ j. value v (power j)) q ∙ h i b ∙ ap (λ j. value w (power j)) (sym q)
    ∙ sym (syndrome_at w k i b))

-- ---- codewords are the words without syndromes
-- The syndromes of a codeword are 0.
pub codeword_syndromes : (k : ℕ) (w : List ℕ) → IsCodeword k w → syndromes_of w k ≡ replicate k 0
codeword_syndromes k w c =
    ext_get_or 0 (syndromes_of w k) (replicate k 0) (syndromes_length w k ∙ sym (length-replicate k 0))
    (λ i l. let h : i < k = omega (arith, syndromes_length w k) in syndrome_at w k i h ∙ codeword_values k w c i h
    ∙ sym (get_or-replicate k i 0 0 h))

-- A word whose syndromes are 0 is a codeword.
pub codeword_from_syndromes : (k : ℕ) (w : List ℕ) → Bytes w → k < length w → length w ≤ 255 →
    syndromes_of w k ≡ replicate k 0 → IsCodeword k w
codeword_from_syndromes k w b l h e =
    codeword_from_values k w (omega arith) h (omega arith) b
    (λ i m. sym (syndrome_at w k i m) ∙ ap (λ t. get_or t i 0) e ∙ get_or-replicate k i 0 0 m)

-- A word of a block is a codeword exactly where its syndromes are 0.
pub no_syndromes : (k : ℕ) (w : List ℕ) → Bytes w → k < length w → length w ≤ 255 →
    IsCodeword k w ↔ (syndromes_of w k ≡ replicate k 0)
no_syndromes k w b l h = (codeword_syndromes k w, codeword_from_syndromes k w b l h)
