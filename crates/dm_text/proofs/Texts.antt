-- Texts that are split at LF.
use Rattle.std.proofs.Common.{◌≡◌, ◌∙◌, ◌+◌, ◌<◌, ℕ, List, [], ◌∷◌, ◌++◌, refl, sym, ap, subst, append_assoc, length}
use Rattle.std.proofs.Common.{take, arith}
use Rattle.std.proofs.lemmas.List.{length-take-le}
use Rattle.dm_text.specs.Texts.{lf, HasNoLf, ended_lines, IsSplit}

-- As many bytes stand before a place of a piece as the place says, and one more with the byte there.
pub length-prefix : (end : ℕ) (piece : List ℕ) → end < length piece → end + 1 ≡ length (take end piece) + 1
length-prefix end piece lt = ap (λ n. n + 1) (sym (length-take-le end piece (omega arith)))

-- Bytes without LF, followed by others without LF, have none.
pub no_lf_append : (a b : List ℕ) → HasNoLf a → HasNoLf b → HasNoLf (a ++ b)
no_lf_append [] b p q = q
no_lf_append (x ∷ a) b p q = (p.0, no_lf_append a b p.1 q)

-- Bytes without LF have no LF within them.
lf_in : (a b : List ℕ) → HasNoLf (a ++ lf ∷ b) → ⊥
lf_in [] b p = p.0 refl
lf_in (x ∷ a) b p = lf_in a b p.1

-- The bytes before the first LF, and those after it, are the same, whichever way they are found.
pub first_lf : (a b c d : List ℕ) → HasNoLf a → HasNoLf c → a ++ lf ∷ b ≡ c ++ lf ∷ d → (a ≡ c) × (b ≡ d)
first_lf [] b [] d p q e = (refl, cc)
first_lf [] b (y ∷ c) d p q e = let h : lf ≡ y = cc in absurd (q.0 (sym h))
first_lf (x ∷ a) b [] d p q e = let h : x ≡ lf = cc in absurd (p.0 h)
first_lf (x ∷ a) b (y ∷ c) d p q e =
    let tail : a ++ lf ∷ b ≡ c ++ lf ∷ d = cc in
    let head : x ≡ y = cc in
    let r = first_lf a b c d p.1 q.1 tail in (ap (λ k. k ∷ a) head ∙ ap (λ l. y ∷ l) r.0, r.1)

-- A text of ended lines begins with its first line and an LF.
line_first : (line : List ℕ) (lines : List (List ℕ)) (rest : List ℕ) → ended_lines (line ∷ lines) ++ rest ≡ line ++ lf ∷
    (ended_lines lines ++ rest)
line_first line lines rest =
    append_assoc (line ++ lf ∷ []) (ended_lines lines) rest ∙ append_assoc line (lf ∷ []) (ended_lines lines ++ rest)

-- A line before a split text, with an LF between, is the first of its lines.
pub split_more : (line text : List ℕ) (lines : List (List ℕ)) (rest : List ℕ) → HasNoLf line → IsSplit text lines rest →
    IsSplit (line ++ lf ∷ text) (line ∷ lines) rest
split_more line text lines rest h s = record {
  whole = ap (λ l. line ++ lf ∷ l) s.whole ∙ sym (line_first line lines rest);
  lines_no_lf = (h, s.lines_no_lf);
  rest_no_lf = s.rest_no_lf;
}

-- A text is split in only one way.
pub split_unique : (xs ys : List (List ℕ)) (text r s : List ℕ) → IsSplit text xs r → IsSplit text ys s →
    (xs ≡ ys) × (r ≡ s)
split_unique [] [] text r s p q = (refl, sym p.whole ∙ q.whole)
split_unique [] (y ∷ ys) text r s p q =
    absurd (lf_in y (ended_lines ys ++ s) (subst HasNoLf (sym p.whole ∙ q.whole ∙ line_first y ys s) p.rest_no_lf))
split_unique (x ∷ xs) [] text r s p q =
    absurd (lf_in x (ended_lines xs ++ r) (subst HasNoLf (sym q.whole ∙ p.whole ∙ line_first x xs r) q.rest_no_lf))
split_unique (x ∷ xs) (y ∷ ys) text r s p q =
    let e = sym (line_first x xs r) ∙ sym p.whole ∙ q.whole ∙ line_first y ys s in
    let same = first_lf x (ended_lines xs ++ r) y (ended_lines ys ++ s) p.lines_no_lf.0 q.lines_no_lf.0 e in
    let left : IsSplit (ended_lines xs ++ r) xs r =
    record { whole = refl; lines_no_lf = p.lines_no_lf.1; rest_no_lf = p.rest_no_lf } in
    let right : IsSplit (ended_lines xs ++ r) ys s =
    record { whole = same.1; lines_no_lf = q.lines_no_lf.1; rest_no_lf = q.rest_no_lf } in
    let rest = split_unique xs ys (ended_lines xs ++ r) r s left right in
    let head : x ≡ y = same.0 in
    let tail : xs ≡ ys = rest.0 in (cc, rest.1)
