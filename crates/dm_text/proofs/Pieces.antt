-- Pieces of a text that are taken part by part.
use Rattle.std.proofs.Common.{◌≡◌, ◌∙◌, ◌+◌, ◌-◌, ◌<◌, ◌≤◌, ℕ, suc, List, [], ◌∷◌, ◌++◌, sym, ap, get_or, length}
use Rattle.std.proofs.Common.{length-drop, take, drop, append_assoc, arith}
use Rattle.std.proofs.lemmas.List.{take-append-drop, take_all, take_more}
use Rattle.std.proofs.Math.Seq.{drop-cons, take-add}
use Rattle.dm_text.proofs.KnownBytes.{rest_is}

-- A piece is what was taken of it, then the next bytes, then all that is left.
pub cut_here : (piece prefix rest : List ℕ) (taken : ℕ) → piece ≡ prefix ++ rest →
    piece ≡ (prefix ++ take taken rest) ++ drop taken rest
cut_here piece prefix rest taken whole =
    whole ∙ ap (λ l. prefix ++ l) (sym (take-append-drop taken rest))
    ∙ sym (append_assoc prefix (take taken rest) (drop taken rest))

-- A piece is what was taken of it, then the next bytes, then the slice of the rest.
pub cut_again : (piece prefix rest : List ℕ) (taken : ℕ) → piece ≡ prefix ++ rest →
    piece ≡ (prefix ++ take taken rest) ++ take (length rest - taken) (drop taken rest)
cut_again piece prefix rest taken whole =
    cut_here piece prefix rest taken whole ∙ ap (λ l. (prefix ++ take taken rest) ++ l) (sym (rest_is rest taken))

-- The slice of the rest is as long as what is left.
pub rest_length : (rest : List ℕ) (taken : ℕ) → length (take (length rest - taken) (drop taken rest)) ≡
    length rest - taken
rest_length rest taken = ap length (rest_is rest taken) ∙ length-drop taken rest

-- A text with the bytes up to a place, and then with the next n, is the text with the bytes up to n places further.
pub go_on : (text bytes : List ℕ) (at n : ℕ) → (text ++ take at bytes)
    ++ take n (take (length bytes - at) (drop at bytes)) ≡ text ++ take (at + n) bytes
go_on text bytes at n =
    append_assoc text (take at bytes) (take n (take (length bytes - at) (drop at bytes)))
    ∙ ap (λ (l : List ℕ). text ++ (take at bytes ++ take n l)) (rest_is bytes at)
    ∙ ap (λ (l : List ℕ). text ++ l) (sym (take-add at n bytes))

-- A text with the bytes up to a place, and then with the next one, is the text with the bytes up to the next place.
pub go_on_by_one : (text bytes : List ℕ) (i : ℕ) → i < length bytes → (text ++ take i bytes) ++ get_or bytes i 0 ∷
    [] ≡ text ++ take (i + 1) bytes
go_on_by_one text bytes i l =
    append_assoc text (take i bytes) (get_or bytes i 0 ∷ [])
    ∙ ap (λ (k : List ℕ). text ++ k) (sym (take_more bytes i 0 l))

-- Bytes up to a place, then the next n, then the byte that follows are the bytes up to n + 1 places further.
pub go_on_by_line : (bytes : List ℕ) (at n b : ℕ) → at + n < length bytes → get_or bytes (at + n) 0 ≡ b
    → take at bytes ++ (take n (take (length bytes - at) (drop at bytes)) ++ b ∷ []) ≡ take (at + n + 1) bytes
go_on_by_line bytes at n b l e =
    sym (append_assoc (take at bytes) (take n (take (length bytes - at) (drop at bytes))) (b ∷ []))
    ∙ ap (λ (k : List ℕ). k ++ b ∷ []) (go_on [] bytes at n) ∙ ap (λ (k : ℕ). take (at + n) bytes ++ k ∷ []) (sym e)
    ∙ go_on_by_one [] bytes (at + n) l

-- Where the end of the bytes is reached all of them are taken.
pub all_taken : (text bytes : List ℕ) (i : ℕ) → length bytes ≤ i → text ++ take i bytes ≡ text ++ bytes
all_taken text bytes i l = ap (λ (k : List ℕ). text ++ k) (take_all i bytes l)

-- Bytes are those before a place, then the one there, then those after it.
pub cut_at : (bytes : List ℕ) (i b : ℕ) → i < length bytes → get_or bytes i 0 ≡ b →
    bytes ≡ take i bytes ++ b ∷ drop (i + 1) bytes
cut_at bytes i b l e =
    let next : suc i ≡ i + 1 = omega arith in
    sym (take-append-drop i bytes)
    ∙ ap (λ (k : List ℕ). take i bytes ++ k) (drop-cons bytes i 0 l ∙ ap (λ (k : ℕ). k ∷ drop (suc i) bytes) e
    ∙ ap (λ (k : ℕ). b ∷ drop k bytes) next)
