-- Texts of answers, piece by piece.
use Rattle.std.proofs.Common.{◌≡◌, ◌<◌, ◌+◌, ℕ, zero, suc, List, [], ◌∷◌, ◌++◌, length, take, get_or, sym, ap, ◌∙◌}
use Rattle.std.proofs.Common.{arith, append_assoc, append-nil}
use Rattle.std.proofs.lemmas.List.{take_more}
use Rattle.std.proofs.lemmas.Grind.{flat_map-append}
use Rattle.std.specs.Prelude.{flat_map, codes}
use Rattle.std.specs.Fmt.{decimal}
use Rattle.dm_text.specs.Answers.{spaced_text}

-- The first number is written without a space before it.
pub spaced_first : (numbers : List ℕ) → 0 < length numbers → spaced_text (take 1 numbers) ≡ decimal (get_or numbers 0 0)
spaced_first [] some = absurd (omega arith)
spaced_first (number ∷ numbers) some = append-nil (decimal number)

-- Each further number is written after a space.
pub spaced_more : (numbers : List ℕ) (i : ℕ) → 0 < i → i < length numbers
    → spaced_text (take (i + 1) numbers) ≡ spaced_text (take i numbers) ++ (codes " " ++ decimal (get_or numbers i 0))
spaced_more [] i some within = absurd (omega arith)
spaced_more (number ∷ numbers) zero some within = absurd (omega arith)
spaced_more (number ∷ numbers) (suc i) some within =
    let f : ℕ → List ℕ = λ next. codes " " ++ decimal next in
    let here : i < length numbers = omega (arith, within) in
    let next : suc i + 1 ≡ suc (i + 1) = omega arith in
    ap (λ n. spaced_text (take n (number ∷ numbers))) next
    ∙ ap (λ prefix. decimal number ++ flat_map f prefix) (take_more numbers i 0 here)
    ∙ ap (λ text. decimal number ++ text) (flat_map-append f (take i numbers) (get_or numbers i 0 ∷ []))
    ∙ sym (append_assoc (decimal number) (flat_map f (take i numbers)) (f (get_or numbers i 0) ++ []))
    ∙ ap (λ text. (decimal number ++ flat_map f (take i numbers)) ++ text) (append-nil (f (get_or numbers i 0)))
