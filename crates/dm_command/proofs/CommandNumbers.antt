-- What clap's getters read of a border's text that passed its parser is the limit that the text writes, and of the
-- flag's whether it was given.
use Rattle.std.proofs.Common.{◌≡◌, ◌∙◌, ◌<◌, ◌^◌, ◌==◌, ℕ, Bool, true, false, true≢false, inl, inr, cond, drop, refl}
use Rattle.std.proofs.Common.{sym, ap, subst, List, [], ◌∷◌, Option, Some, None, Result, Ok, Err, codes, arith}
use Rattle.std.specs.Prelude.{option_and_then, slice_get, find, unwrap_or}
use Rattle.std.specs.Str.{bytes_eq}
use Rattle.std.specs.Str.Parse.{IsNumeral, ParsesUnsigned, digits_value, starts_with_minus, without_leading_plus}
use Rattle.std.proofs.lemmas.Bool.{ne_eqb}
use Rattle.std.proofs.lemmas.Str.Parse.{digit_from_value}
use Rattle.std.proofs.lemmas.Int.{ints}
use Rattle.clap.specs.Lexer.{without_minus}
use Rattle.clap.specs.Matches.{ReadsOne}
use Rattle.clap.specs.Walk.{Row, Text, first_of, one_of, row_text}
use Rattle.dm_command.specs.CommandLine.{GivesLimit, IsBorderLimit}
use Rattle.dm_command.specs.inner.CommandReads.{IsReadable}

-- The text without a leading minus is what the parser's own test leaves of it.
without_minus-cond : (t : Text) → without_minus t ≡ cond (starts_with_minus t) (drop 1 t) t
without_minus-cond [] = refl
without_minus-cond (x ∷ xs) = go (x == 45)
  where
    go : (b : Bool) → unwrap_or (cond b (Some xs) None) (x ∷ xs) ≡ cond b xs (x ∷ xs)
    go true = refl
    go false = refl

-- Decimal digits have no plus before them.
no_plus : (ds : Text) → IsNumeral 10 ds → without_leading_plus ds ≡ ds
no_plus [] h = refl
no_plus (d ∷ ds) h =
    let plus : (d == 43) ≡ false = ne_eqb _ _ (λ e. omega (arith, digit_from_value d h.1.0)) in
    ap (λ (b : Bool). drop (cond b 1 0) (d ∷ ds)) plus

-- The number that is read from a text which writes a limit is that limit.
limit_number : {E : Type 0} (G : Text → Result ℕ E → Type 0) →
    ((u : Text) (x : Result ℕ E) → G u x → ParsesUnsigned 16 10 u x)
    → (t : Text) (r : Option ℕ) (n : ℕ) → ReadsOne G (without_minus t) r → IsBorderLimit t n → r ≡ Some n
limit_number {E} G parses t r n read limit =
    go (starts_with_minus t) refl r (subst (λ (u : Text). ReadsOne G u r) (without_minus-cond t) read)
  where
    go : (b : Bool) → starts_with_minus t ≡ b → (o : Option ℕ) →
        ReadsOne G (cond (starts_with_minus t) (drop 1 t) t) o → o ≡ Some n
    go true minus (Some v) h =
        let numeral : IsNumeral 10 (drop 1 t) = rw minus at limit.0 in
        let value = rw minus at limit.1 in
        let parsed = parses (drop 1 t) (Ok v) (rw minus at h) in
        let is : v ≡ digits_value 10 (drop 1 t) = parsed.1 ∙ ap (digits_value 10) (no_plus (drop 1 t) numeral) in
        let same : v ≡ n = omega (arith, ints) in
        ap Some same
    go true minus None h =
        let numeral : IsNumeral 10 (drop 1 t) = rw minus at limit.0 in
        let value = rw minus at limit.1 in
        let same = no_plus (drop 1 t) numeral in
        let small : digits_value 10 (drop 1 t) < 2 ^ 16 = omega (arith, ints) in
        absurd (parses (drop 1 t) (Err h.0) (rw minus at h.1) (rw same numeral, rw same small))
    go false minus (Some v) h =
        let value = rw minus at limit.1 in
        let parsed = parses t (Ok v) (rw minus at h) in
        let same : v ≡ n = omega (arith, ints) in
        ap Some same
    go false minus None h =
        let numeral = rw minus at limit.0 in
        let value = rw minus at limit.1 in
        absurd (parses t (Err h.0) (rw minus at h.1) (numeral, omega (arith, ints)))

-- Where an argument has no first text, nothing is read of it.
none_of : (id : Text) (rows : List Row) → first_of id rows ≡ None → one_of id rows ≡ None
none_of id rows = go (find (λ r. bytes_eq r.id id) rows)
  where
    go : (o : Option Row) → option_and_then (λ r. slice_get r.values 0) o ≡ None → option_and_then row_text o ≡ None
    go None e = refl
    go (Some r) e = rw e refl

-- What the getter reads for the border is the limit that the matches give.
pub limit_read : {E : Type 0} (G : Text → Result ℕ E → Type 0) →
    ((u : Text) (x : Result ℕ E) → G u x → ParsesUnsigned 16 10 u x)
    → (rows : List Row) (r : Option ℕ) → (one_of (codes "border") rows ≡ None → r ≡ None)
    → ((t : Text) → one_of (codes "border") rows ≡ Some t → ReadsOne G t r) → IsReadable rows → GivesLimit rows r
limit_read {E} G parses rows r none value readable = go (first_of (codes "border") rows) refl
  where
    go : (o : Option Text) → first_of (codes "border") rows ≡ o → GivesLimit rows r
    go None is = subst (GivesLimit rows) (sym (none (none_of (codes "border") rows is))) is
    go (Some text) is =
        let found = readable.limit text is in
        let number = limit_number {E = E} G parses text r found.1.0 (value (without_minus text) found.0) found.1.1 in
        subst (GivesLimit rows) (sym number) (text, is, found.1.1)

module _ (rows : List Row) (readable : IsReadable rows) (b : Bool) (none : one_of (codes "shorter") rows ≡ None →
    b ≡ false)
    (given : one_of (codes "shorter") rows ≡ Some (codes "true") → b ≡ true)
    (other : one_of (codes "shorter") rows ≡ Some (codes "false") → b ≡ false) where
  -- Where the getter says that the flag was given, it was.
  pub flag_given : b ≡ true → first_of (codes "shorter") rows ≡ Some (codes "true")
  flag_given is = go (first_of (codes "shorter") rows) refl
    where
      go : (o : Option Text) → first_of (codes "shorter") rows ≡ o →
          first_of (codes "shorter") rows ≡ Some (codes "true")
      go None e = absurd (true≢false (sym is ∙ none (none_of (codes "shorter") rows e)))
      go (Some text) e =
          let found = readable.flag text e in
          elim found.1 [
            | inl t ↦ e ∙ ap Some t
            | inr f ↦ absurd (true≢false (sym is ∙ other (found.0 ∙ ap Some f)))
          ]

  -- Where the getter says that the flag wasn't given, it wasn't.
  pub flag_left_out : b ≡ false → first_of (codes "shorter") rows ≡ Some (codes "true") → ⊥
  flag_left_out is e = true≢false (sym (given (readable.flag (codes "true") e).0) ∙ is)
