-- Each list of data codewords is completed to a codeword.
use Rattle.std.proofs.Common.{◌≡◌, ℕ, zero, suc, ◌+◌, ◌-◌, ◌<◌, ◌≤◌, List, [], ◌∷◌, ◌++◌, length, get_or, take, drop}
use Rattle.std.proofs.Common.{replicate, append_assoc, append-nil, refl, sym, ap, subst, ◌∙◌, arith, bit_xor}
use Rattle.std.proofs.lemmas.List.{length-append, length-replicate, get_or-replicate}
use Rattle.gf301.specs.Field.{◌⊕◌, ◌⊗◌, raise, power}
use Rattle.gf301.specs.Polynomial.{value, Bytes}
use Rattle.gf301.specs.Generator.{generator}
use Rattle.gf301.proofs.Exported.{plus, scale, product_zero_left, product_below, length_plus, length_scale, bytes_plus}
use Rattle.gf301.proofs.Exported.{get_or-plus, value_zeros, generator_root, bytes_cons, bytes_head, bytes_tail}
use Rattle.dm_code.specs.Codeword.{IsCodeword}
use Rattle.dm_code.proofs.Bytes.{bytes_places}
use Rattle.dm_code.proofs.Codewords.{codeword_from_values}
use Rattle.dm_code.proofs.Register.{get_or-push_zero, get_or-scaled, bytes_append, register_step, codeword_taken}
use Rattle.dm_code.proofs.Register.{taps_whole, taps_length, completed}

-- The value of the k cells r, at each root of the generator, is that of what was taken in, p, times the power k of the
-- root.
record IsRegister (k : ℕ) (p r : List ℕ) : Type 0 where
  pub long : length r ≡ k
  pub bytes : Bytes r
  pub values : (i : ℕ) → i < k → value p (power (1 + i)) ⊗ raise (power (1 + i)) k ≡ value r (power (1 + i))

-- The empty list is a list of bytes.
no_bytes : Bytes []
no_bytes i d h = absurd (omega arith)

-- After a step each cell holds what stood behind it, plus its tap times what is fed back.
each_cell : (a d : ℕ) (r t : List ℕ) → length t ≡ suc (length r) → (i : ℕ)
    → get_or (plus (r ++ 0 ∷ []) (scale (d ⊕ a) t)) i 0 ≡ get_or (a ∷ r) (suc i) 0 ⊕ (d ⊕ a) ⊗ get_or t i 0
each_cell a d r t lt i =
    get_or-plus (r ++ 0 ∷ []) (scale (d ⊕ a) t) i (omega (arith, length-append r (0 ∷ []), length_scale (d ⊕ a) t, lt))
    ∙ ap (λ y. y ⊕ get_or (scale (d ⊕ a) t) i 0) (get_or-push_zero r i)
    ∙ ap (bit_xor (get_or r i 0)) (get_or-scaled (d ⊕ a) t i)

-- One more codeword can be taken into the register.
codeword_in : (k : ℕ) (p r : List ℕ) (d : ℕ) → 0 < k → d < 256 → IsRegister k p r →
    (s : List ℕ) × IsRegister k (p ++ d ∷ []) s
codeword_in k p [] d some small h = absurd (omega (arith, h.long))
codeword_in k p (a ∷ r) d some small h =
    let g = generator k in
    let t = take (length g - 1) (drop 1 g) in
    let s = plus (r ++ 0 ∷ []) (scale (d ⊕ a) t) in
    let taps : length t ≡ k = taps_length k g refl in
    let end : length (r ++ 0 ∷ []) ≡ k = omega (arith, length-append r (0 ∷ []), h.long) in
    let back : length (scale (d ⊕ a) t) ≡ k = length_scale (d ⊕ a) t ∙ taps in
    let long : length s ≡ k = length_plus (r ++ 0 ∷ []) (scale (d ⊕ a) t) (end ∙ sym back) ∙ end in
    let scaled : Bytes (scale (d ⊕ a) t) =
    bytes_places (scale (d ⊕ a) t) (λ i l. subst (λ y. y < 256) (sym (get_or-scaled (d ⊕ a) t i))
    (product_below (d ⊕ a) (get_or t i 0))) in (
      s,
      record {
        long = long;
        bytes =
            bytes_plus (r ++ 0 ∷ []) (scale (d ⊕ a) t)
            (bytes_append r (0 ∷ []) (bytes_tail a r h.bytes) (bytes_cons 0 [] (omega arith) no_bytes)) scaled;
        values = λ i l.
            let x = power (1 + i) in
            codeword_taken p (a ∷ r) s d x k small (h.values i l)
            (register_step (a ∷ r) t s d x (omega arith) (taps ∙ sym h.long) (long ∙ sym h.long)
            (λ j m. each_cell a d r t (taps ∙ sym h.long) j)
            (ap (λ u. value u x) (taps_whole k g refl) ∙ generator_root k i l)
            ∙ ap (λ m. value (a ∷ r) x ⊗ x ⊕ d ⊗ raise x m) h.long);
      },
    )

-- Before the first codeword the cells are 0.
empty_register : (k : ℕ) → IsRegister k [] (replicate k 0)
unfolding value
empty_register k = record {
  long = length-replicate k 0;
  bytes = bytes_places (replicate k 0) (λ i l.
      let within : i < k = omega (arith, l, length-replicate {A = ℕ} k 0) in
      subst (λ y. y < 256) (sym (get_or-replicate {A = ℕ} k i 0 0 within)) (omega arith));
  values = λ i h. product_zero_left (raise (power (1 + i)) k) ∙ sym (value_zeros (power (1 + i)) k);
}

-- Each codeword of a list can be taken in after the other.
codewords_in : (k : ℕ) (p rest r : List ℕ) → 0 < k → Bytes rest → IsRegister k p r →
    (s : List ℕ) × IsRegister k (p ++ rest) s
codewords_in k p [] r some b h = (r, subst (λ u. IsRegister k u r) (sym (append-nil p)) h)
codewords_in k p (d ∷ rest) r some b h =
    let next = codeword_in k p r d some (bytes_head d rest b) h in
    let last = codewords_in k (p ++ d ∷ []) rest next.0 some (bytes_tail d rest b) next.1 in
    (last.0, subst (λ u. IsRegister k u last.0) (append_assoc p (d ∷ []) rest) last.1)

-- Some k check codewords complete the data codewords.
pub checks_are_there : (k : ℕ) (front : List ℕ) → Bytes front → k < 255 → length front + k ≤ 255 →
    (c : List ℕ) × (length c ≡ k) × IsCodeword k (front ++ c)
checks_are_there zero front b few room = (
  [],
  refl,
  subst (IsCodeword 0) (sym (append-nil front))
      (codeword_from_values 0 front few (omega (arith, room)) (omega arith) b (λ i h. absurd (omega (arith, h)))),
)
checks_are_there (suc k) front b few room =
    let last = codewords_in (suc k) [] front (replicate (suc k) 0) (omega arith) b (empty_register (suc k)) in
    (last.0, last.1.long, completed (suc k) front last.0 few b last.1.bytes last.1.long room last.1.values)
