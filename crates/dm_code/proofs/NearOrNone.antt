-- Whether some codeword is near a word, and near to it but for erased places, is decided.
use Rattle.std.proofs.Common.{◌≡◌, ◌⊎◌, ℕ, ◌+◌, ◌*◌, ◌/◌, ◌<◌, ◌≤◌, List, length, replicate, inl, inr, arith}
use Rattle.std.proofs.lemmas.Bool.{cases_Bool, cases_lt}
use Rattle.std.proofs.lemmas.Bool.Decides.{not_from_Decides}
use Rattle.std.proofs.lemmas.Slice.Eq.{bytes_eq-Decides}
use Rattle.std.specs.Str.{bytes_eq}
use Rattle.gf301.specs.Polynomial.{Bytes}
use Rattle.dm_code.specs.Codeword.{IsNear, distance}
use Rattle.dm_code.specs.Erased.{IsNearBut, distance_but}
use Rattle.dm_code.specs.Syndromes.{syndromes_of}
use Rattle.dm_code.proofs.Codewords.{codeword_bytes}
use Rattle.dm_code.proofs.SyndromeLaws.{codeword_syndromes, codeword_from_syndromes}
use Rattle.dm_code.proofs.Choices.{Decided, any_list}

-- Two lists are equal, or they aren't.
same_or_not : (p q : List ℕ) → Decided (p ≡ q)
same_or_not p q =
    elim (cases_Bool (bytes_eq p q)) [
      | inl e ↦ inl ((bytes_eq-Decides p q).0 e)
      | inr e ↦ inr (not_from_Decides (bytes_eq p q) (bytes_eq-Decides p q) e)
    ]

-- A list of bytes is near, or it isn't: its syndromes are 0 or not, and its distance is within the limit or not.
is_near_or_not : (k : ℕ) (w c : List ℕ) → Bytes c → length c ≡ length w → k < length w → length w ≤ 255 →
    Decided (IsNear k w c)
is_near_or_not k w c b l room short =
    elim (same_or_not (syndromes_of c k) (replicate k 0)) [
      | inl zero ↦ elim (cases_lt (k / 2) (distance w c)) [
        | inl far ↦ inr (λ near. absurd (omega (arith, far, near.close)))
        | inr close ↦ inl (record {
          codeword =
              codeword_from_syndromes k c b (omega (arith, l, room)) (omega (arith, l, short)) zero;
          long = l;
          close =
              close;
        })
      ]
      | inr other ↦ inr (λ near. other (codeword_syndromes k c near.codeword))
    ]

-- Some codeword is near to a word, or none is.
pub near_or_none : (k : ℕ) (w : List ℕ) → k < length w → length w ≤ 255 →
    ((c : List ℕ) × IsNear k w c) ⊎ ((c : List ℕ) → IsNear k w c → ⊥)
near_or_none k w room short =
    elim (any_list (length w) (IsNear k w) (λ c b l. is_near_or_not k w c b l room short)) [
      | inl some ↦ inl (some.list, some.holds)
      | inr none ↦ inr (λ c near. none (record {
        list = c;
        bytes = codeword_bytes k c near.codeword;
        long = near.long;
        holds = near;
      }))
    ]

-- So is whether it is near but for erased places.
is_near_but_or_not : (k : ℕ) (w places c : List ℕ) → Bytes c → length c ≡ length w → k < length w → length w ≤ 255 →
    Decided (IsNearBut k w places c)
is_near_but_or_not k w places c b l room short =
    elim (same_or_not (syndromes_of c k) (replicate k 0)) [
      | inl zero ↦ elim (cases_lt k (2 * distance_but places w c + length places)) [
        | inl far ↦ inr (λ near. absurd (omega (arith, far, near.close)))
        | inr close ↦ inl (record {
          codeword =
              codeword_from_syndromes k c b (omega (arith, l, room)) (omega (arith, l, short)) zero;
          long = l;
          close =
              close;
        })
      ]
      | inr other ↦ inr (λ near. other (codeword_syndromes k c near.codeword))
    ]

-- Some codeword is near to a word but for erased places, or none is.
pub near_but_or_none : (k : ℕ) (w places : List ℕ) → k < length w → length w ≤ 255 →
    ((c : List ℕ) × IsNearBut k w places c) ⊎ ((c : List ℕ) → IsNearBut k w places c → ⊥)
near_but_or_none k w places room short =
    elim (any_list (length w) (IsNearBut k w places) (λ c b l. is_near_but_or_not k w places c b l room short)) [
      | inl some ↦ inl (some.list, some.holds)
      | inr none ↦ inr (λ c near. none (record {
        list = c;
        bytes = codeword_bytes k c near.codeword;
        long = near.long;
        holds = near;
      }))
    ]
