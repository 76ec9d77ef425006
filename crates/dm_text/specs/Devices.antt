-- What a call of a device does to its count of failures, to its mark of pending bytes and to known bytes.
use Rattle.std.specs.Prelude.{◌≡◌, ◌+◌, ◌-◌, ◌^◌, ℕ, Bool, true, cond, nat_lt, min, List, [], ◌∷◌, ◌++◌, length, refl}
use Rattle.std.specs.Prelude.{Result, Ok, Err, Option, Some, None}
use Rattle.std.proofs.Common.{sym, ap, ◌∙◌, append_assoc}
use Rattle.std.specs.Io.KnownBytes.{Appends, Consumes}

-- A count of failures never exceeds this number, the largest that a u64 holds.
abbrev pub most_failures : ℕ
most_failures = 2 ^ 64 - 1

-- A count has risen if it is one more than before, or stays at the most that it can reach.
abbrev pub HasRisen : ℕ → ℕ → Type 0
HasRisen old new = new ≡ min (old + 1) most_failures

-- A call that fails raises the count of failures, and any other leaves it as it is.
abbrev pub Counts : {T E : Type 0} → ℕ → ℕ → Result T E → Type 0
Counts old new (Ok x) = new ≡ old
Counts old new (Err e) = HasRisen old new

-- A write of at least one byte that succeeds marks bytes as pending; a
-- write of no bytes, and one that fails, leaves the mark as it is.
abbrev pub Marks : {T E : Type 0} → Bool → Bool → Result T E → ℕ → Type 0
Marks old new (Ok x) n = new ≡ cond (nat_lt 0 n) true old
Marks old new (Err e) n = new ≡ old

-- The known bytes of a device grow by a prefix of these bytes.
abbrev pub AppendsPrefix : Option (List ℕ) → Option (List ℕ) → List ℕ → Type 0
AppendsPrefix old new bytes = (prefix : List ℕ) × (rest : List ℕ) × (bytes ≡ prefix ++ rest) × Appends old new prefix

-- A sink whose bytes are known was flushed once, and since that flush it has taken no further byte.
abbrev pub IsFlushedOnce : (List ℕ → Type 0) → Option (List ℕ) → Option (List ℕ) → Type 0
IsFlushedOnce Flushed (Some before) (Some now) = Flushed (length now ∷ [])
IsFlushedOnce Flushed _ _ = Unit {0}

-- Where nothing is consumed the known bytes stay as they are.
pub consumed_none : (known : Option (List ℕ)) → Consumes known known []
consumed_none None = tt
consumed_none (Some bytes) = refl

-- What is consumed in two steps is consumed together.
pub consumed_joined : (a b c : Option (List ℕ)) (x y : List ℕ) → Consumes a b x → Consumes b c y → Consumes a c (x ++ y)
consumed_joined None b c x y p q = tt
consumed_joined (Some before) None c x y p q = absurd p
consumed_joined (Some before) (Some between) None x y p q = absurd q
consumed_joined (Some before) (Some between) (Some after) x y p q =
    p ∙ ap (λ l. x ++ l) q ∙ sym (append_assoc x y after)
