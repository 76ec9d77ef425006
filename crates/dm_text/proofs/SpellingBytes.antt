-- What the first bytes of a spelling can be.
use Rattle.std.proofs.Common.{◌≡◌, ◌∙◌, ◌≢◌, ◌+◌, ◌*◌, ◌≤◌, ℕ, suc, List, [], ◌∷◌, ◌++◌, refl, sym, ap, length, arith}
use Rattle.dm_symbol.specs.declared.Item.{Item}
use Rattle.dm_symbol.specs.declared.Item.TheVariants.{Byte}
use Rattle.dm_text.specs.Spellings.{IsHexDigit, figure, IsSpelling, plain, backslash, fnc1, byte}
use Rattle.dm_text.specs.LineFacts.{CanBecomeSpelling}
use Rattle.dm_text.specs.inner.OpenLines.{BeginsNoSpelling}
use Rattle.dm_text.proofs.Joinings.{heads, tails}

-- The bytes begin with a spelling of one of the four kinds.
data Begins (bytes : List ℕ) : Type 0 where
  with_plain : (c : ℕ) (rest : List ℕ) → 32 ≤ c → c ≤ 126 → c ≢ 92 → bytes ≡ c ∷ rest → Begins bytes
  with_backslash : (rest : List ℕ) → bytes ≡ 92 ∷ 92 ∷ rest → Begins bytes
  with_fnc1 : (rest : List ℕ) → bytes ≡ 92 ∷ 70 ∷ rest → Begins bytes
  with_byte : (s t u v : ℕ) (rest : List ℕ) → IsHexDigit s u → IsHexDigit t v → bytes ≡ 92 ∷ 120 ∷ s ∷ t ∷ rest →
      Begins bytes

-- Bytes at whose start a spelling stands begin with one of the four kinds.
begins : (bytes piece more : List ℕ) (item : Item) → bytes ≡ piece ++ more → IsSpelling piece item → Begins bytes
begins bytes piece more item e (plain c l h n p i) = with_plain c more l h n (e ∙ ap (λ q. q ++ more) p)
begins bytes piece more item e (backslash p i) = with_backslash more (e ∙ ap (λ q. q ++ more) p)
begins bytes piece more item e (fnc1 p i) = with_fnc1 more (e ∙ ap (λ q. q ++ more) p)
begins bytes piece more item e (byte s t u v hs ht p i) = with_byte s t u v more hs ht (e ∙ ap (λ q. q ++ more) p)

-- Bytes that begin with none of the four kinds have no spelling at their start.
none_if : (bytes : List ℕ) → (Begins bytes → ⊥) → BeginsNoSpelling bytes
none_if bytes never piece more item e h = never (begins bytes piece more item e h)

-- A backslash by itself begins with no spelling.
backslash_alone : Begins (92 ∷ []) → ⊥
backslash_alone (with_plain c rest l h n e) = n (sym (heads 92 c [] rest e))
backslash_alone (with_backslash rest e) = let s : 1 ≡ suc (suc (length rest)) = ap length e in omega arith
backslash_alone (with_fnc1 rest e) = let s : 1 ≡ suc (suc (length rest)) = ap length e in omega arith
backslash_alone (with_byte s t u v rest a b e) = let s : 1 ≡ suc (suc (suc (suc (length rest)))) = ap length e in
    omega arith

-- No spelling stands at the start of a backslash by itself.
pub backslash_none : BeginsNoSpelling (92 ∷ [])
backslash_none = none_if (92 ∷ []) backslash_alone

-- A backslash can become a spelling.
pub backslash_can : CanBecomeSpelling (92 ∷ [])
backslash_can = (92 ∷ [], Byte 92, backslash refl refl)

-- A backslash and x by themselves begin with no spelling.
hexadecimal_alone : Begins (92 ∷ 120 ∷ []) → ⊥
hexadecimal_alone (with_plain c rest l h n e) = n (sym (heads 92 c (120 ∷ []) rest e))
hexadecimal_alone (with_backslash rest e) = let s = heads 120 92 [] rest (tails 92 92 (120 ∷ []) (92 ∷ rest) e) in
    omega arith
hexadecimal_alone (with_fnc1 rest e) = let s = heads 120 70 [] rest (tails 92 92 (120 ∷ []) (70 ∷ rest) e) in
    omega arith
hexadecimal_alone (with_byte s t u v rest a b e) = let s : 2 ≡ suc (suc (suc (suc (length rest)))) = ap length e in
    omega arith

-- No spelling stands at the start of a backslash and x by themselves.
pub hexadecimal_none : BeginsNoSpelling (92 ∷ 120 ∷ [])
hexadecimal_none = none_if (92 ∷ 120 ∷ []) hexadecimal_alone

-- The character 0 is the digit of value 0.
zero_digit : IsHexDigit 48 0
zero_digit = figure (omega arith) refl

-- A backslash and x can become a spelling.
pub hexadecimal_can : CanBecomeSpelling (92 ∷ 120 ∷ [])
hexadecimal_can = (48 ∷ 48 ∷ [], Byte 0, byte 48 48 0 0 zero_digit zero_digit refl refl)

-- A backslash, x and a digit by themselves begin with no spelling.
digit_alone : (d : ℕ) → Begins (92 ∷ 120 ∷ d ∷ []) → ⊥
digit_alone d (with_plain c rest l h n e) = n (sym (heads 92 c (120 ∷ d ∷ []) rest e))
digit_alone d (with_backslash rest e) = let s = heads 120 92 (d ∷ []) rest (tails 92 92 (120 ∷ d ∷ []) (92 ∷ rest) e) in
    omega arith
digit_alone d (with_fnc1 rest e) = let s = heads 120 70 (d ∷ []) rest (tails 92 92 (120 ∷ d ∷ []) (70 ∷ rest) e) in
    omega arith
digit_alone d (with_byte s t u v rest a b e) = let s : 3 ≡ suc (suc (suc (suc (length rest)))) = ap length e in
    omega arith

-- No spelling stands at the start of a backslash, x and a digit by themselves.
pub digit_none : (d : ℕ) → BeginsNoSpelling (92 ∷ 120 ∷ d ∷ [])
digit_none d = none_if (92 ∷ 120 ∷ d ∷ []) (digit_alone d)

-- A backslash, x and a digit can become a spelling.
pub digit_can : (d u : ℕ) → IsHexDigit d u → CanBecomeSpelling (92 ∷ 120 ∷ d ∷ [])
digit_can d u h = (48 ∷ [], Byte (16 * u + 0), byte d 48 u 0 h zero_digit refl refl)

-- No spelling begins with a byte outside 32 to 126.
foreign_first : (b : ℕ) (more : List ℕ) → (32 ≤ b → b ≤ 126 → ⊥) → b ≢ 92 → Begins (b ∷ more) → ⊥
foreign_first b more out n (with_plain c rest l h _ e) = let s = heads b c more rest e in
    out (omega arith) (omega arith)
foreign_first b more out n (with_backslash rest e) = n (heads b 92 more (92 ∷ rest) e)
foreign_first b more out n (with_fnc1 rest e) = n (heads b 92 more (70 ∷ rest) e)
foreign_first b more out n (with_byte s t u v rest _ _ e) = n (heads b 92 more (120 ∷ s ∷ t ∷ rest) e)

-- No spelling stands at the start of bytes that begin with one outside 32 to 126.
pub foreign_none : (b : ℕ) (more : List ℕ) → (32 ≤ b → b ≤ 126 → ⊥) → b ≢ 92 → BeginsNoSpelling (b ∷ more)
foreign_none b more out n = none_if (b ∷ more) (foreign_first b more out n)

-- No spelling begins with a backslash and a byte other than the backslash, F and x.
stray_second : (b : ℕ) (more : List ℕ) → b ≢ 92 → b ≢ 70 → b ≢ 120 → Begins (92 ∷ b ∷ more) → ⊥
stray_second b more n m o (with_plain c rest l h k e) = k (sym (heads 92 c (b ∷ more) rest e))
stray_second b more n m o (with_backslash rest e) = n (heads b 92 more rest (tails 92 92 (b ∷ more) (92 ∷ rest) e))
stray_second b more n m o (with_fnc1 rest e) = m (heads b 70 more rest (tails 92 92 (b ∷ more) (70 ∷ rest) e))
stray_second b more n m o (with_byte s t u v rest _ _ e) =
    o (heads b 120 more (s ∷ t ∷ rest) (tails 92 92 (b ∷ more) (120 ∷ s ∷ t ∷ rest) e))

-- No spelling stands at the start of a backslash and a byte other than the backslash, F and x.
pub stray_none : (b : ℕ) (more : List ℕ) → b ≢ 92 → b ≢ 70 → b ≢ 120 → BeginsNoSpelling (92 ∷ b ∷ more)
stray_none b more n m o = none_if (92 ∷ b ∷ more) (stray_second b more n m o)

-- No spelling begins with a backslash, x and a byte that is no digit.
no_first_digit : (b : ℕ) (more : List ℕ) → ((u : ℕ) → IsHexDigit b u → ⊥) → Begins (92 ∷ 120 ∷ b ∷ more) → ⊥
no_first_digit b more never (with_plain c rest l h k e) = k (sym (heads 92 c (120 ∷ b ∷ more) rest e))
no_first_digit b more never (with_backslash rest e) = let s =
    heads 120 92 (b ∷ more) rest (tails 92 92 (120 ∷ b ∷ more) (92 ∷ rest) e) in omega arith
no_first_digit b more never (with_fnc1 rest e) = let s =
    heads 120 70 (b ∷ more) rest (tails 92 92 (120 ∷ b ∷ more) (70 ∷ rest) e) in omega arith
no_first_digit b more never (with_byte s t u v rest hs ht e) =
    let same : b ≡ s =
    heads b s more (t ∷ rest) (tails 120 120 (b ∷ more) (s ∷ t ∷ rest)
    (tails 92 92 (120 ∷ b ∷ more) (120 ∷ s ∷ t ∷ rest) e)) in
    never u (rw same hs)

-- No spelling stands at the start of a backslash, x and a byte that is no digit.
pub first_digit_none : (b : ℕ) (more : List ℕ) → ((u : ℕ) → IsHexDigit b u → ⊥) → BeginsNoSpelling (92 ∷ 120 ∷ b ∷ more)
first_digit_none b more never = none_if (92 ∷ 120 ∷ b ∷ more) (no_first_digit b more never)

-- No spelling begins with a backslash, x, a byte and a byte that is no digit.
no_second_digit : (d b : ℕ) (more : List ℕ) → ((u : ℕ) → IsHexDigit b u → ⊥) → Begins (92 ∷ 120 ∷ d ∷ b ∷ more) → ⊥
no_second_digit d b more never (with_plain c rest l h k e) = k (sym (heads 92 c (120 ∷ d ∷ b ∷ more) rest e))
no_second_digit d b more never (with_backslash rest e) = let s =
    heads 120 92 (d ∷ b ∷ more) rest (tails 92 92 (120 ∷ d ∷ b ∷ more) (92 ∷ rest) e) in omega arith
no_second_digit d b more never (with_fnc1 rest e) = let s =
    heads 120 70 (d ∷ b ∷ more) rest (tails 92 92 (120 ∷ d ∷ b ∷ more) (70 ∷ rest) e) in omega arith
no_second_digit d b more never (with_byte s t u v rest hs ht e) =
    let digits : d ∷ b ∷ more ≡ s ∷ t ∷ rest =
    tails 120 120 (d ∷ b ∷ more) (s ∷ t ∷ rest) (tails 92 92 (120 ∷ d ∷ b ∷ more) (120 ∷ s ∷ t ∷ rest) e) in
    let same : b ≡ t = heads b t more rest (tails d s (b ∷ more) (t ∷ rest) digits) in
    never v (rw same ht)

-- No spelling stands at the start of a backslash, x, a byte and a byte that is no digit.
pub second_digit_none : (d b : ℕ) (more : List ℕ) → ((u : ℕ) → IsHexDigit b u → ⊥) →
    BeginsNoSpelling (92 ∷ 120 ∷ d ∷ b ∷ more)
second_digit_none d b more never = none_if (92 ∷ 120 ∷ d ∷ b ∷ more) (no_second_digit d b more never)
