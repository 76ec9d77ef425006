-- Spellings are read in one way: none is the beginning of another.
use Rattle.std.proofs.Common.{◌≡◌, ◌∙◌, ◌+◌, ◌*◌, ◌≤◌, ◌<◌, ℕ, List, [], ◌∷◌, ◌++◌, refl, sym, ap, subst, append_assoc}
use Rattle.std.proofs.Common.{append-nil, length, length-append, arith}
use Rattle.dm_symbol.specs.declared.Item.{Item}
use Rattle.dm_symbol.specs.declared.Item.TheVariants.{Byte}
use Rattle.dm_text.specs.Spellings.{IsHexDigit, figure, upper, lower, IsSpelling, plain, backslash, fnc1, byte}
use Rattle.dm_text.specs.Spellings.{IsJoining}
use Rattle.dm_text.specs.inner.OpenLines.{BeginsNoSpelling}

-- A hexadecimal digit has only one value.
pub hex_unique : (d u v : ℕ) → IsHexDigit d u → IsHexDigit d v → u ≡ v
hex_unique d u v (figure a e) (figure b f) = omega arith
hex_unique d u v (figure a e) (upper b c f) = omega arith
hex_unique d u v (figure a e) (lower b c f) = omega arith
hex_unique d u v (upper a b e) (figure c f) = omega arith
hex_unique d u v (upper a b e) (upper c d' f) = omega arith
hex_unique d u v (upper a b e) (lower c d' f) = omega arith
hex_unique d u v (lower a b e) (figure c f) = omega arith
hex_unique d u v (lower a b e) (upper c d' f) = omega arith
hex_unique d u v (lower a b e) (lower c d' f) = omega arith

-- Equal bytes stay equal when equal prefixes take the place of theirs.
shown : (p q p' q' x y : List ℕ) → p ≡ p' → q ≡ q' → p ++ x ≡ q ++ y → p' ++ x ≡ q' ++ y
shown p q p' q' x y e f h = ap (λ l. l ++ x) (sym e) ∙ h ∙ ap (λ l. l ++ y) f

-- Equal lists have the same first item.
pub heads : (a b : ℕ) (x y : List ℕ) → a ∷ x ≡ b ∷ y → a ≡ b
heads a b x y e = cc

-- Equal lists are the same after their first item.
pub tails : (a b : ℕ) (x y : List ℕ) → a ∷ x ≡ b ∷ y → x ≡ y
tails a b x y e = cc

-- Two spellings at the start of the same bytes, their items, and what comes after them are the same.
abbrev Same : List ℕ → List ℕ → List ℕ → List ℕ → Item → Item → Type 0
Same p q x y a b = (p ≡ q) × (a ≡ b) × (x ≡ y)

-- At the start of any bytes stands at most one spelling.
pub one_spelling : (p q x y : List ℕ) (a b : Item) → IsSpelling p a → IsSpelling q b → p ++ x ≡ q ++ y →
    Same p q x y a b
one_spelling p q x y a b (plain c _ _ n e f) (plain d _ _ m g h) eq =
    let s : c ∷ x ≡ d ∷ y = shown p q (c ∷ []) (d ∷ []) x y e g eq in
    let same : c ≡ d = cc in
    (e ∙ ap (λ k. k ∷ []) same ∙ sym g, f ∙ ap Byte same ∙ sym h, tails c d x y s)
one_spelling p q x y a b (plain c _ _ n e f) (backslash g h) eq =
    absurd (n (heads c 92 x (92 ∷ y) (shown p q (c ∷ []) (92 ∷ 92 ∷ []) x y e g eq)))
one_spelling p q x y a b (plain c _ _ n e f) (fnc1 g h) eq =
    absurd (n (heads c 92 x (70 ∷ y) (shown p q (c ∷ []) (92 ∷ 70 ∷ []) x y e g eq)))
one_spelling p q x y a b (plain c _ _ n e f) (byte s t u v _ _ g h) eq =
    absurd (n (heads c 92 x (120 ∷ s ∷ t ∷ y) (shown p q (c ∷ []) (92 ∷ 120 ∷ s ∷ t ∷ []) x y e g eq)))
one_spelling p q x y a b (backslash e f) (plain d _ _ m g h) eq =
    absurd (m (sym (heads 92 d (92 ∷ x) y (shown p q (92 ∷ 92 ∷ []) (d ∷ []) x y e g eq))))
one_spelling p q x y a b (backslash e f) (backslash g h) eq =
    let s : 92 ∷ 92 ∷ x ≡ 92 ∷ 92 ∷ y = shown p q (92 ∷ 92 ∷ []) (92 ∷ 92 ∷ []) x y e g eq in
    (e ∙ sym g, f ∙ sym h, tails 92 92 x y (tails 92 92 (92 ∷ x) (92 ∷ y) s))
one_spelling p q x y a b (backslash e f) (fnc1 g h) eq =
    let s = heads 92 70 x y (tails 92 92 (92 ∷ x) (70 ∷ y) (shown p q (92 ∷ 92 ∷ []) (92 ∷ 70 ∷ []) x y e g eq)) in
    absurd (omega arith)
one_spelling p q x y a b (backslash e f) (byte s t u v _ _ g h) eq =
    let r =
    heads 92 120 x (s ∷ t ∷ y) (tails 92 92 (92 ∷ x) (120 ∷ s ∷ t ∷ y)
    (shown p q (92 ∷ 92 ∷ []) (92 ∷ 120 ∷ s ∷ t ∷ []) x y e g eq)) in absurd (omega arith)
one_spelling p q x y a b (fnc1 e f) (plain d _ _ m g h) eq =
    absurd (m (sym (heads 92 d (70 ∷ x) y (shown p q (92 ∷ 70 ∷ []) (d ∷ []) x y e g eq))))
one_spelling p q x y a b (fnc1 e f) (backslash g h) eq =
    let s = heads 70 92 x y (tails 92 92 (70 ∷ x) (92 ∷ y) (shown p q (92 ∷ 70 ∷ []) (92 ∷ 92 ∷ []) x y e g eq)) in
    absurd (omega arith)
one_spelling p q x y a b (fnc1 e f) (fnc1 g h) eq =
    let s : 92 ∷ 70 ∷ x ≡ 92 ∷ 70 ∷ y = shown p q (92 ∷ 70 ∷ []) (92 ∷ 70 ∷ []) x y e g eq in
    (e ∙ sym g, f ∙ sym h, tails 70 70 x y (tails 92 92 (70 ∷ x) (70 ∷ y) s))
one_spelling p q x y a b (fnc1 e f) (byte s t u v _ _ g h) eq =
    let r =
    heads 70 120 x (s ∷ t ∷ y) (tails 92 92 (70 ∷ x) (120 ∷ s ∷ t ∷ y)
    (shown p q (92 ∷ 70 ∷ []) (92 ∷ 120 ∷ s ∷ t ∷ []) x y e g eq)) in absurd (omega arith)
one_spelling p q x y a b (byte s t u v _ _ e f) (plain d _ _ m g h) eq =
    absurd (m (sym (heads 92 d (120 ∷ s ∷ t ∷ x) y (shown p q (92 ∷ 120 ∷ s ∷ t ∷ []) (d ∷ []) x y e g eq))))
one_spelling p q x y a b (byte s t u v _ _ e f) (backslash g h) eq =
    let r =
    heads 120 92 (s ∷ t ∷ x) y (tails 92 92 (120 ∷ s ∷ t ∷ x) (92 ∷ y)
    (shown p q (92 ∷ 120 ∷ s ∷ t ∷ []) (92 ∷ 92 ∷ []) x y e g eq)) in absurd (omega arith)
one_spelling p q x y a b (byte s t u v _ _ e f) (fnc1 g h) eq =
    let r =
    heads 120 70 (s ∷ t ∷ x) y (tails 92 92 (120 ∷ s ∷ t ∷ x) (70 ∷ y)
    (shown p q (92 ∷ 120 ∷ s ∷ t ∷ []) (92 ∷ 70 ∷ []) x y e g eq)) in absurd (omega arith)
one_spelling p q x y a b (byte s t u v hs ht e f) (byte s' t' u' v' hs' ht' g h) eq =
    let all : 92 ∷ 120 ∷ s ∷ t ∷ x ≡ 92 ∷ 120 ∷ s' ∷ t' ∷ y =
    shown p q (92 ∷ 120 ∷ s ∷ t ∷ []) (92 ∷ 120 ∷ s' ∷ t' ∷ []) x y e g eq in
    let digits : s ∷ t ∷ x ≡ s' ∷ t' ∷ y =
    tails 120 120 (s ∷ t ∷ x) (s' ∷ t' ∷ y) (tails 92 92 (120 ∷ s ∷ t ∷ x) (120 ∷ s' ∷ t' ∷ y) all) in
    let first : s ≡ s' = heads s s' (t ∷ x) (t' ∷ y) digits in
    let second : t ≡ t' = heads t t' x y (tails s s' (t ∷ x) (t' ∷ y) digits) in
    let high : u ≡ u' = hex_unique s' u u' (subst (λ d. IsHexDigit d u) first hs) hs' in
    let low : v ≡ v' = hex_unique t' v v' (subst (λ d. IsHexDigit d v) second ht) ht' in (
      e ∙ ap (λ d. 92 ∷ 120 ∷ d ∷ t ∷ []) first ∙ ap (λ d. 92 ∷ 120 ∷ s' ∷ d ∷ []) second ∙ sym g,
      f ∙ ap (λ n. Byte (16 * n + v)) high ∙ ap (λ n. Byte (16 * u' + n)) low ∙ sym h,
      tails t t' x y (tails s s' (t ∷ x) (t' ∷ y) digits),
    )

-- A spelling has at least one byte.
pub spelling_some : (p : List ℕ) (a : Item) → IsSpelling p a → 0 < length p
spelling_some p a (plain c _ _ n e f) = omega (arith, ap length e)
spelling_some p a (backslash e f) = omega (arith, ap length e)
spelling_some p a (fnc1 e f) = omega (arith, ap length e)
spelling_some p a (byte s t u v _ _ e f) = omega (arith, ap length e)

-- A spelling by itself is a joining.
pub joining_one : (p : List ℕ) (a : Item) → IsSpelling p a → IsJoining p (a ∷ [])
joining_one p a h = (p, [], h, sym (append-nil p), refl)

-- Two joinings, one after the other, are a joining.
pub joining_append : (xs ys : List Item) (a b : List ℕ) → IsJoining a xs → IsJoining b ys →
    IsJoining (a ++ b) (xs ++ ys)
joining_append [] ys a b p q = subst (λ l. IsJoining (l ++ b) ys) (sym p) q
joining_append (x ∷ xs) ys a b p q =
    (p.0, p.1 ++ b, p.2, ap (λ l. l ++ b) p.3 ∙ append_assoc p.0 p.1 b, joining_append xs ys p.1 b p.4 q)

-- A prefix that is a joining, before bytes that begin no spelling, is the longest one.
pub prefix_longest : (items others : List Item) (prefix rest other after : List ℕ) → IsJoining prefix items →
    BeginsNoSpelling rest
    → prefix ++ rest ≡ other ++ after → IsJoining other others → length other ≤ length prefix
prefix_longest items [] prefix rest other after p none eq q = omega (arith, ap length q)
prefix_longest [] (j ∷ js) prefix rest other after p none eq q =
    absurd (none q.0 (q.1 ++ after) j (ap (λ l. l ++ rest) (sym p) ∙ eq ∙ ap (λ l. l ++ after) q.3
    ∙ append_assoc q.0 q.1 after) q.2)
prefix_longest (i ∷ is) (j ∷ js) prefix rest other after p none eq q =
    let both : p.0 ++ (p.1 ++ rest) ≡ q.0 ++ (q.1 ++ after) =
    sym (append_assoc p.0 p.1 rest) ∙ ap (λ l. l ++ rest) (sym p.3) ∙ eq
    ∙ ap (λ l. l ++ after) q.3 ∙ append_assoc q.0 q.1 after in
    let same = one_spelling p.0 q.0 (p.1 ++ rest) (q.1 ++ after) i j p.2 q.2 both in
    let less : length q.1 ≤ length p.1 = prefix_longest is js p.1 rest q.1 after p.4 none same.2 q.4 in
    let long : length prefix ≡ length p.0 + length p.1 = ap length p.3 ∙ length-append p.0 p.1 in
    let short : length other ≡ length q.0 + length q.1 = ap length q.3 ∙ length-append q.0 q.1 in
    let even : length p.0 ≡ length q.0 = ap length same.0 in
    omega arith

-- A line is a joining in only one way.
pub joining_unique : (xs ys : List Item) (line : List ℕ) → IsJoining line xs → IsJoining line ys → xs ≡ ys
joining_unique [] [] line p q = refl
joining_unique [] (y ∷ ys) line p q =
    let some = spelling_some q.0 y q.2 in
    let long : length line ≡ length q.0 + length q.1 = ap length q.3 ∙ length-append q.0 q.1 in
    let none : length line ≡ 0 = ap length p in absurd (omega arith)
joining_unique (x ∷ xs) [] line p q =
    let some = spelling_some p.0 x p.2 in
    let long : length line ≡ length p.0 + length p.1 = ap length p.3 ∙ length-append p.0 p.1 in
    let none : length line ≡ 0 = ap length q in absurd (omega arith)
joining_unique (x ∷ xs) (y ∷ ys) line p q =
    let same = one_spelling p.0 q.0 p.1 q.1 x y p.2 q.2 (sym p.3 ∙ q.3) in
    let rest : xs ≡ ys = joining_unique xs ys p.1 p.4 (subst (λ l. IsJoining l ys) (sym same.2) q.4) in
    let first : x ≡ y = same.1 in cc
