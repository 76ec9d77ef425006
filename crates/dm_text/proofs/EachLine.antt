-- Each line means something.
use Rattle.std.proofs.Common.{◌≡◌, ◌⊎◌, ◌∙◌, ◌≤◌, ◌<◌, ◌+◌, ◌-◌, ◌*◌, ℕ, zero, suc, List, [], ◌∷◌, ◌++◌, Ok, Err, inl}
use Rattle.std.proofs.Common.{inr, refl, sym, ap, subst, append_assoc, append-nil, length, length-append, arith}
use Rattle.std.specs.List.{AllByRecursion}
use Rattle.std.proofs.lemmas.Bool.{cases_eq, cases_lt}
use Rattle.std.proofs.lemmas.List.Elements.{All-from_recursion}
use Rattle.dm_symbol.specs.declared.Item.{Item}
use Rattle.dm_symbol.specs.declared.Item.TheVariants.{Byte, Fnc1}
use Rattle.dm_symbol.specs.Messages.{IsItem, IsMessage, most_items}
use Rattle.dm_text.specs.declared.message_line.LineFault.TheVariants.{BadEscape, TooLong}
use Rattle.dm_text.specs.Spellings.{IsHexDigit, figure, upper, lower, IsSpelling, plain, backslash, fnc1, byte}
use Rattle.dm_text.specs.Spellings.{IsJoining}
use Rattle.dm_text.specs.MessageLines.{IsLine, column_after}
use Rattle.dm_text.specs.LineFeeds.{LineMeaning}
use Rattle.dm_text.specs.inner.OpenLines.{BeginsNoSpelling}
use Rattle.dm_text.proofs.Joinings.{prefix_longest, spelling_some}
use Rattle.dm_text.proofs.OpenLineSteps.{none_begun}
use Rattle.dm_text.proofs.SpellingBytes.{backslash_none, digit_none, first_digit_none, foreign_none, hexadecimal_none}
use Rattle.dm_text.proofs.SpellingBytes.{second_digit_none, stray_none}

-- ---- digits

-- A byte outside the three ranges of digits is no digit.
no_digit : (d v : ℕ) → (48 ≤ d → d < 58 → ⊥) → (65 ≤ d → d < 71 → ⊥) → (97 ≤ d → d < 103 → ⊥) → IsHexDigit d v → ⊥
no_digit d v f u l (figure small e) = f (omega (arith, e)) (omega (arith, small, e))
no_digit d v f u l (upper low high e) = u (omega (arith, low, e)) (omega (arith, high, e))
no_digit d v f u l (lower low high e) = l (omega (arith, low, e)) (omega (arith, high, e))

-- A byte is a digit with a value, or it is no digit.
digit_or_none : (d : ℕ) → ((v : ℕ) × IsHexDigit d v) ⊎ ((v : ℕ) → IsHexDigit d v → ⊥)
digit_or_none d =
    elim (cases_lt d 48) [
      | inl a ↦ inr (λ v. no_digit d v (λ x y. omega (arith, a, x)) (λ x y. omega (arith, a, x))
          (λ x y. omega (arith, a, x)))
      | inr a ↦ elim (cases_lt d 58) [
        | inl b ↦ inl (d - 48, figure (omega (arith, a, b)) (omega (arith, a)))
        | inr b ↦ elim (cases_lt d 65) [
          | inl c ↦ inr (λ v. no_digit d v (λ x y. omega (arith, b, y)) (λ x y. omega (arith, c, x))
              (λ x y. omega (arith, c, x)))
          | inr c ↦ elim (cases_lt d 71) [
            | inl e ↦ inl (d - 55, upper (omega (arith, c)) (omega (arith, c, e)) (omega (arith, c)))
            | inr e ↦ elim (cases_lt d 97) [
              | inl f ↦ inr (λ v. no_digit d v (λ x y. omega (arith, b, y)) (λ x y. omega (arith, e, y))
                  (λ x y. omega (arith, f, x)))
              | inr f ↦ elim (cases_lt d 103) [
                | inl g ↦ inl (d - 87, lower (omega (arith, f)) (omega (arith, f, g)) (omega (arith, f)))
                | inr g ↦ inr (λ v. no_digit d v (λ x y. omega (arith, b, y)) (λ x y. omega (arith, e, y))
                    (λ x y. omega (arith, g, y)))
              ]
            ]
          ]
        ]
      ]
    ]

-- ---- a spelling at the start

-- A spelling stands at the start of these bytes.
record BeginsSpelling (bytes : List ℕ) : Type 0 where
  pub piece : List ℕ
  pub more : List ℕ
  pub item : Item
  pub whole : bytes ≡ piece ++ more
  pub spelling : IsSpelling piece item

-- A spelling, or none, stands at the start of bytes that begin with a backslash, x and a digit.
after_digit : (s u : ℕ) → IsHexDigit s u → (more : List ℕ) →
    BeginsSpelling (92 ∷ 120 ∷ s ∷ more) ⊎ BeginsNoSpelling (92 ∷ 120 ∷ s ∷ more)
after_digit s u h [] = inr (digit_none s)
after_digit s u h (t ∷ more) =
    elim (digit_or_none t) [
      | inl g ↦ inl (record {
        piece = 92 ∷ 120 ∷ s ∷ t ∷ [];
        more = more;
        item = Byte (16 * u + g.0);
        whole = refl;
        spelling = byte s t u g.0 h g.1 refl refl;
      })
      | inr none ↦ inr (second_digit_none s t more none)
    ]

-- A spelling, or none, stands at the start of bytes that begin with a backslash and x.
after_x : (more : List ℕ) → BeginsSpelling (92 ∷ 120 ∷ more) ⊎ BeginsNoSpelling (92 ∷ 120 ∷ more)
after_x [] = inr hexadecimal_none
after_x (s ∷ more) =
    elim (digit_or_none s) [
      | inl h ↦ after_digit s h.0 h.1 more
      | inr none ↦ inr (first_digit_none s more none)
    ]

-- A spelling, or none, stands at the start of bytes that begin with a backslash.
after_backslash : (more : List ℕ) → BeginsSpelling (92 ∷ more) ⊎ BeginsNoSpelling (92 ∷ more)
after_backslash [] = inr backslash_none
after_backslash (b ∷ more) =
    elim (cases_eq b 92) [
      | inl e ↦ inl (record {
        piece = 92 ∷ 92 ∷ [];
        more = more;
        item = Byte 92;
        whole = ap (λ x. 92 ∷ x ∷ more) e;
        spelling = backslash refl refl;
      })
      | inr no_backslash ↦ elim (cases_eq b 70) [
        | inl e ↦ inl (record {
          piece = 92 ∷ 70 ∷ [];
          more = more;
          item = Fnc1;
          whole = ap (λ x. 92 ∷ x ∷ more) e;
          spelling = fnc1 refl refl;
        })
        | inr no_f ↦ elim (cases_eq b 120) [
          | inl e ↦ subst (λ x. BeginsSpelling (92 ∷ x ∷ more) ⊎ BeginsNoSpelling (92 ∷ x ∷ more)) (sym e)
              (after_x more)
          | inr no_x ↦ inr (stray_none b more no_backslash no_f no_x)
        ]
      ]
    ]

-- A spelling stands at the start of any bytes, or none does.
spelling_or_none : (bytes : List ℕ) → BeginsSpelling bytes ⊎ BeginsNoSpelling bytes
spelling_or_none [] = inr none_begun
spelling_or_none (b ∷ more) =
    elim (cases_eq b 92) [
      | inl e ↦ subst (λ x. BeginsSpelling (x ∷ more) ⊎ BeginsNoSpelling (x ∷ more)) (sym e) (after_backslash more)
      | inr no_backslash ↦ elim (cases_lt b 32) [
        | inl low ↦ inr (foreign_none b more (λ l h. omega (arith, low, l)) no_backslash)
        | inr least ↦ elim (cases_lt 126 b) [
          | inl high ↦ inr (foreign_none b more (λ l h. omega (arith, high, h)) no_backslash)
          | inr most ↦ inl (record {
            piece = b ∷ [];
            more = more;
            item = Byte b;
            whole = refl;
            spelling =
                plain b least most no_backslash refl refl;
          })
        ]
      ]
    ]

-- ---- a whole line

-- The line has a prefix that is joined spellings, and none stands after it.
record HasPrefix (line : List ℕ) : Type 0 where
  pub prefix : List ℕ
  pub rest : List ℕ
  pub items : List Item
  pub whole : line ≡ prefix ++ rest
  pub joining : IsJoining prefix items
  pub none : BeginsNoSpelling rest

-- A line with no spelling at its start has the empty prefix.
prefix_none : (line : List ℕ) → BeginsNoSpelling line → HasPrefix line
prefix_none line none = record { prefix = []; rest = line; items = []; whole = refl; joining = refl; none = none }

-- No spelling stands at the start of an empty line.
no_bytes : (line : List ℕ) → length line ≤ 0 → BeginsNoSpelling line
no_bytes [] h = none_begun
no_bytes (b ∷ line) h = absurd (omega (arith, h))

-- A line of at most n bytes has a prefix of joined spellings, and none stands after it.
prefix_of : (n : ℕ) (line : List ℕ) → length line ≤ n → HasPrefix line
prefix_of zero line h = prefix_none line (no_bytes line h)
prefix_of (suc n) line h =
    elim (spelling_or_none line) [
      | inr none ↦ prefix_none line none
      | inl s ↦
          let later =
          prefix_of n s.more (omega (
            arith,
            h,
            ap length s.whole,
            length-append s.piece s.more,
            spelling_some s.piece s.item s.spelling,
          )) in
          record {
            prefix = s.piece ++ later.prefix;
            rest = later.rest;
            items = s.item ∷ later.items;
            whole = s.whole ∙ ap (λ l. s.piece ++ l) later.whole ∙ sym (append_assoc s.piece later.prefix later.rest);
            joining = (s.piece, later.prefix, s.spelling, refl, later.joining);
            none = later.none;
          }
    ]

-- A line means what its prefix of joined spellings and the bytes after it say.
by_rest : (line prefix rest : List ℕ) (items : List Item) → line ≡ prefix ++ rest → IsJoining prefix items →
    BeginsNoSpelling rest
    → (answer : LineMeaning) × IsLine line answer
by_rest line prefix [] items whole joining none =
    let all : IsJoining line items = subst (λ l. IsJoining l items) (sym (whole ∙ append-nil prefix)) joining in
    elim (cases_lt most_items (length items)) [
      | inl many ↦ (Err TooLong, (items, all, many))
      | inr few ↦ (Ok items, (all, few))
    ]
by_rest line prefix (b ∷ rest) items whole joining none = (
  Err (BadEscape (column_after prefix)),
  record {
    prefix = prefix;
    rest = b ∷ rest;
    longest = record {
      whole = whole;
      joined = (items, joining);
      longest =
          λ other after e j. prefix_longest items j.0 prefix (b ∷ rest) other after joining none (sym whole ∙ e) j.1;
    };
    broken = λ j.
        let less =
        prefix_longest items j.0 prefix (b ∷ rest) line [] joining none (sym whole ∙ sym (append-nil line)) j.1 in
        omega (arith, less, ap length whole, length-append prefix (b ∷ rest));
    column_is = refl;
  },
)

-- Each line means something.
pub line_is_there : (line : List ℕ) → (answer : LineMeaning) × IsLine line answer
line_is_there line =
    let f = prefix_of (length line) line (omega arith) in
    by_rest line f.prefix f.rest f.items f.whole f.joining f.none

-- ---- its items

-- The value of a hexadecimal digit is below 16.
digit_small : (d v : ℕ) → IsHexDigit d v → v < 16
digit_small d v (figure small e) = omega (arith, small)
digit_small d v (upper low high e) = high
digit_small d v (lower low high e) = high

-- What is spelled is a byte or FNC1.
spelled_item : (piece : List ℕ) (item : Item) → IsSpelling piece item → IsItem item
spelled_item piece item (plain b least most other p i) =
    subst IsItem (sym i) (let small : b < 256 = omega (arith, most) in small)
spelled_item piece item (backslash p i) = subst IsItem (sym i) (let small : 92 < 256 = omega arith in small)
spelled_item piece item (fnc1 p i) = subst IsItem (sym i) (let small : 0 < 256 = omega arith in small)
spelled_item piece item (byte s t u v hs ht p i) =
    subst IsItem (sym i) (let small : 16 * u + v < 256 = omega (arith, digit_small s u hs, digit_small t v ht) in small)

-- Each of the items whose spellings a line joins is a byte or FNC1.
joined_items : (items : List Item) (line : List ℕ) → IsJoining line items → AllByRecursion IsItem items
joined_items [] line j = tt
joined_items (item ∷ items) line j = (spelled_item j.0 item j.2, joined_items items j.1 j.4)

-- The items whose spellings a line joins are a message.
pub joined_message : (items : List Item) (line : List ℕ) → IsJoining line items → IsMessage items
joined_message items line j = All-from_recursion IsItem items (joined_items items line j)
