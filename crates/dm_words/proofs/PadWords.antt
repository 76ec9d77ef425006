-- Lemmas on pads.
use Rattle.dm_words.proofs.Names.{◌≡◌, ℕ, zero, suc, ◌+◌, ◌-◌, ◌<◌, ◌≤◌, List, [], ◌∷◌, ◌++◌, length, length-append}
use Rattle.dm_words.proofs.Names.{take, take_all, append-nil, refl, ap, append_assoc, arith, nat_tests, further_pads}
use Rattle.dm_words.proofs.Names.{pads}
use Rattle.dm_words.proofs.Names.{padded, AreBytes, ArePads, NoUnlatchFirst}
use Rattle.dm_words.specs.Pads.{pad_at}
use Rattle.dm_words.proofs.Pieces.{all-append}

-- What is left of the pads behind the first one.
pub first_left : (held next count : ℕ) (words new : List ℕ) → length words ≡ held → held < count → next ≡ held + 1
    → new ≡ words ++ 129 ∷ [] → padded words count ≡ new ++ further_pads (next + 1) (count - next)
first_left held next count words new here lt one is =
    let some : count - length words ≡ suc (count - next) = omega (arith, here, lt, one) in
    let place : length words + 1 ≡ next = omega (arith, here, one) in
    let rest = further_pads (next + 1) (count - next) in
    cc (
      ap (λ (n : ℕ). words ++ pads (length words + 1) n) some,
      ap (λ (n : ℕ). words ++ 129 ∷ further_pads (n + 1) (count - next)) place,
      append_assoc words (129 ∷ []) rest,
    )

-- One more pad is written.
pub pad_turn : (held next count p : ℕ) (all old new : List ℕ) → held < count → next ≡ held + 1 → p ≡ pad_at (held + 1)
    → all ≡ old ++ further_pads (held + 1) (count - held) → new ≡ old ++ p ∷ []
    → all ≡ new ++ further_pads (next + 1) (count - next)
pad_turn held next count p all old new lt one is so_far put =
    let some : count - held ≡ suc (count - next) = omega (arith, lt, one) in
    cc (
      ap (λ (n : ℕ). old ++ further_pads (held + 1) n) some,
      ap (λ (n : ℕ). old ++ pad_at (held + 1) ∷ further_pads (n + 1) (count - next)) one,
      append_assoc old (p ∷ []) (further_pads (next + 1) (count - next)),
    )

-- At the end all pads are written.
pub pads_end : (held count : ℕ) (all words : List ℕ) → length words ≤ held → count ≤ held
    → all ≡ take held words ++ further_pads (held + 1) (count - held) → words ≡ all
pads_end held count all words le few so_far =
    let none : count - held ≡ 0 = omega (arith, few) in
    cc (
      ap (λ (n : ℕ). take held words ++ further_pads (held + 1) n) none,
      append-nil (take held words),
      take_all held words le,
    )

-- Where there is no room for any, none are there.
pub no_pads : (held : ℕ) (words : List ℕ) → length words ≤ held → words ≡ padded (take held words) (length words)
no_pads held words le =
    let none : length words - length words ≡ 0 = omega arith in
    cc (
      take_all held words le,
      ap (λ (n : ℕ). words ++ pads (length words + 1) n) none,
      append-nil words,
    )

-- There are as many further pads as asked for.
length-further_pads : (place n : ℕ) → length (further_pads place n) ≡ n
length-further_pads place zero = refl
length-further_pads place (suc n) = ap suc (length-further_pads (place + 1) n)

-- There are as many pads, the first one among them, as asked for.
pub length-pads : (place n : ℕ) → length (pads place n) ≡ n
length-pads place n = grind (arith, nat_tests, length-further_pads)

-- The codewords and their pads are as many as asked for.
pub length-padded : (words : List ℕ) (count : ℕ) → length words ≤ count → length (padded words count) ≡ count
length-padded words count le = grind (arith, length-append, length-pads)

-- The words up to a count are filled by them.
pub filled : (words : List ℕ) (count : ℕ) → length words ≤ count
    → length words + length (pads (length words + 1) (count - length words)) ≡ count
filled words count fits = omega (arith, length-pads (length words + 1) (count - length words), fits)

-- Pads don't begin with the unlatch.
pub pads_begin : (place n : ℕ) → NoUnlatchFirst (pads place n)
pads_begin place n = grind (arith, nat_tests)

-- The pads behind words up to a count are those of their places.
pub pads_are : (words : List ℕ) (count : ℕ)
    → ArePads (padded words count) (pads (length words + 1) (count - length words))
pads_are words count = grind (arith, nat_tests, pads, length-pads, length-append)

-- A pad is a codeword.
pad_byte : (place : ℕ) → pad_at place < 256
pad_byte place = grind (arith, nat_tests)

-- Pads that are not the first of the symbol are codewords.
further_pads_bytes : (place n : ℕ) → AreBytes (further_pads place n)
further_pads_bytes place zero = tt
further_pads_bytes place (suc n) = (pad_byte place, further_pads_bytes (place + 1) n)

-- Pads are codewords.
pads_bytes : (place n : ℕ) → AreBytes (pads place n)
pads_bytes place n = grind (arith, nat_tests, further_pads_bytes)

-- Codewords with their pads are codewords.
pub padded_bytes : (words : List ℕ) (count : ℕ) → AreBytes words → AreBytes (padded words count)
padded_bytes words count fit = grind (arith, nat_tests, all-append, pads, pads_bytes)
