-- What holds of the codewords of one Reed-Solomon block: how far apart they are, and which words they are. The most
-- places of a word, 255, are as many as the field has elements other than 0.
use Rattle.std.specs.Prelude.{◌≡◌, ◌≢◌, ◌⊎◌, ◌↔◌, ℕ, ◌+◌, ◌<◌, ◌≤◌, List, ◌++◌, length, replicate}
use Rattle.gf301.specs.Polynomial.{Bytes}
use Rattle.dm_code.specs.Codeword.{IsCodeword, IsNear, distance}
use Rattle.dm_code.specs.Syndromes.{syndromes_of}

-- Two different codewords of k checks and one length of at most 255 differ in at least k + 1 places.
abbrev pub CodewordsLieApart : Type 0
CodewordsLieApart =
    (k : ℕ) (word other : List ℕ) → IsCodeword k word → IsCodeword k other → length word ≡ length other →
    length word ≤ 255 → word ≢ other → k + 1 ≤ distance word other

-- Two codewords of k checks and one length of at most 255 that differ in at most k places are equal.
abbrev pub CloseCodewordsAreOne : Type 0
CloseCodewordsAreOne =
    (k : ℕ) (word other : List ℕ) → IsCodeword k word → IsCodeword k other → length word ≡ length other →
    length word ≤ 255 → distance word other ≤ k → word ≡ other

-- At most one codeword is near a word of at most 255 numbers.
abbrev pub NearCodewordIsOne : Type 0
NearCodewordIsOne = (k : ℕ) (word first second : List ℕ) → length word ≤ 255 → IsNear k word first →
    IsNear k word second → first ≡ second

-- Some codeword is near a word of more than k and at most 255 numbers, or none is.
abbrev pub NearCodewordIsThereOrNot : Type 0
NearCodewordIsThereOrNot =
    (k : ℕ) (word : List ℕ) → k < length word → length word ≤ 255 →
    ((other : List ℕ) × IsNear k word other) ⊎ ((other : List ℕ) → IsNear k word other → ⊥)

-- The data codewords, all numbers but the last k, determine a codeword of k checks.
abbrev pub FrontDeterminesChecks : Type 0
FrontDeterminesChecks =
    (k : ℕ) (front checks others : List ℕ) → IsCodeword k (front ++ checks) → IsCodeword k (front ++ others) →
    length checks ≡ k → length others ≡ k
    → length front + k ≤ 255 → checks ≡ others

-- Some k check codewords, k below 255, complete at most 255 - k data codewords to a codeword.
abbrev pub ChecksAreThere : Type 0
ChecksAreThere =
    (k : ℕ) (front : List ℕ) → Bytes front → k < 255 → length front + k ≤ 255 →
    (checks : List ℕ) × (length checks ≡ k) × IsCodeword k (front ++ checks)

-- The numbers of a codeword are bytes.
abbrev pub CodewordsAreBytes : Type 0
CodewordsAreBytes = (k : ℕ) (word : List ℕ) → IsCodeword k word → Bytes word

-- A list of more than k and at most 255 bytes is a codeword of k checks exactly where its k syndromes are 0.
abbrev pub CodewordsHaveNoSyndromes : Type 0
CodewordsHaveNoSyndromes = (k : ℕ) (word : List ℕ) → Bytes word → k < length word → length word ≤ 255 →
    IsCodeword k word ↔ (syndromes_of word k ≡ replicate k 0)
