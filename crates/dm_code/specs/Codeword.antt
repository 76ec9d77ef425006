-- The codewords of one Reed-Solomon block of ISO/IEC 16022, ECC 200, and how near a word is to them. A word is a list
-- of numbers of 0 to 255: the data codewords of a block and then its k check codewords. As a polynomial it has the
-- highest power first.
use Rattle.std.specs.Prelude.{◌≡◌, ℕ, zero, suc, ◌+◌, ◌/◌, ◌≤◌, ◌==◌, if◌then◌else◌, List, length, slice_index}
use Rattle.gf301.specs.Polynomial.{Bytes, times}
use Rattle.gf301.specs.Generator.{generator}

-- A word is a codeword of k checks where it is a multiple of the generator for k check codewords. The quotient has the
-- word's length less k.
abbrev pub IsCodeword : ℕ → List ℕ → Type 0
IsCodeword k word = (quotient : List ℕ) × Bytes quotient × (word ≡ times quotient (generator k))

-- A word differs from another at this many of its first n places.
unfoldable pub differing : List ℕ → List ℕ → ℕ → ℕ
differing word other zero = 0
differing word other (suc n) =
    differing word other n + (if slice_index word n == slice_index other n then 0 else 1)

-- The distance of two words of one length is the number of places at which they differ.
abbrev pub distance : List ℕ → List ℕ → ℕ
distance word other = differing word other (length word)

-- Another word is near to a word where it is a codeword of k checks within the correction limit: it is as long, and
-- they differ in at most k / 2 places. That the limit is the whole of k / 2, with no check codeword kept back for
-- detection, is a rule of this project.
pub record IsNear (k : ℕ) (word other : List ℕ) : Type 0 where
  pub codeword : IsCodeword k other
  pub long : length other ≡ length word
  pub close : distance word other ≤ k / 2
