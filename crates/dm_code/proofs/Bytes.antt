-- Lists of bytes, place by place.
use Rattle.std.proofs.Common.{ℕ, suc, ◌<◌, List, [], ◌∷◌, length, get_or, arith}
use Rattle.gf301.specs.Polynomial.{Bytes}
use Rattle.gf301.proofs.Exported.{bytes_cons}

-- A list that holds a byte at each place is a list of bytes.
pub bytes_places : (p : List ℕ) → ((i : ℕ) → i < length p → get_or p i 0 < 256) → Bytes p
bytes_places [] h = λ k d l. absurd (omega arith)
bytes_places (a ∷ p) h = bytes_cons a p (h 0 (omega arith)) (bytes_places p (λ i l. h (suc i) (omega arith)))
