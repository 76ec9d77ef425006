-- Going through a list from the left, piece by piece.
use Rattle.std.specs.Prelude.{ℕ, zero, suc, ◌+◌, List, [], ◌∷◌, ◌++◌, length, drop, map}
use Rattle.dm_words.specs.Joined.{Piece}

-- A step finds first of a list a piece of some number of words, or nothing that can be taken.
pub data Step (A S : Type 0) : Type 0 where
  Takes : (count : ℕ) (what : A) → Step A S
  Stops : (why : S) → Step A S

-- A walk gives what it took, and the place and the reason of its stop.
pub record Walked (A S : Type 0) : Type 0 where
  pub taken : List A
  pub place : ℕ
  pub why : S

module _ {A S : Type 0} where
  -- One more piece is taken before a walk.
  abbrev pub and_before : A → Walked A S → Walked A S
  and_before piece walked = record { taken = piece ∷ walked.taken; place = walked.place; why = walked.why }

  -- The walk goes on, or stops, by what the step found.
  abbrev pub by_step : Step A S → (ℕ → A → Walked A S) → (S → Walked A S) → Walked A S
  by_step (Takes count what) takes stops = takes count what
  by_step (Stops why) takes stops = stops why

  -- A walk takes pieces from the left as long as there are any, and at most `fuel` of them; `never` is the reason where
  -- the fuel ends.
  unfoldable pub walk : (ℕ → List ℕ → Step A S) → S → ℕ → ℕ → List ℕ → Walked A S
  walk step never zero place words = record { taken = []; place = place; why = never }
  walk step never (suc fuel) place words =
      by_step (step place words)
      (λ count what. and_before what (walk step never fuel (place + count) (drop count words)))
      (λ why. record { taken = []; place = place; why = why })

  -- This walk goes over all of the words.
  abbrev pub walk_all : (ℕ → List ℕ → Step A S) → S → ℕ → List ℕ → Walked A S
  walk_all step never place words = walk step never (suc (length words)) place words

module _ {B : Type 0} where
  -- The lists are joined.
  abbrev pub flat : List (List B) → List B
  flat [] = []
  flat (list ∷ lists) = list ++ flat lists

module _ {C : Type 0} where
  -- What the pieces stand for is listed in order.
  abbrev pub whats : List (Piece C) → List C
  whats pieces = map (λ piece. piece.what) pieces
