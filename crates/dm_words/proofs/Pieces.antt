-- Pieces of a list, joined.
use Rattle.dm_words.proofs.Names.{◌≡◌, ℕ, ◌+◌, List, [], ◌∷◌, ◌++◌, length, append_assoc, refl, ap, subst, ◌∙◌, arith}
use Rattle.dm_words.proofs.Names.{add-zero, length-append, AllByRecursion, append-nil, Piece, spelled, gathered}
use Rattle.dm_words.proofs.Names.{whats, AreJoined, zero, suc, take, drop, nat_tests}

module _ {A : Type 0} where
  -- Each of two lists, joined.
  pub all-append : (P : A → Type 0) (a b : List A) → AllByRecursion P a → AllByRecursion P b → AllByRecursion P (a ++ b)
  all-append P [] b h k = k
  all-append P (x ∷ a) b h k = (h.0, all-append P a b h.1 k)

  -- The first ones of a list, and the others.
  pub all-take : (P : A → Type 0) (n : ℕ) (xs : List A) → AllByRecursion P xs
      → AllByRecursion P (take n xs) × AllByRecursion P (drop n xs)
  all-take P zero xs h = (tt, h)
  all-take P (suc n) [] h = (tt, tt)
  all-take P (suc n) (x ∷ xs) h = (let r = all-take P n xs h.1 in ((h.0, r.0), r.1))

  -- The words of pieces, and of more behind them.
  pub spelled-append : (a b : List (Piece A)) → spelled (a ++ b) ≡ spelled a ++ spelled b
  spelled-append [] b = refl
  spelled-append (p ∷ a) b = grind (arith, nat_tests, append_assoc, spelled, spelled-append a b)

  -- The words of pieces, and of one behind them.
  pub spelled-last : (ps : List (Piece A)) (q : Piece A) → spelled (ps ++ q ∷ []) ≡ spelled ps ++ q.words
  spelled-last ps q = spelled-append ps (q ∷ []) ∙ ap (λ (l : List ℕ). spelled ps ++ l) (append-nil q.words)

  -- What pieces stand for, and more behind them.
  pub whats-append : (a b : List (Piece A)) → whats (a ++ b) ≡ whats a ++ whats b
  whats-append [] b = refl
  whats-append (p ∷ a) b = ap (λ (l : List A). p.what ∷ l) (whats-append a b)

  -- Parts that are joined, and more behind them.
  pub joined-append : (R : ℕ → List ℕ → List ℕ → A → Type 0) (place : ℕ) (a b : List (Piece A)) (after : List ℕ)
      → AreJoined R place a (spelled b ++ after)
      → AreJoined R (place + length (spelled a)) b after → AreJoined R place (a ++ b) after
  joined-append R place [] b after h k = rw add-zero at k
  joined-append R place (p ∷ a) b after h k =
      let all : spelled a ++ (spelled b ++ after) ≡ spelled (a ++ b) ++ after =
      cc (append_assoc (spelled a) (spelled b) after, spelled-append a b) in
      let there : place + length (p.words ++ spelled a) ≡ (place + length p.words) + length (spelled a) =
      omega (arith, length-append p.words (spelled a)) in (
        subst (λ (l : List ℕ). R place p.words l p.what) all h.0,
        joined-append R (place + length p.words) a b after h.1 (rw there at k),
      )

  -- Parts that are joined, and one behind them.
  pub joined-last : (R : ℕ → List ℕ → List ℕ → A → Type 0) (place : ℕ) (ps : List (Piece A)) (q : Piece A)
      (after : List ℕ) → AreJoined R place ps (q.words ++ after)
      → R (place + length (spelled ps)) q.words after q.what → AreJoined R place (ps ++ q ∷ []) after
  joined-last R place ps q after h one = grind (arith, nat_tests, joined-append, append-nil)

module _ {B : Type 0} where
  -- The lists that pieces stand for, and more behind them.
  pub gathered-append : (a b : List (Piece (List B))) → gathered (a ++ b) ≡ gathered a ++ gathered b
  gathered-append [] b = refl
  gathered-append (p ∷ a) b = grind (arith, nat_tests, append_assoc, gathered, gathered-append a b)

  -- The lists that pieces stand for, and one behind them.
  pub gathered-last : (ps : List (Piece (List B))) (q : Piece (List B)) → gathered (ps ++ q ∷ []) ≡ gathered ps
      ++ q.what
  gathered-last ps q = gathered-append ps (q ∷ []) ∙ ap (λ (l : List B). gathered ps ++ l) (append-nil q.what)
