-- A walk finds the pieces that are joined, and no others.
use Rattle.dm_words.proofs.Names.{◌≡◌, ℕ, zero, suc, ◌+◌, ◌<◌, ◌≤◌, List, [], ◌∷◌, ◌++◌, length, take, drop, refl}
use Rattle.dm_words.proofs.Names.{sym, ap, subst, append_assoc, arith, add-zero, length-append, drop_at}
use Rattle.dm_words.proofs.Names.{take-append-drop, length-take, length-drop, Piece, spelled, whats, AreJoined, Step}
use Rattle.dm_words.proofs.Names.{Takes, Stops, Walked, and_before, nat_tests}
use Rattle.dm_words.specs.inner.Scan.Walk.{by_step, walk, walk_all}

module _ {A S : Type 0} where
  -- A walk took these pieces and stopped before these words.
  pub record Walks (step : ℕ → List ℕ → Step A S) (IsRight : ℕ → List ℕ → List ℕ → A → Type 0) (Fit : List ℕ → Type 0)
      (place : ℕ) (words : List ℕ) (w : Walked A S) : Type 0 where
    pub pieces : List (Piece A)
    pub after : List ℕ
    pub whole : words ≡ spelled pieces ++ after
    pub joined : AreJoined IsRight place pieces after
    pub taken : w.taken ≡ whats pieces
    pub place_is : w.place ≡ place + length (spelled pieces)
    pub stopped : step w.place after ≡ Stops w.why
    pub fits : Fit after

  -- Each piece that a step takes is right.
  pub record IsSound (step : ℕ → List ℕ → Step A S) (IsRight : ℕ → List ℕ → List ℕ → A → Type 0) (Fit : List ℕ
      → Type 0) : Type 0 where
    pub right : (place : ℕ) (words : List ℕ) (n : ℕ) (a : A) → Fit words → step place words ≡ Takes n a
        → IsRight place (take n words) (drop n words) a × (0 < n) × (n ≤ length words)
    pub fits : (n : ℕ) (words : List ℕ) → Fit words → Fit (drop n words)

  -- Each piece that is right is taken by a step.
  abbrev pub IsComplete : (ℕ → List ℕ → Step A S) → (ℕ → List ℕ → List ℕ → A → Type 0) → Type 0
  IsComplete step IsRight = (place : ℕ) (words after : List ℕ) (a : A) → IsRight place words after a
      → (step place (words ++ after) ≡ Takes (length words) a) × (0 < length words)

  module _ (step : ℕ → List ℕ → Step A S) (IsRight : ℕ → List ℕ → List ℕ → A → Type 0) (Fit : List ℕ
      → Type 0) (never : S) where
    -- A walk takes a right piece first, and then goes on as a walk over the words behind it.
    then_walks : (place : ℕ) (words : List ℕ) (n : ℕ) (a : A) (w : Walked A S)
        → IsRight place (take n words) (drop n words) a → n ≤ length words
        → Walks step IsRight Fit (place + n) (drop n words) w → Walks step IsRight Fit place words (and_before a w)
    then_walks place words n a w right le v =
        let len : length (take n words) ≡ n = omega (arith, length-take n words) in
        record {
          pieces = (let p : Piece A = record { words = take n words; what = a } in p) ∷ v.pieces;
          after = v.after;
          whole = cc (take-append-drop n words, v.whole, append_assoc (take n words) (spelled v.pieces) v.after);
          joined = (
            subst (λ (r : List ℕ). IsRight place (take n words) r a) v.whole right,
            subst (λ (k : ℕ). AreJoined IsRight (place + k) v.pieces v.after) (sym len) v.joined,
          );
          taken = ap (λ (xs : List A). a ∷ xs) v.taken;
          place_is = omega (arith, v.place_is, len, length-append (take n words) (spelled v.pieces));
          stopped = v.stopped;
          fits = v.fits;
        }

    -- Whatever is found first, a walk that is sound takes right pieces.
    walks_by : (fuel place : ℕ) (words : List ℕ) (s : Step A S) → step place words ≡ s → length words < suc fuel
        → Fit words → IsSound step IsRight Fit
        → ((p : ℕ) (ws : List ℕ) → length ws < fuel → Fit ws → Walks step IsRight Fit p ws (walk step never fuel p ws))
        → Walks step IsRight Fit place words
        (by_step s (λ n a. and_before a (walk step never fuel (place + n) (drop n words)))
        (λ z. record { taken = []; place = place; why = z }))
    walks_by fuel place words (Takes n a) e lt fit sound again =
        let r = sound.right place words n a fit e in
        then_walks place words n a (walk step never fuel (place + n) (drop n words)) r.0 r.2
        (again (place + n) (drop n words) (omega (arith, r.1, r.2, lt, length-drop n words)) (sound.fits n words fit))
    walks_by fuel place words (Stops z) e lt fit sound again =
        record {
          pieces = [];
          after = words;
          whole = refl;
          joined = tt;
          taken = refl;
          place_is =
              omega arith;
          stopped = e;
          fits = fit;
        }

    -- A walk whose steps are sound takes right pieces.
    pub walks : IsSound step IsRight Fit → (fuel place : ℕ) (words : List ℕ) → length words < fuel → Fit words
        → Walks step IsRight Fit place words (walk step never fuel place words)
    unfolding walk
    walks sound zero place words lt fit = absurd (omega arith)
    walks sound (suc fuel) place words lt fit =
        walks_by fuel place words (step place words) refl lt fit sound (walks sound fuel)

    -- A walk whose steps are complete takes the pieces that are joined.
    pub walk-joined : IsComplete step IsRight → (fuel place : ℕ) (pieces : List (Piece A)) (after : List ℕ) (s : S)
        → AreJoined IsRight place pieces after → step (place + length (spelled pieces)) after ≡ Stops s
        → length (spelled pieces ++ after) < fuel
        → walk step never fuel place (spelled pieces ++ after)
        ≡ record { taken = whats pieces; place = place + length (spelled pieces); why = s }
    unfolding walk
    walk-joined complete zero place pieces after s joined stop lt = absurd (omega arith)
    walk-joined complete (suc fuel) place [] after s joined stop lt = grind (arith, nat_tests, add-zero)
    walk-joined complete (suc fuel) place (p ∷ ps) after s joined stop lt =
        let c = complete place p.words (spelled ps ++ after) p.what joined.0 in
        let grouped : (p.words ++ spelled ps) ++ after ≡ p.words
        ++ (spelled ps ++ after) = append_assoc p.words (spelled ps) after in
        let there : place + length (p.words ++ spelled ps) ≡ (place + length p.words) + length (spelled ps) =
        omega (arith, length-append p.words (spelled ps)) in
        let shorter : length (spelled ps ++ after) < fuel =
        omega (arith, c.1, lt, ap length grouped, length-append p.words (spelled ps ++ after)) in
        let rest = walk-joined complete fuel (place + length p.words) ps after s joined.1 (rw there at stop) shorter in
        rw (grouped, c.0, drop_at p.words (spelled ps ++ after) (length p.words) refl, rest, there) refl

module _ {A S : Type 0} (step : ℕ → List ℕ → Step A S) (IsRight : ℕ → List ℕ → List ℕ → A → Type 0) (Fit : List ℕ
    → Type 0) (never : S) where
  -- Whatever is found first, more fuel changes nothing.
  same_by : (f g place : ℕ) (words : List ℕ) (s : Step A S) → step place words ≡ s → length words < suc f
      → length words < suc g → Fit words → IsSound step IsRight Fit
      → ((place : ℕ) (words : List ℕ) → length words < f → length words < g → Fit words
      → walk step never f place words ≡ walk step never g place words)
      → by_step s (λ n a. and_before a (walk step never f (place + n) (drop n words)))
      (λ z. record { taken = []; place = place; why = z })
      ≡ by_step s (λ n a. and_before a (walk step never g (place + n) (drop n words)))
      (λ z. record { taken = []; place = place; why = z })
  same_by f g place words (Takes n a) e lf lg fit sound again =
      let r = sound.right place words n a fit e in
      ap (and_before a)
      (again (place + n) (drop n words) (omega (arith, r.1, r.2, lf, length-drop n words))
      (omega (arith, r.1, r.2, lg, length-drop n words)) (sound.fits n words fit))
  same_by f g place words (Stops z) e lf lg fit sound again = refl

  -- More fuel changes nothing.
  pub walk-fuel : IsSound step IsRight Fit → (f g place : ℕ) (words : List ℕ) → length words < f → length words < g
      → Fit words → walk step never f place words ≡ walk step never g place words
  unfolding walk
  walk-fuel sound zero g place words lf lg fit = absurd (omega arith)
  walk-fuel sound (suc f) zero place words lf lg fit = absurd (omega arith)
  walk-fuel sound (suc f) (suc g) place words lf lg fit =
      same_by f g place words (step place words) refl lf lg fit sound (walk-fuel sound f g)

  -- A walk over all words takes its first piece and then walks over the others.
  pub walk_all-takes : IsSound step IsRight Fit → (place : ℕ) (words : List ℕ) (n : ℕ) (a : A) → Fit words
      → step place words ≡ Takes n a
      → walk_all step never place words ≡ and_before a (walk_all step never (place + n) (drop n words))
  unfolding walk
  walk_all-takes sound place words n a fit e =
      let r = sound.right place words n a fit e in
      rw e (ap (and_before a)
      (walk-fuel sound (length words) (suc (length (drop n words))) (place + n) (drop n words)
      (omega (arith, r.1, r.2, length-drop n words)) (omega arith) (sound.fits n words fit)))

  -- A walk that finds no piece stops at once.
  pub walk_all-stops : (place : ℕ) (words : List ℕ) (s : S) → step place words ≡ Stops s
      → walk_all step never place words ≡ record { taken = []; place = place; why = s }
  unfolding walk
  walk_all-stops place words s e = rw e refl
