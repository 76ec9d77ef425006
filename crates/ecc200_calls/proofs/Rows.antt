-- Rows of modules that are written one after the other.
use Rattle.ecc200_calls.proofs.Names.{◌≡◌, ℕ, ◌+◌, ◌-◌, ◌*◌, ◌<◌, ◌≤◌, Bool, List, [], ◌++◌, map, take, drop, length}
use Rattle.ecc200_calls.proofs.Names.{get_or, sym, ◌∙◌, ap, arith, flat_map, take_more}
use Rattle.ecc200_calls.proofs.Names.{drop-drop, append-nil, module_of}
use Rattle.std.proofs.lemmas.Grind.{flat_map-append}

-- What lies behind one place lies behind the next.
pub behind_more : {X : Type 0} (xs ys : List X) (k n : ℕ) → drop k xs ≡ drop k ys → drop (k + n) xs ≡ drop (k + n) ys
behind_more xs ys k n h = sym (drop-drop n k xs) ∙ ap (λ zs. drop n zs) h ∙ drop-drop n k ys

-- One more row of a symbol is written behind the rows so far.
pub row_more : (all new : List ℕ) (rows : List (List Bool)) (row side : ℕ)
    → take ((row + 1) * side) new ≡ take (row * side) all ++ map module_of (get_or rows row []) → row < length rows
    → take (row * side) all ≡ flat_map (map module_of) (take row rows)
    → take ((row + 1) * side) new ≡ flat_map (map module_of) (take (row + 1) rows)
row_more all new rows row side e lr prefix =
    let line : List ℕ = map module_of (get_or rows row []) in
    rw (e, prefix, take_more rows row [] lr, flat_map-append, append-nil)

-- What lies behind one place, and further behind, is as before.
pub behind_far : {X : Type 0} (xs ys : List X) (k n : ℕ) → k ≤ n → drop k xs ≡ drop k ys → drop n xs ≡ drop n ys
behind_far xs ys k n le h =
    let sum : k + (n - k) ≡ n = omega (arith, le) in rw sum at (behind_more xs ys k (n - k) h)
