-- What is left of a row that is taken off sixteen modules at a time.
use Rattle.dm_layout.proofs.Names.{◌≡◌, ℕ, ◌+◌, ◌/◌, ◌^◌, div-div-eq-div-mul, pow-add}

-- What is left of a row when sixteen more modules are taken off.
pub rest_more : (row column rest : ℕ) → rest ≡ row / 2 ^ column → rest / 65536 ≡ row / 2 ^ (column + 16)
rest_more row column rest is =
    rw (is, div-div-eq-div-mul, pow-add)
