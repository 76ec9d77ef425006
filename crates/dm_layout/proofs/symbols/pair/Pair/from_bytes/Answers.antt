use Rattle.dm_layout.proofs.Names.{◌≡◌, ◌∙◌, ℕ, List, drop, length, take, arith, length-drop, take_all, from_le_bytes}
use Rattle.dm_layout.proofs.Names.{w128, pair, in_bytes}
use Rattle.std.proofs.lemmas.List.{take-append-drop}
use borrow.Rule.Slice.PartMut.{mid_of}
use Rattle.dm_layout.proofs.symbols.SlotBytes.{in_bytes_append, in_sixteen}
use Rattle.dm_layout.proofs.symbols.pair.Pair.from_bytes.Goals as goal

-- What follows the first sixteen of 32 bytes are the last sixteen.
last_half : (xs : List ℕ) → length xs ≡ 32 → mid_of 16 16 xs ≡ drop 16 xs
last_half xs n = take_all 16 (drop 16 xs) (let k = length-drop 16 xs in omega (arith, k, n))

-- The number of both halves is that of all bytes.
both_halves : (l h : ℕ) (xs bs cs : List ℕ) → length xs ≡ 32 → l ≡ from_le_bytes w128 bs → h ≡ from_le_bytes w128 cs →
    bs ≡ take 16 xs → cs ≡ drop 16 xs → length bs ≡ 16 → length cs ≡ 16 → pair l h ≡ in_bytes xs
both_halves l h xs bs cs n el eh eb ec nb nc =
    cc (el, in_sixteen bs nb, eh, in_sixteen cs nc, nb, in_bytes_append bs cs, eb, ec, take-append-drop 16 xs)

pub returns : goal.returns
returns c =
    both_halves c.from_le_bytes.result c.from_le_bytes-2.result c.args.bytes.now _ _ c.told-bytes
    c.from_le_bytes.ensures c.from_le_bytes-2.ensures c.copy_from_slice.ensures.after
    (c.copy_from_slice-2.ensures.after ∙ last_half c.args.bytes.now c.told-bytes)
    c.copy_from_slice.ensures.len c.copy_from_slice-2.ensures.len
