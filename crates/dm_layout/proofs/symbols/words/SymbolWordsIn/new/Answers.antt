use Rattle.dm_layout.proofs.Names.{◌≡◌, ◌-◌, ◌++◌, ◌∙◌, ℕ, List, drop, length, take, replicate, ap, arith}
use Rattle.dm_layout.proofs.Names.{take-append_seam, codeword_count}
use Rattle.dm_layout.proofs.symbols.words.SymbolWordsIn.new.Goals as goal

pub returns-clause-value : goal.returns-clause-value
returns-clause-value g c =
    let list : List ℕ = c.copy_from_slice.new.self in
    let rest : List ℕ = drop (length c.args.list.now - 0) (drop 0 (replicate g.row.ROOM 0)) in
    let count : codeword_count c.args.size ≡ length list =
    omega (arith, ap length c.copy_from_slice.ensures.after, c.requires.count) in
    ap (λ (words : List ℕ). record { size = c.args.size; list = words })
    (ap (λ (n : ℕ). take n (list ++ rest)) count ∙ take-append_seam list rest ∙ c.copy_from_slice.ensures.after)
