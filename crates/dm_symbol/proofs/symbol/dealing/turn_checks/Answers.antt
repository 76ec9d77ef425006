use Rattle.dm_symbol.proofs.Names.{◌≡◌, ◌∙◌, ◌++◌, ◌∷◌, [], ℕ, length, get_or, map, take, sym, ap, arith, rules}
use Rattle.dm_symbol.proofs.Names.{range_with_len, length-map-range_with_len, turned_place}
use Rattle.std.proofs.lemmas.List.FromFn.{map-range_with_len_more}
use Rattle.dm_symbol.proofs.SymbolBelow.{put_last}
use Rattle.dm_symbol.proofs.Turns.{turned_inside}
use Rattle.dm_symbol.proofs.symbol.dealing.turn_checks.Goals as goal

pub bounds-words-i : goal.bounds-words-i
bounds-words-i c =
    omega (arith, c.requires.count, turned_inside c.args.shift c.loop-i.i (omega (arith, c.loop-i-test.true)))

pub push-requires : goal.push-requires
push-requires c =
    let many : length c.loop-i.checks.items ≡ c.loop-i.i =
    ap length c.loop-i.invariant
    ∙ length-map-range_with_len (λ k. get_or c.args.words.now (turned_place c.args.shift k) 0) 0 c.loop-i.i in
    (search rules, omega (arith, many, c.loop-i-test.true))

pub loop-i-preserved : goal.loop-i-preserved
loop-i-preserved c =
    let f : ℕ → ℕ = λ k. get_or c.args.words.now (turned_place c.args.shift k) 0 in
    c.push.ensures.items ∙ ap (λ xs. xs ++ f c.loop-i.i ∷ []) c.loop-i.invariant
    ∙ sym (map-range_with_len_more f 0 c.loop-i.i c.loop-i.i (omega arith))

pub copy_from_slice-requires : goal.copy_from_slice-requires
copy_from_slice-requires c =
    let f : ℕ → ℕ = λ k. get_or c.args.words.now (turned_place c.args.shift k) 0 in
    omega (
      arith,
      c.requires.count,
      ap length c.deref.ensures.0,
      ap length c.loop-i.invariant,
      length-map-range_with_len f 0 c.loop-i.i,
      c.loop-i-test.false,
      c.loop-i.auto.i-end,
    )

pub returns : goal.returns
returns c =
    let made = λ (n : ℕ). map (λ i. get_or c.args.words.now (turned_place c.args.shift i) 0) (range_with_len 0 n) in
    let end : c.loop-i.i ≡ 620 = omega (arith, c.loop-i-test.false, c.loop-i.auto.i-end) in
    put_last 1558 c.args.words.now c.copy_from_slice.new.self ∙ ap (λ xs. take 1558 c.args.words.now ++ xs)
    (c.copy_from_slice.ensures.after ∙ c.deref.ensures.0 ∙ c.loop-i.invariant ∙ ap made end)
