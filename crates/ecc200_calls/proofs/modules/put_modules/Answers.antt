use Rattle.ecc200_calls.proofs.Names.{refl, ◌≡◌, ◌<◌, ◌≤◌, ◌∙◌, ◌+◌, ◌-◌, ◌*◌, ℕ, sym, ap, arith, get_or, take, drop}
use Rattle.ecc200_calls.proofs.Names.{length, subst, mul-le-mul_right, SymbolView, module_at, is_dark}
use Rattle.ecc200_calls.proofs.Names.{SizeEntry, area, AreModulesOf}
use Rattle.ecc200_calls.proofs.Packing.{above_more, all_packed, both_parts, rest_at}
use Rattle.ecc200_calls.proofs.modules.put_modules.Goals as goal

pub loop-row-preserved : goal.loop-row-preserved
loop-row-preserved g c =
    let i = c.loop-row.invariant in
    let row = c.loop-row.row in
    let old : SymbolView = c.loop-row.symbol in
    let new : SymbolView = c.put_row.new.self in
    let modules = c.args.modules.now in
    let columns = old.size.columns in
    let same : new.size ≡ old.size = c.put_row.ensures.size in
    let at = c.from.result * c.from-columns.result in
    let start : at ≡ row * columns = rw (c.from.ensures, i.across) refl in
    let low : row < old.size.rows = omega (arith, c.loop-row-test.true, i.last) in
    let room : (row + 1) * columns ≤ old.size.rows * columns = mul-le-mul_right columns (omega (arith, low)) in
    let count : length modules ≡ area old.size = c.requires ∙ ap area (sym i.size) in
    let wide : c.from-columns.result ≡ columns = i.across in
    let rest = take (length modules - at) (drop at modules) in
    let here : (k : ℕ) → k < columns → module_at new row k ≡ is_dark (get_or modules (row * columns + k) 0) =
    λ k l.
    both_parts new row columns c.pack_start.result c.pack_end.result (λ j. is_dark (get_or rest j 0))
    c.put_row.ensures.start c.put_row.ensures.end
    (λ j few inside. c.pack_start.ensures j few (omega (arith, inside, wide)))
    (λ j inside. c.pack_end.ensures j (omega (arith, inside, wide))) k l
    ∙ ap is_dark ((rest_at modules at k 0 (omega (arith, start, room, count, l))).1
    ∙ ap (λ n. get_or modules (n + k) 0) start) in
    record {
      above =
          rw same (above_more old new modules row old.size.rows columns low here c.put_row.ensures.others i.above);
      size = same ∙ i.size;
      well = c.put_row.ensures.modules;
      last = rw same i.last;
      across = rw same i.across;
    }

pub returns-clause-modules : goal.returns-clause-modules
returns-clause-modules g c =
    let i = c.loop-row.invariant in
    let symbol : SymbolView = c.loop-row.symbol in
    let count : length c.args.modules.now ≡ area symbol.size = c.requires ∙ ap area (sym i.size) in
    subst (λ (s : SizeEntry). AreModulesOf s.rows s.columns c.args.modules.now symbol) i.size
    (all_packed symbol c.args.modules.now i.well count
    (λ r k lr lk. i.above r k (omega (arith, lr, c.loop-row-test.false, i.last)) lk))
