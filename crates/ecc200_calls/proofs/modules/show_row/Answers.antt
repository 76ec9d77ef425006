use Rattle.ecc200_calls.proofs.Names.{◌≡◌, ◌≤◌, ◌∙◌, ◌+◌, ◌-◌, ◌*◌, ℕ, ap, arith, take, length, get_or, map, [], ◌++◌}
use Rattle.ecc200_calls.proofs.Names.{List, refl, length-map, All-get_or, mul-le-mul_right, area, module_of}
use Rattle.ecc200_calls.proofs.Names.{unpacked_row}
use Rattle.std.proofs.lemmas.Slice.{drop-put_mid, take-put_mid}
use Rattle.ecc200_calls.proofs.Rows.{behind_far}
use Rattle.ecc200_calls.proofs.Unpacking.{line_is_row, row_shown}
use Rattle.ecc200_calls.proofs.modules.show_row.Goals.{After-from}
use Rattle.ecc200_calls.proofs.modules.show_row.Goals as goal

-- The columns of the symbol, where the row begins, and how long it is.
known : (g : _) (c : After-from g) → (c.from-columns.result ≡ c.args.symbol.now.size.columns)
    × (c.from.result * c.from-columns.result ≡ c.args.row * c.args.symbol.now.size.columns)
    × (length (get_or c.args.symbol.now.rows c.args.row []) ≡ c.args.symbol.now.size.columns)
known g c = (
  rw (c.from-columns.ensures, c.columns.ensures.value, c.size-size.ensures.value) refl,
  rw (c.from.ensures, c.from-columns.ensures, c.columns.ensures.value, c.size-size.ensures.value) refl,
  All-get_or (λ l. length l ≡ c.args.symbol.now.size.columns) c.args.symbol.now.rows c.args.row []
      (omega (arith, c.requires.row, c.size-size.ensures.modules.height)) c.size-size.ensures.modules.width,
)

pub returns-then-start-columns-clause-written : goal.returns-then-start-columns-clause-written
returns-then-start-columns-clause-written g c =
    let k = known g (goal.at.returns-then-start-columns-clause-written g c).After-from in
    row_shown _ c.from-columns.result c.args.row c.args.symbol.now.size.columns c.row.result c.end.result
    c.args.all.now c.unpack_row.new.all _ k.1 k.0
    (line_is_row _ c.row.result c.end.result _ k.2 c.row.ensures c.end.ensures) c.unpack_row.ensures.written

pub returns-then-start-columns-clause-behind : goal.returns-then-start-columns-clause-behind
returns-then-start-columns-clause-behind g c =
    let s = c.args.symbol.now in
    let all : c.from-2.result * c.from-columns.result ≡ area s.size =
    rw (
      c.from-2.ensures,
      c.rows.ensures.value,
      c.from-columns.ensures,
      c.columns.ensures.value,
      c.size-size.ensures.value,
    ) refl in
    behind_far c.unpack_row.new.all c.args.all.now _ (area s.size) (omega (arith, all, c.if-start-columns.true))
    c.unpack_row.ensures.behind

pub returns-else-start-columns-clause-written : goal.returns-else-start-columns-clause-written
returns-else-start-columns-clause-written g c =
    let (across, start, wide) =
    known g (goal.at.returns-else-start-columns-clause-written g c).After-from in
    let row = c.args.row in
    let columns = c.args.symbol.now.size.columns in
    let all = c.args.all.now in
    let line = get_or c.args.symbol.now.rows row [] in
    let end = c.end-else-start-columns.result in
    let place = c.from.result * c.from-columns.result in
    let none : c.from-columns.result ≡ 0 + c.from-columns.result = omega arith in
    let part : c.copy_from_slice.new.self ≡ map module_of line =
    c.copy_from_slice.ensures.after ∙ ap (λ (n : ℕ). take n c.unpack_row-else-start-columns.new.all) none
    ∙ c.unpack_row-else-start-columns.ensures.written
    ∙ ap (λ (n : ℕ). unpacked_row n c.row-else-start-columns.result end) across
    ∙ line_is_row line _ end columns wide c.row-else-start-columns.ensures c.end-else-start-columns.ensures in
    let long : length c.copy_from_slice.new.self ≡ columns = ap length part ∙ length-map line module_of ∙ wide in
    let below : (row + 1) * columns ≤ area c.args.symbol.now.size =
    mul-le-mul_right columns (omega (arith, c.requires.row)) in
    take-put_mid place (place + c.from-columns.result - place) all c.copy_from_slice.new.self ((row + 1) * columns)
    (omega (arith, start, long)) (omega (arith, start, below, c.requires.room))
    ∙ ap (λ (n : ℕ). take n all ++ c.copy_from_slice.new.self) start
    ∙ ap (λ (xs : List ℕ). take (row * columns) all ++ xs) part

pub returns-else-start-columns-clause-behind : goal.returns-else-start-columns-clause-behind
returns-else-start-columns-clause-behind g c =
    let (across, start, wide) = known g (goal.at.returns-else-start-columns-clause-behind g c).After-from in
    let size = c.args.symbol.now.size in
    let place = c.from.result * c.from-columns.result in
    let below : (c.args.row + 1) * size.columns ≤ area size =
    mul-le-mul_right size.columns (omega (arith, c.requires.row)) in
    drop-put_mid place (place + c.from-columns.result - place) c.args.all.now c.copy_from_slice.new.self (area size)
    (omega (arith, start, across, below)) (omega (arith, start, below, c.requires.room))
    (omega (arith, c.copy_from_slice.ensures.len))
