use Rattle.dm_symbol.proofs.Names.{◌≡◌, ◌≤◌, ◌*◌, ◌∙◌, ℕ, List, length, map, take, None, Ok, Err, ap, subst, sym}
use Rattle.dm_symbol.proofs.Names.{arith, data_of, first_words, row_facts, symbol_modules, symbol_size, SizeRow}
use Rattle.dm_symbol.proofs.Names.{codeword_count, Usual, Spells, Refused, BlockReading, Border, Block, IsRead}
use Rattle.dm_symbol.proofs.Names.{reading_of, ContentReadResult}
use Rattle.std.proofs.lemmas.List.{take-take}
use Rattle.dm_symbol.specs.declared.reading.ReadFault.TheVariants as fault
use Rattle.dm_symbol.proofs.GridReadSteps.{fault_is_read, lost_is_read, message_is_read}
use Rattle.dm_symbol.proofs.Restoring.{restored_count}
use Rattle.dm_symbol.proofs.SquareSizes.{room_for_grid}
use Rattle.dm_symbol.proofs.SymbolBelow.{data_as_many, data_fits}
use Rattle.dm_symbol.proofs.reading.read_in.Goals as goal
use Rattle.dm_symbol.proofs.reading.read_in.Goals.{After-restore}

-- The modules are those of the grid.
same : (c : After-restore) → c.borrowed.result ≡ symbol_modules c.args.grid.now
same c = c.borrowed.ensures ∙ c.as_symbol.ensures

-- What stands in front is the data codewords.
data_is : (s : SizeRow) (room : List ℕ) (n : ℕ) → n ≡ s.data_count
    → take n room ≡ data_of (first_words (symbol_size s) room)
data_is s room n e =
    ap (λ k. take k room) e
    ∙ sym (take-take s.data_count (codeword_count (symbol_size s)) room (omega arith))

pub returns-in-Err-Border-clause-read : goal.returns-in-Err-Border-clause-read
returns-in-Err-Border-clause-read c =
    let lost = subst (λ e. ContentReadResult Usual c.borrowed.result None c.args.border_limit (Err e))
    c.in-Err-Border.field-0-is c.in-Err-Border.ensures.lost in
    subst (λ n. IsRead c.args.grid.now c.args.border_limit (Err (fault.Border n))) (sym c.in-Err-Border.count-is)
    (lost_is_read c.args.grid.now c.args.border_limit c.size-size.ensures.grid (fault.Border c.in-Err-Border.count)
    (subst (λ m. ContentReadResult Usual m None c.args.border_limit (Err (Border c.in-Err-Border.count)))
    (same (goal.at.returns-in-Err-Border-clause-read c).After-restore) lost))

pub returns-in-Err-Block-clause-read : goal.returns-in-Err-Block-clause-read
returns-in-Err-Block-clause-read c =
    let lost = subst (λ e. ContentReadResult Usual c.borrowed.result None c.args.border_limit (Err e))
    c.in-Err-Block.field-0-is c.in-Err-Block.ensures.lost in
    subst (λ n. IsRead c.args.grid.now c.args.border_limit (Err (fault.Block n))) (sym c.in-Err-Block.index-is)
    (lost_is_read c.args.grid.now c.args.border_limit c.size-size.ensures.grid (fault.Block c.in-Err-Block.index)
    (subst (λ m. ContentReadResult Usual m None c.args.border_limit (Err (Block c.in-Err-Block.index)))
    (same (goal.at.returns-in-Err-Block-clause-read c).After-restore) lost))

pub message_said-requires : goal.message_said-requires
message_said-requires c =
    let s = c.args.grid.now.size in
    let v = first_words (symbol_size s) c.restore.new.room in
    let list = take c.from.result c.restore.new.room in
    let restored = rw (same (goal.at.message_said-requires c).After-restore) at c.in-Ok.ensures.restored in
    let words = restored.restored.by.of_size in
    let is : list ≡ data_of v = data_is s c.restore.new.room c.from.result (omega (
      arith,
      c.from.ensures,
      c.data_count.ensures.value,
      ap (λ (r : SizeRow). r.data_count) c.size-size.ensures.value,
    )) in
    let items : 2 * length list ≤ 1639 =
    omega (arith, data_as_many v list words is, room_for_grid Usual s c.size-size.ensures.grid.row) in
    let count = restored_count Usual (symbol_modules c.args.grid.now) None c.args.border_limit v
    c.restore.new.dealing c.restore.new.blocks.items c.restore.new.faults restored in
    record {
      short = data_fits v list words is;
      room = items;
      few =
          omega (arith, ap length c.deref.ensures.0, count, (row_facts s c.size-size.ensures.grid.row).few_blocks);
    }

pub returns-in-Err-clause-read : goal.returns-in-Err-clause-read
returns-in-Err-clause-read c =
    let kept = c.restore.new in
    let grid = c.args.grid.now in
    let restored = rw (same (goal.at.returns-in-Err-clause-read c).After-restore)
    at c.in-Ok.ensures.restored in
    let is = data_is grid.size kept.room c.from.result (omega (
      arith,
      c.from.ensures,
      c.data_count.ensures.value,
      ap (λ (r : SizeRow). r.data_count) c.size-size.ensures.value,
    )) in
    fault_is_read grid c.args.border_limit c.size-size.ensures.grid (first_words (symbol_size grid.size) kept.room)
    kept.dealing kept.blocks.items kept.faults restored c.in-Err.fault
    (subst (λ words. Refused words c.in-Err.fault) is c.in-Err.ensures.refused)

pub returns-in-Ok-message_said-clause-read : goal.returns-in-Ok-message_said-clause-read
returns-in-Ok-message_said-clause-read c =
    let kept = c.restore.new in
    let grid = c.args.grid.now in
    let reading = c.message_said.new.reading in
    let said = c.in-Ok-message_said.ensures in
    let restored = rw (same (goal.at.returns-in-Ok-message_said-clause-read c).After-restore)
    at c.in-Ok.ensures.restored in
    let is = data_is grid.size kept.room c.from.result (omega (
      arith,
      c.from.ensures,
      c.data_count.ensures.value,
      ap (λ (r : SizeRow). r.data_count) c.size-size.ensures.value,
    )) in
    let spelled = subst (λ words. Spells Usual words reading.message) is said.spelled in
    let told : reading.corrected.items ≡ map (λ (b : BlockReading). b.corrected) kept.blocks.items =
    said.corrected ∙ ap (map (λ (b : BlockReading). b.corrected)) c.deref.ensures.0 in
    subst (λ xs. IsRead grid c.args.border_limit (Ok (reading_of reading.message xs reading.border_faults))) (sym told)
    (subst (λ n. IsRead grid c.args.border_limit (Ok (reading_of reading.message
    (map (λ (b : BlockReading). b.corrected) kept.blocks.items) n))) (sym c.message_said.ensures.faults)
    (message_is_read grid c.args.border_limit c.size-size.ensures.grid
    (first_words (symbol_size grid.size) kept.room) kept.dealing kept.blocks.items kept.faults restored reading.message
    spelled))
