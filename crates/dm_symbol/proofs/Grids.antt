-- Grids are read as their symbols are in the usual extent, with no module doubtful.
use Rattle.dm_symbol.proofs.Names.{◌≡◌, ◌↔◌, ℕ, ◌+◌, ◌-◌, ◌*◌, ◌<◌, ◌≤◌, Bool, List, [], ◌∷◌, length, map, Option, None}
use Rattle.dm_symbol.proofs.Names.{erased_by, Result, Ok, Err, refl, sym, ap, subst, ◌∙◌, arith, range_with_len}
use Rattle.dm_symbol.proofs.Names.{length-take, Usual, Item, ContentView, as_content, IsMessage, usual_plain, SizeRow}
use Rattle.dm_symbol.proofs.Names.{most_grid_data, symbol_size, GridView, IsGrid, symbol_modules, border_fault_count}
use Rattle.dm_symbol.proofs.Names.{SizeEntry, block_check, SymbolView, row_facts, same_row, Reading, ReadFault}
use Rattle.dm_symbol.proofs.Names.{ContentReadFault, Standard, Restarted, BlockReading, sure_fault_count}
use Rattle.dm_symbol.proofs.Names.{IsDealtTwoWays, Reads, ReadResult, IsRead, reading_of, first_data, block_reading}
use Rattle.dm_symbol.proofs.Names.{ContentReadingView, ReadsContent, ContentReadResult, content_reading_of, block_of}
use Rattle.dm_words.proofs.Exported.{spelled_is_few, usual_word}
use Rattle.dm_layout.proofs.Exported.{is_modules, is_size, side_fits}
use Rattle.dm_symbol.specs.Reading.{IsGridResult, IsReadAs, content_fault}
use Rattle.dm_words.specs.declared.contents.fault.ContentFault.TheVariants as words_fault
use Rattle.dm_layout.proofs.symbols.Exported.{same_size}
use Rattle.dm_symbol.specs.declared.reading.ReadFault.TheVariants as fault
use Rattle.dm_symbol.specs.declared.contents.ContentReadFault.TheVariants as content
use Rattle.dm_symbol.specs.SymbolLaws.{AreModulesOf, HasResultOfGrid, none_erased}
use Rattle.dm_symbol.proofs.ContentReadings.{one_content_result, one_symbol_content, read_content_right}
use Rattle.dm_symbol.proofs.ContentReadings.{content_no_fault, reads_content_by_result, some_content_result}
use Rattle.dm_symbol.proofs.ContentReadSteps.{is_content_read, content_border_result}
use Rattle.dm_symbol.proofs.SymbolDoubt.{erased_by_none, faults_by_none}

-- ---- grids and symbols

-- Grids of one size with the same rows are the same.
same_parts : (s t : SizeRow) (xs ys : List (List Bool)) → s ≡ t → xs ≡ ys
    → ◌≡◌ {A = GridView} (record { size = s; rows = xs }) (record { size = t; rows = ys })
same_parts s t xs ys p q = cc

-- Grids with the same modules are the same.
pub same_grid : (g h : GridView) → IsGrid g → IsGrid h → symbol_modules g ≡ symbol_modules h → g ≡ h
same_grid g h is other e =
    let size : g.size ≡ h.size = same_row g.size h.size is.row other.row (ap (λ (m : SymbolView). m.size.rows) e) in
    same_parts g.size h.size g.rows h.rows size (ap (λ (m : SymbolView). m.rows) e)

-- The modules of a symbol with the cells of a grid are the grid's.
are_modules : (grid : GridView) (modules : SymbolView) → AreModulesOf grid modules → symbol_modules grid ≡ modules
are_modules grid modules am =
    let size : symbol_size grid.size ≡ modules.size =
    same_size (symbol_size grid.size) modules.size (is_size grid.size am.is_grid.row) am.are_modules.size (sym am.rows)
    (sym am.columns) in
    ap (λ (s : SizeEntry). let m : SymbolView = record { size = s; rows = grid.rows } in m) size
    ∙ ap (λ (xs : List (List Bool)). let m : SymbolView = record { size = modules.size; rows = xs } in m) (sym am.cells)

-- A grid is read as the modules with its cells are.
pub grid_and_modules : (grid : GridView) (modules : SymbolView) (limit : ℕ) (m : List Item)
    → AreModulesOf grid modules → Reads grid limit m ↔ ReadsContent Usual modules None limit (as_content m)
grid_and_modules grid modules limit m am =
    let same = are_modules grid modules am in (
      λ r. subst (λ x. ReadsContent Usual x None limit (as_content m)) same r.read,
      λ r. record {
        is_grid = am.is_grid;
        read = subst (λ x. ReadsContent Usual x None limit (as_content m)) (sym same) r;
      },
    )

-- ---- messages

-- Contents without a head and marks that are equal have equal items.
pub items_are : (m n : List Item) → as_content m ≡ as_content n → m ≡ n
items_are m n e = ap (λ (l : ContentView). l.items) e

-- A grid is read as at most one message.
pub one_message : (grid : GridView) (k l : ℕ) (m n : List Item) → Reads grid k m → Reads grid l n → m ≡ n
one_message grid k l m n a b =
    items_are m n
    (one_symbol_content (symbol_modules grid) None Usual Usual k l (as_content m) (as_content n) a.read b.read)

-- What is read is a message.
pub read_is_message : (grid : GridView) (limit : ℕ) (m : List Item) → Reads grid limit m → IsMessage m
read_is_message grid limit m r =
    (read_content_right (symbol_modules grid) None Usual limit (as_content m) r.read).0.items

-- A grid is read as at most two items for each data codeword of its size.
pub few_items_are_read : (grid : GridView) (limit : ℕ) (m : List Item) → Reads grid limit m
    → length m ≤ 2 * grid.size.data_count
few_items_are_read grid limit m r =
    let words = first_data (symbol_size grid.size) r.read.codewords in
    omega (
      arith,
      spelled_is_few Usual words m r.read.said,
      length-take grid.size.data_count r.read.codewords,
    )

-- So it is as at most two for each of the largest size.
pub no_more_items_are_read : (grid : GridView) (limit : ℕ) (m : List Item) → Reads grid limit m
    → length m ≤ 2 * most_grid_data
no_more_items_are_read grid limit m r =
    omega (arith, few_items_are_read grid limit m r, (row_facts grid.size r.is_grid.row).data_fits)

-- ---- faults

-- A fault of reading a symbol as that of a grid; any other one is this one.
grid_fault : ReadFault → ContentReadFault → ReadFault
grid_fault other (content.Border count) = fault.Border count
grid_fault other (content.Block index) = fault.Block index
grid_fault other (content.Words (words_fault.Word why)) = fault.Words why
grid_fault other (content.Words why) = other

-- It takes a fault of a grid back.
grid_fault_back : (f other : ReadFault) → grid_fault other (content_fault f) ≡ f
unfolding grid_fault
grid_fault_back (fault.Border count) other = refl
grid_fault_back (fault.Block index) other = refl
grid_fault_back (fault.Words why) other = refl

-- So equal faults of the symbol are equal ones of the grid.
same_fault : (f g : ReadFault) → content_fault f ≡ content_fault g → f ≡ g
same_fault f g e = sym (grid_fault_back f f) ∙ ap (grid_fault f) e ∙ grid_fault_back g f

-- A symbol that is refused in the usual extent is so with a fault of a grid.
pub usual_fault : (modules : SymbolView) (doubtful : Option SymbolView) (limit : ℕ) (why : ContentReadFault)
    → ContentReadResult Usual modules doubtful limit (Err why) → (f : ReadFault) × (why ≡ content_fault f)
usual_fault modules doubtful limit why (ContentReadResult.border more e) =
    (fault.Border (sure_fault_count modules doubtful), cc)
usual_fault modules doubtful limit why (ContentReadResult.block words index few lost e) =
    (fault.Block index, cc)
usual_fault modules doubtful limit why (ContentReadResult.words d words codewords of_words few h refused e) =
    let f = usual_word (first_data modules.size codewords) of_words refused in
    (fault.Words f.0, let is = f.1 in cc)
usual_fault modules doubtful limit why (ContentReadResult.content d words codewords l n few h said is e) =
    cc

-- ---- results

-- Of what reading a symbol gives, one result is told of its grid.
one_told : (o : Result ContentReadingView ContentReadFault) (a b : Result Reading ReadFault) → IsGridResult o a
    → IsGridResult o b → a ≡ b
one_told (Ok reading) a b x y = x ∙ sym y
one_told (Err why) a b (f, e, x) (g, h, y) = x ∙ ap (λ w. Err w) (same_fault f g (sym e ∙ h)) ∙ sym y

-- A grid has at most one result for a limit.
pub one_given : (grid : GridView) (limit : ℕ) (a b : Result Reading ReadFault) → ReadResult grid limit a
    → ReadResult grid limit b → a ≡ b
one_given grid limit a b h k =
    let same = one_content_result (symbol_modules grid) None Usual limit h.of_symbol k.of_symbol h.read k.read in
    one_told k.of_symbol a b (subst (λ o. IsGridResult o a) same h.same) k.same

-- Each grid has a result.
pub read_result_is_there : (grid : GridView) (limit : ℕ) → IsGrid grid
    → (result : Result Reading ReadFault) × ReadResult grid limit result
read_result_is_there grid limit g =
    let some = some_content_result (symbol_modules grid) None Usual limit (is_modules grid g) in
    told some.0 some.1
  where
    told : (o : Result ContentReadingView ContentReadFault) → ContentReadResult Usual (symbol_modules grid) None limit o
        → (result : Result Reading ReadFault) × ReadResult grid limit result
    told (Ok reading) read = (_, record { is_grid = g; of_symbol = Ok reading; read = read; same = refl })
    told (Err why) read =
        let f = usual_fault (symbol_modules grid) None limit why read in
        (Err f.0, record { is_grid = g; of_symbol = Err why; read = read; same = (f.0, f.1, refl) })

-- A grid that is read has no fault of reading.
pub no_fault : (grid : GridView) (limit : ℕ) (m : List Item) (why : ReadFault) → Reads grid limit m
    → ReadResult grid limit (Err why) → ⊥
no_fault grid limit m why r a = by a.of_symbol a.read a.same
  where
    by : (o : Result ContentReadingView ContentReadFault) → ContentReadResult Usual (symbol_modules grid) None limit o
        → IsGridResult o (Err why) → ⊥
    by (Ok reading) read e = cc
    by (Err other) read told = content_no_fault (symbol_modules grid) None Usual limit (as_content m) other r.read read

-- Where the result is a reading, the grid is read as its message.
pub reads_by_result : (grid : GridView) (limit : ℕ) (reading : Reading) → ReadResult grid limit (Ok reading)
    → Reads grid limit reading.message
reads_by_result grid limit reading a = record { is_grid = a.is_grid; read = by a.of_symbol a.read a.same }
  where
    by : (o : Result ContentReadingView ContentReadFault) → ContentReadResult Usual (symbol_modules grid) None limit o
        → IsGridResult o (Ok reading)
        → ReadsContent Usual (symbol_modules grid) None limit (as_content reading.message)
    by (Err why) read told = absurd (let e = told.2 in cc)
    by (Ok symbol) read e =
        let modules = symbol_modules grid in
        let told : reading ≡ reading_of symbol.content.items (map (λ (b : BlockReading). b.corrected) symbol.blocks)
        symbol.border_faults = cc in
        let r = reads_content_by_result modules None Usual limit (Ok symbol) symbol.content read refl in
        let same : symbol.content ≡ as_content reading.message =
        (read_content_right modules None Usual limit symbol.content r).1
        ∙ ap as_content (sym (ap (λ (x : Reading). x.message) told)) in
        subst (ReadsContent Usual modules None limit) same r

-- More border faults than the limit are a right result.
border_told : (grid : GridView) (limit count : ℕ) → IsGrid grid
    → (limit < border_fault_count grid) × (count ≡ border_fault_count grid)
    → ReadResult grid limit (Err (fault.Border count))
border_told grid limit count g over = record {
  is_grid = g;
  of_symbol = Err (content.Border count);
  read = content_border_result Usual (symbol_modules grid) None limit count
      (subst (λ n. (limit < n) × (count ≡ n)) (faults_by_none (symbol_modules grid)) over);
  same = (fault.Border count, refl, refl);
}

-- A number of border faults is told where they are more than the limit, and is theirs.
told_border : (grid : GridView) (limit count : ℕ) → ReadResult grid limit (Err (fault.Border count))
    → (limit < border_fault_count grid) × (count ≡ border_fault_count grid)
told_border grid limit count a = by a.of_symbol a.read a.same
  where
    by : (o : Result ContentReadingView ContentReadFault) → ContentReadResult Usual (symbol_modules grid) None limit o
        → IsGridResult o (Err (fault.Border count))
        → (limit < border_fault_count grid) × (count ≡ border_fault_count grid)
    by (Ok reading) read e = absurd cc
    by (Err why) read (f, of_symbol, e) =
        let is : fault.Border count ≡ f = cc in
        let border : why ≡ content.Border count = of_symbol ∙ ap content_fault (sym is) in
        subst (λ n. (limit < n) × (count ≡ n)) (sym (faults_by_none (symbol_modules grid)))
        (((is_content_read Usual (symbol_modules grid) None limit (Err why) read).border count).0
        (ap (λ w. Err w) border))

-- The result defined for a grid is what reading it gives.
pub is_read : (grid : GridView) (limit : ℕ) (result : Result Reading ReadFault) → ReadResult grid limit result
    → IsRead grid limit result
is_read grid limit result a = record {
  result_is = a;
  message = λ m. (reads result m a, as_read result m a);
  border = λ count. (
    λ e. told_border grid limit count (subst (ReadResult grid limit) e a),
    λ over. one_given grid limit result (Err (fault.Border count)) a (border_told grid limit count a.is_grid over),
  );
}
  where
    reads : (r : Result Reading ReadFault) (m : List Item) → ReadResult grid limit r → IsReadAs r m
        → Reads grid limit m
    reads (Ok reading) m h is = subst (Reads grid limit) is (reads_by_result grid limit reading h)
    reads (Err why) m h is = absurd is

    as_read : (r : Result Reading ReadFault) (m : List Item) → ReadResult grid limit r → Reads grid limit m
        → IsReadAs r m
    as_read (Ok reading) m h r = one_message grid limit limit reading.message m (reads_by_result grid limit reading h) r
    as_read (Err why) m h r = no_fault grid limit m why r h

-- ---- what is said of blocks where no module is doubtful

-- This is said of a block none of whose places is erased.
none_erased_in : (k : ℕ) (places block codeword : List ℕ) → places ≡ []
    → none_erased k (block_reading k places block codeword).corrected ≡ block_reading k places block codeword
none_erased_in k places block codeword e =
    let r = block_reading k [] block codeword in
    let left : k - 2 * r.corrected ≡ k - (2 * r.corrected + 0) = omega arith in
    subst (λ p. none_erased k (block_reading k p block codeword).corrected ≡ block_reading k p block codeword) (sym e)
    (ap (λ n. let b : BlockReading = record { corrected = r.corrected; erased = 0; left = n } in b) left)

-- What is said of blocks is made of the numbers of their corrected codewords, where it is of each.
all_made : (k : ℕ) (said : ℕ → BlockReading) → ((b : ℕ) → none_erased k (said b).corrected ≡ said b) → (bs : List ℕ)
    → map (none_erased k) (map (λ (r : BlockReading). r.corrected) (map said bs)) ≡ map said bs
all_made k said one [] = refl
all_made k said one (b ∷ bs) =
    ap (λ r. r ∷ map (none_erased k) (map (λ (r : BlockReading). r.corrected) (map said bs))) (one b)
    ∙ ap (λ rs. said b ∷ rs) (all_made k said one bs)

-- No grid has the size of which another dealing than the standard's is read.
one_way : (grid : GridView) → IsGrid grid → IsDealtTwoWays (symbol_size grid.size) → ⊥
one_way grid g two = omega (arith, two.0, side_fits grid.size.side grid.size g.row)

-- What is told of a grid's symbol, made of what is told of the grid.
made_of : ℕ → ContentReadingView → ContentReadingView
made_of k reading =
    content_reading_of (as_content reading.content.items) reading.identifier Standard
    (map (none_erased k) (map (λ (b : BlockReading). b.corrected) reading.blocks)) reading.border_faults

-- A reading of a symbol of which no module is doubtful, and whose size is dealt in one way, is so made.
made_of_told : (modules : SymbolView) (limit : ℕ) (reading : ContentReadingView) → (IsDealtTwoWays modules.size → ⊥)
    → ContentReadResult Usual modules None limit (Ok reading) → made_of (block_check modules.size) reading ≡ reading
unfolding made_of
made_of_told modules limit reading one (ContentReadResult.border more e) = cc
made_of_told modules limit reading one (ContentReadResult.block words index few lost e) =
    cc
made_of_told modules limit reading one (ContentReadResult.words d words codewords why few h refused e) =
    cc
made_of_told modules limit reading one (ContentReadResult.content Restarted words codewords l n few h said is e) =
    absurd (one (h.tried refl).1)
made_of_told modules limit reading one (ContentReadResult.content Standard words codewords l n few h said is e) =
    let k = block_check modules.size in
    let faults = sure_fault_count modules None in
    let read : List BlockReading = map (λ b. block_reading k (erased_by Standard modules.size None b)
    (block_of modules.size.blocks b words) (block_of modules.size.blocks b codewords))
    (range_with_len 0 modules.size.blocks) in
    let same : reading ≡ content_reading_of l n Standard read faults = cc in
    let all : map (none_erased k) (map (λ (b : BlockReading). b.corrected) read) ≡ read = all_made k
    (λ b. block_reading k (erased_by Standard modules.size None b) (block_of modules.size.blocks b words)
    (block_of modules.size.blocks b codewords))
    (λ b. none_erased_in k (erased_by Standard modules.size None b) (block_of modules.size.blocks b words)
    (block_of modules.size.blocks b codewords) (erased_by_none modules.size b))
    (range_with_len 0 modules.size.blocks) in
    subst (λ r. made_of k r ≡ r) (sym same)
    (ap (λ rs. content_reading_of (as_content l.items) n Standard rs faults) all
    ∙ ap (λ x. content_reading_of x n Standard read faults)
    (sym (usual_plain (first_data modules.size codewords) l said)))

-- The symbol of a grid has the grid's result.
pub result_of_symbol : (grid : GridView) (limit : ℕ) (result : Result Reading ReadFault) → IsGrid grid
    → ReadResult grid limit result → HasResultOfGrid grid limit result
unfolding made_of
result_of_symbol grid limit result g h = by result h.of_symbol h.read h.same
  where
    by : (r : Result Reading ReadFault) (o : Result ContentReadingView ContentReadFault)
        → ContentReadResult Usual (symbol_modules grid) None limit o → IsGridResult o r → HasResultOfGrid grid limit r
    by (Ok reading) (Ok symbol) read e =
        let k = block_check (symbol_size grid.size) in
        let told : reading ≡ reading_of symbol.content.items (map (λ (b : BlockReading). b.corrected) symbol.blocks)
        symbol.border_faults = cc in
        let made = made_of_told (symbol_modules grid) limit symbol (one_way grid g) read in (
          symbol.identifier,
          subst (λ (r : Reading). ContentReadResult Usual (symbol_modules grid) None limit
              (Ok (content_reading_of (as_content r.message) symbol.identifier Standard
              (map (none_erased k) r.corrected.items) r.border_faults))) (sym told)
              (subst (λ r. ContentReadResult Usual (symbol_modules grid) None limit (Ok r)) (sym made) read),
        )
    by (Ok reading) (Err why) read told = absurd (let e = told.2 in cc)
    by (Err why) (Ok symbol) read e = absurd cc
    by (Err why) (Err other) read (f, of_symbol, e) =
        let is : why ≡ f = cc in
        subst (λ w. ContentReadResult Usual (symbol_modules grid) None limit (Err w))
        (of_symbol ∙ ap content_fault (sym is)) read
