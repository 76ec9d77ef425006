-- What the other dealing restores, and what is shown of it.
use Rattle.dm_symbol.proofs.Names.{◌≡◌, ℕ, ◌<◌, List, length, get_or, map, Option, Some, None, inl, inr, refl, sym, ap}
use Rattle.dm_symbol.proofs.Names.{subst, ◌∙◌, arith, IsSome, range_with_len, false≢true, length-map}
use Rattle.dm_symbol.proofs.Names.{get_or-map-range_with_len, Wide, block_check, SymbolView, Standard, Restarted}
use Rattle.dm_symbol.proofs.Names.{BlockReading, IsDealtTwoWays, dealt, erased_by, AreOfSize, AreHeldBy, AreBlocksNear}
use Rattle.dm_symbol.proofs.Names.{AreRestoredBy, AreRestored, IsFirstLost, IsBlockRestored, AreBlocksMended}
use Rattle.dm_symbol.proofs.Names.{block_reading, block_readings, IsRestarted, IsMended, turned, block_of, IsNearBut}
use Rattle.std.proofs.lemmas.List.{get_or-map}
use Rattle.dm_symbol.proofs.Restoring.{readings_count}
use Rattle.dm_symbol.proofs.Dealings.{dealt_back, dealt_is_turned, not_restarted, turned_of_size}
use Rattle.dm_symbol.proofs.SymbolBelow.{held_is_one}
use Rattle.dm_symbol.proofs.RestoredOrLost.{near_or_first_lost}
use Rattle.dm_symbol.proofs.SymbolSteps.{nothing_said}

-- ---- restoring

module _ (modules : SymbolView) (doubtful : Option SymbolView) (held : List ℕ)
    (are_held : AreHeldBy modules held)
    (two : IsDealtTwoWays modules.size) where
  -- Words that are turned, restored and turned back are restored by the other dealing.
  pub is_restarted : (turn restored back : List ℕ) (blocks : List BlockReading)
      → turn ≡ turned 1558 held → AreOfSize modules.size restored
      → AreBlocksNear modules.size (erased_by Restarted modules.size doubtful) turn restored
      → blocks ≡ block_readings modules.size (erased_by Restarted modules.size doubtful) turn restored
      → back ≡ turned 2 restored → IsRestarted modules doubtful back blocks
  is_restarted turn restored back blocks turns of_size near said turns_back =
      let there : turn ≡ dealt Restarted modules.size held =
      turns ∙ sym (dealt_is_turned modules.size two held are_held.codewords) in
      let here : restored ≡ dealt Restarted modules.size back =
      sym (dealt_back modules.size two restored of_size) ∙ ap (dealt Restarted modules.size) (sym turns_back) in
      record {
        two_ways = two;
        held = held;
        by = record {
          words_held = are_held;
          of_size = subst (AreOfSize modules.size) (sym turns_back)
              (turned_of_size modules.size two 2 restored of_size);
          near = rw (there, here) at near;
        };
        readings = rw (there, here) at said;
      }

  -- Where a block of the turned words is lost, the other dealing restores nothing.
  pub none_restarted : (turn : List ℕ) (b : ℕ) → turn ≡ turned 1558 held
      → IsFirstLost modules.size (erased_by Restarted modules.size doubtful) turn b → (other codewords : List ℕ)
      → AreRestoredBy Restarted modules doubtful other codewords → ⊥
  none_restarted turn b turns first other codewords r =
      let there : dealt Restarted modules.size other ≡ turn =
      ap (dealt Restarted modules.size) (held_is_one modules other held r.words_held are_held)
      ∙ dealt_is_turned modules.size two held are_held.codewords ∙ sym turns in
      let near = rw there at r.near in
      first.lost (block_of modules.size.blocks b (dealt Restarted modules.size codewords)) (near b first.in_symbol)

-- ---- showing

-- A block of which something is said is mended to a codeword near to it.
said_is_near : (k : ℕ) (erased block mended : List ℕ) (said : Option BlockReading) → IsSome said
    → IsBlockRestored k erased block mended said → IsNearBut k block erased mended
said_is_near k erased block mended (Some r) some h = h.0
said_is_near k erased block mended None some h = absurd (false≢true some)

-- One of which nothing is said has none.
none_is_lost : (k : ℕ) (erased block mended : List ℕ) (said : Option BlockReading) → said ≡ None
    → IsBlockRestored k erased block mended said → (c : List ℕ) → IsNearBut k block erased c → ⊥
none_is_lost k erased block mended said none h =
    (subst (IsBlockRestored k erased block mended) none h).0

module _ (modules : SymbolView) (doubtful : Option SymbolView) (held : List ℕ) (are_held : AreHeldBy modules held)
  where
    -- What is mended by the standard's dealing is what an inspection shows, where the other restores nothing.
    mended_by_standard : (mended : List ℕ) (blocks : List (Option BlockReading)) → AreOfSize modules.size mended
        → length blocks ≡ modules.size.blocks
        → AreBlocksMended modules.size (erased_by Standard modules.size doubtful) held mended blocks
        → ((codewords : List ℕ) → AreRestored Wide modules doubtful Restarted held codewords → ⊥)
        → IsMended modules doubtful held mended Standard blocks
    mended_by_standard mended blocks of_size count each none = record {
      of_size = of_size;
      dealing = (λ e. not_restarted e, λ some. absurd (none some.0 some.1));
      count = count;
      mended = each;
    }

    -- So it is where no block is lost, or the other dealing restores nothing.
    pub mended_none_lost : (mended : List ℕ) (blocks : List (Option BlockReading)) → AreOfSize modules.size mended
        → length blocks ≡ modules.size.blocks
        → AreBlocksMended modules.size (erased_by Standard modules.size doubtful) held mended blocks
        → ((b : ℕ) → b < length blocks → IsSome (get_or blocks b None))
        → IsMended modules doubtful held mended Standard blocks
    mended_none_lost mended blocks of_size count each some =
        mended_by_standard mended blocks of_size count each (λ c r.
        let b = (r.tried refl).2 in
        let first = (r.tried refl).3 in
        let to = block_of modules.size.blocks b mended in
        first.lost to (said_is_near (block_check modules.size) (erased_by Standard modules.size doubtful b)
        (block_of modules.size.blocks b held) to (get_or blocks b None)
        (some b (omega (arith, first.in_symbol, count))) (each b first.in_symbol)))

    pub mended_not_restarted : (mended : List ℕ) (blocks : List (Option BlockReading)) → AreOfSize modules.size mended
        → length blocks ≡ modules.size.blocks
        → AreBlocksMended modules.size (erased_by Standard modules.size doubtful) held mended blocks
        → (IsDealtTwoWays modules.size → (words codewords : List ℕ)
        → AreRestoredBy Restarted modules doubtful words codewords → ⊥)
        → IsMended modules doubtful held mended Standard blocks
    mended_not_restarted mended blocks of_size count each none =
        mended_by_standard mended blocks of_size count each (λ c r. none (r.tried refl).1 held c r.by)

    -- Where some block is lost, what the other dealing restores is what an inspection shows.
    pub mended_restarted : (mended after : List ℕ) (blocks shown : List (Option BlockReading))
        → length blocks ≡ modules.size.blocks
        → AreBlocksMended modules.size (erased_by Standard modules.size doubtful) held mended blocks
        → (b : ℕ) → b < length blocks → get_or blocks b None ≡ None
        → (readings : List BlockReading) → IsRestarted modules doubtful after readings
        → shown ≡ map (λ block. Some block) readings → IsMended modules doubtful held after Restarted shown
    mended_restarted mended after blocks shown count each b hb lost readings r items =
        let size = modules.size in
        let within : b < size.blocks = omega (arith, hb, count) in
        let same : r.held ≡ held = held_is_one modules r.held held r.by.words_held are_held in
        let by = subst (λ u. AreRestoredBy Restarted modules doubtful u after) same r.by in
        let first : (a : ℕ) × IsFirstLost size (erased_by Standard size doubtful) held a =
        elim (near_or_first_lost size (erased_by Standard size doubtful) held are_held.codewords size.blocks
        (omega arith)) [
          | inr first ↦ first
          | inl near ↦ absurd (none_is_lost (block_check size) (erased_by Standard size doubtful b)
              (block_of size.blocks b held) (block_of size.blocks b mended) (get_or blocks b None) lost (each b within)
              (near b within).0 (near b within).1)
        ] in
        let u = dealt Restarted size held in
        let v = dealt Restarted size after in
        let of : ℕ → BlockReading = λ a.
        block_reading (block_check size) (erased_by Restarted size doubtful a) (block_of size.blocks a u)
        (block_of size.blocks a v) in
        let said : readings ≡ map of (range_with_len 0 size.blocks) =
        r.readings ∙ ap (λ w. block_readings size (erased_by Restarted size doubtful) (dealt Restarted size w) v)
        same in
        let long : length readings ≡ size.blocks =
        ap length said ∙ readings_count size (erased_by Restarted size doubtful) u v in
        record {
          of_size = by.of_size;
          dealing = (
            λ e. (after, record { tried = λ f. (refl, r.two_ways, first.0, first.1); by = by }),
            λ some. refl,
          );
          count = ap length items ∙ length-map readings (λ block. Some block) ∙ long;
          mended = λ a ha.
              let shows : get_or shown a None ≡ Some (of a) =
              ap (λ xs. get_or xs a None) items
              ∙ get_or-map (λ block. Some block) readings a nothing_said None (omega (arith, ha, long))
              ∙ ap (λ xs. Some (get_or xs a nothing_said)) said
              ∙ ap (λ x. Some x) (get_or-map-range_with_len of 0 size.blocks a a nothing_said ha (omega arith)) in
              subst (IsBlockRestored (block_check size) (erased_by Restarted size doubtful a) (block_of size.blocks a u)
              (block_of size.blocks a v)) (sym shows) (by.near a ha, refl);
        }
