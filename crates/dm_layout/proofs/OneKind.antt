-- Each module of a symbol is of exactly one kind.
use Rattle.dm_layout.proofs.Names.{◌≡◌, ℕ, ◌<◌, Bool, true, false, refl, sym, ◌∙◌, ap, subst, true≢false, SizeRow}
use Rattle.dm_layout.proofs.Names.{IsRow, Cell, mapping_line, none_fixed, one_bit, some_bit}
use Rattle.dm_layout.specs.Border.{is_border, is_fixed}
use Rattle.dm_layout.specs.Modules.{Kind, LiesAt, IsOfKind, EachModuleHasOneKind}
use Rattle.dm_layout.specs.Modules.Kind.{OfBorder, OfFixedSquare, Bit}
use Rattle.dm_layout.specs.Placement.{At, IsPlace}
use Rattle.dm_layout.proofs.PlacementRows.{once_at_row}
use Rattle.dm_layout.proofs.SymbolLines.{no_border, off_border, symbol_line-one}
use Rattle.dm_layout.proofs.TableRows.{row_facts}

module _ (size : SizeRow) (row column : ℕ) (is_row : IsRow size) where
  -- The module is of one kind, and of no other.
  abbrev OfOne : Type 0
  OfOne =
      (kind : Kind) × IsOfKind size row column kind × ((other : Kind) → IsOfKind size row column other → other ≡ kind)

  -- No cell of the mapping square lies in a border.
  none_in_border : (cell : Cell) → LiesAt size cell row column → is_border size row column ≡ true → ⊥
  none_in_border cell at border =
      let off = no_border size cell.row cell.column (row_facts size is_row).least in
      true≢false (cc (border, at.0, at.1, off))

  -- At most one cell of the mapping square lies at the module.
  same_cell : (x y : Cell) → LiesAt size x row column → LiesAt size y row column → x ≡ y
  same_cell x y a b =
      let least = (row_facts size is_row).least in
      let r = symbol_line-one size.region_side x.row y.row least (a.0 ∙ sym b.0) in
      let c = symbol_line-one size.region_side x.column y.column least (a.1 ∙ sym b.1) in
      ap (λ (i : ℕ). At i x.column) r ∙ ap (At y.row) c

  -- A module of a border is nothing else.
  of_border : is_border size row column ≡ true → OfOne
  of_border border = (OfBorder, border, only)
    where
      only : (other : Kind) → IsOfKind size row column other → other ≡ OfBorder
      only OfBorder h = refl
      only OfFixedSquare h = absurd (none_in_border h.0 h.4 border)
      only (Bit word bit) h = absurd (none_in_border h.0 h.2 border)

  -- A module of the fixed square is nothing else.
  of_fixed : (cell : Cell) → cell.row < size.mapping → cell.column < size.mapping →
      is_fixed size.mapping cell.row cell.column ≡ true → LiesAt size cell row column → OfOne
  of_fixed cell r c fixed at = (OfFixedSquare, (cell, r, c, fixed, at), only)
    where
      only : (other : Kind) → IsOfKind size row column other → other ≡ OfFixedSquare
      only OfBorder h = absurd (none_in_border cell at h)
      only OfFixedSquare h = refl
      only (Bit word bit) h =
          absurd (none_fixed size.mapping size.mapping cell.row cell.column word bit (once_at_row size is_row) fixed
          (subst (IsPlace size.mapping word bit) (same_cell h.0 cell h.2 at) h.1))

  -- A module of a bit is nothing else.
  of_bit : (cell : Cell) (word bit : ℕ) → IsPlace size.mapping word bit cell → LiesAt size cell row column → OfOne
  of_bit cell word bit place at = (Bit word bit, (cell, place, at), only)
    where
      only : (other : Kind) → IsOfKind size row column other → other ≡ Bit word bit
      only OfBorder h = absurd (none_in_border cell at h)
      only OfFixedSquare h =
          let here : IsPlace size.mapping word bit h.0 =
          subst (IsPlace size.mapping word bit) (same_cell cell h.0 at h.4) place in
          absurd (none_fixed size.mapping size.mapping h.0.row h.0.column word bit (once_at_row size is_row) h.3 here)
      only (Bit v b) h =
          let here : IsPlace size.mapping v b cell = subst (IsPlace size.mapping v b) (same_cell h.0 cell h.2 at) h.1 in
          let same =
          one_bit size.mapping size.mapping cell.row cell.column word bit v b (once_at_row size is_row) place
          here in
          ap (λ (i : ℕ). Bit i b) same.0 ∙ ap (Bit word) same.1

  -- A module that lies in no border lies where a cell of the mapping square does, in the fixed square or outside it.
  by_cell : row < size.side → column < size.side → is_border size row column ≡ false → OfOne
  by_cell lr lc off =
      let from = off_border size row column is_row lr lc off in
      let r : ℕ = mapping_line size.region_side row in
      let c : ℕ = mapping_line size.region_side column in
      by_square (is_fixed size.mapping r c) refl from.0.inside from.1.inside (from.0.there, from.1.there)
    where
      by_square : (fixed : Bool) → is_fixed size.mapping (mapping_line size.region_side row)
          (mapping_line size.region_side column) ≡ fixed →
          mapping_line size.region_side row < size.mapping → mapping_line size.region_side column < size.mapping →
          LiesAt size (At (mapping_line size.region_side row) (mapping_line size.region_side column)) row column → OfOne
      by_square true fixed r c at =
          of_fixed (At (mapping_line size.region_side row) (mapping_line size.region_side column)) r c fixed at
      by_square false free r c at =
          let one =
          some_bit size.mapping size.mapping (mapping_line size.region_side row)
          (mapping_line size.region_side column) (once_at_row size is_row) r c free in
          of_bit (At (mapping_line size.region_side row) (mapping_line size.region_side column)) one.0 one.1 one.2 at

  by_border : (border : Bool) → is_border size row column ≡ border → row < size.side → column < size.side → OfOne
  by_border true border lr lc = of_border border
  by_border false off lr lc = by_cell lr lc off

-- Each module of a symbol is of exactly one kind.
pub one_kind : EachModuleHasOneKind
one_kind size row column is_row lr lc = by_border size row column is_row (is_border size row column) refl lr lc
