-- The normal grid of a message under a profile: the grid of its normal symbol, among the squares of the table. That
-- this grid is chosen among those that say the same is a rule of this project.
use Rattle.std.specs.Prelude.{◌≡◌, List, IsSome, length, Result, IfOk, IsOk, OnErr, ◌↔◌}
use Rattle.dm_words.specs.declared.item.Item.{Item}
use Rattle.dm_words.specs.declared.fault.TooLong.{TooLong}
use Rattle.dm_words.specs.declared.profile.Profile.{Profile}
use Rattle.dm_layout.specs.Sizes.{row_for_words}
use Rattle.dm_layout.specs.Grid.{GridView, IsGrid, symbol_modules}
use Rattle.dm_words.specs.ContentExtents.{as_content}
use Rattle.dm_words.specs.NormalForm.{normal_form}
use Rattle.dm_symbol.specs.NormalContent.{IsNormalOfContent}

-- The message fits some size of the table: one with at least as many data codewords as its normal form has codewords.
abbrev pub FitsSomeSize : Profile → List Item → Type 0
FitsSomeSize profile message = IsSome (row_for_words (length (normal_form profile message)))

-- The grid is the normal grid of the message if its symbol is the normal symbol of the content with its items. So its
-- size is the smallest that has room for the normal form; it has the colours of the borders and the fixed square; and
-- it holds the normal form, pads, and the check codewords that make each block a codeword of its Reed-Solomon code.
pub record IsNormalGrid (profile : Profile) (message : List Item) (grid : GridView) : Type 0 where
  pub is_grid : IsGrid grid
  pub normal : IsNormalOfContent profile (as_content message) (symbol_modules grid)

-- Where a message fits some size, writing it gives its only normal grid; otherwise it gives that there is none.
pub record IsWritten (profile : Profile) (message : List Item) (result : Result GridView TooLong) : Type 0 where
  pub normal : IfOk result (λ grid. IsNormalGrid profile message grid)
  pub one : IfOk result (λ grid. (other : GridView) → IsNormalGrid profile message other → other ≡ grid)
  pub fits : IsOk result ↔ FitsSomeSize profile message
  pub none : OnErr result ((grid : GridView) → IsNormalGrid profile message grid → ⊥)
