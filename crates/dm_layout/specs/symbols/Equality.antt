-- What `==` gives for modules and for codewords: whether the rows and columns of their symbols and what they hold
-- agree.
use Rattle.std.specs.Prelude.{Bool, nat_eq}
use Rattle.std.specs.Bool.{beq}
use Rattle.std.specs.Ordering.{on, eq_of_both}
use Rattle.std.specs.Cmp.{IsEquivalence, IsPartialEquivalence, partial_equiv_from_equiv, nat_eq_equiv, bool_eq_equiv}
use Rattle.std.specs.Cmp.{and_equiv, on_equiv}
use Rattle.std.specs.Cmp.Lexicographic.{pointwise, lists_equiv}
use Rattle.dm_layout.specs.symbols.Sizes.{SizeEntry}
use Rattle.dm_layout.specs.symbols.Symbols.{SymbolView}
use Rattle.dm_layout.specs.symbols.Words.{WordsView}

-- Two sizes are equal if their rows and their columns agree.
abbrev pub equal_sizes : SizeEntry → SizeEntry → Bool
equal_sizes = eq_of_both (on (λ s. s.rows) nat_eq) (on (λ s. s.columns) nat_eq)

-- The modules of two symbols are equal if the sizes of the symbols and all modules agree.
abbrev pub equal_modules : SymbolView → SymbolView → Bool
equal_modules = eq_of_both (on (λ m. m.size) equal_sizes) (on (λ m. m.rows) (pointwise (pointwise beq)))

-- The codewords of two symbols are equal if the sizes of the symbols and all codewords agree.
abbrev pub equal_words : WordsView → WordsView → Bool
equal_words = eq_of_both (on (λ w. w.size) equal_sizes) (on (λ w. w.list) (pointwise nat_eq))

-- Equality of sizes is an equivalence.
pub sizes_equiv : IsEquivalence equal_sizes
sizes_equiv =
    and_equiv (on_equiv (λ (s : SizeEntry). s.rows) nat_eq_equiv) (on_equiv (λ (s : SizeEntry). s.columns) nat_eq_equiv)

-- Equality of modules is an equivalence.
pub modules_equiv : IsEquivalence equal_modules
modules_equiv =
    and_equiv (on_equiv (λ (m : SymbolView). m.size) sizes_equiv)
    (on_equiv (λ (m : SymbolView). m.rows) (lists_equiv (lists_equiv bool_eq_equiv)))

-- So it is a partial equivalence too.
pub modules_per : IsPartialEquivalence equal_modules
modules_per = partial_equiv_from_equiv modules_equiv

-- Equality of codewords is an equivalence.
pub words_equiv : IsEquivalence equal_words
words_equiv =
    and_equiv (on_equiv (λ (w : WordsView). w.size) sizes_equiv)
    (on_equiv (λ (w : WordsView). w.list) (lists_equiv nat_eq_equiv))

-- So it is a partial equivalence too.
pub words_per : IsPartialEquivalence equal_words
words_per = partial_equiv_from_equiv words_equiv
