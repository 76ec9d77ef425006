use Rattle.dm_layout.proofs.Names.{◌≡◌, ℕ, ◌<◌, List, length, get_or, All-from_get_or, AreOfSize, codeword_count}
use Rattle.dm_layout.proofs.Names.{IsSymbol, SymbolView, rules}
use Rattle.dm_layout.proofs.symbols.lifting.lift_list.Goals as goal

filled : (of : SymbolView) (words : List ℕ) → IsSymbol of → length words ≡ codeword_count of.size
    → ((k : ℕ) → get_or words k 0 < 256) → AreOfSize of.size words
filled of words is count fits =
    record { size = is.size; count = count; bytes = All-from_get_or (λ word. word < 256) words 0 (λ k _. fits k) }

pub returns-then-columns-le-NARROW_MATRIX-clause-words : goal.returns-then-columns-le-NARROW_MATRIX-clause-words
returns-then-columns-le-NARROW_MATRIX-clause-words c =
    filled c.args.symbol.now _ c.size.ensures.modules (cc) (λ k. search (rules, c.type_inv.words k))

pub returns-then-columns-le-WIDE_MATRIX-clause-words : goal.returns-then-columns-le-WIDE_MATRIX-clause-words
returns-then-columns-le-WIDE_MATRIX-clause-words c =
    filled c.args.symbol.now _ c.size.ensures.modules (cc) (λ k. search (rules, c.type_inv.words k))

pub returns-else-columns-le-WIDE_MATRIX-clause-words : goal.returns-else-columns-le-WIDE_MATRIX-clause-words
returns-else-columns-le-WIDE_MATRIX-clause-words c =
    filled c.args.symbol.now _ c.size.ensures.modules (cc) (λ k. search (rules, c.type_inv.words k))
