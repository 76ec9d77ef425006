use Rattle.dm_layout.proofs.Names.{◌≡◌, true, sym, equal_sizes}
use Rattle.dm_layout.proofs.symbols.EqualityLaws.{told_sizes}
use Rattle.dm_layout.proofs.symbols.KeptEquality.{all_tell, by_told}
use Rattle.dm_layout.proofs.symbols.symbol.SymbolInPartialEq.eq.Goals as goal

pub returns-then-is_same-clause-same : goal.returns-then-is_same-clause-same
returns-then-is_same-clause-same g c =
    let same : equal_sizes c.args.self.now.size c.args.other.now.size ≡ true =
    cc (c.size.ensures.value, c.size-2.ensures.value, c.is_same.ensures, c.if-is_same.true) in
    all_tell c.args.self.now c.args.other.now c.has_rows_of.result c.size.ensures.modules c.size-2.ensures.modules
    (sym (told_sizes c.args.self.now.size c.args.other.now.size c.size.ensures.modules.size
    c.size-2.ensures.modules.size same)) c.has_rows_of.ensures

pub returns-then-is_same-clause-value : goal.returns-then-is_same-clause-value
returns-then-is_same-clause-value g c =
    by_told c.args.self.now c.args.other.now c.has_rows_of.result c.size.ensures.modules c.size-2.ensures.modules
    (returns-then-is_same-clause-same g c)
