-- What the crates above cite of the proofs of this one: facts of its definitions.
pub use Rattle.dm_code.proofs.Codewords.{codeword_bytes}
pub use Rattle.dm_code.proofs.Distance.{codewords_one, differs_apart, differs_le, differs_same, near_one}
pub use Rattle.dm_code.proofs.Checks.{checks_are_there}
pub use Rattle.dm_code.proofs.NearOrNone.{near_but_or_none, near_or_none}
pub use Rattle.dm_code.proofs.ErasedPlaces.{near_but_one, near_but_none, near_none_but}
pub use Rattle.dm_code.proofs.EachErased.{erased_within}
