-- Symbols as the library gives them, and what it gives for a symbol that is to be normalised.
use Rattle.std.specs.Prelude.{◌≡◌, ℕ, List, nat_eq, if◌then◌else◌, Option, Some, None, Ok, Err}
use Rattle.dm_symbol.specs.declared.Extent.{Extent}
use Rattle.dm_symbol.specs.declared.Profile.{Profile}
use Rattle.dm_symbol.specs.declared.Profile.TheVariants.{Ascii, Shorter}
use Rattle.dm_symbol.specs.declared.ContentNormalFault.{ContentNormalFault}
use Rattle.dm_layout.specs.symbols.Symbols.{SymbolView}
use Rattle.dm_symbol.specs.ContentNormal.{NormalContentResult}
use Rattle.ecc200_calls.specs.declared.fault.Fault.{Fault}
use Rattle.ecc200_calls.specs.declared.scan.Scan.{Scan}
use Rattle.ecc200_calls.specs.declared.scan.Sought.{Sought}
use Rattle.ecc200_calls.specs.declared.symbol.SymbolOut.{SymbolOut}
use Rattle.ecc200_calls.specs.Arrays.{over}
use Rattle.ecc200_calls.specs.Faults.{fault, normal_content_fault}
use Rattle.ecc200_calls.specs.Modules.{modules_of}
use Rattle.ecc200_calls.specs.Scans.{SoughtResult, sought_of}

-- After a fault there is that fault, the modules are as they were before, and all else is 0.
abbrev pub no_symbol : Fault → SymbolOut → SymbolOut
no_symbol why before = record { fault = why; rows = 0; columns = 0; modules = before.modules }

-- A symbol has its rows, its columns and its modules.
abbrev pub symbol_shown : SymbolView → SymbolOut → SymbolOut
symbol_shown symbol before =
    record {
      fault = fault 0 0 0;
      rows = symbol.size.rows;
      columns = symbol.size.columns;
      modules = over (modules_of symbol) before.modules;
    }

-- The number 0 stands for the profile `Ascii`, 1 for `Shorter`, and no other number for any.
abbrev pub profile_of : ℕ → Option Profile
profile_of number = if nat_eq number 0 then Some Ascii else (if nat_eq number 1 then Some Shorter else None)

-- The result of normalising a symbol as a content, with these of its modules doubtful, is given: a symbol, or a fault.
pub data IsNormalGiven (extent : Extent) (profile : Profile) (symbol : SymbolView) (doubtful : Option SymbolView)
    (limit : ℕ) (before after : SymbolOut) : Type 0 where
  normal : (normal : SymbolView) → NormalContentResult extent profile symbol doubtful limit (Ok normal)
      → after ≡ symbol_shown normal before → IsNormalGiven extent profile symbol doubtful limit before after
  refused : (why : ContentNormalFault) → NormalContentResult extent profile symbol doubtful limit (Err why)
      → after ≡ no_symbol (normal_content_fault why) before
      → IsNormalGiven extent profile symbol doubtful limit before after

-- Normalising these modules gives that there is no such profile, or the result under that profile.
pub data ProfileResult (sought : Sought) (modules doubt : List ℕ) (profile : ℕ) (before after : SymbolOut)
    : Type 0 where
  no_profile : profile_of profile ≡ None → after ≡ no_symbol (fault 16 profile 0) before
      → ProfileResult sought modules doubt profile before after
  under_profile : (chosen : Profile) → profile_of profile ≡ Some chosen
      → SoughtResult sought modules doubt (λ why. after ≡ no_symbol why before)
      (λ symbol doubtful limit. IsNormalGiven sought.extent chosen symbol doubtful limit before after)
      → ProfileResult sought modules doubt profile before after

-- Normalising these modules by the numbers of a scan gives why what they ask for can't be, or the result for it.
pub data IsNormalResult (modules doubt : List ℕ) (scan : Scan) (profile : ℕ) (before after : SymbolOut) : Type 0 where
  not_sought : (why : Fault) → sought_of scan ≡ Err why → after ≡ no_symbol why before
      → IsNormalResult modules doubt scan profile before after
  sought : (sought : Sought) → sought_of scan ≡ Ok sought → ProfileResult sought modules doubt profile before after
      → IsNormalResult modules doubt scan profile before after
