-- What normalising a symbol gives, by the content that it is read as.
use Rattle.ecc200_calls.proofs.Names.{◌≡◌, ℕ, Option, Result, Ok, Err, refl, false≢true, Extent, Usual, Profile, Square}
use Rattle.ecc200_calls.proofs.Names.{TooLong, ContentView, as_content, SymbolView, IsNormalOrFault, ReadsContent}
use Rattle.ecc200_calls.proofs.Names.{IsContentWritten, read_content_right, usual_fault, Profiled, SymbolOut}
use Rattle.ecc200_calls.proofs.Names.{IsNormalGiven, IsContentGiven, no_symbol, symbol_given, symbol_shown}
use Rattle.ecc200_calls.specs.Faults.{normal_content_fault}
use Rattle.dm_symbol.specs.declared.ContentNormalFault.{ContentNormalFault}
use Rattle.dm_symbol.specs.declared.ContentNormalFault.TheVariants as of_content
use Rattle.dm_symbol.specs.ContentNormal.{NormalContentResult}
use Rattle.ecc200_calls.specs.Laws.{IsNormalMessageGiven, MessagesAreNormalised}

module _ (extent : Extent) (profile : Profile) (symbol : SymbolView) (doubtful : Option SymbolView) (limit : ℕ)
    (before after : SymbolOut) where
  -- What is given in squares for a content that the symbol is read as is what normalising gives.
  pub normal_of_content : (content : ContentView) → ReadsContent extent symbol doubtful limit content
      → IsContentGiven (Profiled profile) Square content before after
      → IsNormalGiven extent profile symbol doubtful limit before after
  normal_of_content content reads given = by given.result given.written given.shown
    where
      by : (result : Result SymbolView TooLong) → IsContentWritten Square profile content result
          → after ≡ symbol_given result before → IsNormalGiven extent profile symbol doubtful limit before after
      by (Ok normal) is shown =
          IsNormalGiven.normal normal
          (IsNormalOrFault.normal normal
          (record { content = content; read = reads; normal_symbol = is.written }) refl) shown
      by (Err why) is shown =
          IsNormalGiven.refused of_content.TooLong
          (IsNormalOrFault.too_long
          (record { content = content; read = reads; too_long = λ fits. false≢true (is.fits.1 fits) }) refl) shown

-- What a result of normalising is given as.
abbrev normal_shown : Result SymbolView ContentNormalFault → SymbolOut → SymbolOut
normal_shown (Ok normal) before = symbol_shown normal before
normal_shown (Err why) before = no_symbol (normal_content_fault why) before

module _ (profile : Profile) (symbol : SymbolView) (doubtful : Option SymbolView) (limit : ℕ)
    (before after : SymbolOut) where
  -- What is read in the extent `Usual` is a message.
  as_message : (l : ContentView) → ReadsContent Usual symbol doubtful limit l → l ≡ as_content l.items
  as_message l reads = (read_content_right symbol doubtful Usual limit l reads).1

  -- So its normal symbol is given, or that there is none, or a fault of messages.
  message_by : (result : Result SymbolView ContentNormalFault)
      → NormalContentResult Usual profile symbol doubtful limit result → after ≡ normal_shown result before
      → IsNormalMessageGiven profile symbol doubtful limit before after
  message_by result (IsNormalOrFault.normal n h e) shown =
      let same = as_message h.content h.read in
      IsNormalMessageGiven.normal h.content.items n (rw same at h.read)
      (rw same at h.normal_symbol)
      (rw e at shown)
  message_by result (IsNormalOrFault.too_long h e) shown =
      let same = as_message h.content h.read in
      IsNormalMessageGiven.no_square h.content.items (rw same at h.read)
      (rw same at h.too_long) (rw e at shown)
  message_by result (IsNormalOrFault.fault why read e) shown =
      let f = usual_fault symbol doubtful limit why read in
      IsNormalMessageGiven.refused f.0 (rw f.1 at read) (rw (e, f.1) at shown)

-- In the extent `Usual` the normal symbol of a message is given, or that there is none, or a fault of messages.
pub message_normalised : MessagesAreNormalised
message_normalised profile symbol doubtful limit before after (IsNormalGiven.normal n is shown) =
    message_by profile symbol doubtful limit before after (Ok n) is shown
message_normalised profile symbol doubtful limit before after (IsNormalGiven.refused why is shown) =
    message_by profile symbol doubtful limit before after (Err why) is shown
