-- The results of reading a grid, from the restored codewords of its symbol.
use Rattle.dm_symbol.proofs.Names.{ℕ, List, map, None, Ok, Err, refl, Usual, Item, as_content, Spells, Refused}
use Rattle.dm_symbol.proofs.Names.{identifier_is_there, said_wide, GridView, IsGrid, symbol_modules, WordsView, data_of}
use Rattle.dm_symbol.proofs.Names.{Dealing, BlockReading, content_reading_of, ContentReadResult, IsRead, reading_of}
use Rattle.dm_symbol.proofs.Names.{IsRestored, ReadFault}
use Rattle.dm_words.specs.declared.fault.WordFault.{WordFault}
use Rattle.dm_words.specs.declared.contents.fault.ContentFault.TheVariants as words_fault
use Rattle.dm_symbol.specs.declared.reading.ReadFault.TheVariants as fault
use Rattle.dm_symbol.specs.Reading.{content_fault}
use Rattle.dm_symbol.proofs.Grids.{is_read}
use Rattle.dm_symbol.proofs.ContentReadSteps.{refused_content_result, said_content_result}

module _ (grid : GridView) (limit : ℕ) (g : IsGrid grid) where
  -- A fault with which the symbol is lost is what reading gives.
  pub lost_is_read : (why : ReadFault)
      → ContentReadResult Usual (symbol_modules grid) None limit (Err (content_fault why)) → IsRead grid limit (Err why)
  lost_is_read why lost = is_read grid limit (Err why) (record {
    is_grid = g;
    of_symbol = Err (content_fault why);
    read = lost;
    same = (why, refl, refl);
  })

  module _ (w : WordsView) (dealing : Dealing) (blocks : List BlockReading) (count : ℕ)
      (r : IsRestored Usual (symbol_modules grid) None limit w dealing blocks count) where
    -- The fault with which the data codewords are refused is.
    pub fault_is_read : (why : WordFault) → Refused (data_of w) why → IsRead grid limit (Err (fault.Words why))
    fault_is_read why refused =
        lost_is_read (fault.Words why)
        (refused_content_result Usual (symbol_modules grid) None limit w dealing blocks count r (words_fault.Word why)
        refused)

    -- Where they spell a message, it is.
    pub message_is_read : (m : List Item) → Spells Usual (data_of w) m
        → IsRead grid limit (Ok (reading_of m (map (λ (b : BlockReading). b.corrected) blocks) count))
    message_is_read m spelled =
        let said = said_wide Usual (data_of w) (as_content m) spelled in
        let number = identifier_is_there (data_of w) (as_content m) said in
        is_read grid limit (Ok (reading_of m (map (λ (b : BlockReading). b.corrected) blocks) count)) (record {
          is_grid = g;
          of_symbol = Ok (content_reading_of (as_content m) number.0 dealing blocks count);
          read = said_content_result Usual (symbol_modules grid) None limit w dealing blocks count r (as_content m)
              number.0 spelled number.1;
          same = refl;
        })
