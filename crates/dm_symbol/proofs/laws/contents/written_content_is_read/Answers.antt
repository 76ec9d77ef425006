use Rattle.dm_symbol.proofs.WrittenContents.{written_content_is_read as is_read, written_symbols_tell_contents}
use Rattle.dm_symbol.proofs.laws.contents.written_content_is_read.Goals as goal

pub returns : goal.returns
returns c = record {
  read = λ extent choice p l g limit number result right said n is.
      is_read choice p l g n right number is extent limit result said;
  tell = written_symbols_tell_contents;
}
