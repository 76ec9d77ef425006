use Rattle.dm_symbol.proofs.ContentReadings.{one_symbol_content, read_content_right}
use Rattle.dm_symbol.proofs.laws.contents.one_symbol_content_is_read.Goals as goal

pub returns : goal.returns
returns c = record {
  content = λ extent other modules doubtful k l x y. one_symbol_content modules doubtful extent other k l x y;
  right = λ extent modules doubtful limit x. read_content_right modules doubtful extent limit x;
}
