use Rattle.dm_symbol.proofs.ContentReadings.{one_content_result, some_content_result}
use Rattle.dm_symbol.proofs.NormalContents.{one_normal_content_result, some_normal_content_result}
use Rattle.dm_symbol.proofs.laws.contents.each_symbol_has_a_content_result.Goals as goal

pub returns : goal.returns
returns c = record {
  there = λ extent modules doubtful limit h. some_content_result modules doubtful extent limit h;
  one = λ extent modules doubtful limit a b. one_content_result modules doubtful extent limit a b;
  normal_there = λ extent p modules doubtful limit h. some_normal_content_result extent p modules doubtful limit h;
  normal_one = λ extent p modules doubtful limit a b. one_normal_content_result extent p modules doubtful limit a b;
}
