use Rattle.dm_symbol.proofs.ContentReadings.{wide_reads_the_usual_content as wide_reads}
use Rattle.dm_symbol.proofs.laws.contents.wide_reads_the_usual_content.Goals as goal

pub returns : goal.returns
returns c = wide_reads
