-- The devices of std under a source and a sink.
use Rattle.dm_text.specs.declared.source.FromRead.{FromRead}
use Rattle.dm_text.specs.declared.sink.ToWrite.{ToWrite}

-- A source reads from this reader.
abbrev pub reader_of : {R : Type 0} → FromRead R → R
reader_of s = s.reader

-- A sink writes to this writer.
abbrev pub writer_of : {W : Type 0} → ToWrite W → W
writer_of s = s.writer
