-- Codewords that are kept at the start of a list of bytes.
use Rattle.dm_layout.proofs.Names.{◌≡◌, ℕ, ◌<◌, List, length, arith, length-take, All, SizeEntry, codeword_count}
use Rattle.dm_layout.proofs.Names.{IsWords, AreKeptIn, first_words}
use Rattle.std.proofs.lemmas.List.Elements.{All-take}

-- The codewords that are kept for a size are well-formed codewords of that size.
pub words_of_kept : {room : ℕ} (size : SizeEntry) (kept : List ℕ) → AreKeptIn room size → length kept ≡ room →
    All (λ word. word < 256) kept → IsWords (first_words size kept)
words_of_kept size kept h count bytes = record {
  size = h.entry;
  count = let e = length-take (codeword_count size) kept in omega (arith, e, h.fits, count);
  bytes = All-take (λ word. word < 256) (codeword_count size) kept bytes;
}
