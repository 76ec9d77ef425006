-- What a codeword is by itself where ASCII encodation is in force.
use Rattle.std.specs.Prelude.{◌≡◌, ℕ, Some, false}
use Rattle.dm_words.specs.declared.codeword.Codeword.TheVariants as codeword
use Rattle.dm_words.specs.declared.codeword.Lone.{Lone}
use Rattle.dm_words.specs.declared.codeword.Lone.TheVariants as lone
use Rattle.dm_words.specs.Codewords.{codeword_of}
use Rattle.dm_words.specs.inner.Scan.Prefixes.{is_one_word}

-- A codeword is a character or a pair of digits by itself, or no part.
abbrev pub IsLone : ℕ → Lone → Type 0
IsLone word (lone.Character byte) = codeword_of word ≡ Some (codeword.Character byte)
IsLone word (lone.Digits number) = codeword_of word ≡ Some (codeword.Digits number)
IsLone word lone.Other = is_one_word (codeword_of word) ≡ false
