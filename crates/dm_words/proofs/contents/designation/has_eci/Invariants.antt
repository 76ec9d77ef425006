use Rattle.dm_words.proofs.Names.{◌≡◌, ◌≢◌, ◌<◌, ℕ, get_or, length, true, false}
use Rattle.dm_words.proofs.contents.designation.has_eci.Given as goal

-- Where none is found, no word so far is ECI.
abbrev pub invariant-loop-word : goal.invariant-loop-word
invariant-loop-word l = record {
  some : l.found ≡ true → (i : ℕ) × (i < length l.words) × (get_or l.words i 0 ≡ 241);
  none : l.found ≡ false → (i : ℕ) → i < l.word-index → get_or l.words i 0 ≢ 241;
}
