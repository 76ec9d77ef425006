-- The symbol in which data codewords are written: it is one, it holds them, and it is there where they fit.
use Rattle.dm_symbol.proofs.Names.{◌≡◌, ℕ, ◌<◌, ◌≤◌, List, length, Option, Some, None, IsSome, Result, Ok, Err, IsErr}
use Rattle.dm_symbol.proofs.Names.{refl, sym, ap, subst, ◌∙◌, All, false≢true, TooLong, padded, SizeChoice, SizeEntry}
use Rattle.dm_symbol.proofs.Names.{entry_for, SymbolView, WordsView, IsLaid, words_with, AreOfSize, AreCodewordsOf}
use Rattle.dm_symbol.proofs.Names.{first_data, take, FitChoice}
use Rattle.std.proofs.lemmas.List.{take-take}
use Rattle.dm_symbol.specs.WrittenWords.{AreWrittenIn, AreWritten}
use Rattle.dm_layout.proofs.symbols.Exported.{one_laid, some_laid}
use Rattle.dm_symbol.proofs.SymbolBelow.{held_is_one}
use Rattle.dm_symbol.proofs.SymbolCompletions.{checks_for, chosen_stands}
use Rattle.dm_symbol.proofs.SymbolWriteSteps.{checks_follow, chosen_holds}

-- Two equal results that are there say the same.
pub some_is : {A : Type 0} (a b : A) → Some a ≡ Some b → a ≡ b
some_is a b e = cc

-- Codewords that stand at the beginning of as many as a size has are followed by its pads.
pub front_padded : (count most total : ℕ) (words form new : List ℕ) → count ≤ most → take count words ≡ form
    → length (take most words) ≡ total
    → new ≡ padded (take count (take most words)) (length (take most words)) → new ≡ padded form total
front_padded count most total words form new le is long put =
    put ∙ ap (λ n. padded (take count (take most words)) n) long
    ∙ ap (λ w. padded w total) (take-take count most words le ∙ is)

module _ (choice : SizeChoice) (form : List ℕ) where
  -- Codewords that are written in a size of the choice fit one.
  pub written_fit : (g : SymbolView) → AreWrittenIn choice form g → FitChoice choice form
  written_fit g n = subst IsSome (sym n.smallest) refl

  -- The size has at least as many data codewords.
  pub written_hold : (g : SymbolView) → AreWrittenIn choice form g → length form ≤ g.size.data_count
  written_hold g n = chosen_holds choice (length form) g.size n.smallest

  -- Codewords are written in only one symbol.
  pub words_written_once : (g h : SymbolView) → AreWrittenIn choice form g → AreWrittenIn choice form h → g ≡ h
  words_written_once g h ng nh =
      let size : g.size ≡ h.size = some_is g.size h.size (sym ng.smallest ∙ nh.smallest) in
      let of_size : AreOfSize g.size nh.words = subst (λ s. AreOfSize s nh.words) (sym size) nh.laid.holds.codewords in
      let checked : AreCodewordsOf g.size nh.words = subst (λ s. AreCodewordsOf s nh.words) (sym size) nh.checked in
      let front : first_data g.size nh.words ≡ padded form g.size.data_count =
      subst (λ s. first_data s nh.words ≡ padded form s.data_count) (sym size) nh.data_words in
      let same : ng.words ≡ nh.words =
      checks_follow g.size ng.words nh.words ng.laid.holds.codewords of_size ng.checked checked (ng.data_words
      ∙ sym front) in
      let whole : words_with g.size ng.words ≡ words_with h.size nh.words =
      ap (λ s. words_with s ng.words) size ∙ ap (λ w. words_with h.size w) same in
      one_laid (words_with h.size nh.words) g h (subst (λ w. IsLaid w g) whole ng.laid) nh.laid

  -- The modules in which codewords with pads and checks are laid are the symbol in which these are written.
  pub laid_are_written : (modules : SymbolView) (w : WordsView) (size : SizeEntry)
      → entry_for choice (length form) ≡ Some size → w.size ≡ size
      → first_data size w.list ≡ padded form size.data_count → AreCodewordsOf size w.list → IsLaid w modules
      → AreWrittenIn choice form modules
  laid_are_written modules w size smallest of_size front checked laid =
      let same : size ≡ modules.size = sym of_size ∙ laid.holds.same_size in
      let whole : w ≡ words_with modules.size w.list = ap (λ s. words_with s w.list) laid.holds.same_size in
      record {
        smallest = smallest ∙ ap Some same;
        words = w.list;
        laid = subst (λ x. IsLaid x modules) whole laid;
        data_words = subst (λ s. first_data s w.list ≡ padded form s.data_count) same front;
        checked = subst (λ s. AreCodewordsOf s w.list) same checked;
      }

  -- Codewords that fit a size of the choice are written in some symbol.
  pub written_words_are_there : ((count : ℕ) → length form ≤ count → length (padded form count) ≡ count)
      → ((count : ℕ) → All (λ w. w < 256) (padded form count)) → FitChoice choice form
      → (modules : SymbolView) × AreWrittenIn choice form modules
  written_words_are_there long bytes fits = of_size (entry_for choice (length form)) refl fits
    where
      of_size : (o : Option SizeEntry) → entry_for choice (length form) ≡ o → IsSome o
          → (modules : SymbolView) × AreWrittenIn choice form modules
      of_size None e is = absurd (false≢true is)
      of_size (Some size) e is =
          let holds = chosen_holds choice (length form) size e in
          let w = checks_for size (padded form size.data_count) (chosen_stands choice (length form) size e)
          (long size.data_count holds) (bytes size.data_count) in
          let laid = some_laid (words_with size w.list) w.of_size in
          (laid.0, laid_are_written laid.0 (words_with size w.list) size e refl w.front w.checked laid.1)

  -- The symbol in which codewords are written is a right result.
  pub words_are_written : (g : SymbolView) → AreWrittenIn choice form g → AreWritten choice form (Ok g)
  words_are_written g n = record {
    written = n;
    one = λ other o. words_written_once other g o n;
    fits = (λ is. written_fit g n, λ fits. refl);
    none = tt;
  }

  -- That there is none is the right result for codewords that fit no size of the choice.
  pub no_words_written : (result : Result SymbolView TooLong) → IsErr result → (FitChoice choice form → ⊥)
      → AreWritten choice form result
  no_words_written (Ok g) is none = absurd (false≢true is)
  no_words_written (Err e) is none = record {
    written = tt;
    one = tt;
    fits = (λ h. absurd (false≢true h), λ fits. absurd (none fits));
    none = λ g n. none (written_fit g n);
  }

-- Codewords that are written in the same symbol, in whatever choices, are equal up to pads.
pub written_words_tell : (choice other : SizeChoice) (form other_form : List ℕ) (g : SymbolView)
    → AreWrittenIn choice form g → AreWrittenIn other other_form g
    → padded form g.size.data_count ≡ padded other_form g.size.data_count
written_words_tell choice other form other_form g n o =
    let same : n.words ≡ o.words = held_is_one g n.words o.words n.laid.holds o.laid.holds in
    sym n.data_words ∙ ap (first_data g.size) same ∙ o.data_words
