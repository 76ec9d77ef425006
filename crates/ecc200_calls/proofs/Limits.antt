-- How many modules of a border may have the wrong colour.
use Rattle.ecc200_calls.proofs.Names.{◌≡◌, ℕ, ◌<◌, ◌≤◌, List, Option, Some, None, Err, sym, subst, ◌∙◌, arith, All}
use Rattle.ecc200_calls.proofs.Names.{Extent, ContentReadFault, SymbolView, WordsView, ContentReadResult, AreLight}
use Rattle.ecc200_calls.proofs.Names.{faults_alike, none_lost, restored_alike, restored_back, restored_is_one}
use Rattle.ecc200_calls.proofs.Names.{said_alike, IsLimit, LeavesCorrections}
use Rattle.dm_symbol.specs.declared.BlockReading.{BlockReading}
use Rattle.dm_symbol.specs.declared.Dealing.{Dealing}
use Rattle.dm_symbol.specs.Doubt.{sure_fault_count}
use Rattle.dm_symbol.specs.declared.ContentFault.{ContentFault}
use Rattle.dm_symbol.specs.declared.ContentReadFault.TheVariants as fault
use Rattle.dm_symbol.specs.Restored as whole
use Rattle.ecc200_calls.specs.declared.scan.BorderLimit.{BorderLimit}

-- A block leaves a correction unused.
abbrev LeavesCorrection : BlockReading → Type 0
LeavesCorrection block = 2 ≤ block.left

-- ---- doubtful modules that are all light

module _ (doubtful : SymbolView) (light : AreLight doubtful) (symbol : SymbolView) (extent : Extent) where
  -- As many corrections are left with them.
  left_alike : LeavesCorrections extent symbol None → LeavesCorrections extent symbol (Some doubtful)
  left_alike l = record {
    dealing = l.dealing;
    words = l.words;
    codewords = l.codewords;
    restored = restored_alike doubtful light symbol l.dealing extent l.words l.codewords l.restored;
    left = subst (All LeavesCorrection) (said_alike doubtful light symbol l.dealing l.words l.codewords) l.left;
  }

  -- As many are without them.
  left_back : LeavesCorrections extent symbol (Some doubtful) → LeavesCorrections extent symbol None
  left_back l = record {
    dealing = l.dealing;
    words = l.words;
    codewords = l.codewords;
    restored = restored_back doubtful light symbol l.dealing extent l.words l.codewords l.restored;
    left = subst (All LeavesCorrection) (sym (said_alike doubtful light symbol l.dealing l.words l.codewords)) l.left;
  }

  -- The border limit is the same.
  pub limit_alike : (asked : BorderLimit) (limit : ℕ) → IsLimit asked extent symbol None limit
      → IsLimit asked extent symbol (Some doubtful) limit
  limit_alike asked limit (IsLimit.given is) = IsLimit.given is
  limit_alike asked limit (IsLimit.few is few e) = IsLimit.few is (rw (faults_alike doubtful light symbol) at few) e
  limit_alike asked limit (IsLimit.sure is more left e) =
      IsLimit.sure is (rw (faults_alike doubtful light symbol) at more) (left_alike left)
      (e ∙ faults_alike doubtful light symbol)
  limit_alike asked limit (IsLimit.unsure is more none e) =
      IsLimit.unsure is (rw (faults_alike doubtful light symbol) at more) (λ left. none (left_back left)) e

-- ---- what is restored

module _ (extent : Extent) (symbol : SymbolView) (doubtful : Option SymbolView) (limit : ℕ) where
  module _ (words : WordsView) (dealing : Dealing) (blocks : List BlockReading) (faults : ℕ)
      (is : whole.IsRestored extent symbol doubtful limit words dealing blocks faults) where
    -- Where each of the blocks leaves a correction unused, so does each block of the symbol.
    pub left_of_blocks : All LeavesCorrection blocks → LeavesCorrections extent symbol doubtful
    left_of_blocks left = record {
      dealing = dealing;
      words = is.held;
      codewords = words.list;
      restored = is.restored;
      left = subst (All LeavesCorrection) is.readings left;
    }

    -- The other way round.
    pub blocks_of_left : LeavesCorrections extent symbol doubtful → All LeavesCorrection blocks
    blocks_of_left l =
        let one = restored_is_one symbol doubtful extent extent l.dealing dealing l.words l.codewords is.held words.list
        l.restored is.restored in
        rw (one.0, one.1, one.2, ← is.readings) at l.left

  -- A fault of the border has the number of its faults, which are more than the limit.
  pub border_of_fault : (count : ℕ) → ContentReadResult extent symbol doubtful limit (Err (fault.Border count))
      → (limit < sure_fault_count symbol doubtful) × (count ≡ sure_fault_count symbol doubtful)
  border_of_fault count (ContentReadResult.border more e) = (more, cc)
  border_of_fault count (ContentReadResult.block words index few lost e) = cc
  border_of_fault count (ContentReadResult.words d words codewords why few restored refused e) = cc
  border_of_fault count (ContentReadResult.content d words codewords content number few restored said is e) = cc

  -- Where restoring ends in a fault, though there are no more border faults than the limit, no codewords are restored.
  pub none_of_fault : (why : ContentReadFault) → ((refused : ContentFault) → why ≡ fault.Words refused → ⊥)
      → sure_fault_count symbol doubtful ≤ limit → ContentReadResult extent symbol doubtful limit (Err why)
      → LeavesCorrections extent symbol doubtful → ⊥
  none_of_fault why unsaid few (ContentReadResult.border more e) l = omega (arith, few, more)
  none_of_fault why unsaid few (ContentReadResult.block words index within lost e) l =
      none_lost symbol doubtful extent l.dealing words l.words l.codewords index lost l.restored
  none_of_fault why unsaid few (ContentReadResult.words d words codewords refused within restored is e) l =
      unsaid refused cc
  none_of_fault why unsaid few (ContentReadResult.content d words codewords content number within restored said is e) l
      =
      cc

  -- Any other fault than one of the border comes where there are no more border faults than the limit.
  pub few_of_fault : (why : ContentReadFault) → ((count : ℕ) → why ≡ fault.Border count → ⊥)
      → ContentReadResult extent symbol doubtful limit (Err why) → sure_fault_count symbol doubtful ≤ limit
  few_of_fault why other (ContentReadResult.border more e) = absurd (other (sure_fault_count symbol doubtful) cc)
  few_of_fault why other (ContentReadResult.block words index few lost e) = few
  few_of_fault why other (ContentReadResult.words d words codewords refused few restored is e) = few
  few_of_fault why other (ContentReadResult.content d words codewords content number few restored said is e) = few
