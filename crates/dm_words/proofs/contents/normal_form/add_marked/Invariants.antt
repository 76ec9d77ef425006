use Rattle.dm_words.proofs.Names.{◌≡◌, ◌+◌, ◌≤◌, ◌++◌, length, take, drop, AreMarks, ascii_with_marks}
use Rattle.dm_words.proofs.contents.normal_form.add_marked.Given as goal

-- The codewords up to the marks so far are written.
abbrev pub invariant-loop-mark : goal.invariant-loop-mark
invariant-loop-mark l = record {
  within : l.before ≤ length l.items;
  in_order : AreMarks l.before (length l.items) (drop l.mark-index l.marks);
  counted : l.held + length (ascii_with_marks l.before (drop l.before l.items) (drop l.mark-index l.marks))
      ≡ l.fn.held + length (ascii_with_marks 0 l.items l.marks);
  so_far : take l.fn.held l.fn.words ++ ascii_with_marks 0 l.items l.marks ≡ take l.held l.words
      ++ ascii_with_marks l.before (drop l.before l.items) (drop l.mark-index l.marks);
}
