use Rattle.dm_words.proofs.Names.{◌≡◌, ◌+◌, ◌*◌, ◌≤◌, length, drop, AreMarks, ascii_with_marks}
use Rattle.dm_words.proofs.contents.normal_form.marked_length.Given as goal

-- The codewords up to the marks so far are counted.
abbrev pub invariant-loop-mark : goal.invariant-loop-mark
invariant-loop-mark l = record {
  within : l.before ≤ length l.items;
  in_order : AreMarks l.before (length l.items) (drop l.mark-index l.marks);
  room : l.length ≤ 2 * l.before + 4 * l.mark-index;
  so_far : length (ascii_with_marks 0 l.items l.marks)
      ≡ l.length + length (ascii_with_marks l.before (drop l.before l.items) (drop l.mark-index l.marks));
}
