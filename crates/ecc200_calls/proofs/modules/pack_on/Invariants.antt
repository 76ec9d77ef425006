use Rattle.ecc200_calls.proofs.Names.{◌≡◌, ◌-◌, ◌+◌, ◌%◌, ◌<◌, ◌^◌, ℕ, get_or, is_dark_bit, is_dark}
use Rattle.ecc200_calls.proofs.modules.pack_on.Given as goal

-- The modules before this column, a multiple of sixteen, are packed, and nothing else.
abbrev pub invariant-loop-column : goal.invariant-loop-column
invariant-loop-column l = record {
  before : (c : ℕ) → c < l.column → c < l.across → is_dark_bit l.row c ≡ is_dark (get_or l.modules c 0);
  small : l.row < 2 ^ l.column;
  multiple : l.column % 16 ≡ 0;
  within : l.column < l.across + 16;
}

abbrev pub decreases-loop-column : goal.decreases-loop-column
decreases-loop-column l = l.across + 16 - l.column
