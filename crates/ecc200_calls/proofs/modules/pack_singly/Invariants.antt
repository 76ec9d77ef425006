use Rattle.ecc200_calls.proofs.Names.{◌≡◌, ◌-◌, ◌+◌, ◌<◌, ◌^◌, ℕ, get_or, is_dark_bit, is_dark}
use Rattle.ecc200_calls.proofs.modules.pack_singly.Given as goal

-- The last modules are packed, the first of them as the lowest bit.
abbrev pub invariant-loop-i : goal.invariant-loop-i
invariant-loop-i l = record {
  bits : (column : ℕ) → column < l.i →
      is_dark_bit l.row column ≡ is_dark (get_or l.modules (l.across - l.i + column) 0);
  small : l.row < 2 ^ l.i;
}
