use Rattle.std.proofs.Common.{◌≡◌, ◌≤◌, length, take}
use Rattle.dm_code.specs.Erased.{erased_places_from}
use Rattle.dm_code.proofs.erasures.places_of.Given as goal

abbrev pub invariant-loop-place : goal.invariant-loop-place
invariant-loop-place l = record {
  found : l.places.items ≡ erased_places_from 0 (take l.place l.erased);
  few : length l.places.items ≤ l.place;
}
