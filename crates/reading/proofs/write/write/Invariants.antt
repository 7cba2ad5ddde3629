use Rattle.std.proofs.Common.{◌≡◌, ◌-◌, ◌≤◌, ◌++◌, reverse, length}
use Rattle.reading.specs.Arena.{term, AllBelow, listings}
use Rattle.reading.proofs.write.write.Given as goal

-- What is written and what is still to be are the whole.
abbrev pub invariant-loop-i : goal.invariant-loop-i
invariant-loop-i l = record {
  whole : l.out ++ listings (term (reverse l.nodes)) (reverse l.work) ≡ l.initial.out ++ listings (term (reverse l.nodes)) (reverse l.initial.work);
  below : AllBelow (length l.nodes) (reverse l.work);
  few : length l.out ≤ l.limit;
}

abbrev pub decreases-loop-i : goal.decreases-loop-i
decreases-loop-i l = l.limit - length l.out
