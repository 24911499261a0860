-- `limits::put_limits` meets its contract: threshold after threshold, each a step on in the bytes that the numbers say.
-- Assumes nothing.
use mathlib.Core.Path.{◌≡◌}
use Prim.Native.Nat.{◌+◌, ◌*◌, ◌-◌, ◌≤◌}
use lib.ListN.{length}
use Rattle.meaning.specs.Writing.{limits_from}
use Rattle.limits.specs.Flat.{after, Each}
use Rattle.limits.proofs.Putting.{Put}
use Rattle.limits.proofs.Runs.{limits_bytes}
use Rattle.limits.proofs.put_limits.Given as goal

abbrev pub invariant-loop-e : goal.invariant-loop-e
invariant-loop-e l = record {
  from : l.first ≤ l.k;
  place : l.p ≡ l.at + 6 * (l.e - l.j) + 11 * (l.k - l.first);
  room : length l.out ≡ length l.initial.out;
  behind : after l.of.limits l.j l.first (l.end - l.j) ≡ after l.of.limits l.e l.k (l.end - l.e);
  each : Each l.of.limits l.of.inner l.e l.k (l.end - l.e);
  put : Put l.initial.out l.out l.at l.p (limits_bytes (limits_from l.of.limits l.of.inner l.j l.first (l.end - l.j)))
      (limits_bytes (limits_from l.of.limits l.of.inner l.e l.k (l.end - l.e)));
}
