-- `lines::push_places` meets its contract: at each turn one comma and one place more.
-- Assumes nothing.
use Rattle.std.proofs.Common.{◌≡◌, ◌+◌, ◌*◌, ◌≤◌, ◌++◌, length, take}
use Rattle.lines.specs.Lines.{places}
use Rattle.lines.proofs.push_places.Given as goal

abbrev pub invariant-loop-to : goal.invariant-loop-to
invariant-loop-to l = record {
  text : l.line ≡ l.initial.line ++ places (take l.to-index l.map);
  room : length l.line ≤ length l.initial.line + 6 * l.to-index;
}
