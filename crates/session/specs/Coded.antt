-- A step in one number below 2 ^ 64, and the step of each such number. Lowest first: whether the fact was there (2), whether it is a link (2);
-- then for a name the item (65,536) and the name, for a link its end (65,536), its role (256) and where it leads from.
-- Every number is the code of one step. So a number is a step in range, or an undo refuses it with 17.
-- Assumes nothing.
use Rattle.std.specs.Prelude.{Bool, true, false, cond, ℕ, ◌+◌, ◌*◌, ◌/◌, ◌%◌, eqb}
use Rattle.meaning.specs.declared.Fact.{Fact}
use Rattle.meaning.specs.declared.Fact.TheVariants.{Name as name_on, Link as link_of}
use Rattle.meaning.specs.declared.Step.{Step}

abbrev pub bit : Bool → ℕ
bit true = 1
bit false = 0

abbrev pub coded : Bool → Fact → ℕ
coded was (name_on i k) = (k * 65536 + i) * 2 * 2 + bit was
coded was (link_of a r b) = (((a * 256 + r) * 65536 + b) * 2 + 1) * 2 + bit was

abbrev pub code_of : Step → ℕ
code_of s = coded s.was s.fact

abbrev pub decoded : ℕ → Step
decoded n = record {
  fact = cond (eqb (n / 2 % 2) 0) (name_on (n / 4 % 65536) (n / 4 / 65536)) (link_of (n / 4 / 16777216) (n / 4 / 65536 % 256) (n / 4 % 65536));
  was = eqb (n % 2) 1;
}
