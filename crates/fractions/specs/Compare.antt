-- The comparisons as code names them, in the document's words.
-- Assumes nothing.
use Rattle.meaning.specs.Fraction.{Comparison as Compared, less, at_most, greater, at_least}
use Rattle.fractions.specs.declared.Comparison.{Comparison}
use Rattle.fractions.specs.declared.Comparison.TheVariants.{Less, AtMost, Greater, AtLeast}

abbrev pub compared : Comparison → Compared
compared Less = less
compared AtMost = at_most
compared Greater = greater
compared AtLeast = at_least
