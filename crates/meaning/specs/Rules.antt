-- The rules of the document as code names them, each with its number in the table ("Refusal numbers"), and a code's results in the document's words.
-- Assumes nothing.
use Rattle.std.specs.Prelude.{ℕ, Result, Ok, Err}
use Rattle.meaning.specs.declared.Side.{Side}
use Rattle.meaning.specs.declared.Rule.{Rule}
use Rattle.meaning.specs.declared.Rule.TheVariants.{CutShort, Version, Length, Count, NoSuchEnd, Order, RoleAbove, LeftOver, TooDeep, TooManyNodes}
use Rattle.meaning.specs.declared.Rule.TheVariants.{NotPlain, TooManyThresholds, NoComparison, TooLarge, OutOfRange, MapTooShort, StepsBeyondLog}
use Rattle.meaning.specs.declared.Rule.TheVariants.{LogFull, NothingToUndo, NoPlaceForLink, OutputTooShort, NoRequirement}
use Rattle.meaning.specs.declared.Rule.TheVariants.{DenominatorOut, AboveOne, NotLowest, Withdrawn}
use Rattle.meaning.specs.declared.Fault.{Fault}
use Rattle.meaning.specs.declared.Refusal.{Refusal}
use Rattle.meaning.specs.Refusal.{Answer, good, refused, at}

abbrev pub number_of : Rule → ℕ
number_of CutShort = 1
number_of Version = 2
number_of Length = 3
number_of Count = 4
number_of NoSuchEnd = 5
number_of Order = 6
number_of RoleAbove = 7
number_of LeftOver = 8
number_of TooDeep = 9
number_of TooManyNodes = 10
number_of NotPlain = 11
number_of TooManyThresholds = 12
number_of NoComparison = 13
number_of TooLarge = 14
number_of OutOfRange = 15
number_of MapTooShort = 16
number_of StepsBeyondLog = 17
number_of LogFull = 18
number_of NothingToUndo = 19
number_of NoPlaceForLink = 20
number_of OutputTooShort = 21
number_of NoRequirement = 22
number_of DenominatorOut = 23
number_of AboveOne = 24
number_of NotLowest = 25
number_of Withdrawn = 26

-- a fault, on the side of the input that it is in
abbrev pub refusal_on : Side → Fault → Refusal
refusal_on side f = at side (number_of f.rule) f.place

-- what a call or a reader answers, in the document's words
abbrev pub paper : {A : Type 0} → Result A Refusal → Answer A
paper (Ok x) = good x
paper (Err r) = refused r

abbrev pub paper_on : {A : Type 0} → Side → Result A Fault → Answer A
paper_on side (Ok x) = good x
paper_on side (Err f) = refused (refusal_on side f)

-- a test that answers a rule where it is broken, by its number, and 0 where it is not
abbrev pub told : Result (Unit {0}) Rule → ℕ
told (Ok u) = 0
told (Err r) = number_of r
