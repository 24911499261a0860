-- Laws that the others use
pub mod Tests
pub mod Same
pub mod Names
pub mod Rising
pub mod Stores
-- Reading and writing: laws, register images, requirement messages
pub mod Reading
pub mod Decided
pub mod ListRows
pub mod Asked
pub mod Head
pub mod Image
pub mod FractionRows
pub mod MessageTree
pub mod MessageLabel
pub mod Message
pub mod Lists
pub mod Said
pub mod ListsFit
pub mod ListsSound
pub mod ListNumbers
pub mod Writing
pub mod WriteRows
pub mod WriteOrders
-- Whole maps, subsumption and the reduced form
pub mod Whole
pub mod Under
pub mod Subsumes
pub mod Keep
pub mod Reduced
pub mod Apart
-- The degree
pub mod Best
pub mod Fraction
pub mod Lowest
pub mod Euclid
pub mod Scale
pub mod Value
pub mod Chosen
pub mod Degree
pub mod Bound
pub mod Margin
pub mod One
pub mod Written
pub mod InPlace
-- Trees as rows
pub mod Rows
-- Registers as graphs, membership, and the maps shown
pub mod Links
pub mod Judged
pub mod Agreeing
pub mod Member
pub mod Places
pub mod Picked
pub mod Kept
pub mod Table
pub mod Shown
pub mod YesShown
pub mod Answers
-- Sessions, and demand 3
pub mod SessionNames
pub mod NamesChanged
pub mod SessionLinks
pub mod SessionFacts
pub mod Refusing
pub mod SessionCalls
pub mod Behind
pub mod History
pub mod Demand3
pub mod Worked
-- Examples
pub mod Sheet
pub mod Orders
pub mod SessionOrders
pub mod MayRefuse
pub mod Bounds
pub mod Slips
