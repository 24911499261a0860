-- An image and a message that were read.
-- Assumes nothing.
use Rattle.std.specs.Prelude.{◌≡◌, List, ℕ, ◌≤◌, length}
use Rattle.meaning.specs.Bounds.{most_levels, most_thresholds}
use Rattle.meaning.specs.Refusal.{good}
use Rattle.meaning.specs.Register.{Register, read_register}
use Rattle.meaning.specs.Requirement.{Requirement, bare}
use Rattle.meaning.specs.Message.{Part, read_requirement}
use Rattle.register.specs.Image.{OfSize}
use Rattle.graph.specs.Posed.{Posed}
use Rattle.rows.specs.Packed.{names_in, roles_in, ends_in}
use Rattle.readers.specs.Reading.{PartsHeld}

-- a whole image, of so many items and links
pub record Imaged (image : List ℕ) (items links : ℕ) : Type 0 where
  pub register : Register
  pub read : read_register image ≡ good register
  pub items-are : items ≡ length register.names
  pub links-are : links ≡ length register.links

pub record BothRead (image : List ℕ) (items links : ℕ) (message packed : List ℕ) (parts : ℕ) : Type 0 where
  pub requirement : Requirement
  pub posed : Posed (OfSize image items links) (names_in packed) (roles_in packed) (ends_in packed) (bare requirement) 0 most_levels
  pub whole : read_register image ≡ good posed.graph.register
  pub places : List Part
  pub wanted : read_requirement message ≡ good (requirement, places)
  pub parts_are : parts ≡ length places
  pub most : parts ≤ most_thresholds
  pub parted : PartsHeld packed places
