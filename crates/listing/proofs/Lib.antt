pub mod Items
pub mod Pieces
pub mod NoRefusals
