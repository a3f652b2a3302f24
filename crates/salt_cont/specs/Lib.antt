pub mod Moves
pub mod MoveRows
pub mod Rests
pub mod Catalogues
pub mod Continued
pub use Rattle.salt_bytes.specs.declared.moves.Move
