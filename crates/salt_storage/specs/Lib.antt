pub mod Storing
pub mod Answers
pub mod Writing
pub mod Staying
pub mod Netted
pub use Rattle.salt_gatelog.specs.declared.unopened.OpenErr
