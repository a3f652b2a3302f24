pub mod Id
pub mod Order
pub mod Text
pub mod Value
