pub mod AsIf
