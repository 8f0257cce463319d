pub mod Members
pub mod Pushed
pub mod SourceNumbers
pub mod NormalParts
