pub mod Rebuilt
pub mod Stands
pub mod Keep
pub mod Each
pub mod Arguments
pub mod SameRuns
mod Only
