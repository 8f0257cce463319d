pub mod Raised
pub mod Over
pub mod Bounding
pub mod Exactly
pub mod Keeping
pub mod Totals
pub mod Multiplied
pub mod Rising
