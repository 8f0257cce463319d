pub mod Origins
pub mod Kinds
pub mod Fits
pub mod Paths
pub mod Cursors
pub mod ReadCursors
pub mod ReadSpots
pub mod Walked
