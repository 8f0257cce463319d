pub mod Words
pub mod Sorting
pub mod Asked
pub mod Laws
pub mod Apps
pub mod Clapped
pub mod Made
