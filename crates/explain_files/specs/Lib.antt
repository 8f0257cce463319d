pub mod Shelves
pub mod MemShelf
