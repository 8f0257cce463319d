pub mod Frees
pub mod ReadFree
pub mod ReadTaken
pub mod Made
pub mod Numbers
pub mod Parts
pub mod Program
