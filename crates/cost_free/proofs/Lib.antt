mod Least
mod Called
pub mod Components
pub mod Sets
pub mod Cuts
pub mod Low
pub mod Put
pub mod First
pub mod Listed
pub mod GroupTasks
pub mod Steps
pub mod Course
pub mod Results
pub mod Passing
