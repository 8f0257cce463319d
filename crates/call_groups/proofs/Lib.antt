pub mod Leads
pub mod Lists
pub mod Marks
pub mod Ordered
pub mod Sets
pub mod Truths
