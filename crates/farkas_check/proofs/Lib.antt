mod Splitting
mod Carrying
mod Unrolling
mod Judging
mod Joining
pub mod Firsts
mod Checklists
mod Spreading
pub mod Meaning
mod Walking
mod Short
