pub mod Longer
mod Telling
