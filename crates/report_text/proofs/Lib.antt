pub mod HaveText
pub mod Joined
