pub mod Data
