pub mod Chains
pub mod ExprSteps
pub mod FrontSteps
pub mod Parts
pub mod Signs
pub mod TheTable
pub mod TypeSteps
