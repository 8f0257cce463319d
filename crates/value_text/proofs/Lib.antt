pub mod Earlier
pub mod Holding
pub mod Standing
mod Front
mod Moves
mod Lists
mod Stops
mod Types
mod Runs
mod Values
mod Lexed
mod States
mod Takings
mod Returned
mod Turning
mod Whole
mod OneData
mod Unfit
pub mod OneAnswer
mod Pieces
mod Elements
