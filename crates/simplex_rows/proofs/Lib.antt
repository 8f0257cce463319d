pub mod Differing
pub mod Pointwise
mod Fronts
pub mod Finding
mod FewFinding
pub mod Wholes
mod FewAppending
mod FewMerging
mod FewCombining
mod Divisors
mod FewDividing
pub mod Appending
mod Walking
mod Quotients
mod Products
pub mod Sweeping
pub mod Overs
pub mod ShortLaws
pub mod ShortReads
pub mod ShortSweeps
pub mod ShortTells
pub mod Widening
mod Sharing
pub mod ManyPlaces
mod ManyChanging
mod ManyListing
mod ManyDividing
mod ManyReaching
mod Narrowing
mod ManyCombining
pub mod Pushing
pub mod Likewise
