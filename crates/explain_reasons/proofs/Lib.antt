mod Calling
mod Listing
mod Running
