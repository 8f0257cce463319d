mod Telling
mod Joining
mod Calling
