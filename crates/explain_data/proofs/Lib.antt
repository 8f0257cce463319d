mod Calling
mod Telling
