mod Lists
mod Scheduling
mod Calling
mod Verifying
mod Limits
