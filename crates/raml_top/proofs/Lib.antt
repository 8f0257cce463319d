mod Reporting
mod Bounding
mod Causes
mod Pricing
mod Comparing
mod Declaring
