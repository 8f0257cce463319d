mod Common
mod Least
