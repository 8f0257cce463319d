mod Shelves
mod Telling
