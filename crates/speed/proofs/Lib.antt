mod Ending
mod Load
