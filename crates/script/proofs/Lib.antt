mod Printing
mod Reading
mod Rounds
mod Inverse
