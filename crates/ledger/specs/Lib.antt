pub mod Sentence
pub mod Tells
pub mod Books
pub mod Room
pub mod Ready
