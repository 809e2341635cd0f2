pub mod Showings
mod Shapes
