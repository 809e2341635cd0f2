pub mod Canonicalised
pub mod Headline
