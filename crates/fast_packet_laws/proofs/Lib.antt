pub mod CanonicalOnes
pub mod CanonicalLaws
