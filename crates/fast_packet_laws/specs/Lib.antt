pub mod CanonicalRecordings
