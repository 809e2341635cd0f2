mod Common
mod Opened
mod Sayings
mod Texts
mod Recordings
