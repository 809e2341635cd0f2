mod Common
mod CommandLines
mod Words
