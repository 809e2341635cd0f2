mod Common
pub mod Ranges
mod NumberRelaying
mod TextRelaying
mod PlainTexts
mod DecimalRelaying
mod NullRelaying
mod VectorTexts
mod TextTaking
mod Giving
mod Standing
mod Needless
mod NumberJudging
mod DecimalJudging
mod VectorJudging
mod OneByte
mod ShortLengths
mod StringEnds
mod Undefined
mod StringJudging
mod AsciiWords
mod Utf8Steps
mod WrittenOver
mod Generally
mod TakenIntegers
mod TakenDecimals
mod TakenVectors
pub mod Telling
mod Cleared
pub mod Within
mod AtOnce
mod LevelsAlike
