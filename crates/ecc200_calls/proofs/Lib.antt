mod Names
pub mod Packing
pub mod Unpacking
pub mod Rows
pub mod MadeSymbols
pub mod Limits
pub mod OfGiven
pub mod Rooms
pub mod ReadContents
pub mod ContentNumbers
pub mod Written
pub mod WrittenMessages
pub mod NormalGiven
pub mod Structure
pub mod Bits
pub mod Messages
