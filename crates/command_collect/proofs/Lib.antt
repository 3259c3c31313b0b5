pub mod WentWell
pub mod Ran
mod LeftOut
pub mod Refused
pub mod LinesTold
pub mod Collected
pub mod Placed
pub mod Parts
pub mod ReceiptsCollected
pub mod Written
pub mod Sums
pub mod Lists
pub mod Refusals
pub mod Complete
pub mod Hindered
pub mod LargeLines
pub mod CellTexts
