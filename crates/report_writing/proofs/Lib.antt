pub mod LinesTold
pub mod Numbering
pub mod Ended
