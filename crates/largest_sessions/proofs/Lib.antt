pub mod LeftAlike
pub mod PlaceOrder
pub mod Rests
pub mod FirstRows
pub mod Steps
pub mod SessionTables
