pub mod TemplateEvents
pub mod Contents
pub mod Totals
pub mod Headers
pub mod InTurns
pub mod Messages
pub mod WorkedMessage
pub mod Positive
