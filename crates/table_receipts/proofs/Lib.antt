pub mod MemberTokens
pub mod Listing
pub mod ListReads
pub mod Same
pub mod Forms
pub mod Endings
pub mod Items
pub mod Telling
