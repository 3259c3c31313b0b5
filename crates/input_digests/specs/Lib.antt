-- What public contracts cite.
pub mod FrontDigests
pub mod HashedTexts
