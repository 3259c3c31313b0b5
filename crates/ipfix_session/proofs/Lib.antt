pub mod Cut
mod Counting
pub mod Giving
pub mod Chains
pub mod Texts
pub mod Accounts
pub mod Ledgers
pub mod Places
pub mod Balances
pub mod MessagesTaken
pub mod Reaching
pub mod Filling
pub mod Putting
pub mod Driving
pub mod Driven
pub mod Pieces
mod InFull
pub mod Walks
mod WholeTexts
pub mod TemplateLists
mod Limited
pub mod Unlimited
