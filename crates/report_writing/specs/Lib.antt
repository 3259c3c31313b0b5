-- What public contracts cite.
pub mod Statuses
pub mod FaultLines
pub mod Quoting
pub mod Origins
pub mod Reasons
pub mod OpeningLines
pub mod Lines
pub mod Told
pub mod Writing
