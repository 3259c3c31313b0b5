-- What public contracts cite.
pub mod Plans
pub mod PlanFaults
pub mod Intervals
pub mod Networks
pub mod Reading
pub mod Missing
pub mod Tables
pub mod TableFaults
pub mod Partials
pub mod Fitting
pub mod Bags
pub mod SamePlans
pub mod SameTables
pub mod Totals
pub mod AddedUp
pub mod RowTotals
-- What only inner functions and proofs need.
pub mod SamePlanLaws
pub mod Rows
pub mod Words
pub mod LeftOut
pub mod Readings
pub mod Flows
pub mod Finishing
pub mod Vectors
pub mod FlatTables
