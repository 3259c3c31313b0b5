-- What public contracts cite.
pub mod Had
pub mod Origins
pub mod InputsTold
pub mod PlaceLines
pub mod ScalingLines
pub mod WhereLines
pub mod MapLines
pub mod MapsLoaded
pub mod PlansTold
pub mod Progressing
pub mod ProgressLines
