pub mod FlowBags
pub mod GivenAll
