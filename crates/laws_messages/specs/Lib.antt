-- What public contracts cite.
pub mod WholeMessages
pub mod WorkedExample
