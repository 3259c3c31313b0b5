-- What public contracts cite.
pub mod SamplingLines
pub mod SpotlessSampling
