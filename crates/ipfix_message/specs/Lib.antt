-- What public contracts cite.
pub mod Outcome
pub mod Faults
pub mod Fields
pub mod SpelledFields
pub mod FieldViews
pub mod DataRecords
pub mod WrittenTemplates
pub mod TemplateMessages
pub mod TemplateRecords
pub mod TemplatesInForce
pub mod Sets
pub mod Messages
pub mod Domains
pub mod TemplateLimits
pub mod Alike
-- What only inner functions and proofs need.
pub mod Layouts
pub mod Spots
pub mod SetRecords
pub mod KeptFields
pub mod AppendedFields
pub mod Held
pub mod Kept
