-- What public contracts cite.
pub mod UntimedLines
pub mod StartsLines
pub mod TimesLines
