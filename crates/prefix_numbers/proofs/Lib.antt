mod Ascending
mod Decimals
mod KnownKeys
mod LinesRead
mod LongestRows
mod MapsMade
mod SpansOf
mod StepsOf
