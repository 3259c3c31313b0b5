mod Again
mod Bits
mod Blaming
mod Kept
mod Listed
mod Slashes
mod Told
mod Values
