mod Shifts
mod Words
