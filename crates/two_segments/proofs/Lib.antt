mod Padding
mod Ranges
