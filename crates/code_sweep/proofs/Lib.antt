mod Eight
mod Begun
