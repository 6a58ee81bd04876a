pub mod Bytes
mod Registers
mod Sides
mod Rows
mod Items
mod Units
mod Checks
mod Landing
mod GateSteps
mod Steps
mod Runs
mod Law
