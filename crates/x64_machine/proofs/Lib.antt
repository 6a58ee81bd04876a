pub mod StepLemmas
pub mod Runs
pub mod StartLemmas
pub mod GateLemmas
pub mod MachineLemmas
