-- The laws of two runs.
pub use Rattle.x64_machine.specs.Run
pub use Rattle.x64_machine.specs.Start
pub use Rattle.x64_machine.specs.Noninterference
pub use Rattle.conf_verify.specs.Verdict
pub mod Agreement
