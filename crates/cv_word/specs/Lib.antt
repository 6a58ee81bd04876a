-- What every crate above shares: words, the memory map, memory, arithmetic and flags, heaps, the gates and the gate step.
pub mod Words
pub mod Arithmetic
pub mod MemoryMap
pub mod Memory
pub mod Marks
pub mod CallBits
pub mod Gates
pub mod Heap
pub mod GateStep
