-- Definitions on the trees.
pub mod Nodes
