-- What an assignment is and which one is the least, and what a leak and its chain are: the first three files. The others speak
-- of the search that finds them, and no public contract cites them.
pub mod Assignments
pub mod Leaks
pub mod Answers
pub mod Distances
pub mod Graphs
pub mod Ends
