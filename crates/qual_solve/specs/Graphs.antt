-- The graph and the search of the code, by their lists.
use Rattle.std.specs.Prelude.{◌≡◌, ℕ, ◌<◌, List, length, All}
use Rattle.qual_solve.specs.declared.graph.Graph.{Graph}
use Rattle.qual_solve.specs.declared.search.Search.{Search}
use Rattle.qual_solve.specs.Distances.{IsIndexed, IsSearch}

-- a graph of so many nodes with these arrows, and the index of those that leave each node
pub record IsGraph (nodes : ℕ) (near far : List ℕ) (graph : Graph) : Type 0 where
  pub near_is : graph.near.items ≡ near
  pub far_is : graph.far.items ≡ far
  pub pairs : length far ≡ length near
  pub near_within : All (λ node. node < nodes) near
  pub far_within : All (λ node. node < nodes) far
  pub indexed : IsIndexed near (length near) graph.index.last.items graph.index.before.items
  pub nodes_is : length graph.index.last.items ≡ nodes

-- a graph with the arrows that it has
abbrev pub IsWhole : Graph → Type 0
IsWhole graph = IsGraph (length graph.index.last.items) graph.near.items graph.far.items graph

-- a search of a graph in mid-way, with a distance for each node
pub record IsSearching (unreached : ℕ) (graph : Graph) (search : Search) (head : ℕ) : Type 0 where
  pub nodes : length search.distances.items ≡ length graph.index.last.items
  pub is_search : IsSearch graph.near.items graph.far.items search.start unreached search.distances.items search.order.items head
