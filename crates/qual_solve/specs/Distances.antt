-- Distances in a graph. Arrow number i leads from the node that `near` has at i to the node that `far` has at i. A node is
-- reached where its distance is below `unreached`.
use Rattle.std.specs.Prelude.{◌≡◌, ◌≢◌, ℕ, ◌+◌, ◌-◌, ◌<◌, ◌≤◌, ◌==◌, List, length, slice_index, count_by}

-- the index of the first `count` arrows: `last` at a node is one above the number of the last arrow that leaves it, or 0 where
-- none does; `before` at an arrow is the same for the arrows below it that leave the same node
pub record IsIndexed (near : List ℕ) (count : ℕ) (last before : List ℕ) : Type 0 where
  pub each : length before ≡ count
  pub within : (node : ℕ) → node < length last → slice_index last node ≤ count
  pub all : (arrow : ℕ) → arrow < count → arrow < slice_index last (slice_index near arrow)
  pub there : (node : ℕ) → node < length last → 0 < slice_index last node → slice_index near (slice_index last node - 1) ≡ node
  pub lower : (arrow : ℕ) → arrow < count → slice_index before arrow ≤ arrow
  pub none : (arrow between : ℕ) → arrow < count → slice_index before arrow ≤ between → between < arrow →
      slice_index near between ≡ slice_index near arrow → ⊥
  pub same : (arrow : ℕ) → arrow < count → 0 < slice_index before arrow →
      slice_index near (slice_index before arrow - 1) ≡ slice_index near arrow

-- an arrow that leads to a node from one that is a step nearer
pub record IsStep (near far distances : List ℕ) (node arrow : ℕ) : Type 0 where
  pub within : arrow < length near
  pub leads : slice_index far arrow ≡ node
  pub nearer : slice_index distances (slice_index near arrow) + 1 ≡ slice_index distances node

-- an arrow from a node was followed: where it leads is reached, and at most a step further
pub record IsFollowed (far : List ℕ) (unreached : ℕ) (distances : List ℕ) (node arrow : ℕ) : Type 0 where
  pub reached : slice_index distances (slice_index far arrow) < unreached
  pub near_by : slice_index distances (slice_index far arrow) ≤ slice_index distances node + 1

-- the least number of arrows from a start to each node: an arrow leads at most one step further, and each node that is reached
-- but the start has an arrow that leads there from a step nearer
pub record AreDistances (near far : List ℕ) (start unreached : ℕ) (distances : List ℕ) : Type 0 where
  pub start_at : slice_index distances start ≡ 0
  pub only_start : (node : ℕ) → node < length distances → slice_index distances node ≡ 0 → node ≡ start
  pub followed : (arrow : ℕ) → arrow < length near → slice_index distances (slice_index near arrow) < unreached →
      IsFollowed far unreached distances (slice_index near arrow) arrow
  pub step : (node : ℕ) → node < length distances → 0 < slice_index distances node → slice_index distances node < unreached →
      (arrow : ℕ) × IsStep near far distances node arrow

-- a search in mid-way: `order` has each node that is reached, nearest first; the arrows of those at places below `head` were
-- followed; no node that is reached is more than one step further than the one at `head`
pub record IsSearch (near far : List ℕ) (start unreached : ℕ) (distances order : List ℕ) (head : ℕ) : Type 0 where
  pub bound : length distances ≤ unreached
  pub count : length order + count_by (λ distance. distance == unreached) distances ≡ length distances
  pub start_at : slice_index distances start ≡ 0
  pub only_start : (node : ℕ) → node < length distances → slice_index distances node ≡ 0 → node ≡ start
  pub step : (node : ℕ) → node < length distances → 0 < slice_index distances node → slice_index distances node < unreached →
      (arrow : ℕ) × IsStep near far distances node arrow
  pub nodes : (i : ℕ) → i < length order → slice_index order i < length distances
  pub small : (i : ℕ) → i < length order → slice_index distances (slice_index order i) ≤ i
  pub found : (node : ℕ) → node < length distances → slice_index distances node ≢ unreached → (i : ℕ) × (i < length order) × (slice_index order i ≡ node)
  pub sorted : (i j : ℕ) → i ≤ j → j < length order → slice_index distances (slice_index order i) ≤ slice_index distances (slice_index order j)
  pub close : (j : ℕ) → j < length order → head < length order →
      slice_index distances (slice_index order j) ≤ slice_index distances (slice_index order head) + 1
  pub followed : (i arrow : ℕ) → i < head → i < length order → arrow < length near → slice_index near arrow ≡ slice_index order i →
      IsFollowed far unreached distances (slice_index order i) arrow

-- at each node that an arrow leads to from one a step nearer, the number of the first such arrow
pub record AreNext (near far distances next : List ℕ) : Type 0 where
  pub step : (node arrow : ℕ) → IsStep near far distances node arrow → IsStep near far distances node (slice_index next node)
  pub first : (node arrow : ℕ) → IsStep near far distances node arrow → slice_index next node ≤ arrow
