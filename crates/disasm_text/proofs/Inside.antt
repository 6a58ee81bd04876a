-- The items of a chain lie in what it goes over.
use Rattle.std.proofs.Common.{ℕ, ◌+◌, ◌≤◌, List, [], ◌∷◌, length, arith}
use Rattle.std.specs.Prelude.{All}
use Rattle.std.proofs.lemmas.List.Elements.{All-nil, All-cons}
use Rattle.code_sweep.specs.declared.item.Placed.{Placed}
use Rattle.code_sweep.specs.Listing.{IsChain, IsListing}
use Rattle.disasm_text.specs.ListingText.{LiesInside}

-- a chain leads forward
chain_forward : (prefix code : List ℕ) (items : List Placed) (from to : ℕ) → IsChain prefix code items from to → from ≤ to
chain_forward prefix code [] from to chain = omega arith
chain_forward prefix code (p ∷ ps) from to chain =
    let rest : from + p.len ≤ to = chain_forward prefix code ps (from + p.len) to chain.3 in omega arith

-- each item ends where the chain does, or before
abbrev EndsBy : ℕ → Placed → Type 0
EndsBy to p = p.at + p.len ≤ to

chain_inside : (prefix code : List ℕ) (items : List Placed) (from to : ℕ) → IsChain prefix code items from to → All (EndsBy to) items
chain_inside prefix code [] from to chain = All-nil (EndsBy to)
chain_inside prefix code (p ∷ ps) from to chain =
    let rest : from + p.len ≤ to = chain_forward prefix code ps (from + p.len) to chain.3 in
    let first : p.at + p.len ≤ to = omega arith in
    All-cons (EndsBy to) p ps first (chain_inside prefix code ps (from + p.len) to chain.3)

pub listing_inside : (prefix code : List ℕ) (items : List Placed) → IsListing prefix code items → All (LiesInside code) items
listing_inside prefix code items listing = chain_inside prefix code items 0 (length code) listing
