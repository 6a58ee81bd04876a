-- A breadth-first search over plain lists: what one arrow changes, and what is known at the end.
use Rattle.std.proofs.Common.{◌≡◌, ◌≢◌, ℕ, ◌+◌, ◌-◌, ◌<◌, ◌≤◌, inl, inr, Bool, true, false, cond, eqb, List, [], ◌∷◌, ◌++◌, length, get_or, set, count_by, sum_by, refl, sym, ◌∙◌, ap, subst, arith, length-append, All}
use Rattle.std.proofs.lemmas.Bool.{cases_eq, cases_lt, cases_Bool, eq-eqb, ne_eqb, eqb-true, eqb-false}
use Rattle.std.proofs.lemmas.List.{get_or-set_same, get_or-set_other, get_or_append_left, get_or-append_right, length-set}
use Rattle.std.proofs.lemmas.List.Sums.{sum_by-set}
use Rattle.qual_solve.proofs.Places.{Place, old, last, place_of}
use Rattle.qual_solve.specs.Distances.{IsIndexed, IsFollowed, AreDistances, IsSearch}

-- ---- counting

-- one item fewer passes a test
count_less : (p : ℕ → Bool) (xs : List ℕ) (i y : ℕ) → i < length xs → p (get_or xs i 0) ≡ true → p y ≡ false →
    count_by p (set xs i y) + 1 ≡ count_by p xs
count_less p xs i y lt passes fails =
    let f : ℕ → ℕ = λ x. cond (p x) 1 0 in
    let h = sum_by-set f xs i y 0 lt in
    let one : f (get_or xs i 0) ≡ 1 = ap (λ b. cond b 1 0) passes in
    let none : f y ≡ 0 = ap (λ b. cond b 1 0) fails in
    let before : count_by p xs ≡ sum_by f xs = refl in
    let after : count_by p (set xs i y) ≡ sum_by f (set xs i y) = refl in
    omega (arith, h, one, none, before, after)

abbrev is : ℕ → ℕ → Bool
is unreached = λ distance. eqb distance unreached

-- ---- one arrow

-- what holds after the arrow of a node at the head of the order was followed
pub record Follows (near far : List ℕ) (start unreached : ℕ) (distances order : List ℕ) (head node arrow : ℕ) (distances' order' : List ℕ) : Type 0 where
  pub is_search : IsSearch near far start unreached distances' order' head
  pub followed : IsFollowed far unreached distances' node arrow
  pub kept : (other : ℕ) → get_or distances other 0 ≢ unreached → get_or distances' other 0 ≡ get_or distances other 0
  pub at_head : get_or order' head 0 ≡ node
  pub longer : head < length order'
  pub nodes : length distances' ≡ length distances

-- a node that is reached is nearer than all nodes together
below_of : (near far : List ℕ) (start unreached : ℕ) (distances order : List ℕ) (head node : ℕ) →
    IsSearch near far start unreached distances order head → node < length distances → get_or distances node 0 ≢ unreached →
    get_or distances node 0 < length order
below_of near far start unreached distances order head node s inside ne =
    let at = s.found node inside ne in
    let small = s.small at.0 at.1 in
    let same : get_or distances (get_or order at.0 0) 0 ≡ get_or distances node 0 = ap (λ n. get_or distances n 0) at.2 in
    omega (arith, same, small, at.1)

order_short : (near far : List ℕ) (start unreached : ℕ) (distances order : List ℕ) (head : ℕ) →
    IsSearch near far start unreached distances order head → length order ≤ unreached
order_short near far start unreached distances order head s = omega (arith, s.count, s.bound)

-- the node at the head is reached
pub head_few : (near far : List ℕ) (start unreached : ℕ) (distances order : List ℕ) (head node : ℕ) →
    IsSearch near far start unreached distances order head → head < length order → get_or order head 0 ≡ node →
    get_or distances node 0 < unreached
head_few near far start unreached distances order head node s lt e =
    let small = s.small head lt in
    let here : get_or distances (get_or order head 0) 0 ≡ get_or distances node 0 = ap (λ n. get_or distances n 0) e in
    let short = order_short near far start unreached distances order head s in
    omega arith

-- the arrow leads to a node that is reached already
follows_none : (near far : List ℕ) (start unreached : ℕ) (distances order : List ℕ) (head node arrow : ℕ) →
    IsSearch near far start unreached distances order head → head < length order → get_or order head 0 ≡ node →
    get_or far arrow 0 < length distances → get_or distances (get_or far arrow 0) 0 ≢ unreached →
    Follows near far start unreached distances order head node arrow distances order
follows_none near far start unreached distances order head node arrow s lt e inside ne =
    let at = s.found (get_or far arrow 0) inside ne in
    let close = s.close at.0 at.1 lt in
    let same : get_or distances (get_or order at.0 0) 0 ≡ get_or distances (get_or far arrow 0) 0 = ap (λ n. get_or distances n 0) at.2 in
    let here : get_or distances (get_or order head 0) 0 ≡ get_or distances node 0 = ap (λ n. get_or distances n 0) e in
    let below = below_of near far start unreached distances order head (get_or far arrow 0) s inside ne in
    let short = order_short near far start unreached distances order head s in
    record {
      is_search = s;
      followed = record { reached = omega (arith, below, short); near_by = omega (arith, close, same, here) };
      kept = λ other h. refl;
      at_head = e;
      longer = lt;
      nodes = refl;
    }

-- ---- the arrow leads to a node that isn't reached yet

-- all that is fixed there
record Reaches (near far : List ℕ) (start unreached : ℕ) (distances order : List ℕ) (head node arrow to : ℕ) : Type 0 where
  s : IsSearch near far start unreached distances order head
  lt : head < length order
  at_head : get_or order head 0 ≡ node
  within : arrow < length near
  leaves : get_or near arrow 0 ≡ node
  leads : get_or far arrow 0 ≡ to
  inside : to < length distances
  new : get_or distances to 0 ≡ unreached

-- the node's distance is small, and there is room for one more
record Room (unreached : ℕ) (distances order : List ℕ) (head node : ℕ) : Type 0 where
  low : get_or distances node 0 ≤ head
  room : length order < length distances
  next : get_or distances node 0 + 1 < unreached

room_of : (near far : List ℕ) (start unreached : ℕ) (distances order : List ℕ) (head node arrow to : ℕ) →
    Reaches near far start unreached distances order head node arrow to → Room unreached distances order head node
room_of near far start unreached distances order head node arrow to r =
    let some = count_less (is unreached) distances to (unreached + 1) r.inside (eq-eqb _ _ r.new) (ne_eqb (unreached + 1) unreached (λ e. omega (arith, e))) in
    let here : get_or distances (get_or order head 0) 0 ≡ get_or distances node 0 = ap (λ n. get_or distances n 0) r.at_head in
    let small = r.s.small head r.lt in
    let count = r.s.count in
    let bound = r.s.bound in
    let lt = r.lt in
    record { low = omega arith; room = omega arith; next = omega arith }

-- the distances that were known stay
kept_at : (near far : List ℕ) (start unreached : ℕ) (distances order : List ℕ) (head node arrow to : ℕ) →
    Reaches near far start unreached distances order head node arrow to →
    (other y : ℕ) → get_or distances other 0 ≢ unreached → get_or (set distances to y) other 0 ≡ get_or distances other 0
kept_at near far start unreached distances order head node arrow to r other y ne =
    let apart : other ≢ to = λ same. ne (ap (λ n. get_or distances n 0) same ∙ r.new) in
    get_or-set_other distances to other y 0 apart

-- the distances of nodes in the order stay
kept_in : (near far : List ℕ) (start unreached : ℕ) (distances order : List ℕ) (head node arrow to : ℕ) →
    Reaches near far start unreached distances order head node arrow to →
    (i y : ℕ) → i < length order → get_or (set distances to y) (get_or order i 0) 0 ≡ get_or distances (get_or order i 0) 0
kept_in near far start unreached distances order head node arrow to r i y lt =
    let small = r.s.small i lt in
    let short = order_short near far start unreached distances order head r.s in
    kept_at near far start unreached distances order head node arrow to r (get_or order i 0) y (λ e. omega (arith, e))

follows_new : (near far : List ℕ) (start unreached : ℕ) (distances order : List ℕ) (head node arrow to : ℕ) →
    Reaches near far start unreached distances order head node arrow to →
    Follows near far start unreached distances order head node arrow (set distances to (get_or distances node 0 + 1)) (order ++ to ∷ [])
follows_new near far start unreached distances order head node arrow to r =
    let y = get_or distances node 0 + 1 in
    let distances' = set distances to y in
    let order' = order ++ to ∷ [] in
    let room = room_of near far start unreached distances order head node arrow to r in
    let stays = kept_at near far start unreached distances order head node arrow to r in
    let stands = kept_in near far start unreached distances order head node arrow to r in
    let here : get_or distances' to 0 ≡ y = get_or-set_same distances to y 0 r.inside in
    let long : length distances' ≡ length distances = length-set distances to y in
    let longer : length order' ≡ length order + 1 = length-append order (to ∷ []) in
    let short = order_short near far start unreached distances order head r.s in
    let lt = r.lt in
    let node_ne : get_or distances node 0 ≢ unreached = λ e. omega (arith, room.next) in
    let gone : length order - length order ≡ 0 = omega arith in
    let node_stays : get_or distances' node 0 ≡ get_or distances node 0 = stays node y node_ne in
    let leads : get_or distances' (get_or far arrow 0) 0 ≡ y = ap (λ n. get_or distances' n 0) r.leads ∙ here in
    let at : (i : ℕ) → i < length order' → Place order to i = λ i h. place_of order to i h in
    let head_is : get_or order' head 0 ≡ node = get_or_append_left order (to ∷ []) 0 head lt ∙ r.at_head in
    let head_old : get_or distances (get_or order head 0) 0 ≡ get_or distances node 0 = ap (λ n. get_or distances n 0) r.at_head in
    let head_new : get_or distances' (get_or order' head 0) 0 ≡ get_or distances node 0 = ap (λ n. get_or distances' n 0) head_is ∙ node_stays in
    let at_old : (i : ℕ) → i < length order → get_or order' i 0 ≡ get_or order i 0 → get_or distances' (get_or order' i 0) 0 ≡ get_or distances (get_or order i 0) 0 =
    λ i below e. ap (λ n. get_or distances' n 0) e ∙ stands i y below in
    let at_new : (i : ℕ) → get_or order' i 0 ≡ to → get_or distances' (get_or order' i 0) 0 ≡ y =
    λ i e. ap (λ n. get_or distances' n 0) e ∙ here in
    record {
      is_search = record {
        bound = omega (arith, long, r.s.bound);
        count =
            let less = count_less (is unreached) distances to y r.inside (eq-eqb _ _ r.new) (ne_eqb y unreached (λ e. omega (arith, room.next, e))) in
            omega (arith, less, long, longer, r.s.count);
        start_at = stays start y (λ e. omega (arith, e, r.s.start_at, room.next)) ∙ r.s.start_at;
        only_start = λ other h zero. elim (cases_eq other to) [
          | inl same ↦ absurd (omega (arith, ap (λ n. get_or distances' n 0) same, here, zero))
          | inr ne ↦ r.s.only_start other (omega (arith, long)) (sym (get_or-set_other distances to other y 0 ne) ∙ zero)
        ];
        step = λ other h some few. elim (cases_eq other to) [
          | inl same ↦ (
            arrow,
            record {
              within = r.within;
              leads = r.leads ∙ sym same;
              nearer = ap (λ n. get_or distances' n 0 + 1) r.leaves ∙ ap (λ n. n + 1) node_stays ∙ sym here ∙ sym (ap (λ n. get_or distances' n 0) same);
            },
          )
          | inr ne ↦
              let kept : get_or distances' other 0 ≡ get_or distances other 0 = get_or-set_other distances to other y 0 ne in
              let step = r.s.step other (omega (arith, long)) (omega (arith, kept)) (omega (arith, kept)) in
              let nearer = step.1.nearer in
              let near_stays = stays (get_or near step.0 0) y (λ e. omega (arith, e, nearer, kept, few)) in (
                step.0,
                record {
                  within = step.1.within;
                  leads = step.1.leads;
                  nearer = ap (λ n. n + 1) near_stays ∙ nearer ∙ sym kept;
                },
              )
        ];
        nodes = λ i h. elim (at i h) [
          | old below e ↦ omega (arith, e, r.s.nodes i below, long)
          | last top e ↦ omega (arith, e, r.inside, long)
        ];
        small = λ i h. elim (at i h) [
          | old below e ↦ omega (arith, at_old i below e, r.s.small i below)
          | last top e ↦ omega (arith, at_new i e, top, room.low)
        ];
        found = λ other h ne. elim (cases_eq other to) [
          | inl same ↦ (length order, omega (arith, longer), get_or-append_right order (to ∷ []) (length order) (length order) 0 refl (omega arith) ∙ ap (λ k. get_or (to ∷ []) k 0) gone ∙ sym same)
          | inr apart ↦
              let kept : get_or distances' other 0 ≡ get_or distances other 0 = get_or-set_other distances to other y 0 apart in
              let place = r.s.found other (omega (arith, long)) (λ e. ne (kept ∙ e)) in
              (place.0, omega (arith, longer, place.1), get_or_append_left order (to ∷ []) 0 place.0 place.1 ∙ place.2)
        ];
        sorted = λ i j le h. elim (at j h) [
          | old below e ↦ elim (at i (omega (arith, longer))) [
            | old below_i e_i ↦ omega (arith, at_old i below_i e_i, at_old j below e, r.s.sorted i j le below)
            | last top e_i ↦ absurd (omega arith)
          ]
          | last top e ↦ elim (at i (omega arith)) [
            | old below_i e_i ↦ omega (arith, at_old i below_i e_i, at_new j e, r.s.close i below_i lt, head_old)
            | last top_i e_i ↦ omega (arith, at_new i e_i, at_new j e)
          ]
        ];
        close = λ j h head_lt. elim (at j h) [
          | old below e ↦ omega (arith, at_old j below e, r.s.close j below lt, head_old, head_new)
          | last top e ↦ omega (arith, at_new j e, head_new)
        ];
        followed = λ i other h h' other_lt leaves.
            let below : i < length order = omega (arith, lt) in
            let e : get_or order' i 0 ≡ get_or order i 0 = get_or_append_left order (to ∷ []) 0 i below in
            let was = r.s.followed i other h below other_lt (leaves ∙ e) in
            let reached = was.reached in
            let near_by = was.near_by in
            let far_stays = stays (get_or far other 0) y (λ e. omega (arith, e, reached)) in
            record { reached = omega (arith, far_stays, reached); near_by = omega (arith, far_stays, near_by, at_old i below e) };
      };
      followed = record { reached = omega (arith, leads, room.next); near_by = omega (arith, leads, node_stays) };
      kept = λ other h. stays other y h;
      at_head = head_is;
      longer = omega (arith, longer);
      nodes = long;
    }

-- ---- as the code has it

-- the step of the code: to a node that isn't reached a distance is written, and it joins the order
pub follows : (near far : List ℕ) (start unreached : ℕ) (distances order distances' order' : List ℕ) (head node arrow to : ℕ) →
    IsSearch near far start unreached distances order head → head < length order → get_or order head 0 ≡ node →
    arrow < length near → get_or near arrow 0 ≡ node → get_or far arrow 0 ≡ to → to < length distances →
    distances' ≡ cond (eqb (get_or distances to 0) unreached) (set distances to (get_or distances node 0 + 1)) distances →
    order' ≡ cond (eqb (get_or distances to 0) unreached) (order ++ to ∷ []) order →
    Follows near far start unreached distances order head node arrow distances' order'
follows near far start unreached distances order distances' order' head node arrow to s lt at_head within leaves leads inside new_d new_o =
    elim (cases_Bool (eqb (get_or distances to 0) unreached)) [
      | inl passes ↦
          let d : distances' ≡ set distances to (get_or distances node 0 + 1) = new_d ∙ ap (λ b. cond b (set distances to (get_or distances node 0 + 1)) distances) passes in
          let o : order' ≡ order ++ to ∷ [] = new_o ∙ ap (λ b. cond b (order ++ to ∷ []) order) passes in
          let P : List ℕ → Type 0 = λ x. Follows near far start unreached distances order head node arrow x order' in
          let Q : List ℕ → Type 0 = λ x. Follows near far start unreached distances order head node arrow (set distances to (get_or distances node 0 + 1)) x in
          subst P (sym d) (subst Q (sym o) (follows_new near far start unreached distances order head node arrow to (record {
            s = s;
            lt = lt;
            at_head = at_head;
            within = within;
            leaves = leaves;
            leads = leads;
            inside = inside;
            new = eqb-true _ _ passes;
          })))
      | inr fails ↦
          let d : distances' ≡ distances = new_d ∙ ap (λ b. cond b (set distances to (get_or distances node 0 + 1)) distances) fails in
          let o : order' ≡ order = new_o ∙ ap (λ b. cond b (order ++ to ∷ []) order) fails in
          let P : List ℕ → Type 0 = λ x. Follows near far start unreached distances order head node arrow x order' in
          let Q : List ℕ → Type 0 = λ x. Follows near far start unreached distances order head node arrow distances x in
          let ne : get_or distances to 0 ≢ unreached = eqb-false _ _ fails in
          let R : ℕ → Type 0 = λ n. n < length distances in
          let S : ℕ → Type 0 = λ n. get_or distances n 0 ≢ unreached in
          subst P (sym d) (subst Q (sym o) (follows_none near far start unreached distances order head node arrow s lt at_head
          (subst R (sym leads) inside) (subst S (sym leads) ne)))
    ]

-- the arrows of a node at or above a bound were followed
abbrev pub AreFollowed : List ℕ → List ℕ → ℕ → List ℕ → ℕ → ℕ → Type 0
AreFollowed near far unreached distances node bound =
    (arrow : ℕ) → bound ≤ arrow → arrow < length near → get_or near arrow 0 ≡ node → IsFollowed far unreached distances node arrow

-- in the middle of a node's arrows: those at or above the bound were followed
pub record InMiddle (near far : List ℕ) (start unreached : ℕ) (distances order : List ℕ) (head node bound : ℕ) : Type 0 where
  pub is_search : IsSearch near far start unreached distances order head
  pub at_head : get_or order head 0 ≡ node
  pub longer : head < length order
  pub followed : AreFollowed near far unreached distances node bound
  pub below : bound ≤ length near
  pub there : 0 < bound → get_or near (bound - 1) 0 ≡ node

-- before the first of them
pub middle_begins : (near far upto before : List ℕ) (start unreached : ℕ) (distances order : List ℕ) (head node : ℕ) →
    IsIndexed near (length near) upto before → IsSearch near far start unreached distances order head →
    head < length order → get_or order head 0 ≡ node → length distances ≡ length upto →
    InMiddle near far start unreached distances order head node (get_or upto node 0)
middle_begins near far upto before start unreached distances order head node is s lt e size =
    let inside : node < length upto = omega (arith, s.nodes head lt) in
    record {
      is_search = s;
      at_head = e;
      longer = lt;
      followed = λ arrow high within leaves.
          let all = is.all arrow within in
          let same : get_or upto (get_or near arrow 0) 0 ≡ get_or upto node 0 = ap (λ n. get_or upto n 0) leaves in
          absurd (omega arith);
      below = is.within node inside;
      there = λ some. is.there node inside some;
    }

-- after one more
pub middle_goes_on : (near far upto before : List ℕ) (start unreached : ℕ) (distances order distances' order' : List ℕ) (head node bound : ℕ) →
    IsIndexed near (length near) upto before → InMiddle near far start unreached distances order head node bound → 0 < bound →
    Follows near far start unreached distances order head node (bound - 1) distances' order' →
    InMiddle near far start unreached distances' order' head node (get_or before (bound - 1) 0)
middle_goes_on near far upto before start unreached distances order distances' order' head node bound is m some f =
    let within : bound - 1 < length near = omega (arith, m.below) in
    let lower = is.lower (bound - 1) within in
    let leaves = m.there some in
    let node_few : get_or distances node 0 < unreached = head_few near far start unreached distances order head node m.is_search m.longer m.at_head in
    record {
      is_search = f.is_search;
      at_head = f.at_head;
      longer = f.longer;
      followed = λ arrow high arrow_within arrow_leaves. elim (cases_lt arrow (bound - 1)) [
        | inl low ↦ absurd (is.none (bound - 1) arrow within high low (arrow_leaves ∙ sym leaves))
        | inr up ↦ elim (cases_eq arrow (bound - 1)) [
          | inl same ↦ let P : ℕ → Type 0 = λ a. IsFollowed far unreached distances' node a in subst P (sym same) f.followed
          | inr ne ↦
              let was = m.followed arrow (omega arith) arrow_within arrow_leaves in
              let reached = was.reached in
              let near_by = was.near_by in
              let far_stays = f.kept (get_or far arrow 0) (λ e. omega (arith, e, reached)) in
              let node_stays : get_or distances' node 0 ≡ get_or distances node 0 = f.kept node (λ e. omega (arith, e, node_few)) in
              record { reached = omega (arith, far_stays, reached); near_by = omega (arith, far_stays, node_stays, near_by) }
        ]
      ];
      below = omega (arith, lower, m.below);
      there = λ above. is.same (bound - 1) within above ∙ leaves;
    }

-- after the last of them the head goes on
pub middle_ends : (near far : List ℕ) (start unreached : ℕ) (distances order : List ℕ) (head node bound : ℕ) →
    InMiddle near far start unreached distances order head node bound → bound ≡ 0 →
    IsSearch near far start unreached distances order (head + 1)
middle_ends near far start unreached distances order head node bound m none =
    let s = m.is_search in
    let lt = m.longer in
    record {
      bound = s.bound;
      count = s.count;
      start_at = s.start_at;
      only_start = s.only_start;
      step = s.step;
      nodes = s.nodes;
      small = s.small;
      found = s.found;
      sorted = s.sorted;
      close = λ j h next. omega (arith, s.close j h lt, s.sorted head (head + 1) (omega arith) next);
      followed = λ i arrow h h' within leaves. elim (cases_eq i head) [
        | inl same ↦
            let here : get_or order i 0 ≡ node = ap (λ n. get_or order n 0) same ∙ m.at_head in
            let P : ℕ → Type 0 = λ n. IsFollowed far unreached distances n arrow in
            subst P (sym here) (m.followed arrow (omega (arith, none)) within (leaves ∙ here))
        | inr ne ↦ s.followed i arrow (omega arith) h' within leaves
      ];
    }

-- a search whose order is at its end has found the distances
pub search_ends : (near far : List ℕ) (start unreached : ℕ) (distances order : List ℕ) (head : ℕ) →
    IsSearch near far start unreached distances order head → length order ≤ head →
    All (λ node. node < length distances) near → AreDistances near far start unreached distances
search_ends near far start unreached distances order head s le inside = record {
  start_at = s.start_at;
  only_start = s.only_start;
  followed = λ arrow within few.
      let place = s.found (get_or near arrow 0) (inside arrow 0 within) (λ e. omega (arith, e)) in
      let P : ℕ → Type 0 = λ n. IsFollowed far unreached distances n arrow in
      subst P place.2 (s.followed place.0 arrow (omega (arith, place.1)) place.1 within (sym place.2));
  step = s.step;
}
