-- Chains from any end, how long they are, and the one that goes by the first constraint that leads nearer.
use Rattle.std.proofs.Common.{◌≡◌, ℕ, ◌+◌, ◌<◌, ◌≤◌, inl, inr, List, [], ◌∷◌, ◌++◌, length, get_or, slice_get, Some, refl, sym, ◌∙◌, ap, subst, arith, All, append_assoc}
use Rattle.std.proofs.lemmas.Bool.{cases_order}
use Rattle.std.proofs.lemmas.Option.{slice_get_within, get_or_from_slice_get}
use Rattle.c_ast.specs.declared.qualifiers.Qual.{Qual}
use Rattle.c_ast.specs.declared.qualifiers.Qual.TheVariants.{Fixed}
use Rattle.cv_word.specs.declared.registers.Taint.TheVariants.{Priv}
use Rattle.qual_solve.specs.declared.constraint.Constraint.{Constraint}
use Rattle.qual_solve.specs.Leaks.{LeadsFrom, IsChainFrom, InOrder, ends, lower, equal, IsBestFrom}
use Rattle.qual_solve.specs.Distances.{IsStep, AreNext}
use Rattle.qual_solve.specs.Ends.{node_of, lefts_of, rights_of, AreDistancesTo, HasNodes, HasChain}
use Rattle.qual_solve.proofs.Numbered.{node_same, one_constraint, constraint_at, all_at, left_at, right_at, length_rights}

-- a chain from an end to the constraint `at`, constraint by constraint
pub data Way (list : List Constraint) (at : ℕ) : Qual → List ℕ → Type 0 where
  arrives : {end : Qual} {c : Constraint} → slice_get list at ≡ Some c → c.from ≡ end → Way list at end (at ∷ [])
  goes : {end : Qual} {n : ℕ} {c : Constraint} {rest : List ℕ} → slice_get list n ≡ Some c → c.from ≡ end →
      Way list at c.to rest → Way list at end (n ∷ rest)

-- ---- chains are ways

way_of : (list : List Constraint) (at : ℕ) (end : Qual) (chain front : List ℕ) → LeadsFrom list end chain → chain ≡ front ++ at ∷ [] → Way list at end chain
way_of list at end [] [] leads e = cc
way_of list at end [] (x ∷ front) leads e = cc
way_of list at end (n ∷ rest) [] leads e =
    let number : n ≡ at = cc in
    let none : rest ≡ [] = cc in
    let P : ℕ → Type 0 = λ k. slice_get list k ≡ Some leads.0 in
    let Q : List ℕ → Type 0 = λ xs. Way list at end xs in
    let whole : at ∷ [] ≡ n ∷ rest = sym e in
    subst Q whole (arrives {c = leads.0} (subst P number leads.1) leads.2)
way_of list at end (n ∷ rest) (x ∷ front) leads e =
    let tail : rest ≡ front ++ at ∷ [] = cc in
    goes {c = leads.0} leads.1 leads.2 (way_of list at leads.0.to rest front leads.3 tail)

pub way_of_chain : (list : List Constraint) (at : ℕ) (end : Qual) (chain : List ℕ) → IsChainFrom list end at chain → Way list at end chain
way_of_chain list at end chain is = way_of list at end chain is.before is.leads is.last

pub chain_of_way : (list : List Constraint) (at : ℕ) (end : Qual) (chain : List ℕ) → Way list at end chain → IsChainFrom list end at chain
chain_of_way list at end _ (arrives {c = c} e from) = record { leads = (c, e, from, tt); before = []; last = refl }
chain_of_way list at end _ (goes {n = n} {c = c} {rest = rest} e from way) =
    let is = chain_of_way list at c.to rest way in
    record { leads = (c, e, from, is.leads); before = n ∷ is.before; last = ap (λ xs. n ∷ xs) is.last }

-- ---- how long they are

-- what is fixed: the distances to a constraint's left end
pub record Known (list : List Constraint) (at unreached : ℕ) (distances : List ℕ) : Type 0 where
  pub some : 0 < unreached
  pub nodes : All (HasNodes (length distances)) list
  pub to : AreDistancesTo list at unreached distances

abbrev pub distance : List ℕ → Qual → ℕ
distance distances end = get_or distances (node_of end) 0

-- a constraint leads at most one step nearer
pub record Leads (unreached : ℕ) (distances : List ℕ) (c : Constraint) : Type 0 where
  pub reached : distance distances c.from < unreached
  pub near_by : distance distances c.from ≤ distance distances c.to + 1

pub leads_on : (list : List Constraint) (at unreached : ℕ) (distances : List ℕ) → Known list at unreached distances →
    (n : ℕ) (c : Constraint) → slice_get list n ≡ Some c → distance distances c.to < unreached → Leads unreached distances c
leads_on list at unreached distances k n c e reached =
    let left = left_at list n c e in
    let right = right_at list n c e in
    let right_d : get_or distances (get_or (rights_of list) n 0) 0 ≡ distance distances c.to = ap (λ x. get_or distances x 0) right in
    let left_d : get_or distances (get_or (lefts_of list) n 0) 0 ≡ distance distances c.from = ap (λ x. get_or distances x 0) left in
    let within : n < length (rights_of list) = omega (arith, length_rights list, slice_get_within list n c e) in
    let f = k.to.are.followed n within (omega (arith, right_d)) in
    record { reached = omega (arith, f.reached, left_d); near_by = omega (arith, f.near_by, left_d, right_d) }

-- the left end of the constraint itself has the distance 0
at_zero : (list : List Constraint) (at unreached : ℕ) (distances : List ℕ) → Known list at unreached distances →
    (c : Constraint) (end : Qual) → slice_get list at ≡ Some c → c.from ≡ end → distance distances end ≡ 0
at_zero list at unreached distances k c end e from =
    let same = one_constraint list at k.to.constraint c k.to.numbered e in
    let end_is : k.to.constraint.from ≡ end = ap (λ (x : Constraint). x.from) same ∙ from in
    sym (ap (λ q. distance distances q) end_is) ∙ k.to.are.start_at

-- an end with a way is reached, and no way is shorter than its distance
pub record IsLong (unreached : ℕ) (distances : List ℕ) (end : Qual) (chain : List ℕ) : Type 0 where
  pub reached : distance distances end < unreached
  pub long : distance distances end + 1 ≤ length chain

pub long : (list : List Constraint) (at unreached : ℕ) (distances : List ℕ) → Known list at unreached distances →
    (end : Qual) (chain : List ℕ) → Way list at end chain → IsLong unreached distances end chain
long list at unreached distances k end _ (arrives {c = c} e from) =
    let zero_d = at_zero list at unreached distances k c end e from in
    let some = k.some in
    record { reached = omega (arith, zero_d); long = omega (arith, zero_d) }
long list at unreached distances k end _ (goes {n = n} {c = c} {rest = rest} e from way) =
    let is = long list at unreached distances k c.to rest way in
    let on = leads_on list at unreached distances k n c e is.reached in
    let end_d : distance distances c.from ≡ distance distances end = ap (λ q. distance distances q) from in
    record { reached = omega (arith, on.reached, end_d); long = omega (arith, on.near_by, end_d, is.long) }

-- ---- the best of them

-- a way as long as the distance, and the first of those in dictionary order
pub record IsBestWay (list : List Constraint) (at : ℕ) (distances : List ℕ) (end : Qual) (chain : List ℕ) : Type 0 where
  pub way : Way list at end chain
  pub exact : length chain ≡ distance distances end + 1
  pub first : (other : List ℕ) → Way list at end other → length other ≡ length chain → InOrder chain other

-- at the constraint's own left end
first_at : (list : List Constraint) (at unreached : ℕ) (distances : List ℕ) → Known list at unreached distances →
    (end : Qual) (other : List ℕ) → Way list at end other → length other ≡ 1 → InOrder (at ∷ []) other
first_at list at unreached distances k end _ (arrives e from) one = equal ends
first_at list at unreached distances k end _ (goes {c = c} {rest = rest} e from way) one =
    let is = long list at unreached distances k c.to rest way in
    absurd (omega (arith, is.long))

pub best_at : (list : List Constraint) (at unreached : ℕ) (distances : List ℕ) → Known list at unreached distances →
    (end : Qual) → node_of end < length distances → distance distances end ≡ 0 → IsBestWay list at distances end (at ∷ [])
best_at list at unreached distances k end inside zero_d =
    let start = k.to.are.only_start (node_of end) inside zero_d in
    let from : k.to.constraint.from ≡ end = sym (node_same end k.to.constraint.from start) in
    record {
      way = arrives k.to.numbered from;
      exact = omega (arith, zero_d);
      first = λ other way same. first_at list at unreached distances k end other way same;
    }

-- the first constraint from an end that leads a step nearer
pub record IsFirstStep (list : List Constraint) (distances : List ℕ) (end : Qual) (n : ℕ) (c : Constraint) : Type 0 where
  pub numbered : slice_get list n ≡ Some c
  pub from : c.from ≡ end
  pub nearer : distance distances c.to + 1 ≡ distance distances end
  pub first : (m : ℕ) (b : Constraint) → slice_get list m ≡ Some b → b.from ≡ end → distance distances b.to + 1 ≡ distance distances end → n ≤ m

step_first : (list : List Constraint) (at unreached : ℕ) (distances : List ℕ) → Known list at unreached distances →
    (end : Qual) (n : ℕ) (c : Constraint) (rest : List ℕ) → IsFirstStep list distances end n c →
    IsBestWay list at distances c.to rest → (other : List ℕ) → Way list at end other → length other ≡ length (n ∷ rest) → InOrder (n ∷ rest) other
step_first list at unreached distances k end n c rest step best _ (arrives e from) same = absurd (omega (arith, best.exact, same))
step_first list at unreached distances k end n c rest step best _ (goes {n = m} {c = b} {rest = others} e from way) same =
    let is = long list at unreached distances k b.to others way in
    let on = leads_on list at unreached distances k m b e is.reached in
    let end_d : distance distances b.from ≡ distance distances end = ap (λ q. distance distances q) from in
    let nearer : distance distances b.to + 1 ≡ distance distances end = omega (arith, on.near_by, end_d, is.long, best.exact, step.nearer, same) in
    let up = step.first m b e from nearer in
    elim (cases_order n m) [
      | inl at_m ↦
          let P : ℕ → Type 0 = λ x. slice_get list x ≡ Some b in
          let constraint : c ≡ b = one_constraint list n c b step.numbered (subst P (sym at_m) e) in
          let Q : Constraint → Type 0 = λ (x : Constraint). Way list at x.to others in
          let way_c : Way list at c.to others = subst Q (sym constraint) way in
          let R : ℕ → Type 0 = λ x. InOrder (n ∷ rest) (x ∷ others) in
          subst R at_m (equal (best.first others way_c (omega (arith, same))))
      | inr apart ↦ elim apart [
        | inl below ↦ lower below
        | inr above ↦ absurd (omega arith)
      ]
    ]

pub best_step : (list : List Constraint) (at unreached : ℕ) (distances : List ℕ) → Known list at unreached distances →
    (end : Qual) (n : ℕ) (c : Constraint) (rest : List ℕ) → IsFirstStep list distances end n c →
    IsBestWay list at distances c.to rest → IsBestWay list at distances end (n ∷ rest)
best_step list at unreached distances k end n c rest step best = record {
  way = goes step.numbered step.from best.way;
  exact = omega (arith, best.exact, step.nearer);
  first = λ other way same. step_first list at unreached distances k end n c rest step best other way same;
}

pub best_chain : (list : List Constraint) (at unreached : ℕ) (distances : List ℕ) → Known list at unreached distances →
    (end : Qual) (chain : List ℕ) → IsBestWay list at distances end chain → IsBestFrom list end at chain
best_chain list at unreached distances k end chain best = record {
  is_chain = chain_of_way list at end chain best.way;
  shortest = λ other is.
      let l = long list at unreached distances k end other (way_of_chain list at end other is) in
      omega (arith, l.long, best.exact);
  first = λ other is same. best.first other (way_of_chain list at end other is) same;
}

-- ---- the numbers of those first constraints

pub first_step : (list : List Constraint) (at unreached : ℕ) (distances next : List ℕ) → Known list at unreached distances →
    AreNext (rights_of list) (lefts_of list) distances next →
    (end : Qual) (n : ℕ) → node_of end < length distances → distance distances end < unreached → 0 < distance distances end →
    n ≡ get_or next (node_of end) 0 → (c : Constraint) × IsFirstStep list distances end n c
first_step list at unreached distances next k are end n inside reached some e =
    let step = k.to.are.step (node_of end) inside some reached in
    let P : ℕ → Type 0 = λ x. IsStep (rights_of list) (lefts_of list) distances (node_of end) x in
    let here : IsStep (rights_of list) (lefts_of list) distances (node_of end) n = subst P (sym e) (are.step (node_of end) step.0 step.1) in
    let found = constraint_at list n (omega (arith, here.within, length_rights list)) in
    let c = found.0 in
    let left = left_at list n c found.1 in
    let right = right_at list n c found.1 in (
      c,
      record {
        numbered = found.1;
        from = node_same c.from end (sym left ∙ here.leads);
        nearer = sym (ap (λ x. get_or distances x 0 + 1) right) ∙ here.nearer;
        first = λ m b numbered from nearer.
            let b_left = left_at list m b numbered in
            let b_right = right_at list m b numbered in
            let is : IsStep (rights_of list) (lefts_of list) distances (node_of end) m = record {
              within = omega (arith, length_rights list, slice_get_within list m b numbered);
              leads = b_left ∙ ap node_of from;
              nearer = ap (λ x. get_or distances x 0 + 1) b_right ∙ nearer;
            } in
            omega (arith, are.first (node_of end) m is, e);
      },
    )

-- ---- the walk from the constant private

-- so far the walk has come to an end that is reached: each best way from there makes a best way from the constant private
pub record IsWalking (list : List Constraint) (at unreached : ℕ) (distances front : List ℕ) (end : Qual) : Type 0 where
  pub inside : node_of end < length distances
  pub reached : distance distances end < unreached
  pub so_far : (rest : List ℕ) → IsBestWay list at distances end rest → IsBestWay list at distances (Fixed Priv) (front ++ rest)

pub walk_begins : (list : List Constraint) (at unreached : ℕ) (distances front : List ℕ) → Known list at unreached distances →
    0 < length distances → HasChain list at → front ≡ [] → IsWalking list at unreached distances front (Fixed Priv)
walk_begins list at unreached distances front k some chain none =
    let P : List ℕ → Type 0 = λ xs. IsWalking list at unreached distances xs (Fixed Priv) in
    subst P (sym none) (record {
      inside = some;
      reached = (long list at unreached distances k (Fixed Priv) chain.0 (way_of_chain list at (Fixed Priv) chain.0 chain.1)).reached;
      so_far = λ rest best. best;
    })

-- what one step of the walk needs and brings
pub record Walked (list : List Constraint) (at unreached : ℕ) (distances front : List ℕ) (end : Qual) (n : ℕ) (d : Constraint) : Type 0 where
  pub within : n < length list
  pub goes_on : IsWalking list at unreached distances (front ++ n ∷ []) (get_or list n d).to
  pub nearer : distance distances (get_or list n d).to < distance distances end

pub walk_goes_on : (list : List Constraint) (at unreached : ℕ) (distances next front : List ℕ) → Known list at unreached distances →
    AreNext (rights_of list) (lefts_of list) distances next → (end : Qual) → IsWalking list at unreached distances front end →
    0 < distance distances end → (n : ℕ) → n ≡ get_or next (node_of end) 0 → (d : Constraint) →
    Walked list at unreached distances front end n d
walk_goes_on list at unreached distances next front k are end w some n e d =
    let found = first_step list at unreached distances next k are end n w.inside w.reached some e in
    let c = found.0 in
    let step = found.1 in
    let same : get_or list n d ≡ c = get_or_from_slice_get list n c d step.numbered in
    let P : Constraint → Type 0 = λ (x : Constraint). IsWalking list at unreached distances (front ++ n ∷ []) x.to in
    let Q : Constraint → Type 0 = λ (x : Constraint). distance distances x.to < distance distances end in
    let nearer : distance distances c.to < distance distances end = omega (arith, step.nearer) in
    let R : List ℕ → Type 0 = λ xs. IsBestWay list at distances (Fixed Priv) xs in
    record {
      within = slice_get_within list n c step.numbered;
      goes_on = subst P (sym same) (record {
        inside = (all_at (HasNodes (length distances)) list n c k.nodes step.numbered).to;
        reached = omega (arith, nearer, w.reached);
        so_far = λ rest best. subst R (sym (append_assoc front (n ∷ []) rest)) (w.so_far (n ∷ rest) (best_step list at unreached distances k end n c rest step best));
      });
      nearer = subst Q (sym same) nearer;
    }

pub walk_ends : (list : List Constraint) (at unreached : ℕ) (distances front numbers : List ℕ) → Known list at unreached distances →
    (end : Qual) → IsWalking list at unreached distances front end → distance distances end ≡ 0 → numbers ≡ front ++ at ∷ [] →
    IsBestFrom list (Fixed Priv) at numbers
walk_ends list at unreached distances front numbers k end w zero_d e =
    let P : List ℕ → Type 0 = λ xs. IsBestFrom list (Fixed Priv) at xs in
    subst P (sym e) (best_chain list at unreached distances k (Fixed Priv) (front ++ at ∷ [])
    (w.so_far (at ∷ []) (best_at list at unreached distances k end w.inside zero_d)))
