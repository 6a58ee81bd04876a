-- What the distances from the constant private say of assignments.
use Rattle.std.proofs.Common.{◌≡◌, ℕ, zero, suc, ◌+◌, ◌<◌, ◌≤◌, inl, inr, true, false, cond, ltb, List, [], ◌∷◌, length, get_or, map, drop, slice_get, Some, refl, sym, ◌∙◌, ap, subst, arith, All, length-drop}
use Rattle.std.proofs.lemmas.Bool.{cases_lt, cases_Bool, lt-ltb, ltb-true, true≢false}
use Rattle.std.proofs.lemmas.List.{get_or-map, length-map, get_or-drop}
use Rattle.std.proofs.lemmas.Option.{slice_get_within, slice_get-get_or, get_or_from_slice_get}
use Rattle.c_ast.specs.declared.qualifiers.Qual.{Qual}
use Rattle.c_ast.specs.declared.qualifiers.Qual.TheVariants.{Fixed, Var}
use Rattle.cv_word.specs.declared.registers.Taint.{Taint}
use Rattle.cv_word.specs.declared.registers.Taint.TheVariants.{Pub, Priv}
use Rattle.qual_solve.specs.declared.constraint.Constraint.{Constraint}
use Rattle.qual_solve.specs.Assignments.{IsEnd, IsOver, IsAssignment, taint_of, IsPrivate, IsPublic, Meets, Satisfies, IsLeast}
use Rattle.qual_solve.specs.Leaks.{IsClosing, MeetsOpen, IsBroken, IsBestFrom, IsLeak}
use Rattle.qual_solve.specs.Distances.{IsStep}
use Rattle.qual_solve.specs.Ends.{node_of, is_constant_public, open_of, lefts_of, rights_of, HasNodes, taint_at, IsReachedClosing, NoneBelow, AreDistancesFrom, HasChain}
use Rattle.qual_solve.proofs.Numbered.{node_same, public_is, is_public_at, constraint_at, all_at, all_from, left_at, right_at, length_lefts, number_of_open, open_of_number}
use Rattle.qual_solve.proofs.Ways.{Way, arrives, goes, chain_of_way, distance}

-- what is fixed
pub record Spread (vars : ℕ) (list : List Constraint) (unreached : ℕ) (distances : List ℕ) : Type 0 where
  pub some : 0 < unreached
  pub over : All (IsOver vars) list
  pub size : length distances ≡ vars + 2
  pub from : AreDistancesFrom list unreached distances

-- the node of an end is among them
pub node_within : (vars : ℕ) (end : Qual) → IsEnd vars end → node_of end < vars + 2
node_within vars (Fixed Priv) is = omega arith
node_within vars (Fixed Pub) is = omega arith
node_within vars (Var v) is = omega (arith, is)

-- ---- a reached end but the start has an open constraint that leads there from a step nearer

record Before (list : List Constraint) (distances : List ℕ) (end : Qual) (n : ℕ) : Type 0 where
  number : ℕ
  constraint : Constraint
  numbered : slice_get list number ≡ Some constraint
  opens : is_constant_public constraint.to ≡ false
  to : constraint.to ≡ end
  nearer : distance distances constraint.from ≡ n

-- the constraint of a step, among those that the step is of
record Stepped (list : List Constraint) (distances : List ℕ) (node arrow : ℕ) : Type 0 where
  constraint : Constraint
  numbered : slice_get list arrow ≡ Some constraint
  to : node_of constraint.to ≡ node
  nearer : distance distances constraint.from + 1 ≡ get_or distances node 0

stepped_by : (list : List Constraint) (distances : List ℕ) (node arrow : ℕ) (c : Constraint) → slice_get list arrow ≡ Some c →
    IsStep (lefts_of list) (rights_of list) distances node arrow → Stepped list distances node arrow
stepped_by list distances node arrow c e is =
    let left = left_at list arrow c e in
    let right = right_at list arrow c e in
    record {
      constraint = c;
      numbered = e;
      to = sym right ∙ is.leads;
      nearer = sym (ap (λ x. get_or distances x 0 + 1) left) ∙ is.nearer;
    }

stepped : (list : List Constraint) (distances : List ℕ) (node arrow : ℕ) →
    IsStep (lefts_of list) (rights_of list) distances node arrow → Stepped list distances node arrow
stepped list distances node arrow is =
    let found = constraint_at list arrow (omega (arith, is.within, length_lefts list)) in
    stepped_by list distances node arrow found.0 found.1 is

before_of : (vars : ℕ) (list : List Constraint) (unreached : ℕ) (distances : List ℕ) → Spread vars list unreached distances →
    (n : ℕ) (end : Qual) → IsEnd vars end → distance distances end ≡ suc n → suc n < unreached → Before list distances end n
before_of vars list unreached distances s n end is e few =
    let inside : node_of end < length distances = omega (arith, node_within vars end is, s.size) in
    let step = s.from.step (node_of end) inside (omega (arith, e)) (omega (arith, e)) in
    let by = stepped (open_of list) distances (node_of end) step.0 step.1 in
    let number = number_of_open list step.0 by.constraint by.numbered in
    record {
      number = number.0;
      constraint = by.constraint;
      numbered = number.1;
      opens = number.2;
      to = node_same by.constraint.to end by.to;
      nearer = omega (arith, by.nearer, e);
    }

start_is : (vars : ℕ) (list : List Constraint) (unreached : ℕ) (distances : List ℕ) → Spread vars list unreached distances →
    (end : Qual) → IsEnd vars end → distance distances end ≡ 0 → end ≡ Fixed Priv
start_is vars list unreached distances s end is e =
    node_same end (Fixed Priv) (s.from.only_start (node_of end) (omega (arith, node_within vars end is, s.size)) e)

-- ---- what is reached is private in every assignment that meets the open constraints

meets_open : (list : List Constraint) (assignment : List Taint) → MeetsOpen assignment list →
    (n : ℕ) (c : Constraint) → slice_get list n ≡ Some c → is_constant_public c.to ≡ false → Meets assignment c
meets_open list assignment meets n c e opens =
    let P : Constraint → Type 0 = λ constraint. ¬ IsClosing constraint → Meets assignment constraint in
    all_at P list n c meets e (λ closing. true≢false (sym (is_public_at c.to closing) ∙ opens))

private_or : (assignment : List Taint) (end : Qual) (t : Taint) → taint_of assignment end ≡ t → (IsPublic assignment end → ⊥) → IsPrivate assignment end
private_or assignment end Priv e not_public = e
private_or assignment end Pub e not_public = absurd (not_public e)

pub forced : (vars : ℕ) (list : List Constraint) (unreached : ℕ) (distances : List ℕ) → Spread vars list unreached distances →
    (n : ℕ) (end : Qual) → IsEnd vars end → distance distances end ≡ n → n < unreached →
    (assignment : List Taint) → MeetsOpen assignment list → IsPrivate assignment end
forced vars list unreached distances s zero end is e few assignment meets =
    ap (λ q. taint_of assignment q) (start_is vars list unreached distances s end is e)
forced vars list unreached distances s (suc n) end is e few assignment meets =
    let b = before_of vars list unreached distances s n end is e few in
    let over = all_at (IsOver vars) list b.number b.constraint s.over b.numbered in
    let from = forced vars list unreached distances s n b.constraint.from over.from b.nearer (omega arith) assignment meets in
    let met = meets_open list assignment meets b.number b.constraint b.numbered b.opens from in
    let to = private_or assignment b.constraint.to (taint_of assignment b.constraint.to) refl met in
    sym (ap (λ q. taint_of assignment q) b.to) ∙ to

-- ---- and a chain leads there

grow_chain : (vars : ℕ) (list : List Constraint) (unreached : ℕ) (distances : List ℕ) → Spread vars list unreached distances → (at : ℕ) →
    (n : ℕ) (end : Qual) → IsEnd vars end → distance distances end ≡ n → n < unreached →
    (chain : List ℕ) → Way list at end chain → HasChain list at
grow_chain vars list unreached distances s at zero end is e few chain way =
    let P : Qual → Type 0 = λ q. Way list at q chain in
    (chain, chain_of_way list at (Fixed Priv) chain (subst P (start_is vars list unreached distances s end is e) way))
grow_chain vars list unreached distances s at (suc n) end is e few chain way =
    let b = before_of vars list unreached distances s n end is e few in
    let over = all_at (IsOver vars) list b.number b.constraint s.over b.numbered in
    let P : Qual → Type 0 = λ q. Way list at q chain in
    grow_chain vars list unreached distances s at n b.constraint.from over.from b.nearer (omega arith) (b.number ∷ chain)
    (goes b.numbered refl (subst P (sym b.to) way))

pub has_chain : (vars : ℕ) (list : List Constraint) (unreached : ℕ) (distances : List ℕ) → Spread vars list unreached distances →
    (at : ℕ) → IsReachedClosing list unreached distances at → HasChain list at
has_chain vars list unreached distances s at r =
    let over = all_at (IsOver vars) list at r.constraint s.over r.numbered in
    grow_chain vars list unreached distances s at _ r.constraint.from over.from refl r.reached (at ∷ []) (arrives r.numbered refl)

-- ---- the assignment that is private where a variable is reached

abbrev pub assignment_of : ℕ → List ℕ → List Taint
assignment_of unreached distances = map (taint_at unreached) (drop 2 distances)

pub entries : (vars : ℕ) (list : List Constraint) (unreached : ℕ) (distances : List ℕ) → Spread vars list unreached distances →
    IsAssignment vars (assignment_of unreached distances)
entries vars list unreached distances s =
    let size = s.size in
    length-map (drop 2 distances) (taint_at unreached) ∙ omega (arith, length-drop 2 distances)

taint_is : (vars : ℕ) (list : List Constraint) (unreached : ℕ) (distances : List ℕ) → Spread vars list unreached distances →
    (v : ℕ) → v < vars → taint_of (assignment_of unreached distances) (Var v) ≡ taint_at unreached (distance distances (Var v))
taint_is vars list unreached distances s v lt =
    let size = s.size in
    let inside : v < length (drop 2 distances) = omega (arith, length-drop 2 distances) in
    let place : 2 + v ≡ v + 2 = omega arith in
    get_or-map (taint_at unreached) (drop 2 distances) v 0 Pub inside
    ∙ ap (taint_at unreached) (get_or-drop 2 distances v 0 ∙ ap (λ x. get_or distances x 0) place)

taint_private : (unreached d : ℕ) → taint_at unreached d ≡ Priv → d < unreached
taint_private unreached d e = elim (cases_Bool (ltb d unreached)) [
  | inl below ↦ ltb-true d unreached below
  | inr above ↦
      let public : taint_at unreached d ≡ Pub = ap (λ b. cond b Priv Pub) above in
      cc
]

pub private_reached : (vars : ℕ) (list : List Constraint) (unreached : ℕ) (distances : List ℕ) → Spread vars list unreached distances →
    (end : Qual) → IsEnd vars end → IsPrivate (assignment_of unreached distances) end → distance distances end < unreached
private_reached vars list unreached distances s (Fixed Priv) is e = omega (arith, s.from.start_at, s.some)
private_reached vars list unreached distances s (Fixed Pub) is e = cc
private_reached vars list unreached distances s (Var v) is e =
    taint_private unreached (distance distances (Var v)) (sym (taint_is vars list unreached distances s v is) ∙ e)

reached_private : (vars : ℕ) (list : List Constraint) (unreached : ℕ) (distances : List ℕ) → Spread vars list unreached distances →
    (end : Qual) → IsEnd vars end → is_constant_public end ≡ false → distance distances end < unreached → IsPrivate (assignment_of unreached distances) end
reached_private vars list unreached distances s (Fixed Priv) is opens lt = refl
reached_private vars list unreached distances s (Fixed Pub) is opens lt = cc
reached_private vars list unreached distances s (Var v) is opens lt =
    taint_is vars list unreached distances s v is ∙ ap (λ b. cond b Priv Pub) (lt-ltb (distance distances (Var v)) unreached lt)

never_both : (assignment : List Taint) (end : Qual) → IsPrivate assignment end → IsPublic assignment end → ⊥
never_both assignment end p q = cc

-- it meets each open constraint
open_met : (vars : ℕ) (list : List Constraint) (unreached : ℕ) (distances : List ℕ) → Spread vars list unreached distances →
    (n : ℕ) (c : Constraint) → slice_get list n ≡ Some c → is_constant_public c.to ≡ false → Meets (assignment_of unreached distances) c
open_met vars list unreached distances s n c e opens from to =
    let over = all_at (IsOver vars) list n c s.over e in
    let a = open_of_number list n c e opens in
    let left = left_at (open_of list) a.0 c a.1 in
    let right = right_at (open_of list) a.0 c a.1 in
    let reached = private_reached vars list unreached distances s c.from over.from from in
    let left_d : get_or distances (get_or (lefts_of (open_of list)) a.0 0) 0 ≡ distance distances c.from = ap (λ x. get_or distances x 0) left in
    let right_d : get_or distances (get_or (rights_of (open_of list)) a.0 0) 0 ≡ distance distances c.to = ap (λ x. get_or distances x 0) right in
    let within : a.0 < length (lefts_of (open_of list)) = omega (arith, length_lefts (open_of list), slice_get_within (open_of list) a.0 c a.1) in
    let f = s.from.followed a.0 within (omega (arith, left_d)) in
    let private : IsPrivate (assignment_of unreached distances) c.to =
    reached_private vars list unreached distances s c.to over.to opens (omega (arith, f.reached, right_d)) in
    never_both (assignment_of unreached distances) c.to private to

pub meets_all_open : (vars : ℕ) (list : List Constraint) (unreached : ℕ) (distances : List ℕ) → Spread vars list unreached distances →
    MeetsOpen (assignment_of unreached distances) list
meets_all_open vars list unreached distances s =
    let P : Constraint → Type 0 = λ constraint. ¬ IsClosing constraint → Meets (assignment_of unreached distances) constraint in
    all_from P list (λ n c e opens. elim (cases_Bool (is_constant_public c.to)) [
      | inl closing ↦ absurd (opens (public_is c.to closing))
      | inr not_closing ↦ open_met vars list unreached distances s n c e not_closing
    ])

-- who satisfies the list meets its open constraints
pub open_of_satisfied : (list : List Constraint) (assignment : List Taint) → Satisfies assignment list → MeetsOpen assignment list
open_of_satisfied list assignment satisfies n d lt opens = satisfies n d lt

-- ---- where no closing constraint's left end is reached

pub least : (vars : ℕ) (list : List Constraint) (unreached : ℕ) (distances : List ℕ) → Spread vars list unreached distances →
    NoneBelow list unreached distances (length list) → IsLeast vars list (assignment_of unreached distances)
least vars list unreached distances s none = record {
  entries = entries vars list unreached distances s;
  satisfies = all_from (Meets (assignment_of unreached distances)) list (λ n c e. elim (cases_Bool (is_constant_public c.to)) [
    | inl closing ↦ λ from to.
        let over = all_at (IsOver vars) list n c s.over e in
        none n (slice_get_within list n c e) (record {
          constraint = c;
          numbered = e;
          closing = closing;
          reached = private_reached vars list unreached distances s c.from over.from from;
        })
    | inr opens ↦ open_met vars list unreached distances s n c e opens
  ]);
  least = λ v lt private other is satisfies.
      forced vars list unreached distances s _ (Var v) lt refl (private_reached vars list unreached distances s (Var v) lt private)
      other (open_of_satisfied list other satisfies);
}

-- ---- where one is

is_broken : (vars : ℕ) (list : List Constraint) (unreached : ℕ) (distances : List ℕ) → Spread vars list unreached distances →
    (at : ℕ) → IsReachedClosing list unreached distances at → IsBroken vars list at
is_broken vars list unreached distances s at r =
    let over = all_at (IsOver vars) list at r.constraint s.over r.numbered in
    record {
      constraint = r.constraint;
      numbered = r.numbered;
      closing = public_is r.constraint.to r.closing;
      forced = λ assignment is meets. forced vars list unreached distances s _ r.constraint.from over.from refl r.reached assignment meets;
    }

reached_of_broken : (vars : ℕ) (list : List Constraint) (unreached : ℕ) (distances : List ℕ) → Spread vars list unreached distances →
    (n : ℕ) → IsBroken vars list n → IsReachedClosing list unreached distances n
reached_of_broken vars list unreached distances s n b =
    let over = all_at (IsOver vars) list n b.constraint s.over b.numbered in
    record {
      constraint = b.constraint;
      numbered = b.numbered;
      closing = is_public_at b.constraint.to b.closing;
      reached = private_reached vars list unreached distances s b.constraint.from over.from
          (b.forced (assignment_of unreached distances) (entries vars list unreached distances s) (meets_all_open vars list unreached distances s));
    }

-- the list can't be satisfied, since its broken constraint can't be met
pub unsatisfied : (vars : ℕ) (list : List Constraint) (at : ℕ) → IsBroken vars list at →
    (assignment : List Taint) → IsAssignment vars assignment → Satisfies assignment list → ⊥
unsatisfied vars list at b assignment is satisfies =
    let met = all_at (Meets assignment) list at b.constraint satisfies b.numbered in
    met (b.forced assignment is (open_of_satisfied list assignment satisfies)) (ap (λ q. taint_of assignment q) b.closing)

pub leak : (vars : ℕ) (list : List Constraint) (unreached : ℕ) (distances : List ℕ) → Spread vars list unreached distances →
    (at : ℕ) (chain : List ℕ) → IsReachedClosing list unreached distances at → NoneBelow list unreached distances at →
    IsBestFrom list (Fixed Priv) at chain → IsLeak vars list at chain
leak vars list unreached distances s at chain r none best =
    let broken = is_broken vars list unreached distances s at r in
    record {
      unsatisfied = unsatisfied vars list at broken;
      first = record {
        broken = broken;
        first = λ number other. elim (cases_lt number at) [
          | inl below ↦ absurd (none number below (reached_of_broken vars list unreached distances s number other))
          | inr above ↦ above
        ];
      };
      best = best;
    }

-- ---- as the code finds it

pub reached_closing : (list : List Constraint) (unreached : ℕ) (distances : List ℕ) (n node : ℕ) → n < length list →
    (d : Constraint) → is_constant_public (get_or list n d).to ≡ true → node ≡ node_of (get_or list n d).from → get_or distances node 0 < unreached →
    IsReachedClosing list unreached distances n
reached_closing list unreached distances n node lt d closing e reached = record {
  constraint = get_or list n d;
  numbered = slice_get-get_or list n d lt;
  closing = closing;
  reached = omega (arith, reached, ap (λ x. get_or distances x 0) e);
}

pub not_closing : (list : List Constraint) (unreached : ℕ) (distances : List ℕ) (n : ℕ) → n < length list →
    (d : Constraint) → is_constant_public (get_or list n d).to ≡ false → IsReachedClosing list unreached distances n → ⊥
not_closing list unreached distances n lt d opens r =
    let same : get_or list n d ≡ r.constraint = get_or_from_slice_get list n r.constraint d r.numbered in
    true≢false (sym r.closing ∙ sym (ap (λ (x : Constraint). is_constant_public x.to) same) ∙ opens)

pub not_reached : (list : List Constraint) (unreached : ℕ) (distances : List ℕ) (n node : ℕ) → n < length list →
    (d : Constraint) → node ≡ node_of (get_or list n d).from → unreached ≤ get_or distances node 0 → IsReachedClosing list unreached distances n → ⊥
not_reached list unreached distances n node lt d e far r =
    let same : get_or list n d ≡ r.constraint = get_or_from_slice_get list n r.constraint d r.numbered in
    let distance_is : get_or distances node 0 ≡ distance distances r.constraint.from =
    ap (λ x. get_or distances x 0) e ∙ ap (λ (x : Constraint). distance distances x.from) same in
    omega (arith, r.reached, distance_is, far)

-- the distances as they are lent
pub spread_of : (vars nodes : ℕ) (list : List Constraint) (unreached : ℕ) (items lent : List ℕ) → All (IsOver vars) list → 0 < unreached →
    lent ≡ items → length items ≡ nodes → nodes ≡ vars + 2 → AreDistancesFrom list unreached items → Spread vars list unreached lent
spread_of vars nodes list unreached items lent over some same size nodes_is from =
    let P : List ℕ → Type 0 = λ xs. AreDistancesFrom list unreached xs in
    record { some = some; over = over; size = ap length same ∙ size ∙ nodes_is; from = subst P (sym same) from }

pub least_of : (vars : ℕ) (list : List Constraint) (unreached : ℕ) (items lent : List ℕ) (taints : List Taint) → Spread vars list unreached lent →
    NoneBelow list unreached lent (length list) → taints ≡ assignment_of unreached items → lent ≡ items → IsLeast vars list taints
least_of vars list unreached items lent taints s none made same =
    let whole : taints ≡ assignment_of unreached lent = made ∙ sym (ap (λ xs. assignment_of unreached xs) same) in
    subst (IsLeast vars list) (sym whole) (least vars list unreached lent s none)
