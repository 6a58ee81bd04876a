-- Constraints by their numbers, and their ends as nodes.
use Rattle.std.proofs.Common.{◌≡◌, ℕ, zero, suc, ◌<◌, inl, inr, Bool, true, false, cond, not, List, [], ◌∷◌, length, get_or, slice_get, Some, refl, sym, ◌∙◌, ap, subst, arith, All}
use Rattle.std.proofs.lemmas.Bool.{cases_Bool}
use Rattle.std.proofs.lemmas.List.{get_or-map, length-map}
use Rattle.std.proofs.lemmas.List.Elements.{All-map, All-same, All-filter}
use Rattle.std.proofs.lemmas.Option.{slice_get_within, slice_get_cases, slice_get-get_or, get_or_from_slice_get, none-some}
use Rattle.c_ast.specs.declared.qualifiers.Qual.{Qual}
use Rattle.c_ast.specs.declared.qualifiers.Qual.TheVariants.{Fixed, Var}
use Rattle.cv_word.specs.declared.registers.Taint.TheVariants.{Pub, Priv}
use Rattle.qual_solve.specs.declared.constraint.Constraint.{Constraint}
use Rattle.qual_solve.specs.Distances.{AreDistances}
use Rattle.qual_solve.specs.Ends.{node_of, is_constant_public, open_of, lefts_of, rights_of, HasNodes, AreDistancesTo}

-- ---- nodes

-- each end has a node of its own
pub node_same : (p q : Qual) → node_of p ≡ node_of q → p ≡ q
node_same (Fixed Priv) (Fixed Priv) e = refl
node_same (Fixed Priv) (Fixed Pub) e = absurd (omega (arith, e))
node_same (Fixed Priv) (Var w) e = absurd (omega (arith, e))
node_same (Fixed Pub) (Fixed Priv) e = absurd (omega (arith, e))
node_same (Fixed Pub) (Fixed Pub) e = refl
node_same (Fixed Pub) (Var w) e = absurd (omega (arith, e))
node_same (Var v) (Fixed Priv) e = absurd (omega (arith, e))
node_same (Var v) (Fixed Pub) e = absurd (omega (arith, e))
node_same (Var v) (Var w) e = let same : v ≡ w = omega (arith, e) in ap Var same

pub public_is : (q : Qual) → is_constant_public q ≡ true → q ≡ Fixed Pub
public_is (Fixed Pub) e = refl
public_is (Fixed Priv) e = cc
public_is (Var v) e = cc

pub is_public_at : (q : Qual) → q ≡ Fixed Pub → is_constant_public q ≡ true
is_public_at q e = ap is_constant_public e

-- ---- numbers

-- what a read answers outside of a list
abbrev pub fallback : Constraint
fallback = record { from = Fixed Pub; to = Fixed Pub; place = 0 }

-- a number has one constraint
pub one_constraint : (list : List Constraint) (n : ℕ) (a b : Constraint) → slice_get list n ≡ Some a → slice_get list n ≡ Some b → a ≡ b
one_constraint list n a b p q = cc

-- a number below the length has a constraint
pub constraint_at : (list : List Constraint) (n : ℕ) → n < length list → (c : Constraint) × (slice_get list n ≡ Some c)
constraint_at list n lt = elim (slice_get_cases list n).1 [
  | inl found ↦ (found.0, found.2)
  | inr past ↦ absurd (omega (arith, past.0))
]

-- what holds of each constraint holds of the one with a number
pub all_at : (P : Constraint → Type 0) (list : List Constraint) (n : ℕ) (c : Constraint) → All P list → slice_get list n ≡ Some c → P c
all_at P list n c all e = subst P (get_or_from_slice_get list n c c e) (all n c (slice_get_within list n c e))

-- and the other way round
pub all_from : (P : Constraint → Type 0) (list : List Constraint) → ((n : ℕ) (c : Constraint) → slice_get list n ≡ Some c → P c) → All P list
all_from P list each n d lt =
    let at = constraint_at list n lt in
    subst P (sym (get_or_from_slice_get list n at.0 d at.1)) (each n at.0 at.1)

pub left_at : (list : List Constraint) (n : ℕ) (c : Constraint) → slice_get list n ≡ Some c → get_or (lefts_of list) n 0 ≡ node_of c.from
left_at list n c e =
    let f : Constraint → ℕ = λ (x : Constraint). node_of x.from in
    get_or-map f list n c 0 (slice_get_within list n c e) ∙ ap f (get_or_from_slice_get list n c c e)

pub right_at : (list : List Constraint) (n : ℕ) (c : Constraint) → slice_get list n ≡ Some c → get_or (rights_of list) n 0 ≡ node_of c.to
right_at list n c e =
    let f : Constraint → ℕ = λ (x : Constraint). node_of x.to in
    get_or-map f list n c 0 (slice_get_within list n c e) ∙ ap f (get_or_from_slice_get list n c c e)

pub length_lefts : (list : List Constraint) → length (lefts_of list) ≡ length list
length_lefts list = length-map list (λ (x : Constraint). node_of x.from)

pub length_rights : (list : List Constraint) → length (rights_of list) ≡ length list
length_rights list = length-map list (λ (x : Constraint). node_of x.to)

-- ---- the constraints that aren't closing

open_by : (c : Constraint) (list : List Constraint) (b : Bool) → is_constant_public c.to ≡ b → open_of (c ∷ list) ≡ cond (not b) (c ∷ open_of list) (open_of list)
open_by c list b e = ap (λ x. cond (not x) (c ∷ open_of list) (open_of list)) e

first_open : (x : Constraint) (list : List Constraint) (a : ℕ) (c : Constraint) → is_constant_public x.to ≡ false → slice_get (x ∷ open_of list) a ≡ Some c →
    ((b : ℕ) → slice_get (open_of list) b ≡ Some c → (n : ℕ) × (slice_get list n ≡ Some c) × (is_constant_public c.to ≡ false)) →
    (n : ℕ) × (slice_get (x ∷ list) n ≡ Some c) × (is_constant_public c.to ≡ false)
first_open x list zero c opens e rest =
    let same : x ≡ c = cc in
    (0, e, sym (ap (λ (y : Constraint). is_constant_public y.to) same) ∙ opens)
first_open x list (suc a) c opens e rest = let r = rest a e in (suc r.0, r.1, r.2)

-- an open constraint has a number in the list
pub number_of_open : (list : List Constraint) (a : ℕ) (c : Constraint) → slice_get (open_of list) a ≡ Some c →
    (n : ℕ) × (slice_get list n ≡ Some c) × (is_constant_public c.to ≡ false)
number_of_open [] a c e = absurd (none-some c e)
number_of_open (x ∷ list) a c e = elim (cases_Bool (is_constant_public x.to)) [
  | inl closing ↦
      let rest = number_of_open list a c (sym (ap (λ xs. slice_get xs a) (open_by x list true closing)) ∙ e) in
      (suc rest.0, rest.1, rest.2)
  | inr opens ↦ first_open x list a c opens (sym (ap (λ xs. slice_get xs a) (open_by x list false opens)) ∙ e) (λ b f. number_of_open list b c f)
]

-- a number of the list that is open has one among the open ones
pub open_of_number : (list : List Constraint) (n : ℕ) (c : Constraint) → slice_get list n ≡ Some c → is_constant_public c.to ≡ false →
    (a : ℕ) × (slice_get (open_of list) a ≡ Some c)
open_of_number [] n c e opens = absurd (none-some c e)
open_of_number (x ∷ list) zero c e opens =
    let same : x ≡ c = cc in
    let x_opens : is_constant_public x.to ≡ false = ap (λ (y : Constraint). is_constant_public y.to) same ∙ opens in
    (0, ap (λ xs. slice_get xs 0) (open_by x list false x_opens) ∙ e)
open_of_number (x ∷ list) (suc n) c e opens =
    let rest = open_of_number list n c e opens in
    elim (cases_Bool (is_constant_public x.to)) [
      | inl closing ↦ (rest.0, ap (λ xs. slice_get xs rest.0) (open_by x list true closing) ∙ rest.1)
      | inr x_opens ↦ (suc rest.0, ap (λ xs. slice_get xs (suc rest.0)) (open_by x list false x_opens) ∙ rest.1)
    ]

-- ---- the nodes of ends are among so many

pub lefts_within : (nodes : ℕ) (list : List Constraint) (near : List ℕ) → near ≡ lefts_of list → All (HasNodes nodes) list → All (λ node. node < nodes) near
lefts_within nodes list near e has =
    let P : ℕ → Type 0 = λ node. node < nodes in
    All-same P near (lefts_of list) e (All-map P (λ (x : Constraint). node_of x.from) list (λ k d lt. (has k d lt).from))

pub rights_within : (nodes : ℕ) (list : List Constraint) (near : List ℕ) → near ≡ rights_of list → All (HasNodes nodes) list → All (λ node. node < nodes) near
rights_within nodes list near e has =
    let P : ℕ → Type 0 = λ node. node < nodes in
    All-same P near (rights_of list) e (All-map P (λ (x : Constraint). node_of x.to) list (λ k d lt. (has k d lt).to))

pub open_within : (nodes : ℕ) (list kept : List Constraint) → kept ≡ open_of list → All (HasNodes nodes) list → All (HasNodes nodes) kept
open_within nodes list kept e has =
    All-same (HasNodes nodes) kept (open_of list) e (All-filter (λ (x : Constraint). not (is_constant_public x.to)) (HasNodes nodes) list has)

-- both have as many
pub lengths : (list : List Constraint) (near far : List ℕ) → near ≡ lefts_of list → far ≡ rights_of list → length near ≡ length far
lengths list near far l r = ap length l ∙ length_lefts list ∙ sym (length_rights list) ∙ sym (ap length r)

-- ---- distances of a graph of the ends, as distances of the constraints

pub distances_over : (near far near' far' : List ℕ) (start start' unreached : ℕ) (distances : List ℕ) → near ≡ near' → far ≡ far' → start ≡ start' →
    AreDistances near far start unreached distances → AreDistances near' far' start' unreached distances
distances_over near far near' far' start start' unreached distances n f s are =
    let P : List ℕ → Type 0 = λ xs. AreDistances xs far' start' unreached distances in
    let Q : List ℕ → Type 0 = λ xs. AreDistances near xs start' unreached distances in
    let R : ℕ → Type 0 = λ x. AreDistances near far x unreached distances in
    subst P n (subst Q f (subst R s are))

pub distances_to : (list : List Constraint) (at unreached : ℕ) (near far distances : List ℕ) (start : ℕ) (d : Constraint) → at < length list →
    near ≡ rights_of list → far ≡ lefts_of list → start ≡ node_of (get_or list at d).from →
    AreDistances near far start unreached distances → AreDistancesTo list at unreached distances
distances_to list at unreached near far distances start d lt n f s are = record {
  constraint = get_or list at d;
  numbered = slice_get-get_or list at d lt;
  are = distances_over near far (rights_of list) (lefts_of list) start (node_of (get_or list at d).from) unreached distances n f s are;
}
