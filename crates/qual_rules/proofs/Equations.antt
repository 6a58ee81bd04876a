-- What each kind of type, of expression and of statement gives, in the words of a function's parts.
use Rattle.std.proofs.Common.{◌≡◌, ℕ, ◌+◌, Bool, true, false, ◌&&◌, ◌⊎◌, inl, inr, List, [], ◌∷◌, ◌++◌, Option, Some, None, length, map, sum, refl, sym, ap, ◌∙◌, rules, arith}
use Rattle.std.specs.List.{flat_map}
use Rattle.std.proofs.lemmas.List.{length-map}
use Rattle.std.proofs.lemmas.List.Concat.{flat_map-append}
use Rattle.c_ast.specs.declared.qualifiers.Qual.{Qual}
use Rattle.c_ast.specs.declared.qualifiers.Ty as tys
use Rattle.c_ast.specs.declared.qualifiers.Ty.{Ty, Ptr, Fun}
use Rattle.c_ast.specs.declared.typed.Expr.{Expr}
use Rattle.c_ast.specs.declared.typed.ExprKind as kinds
use Rattle.c_ast.specs.declared.typed.ExprKind.{Assign, Call, Cond, Index, Arrow, Deref, Cast}
use Rattle.c_ast.specs.declared.typed.ExprKind.TheOpen as Layer
use Rattle.c_ast.specs.declared.typed.Stmt.{Stmt}
use Rattle.c_ast.specs.declared.typed.StmtKind as stmts
use Rattle.c_ast.specs.declared.typed.StmtKind.TheOpen as Parts
use Rattle.c_ast.specs.declared.typed.StmtKind.TheViews.{roll-StmtKind}
use Rattle.c_ast.specs.declared.typed.StmtKind.TheVariants.{rolls-If}
use Rattle.c_ast.specs.declared.typed.StmtKind.{Block, If, While, DoWhile, For}
use Rattle.qual_solve.specs.declared.constraint.Constraint.{Constraint}
use Rattle.qual_rules.specs.declared.flow.Source.{Source}
use Rattle.qual_rules.specs.Levels.{Comparison, compare, compare_all, one_pair, parameters_of}
use Rattle.qual_rules.specs.Flows.{Flow, flow_of, flow_step, both_ways, passed, passed_all, public, same_below, same_below_all}
use Rattle.qual_rules.specs.Rules.{statement_constraints, constraints_in, perhaps, perhaps_sources}
use Rattle.qual_rules.proofs.Counts.{levels_of}

-- TYPES

and_false : (a b : Bool) → false ≡ b → false ≡ (a && b)
and_false true b h = h
and_false false b h = refl

uneven : (fs : List (Ty → Comparison)) (ts : List Ty) → (length fs ≡ length ts → ⊥) → false ≡ (compare_all fs ts).same_shape
uneven [] [] h = absurd (h refl)
uneven [] (t ∷ ts) h = refl
uneven (f ∷ fs) [] h = refl
uneven (f ∷ fs) (t ∷ ts) h = and_false (f t).same_shape _ (uneven fs ts (λ e. h (omega (arith, e))))

-- lists of different lengths are not of one shape
pub lengths_differ : (one other : List Ty) → (length one ≡ length other → ⊥) → false ≡ (compare_all (map compare one) other).same_shape
lengths_differ one other h = uneven (map compare one) other (λ e. h (sym (length-map one compare) ∙ e))

and_right : (a b : Bool) → (a && b) ≡ true → b ≡ true
and_right true b h = h
and_right false b h = cc

even : (fs : List (Ty → Comparison)) (ts : List Ty) → (compare_all fs ts).same_shape ≡ true → length fs ≡ length ts
even [] [] h = refl
even [] (t ∷ ts) h = cc
even (f ∷ fs) [] h = cc
even (f ∷ fs) (t ∷ ts) h = let inner : length fs ≡ length ts = even fs ts (and_right (f t).same_shape _ h) in omega arith

functions_shape : (a b one other : Ty) (types others : List Ty) → a ≡ Fun one types → b ≡ Fun other others
    → (compare a b).same_shape ≡ ((compare one other).same_shape && (compare_all (map compare types) others).same_shape)
functions_shape a b one other types others p q = search (rules, tys.the_lemmas)

-- functions of one shape have as many parameters
pub same_lengths : (a b one other : Ty) (types others : List Ty) → a ≡ Fun one types → b ≡ Fun other others
    → (compare a b).same_shape ≡ true → length types ≡ length others
same_lengths a b one other types others p q h =
    let shape = functions_shape a b one other types others p q in
    sym (length-map types compare) ∙ even (map compare types) others (and_right (compare one other).same_shape _ (sym shape ∙ h))

pub function_levels : (a one : Ty) (types : List Ty) → a ≡ Fun one types → levels_of a ≡ 1 + levels_of one + sum (map levels_of types)
function_levels a one types p = search (rules, tys.the_lemmas)

functions_pairs : (a b one other : Ty) (types others : List Ty) → a ≡ Fun one types → b ≡ Fun other others
    → (compare a b).same_shape ≡ true → (compare a b).pairs ≡ (compare one other).pairs ++ (compare_all (map compare types) others).pairs
functions_pairs a b one other types others p q h = search (rules, tys.the_lemmas)

-- the constraints of two functions of one shape
pub functions_put : (place : ℕ) (a b one other one' other' : Ty) (types others types' others' : List Ty) → a ≡ Fun one types → b ≡ Fun other others
    → one' ≡ one → other' ≡ other → types' ≡ types → others' ≡ others → (compare a b).same_shape ≡ true
    → flat_map (both_ways place) (compare a b).pairs
    ≡ flat_map (both_ways place) (compare one' other').pairs ++ flat_map (both_ways place) (compare_all (map compare types') others').pairs
functions_put place a b one other one' other' types others types' others' p q r s t u h =
    let pairs = functions_pairs a b one other types others p q h in
    let split = flat_map-append (both_ways place) (compare one other).pairs (compare_all (map compare types) others).pairs in
    cc

pointers_pairs : (a b to to' : Ty) (q r : Qual) → a ≡ Ptr to q → b ≡ Ptr to' r → (compare a b).pairs ≡ one_pair q r ++ (compare to to').pairs
pointers_pairs a b to to' q r p s = search (rules, tys.the_lemmas)

-- the constraints of two pointers
pub pointers_put : (place : ℕ) (a b to to' now now' : Ty) (q r : Qual) → a ≡ Ptr to q → b ≡ Ptr to' r → now ≡ to → now' ≡ to'
    → flat_map (both_ways place) (compare a b).pairs
    ≡ both_ways place (record { first = q; second = r }) ++ flat_map (both_ways place) (compare now now').pairs
pointers_put place a b to to' now now' q r p s t u =
    let pairs : (compare a b).pairs ≡ record { first = q; second = r } ∷ (compare to to').pairs = pointers_pairs a b to to' q r p s in
    let one : compare now now' ≡ compare to to' = cc in
    ap (λ l. flat_map (both_ways place) l) pairs ∙ ap (λ (c : Comparison). both_ways place (record { first = q; second = r }) ++ flat_map (both_ways place) c.pairs) (sym one)

-- EXPRESSIONS

place_of_layer : (layer : Layer.ExprKind-F (ℕ → Ty → Flow) Flow) (place : ℕ) (ty : Ty) → (flow_step layer place ty).place ≡ place
place_of_layer (Layer.Num value) place ty = refl
place_of_layer (Layer.Str string) place ty = refl
place_of_layer (Layer.Local number) place ty = refl
place_of_layer (Layer.Global number) place ty = refl
place_of_layer (Layer.Func number) place ty = refl
place_of_layer (Layer.Stub number) place ty = refl
place_of_layer (Layer.Unary op e) place ty = refl
place_of_layer (Layer.Binary op a b) place ty = refl
place_of_layer (Layer.Logic op a b) place ty = refl
place_of_layer (Layer.Cond on first second) place ty = refl
place_of_layer (Layer.Assign to from) place ty = refl
place_of_layer (Layer.Call callee args) place ty = refl
place_of_layer (Layer.Index of at) place ty = refl
place_of_layer (Layer.Member of member) place ty = refl
place_of_layer (Layer.Arrow of member) place ty = refl
place_of_layer (Layer.Deref e) place ty = refl
place_of_layer (Layer.Addr e) place ty = refl
place_of_layer (Layer.Cast e) place ty = refl

ty_of_layer : (layer : Layer.ExprKind-F (ℕ → Ty → Flow) Flow) (place : ℕ) (ty : Ty) → (flow_step layer place ty).ty ≡ ty
ty_of_layer (Layer.Num value) place ty = refl
ty_of_layer (Layer.Str string) place ty = refl
ty_of_layer (Layer.Local number) place ty = refl
ty_of_layer (Layer.Global number) place ty = refl
ty_of_layer (Layer.Func number) place ty = refl
ty_of_layer (Layer.Stub number) place ty = refl
ty_of_layer (Layer.Unary op e) place ty = refl
ty_of_layer (Layer.Binary op a b) place ty = refl
ty_of_layer (Layer.Logic op a b) place ty = refl
ty_of_layer (Layer.Cond on first second) place ty = refl
ty_of_layer (Layer.Assign to from) place ty = refl
ty_of_layer (Layer.Call callee args) place ty = refl
ty_of_layer (Layer.Index of at) place ty = refl
ty_of_layer (Layer.Member of member) place ty = refl
ty_of_layer (Layer.Arrow of member) place ty = refl
ty_of_layer (Layer.Deref e) place ty = refl
ty_of_layer (Layer.Addr e) place ty = refl
ty_of_layer (Layer.Cast e) place ty = refl

pub place_of : (e : Expr) → (flow_of e).place ≡ e.place
place_of e = search (rules, kinds.the_lemmas, place_of_layer)

pub ty_of : (e : Expr) → (flow_of e).ty ≡ e.ty
ty_of e = search (rules, kinds.the_lemmas, ty_of_layer)

assign_is : (e to from : Expr) → e.kind ≡ Assign to from
    → (flow_of e).constraints
    ≡ (flow_of to).constraints ++ (flow_of from).constraints ++ passed (flow_of from).sources (flow_of to).ty
    ++ same_below (flow_of from).place (flow_of from).ty (flow_of to).ty
assign_is e to from is = search (rules, kinds.the_lemmas)

pub assign_put : (e to from to' from' : Expr) → e.kind ≡ Assign to from → to' ≡ to → from' ≡ from
    → (flow_of e).constraints
    ≡ (flow_of to').constraints ++ (flow_of from').constraints ++ passed (flow_of from').sources to'.ty ++ same_below from'.place from'.ty to'.ty
assign_put e to from to' from' is p q =
    rw (p, q) (assign_is e to from is
    ∙ ap (λ (t : Ty). (flow_of to).constraints ++ (flow_of from).constraints ++ passed (flow_of from).sources t ++ same_below (flow_of from).place (flow_of from).ty t) (ty_of to)
    ∙ ap (λ (n : ℕ). (flow_of to).constraints ++ (flow_of from).constraints ++ passed (flow_of from).sources to.ty ++ same_below n (flow_of from).ty to.ty) (place_of from)
    ∙ ap (λ (t : Ty). (flow_of to).constraints ++ (flow_of from).constraints ++ passed (flow_of from).sources to.ty ++ same_below from.place t to.ty) (ty_of from))

cond_is : (e on first second : Expr) → e.kind ≡ Cond on first second
    → (flow_of e).constraints
    ≡ (flow_of on).constraints ++ (flow_of first).constraints ++ (flow_of second).constraints
    ++ same_below (flow_of first).place (flow_of first).ty (flow_of second).ty ++ public (flow_of on).sources
cond_is e on first second is = search (rules, kinds.the_lemmas)

pub cond_put : (e on first second on' first' second' : Expr) → e.kind ≡ Cond on first second → on' ≡ on → first' ≡ first → second' ≡ second
    → (flow_of e).constraints
    ≡ (flow_of on').constraints ++ (flow_of first').constraints ++ (flow_of second').constraints
    ++ same_below first'.place first'.ty second'.ty ++ public (flow_of on').sources
cond_put e on first second on' first' second' is p q r =
    rw (p, q, r) (cond_is e on first second is
    ∙ ap (λ (n : ℕ). (flow_of on).constraints ++ (flow_of first).constraints ++ (flow_of second).constraints
    ++ same_below n (flow_of first).ty (flow_of second).ty ++ public (flow_of on).sources) (place_of first)
    ∙ ap (λ (t : Ty). (flow_of on).constraints ++ (flow_of first).constraints ++ (flow_of second).constraints
    ++ same_below first.place t (flow_of second).ty ++ public (flow_of on).sources) (ty_of first)
    ∙ ap (λ (t : Ty). (flow_of on).constraints ++ (flow_of first).constraints ++ (flow_of second).constraints
    ++ same_below first.place first.ty t ++ public (flow_of on).sources) (ty_of second))

cast_is : (e part : Expr) → e.kind ≡ Cast part
    → (flow_of e).constraints ≡ (flow_of part).constraints ++ same_below (flow_of part).place (flow_of part).ty e.ty
cast_is e part is = search (rules, kinds.the_lemmas)

pub cast_put : (e part part' : Expr) → e.kind ≡ Cast part → part' ≡ part
    → (flow_of e).constraints ≡ (flow_of part').constraints ++ same_below part'.place part'.ty e.ty
cast_put e part part' is p =
    rw p (cast_is e part is
    ∙ ap (λ (n : ℕ). (flow_of part).constraints ++ same_below n (flow_of part).ty e.ty) (place_of part)
    ∙ ap (λ (t : Ty). (flow_of part).constraints ++ same_below part.place t e.ty) (ty_of part))

call_is : (e callee : Expr) (args : List Expr) → e.kind ≡ Call callee args
    → (flow_of e).constraints
    ≡ (flow_of callee).constraints ++ flat_map (λ (a : Flow). a.constraints) (map flow_of args)
    ++ passed_all (map (λ (a : Flow). a.sources) (map flow_of args)) (parameters_of (flow_of callee).ty)
    ++ same_below_all (map flow_of args) (parameters_of (flow_of callee).ty) ++ public (flow_of callee).sources
call_is e callee args is = search (rules, kinds.the_lemmas)

all_constraints : (args : List Expr) → flat_map (λ (a : Flow). a.constraints) (map flow_of args) ≡ flat_map (λ (a : Expr). (flow_of a).constraints) args
all_constraints [] = refl
all_constraints (a ∷ args) = ap (λ l. (flow_of a).constraints ++ l) (all_constraints args)

all_sources : (args : List Expr) → map (λ (a : Flow). a.sources) (map flow_of args) ≡ map (λ (a : Expr). (flow_of a).sources) args
all_sources [] = refl
all_sources (a ∷ args) = ap (λ l. (flow_of a).sources ∷ l) (all_sources args)

pub call_put : (e callee callee' : Expr) (args args' : List Expr) → e.kind ≡ Call callee args → callee' ≡ callee → args' ≡ args
    → (flow_of e).constraints
    ≡ (flow_of callee').constraints ++ flat_map (λ (a : Expr). (flow_of a).constraints) args'
    ++ passed_all (map (λ (a : Expr). (flow_of a).sources) args') (parameters_of callee'.ty)
    ++ same_below_all (map flow_of args') (parameters_of callee'.ty) ++ public (flow_of callee').sources
call_put e callee callee' args args' is p q =
    rw (p, q) (call_is e callee args is
    ∙ ap (λ (l : List Constraint). (flow_of callee).constraints ++ l
    ++ passed_all (map (λ (a : Flow). a.sources) (map flow_of args)) (parameters_of (flow_of callee).ty)
    ++ same_below_all (map flow_of args) (parameters_of (flow_of callee).ty) ++ public (flow_of callee).sources) (all_constraints args)
    ∙ ap (λ (l : List (List Source)). (flow_of callee).constraints ++ flat_map (λ (a : Expr). (flow_of a).constraints) args
    ++ passed_all l (parameters_of (flow_of callee).ty)
    ++ same_below_all (map flow_of args) (parameters_of (flow_of callee).ty) ++ public (flow_of callee).sources) (all_sources args)
    ∙ ap (λ (t : Ty). (flow_of callee).constraints ++ flat_map (λ (a : Expr). (flow_of a).constraints) args
    ++ passed_all (map (λ (a : Expr). (flow_of a).sources) args) (parameters_of t)
    ++ same_below_all (map flow_of args) (parameters_of t) ++ public (flow_of callee).sources) (ty_of callee))

index_is : (e of at : Expr) → e.kind ≡ Index of at
    → (flow_of e).constraints ≡ (flow_of of).constraints ++ (flow_of at).constraints ++ public ((flow_of of).sources ++ (flow_of at).sources)
index_is e of at is = search (rules, kinds.the_lemmas)

pub index_put : (e of at of' at' : Expr) (seen : List Source) → e.kind ≡ Index of at → of' ≡ of → at' ≡ at → seen ≡ (flow_of of').sources ++ (flow_of at').sources
    → (flow_of e).constraints ≡ (flow_of of').constraints ++ (flow_of at').constraints ++ public seen
index_put e of at of' at' seen is p q s = rw (s, p, q) (index_is e of at is)

arrow_is : (e of : Expr) (member : ℕ) → e.kind ≡ Arrow of member
    → (flow_of e).constraints ≡ (flow_of of).constraints ++ public (flow_of of).sources
arrow_is e of member is = search (rules, kinds.the_lemmas)

deref_is : (e of : Expr) → e.kind ≡ Deref of
    → (flow_of e).constraints ≡ (flow_of of).constraints ++ public (flow_of of).sources
deref_is e of is = search (rules, kinds.the_lemmas)

pub arrow_put : (e of of' : Expr) (seen : List Source) → ((x : ℕ) × (e.kind ≡ Arrow of x)) ⊎ (e.kind ≡ Deref of) → of' ≡ of → seen ≡ (flow_of of').sources
    → (flow_of e).constraints ≡ (flow_of of').constraints ++ public seen
arrow_put e of of' seen (inl (member, is)) p q = rw (q, p) (arrow_is e of member is)
arrow_put e of of' seen (inr is) p q = rw (q, p) (deref_is e of is)

-- STATEMENTS

block_is : (s : Stmt) (ret : Ty) (items : List Stmt) → s.kind ≡ Block items → statement_constraints s ret ≡ flat_map (λ (i : Ty → List Constraint). i ret) (map statement_constraints items)
block_is s ret items is = search (rules, stmts.the_lemmas)

all_items : (ret : Ty) (items : List Stmt) → flat_map (λ (i : Ty → List Constraint). i ret) (map statement_constraints items) ≡ flat_map (λ (s : Stmt). statement_constraints s ret) items
all_items ret [] = refl
all_items ret (s ∷ items) = ap (λ l. statement_constraints s ret ++ l) (all_items ret items)

pub block_put : (s : Stmt) (ret : Ty) (items items' : List Stmt) → s.kind ≡ Block items → items' ≡ items
    → statement_constraints s ret ≡ flat_map (λ (s : Stmt). statement_constraints s ret) items'
block_put s ret items items' is p = rw p (block_is s ret items is ∙ all_items ret items)

while_is : (s : Stmt) (ret : Ty) (on : Expr) (body : Stmt) → s.kind ≡ While on body
    → statement_constraints s ret ≡ constraints_in on ++ statement_constraints body ret ++ public (flow_of on).sources
while_is s ret on body is = search (rules, stmts.the_lemmas)

pub while_put : (s : Stmt) (ret : Ty) (on on' : Expr) (body body' : Stmt) (seen : List Source) → s.kind ≡ While on body → on' ≡ on → body' ≡ body → seen ≡ (flow_of on').sources
    → statement_constraints s ret ≡ constraints_in on' ++ statement_constraints body' ret ++ public seen
while_put s ret on on' body body' seen is p q e = rw (e, p, q) (while_is s ret on body is)

do_while_is : (s : Stmt) (ret : Ty) (on : Expr) (body : Stmt) → s.kind ≡ DoWhile body on
    → statement_constraints s ret ≡ statement_constraints body ret ++ constraints_in on ++ public (flow_of on).sources
do_while_is s ret on body is = search (rules, stmts.the_lemmas)

pub do_while_put : (s : Stmt) (ret : Ty) (on on' : Expr) (body body' : Stmt) (seen : List Source) → s.kind ≡ DoWhile body on → on' ≡ on → body' ≡ body → seen ≡ (flow_of on').sources
    → statement_constraints s ret ≡ statement_constraints body' ret ++ constraints_in on' ++ public seen
do_while_put s ret on on' body body' seen is p q e = rw (e, p, q) (do_while_is s ret on body is)

for_is : (s : Stmt) (ret : Ty) (first on after : Option Expr) (body : Stmt) → s.kind ≡ For first on after body
    → statement_constraints s ret ≡ perhaps first ++ perhaps on ++ perhaps after ++ statement_constraints body ret ++ public (perhaps_sources on)
for_is s ret first on after body is = search (rules, stmts.the_lemmas)

pub for_put : (s : Stmt) (ret : Ty) (first on after : Option Expr) (body body' : Stmt) (seen : List Source) → s.kind ≡ For first on after body → body' ≡ body → seen ≡ perhaps_sources on
    → statement_constraints s ret ≡ perhaps first ++ perhaps on ++ perhaps after ++ statement_constraints body' ret ++ public seen
for_put s ret first on after body body' seen is p e = rw (e, p) (for_is s ret first on after body is)

-- the constraints of a branch that may be missing
abbrev pub other_branch : Option Stmt → Ty → List Constraint
other_branch None ret = []
other_branch (Some s) ret = statement_constraints s ret

if_is : (s : Stmt) (ret : Ty) (on : Expr) (first : Stmt) (second : Option Stmt) → s.kind ≡ If on first second
    → statement_constraints s ret ≡ constraints_in on ++ statement_constraints first ret ++ other_branch second ret ++ public (flow_of on).sources
if_is s ret on first None is = search (rules, stmts.the_lemmas)
if_is s ret on first (Some second) is =
    let o : s.kind ≡ roll-StmtKind (Parts.If on first (Some second)) = is ∙ sym (rolls-If on first (Some second)) in
    search (rules, stmts.the_lemmas, o)

pub if_put : (s : Stmt) (ret : Ty) (on on' : Expr) (first first' : Stmt) (second : Option Stmt) (seen : List Source)
    → s.kind ≡ If on first second → on' ≡ on → first' ≡ first → seen ≡ (flow_of on').sources
    → statement_constraints s ret ≡ constraints_in on' ++ statement_constraints first' ret ++ other_branch second ret ++ public seen
if_put s ret on on' first first' second seen is p q e = rw (e, p, q) (if_is s ret on first second is)
