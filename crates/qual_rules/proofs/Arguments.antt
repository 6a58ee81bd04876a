-- Arguments and parameters, one by one.
use Rattle.std.proofs.Common.{◌≡◌, ℕ, ◌+◌, ◌<◌, ◌≤◌, List, [], ◌∷◌, ◌++◌, length, get_or, drop, map, refl, sym, ap, ◌∙◌, append-nil}
use Rattle.std.proofs.lemmas.List.{drop_more, drop_all}
use Rattle.c_ast.specs.declared.qualifiers.Ty.{Ty}
use Rattle.c_ast.specs.declared.typed.Expr.{Expr}
use Rattle.qual_solve.specs.declared.constraint.Constraint.{Constraint}
use Rattle.qual_rules.specs.declared.flow.Source.{Source}
use Rattle.qual_rules.specs.Flows.{Flow, flow_of, passed_all, same_below, same_below_all}
use Rattle.qual_rules.proofs.Equations.{place_of, ty_of}

no_types : (all : List (List Source)) → passed_all all [] ≡ []
no_types [] = refl
no_types (a ∷ all) = refl

pub passed_over : (all : List (List Source)) (types : List Ty) (i : ℕ) → length types ≤ i → passed_all (drop i all) (drop i types) ≡ []
passed_over all types i past = ap (λ l. passed_all (drop i all) l) (drop_all i types past) ∙ no_types (drop i all)

same_none : (all : List Flow) → same_below_all all [] ≡ []
same_none [] = refl
same_none (a ∷ all) = refl

pub same_over : (args : List Expr) (types : List Ty) (i : ℕ) → length types ≤ i → same_below_all (map flow_of (drop i args)) (drop i types) ≡ []
same_over args types i past = ap (λ l. same_below_all (map flow_of (drop i args)) l) (drop_all i types past) ∙ same_none (map flow_of (drop i args))

same_next : (args : List Expr) (types : List Ty) (i : ℕ) (a : Expr) (t : Ty) → i < length args → i < length types
    → same_below_all (map flow_of (drop i args)) (drop i types)
    ≡ same_below (flow_of (get_or args i a)).place (flow_of (get_or args i a)).ty (get_or types i t) ++ same_below_all (map flow_of (drop (i + 1) args)) (drop (i + 1) types)
same_next args types i a t one two =
    ap (λ l. same_below_all (map flow_of l) (drop i types)) (drop_more args i a one) ∙ ap (λ l. same_below_all (map flow_of (get_or args i a ∷ drop (i + 1) args)) l) (drop_more types i t two)

-- the same of an argument and a parameter that were read
pub same_put : (args : List Expr) (types : List Ty) (i : ℕ) (a : Expr) (t : Ty) → i < length args → i < length types → a ≡ get_or args i a → t ≡ get_or types i t
    → same_below_all (map flow_of (drop i args)) (drop i types)
    ≡ same_below a.place a.ty t ++ same_below_all (map flow_of (drop (i + 1) args)) (drop (i + 1) types)
same_put args types i a t one two p q =
    let whole = same_next args types i a t one two in
    let place : (flow_of (get_or args i a)).place ≡ a.place = place_of (get_or args i a) ∙ ap (λ (e : Expr). e.place) (sym p) in
    let ty : (flow_of (get_or args i a)).ty ≡ a.ty = ty_of (get_or args i a) ∙ ap (λ (e : Expr). e.ty) (sym p) in
    whole ∙ ap (λ (n : ℕ). same_below n (flow_of (get_or args i a)).ty (get_or types i t) ++ same_below_all (map flow_of (drop (i + 1) args)) (drop (i + 1) types)) place
    ∙ ap (λ (s : Ty). same_below a.place s (get_or types i t) ++ same_below_all (map flow_of (drop (i + 1) args)) (drop (i + 1) types)) ty
    ∙ ap (λ (s : Ty). same_below a.place a.ty s ++ same_below_all (map flow_of (drop (i + 1) args)) (drop (i + 1) types)) (sym q)

-- no parameters, nothing put
pub nothing_put : (old : List Constraint) (all : List (List Source)) (args : List Expr) (types : List Ty) → types ≡ []
    → old ≡ old ++ (passed_all all types ++ same_below_all (map flow_of args) types)
nothing_put old all args types none =
    sym (append-nil old) ∙ ap (λ (l : List Constraint). old ++ (l ++ [])) (sym (no_types all))
    ∙ ap (λ (l : List Constraint). old ++ (passed_all all [] ++ l)) (sym (same_none (map flow_of args)))
    ∙ ap (λ (ts : List Ty). old ++ (passed_all all ts ++ same_below_all (map flow_of args) ts)) (sym none)
