-- The grammar, and the same with common beginnings taken out, have the same runs.
use Rattle.std.proofs.Common.{lit<, ◌≡◌, List, [], ◌∷◌, ◌++◌, refl, sym, subst, inl, inr, Bool, true, false, cond}
use Rattle.std.specs.Prelude.{Contains, ◌⊎◌}
use Rattle.c_lexer.proofs.Lists.{member_cases}
use Rattle.c_grammar.specs.declared.words.Terminal.TheVariants.{Name, Open, Close, Star, Semicolon, Equals}
use Rattle.c_grammar.specs.Steps.{First, MakeDeclarator, MakePointer, MakeInitialised, MakeDeclaration, MakeObject, MakePrototype, MakeFunction, MakeAssign}
use Rattle.c_grammar.specs.Grammar.{EitherLevel, BothLevel, OrLevel, XorLevel, AndLevel, EqualLevel, OrderLevel, ShiftLevel, SumLevel, ProductLevel, AfterPointer, AfterStars, AfterName, AfterParameters, AfterObject, AfterUnary, Form, Top, Structure, Specifier, Pointer, Declarator, Declaration, Object, Prototype, Function, PerhapsLength, PerhapsStart, PerhapsPrivate, MoreObjects, Parameters, ParameterTypes, Block, Assign, Conditional, At, Unary, Cast, Left, In, Out, Symbol, T, L, N, M, B, Table, rules}
use Rattle.c_grammar.specs.Ways.{operands_left, typed_operand, ways}
use Rattle.c_grammar.specs.Reading.{State, Nested, Ending, Run, stop, done, token, leaf, here, mark, step, unless, rule}
use Rattle.c_grammar.proofs.Runs.{split, exchange, only, either, one_is, two_are, by_way}

-- ---- assignments

from_conditional : (k : List Symbol) (s : State) (way : List Nested) (e : Ending)
    → Run ways s (N Conditional ∷ M Out ∷ k) way e → Run ways s (N Cast ∷ (operands_left ++ k)) way e
from_conditional k s way e run =
    only ways (At ProductLevel) _ refl _ s way e
    (only ways (At SumLevel) _ refl _ s way e
    (only ways (At ShiftLevel) _ refl _ s way e
    (only ways (At OrderLevel) _ refl _ s way e
    (only ways (At EqualLevel) _ refl _ s way e
    (only ways (At AndLevel) _ refl _ s way e
    (only ways (At XorLevel) _ refl _ s way e
    (only ways (At OrLevel) _ refl _ s way e
    (only ways (At BothLevel) _ refl _ s way e
    (only ways (At EitherLevel) _ refl _ s way e
    (only ways Conditional _ refl (M Out ∷ k) s way e run))))))))))

to_conditional : (k : List Symbol) (s : State) (way : List Nested) (e : Ending)
    → Run rules s (N Cast ∷ (operands_left ++ k)) way e → Run rules s (N Conditional ∷ M Out ∷ k) way e
to_conditional k s way e run =
    by_way rules Conditional 0 (lit< tt) (M Out ∷ k) s way e
    (by_way rules (At EitherLevel) 0 (lit< tt) _ s way e
    (by_way rules (At BothLevel) 0 (lit< tt) _ s way e
    (by_way rules (At OrLevel) 0 (lit< tt) _ s way e
    (by_way rules (At XorLevel) 0 (lit< tt) _ s way e
    (by_way rules (At AndLevel) 0 (lit< tt) _ s way e
    (by_way rules (At EqualLevel) 0 (lit< tt) _ s way e
    (by_way rules (At OrderLevel) 0 (lit< tt) _ s way e
    (by_way rules (At ShiftLevel) 0 (lit< tt) _ s way e
    (by_way rules (At SumLevel) 0 (lit< tt) _ s way e
    (by_way rules (At ProductLevel) 0 (lit< tt) _ s way e run))))))))))

abbrev assigned : List Symbol
assigned = T Equals ∷ N Assign ∷ B MakeAssign ∷ M Out ∷ []

-- to the ways with the operand taken out
assign_0 : (k : List Symbol) (s : State) (way : List Nested) (e : Ending)
    → Run ways s (M In ∷ N Unary ∷ (assigned ++ k)) way e → Run ways s (N Assign ∷ k) way e
assign_0 k s way e run =
    by_way ways Assign 0 (lit< tt) k s way e
    (exchange ways (M In ∷ N Unary ∷ []) (assigned ++ k) (N (Left AfterUnary) ∷ k) (by_way ways (Left AfterUnary) 0 (lit< tt) k) s way e run)

assign_either : (k : List Symbol) (s : State) (way : List Nested) (e : Ending) (b : Bool)
    → Run ways s (M In ∷ (cond b typed_operand (N Unary ∷ []) ++ (operands_left ++ k))) way e → Run ways s (N Assign ∷ k) way e
assign_either k s way e true run = by_way ways Assign 1 (lit< tt) k s way e run
assign_either k s way e false run =
    by_way ways Assign 0 (lit< tt) k s way e
    (exchange ways (M In ∷ N Unary ∷ []) (operands_left ++ k) (N (Left AfterUnary) ∷ k) (by_way ways (Left AfterUnary) 1 (lit< tt) k) s way e run)

assign_1 : (k : List Symbol) (s : State) (way : List Nested) (e : Ending)
    → Run ways s (M In ∷ N Conditional ∷ M Out ∷ k) way e → Run ways s (N Assign ∷ k) way e
assign_1 k s way e run =
    let cast = exchange ways (M In ∷ []) (N Conditional ∷ M Out ∷ k) (N Cast ∷ (operands_left ++ k)) (from_conditional k) s way e run in
    let r = split ways Bool true (N Cast ∷ (operands_left ++ k)) (λ b. cond b typed_operand (N Unary ∷ []) ++ (operands_left ++ k))
    (either ways Cast typed_operand (N Unary ∷ []) refl (operands_left ++ k)) s (M In ∷ N Cast ∷ (operands_left ++ k)) way e (M In ∷ []) cast refl in
    assign_either k s way e r.0 r.1

pub to_assign : (k parts : List Symbol) (s : State) (way : List Nested) (e : Ending) → Contains (rules Assign) parts
    → Run ways s (parts ++ k) way e → Run ways s (N Assign ∷ k) way e
to_assign k parts s way e among run =
    elim (two_are (M In ∷ N Unary ∷ assigned) (M In ∷ N Conditional ∷ M Out ∷ []) parts among) [
      | inl is ↦ assign_0 k s way e (subst (λ (l : List Symbol). Run ways s (l ++ k) way e) (sym is) run)
      | inr is ↦ assign_1 k s way e (subst (λ (l : List Symbol). Run ways s (l ++ k) way e) (sym is) run)
    ]

-- and back
unassign_0 : (k : List Symbol) (s : State) (way : List Nested) (e : Ending) (b : Bool)
    → Run rules s (M In ∷ N Unary ∷ (cond b assigned operands_left ++ k)) way e → Run rules s (N Assign ∷ k) way e
unassign_0 k s way e true run = by_way rules Assign 0 (lit< tt) k s way e run
unassign_0 k s way e false run =
    by_way rules Assign 1 (lit< tt) k s way e
    (exchange rules (M In ∷ []) (N Unary ∷ (operands_left ++ k)) (N Conditional ∷ M Out ∷ k)
    (λ s' way' e' r. to_conditional k s' way' e' (by_way rules Cast 1 (lit< tt) (operands_left ++ k) s' way' e' r)) s way e run)

unassign_1 : (k : List Symbol) (s : State) (way : List Nested) (e : Ending)
    → Run rules s (M In ∷ (typed_operand ++ (operands_left ++ k))) way e → Run rules s (N Assign ∷ k) way e
unassign_1 k s way e run =
    by_way rules Assign 1 (lit< tt) k s way e
    (exchange rules (M In ∷ []) (typed_operand ++ (operands_left ++ k)) (N Conditional ∷ M Out ∷ k)
    (λ s' way' e' r. to_conditional k s' way' e' (by_way rules Cast 0 (lit< tt) (operands_left ++ k) s' way' e' r)) s way e run)

pub from_assign : (k parts : List Symbol) (s : State) (way : List Nested) (e : Ending) → Contains (ways Assign) parts
    → Run rules s (parts ++ k) way e → Run rules s (N Assign ∷ k) way e
from_assign k parts s way e among run =
    elim (two_are (M In ∷ N Unary ∷ N (Left AfterUnary) ∷ []) (M In ∷ (typed_operand ++ operands_left)) parts among) [
      | inl is ↦
          let r = split rules Bool true (N (Left AfterUnary) ∷ k) (λ b. cond b assigned operands_left ++ k)
          (either rules (Left AfterUnary) assigned operands_left refl k) s (M In ∷ N Unary ∷ N (Left AfterUnary) ∷ k) way e (M In ∷ N Unary ∷ [])
          (subst (λ (l : List Symbol). Run rules s (l ++ k) way e) (sym is) run) refl in
          unassign_0 k s way e r.0 r.1
      | inr is ↦ unassign_1 k s way e (subst (λ (l : List Symbol). Run rules s (l ++ k) way e) (sym is) run)
    ]

-- ---- declarators

abbrev named : List Symbol
named = L Name ∷ N PerhapsLength ∷ B MakeDeclarator ∷ []

abbrev pointed : List Symbol
pointed = T Open ∷ T Star ∷ N PerhapsPrivate ∷ L Name ∷ T Close ∷ T Open ∷ N ParameterTypes ∷ T Close ∷ B MakePointer ∷ []

pub to_declarator : (k parts : List Symbol) (s : State) (way : List Nested) (e : Ending) → Contains (rules Declarator) parts
    → Run ways s (parts ++ k) way e → Run ways s (N Declarator ∷ k) way e
to_declarator k parts s way e among run =
    by_way ways Declarator 0 (lit< tt) k s way e
    (elim (two_are (N Pointer ∷ named) (N Pointer ∷ pointed) parts among) [
      | inl is ↦ exchange ways (N Pointer ∷ []) (named ++ k) (N (Left AfterPointer) ∷ k) (by_way ways (Left AfterPointer) 0 (lit< tt) k) s way e
          (subst (λ (l : List Symbol). Run ways s (l ++ k) way e) (sym is) run)
      | inr is ↦ exchange ways (N Pointer ∷ []) (pointed ++ k) (N (Left AfterPointer) ∷ k) (by_way ways (Left AfterPointer) 1 (lit< tt) k) s way e
          (subst (λ (l : List Symbol). Run ways s (l ++ k) way e) (sym is) run)
    ])

from_pointer : (k : List Symbol) (s : State) (way : List Nested) (e : Ending) (b : Bool)
    → Run rules s (N Pointer ∷ (cond b named pointed ++ k)) way e → Run rules s (N Declarator ∷ k) way e
from_pointer k s way e true run = by_way rules Declarator 0 (lit< tt) k s way e run
from_pointer k s way e false run = by_way rules Declarator 1 (lit< tt) k s way e run

-- a pointer with what is left of a declarator is a declarator
declared : (k : List Symbol) (s : State) (way : List Nested) (e : Ending)
    → Run rules s (N Pointer ∷ N (Left AfterPointer) ∷ k) way e → Run rules s (N Declarator ∷ k) way e
declared k s way e run =
    let r = split rules Bool true (N (Left AfterPointer) ∷ k) (λ b. cond b named pointed ++ k)
    (either rules (Left AfterPointer) named pointed refl k) s (N Pointer ∷ N (Left AfterPointer) ∷ k) way e (N Pointer ∷ []) run refl in
    from_pointer k s way e r.0 r.1

pub from_declarator : (k parts : List Symbol) (s : State) (way : List Nested) (e : Ending) → Contains (ways Declarator) parts
    → Run rules s (parts ++ k) way e → Run rules s (N Declarator ∷ k) way e
from_declarator k parts s way e among run =
    declared k s way e (subst (λ (l : List Symbol). Run rules s (l ++ k) way e) (sym (one_is (N Pointer ∷ N (Left AfterPointer) ∷ []) parts among)) run)

-- ---- what stands at the top

-- behind the first object of a declaration, and behind its declarator
abbrev more_objects : List Symbol
more_objects = B First ∷ N MoreObjects ∷ T Semicolon ∷ B MakeDeclaration ∷ B MakeObject ∷ []

abbrev object_left : List Symbol
object_left = N PerhapsStart ∷ B MakeInitialised ∷ more_objects

abbrev parameters : List Symbol
parameters = T Open ∷ N Parameters ∷ T Close ∷ []

abbrev prototype_left : List Symbol
prototype_left = T Semicolon ∷ B MakePrototype ∷ []

abbrev function_left : List Symbol
function_left = M In ∷ N Block ∷ M Out ∷ B MakeFunction ∷ []

to_stars_object : (k : List Symbol) (s : State) (way : List Nested) (e : Ending) (b : Bool)
    → Run ways s (cond b named pointed ++ (object_left ++ k)) way e → Run ways s (N (Left AfterStars) ∷ k) way e
to_stars_object k s way e true run =
    by_way ways (Left AfterStars) 0 (lit< tt) k s way e
    (exchange ways (L Name ∷ []) (N PerhapsLength ∷ B MakeDeclarator ∷ (object_left ++ k)) (N (Left AfterName) ∷ k)
    (λ s' way' e' r. by_way ways (Left AfterName) 1 (lit< tt) k s' way' e'
    (exchange ways (N PerhapsLength ∷ B MakeDeclarator ∷ []) (object_left ++ k) (N (Left AfterObject) ∷ k)
    (by_way ways (Left AfterObject) 0 (lit< tt) k) s' way' e' r)) s way e run)
to_stars_object k s way e false run =
    by_way ways (Left AfterStars) 1 (lit< tt) k s way e
    (exchange ways pointed (object_left ++ k) (N (Left AfterObject) ∷ k) (by_way ways (Left AfterObject) 0 (lit< tt) k) s way e run)

to_pointer_object : (k : List Symbol) (s : State) (way : List Nested) (e : Ending)
    → Run ways s (N Object ∷ (more_objects ++ k)) way e → Run ways s (N Pointer ∷ N (Left AfterStars) ∷ k) way e
to_pointer_object k s way e run =
    exchange ways (N Pointer ∷ []) (N (Left AfterPointer) ∷ (object_left ++ k)) (N (Left AfterStars) ∷ k)
    (λ s' way' e' r. let b = either ways (Left AfterPointer) named pointed refl (object_left ++ k) s' way' e' r in to_stars_object k s' way' e' b.0 b.1)
    s way e
    (only ways Declarator (N Pointer ∷ N (Left AfterPointer) ∷ []) refl (object_left ++ k) s way e
    (only ways Object (N Declarator ∷ N PerhapsStart ∷ B MakeInitialised ∷ []) refl (more_objects ++ k) s way e run))

top_declaration : (k : List Symbol) (s : State) (way : List Nested) (e : Ending)
    → Run ways s (N Declaration ∷ B MakeObject ∷ k) way e → Run ways s (N Top ∷ k) way e
top_declaration k s way e run =
    by_way ways Top 1 (lit< tt) k s way e
    (exchange ways (N Specifier ∷ []) (N Object ∷ (more_objects ++ k)) (N Pointer ∷ N (Left AfterStars) ∷ k) (to_pointer_object k) s way e
    (only ways Declaration (N Specifier ∷ N Object ∷ B First ∷ N MoreObjects ∷ T Semicolon ∷ B MakeDeclaration ∷ []) refl (B MakeObject ∷ k) s way e run))

top_named : (k left : List Symbol) → ((s : State) (way : List Nested) (e : Ending) → Run ways s (left ++ k) way e → Run ways s (N (Left AfterParameters) ∷ k) way e)
    → (s : State) (way : List Nested) (e : Ending) → Run ways s (N Specifier ∷ N Pointer ∷ L Name ∷ (parameters ++ (left ++ k))) way e → Run ways s (N Top ∷ k) way e
top_named k left onto s way e run =
    by_way ways Top 1 (lit< tt) k s way e
    (exchange ways (N Specifier ∷ N Pointer ∷ []) (L Name ∷ (parameters ++ (left ++ k))) (N (Left AfterStars) ∷ k)
    (λ s' way' e' r. by_way ways (Left AfterStars) 0 (lit< tt) k s' way' e'
    (exchange ways (L Name ∷ []) (parameters ++ (left ++ k)) (N (Left AfterName) ∷ k)
    (λ s'' way'' e'' r'. by_way ways (Left AfterName) 0 (lit< tt) k s'' way'' e''
    (exchange ways parameters (left ++ k) (N (Left AfterParameters) ∷ k) onto s'' way'' e'' r')) s' way' e' r)) s way e run)

four_are : (a b c d x : List Symbol) → Contains (a ∷ b ∷ c ∷ d ∷ []) x → (a ≡ x) ⊎ ((b ≡ x) ⊎ ((c ≡ x) ⊎ (d ≡ x)))
four_are a b c d x h =
    elim (member_cases a (b ∷ c ∷ d ∷ []) x h) [
      | inl is ↦ inl is
      | inr more ↦ elim (member_cases b (c ∷ d ∷ []) x more) [ inl is ↦ inr (inl is) | inr last ↦ inr (inr (two_are c d x last)) ]
    ]

pub to_top : (k parts : List Symbol) (s : State) (way : List Nested) (e : Ending) → Contains (rules Top) parts
    → Run ways s (parts ++ k) way e → Run ways s (N Top ∷ k) way e
to_top k parts s way e among run =
    elim (four_are (N Structure ∷ []) (N Declaration ∷ B MakeObject ∷ []) (N Prototype ∷ []) (N Function ∷ []) parts among) [
      | inl is ↦ by_way ways Top 0 (lit< tt) k s way e (subst (λ (l : List Symbol). Run ways s (l ++ k) way e) (sym is) run)
      | inr (inl is) ↦ top_declaration k s way e (subst (λ (l : List Symbol). Run ways s (l ++ k) way e) (sym is) run)
      | inr (inr (inl is)) ↦
          top_named k prototype_left (by_way ways (Left AfterParameters) 0 (lit< tt) k) s way e
          (only ways Prototype (N Specifier ∷ N Pointer ∷ L Name ∷ (parameters ++ prototype_left)) refl k s way e
          (subst (λ (l : List Symbol). Run ways s (l ++ k) way e) (sym is) run))
      | inr (inr (inr is)) ↦
          top_named k function_left (by_way ways (Left AfterParameters) 1 (lit< tt) k) s way e
          (only ways Function (N Specifier ∷ N Pointer ∷ L Name ∷ (parameters ++ function_left)) refl k s way e
          (subst (λ (l : List Symbol). Run ways s (l ++ k) way e) (sym is) run))
    ]

-- and back
back_object : (k d : List Symbol) → ((j : List Symbol) (s : State) (way : List Nested) (e : Ending) → Run rules s (N Pointer ∷ (d ++ j)) way e → Run rules s (N Declarator ∷ j) way e)
    → (s : State) (way : List Nested) (e : Ending) → Run rules s (N Specifier ∷ N Pointer ∷ (d ++ (object_left ++ k))) way e → Run rules s (N Top ∷ k) way e
back_object k d onto s way e run =
    by_way rules Top 1 (lit< tt) k s way e
    (by_way rules Declaration 0 (lit< tt) (B MakeObject ∷ k) s way e
    (exchange rules (N Specifier ∷ []) (N Pointer ∷ (d ++ (object_left ++ k))) (N Object ∷ (more_objects ++ k))
    (λ s' way' e' r. by_way rules Object 0 (lit< tt) (more_objects ++ k) s' way' e' (onto (object_left ++ k) s' way' e' r)) s way e run))

back_parameters : (k : List Symbol) (s : State) (way : List Nested) (e : Ending) (b : Bool)
    → Run rules s (N Specifier ∷ N Pointer ∷ L Name ∷ (parameters ++ (cond b prototype_left function_left ++ k))) way e → Run rules s (N Top ∷ k) way e
back_parameters k s way e true run = by_way rules Top 2 (lit< tt) k s way e (by_way rules Prototype 0 (lit< tt) k s way e run)
back_parameters k s way e false run = by_way rules Top 3 (lit< tt) k s way e (by_way rules Function 0 (lit< tt) k s way e run)

back_name : (k : List Symbol) (s : State) (way : List Nested) (e : Ending) (b : Bool)
    → Run rules s (N Specifier ∷ N Pointer ∷ L Name ∷ (cond b (T Open ∷ N Parameters ∷ T Close ∷ N (Left AfterParameters) ∷ []) (N PerhapsLength ∷ B MakeDeclarator ∷ N (Left AfterObject) ∷ []) ++ k)) way e
    → Run rules s (N Top ∷ k) way e
back_name k s way e true run =
    let r = split rules Bool true (N (Left AfterParameters) ∷ k) (λ b. cond b prototype_left function_left ++ k)
    (either rules (Left AfterParameters) prototype_left function_left refl k) s (N Specifier ∷ N Pointer ∷ L Name ∷ (parameters ++ (N (Left AfterParameters) ∷ k))) way e
    (N Specifier ∷ N Pointer ∷ L Name ∷ parameters) run refl in
    back_parameters k s way e r.0 r.1
back_name k s way e false run =
    back_object k named (λ j s' way' e' r. by_way rules Declarator 0 (lit< tt) j s' way' e' r) s way e
    (exchange rules (N Specifier ∷ N Pointer ∷ named) (N (Left AfterObject) ∷ k) (object_left ++ k) (only rules (Left AfterObject) object_left refl k) s way e run)

back_stars : (k : List Symbol) (s : State) (way : List Nested) (e : Ending) (b : Bool)
    → Run rules s (N Specifier ∷ N Pointer ∷ (cond b (L Name ∷ N (Left AfterName) ∷ []) (pointed ++ (N (Left AfterObject) ∷ [])) ++ k)) way e
    → Run rules s (N Top ∷ k) way e
back_stars k s way e true run =
    let r = split rules Bool true (N (Left AfterName) ∷ k)
    (λ b. cond b (T Open ∷ N Parameters ∷ T Close ∷ N (Left AfterParameters) ∷ []) (N PerhapsLength ∷ B MakeDeclarator ∷ N (Left AfterObject) ∷ []) ++ k)
    (either rules (Left AfterName) (T Open ∷ N Parameters ∷ T Close ∷ N (Left AfterParameters) ∷ []) (N PerhapsLength ∷ B MakeDeclarator ∷ N (Left AfterObject) ∷ []) refl k)
    s (N Specifier ∷ N Pointer ∷ L Name ∷ N (Left AfterName) ∷ k) way e (N Specifier ∷ N Pointer ∷ L Name ∷ []) run refl in
    back_name k s way e r.0 r.1
back_stars k s way e false run =
    back_object k pointed (λ j s' way' e' r. by_way rules Declarator 1 (lit< tt) j s' way' e' r) s way e
    (exchange rules (N Specifier ∷ N Pointer ∷ pointed) (N (Left AfterObject) ∷ k) (object_left ++ k) (only rules (Left AfterObject) object_left refl k) s way e run)

pub from_top : (k parts : List Symbol) (s : State) (way : List Nested) (e : Ending) → Contains (ways Top) parts
    → Run rules s (parts ++ k) way e → Run rules s (N Top ∷ k) way e
from_top k parts s way e among run =
    elim (two_are (N Structure ∷ []) (N Specifier ∷ N Pointer ∷ N (Left AfterStars) ∷ []) parts among) [
      | inl is ↦ by_way rules Top 0 (lit< tt) k s way e (subst (λ (l : List Symbol). Run rules s (l ++ k) way e) (sym is) run)
      | inr is ↦
          let r = split rules Bool true (N (Left AfterStars) ∷ k) (λ b. cond b (L Name ∷ N (Left AfterName) ∷ []) (pointed ++ (N (Left AfterObject) ∷ [])) ++ k)
          (either rules (Left AfterStars) (L Name ∷ N (Left AfterName) ∷ []) (pointed ++ (N (Left AfterObject) ∷ [])) refl k)
          s (N Specifier ∷ N Pointer ∷ N (Left AfterStars) ∷ k) way e (N Specifier ∷ N Pointer ∷ [])
          (subst (λ (l : List Symbol). Run rules s (l ++ k) way e) (sym is) run) refl in
          back_stars k s way e r.0 r.1
    ]

-- ---- every run

to_form : (f : Form) (k parts : List Symbol) (s : State) (way : List Nested) (e : Ending) → Contains (rules f) parts
    → Run ways s (parts ++ k) way e → Run ways s (N f ∷ k) way e
to_form Top k parts s way e among run = to_top k parts s way e among run
to_form Declarator k parts s way e among run = to_declarator k parts s way e among run
to_form Assign k parts s way e among run = to_assign k parts s way e among run
to_form f k parts s way e among run = rule s f parts k way e among run

from_form : (f : Form) (k parts : List Symbol) (s : State) (way : List Nested) (e : Ending) → Contains (ways f) parts
    → Run rules s (parts ++ k) way e → Run rules s (N f ∷ k) way e
from_form Top k parts s way e among run = from_top k parts s way e among run
from_form Declarator k parts s way e among run = from_declarator k parts s way e among run
from_form Assign k parts s way e among run = from_assign k parts s way e among run
from_form f k parts s way e among run = rule s f parts k way e among run

-- where each way of a table's form is a run of another's form, so is each run
carry : (table other : Table) → ((f : Form) (k parts : List Symbol) (s : State) (way : List Nested) (e : Ending) → Contains (table f) parts
    → Run other s (parts ++ k) way e → Run other s (N f ∷ k) way e)
    → (s : State) (q : List Symbol) (way : List Nested) (e : Ending) → Run table s q way e → Run other s q way e
carry table other by s q way e (stop s' p) = stop s q
carry table other by s q way e (done s') = done s
carry table other by s q way e (token s' t w p v e' h more) = token s t w p v e h (carry table other by s p v e more)
carry table other by s q way e (leaf s' t w p v e' h more) = leaf s t w p v e h (carry table other by _ p v e more)
carry table other by s q way e (here s' w p v e' more) = here s w p v e (carry table other by _ p way e more)
carry table other by s q way e (mark s' m p v e' more) = mark s m p v e (carry table other by _ p v e more)
carry table other by s q way e (step s' b p v e' more) = step s b p v e (carry table other by _ p v e more)
carry table other by s q way e (unless s' ts p v e' h more) = unless s ts p v e h (carry table other by s p v e more)
carry table other by s q way e (rule s' f parts p v e' h more) = by f p parts s v e h (carry table other by s (parts ++ p) v e more)

pub to_ways : (s : State) (q : List Symbol) (way : List Nested) (e : Ending) → Run rules s q way e → Run ways s q way e
to_ways = carry rules ways to_form

pub from_ways : (s : State) (q : List Symbol) (way : List Nested) (e : Ending) → Run ways s q way e → Run rules s q way e
from_ways = carry ways rules from_form
