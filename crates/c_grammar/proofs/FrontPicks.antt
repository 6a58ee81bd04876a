-- Which way a front goes: the one that the words tell, but for its last word, which may be read in another way.
use Rattle.std.proofs.Common.{lit<, ◌≡◌, ℕ, zero, suc, ◌<◌, ◌≤◌, Bool, true, false, List, [], ◌∷◌, ◌++◌, length, drop, refl, sym, ap, subst, ◌∙◌, arith}
use Rattle.std.proofs.lemmas.Bool.{and_parts, and_from, both_ways, cond-true, cond-false}
use Rattle.c_grammar.specs.declared.words.Word.{Word}
use Rattle.c_grammar.specs.declared.words.Terminal.{Terminal}
use Rattle.c_grammar.specs.declared.words.Terminal.TheVariants.{Name, Char, Int, Long, Void, Struct, Private, Open, Close, OpenBrace}
use Rattle.c_grammar.specs.Terminals.{same_terminal}
use Rattle.c_grammar.specs.Steps as part
use Rattle.c_grammar.specs.Steps.{Place, Give, build, MakeSpecifier}
use Rattle.c_grammar.specs.Grammar.{Form, Top, Assign, Cast, Parameters, ParameterTypes, PerhapsElse, Structure, Specifier, PerhapsPrivate, BaseType, Pointer, Left, AfterStars, AfterUnary, In, Unary, Postfix, Primary, TypeName, Parameter, Symbol, T, L, N, B}
use Rattle.c_grammar.specs.Ways.{operands_left, typed_operand, ways, way_at, firsts, can_be, begun_way, begins_structure, opens_type, is_bare_void, way_number}
use Rattle.c_grammar.specs.Reading.{State, nesting, after, Nested, nested, words_of, Anywhere, Run, stop, token, leaf, here, mark, step, unless}
use Rattle.c_grammar.proofs.Runs.{only, by_way}
use Rattle.c_grammar.proofs.Begins.{is_same, Fit}
use Rattle.c_grammar.proofs.Picks.{next, easy_number, fit_number, terminal_is, opens_none, opens_one, void_read, struct_read, structure_begun, no_structure_begun, closed, only_close, choice_1, choice_2, empty_at, item_begun, parameter_begun, void_guarded, no_else}

-- the run by the way that these words tell
abbrev pub Chosen : Form → List Symbol → State → List Nested → List Word → Type 0
Chosen f k s way words = Run ways s (way_at ways f (way_number f words) ++ k) way Anywhere

-- What a front that goes through a form has of it: the same words; or its one word not as deep; or its one word
-- and the next.
pub data Agrees (f : Form) (k : List Symbol) (s : State) (n : Nested) (way : List Nested) (words : List Word) : Type 0 where
  as_it_is : Chosen f k s (n ∷ way) words → Agrees f k s n way words
  not_as_deep : (m : Nested) → way ≡ [] → m.word ≡ n.word → m.nesting ≤ n.nesting → Chosen f k s (m ∷ []) words → Agrees f k s n way words
  with_next : (m x : Nested) (rest : List Word) → way ≡ [] → m.word ∷ x.word ∷ rest ≡ words → Chosen f k s (m ∷ x ∷ []) words → Agrees f k s n way words

chosen : (f : Form) (k : List Symbol) (s : State) (way : List Nested) (words : List Word) (i : ℕ) → way_number f words ≡ i → Run ways s (way_at ways f i ++ k) way Anywhere → Chosen f k s way words
chosen f k s way words i is run = subst (λ (j : ℕ). Run ways s (way_at ways f j ++ k) way Anywhere) (sym is) run

as_read : (f : Form) (k : List Symbol) (s : State) (n : Nested) (way : List Nested) (words : List Word) (i : ℕ) → way_number f words ≡ i
    → Run ways s (way_at ways f i ++ k) (n ∷ way) Anywhere → Agrees f k s n way words
as_read f k s n way words i is run = as_it_is (chosen f k s (n ∷ way) words i is run)

-- ---- runs of one word, and of two

at_nesting : (n : Nested) (i : ℕ) → n.nesting ≡ i → nested n.word i ≡ n
at_nesting n i is = ap (nested n.word) (sym is)

-- a bracket before an expression
bracket_run : (k : List Symbol) (s : State) (w : Word) → w.terminal ≡ Open → Run ways s (N Unary ∷ k) (nested w (nesting s) ∷ []) Anywhere
bracket_run k s w is =
    by_way ways Unary 6 (lit< tt) k s _ Anywhere (by_way ways Postfix 0 (lit< tt) k s _ Anywhere (by_way ways Primary 4 (lit< tt) _ s _ Anywhere
    (here s (nested w (nesting s)) _ [] Anywhere (token _ Open w _ [] Anywhere is (stop _ _)))))

-- where a base type is next, behind no `private`
abbrev at_base : State → Word → State
at_base s w = record s { built = build (Give (part.Private false)) (Place w.place ∷ s.built) }

base_run : (k : List Symbol) (s : State) (t : Terminal) (i : ℕ) (left : List Symbol) (w : Word) → i < length (ways BaseType) → way_at ways BaseType i ≡ T t ∷ left → w.terminal ≡ t
    → Run ways s (N Specifier ∷ k) (nested w (nesting s) ∷ []) Anywhere
base_run k s t i left w below way is =
    by_way ways Specifier 0 (lit< tt) k s _ Anywhere (here s (nested w (nesting s)) _ [] Anywhere
    (by_way ways PerhapsPrivate 1 (lit< tt) _ _ _ Anywhere (step _ _ _ _ Anywhere
    (by_way ways BaseType i below (N PerhapsPrivate ∷ B MakeSpecifier ∷ k) (at_base s w) _ Anywhere
    (subst (λ (l : List Symbol). Run ways (at_base s w) (l ++ (N PerhapsPrivate ∷ B MakeSpecifier ∷ k)) (nested w (nesting s) ∷ []) Anywhere) (sym way)
    (token _ t w _ [] Anywhere is (stop _ _)))))))

private_run : (k : List Symbol) (s : State) (w : Word) → w.terminal ≡ Private → Run ways s (N Specifier ∷ k) (nested w (nesting s) ∷ []) Anywhere
private_run k s w is =
    by_way ways Specifier 0 (lit< tt) k s _ Anywhere (here s (nested w (nesting s)) _ [] Anywhere
    (by_way ways PerhapsPrivate 0 (lit< tt) _ _ _ Anywhere (token _ Private w _ [] Anywhere is (stop _ _))))

type_run : (t : Terminal) (k : List Symbol) (s : State) (w : Word) → can_be (firsts TypeName) t ≡ true → w.terminal ≡ t → Run ways s (N Specifier ∷ k) (nested w (nesting s) ∷ []) Anywhere
type_run Char k s w h is = base_run k s Char 0 _ w (lit< tt) refl is
type_run Int k s w h is = base_run k s Int 1 _ w (lit< tt) refl is
type_run Long k s w h is = base_run k s Long 2 _ w (lit< tt) refl is
type_run Void k s w h is = base_run k s Void 3 _ w (lit< tt) refl is
type_run Struct k s w h is = base_run k s Struct 4 _ w (lit< tt) refl is
type_run Private k s w h is = private_run k s w is
type_run t k s w h is = absurd cc

-- a bracket and a type
typed_run : (k : List Symbol) (s : State) (v w : Word) → v.terminal ≡ Open → can_be (firsts TypeName) w.terminal ≡ true
    → Run ways s (typed_operand ++ k) (nested v (nesting (after In s)) ∷ nested w (nesting (after In s)) ∷ []) Anywhere
typed_run k s v w is h =
    mark s In _ _ Anywhere (here _ (nested v (nesting (after In s))) _ _ Anywhere (token _ Open v _ _ Anywhere is
    (by_way ways TypeName 0 (lit< tt) _ _ _ Anywhere (type_run w.terminal _ _ w h refl))))

-- ---- a bracket

-- where a bracket and a type were read, and no type is next
brackets_none : (f : Form) (i : ℕ) (k left : List Symbol) (s on : State) (n : Nested) (rest : List Word) → way_number f (n.word ∷ rest) ≡ i
    → n.word.terminal ≡ Open → nesting on ≤ n.nesting
    → (Run ways on (N Unary ∷ left) (nested n.word (nesting on) ∷ []) Anywhere → Run ways s (way_at ways f i ++ k) (nested n.word (nesting on) ∷ []) Anywhere)
    → Agrees f k s n [] (n.word ∷ rest)
brackets_none f i k left s on n rest is opens deeper onto =
    not_as_deep (nested n.word (nesting on)) refl refl deeper (chosen f k s _ (n.word ∷ rest) i is (onto (bracket_run left on n.word opens)))

-- where an operand was read, and a bracket and a type are next
brackets_one : (f : Form) (i : ℕ) (k left : List Symbol) (s on : State) (n : Nested) (rest : List Word) → way_number f (n.word ∷ rest) ≡ i → opens_type (n.word ∷ rest) ≡ true
    → ((way : List Nested) → Run ways on (typed_operand ++ left) way Anywhere → Run ways s (way_at ways f i ++ k) way Anywhere)
    → Agrees f k s n [] (n.word ∷ rest)
brackets_one f i k left s on n [] is opens onto = absurd (both_ways _ refl opens)
brackets_one f i k left s on n (x ∷ rest) is opens onto =
    let both = and_parts (same_terminal n.word.terminal Open) (can_be (firsts TypeName) x.terminal) opens in
    let m = nested n.word (nesting (after In on)) in
    let y = nested x (nesting (after In on)) in
    with_next m y rest refl refl (chosen f k s (m ∷ y ∷ []) (n.word ∷ x ∷ rest) i is (onto _ (typed_run left on n.word x (terminal_is n.word.terminal Open both.0) both.1)))

cast_0 : (k : List Symbol) (s : State) (n : Nested) (way : List Nested) (rest : List Word) (b : Bool) → opens_type (n.word ∷ (words_of way ++ rest)) ≡ b
    → Run ways s (way_at ways Cast 0 ++ k) (n ∷ way) Anywhere → Agrees Cast k s n way (n.word ∷ (words_of way ++ rest))
cast_0 k s n way rest true opens run = as_read Cast k s n way _ 0 (cond-true _ 0 1 opens) run
cast_0 k s n (x ∷ way) rest false opens run =
    absurd (both_ways _ opens (opens_one (N Cast ∷ drop 6 typed_operand ++ k) _ n x way Anywhere (words_of way ++ rest) (next s (typed_operand ++ k) n (x ∷ way) Anywhere run)))
cast_0 k s n [] rest false opens run =
    let a = next s (typed_operand ++ k) n [] Anywhere run in
    let b = next _ (drop 1 typed_operand ++ k) n [] Anywhere a in
    let c = next _ (drop 2 typed_operand ++ k) n [] Anywhere b in
    brackets_none Cast 1 k k s s n rest (cond-false _ 0 1 opens) c.0 (omega (arith, c.1)) (λ r. r)

cast_1 : (k : List Symbol) (s : State) (n : Nested) (way : List Nested) (rest : List Word) (b : Bool) → opens_type (n.word ∷ (words_of way ++ rest)) ≡ b → Fit (N Unary ∷ k)
    → Run ways s (N Unary ∷ k) (n ∷ way) Anywhere → Agrees Cast k s n way (n.word ∷ (words_of way ++ rest))
cast_1 k s n way rest false opens fit run = as_read Cast k s n way _ 1 (cond-false _ 0 1 opens) run
cast_1 k s n (x ∷ way) rest true opens fit run = absurd (both_ways _ (opens_none k s n x way Anywhere (words_of way ++ rest) fit run) opens)
cast_1 k s n [] rest true opens fit run = brackets_one Cast 0 k k s s n rest (cond-true _ 0 1 opens) opens (λ way r. r)

assign_0 : (k : List Symbol) (s : State) (n : Nested) (way : List Nested) (rest : List Word) (b : Bool) → opens_type (n.word ∷ (words_of way ++ rest)) ≡ b → Fit (N Unary ∷ N (Left AfterUnary) ∷ k)
    → Run ways s (way_at ways Assign 0 ++ k) (n ∷ way) Anywhere → Agrees Assign k s n way (n.word ∷ (words_of way ++ rest))
assign_0 k s n way rest false opens fit run = as_read Assign k s n way _ 0 (cond-false _ 1 0 opens) run
assign_0 k s n (x ∷ way) rest true opens fit run =
    absurd (both_ways _ (opens_none (N (Left AfterUnary) ∷ k) _ n x way Anywhere (words_of way ++ rest) fit (next s (way_at ways Assign 0 ++ k) n (x ∷ way) Anywhere run)) opens)
assign_0 k s n [] rest true opens fit run =
    brackets_one Assign 1 k (operands_left ++ k) s (after In s) n rest (cond-true _ 1 0 opens) opens (λ way r. mark s In (typed_operand ++ (operands_left ++ k)) way Anywhere r)

assign_1 : (k : List Symbol) (s : State) (n : Nested) (way : List Nested) (rest : List Word) (b : Bool) → opens_type (n.word ∷ (words_of way ++ rest)) ≡ b
    → Run ways s (way_at ways Assign 1 ++ k) (n ∷ way) Anywhere → Agrees Assign k s n way (n.word ∷ (words_of way ++ rest))
assign_1 k s n way rest true opens run = as_read Assign k s n way _ 1 (cond-true _ 1 0 opens) run
assign_1 k s n (x ∷ way) rest false opens run =
    let a = next s (way_at ways Assign 1 ++ k) n (x ∷ way) Anywhere run in
    let b = next _ (typed_operand ++ (operands_left ++ k)) n (x ∷ way) Anywhere a in
    absurd (both_ways _ opens (opens_one (drop 5 typed_operand ++ (operands_left ++ k)) _ n x way Anywhere (words_of way ++ rest) b))
assign_1 k s n [] rest false opens run =
    let a = next s (way_at ways Assign 1 ++ k) n [] Anywhere run in
    let b = next _ (typed_operand ++ (operands_left ++ k)) n [] Anywhere a in
    let c = next _ (drop 1 typed_operand ++ (operands_left ++ k)) n [] Anywhere b in
    let d = next _ (drop 2 typed_operand ++ (operands_left ++ k)) n [] Anywhere c in
    brackets_none Assign 0 k (N (Left AfterUnary) ∷ k) s (after In s) n rest (cond-false _ 1 0 opens) d.0 (omega (arith, d.1))
    (λ r. mark s In (N Unary ∷ N (Left AfterUnary) ∷ k) _ Anywhere r)

-- ---- `struct`

abbrev declared_left : List Symbol
declared_left = N Pointer ∷ N (Left AfterStars) ∷ []

struct_name_run : (k : List Symbol) (s : State) (v w : Word) → v.terminal ≡ Struct → w.terminal ≡ Name
    → Run ways s (N Specifier ∷ k) (nested v (nesting s) ∷ nested w (nesting s) ∷ []) Anywhere
struct_name_run k s v w is name =
    by_way ways Specifier 0 (lit< tt) k s _ Anywhere (here s (nested v (nesting s)) _ _ Anywhere
    (by_way ways PerhapsPrivate 1 (lit< tt) _ _ _ Anywhere (step _ _ _ _ Anywhere
    (by_way ways BaseType 4 (lit< tt) _ _ _ Anywhere (token _ Struct v _ _ Anywhere is (leaf _ Name w _ [] Anywhere name (stop _ _)))))))

top_0 : (k : List Symbol) (s : State) (n : Nested) (way : List Nested) (rest : List Word) (b : Bool) → begins_structure (n.word ∷ (words_of way ++ rest)) ≡ b
    → Run ways s (way_at ways Top 0 ++ k) (n ∷ way) Anywhere → Agrees Top k s n way (n.word ∷ (words_of way ++ rest))
top_0 k s n way rest true begins run = as_read Top k s n way _ 0 (cond-true _ 0 1 begins) run
top_0 k s n [] rest false begins run =
    let a = next s _ n [] Anywhere (only ways Structure _ refl k s (n ∷ []) Anywhere run) in
    as_read Top k s n [] _ 1 (cond-false _ 0 1 begins)
    (subst (λ (m : Nested). Run ways s (N Specifier ∷ (declared_left ++ k)) (m ∷ []) Anywhere) (at_nesting n (nesting s) a.1) (base_run (declared_left ++ k) s Struct 4 _ n.word (lit< tt) refl a.0))
top_0 k s n (x ∷ []) rest false begins run =
    let a = next s _ n (x ∷ []) Anywhere (only ways Structure _ refl k s (n ∷ x ∷ []) Anywhere run) in
    let b = next _ _ x [] Anywhere a.2 in
    as_read Top k s n (x ∷ []) _ 1 (cond-false _ 0 1 begins)
    (subst (λ (m : Nested). Run ways s (N Specifier ∷ (declared_left ++ k)) (m ∷ x ∷ []) Anywhere) (at_nesting n (nesting s) a.1)
    (subst (λ (m : Nested). Run ways s (N Specifier ∷ (declared_left ++ k)) (nested n.word (nesting s) ∷ m ∷ []) Anywhere) (at_nesting x (nesting s) b.1)
    (struct_name_run (declared_left ++ k) s n.word x.word a.0 b.0)))
top_0 k s n (x ∷ y ∷ way) rest false begins run =
    absurd (both_ways _ begins (structure_begun _ s n x y way Anywhere (words_of way ++ rest) (only ways Structure _ refl k s (n ∷ x ∷ y ∷ way) Anywhere run)))

structure_run : (k : List Symbol) (s : State) (v : Nested) (way : List Nested) → v.word.terminal ≡ Struct → v.nesting ≡ nesting s
    → Run ways s (L Name ∷ drop 2 (way_at ways Structure 0) ++ k) way Anywhere → Run ways s (way_at ways Top 0 ++ k) (v ∷ way) Anywhere
structure_run k s v way is stands run =
    by_way ways Structure 0 (lit< tt) k s _ Anywhere
    (subst (λ (m : Nested). Run ways s (way_at ways Structure 0 ++ k) (m ∷ way) Anywhere) (at_nesting v (nesting s) stands) (token s Struct v.word _ way Anywhere is run))

first_struct : (w : Word) (rest : List Word) → begins_structure (w ∷ rest) ≡ true → w.terminal ≡ Struct
first_struct w [] h = absurd (both_ways _ refl h)
first_struct w (v ∷ []) h = absurd (both_ways _ refl h)
first_struct w (v ∷ x ∷ rest) h = terminal_is w.terminal Struct (and_parts (same_terminal w.terminal Struct) (same_terminal x.terminal OpenBrace) h).0

top_1 : (k : List Symbol) (s : State) (n : Nested) (way : List Nested) (rest : List Word) (b : Bool) → begins_structure (n.word ∷ (words_of way ++ rest)) ≡ b → Fit (N Specifier ∷ (declared_left ++ k))
    → Run ways s (way_at ways Top 1 ++ k) (n ∷ way) Anywhere → Agrees Top k s n way (n.word ∷ (words_of way ++ rest))
top_1 k s n way rest false begins fit run = as_read Top k s n way _ 1 (cond-false _ 0 1 begins) run
top_1 k s n [] rest true begins fit run =
    let is = first_struct n.word rest begins in
    let r = struct_read (declared_left ++ k) s n [] Anywhere fit is run in
    as_read Top k s n [] _ 0 (cond-true _ 0 1 begins) (structure_run k s n [] is r.stands (stop _ _))
top_1 k s n (x ∷ []) rest true begins fit run =
    let is = first_struct n.word (x.word ∷ rest) begins in
    let r = struct_read (declared_left ++ k) s n (x ∷ []) Anywhere fit is run in
    let a = next r.on _ x [] Anywhere r.run in
    as_read Top k s n (x ∷ []) _ 0 (cond-true _ 0 1 begins)
    (structure_run k s n (x ∷ []) is r.stands
    (subst (λ (m : Nested). Run ways s (L Name ∷ drop 2 (way_at ways Structure 0) ++ k) (m ∷ []) Anywhere) (at_nesting x (nesting s) (a.1 ∙ r.deep)) (leaf s Name x.word _ [] Anywhere a.0 (stop _ _))))
top_1 k s n (x ∷ y ∷ way) rest true begins fit run =
    absurd (both_ways _ (no_structure_begun k s n x y way Anywhere (words_of way ++ rest) fit run) begins)

-- ---- `void` in brackets

first_void : (w : Word) (rest : List Word) → is_bare_void (w ∷ rest) ≡ true → w.terminal ≡ Void
first_void w [] h = absurd (both_ways _ refl h)
first_void w (x ∷ rest) h = terminal_is w.terminal Void (and_parts (same_terminal w.terminal Void) (same_terminal x.terminal Close) h).0

void_begins : (item : Form) (t : Terminal) → can_be (firsts item) Void ≡ true → t ≡ Void → can_be (firsts item) t ≡ true
void_begins item t h is = subst (λ (u : Terminal). can_be (firsts item) u ≡ true) (sym is) h

parameters_1 : (k : List Symbol) (s : State) (n : Nested) (way : List Nested) (rest : List Word) (b : Bool) → is_bare_void (n.word ∷ (words_of way ++ rest)) ≡ b → Fit (N Parameters ∷ k)
    → Run ways s (way_at ways Parameters 1 ++ k) (n ∷ way) Anywhere → Agrees Parameters k s n way (n.word ∷ (words_of way ++ rest))
parameters_1 k s n way rest true void fit run = as_read Parameters k s n way _ 1 (choice_1 _ _ void) run
parameters_1 k s n [] rest false void fit run =
    let a = next s (way_at ways Parameters 1 ++ k) n [] Anywhere run in
    as_read Parameters k s n [] _ 2 (choice_2 _ _ void (void_begins Parameter n.word.terminal refl a.0))
    (subst (λ (m : Nested). Run ways s (way_at ways Parameters 2 ++ k) (m ∷ []) Anywhere) (at_nesting n (nesting s) a.1)
    (by_way ways Parameter 0 (lit< tt) _ s _ Anywhere (base_run _ s Void 3 _ n.word (lit< tt) refl a.0)))
parameters_1 k s n (x ∷ way) rest false void fit run =
    let a = next s (way_at ways Parameters 1 ++ k) n (x ∷ way) Anywhere run in
    let b = next _ (drop 1 (way_at ways Parameters 1) ++ k) x way Anywhere a.2 in
    let closes = closed Parameters k _ x way Anywhere fit only_close b in
    absurd (both_ways _ void (and_from _ _ (is_same n.word.terminal Void a.0) (is_same x.word.terminal Close closes)))

parameters_2 : (k : List Symbol) (s : State) (n : Nested) (way : List Nested) (rest : List Word) (b : Bool) → is_bare_void (n.word ∷ (words_of way ++ rest)) ≡ b → Fit (way_at ways Parameters 2 ++ k)
    → Run ways s (way_at ways Parameters 2 ++ k) (n ∷ way) Anywhere → Agrees Parameters k s n way (n.word ∷ (words_of way ++ rest))
parameters_2 k s n way rest false void fit run = as_read Parameters k s n way _ 2 (choice_2 _ _ void (item_begun Parameter _ s n way Anywhere refl run)) run
parameters_2 k s n [] rest true void fit run =
    let is = first_void n.word rest void in
    let r = void_read _ s n [] Anywhere (fit_number Parameter 0 _ (lit< tt) fit) is (only ways Parameter _ refl _ s (n ∷ []) Anywhere run) in
    as_read Parameters k s n [] _ 1 (choice_1 _ _ void)
    (subst (λ (m : Nested). Run ways s (way_at ways Parameters 1 ++ k) (m ∷ []) Anywhere) (at_nesting n (nesting s) r.stands) (token s Void n.word _ [] Anywhere is (stop _ _)))
parameters_2 k s n (x ∷ way) rest true void fit run = absurd (both_ways _ (parameter_begun _ s n x way Anywhere (words_of way ++ rest) fit run) void)

types_1 : (k : List Symbol) (s : State) (n : Nested) (way : List Nested) (rest : List Word) (b : Bool) → is_bare_void (n.word ∷ (words_of way ++ rest)) ≡ b → Fit (N ParameterTypes ∷ k)
    → Run ways s (way_at ways ParameterTypes 1 ++ k) (n ∷ way) Anywhere → Agrees ParameterTypes k s n way (n.word ∷ (words_of way ++ rest))
types_1 k s n way rest true void fit run = as_read ParameterTypes k s n way _ 1 (choice_1 _ _ void) run
types_1 k s n [] rest false void fit run =
    let a = next s (way_at ways ParameterTypes 1 ++ k) n [] Anywhere run in
    let b = next _ (drop 1 (way_at ways ParameterTypes 1) ++ k) n [] Anywhere a in
    as_read ParameterTypes k s n [] _ 2 (choice_2 _ _ void (void_begins TypeName n.word.terminal refl b.0))
    (unless s _ _ _ Anywhere (λ h. h.1) (mark s In _ _ Anywhere
    (subst (λ (m : Nested). Run ways (after In s) (drop 2 (way_at ways ParameterTypes 2) ++ k) (m ∷ []) Anywhere) (at_nesting n (nesting (after In s)) b.1)
    (by_way ways TypeName 0 (lit< tt) _ _ _ Anywhere (base_run _ (after In s) Void 3 _ n.word (lit< tt) refl b.0)))))
types_1 k s n (x ∷ way) rest false void fit run =
    let a = next s (way_at ways ParameterTypes 1 ++ k) n (x ∷ way) Anywhere run in
    let b = next _ (drop 1 (way_at ways ParameterTypes 1) ++ k) n (x ∷ way) Anywhere a in
    let c = next _ (drop 2 (way_at ways ParameterTypes 1) ++ k) x way Anywhere b.2 in
    let d = next _ (drop 3 (way_at ways ParameterTypes 1) ++ k) x way Anywhere c in
    let closes = closed ParameterTypes k _ x way Anywhere fit only_close d in
    absurd (both_ways _ void (and_from _ _ (is_same n.word.terminal Void b.0) (is_same x.word.terminal Close closes)))

types_2 : (k : List Symbol) (s : State) (n : Nested) (way : List Nested) (rest : List Word) (b : Bool) → is_bare_void (n.word ∷ (words_of way ++ rest)) ≡ b → Fit (way_at ways ParameterTypes 2 ++ k)
    → Run ways s (way_at ways ParameterTypes 2 ++ k) (n ∷ way) Anywhere → Agrees ParameterTypes k s n way (n.word ∷ (words_of way ++ rest))
types_2 k s n way rest false void fit run =
    let a = next s (way_at ways ParameterTypes 2 ++ k) n way Anywhere run in
    let b = next s (drop 1 (way_at ways ParameterTypes 2) ++ k) n way Anywhere a.1 in
    as_read ParameterTypes k s n way _ 2 (choice_2 _ _ void (item_begun TypeName _ _ n way Anywhere refl b)) run
types_2 k s n [] rest true void fit run =
    let a = next s (way_at ways ParameterTypes 2 ++ k) n [] Anywhere run in
    let b = next s (drop 1 (way_at ways ParameterTypes 2) ++ k) n [] Anywhere a.1 in
    let is = first_void n.word rest void in
    let r = void_read _ (after In s) n [] Anywhere (fit_number TypeName 0 _ (lit< tt) fit) is (only ways TypeName _ refl _ _ (n ∷ []) Anywhere b) in
    as_read ParameterTypes k s n [] _ 1 (choice_1 _ _ void)
    (mark s In _ _ Anywhere
    (subst (λ (m : Nested). Run ways (after In s) (drop 1 (way_at ways ParameterTypes 1) ++ k) (m ∷ []) Anywhere) (at_nesting n (nesting (after In s)) r.stands) (token _ Void n.word _ [] Anywhere is (stop _ _))))
types_2 k s n (x ∷ way) rest true void fit run =
    let a = next s (way_at ways ParameterTypes 2 ++ k) n (x ∷ way) Anywhere run in
    absurd (both_ways _ (void_guarded n.word x.word (words_of way ++ rest) (words_of way) a.0) void)

-- ---- every form

pub agrees : (f : Form) (k : List Symbol) (s : State) (n : Nested) (way : List Nested) (rest : List Word) → Fit (N f ∷ k) → (j : ℕ) → j < length (ways f)
    → Run ways s (way_at ways f j ++ k) (n ∷ way) Anywhere → Agrees f k s n way (n.word ∷ (words_of way ++ rest))
agrees Top k s n way rest fit zero below run = top_0 k s n way rest _ refl run
agrees Top k s n way rest fit (suc zero) below run = top_1 k s n way rest _ refl (fit_number Top 1 k (lit< tt) fit) run
agrees Top k s n way rest fit (suc (suc j)) below run = absurd (omega arith)
agrees Assign k s n way rest fit zero below run = assign_0 k s n way rest _ refl (fit_number Assign 0 k (lit< tt) fit) run
agrees Assign k s n way rest fit (suc zero) below run = assign_1 k s n way rest _ refl run
agrees Assign k s n way rest fit (suc (suc j)) below run = absurd (omega arith)
agrees Cast k s n way rest fit zero below run = cast_0 k s n way rest _ refl run
agrees Cast k s n way rest fit (suc zero) below run = cast_1 k s n way rest _ refl (fit_number Cast 1 k (lit< tt) fit) run
agrees Cast k s n way rest fit (suc (suc j)) below run = absurd (omega arith)
agrees Parameters k s n way rest fit zero below run =
    let a = next s (way_at ways Parameters 0 ++ k) n way Anywhere run in
    as_read Parameters k s n way _ 0 (empty_at Parameter n.word _ refl (closed Parameters k _ n way Anywhere fit only_close a)) run
agrees Parameters k s n way rest fit (suc zero) below run = parameters_1 k s n way rest _ refl fit run
agrees Parameters k s n way rest fit (suc (suc zero)) below run = parameters_2 k s n way rest _ refl (fit_number Parameters 2 k (lit< tt) fit) run
agrees Parameters k s n way rest fit (suc (suc (suc j))) below run = absurd (omega arith)
agrees ParameterTypes k s n way rest fit zero below run =
    let a = next s (way_at ways ParameterTypes 0 ++ k) n way Anywhere run in
    as_read ParameterTypes k s n way _ 0 (empty_at TypeName n.word _ refl (closed ParameterTypes k _ n way Anywhere fit only_close a)) run
agrees ParameterTypes k s n way rest fit (suc zero) below run = types_1 k s n way rest _ refl fit run
agrees ParameterTypes k s n way rest fit (suc (suc zero)) below run = types_2 k s n way rest _ refl (fit_number ParameterTypes 2 k (lit< tt) fit) run
agrees ParameterTypes k s n way rest fit (suc (suc (suc j))) below run = absurd (omega arith)
agrees PerhapsElse k s n way rest fit zero below run =
    let a = next s (way_at ways PerhapsElse 0 ++ k) n way Anywhere run in
    as_read PerhapsElse k s n way _ 0 (ap (begun_way PerhapsElse) a.0) run
agrees PerhapsElse k s n way rest fit (suc zero) below run = as_read PerhapsElse k s n way _ 1 (sym (no_else k s n way Anywhere fit below run)) run
agrees PerhapsElse k s n way rest fit (suc (suc j)) below run = absurd (omega arith)
agrees f k s n way rest fit j below run = as_read f k s n way _ j (sym (easy_number f k s n way Anywhere fit n.word.terminal refl refl j below run)) run
