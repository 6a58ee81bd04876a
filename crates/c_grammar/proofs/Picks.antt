-- Which way a complete run goes: the one that the next words tell.
use Rattle.std.proofs.Common.{lit<, ◌≡◌, ℕ, zero, suc, ◌<◌, Bool, true, false, not, ◌&&◌, cond, List, [], ◌∷◌, ◌++◌, length, get_or, drop, refl, sym, ap, subst, ◌∙◌, inl, inr, arith}
use Rattle.std.proofs.lemmas.Bool.{and_parts, and_from, or_cases, both_ways, eqb-true, not-true, false_from_ne_true, cond-true, cond-false}
use Rattle.std.proofs.lemmas.List.{get_or_default}
use Rattle.c_grammar.specs.declared.words.Word.{Word}
use Rattle.c_grammar.specs.declared.words.Terminal.{Terminal}
use Rattle.c_grammar.specs.declared.words.Terminal.TheVariants.{Name, Number, Character, String, Char, Int, Long, Void, Struct, Private, If, Else, While, For, Do, Return, Break, Continue, Sizeof, Plus, Minus, Star, Slash, Percent, Ampersand, Bar, Caret, Tilde, Exclamation, Less, Greater, Equals, Question, Colon, Semicolon, Comma, Dot, Open, Close, OpenBracket, CloseBracket, OpenBrace, CloseBrace, ShiftLeft, ShiftRight, LessEqual, GreaterEqual, EqualEqual, NotEqual, Both, Either, Arrow, Unused}
use Rattle.c_grammar.specs.Terminals.{number_of, same_terminal}
use Rattle.c_ast.specs.declared.program.Base.TheVariants as base
use Rattle.c_grammar.specs.Steps as part
use Rattle.c_grammar.specs.Steps.{Value, Leaf, Place, Give, build, MakeSpecifier, MakeStruct, MakeCast, MakeBracket, MakeParameter}
use Rattle.c_grammar.specs.Grammar.{Form, Top, Assign, Cast, Parameters, ParameterTypes, PerhapsElse, Structure, Specifier, PerhapsPrivate, BaseType, Pointer, Declarator, Left, AfterStars, AfterUnary, In, Out, Unary, Postfix, Primary, Suffixes, Expression, TypeName, Parameter, Symbol, T, L, N, M, B, Here, Unless}
use Rattle.c_grammar.specs.Ways.{operands_left, typed_operand, ways, way_at, firsts, may_be_empty, can_be, begins, passes, begun_way, begins_structure, opens_type, is_bare_void, can_begin, way_number}
use Rattle.c_grammar.specs.Reading.{State, nesting, after, add, Nested, nested, words_of, BeginWith, Ending, Complete, Run, stop, done, token, leaf, here, mark, step, unless, rule}
use Rattle.c_grammar.proofs.Runs.{heads, only, is_way}
use Rattle.c_grammar.proofs.Tables.{all_terminals, follows, can_end, is_hard}
use Rattle.c_grammar.proofs.Begins.{is_same, of_all_terminals, passes-append, run_begins, run_passes, Fit, fit_way, way_begun, way_empty, way_had}

-- ---- a run of some words, one symbol on

-- by which way of a form it goes on
pub record Went (f : Form) (s : State) (k : List Symbol) (way : List Nested) (e : Ending) : Type 0 where
  pub number : ℕ
  pub below : number < length (ways f)
  pub run : Run ways s (way_at ways f number ++ k) way e

abbrev pub Next : State → List Symbol → Nested → List Nested → Ending → Type 0
Next s [] w way e = ⊥
Next s (T t ∷ k) w way e = (w.word.terminal ≡ t) × (w.nesting ≡ nesting s) × Run ways s k way e
Next s (L t ∷ k) w way e =
    (w.word.terminal ≡ t) × (w.nesting ≡ nesting s) × Run ways (add (Leaf w.word.place w.word.value) s) k way e
Next s (Here ∷ k) w way e = Run ways (add (Place w.word.place) s) k (w ∷ way) e
Next s (M m ∷ k) w way e = Run ways (after m s) k (w ∷ way) e
Next s (B b ∷ k) w way e = Run ways (record s { built = build b s.built }) k (w ∷ way) e
Next s (Unless ts ∷ k) w way e = (¬ BeginWith ts (words_of (w ∷ way))) × Run ways s k (w ∷ way) e
Next s (N f ∷ k) w way e = Went f s k (w ∷ way) e

next_of : (s : State) (q : List Symbol) (l : List Nested) (e : Ending) (w : Nested) (way : List Nested) → Run ways s q l e → l ≡ w ∷ way → Next s q w way e
next_of s q l e w way (stop s' p) is = cc
next_of s q l e w way (done s') is = cc
next_of s q l e w way (token s' t v p r e' h more) is =
    let same = heads (nested v (nesting s)) w r way is in
    (subst (λ (x : Nested). x.word.terminal ≡ t) same.0 h, subst (λ (x : Nested). x.nesting ≡ nesting s) same.0 refl, subst (λ (x : List Nested). Run ways s p x e) same.1 more)
next_of s q l e w way (leaf s' t v p r e' h more) is =
    let same = heads (nested v (nesting s)) w r way is in (
      subst (λ (x : Nested). x.word.terminal ≡ t) same.0 h,
      subst (λ (x : Nested). x.nesting ≡ nesting s) same.0 refl,
      subst (λ (x : Nested). Run ways (add (Leaf x.word.place x.word.value) s) p way e) same.0 (subst (λ (x : List Nested). Run ways (add (Leaf v.place v.value) s) p x e) same.1 more),
    )
next_of s q l e w way (here s' v p r e' more) is =
    let same = heads v w r way is in
    subst (λ (x : Nested). Run ways (add (Place x.word.place) s) p (w ∷ way) e) same.0 (subst (λ (x : List Nested). Run ways (add (Place v.word.place) s) p x e) is more)
next_of s q l e w way (mark s' m p r e' more) is = subst (λ (x : List Nested). Run ways (after m s) p x e) is more
next_of s q l e w way (step s' b p r e' more) is = subst (λ (x : List Nested). Run ways (record s { built = build b s.built }) p x e) is more
next_of s q l e w way (unless s' ts p r e' h more) is =
    (subst (λ (x : List Nested). ¬ BeginWith ts (words_of x)) is h, subst (λ (x : List Nested). Run ways s p x e) is more)
next_of s q l e w way (rule s' f parts p r e' among more) is =
    let i = is_way ways f parts among in record {
      number = i.number;
      below = i.below;
      run = subst (λ (x : List Symbol). Run ways s (x ++ p) (w ∷ way) e) i.is (subst (λ (x : List Nested). Run ways s (parts ++ p) x e) is more);
    }

pub next : (s : State) (q : List Symbol) (w : Nested) (way : List Nested) (e : Ending) → Run ways s q (w ∷ way) e → Next s q w way e
next s q w way e run = next_of s q (w ∷ way) e w way run refl

-- a complete run of no words
abbrev End : State → List Symbol → List Value → Type 0
End s (T t ∷ k) vs = ⊥
End s (L t ∷ k) vs = ⊥
End s (Here ∷ k) vs = ⊥
End s (M m ∷ k) vs = Run ways (after m s) k [] (Complete vs)
End s q vs = Unit {0}

end_of : (s : State) (q : List Symbol) (l : List Nested) (e : Ending) (vs : List Value) → Run ways s q l e → l ≡ [] → e ≡ Complete vs → End s q vs
end_of s q l e vs (stop s' p) none is = cc
end_of s q l e vs (done s') none is = tt
end_of s q l e vs (token s' t v p r e' h more) none is = cc
end_of s q l e vs (leaf s' t v p r e' h more) none is = cc
end_of s q l e vs (here s' v p r e' more) none is = cc
end_of s q l e vs (mark s' m p r e' more) none is =
    subst (λ (x : Ending). Run ways (after m s) p [] x) is (subst (λ (x : List Nested). Run ways (after m s) p x e) none more)
end_of s q l e vs (step s' b p r e' more) none is = tt
end_of s q l e vs (unless s' ts p r e' h more) none is = tt
end_of s q l e vs (rule s' f parts p r e' among more) none is = tt

end : (s : State) (q : List Symbol) (vs : List Value) → Run ways s q [] (Complete vs) → End s q vs
end s q vs run = end_of s q [] (Complete vs) vs run refl refl

-- ---- where one word decides

pub fit_number : (f : Form) (i : ℕ) (k : List Symbol) → i < length (ways f) → Fit (N f ∷ k) → Fit (way_at ways f i ++ k)
fit_number f i k below fit = fit_way f (way_at ways f i) k (i, below, get_or_default (ways f) i (way_at ways f i) [] below) fit

pub easy_number : (f : Form) (k : List Symbol) (s : State) (w : Nested) (way : List Nested) (e : Ending) → Fit (N f ∷ k)
    → (t : Terminal) → is_hard f t ≡ false → w.word.terminal ≡ t → (j : ℕ) → j < length (ways f) → Run ways s (way_at ways f j ++ k) (w ∷ way) e → j ≡ begun_way f t
easy_number f k s w way e fit t easy is j below run =
    way_begun f t j easy below (way_had f (way_at ways f j) k t fit
    (subst (λ (u : Terminal). begins (way_at ways f j ++ k) u ≡ true) is (run_begins s (way_at ways f j ++ k) (w ∷ way) e w way run refl)))

pub easy : (f : Form) (t : Terminal) (k : List Symbol) (s : State) (w : Nested) (way : List Nested) (e : Ending) → Fit (N f ∷ k) → is_hard f t ≡ false → w.word.terminal ≡ t
    → Run ways s (N f ∷ k) (w ∷ way) e → Run ways s (way_at ways f (begun_way f t) ++ k) (w ∷ way) e
easy f t k s w way e fit is_easy is run =
    let o = next s (N f ∷ k) w way e run in
    subst (λ (i : ℕ). Run ways s (way_at ways f i ++ k) (w ∷ way) e) (easy_number f k s w way e fit t is_easy is o.number o.below o.run) o.run

abbrev terminal_at : ℕ → Terminal
terminal_at n = get_or all_terminals n Unused

terminal_at-number : (t : Terminal) → terminal_at (number_of t) ≡ t
terminal_at-number Name = refl
terminal_at-number Number = refl
terminal_at-number Character = refl
terminal_at-number String = refl
terminal_at-number Char = refl
terminal_at-number Int = refl
terminal_at-number Long = refl
terminal_at-number Void = refl
terminal_at-number Struct = refl
terminal_at-number Private = refl
terminal_at-number If = refl
terminal_at-number Else = refl
terminal_at-number While = refl
terminal_at-number For = refl
terminal_at-number Do = refl
terminal_at-number Return = refl
terminal_at-number Break = refl
terminal_at-number Continue = refl
terminal_at-number Sizeof = refl
terminal_at-number Plus = refl
terminal_at-number Minus = refl
terminal_at-number Star = refl
terminal_at-number Slash = refl
terminal_at-number Percent = refl
terminal_at-number Ampersand = refl
terminal_at-number Bar = refl
terminal_at-number Caret = refl
terminal_at-number Tilde = refl
terminal_at-number Exclamation = refl
terminal_at-number Less = refl
terminal_at-number Greater = refl
terminal_at-number Equals = refl
terminal_at-number Question = refl
terminal_at-number Colon = refl
terminal_at-number Semicolon = refl
terminal_at-number Comma = refl
terminal_at-number Dot = refl
terminal_at-number Open = refl
terminal_at-number Close = refl
terminal_at-number OpenBracket = refl
terminal_at-number CloseBracket = refl
terminal_at-number OpenBrace = refl
terminal_at-number CloseBrace = refl
terminal_at-number ShiftLeft = refl
terminal_at-number ShiftRight = refl
terminal_at-number LessEqual = refl
terminal_at-number GreaterEqual = refl
terminal_at-number EqualEqual = refl
terminal_at-number NotEqual = refl
terminal_at-number Both = refl
terminal_at-number Either = refl
terminal_at-number Arrow = refl
terminal_at-number Unused = refl

pub terminal_is : (t u : Terminal) → same_terminal t u ≡ true → t ≡ u
terminal_is t u h = sym (terminal_at-number t) ∙ ap terminal_at (eqb-true (number_of t) (number_of u) h) ∙ terminal_at-number u

-- ---- a type in brackets, and an expression in brackets

no_type_is_expression : (t : Terminal) → can_be (firsts TypeName) t ≡ true → can_be (firsts Expression) t ≡ true → ⊥
no_type_is_expression t a b =
    both_ways _ (not-true _ (of_all_terminals (λ u. not (can_be (firsts TypeName) u && can_be (firsts Expression) u)) refl t)) (and_from _ _ a b)

pub first_only : (f : Form) (k : List Symbol) (t : Terminal) → may_be_empty f ≡ false → begins (N f ∷ k) t ≡ true → can_be (firsts f) t ≡ true
first_only f k t full h =
    elim (or_cases (can_be (firsts f) t) (may_be_empty f && begins k t) h) [
      | inl within ↦ within
      | inr behind ↦ absurd (both_ways _ full (and_parts (may_be_empty f) (begins k t) behind).0)
    ]

-- the word after a bracket that begins an operand
bracket_second : (k : List Symbol) (s : State) (v w : Nested) (way : List Nested) (e : Ending) → Fit (N Unary ∷ k) → v.word.terminal ≡ Open
    → Run ways s (N Unary ∷ k) (v ∷ w ∷ way) e → can_be (firsts Expression) w.word.terminal ≡ true
bracket_second k s v w way e fit is run =
    let a = easy Unary Open k s v (w ∷ way) e fit refl is run in
    let fit_a = fit_number Unary 6 k (lit< tt) fit in
    let b = easy Postfix Open k s v (w ∷ way) e fit_a refl is a in
    let fit_b = fit_number Postfix 0 k (lit< tt) fit_a in
    let c = easy Primary Open (N Suffixes ∷ k) s v (w ∷ way) e fit_b refl is b in
    let d = next s (Here ∷ T Open ∷ N Expression ∷ T Close ∷ B MakeBracket ∷ N Suffixes ∷ k) v (w ∷ way) e c in
    let f = next _ (T Open ∷ N Expression ∷ T Close ∷ B MakeBracket ∷ N Suffixes ∷ k) v (w ∷ way) e d in
    first_only Expression (T Close ∷ B MakeBracket ∷ N Suffixes ∷ k) w.word.terminal refl
    (run_begins _ (N Expression ∷ T Close ∷ B MakeBracket ∷ N Suffixes ∷ k) (w ∷ way) e w way f.2 refl)

-- an operand begins with no type in brackets
pub opens_none : (k : List Symbol) (s : State) (v w : Nested) (way : List Nested) (e : Ending) (rest : List Word) → Fit (N Unary ∷ k)
    → Run ways s (N Unary ∷ k) (v ∷ w ∷ way) e → opens_type (v.word ∷ w.word ∷ rest) ≡ false
opens_none k s v w way e rest fit run =
    false_from_ne_true (opens_type (v.word ∷ w.word ∷ rest)) (λ h.
    let both = and_parts (same_terminal v.word.terminal Open) (can_be (firsts TypeName) w.word.terminal) h in
    no_type_is_expression w.word.terminal both.1 (bracket_second k s v w way e fit (terminal_is v.word.terminal Open both.0) run))

no_type : (k : List Symbol) (s : State) (way : List Nested) (e : Ending) → Fit (N Unary ∷ k) → Run ways s (N Unary ∷ k) way e → opens_type (words_of way) ≡ false
no_type k s [] e fit run = refl
no_type k s (v ∷ []) e fit run = refl
no_type k s (v ∷ w ∷ way) e fit run = opens_none k s v w way e (words_of way) fit run

-- a type in brackets is one
pub opens_one : (k : List Symbol) (s : State) (v w : Nested) (way : List Nested) (e : Ending) (rest : List Word)
    → Run ways s (Here ∷ T Open ∷ N TypeName ∷ T Close ∷ k) (v ∷ w ∷ way) e → opens_type (v.word ∷ w.word ∷ rest) ≡ true
opens_one k s v w way e rest run =
    let a = next s (Here ∷ T Open ∷ N TypeName ∷ T Close ∷ k) v (w ∷ way) e run in
    let b = next _ (T Open ∷ N TypeName ∷ T Close ∷ k) v (w ∷ way) e a in
    and_from _ _ (is_same v.word.terminal Open b.0)
    (first_only TypeName (T Close ∷ k) w.word.terminal refl (run_begins _ (N TypeName ∷ T Close ∷ k) (w ∷ way) e w way b.2 refl))

a_type : (k : List Symbol) (s : State) (way : List Nested) (vs : List Value) → Run ways s (Here ∷ T Open ∷ N TypeName ∷ T Close ∷ k) way (Complete vs)
    → opens_type (words_of way) ≡ true
a_type k s [] vs run = absurd (end s (Here ∷ T Open ∷ N TypeName ∷ T Close ∷ k) vs run)
a_type k s (v ∷ []) vs run =
    let a = next s (Here ∷ T Open ∷ N TypeName ∷ T Close ∷ k) v [] (Complete vs) run in
    let b = next _ (T Open ∷ N TypeName ∷ T Close ∷ k) v [] (Complete vs) a in
    let none : passes (N TypeName ∷ T Close ∷ k) ≡ true = run_passes _ (N TypeName ∷ T Close ∷ k) [] (Complete vs) vs b.2 refl refl in
    cc
a_type k s (v ∷ w ∷ way) vs run = opens_one k s v w way (Complete vs) (words_of way) run

-- ---- a base type's first word

-- it is read, and this is left
pub record BaseRead (s : State) (w : Nested) (way : List Nested) (left : List Symbol) (e : Ending) : Type 0 where
  pub stands : w.nesting ≡ nesting s
  pub on : State
  pub deep : nesting on ≡ nesting s
  pub run : Run ways on left way e

abbrev pub specifier_left : List Symbol
specifier_left = N PerhapsPrivate ∷ B MakeSpecifier ∷ []

pub void_read : (k : List Symbol) (s : State) (v : Nested) (way : List Nested) (e : Ending) → Fit (N Specifier ∷ k) → v.word.terminal ≡ Void
    → Run ways s (N Specifier ∷ k) (v ∷ way) e → BaseRead s v way (B (Give (part.OfBase base.Void)) ∷ (specifier_left ++ k)) e
void_read k s v way e fit is run =
    let a = easy Specifier Void k s v way e fit refl is run in
    let fit_a = fit_number Specifier 0 k (lit< tt) fit in
    let b = next s (Here ∷ N PerhapsPrivate ∷ N BaseType ∷ (specifier_left ++ k)) v way e a in
    let c = easy PerhapsPrivate Void (N BaseType ∷ (specifier_left ++ k)) _ v way e fit_a refl is b in
    let d = next _ (way_at ways PerhapsPrivate 1 ++ (N BaseType ∷ (specifier_left ++ k))) v way e c in
    let f = next _ (way_at ways BaseType 3 ++ (specifier_left ++ k)) v way e (easy BaseType Void (specifier_left ++ k) _ v way e fit_a.1 refl is d) in
    record { stands = f.1; on = _; deep = refl; run = f.2 }

pub struct_read : (k : List Symbol) (s : State) (v : Nested) (way : List Nested) (e : Ending) → Fit (N Specifier ∷ k) → v.word.terminal ≡ Struct
    → Run ways s (N Specifier ∷ k) (v ∷ way) e → BaseRead s v way (L Name ∷ B MakeStruct ∷ (specifier_left ++ k)) e
struct_read k s v way e fit is run =
    let a = easy Specifier Struct k s v way e fit refl is run in
    let fit_a = fit_number Specifier 0 k (lit< tt) fit in
    let b = next s (Here ∷ N PerhapsPrivate ∷ N BaseType ∷ (specifier_left ++ k)) v way e a in
    let c = easy PerhapsPrivate Struct (N BaseType ∷ (specifier_left ++ k)) _ v way e fit_a refl is b in
    let d = next _ (way_at ways PerhapsPrivate 1 ++ (N BaseType ∷ (specifier_left ++ k))) v way e c in
    let f = next _ (way_at ways BaseType 4 ++ (specifier_left ++ k)) v way e (easy BaseType Struct (specifier_left ++ k) _ v way e fit_a.1 refl is d) in
    record { stands = f.1; on = _; deep = refl; run = f.2 }

-- the second word behind `void`, and the third behind `struct`
void_second : (k : List Symbol) (s : State) (v w : Nested) (way : List Nested) (e : Ending) → Fit (N Specifier ∷ k) → v.word.terminal ≡ Void
    → Run ways s (N Specifier ∷ k) (v ∷ w ∷ way) e → begins (specifier_left ++ k) w.word.terminal ≡ true
void_second k s v w way e fit is run =
    let r = void_read k s v (w ∷ way) e fit is run in
    run_begins r.on (B (Give (part.OfBase base.Void)) ∷ (specifier_left ++ k)) (w ∷ way) e w way r.run refl

struct_third : (k : List Symbol) (s : State) (u v w : Nested) (way : List Nested) (e : Ending) → Fit (N Specifier ∷ k) → u.word.terminal ≡ Struct
    → Run ways s (N Specifier ∷ k) (u ∷ v ∷ w ∷ way) e → begins (specifier_left ++ k) w.word.terminal ≡ true
struct_third k s u v w way e fit is run =
    let r = struct_read k s u (v ∷ w ∷ way) e fit is run in
    let f = next r.on (L Name ∷ B MakeStruct ∷ (specifier_left ++ k)) v (w ∷ way) e r.run in
    run_begins _ (B MakeStruct ∷ (specifier_left ++ k)) (w ∷ way) e w way f.2 refl

-- ---- the forms where one word doesn't decide

-- `struct NAME {` begins a structure
pub structure_begun : (k : List Symbol) (s : State) (u v w : Nested) (way : List Nested) (e : Ending) (rest : List Word)
    → Run ways s (T Struct ∷ L Name ∷ T OpenBrace ∷ k) (u ∷ v ∷ w ∷ way) e → begins_structure (u.word ∷ v.word ∷ w.word ∷ rest) ≡ true
structure_begun k s u v w way e rest run =
    let a = next s (T Struct ∷ L Name ∷ T OpenBrace ∷ k) u (v ∷ w ∷ way) e run in
    let b = next _ (L Name ∷ T OpenBrace ∷ k) v (w ∷ way) e a.2 in
    let c = next _ (T OpenBrace ∷ k) w way e b.2 in
    and_from _ _ (is_same u.word.terminal Struct a.0) (is_same w.word.terminal OpenBrace c.0)

structure_words : (k : List Symbol) (s : State) (way : List Nested) (vs : List Value) → Run ways s (T Struct ∷ L Name ∷ T OpenBrace ∷ k) way (Complete vs)
    → begins_structure (words_of way) ≡ true
structure_words k s [] vs run = absurd (end s (T Struct ∷ L Name ∷ T OpenBrace ∷ k) vs run)
structure_words k s (u ∷ []) vs run =
    let a = next s (T Struct ∷ L Name ∷ T OpenBrace ∷ k) u [] (Complete vs) run in absurd (end _ (L Name ∷ T OpenBrace ∷ k) vs a.2)
structure_words k s (u ∷ v ∷ []) vs run =
    let a = next s (T Struct ∷ L Name ∷ T OpenBrace ∷ k) u (v ∷ []) (Complete vs) run in
    let b = next _ (L Name ∷ T OpenBrace ∷ k) v [] (Complete vs) a.2 in absurd (end _ (T OpenBrace ∷ k) vs b.2)
structure_words k s (u ∷ v ∷ w ∷ way) vs run = structure_begun k s u v w way (Complete vs) (words_of way) run

no_brace : (k : List Symbol) (t : Terminal) → t ≡ OpenBrace → begins (N PerhapsPrivate ∷ B MakeSpecifier ∷ N Pointer ∷ N (Left AfterStars) ∷ k) t ≡ true → ⊥
no_brace k t is h =
    let clash : begins (N PerhapsPrivate ∷ B MakeSpecifier ∷ N Pointer ∷ N (Left AfterStars) ∷ k) OpenBrace ≡ true =
    subst (λ (x : Terminal). begins (N PerhapsPrivate ∷ B MakeSpecifier ∷ N Pointer ∷ N (Left AfterStars) ∷ k) x ≡ true) is h in
    cc

pub no_structure_begun : (k : List Symbol) (s : State) (u v w : Nested) (way : List Nested) (e : Ending) (rest : List Word)
    → Fit (N Specifier ∷ N Pointer ∷ N (Left AfterStars) ∷ k) → Run ways s (N Specifier ∷ N Pointer ∷ N (Left AfterStars) ∷ k) (u ∷ v ∷ w ∷ way) e
    → begins_structure (u.word ∷ v.word ∷ w.word ∷ rest) ≡ false
no_structure_begun k s u v w way e rest fit run =
    false_from_ne_true (begins_structure (u.word ∷ v.word ∷ w.word ∷ rest)) (λ h.
    let both = and_parts (same_terminal u.word.terminal Struct) (same_terminal w.word.terminal OpenBrace) h in
    no_brace k w.word.terminal (terminal_is w.word.terminal OpenBrace both.1)
    (struct_third (N Pointer ∷ N (Left AfterStars) ∷ k) s u v w way e fit (terminal_is u.word.terminal Struct both.0) run))

no_structure : (k : List Symbol) (s : State) (way : List Nested) (e : Ending) → Fit (N Specifier ∷ N Pointer ∷ N (Left AfterStars) ∷ k)
    → Run ways s (N Specifier ∷ N Pointer ∷ N (Left AfterStars) ∷ k) way e → begins_structure (words_of way) ≡ false
no_structure k s [] e fit run = refl
no_structure k s (u ∷ []) e fit run = refl
no_structure k s (u ∷ v ∷ []) e fit run = refl
no_structure k s (u ∷ v ∷ w ∷ way) e fit run = no_structure_begun k s u v w way e (words_of way) fit run

-- a list of parameters or of types ends at a closing bracket
pub closed : (f : Form) (k : List Symbol) (s : State) (w : Nested) (way : List Nested) (e : Ending) → Fit (N f ∷ k)
    → ((t : Terminal) → can_be (follows f) t ≡ true → t ≡ Close) → Run ways s k (w ∷ way) e → w.word.terminal ≡ Close
closed f k s w way e fit closes run = closes w.word.terminal (fit.0.follows w.word.terminal (run_begins s k (w ∷ way) e w way run refl))

ends_list : (f : Form) (k : List Symbol) (s : State) (way : List Nested) (vs : List Value) → Fit (N f ∷ k) → can_end f ≡ false
    → ((t : Terminal) → can_be (follows f) t ≡ true → t ≡ Close) → Run ways s k way (Complete vs) → (w : Nested) × (rest : List Nested) × (way ≡ w ∷ rest) × (w.word.terminal ≡ Close)
ends_list f k s [] vs fit full closes run =
    absurd (both_ways _ full (fit.0.ends (run_passes s k [] (Complete vs) vs run refl refl)))
ends_list f k s (w ∷ way) vs fit full closes run = (w, way, refl, closed f k s w way (Complete vs) fit closes run)

pub only_close : (t : Terminal) → can_be (Close ∷ []) t ≡ true → t ≡ Close
only_close t h = elim (or_cases (same_terminal t Close) false h) [ inl is ↦ terminal_is t Close is | inr never ↦ absurd cc ]

-- what the words say where the list is empty
close_no_void : (w : Word) (rest : List Word) → w.terminal ≡ Close → is_bare_void (w ∷ rest) ≡ false
close_no_void w [] closes = refl
close_no_void w (x ∷ rest) closes =
    false_from_ne_true (is_bare_void (w ∷ x ∷ rest)) (λ h.
    let void = terminal_is w.terminal Void (and_parts (same_terminal w.terminal Void) (same_terminal x.terminal Close) h).0 in
    let clash : Close ≡ Void = sym closes ∙ void in cc)

-- the number of a list's way
abbrev pub list_way : Bool → Bool → ℕ
list_way void some = cond void 1 (cond some 2 0)

pub choice_0 : (a b : Bool) → a ≡ false → b ≡ false → list_way a b ≡ 0
choice_0 a b ea eb = cond-false a 1 (cond b 2 0) ea ∙ cond-false b 2 0 eb

pub choice_1 : (a b : Bool) → a ≡ true → list_way a b ≡ 1
choice_1 a b ea = cond-true a 1 (cond b 2 0) ea

pub choice_2 : (a b : Bool) → a ≡ false → b ≡ true → list_way a b ≡ 2
choice_2 a b ea eb = cond-false a 1 (cond b 2 0) ea ∙ cond-true b 2 0 eb

abbrev pub list_way_at : Form → List Word → ℕ
list_way_at item words = list_way (is_bare_void words) (can_begin item words)

pub empty_at : (item : Form) (w : Word) (rest : List Word) → can_be (firsts item) Close ≡ false → w.terminal ≡ Close → list_way_at item (w ∷ rest) ≡ 0
empty_at item w rest never closes =
    choice_0 _ _ (close_no_void w rest closes) (subst (λ (t : Terminal). can_be (firsts item) t ≡ false) (sym closes) never)

pub void_at : (item : Form) (v w : Word) (rest : List Word) → v.terminal ≡ Void → w.terminal ≡ Close → list_way_at item (v ∷ w ∷ rest) ≡ 1
void_at item v w rest void closes = choice_1 _ _ (and_from _ _ (is_same v.terminal Void void) (is_same w.terminal Close closes))

empty_list : (f item : Form) (k : List Symbol) (s : State) (way : List Nested) (vs : List Value) → Fit (N f ∷ k) → can_end f ≡ false
    → ((t : Terminal) → can_be (follows f) t ≡ true → t ≡ Close) → can_be (firsts item) Close ≡ false → Run ways s k way (Complete vs) → list_way_at item (words_of way) ≡ 0
empty_list f item k s way vs fit full closes never run =
    let e = ends_list f k s way vs fit full closes run in
    subst (λ (l : List Nested). list_way_at item (words_of l) ≡ 0) (sym e.2) (empty_at item e.0.word (words_of e.1) never e.3)

bare_void : (f item : Form) (k : List Symbol) (s : State) (v : Nested) (way : List Nested) (vs : List Value) → Fit (N f ∷ k) → can_end f ≡ false
    → ((t : Terminal) → can_be (follows f) t ≡ true → t ≡ Close) → v.word.terminal ≡ Void → Run ways s k way (Complete vs) → list_way_at item (words_of (v ∷ way)) ≡ 1
bare_void f item k s v way vs fit full closes void run =
    let e = ends_list f k s way vs fit full closes run in
    subst (λ (l : List Nested). list_way_at item (words_of (v ∷ l)) ≡ 1) (sym e.2) (void_at item v.word e.0.word (words_of e.1) void e.3)

pub item_begun : (item : Form) (k : List Symbol) (s : State) (w : Nested) (way : List Nested) (e : Ending) → may_be_empty item ≡ false → Run ways s (N item ∷ k) (w ∷ way) e
    → can_be (firsts item) w.word.terminal ≡ true
item_begun item k s w way e full run = first_only item k w.word.terminal full (run_begins s (N item ∷ k) (w ∷ way) e w way run refl)

begun_list : (item : Form) (k : List Symbol) (s : State) (way : List Nested) (vs : List Value) → may_be_empty item ≡ false → Run ways s (N item ∷ k) way (Complete vs)
    → can_begin item (words_of way) ≡ true
begun_list item k s [] vs full run =
    absurd (both_ways _ full (and_parts (may_be_empty item) (passes k) (run_passes s (N item ∷ k) [] (Complete vs) vs run refl refl)).0)
begun_list item k s (w ∷ way) vs full run = item_begun item k s w way (Complete vs) full run

-- a parameter is no bare `void`
pub parameter_begun : (k : List Symbol) (s : State) (v w : Nested) (way : List Nested) (e : Ending) (rest : List Word) → Fit (N Parameter ∷ k)
    → Run ways s (N Parameter ∷ k) (v ∷ w ∷ way) e → is_bare_void (v.word ∷ w.word ∷ rest) ≡ false
parameter_begun k s v w way e rest fit run =
    false_from_ne_true (is_bare_void (v.word ∷ w.word ∷ rest)) (λ h.
    let both = and_parts (same_terminal v.word.terminal Void) (same_terminal w.word.terminal Close) h in
    let a = only ways Parameter (N Specifier ∷ N Declarator ∷ B MakeParameter ∷ []) refl k s (v ∷ w ∷ way) e run in
    let fit_a = fit_number Parameter 0 k (lit< tt) fit in
    let b = void_second (N Declarator ∷ B MakeParameter ∷ k) s v w way e fit_a (terminal_is v.word.terminal Void both.0) a in
    let clash : begins (N PerhapsPrivate ∷ B MakeSpecifier ∷ N Declarator ∷ B MakeParameter ∷ k) Close ≡ true =
    subst (λ (t : Terminal). begins (N PerhapsPrivate ∷ B MakeSpecifier ∷ N Declarator ∷ B MakeParameter ∷ k) t ≡ true) (terminal_is w.word.terminal Close both.1) b in
    cc)

no_bare_void : (k : List Symbol) (s : State) (way : List Nested) (e : Ending) → Fit (N Parameter ∷ k) → Run ways s (N Parameter ∷ k) way e
    → is_bare_void (words_of way) ≡ false
no_bare_void k s [] e fit run = refl
no_bare_void k s (v ∷ []) e fit run = refl
no_bare_void k s (v ∷ w ∷ way) e fit run = parameter_begun k s v w way e (words_of way) fit run

pub void_guarded : (v w : Word) (rest words : List Word) → ¬ BeginWith (Void ∷ Close ∷ []) (v ∷ w ∷ words) → is_bare_void (v ∷ w ∷ rest) ≡ false
void_guarded v w rest words free_of =
    false_from_ne_true (is_bare_void (v ∷ w ∷ rest)) (λ h.
    let both = and_parts (same_terminal v.terminal Void) (same_terminal w.terminal Close) h in
    free_of (terminal_is v.terminal Void both.0, (terminal_is w.terminal Close both.1, tt)))

guarded : (words : List Word) → ¬ BeginWith (Void ∷ Close ∷ []) words → is_bare_void words ≡ false
guarded [] free_of = refl
guarded (v ∷ []) free_of = refl
guarded (v ∷ w ∷ words) free_of = void_guarded v w words words free_of

-- where `else` doesn't come next
pub no_else : (k : List Symbol) (s : State) (w : Nested) (way : List Nested) (e : Ending) → Fit (N PerhapsElse ∷ k) → 1 < length (ways PerhapsElse)
    → Run ways s (way_at ways PerhapsElse 1 ++ k) (w ∷ way) e → 1 ≡ begun_way PerhapsElse w.word.terminal
no_else k s w way e fit below run =
    let a = next s (way_at ways PerhapsElse 1 ++ k) w way e run in
    let not_else = false_from_ne_true (same_terminal w.word.terminal Else) (λ h. a.0 (terminal_is w.word.terminal Else h, tt)) in
    easy_number PerhapsElse k s w way e fit w.word.terminal not_else refl 1 below run

-- ---- every form

pub picks : (f : Form) (k : List Symbol) (s : State) (way : List Nested) (vs : List Value) → Fit (N f ∷ k) → (j : ℕ) → j < length (ways f)
    → Run ways s (way_at ways f j ++ k) way (Complete vs) → j ≡ way_number f (words_of way)
picks Top k s way vs fit zero below run =
    let a = only ways Structure (way_at ways Structure 0) refl k s way (Complete vs) run in
    sym (cond-true (begins_structure (words_of way)) 0 1 (structure_words _ s way vs a))
picks Top k s way vs fit (suc zero) below run =
    sym (cond-false (begins_structure (words_of way)) 0 1 (no_structure k s way (Complete vs) (fit_number Top 1 k (lit< tt) fit) run))
picks Top k s way vs fit (suc (suc j)) below run = absurd (omega arith)
picks Assign k s [] vs fit zero below run = refl
picks Assign k s (w ∷ way) vs fit zero below run =
    let a = next s (M In ∷ N Unary ∷ N (Left AfterUnary) ∷ k) w way (Complete vs) run in
    sym (cond-false (opens_type (words_of (w ∷ way))) 1 0 (no_type (N (Left AfterUnary) ∷ k) _ (w ∷ way) (Complete vs) (fit_number Assign 0 k (lit< tt) fit) a))
picks Assign k s [] vs fit (suc zero) below run =
    absurd (end _ (drop 2 (way_at ways Assign 1) ++ k) vs (end _ (drop 1 (way_at ways Assign 1) ++ k) vs (end s (way_at ways Assign 1 ++ k) vs run)))
picks Assign k s (w ∷ way) vs fit (suc zero) below run =
    let a = next s (way_at ways Assign 1 ++ k) w way (Complete vs) run in
    let b = next _ (typed_operand ++ (operands_left ++ k)) w way (Complete vs) a in
    sym (cond-true (opens_type (words_of (w ∷ way))) 1 0 (a_type (N Cast ∷ B MakeCast ∷ M Out ∷ (operands_left ++ k)) _ (w ∷ way) vs b))
picks Assign k s way vs fit (suc (suc j)) below run = absurd (omega arith)
picks Cast k s [] vs fit zero below run = absurd (end _ (drop 1 (way_at ways Cast 0) ++ k) vs (end s (way_at ways Cast 0 ++ k) vs run))
picks Cast k s (w ∷ way) vs fit zero below run =
    let a = next s (typed_operand ++ k) w way (Complete vs) run in
    sym (cond-true (opens_type (words_of (w ∷ way))) 0 1 (a_type (N Cast ∷ B MakeCast ∷ M Out ∷ k) _ (w ∷ way) vs a))
picks Cast k s way vs fit (suc zero) below run =
    sym (cond-false (opens_type (words_of way)) 0 1 (no_type k s way (Complete vs) (fit_number Cast 1 k (lit< tt) fit) run))
picks Cast k s way vs fit (suc (suc j)) below run = absurd (omega arith)
picks Parameters k s [] vs fit zero below run = refl
picks Parameters k s (w ∷ way) vs fit zero below run =
    let a = next s (way_at ways Parameters 0 ++ k) w way (Complete vs) run in
    sym (empty_list Parameters Parameter k _ (w ∷ way) vs fit refl only_close refl a)
picks Parameters k s [] vs fit (suc zero) below run = absurd (end s (way_at ways Parameters 1 ++ k) vs run)
picks Parameters k s (v ∷ []) vs fit (suc zero) below run =
    let a = next s (way_at ways Parameters 1 ++ k) v [] (Complete vs) run in
    absurd (both_ways (can_end Parameters) refl (fit.0.ends (run_passes _ (drop 1 (way_at ways Parameters 1) ++ k) [] (Complete vs) vs a.2 refl refl)))
picks Parameters k s (v ∷ x ∷ way) vs fit (suc zero) below run =
    let a = next s (way_at ways Parameters 1 ++ k) v (x ∷ way) (Complete vs) run in
    let b = next _ (drop 1 (way_at ways Parameters 1) ++ k) x way (Complete vs) a.2 in
    sym (bare_void Parameters Parameter k _ v (x ∷ way) vs fit refl only_close a.0 b)
picks Parameters k s way vs fit (suc (suc zero)) below run =
    sym (choice_2 _ _ (no_bare_void _ s way (Complete vs) (fit_number Parameters 2 k (lit< tt) fit) run) (begun_list Parameter _ s way vs refl run))
picks Parameters k s way vs fit (suc (suc (suc j))) below run = absurd (omega arith)
picks ParameterTypes k s [] vs fit zero below run = refl
picks ParameterTypes k s (w ∷ way) vs fit zero below run =
    let a = next s (way_at ways ParameterTypes 0 ++ k) w way (Complete vs) run in
    sym (empty_list ParameterTypes TypeName k _ (w ∷ way) vs fit refl only_close refl a)
picks ParameterTypes k s [] vs fit (suc zero) below run = absurd (end _ (drop 1 (way_at ways ParameterTypes 1) ++ k) vs (end s (way_at ways ParameterTypes 1 ++ k) vs run))
picks ParameterTypes k s (v ∷ []) vs fit (suc zero) below run =
    let a = next s (way_at ways ParameterTypes 1 ++ k) v [] (Complete vs) run in
    let b = next _ (drop 1 (way_at ways ParameterTypes 1) ++ k) v [] (Complete vs) a in
    absurd (both_ways (can_end ParameterTypes) refl (fit.0.ends (run_passes _ (drop 2 (way_at ways ParameterTypes 1) ++ k) [] (Complete vs) vs b.2 refl refl)))
picks ParameterTypes k s (v ∷ x ∷ way) vs fit (suc zero) below run =
    let a = next s (way_at ways ParameterTypes 1 ++ k) v (x ∷ way) (Complete vs) run in
    let b = next _ (drop 1 (way_at ways ParameterTypes 1) ++ k) v (x ∷ way) (Complete vs) a in
    let c = next _ (drop 2 (way_at ways ParameterTypes 1) ++ k) x way (Complete vs) b.2 in
    let d = next _ (drop 3 (way_at ways ParameterTypes 1) ++ k) x way (Complete vs) c in
    sym (bare_void ParameterTypes TypeName k _ v (x ∷ way) vs fit refl only_close b.0 d)
picks ParameterTypes k s [] vs fit (suc (suc zero)) below run =
    absurd (both_ways false refl (run_passes s (way_at ways ParameterTypes 2 ++ k) [] (Complete vs) vs run refl refl))
picks ParameterTypes k s (v ∷ way) vs fit (suc (suc zero)) below run =
    let a = next s (way_at ways ParameterTypes 2 ++ k) v way (Complete vs) run in
    let b = next s (drop 1 (way_at ways ParameterTypes 2) ++ k) v way (Complete vs) a.1 in
    sym (choice_2 _ _ (guarded (words_of (v ∷ way)) a.0) (begun_list TypeName _ _ (v ∷ way) vs refl b))
picks ParameterTypes k s way vs fit (suc (suc (suc j))) below run = absurd (omega arith)
picks PerhapsElse k s [] vs fit zero below run = absurd (end s (way_at ways PerhapsElse 0 ++ k) vs run)
picks PerhapsElse k s (w ∷ way) vs fit zero below run =
    let a = next s (way_at ways PerhapsElse 0 ++ k) w way (Complete vs) run in
    sym (ap (begun_way PerhapsElse) a.0)
picks PerhapsElse k s [] vs fit (suc zero) below run = refl
picks PerhapsElse k s (w ∷ way) vs fit (suc zero) below run = no_else k s w way (Complete vs) fit below run
picks PerhapsElse k s way vs fit (suc (suc j)) below run = absurd (omega arith)
picks f k s [] vs fit j below run =
    way_empty f j below (passes-append (way_at ways f j) k (run_passes s (way_at ways f j ++ k) [] (Complete vs) vs run refl refl)).0
picks f k s (w ∷ way) vs fit j below run = easy_number f k s w way (Complete vs) fit w.word.terminal refl refl j below run
