-- Runs by any table: what follows some symbols may be exchanged, and a form for its only way.
use Rattle.std.proofs.lemmas.List.{get_or_default}
use Rattle.c_grammar.specs.Ways.{way_at}
use Rattle.std.proofs.Common.{length, ◌<◌, ◌≡◌, ℕ, List, [], ◌∷◌, ◌++◌, refl, sym, ap, subst, ◌∙◌, append_assoc, inl, inr, Bool, true, false, cond}
use Rattle.std.specs.Prelude.{Contains, ◌⊎◌}
use Rattle.c_lexer.proofs.Lists.{member_cases, no_member, first_member}
use Rattle.c_grammar.specs.Steps.{Leaf, Place, build}
use Rattle.c_grammar.specs.Grammar.{Form, Symbol, T, L, N, M, B, Here, Unless, Table}
use Rattle.c_grammar.specs.Reading.{State, nesting, after, add, Nested, nested, Ending, Run, stop, done, token, leaf, here, mark, step, unless, rule}

pub one_is : (a b : List Symbol) → Contains (a ∷ []) b → a ≡ b
one_is a b h = elim (member_cases a [] b h) [ inl is ↦ is | inr more ↦ absurd (no_member b more) ]

pub two_are : (a b c : List Symbol) → Contains (a ∷ b ∷ []) c → (a ≡ c) ⊎ (b ≡ c)
two_are a b c h = elim (member_cases a (b ∷ []) c h) [ inl is ↦ inl is | inr more ↦ inr (one_is b c more) ]

pub heads : {X : Type 0} (a b : X) (xs ys : List X) → a ∷ xs ≡ b ∷ ys → (a ≡ b) × (xs ≡ ys)
heads a b xs ys e = (cc, cc)

-- Where each run of what follows is a run of one of several others, a run with it behind is one of them behind.
pub split : (table : Table) (I : Type 0) (any : I) (x : List Symbol) (y : I → List Symbol)
    → ((s : State) (way : List Nested) (e : Ending) → Run table s x way e → (i : I) × Run table s (y i) way e)
    → (s : State) (q : List Symbol) (way : List Nested) (e : Ending) (a : List Symbol) → Run table s q way e → q ≡ a ++ x
    → (i : I) × Run table s (a ++ y i) way e
split table I any x y f s q way e [] run is = f s way e (subst (λ (p : List Symbol). Run table s p way e) is run)
split table I any x y f s q way e (z ∷ a) (stop s' p) is = (any, stop s (z ∷ (a ++ y any)))
split table I any x y f s q way e (z ∷ a) (done s') is = cc
split table I any x y f s q way e (z ∷ a) (token s' t w p v e' h more) is =
    let same = heads (T t) z p (a ++ x) is in
    let r = split table I any x y f s p v e a more same.1 in
    (r.0, subst (λ (c : Symbol). Run table s (c ∷ (a ++ y r.0)) (nested w (nesting s) ∷ v) e) same.0 (token s t w (a ++ y r.0) v e h r.1))
split table I any x y f s q way e (z ∷ a) (leaf s' t w p v e' h more) is =
    let same = heads (L t) z p (a ++ x) is in
    let r = split table I any x y f (add (Leaf w.place w.value) s) p v e a more same.1 in
    (r.0, subst (λ (c : Symbol). Run table s (c ∷ (a ++ y r.0)) (nested w (nesting s) ∷ v) e) same.0 (leaf s t w (a ++ y r.0) v e h r.1))
split table I any x y f s q way e (z ∷ a) (here s' w p v e' more) is =
    let same = heads Here z p (a ++ x) is in
    let r = split table I any x y f (add (Place w.word.place) s) p (w ∷ v) e a more same.1 in
    (r.0, subst (λ (c : Symbol). Run table s (c ∷ (a ++ y r.0)) (w ∷ v) e) same.0 (here s w (a ++ y r.0) v e r.1))
split table I any x y f s q way e (z ∷ a) (mark s' m p v e' more) is =
    let same = heads (M m) z p (a ++ x) is in
    let r = split table I any x y f (after m s) p v e a more same.1 in
    (r.0, subst (λ (c : Symbol). Run table s (c ∷ (a ++ y r.0)) v e) same.0 (mark s m (a ++ y r.0) v e r.1))
split table I any x y f s q way e (z ∷ a) (step s' b p v e' more) is =
    let same = heads (B b) z p (a ++ x) is in
    let r = split table I any x y f (record s { built = build b s.built }) p v e a more same.1 in
    (r.0, subst (λ (c : Symbol). Run table s (c ∷ (a ++ y r.0)) v e) same.0 (step s b (a ++ y r.0) v e r.1))
split table I any x y f s q way e (z ∷ a) (unless s' ts p v e' h more) is =
    let same = heads (Unless ts) z p (a ++ x) is in
    let r = split table I any x y f s p v e a more same.1 in
    (r.0, subst (λ (c : Symbol). Run table s (c ∷ (a ++ y r.0)) v e) same.0 (unless s ts (a ++ y r.0) v e h r.1))
split table I any x y f s q way e (z ∷ a) (rule s' g parts p v e' h more) is =
    let same = heads (N g) z p (a ++ x) is in
    let r = split table I any x y f s (parts ++ p) v e (parts ++ a) more (ap (λ (l : List Symbol). parts ++ l) same.1 ∙ sym (append_assoc parts a x)) in
    let joined = subst (λ (l : List Symbol). Run table s l v e) (append_assoc parts a (y r.0)) r.1 in
    (r.0, subst (λ (c : Symbol). Run table s (c ∷ (a ++ y r.0)) v e) same.0 (rule s g parts (a ++ y r.0) v e h joined))

pub exchange : (table : Table) (a x y : List Symbol) → ((s : State) (way : List Nested) (e : Ending) → Run table s x way e → Run table s y way e)
    → (s : State) (way : List Nested) (e : Ending) → Run table s (a ++ x) way e → Run table s (a ++ y) way e
exchange table a x y f s way e run =
    (split table (Unit {0}) tt x (λ _. y) (λ s' way' e' r. (tt, f s' way' e' r)) s (a ++ x) way e a run refl).1

form_is : (f g : Form) → N f ≡ N g → f ≡ g
form_is f g e = cc

-- a way of the form at the head, and a run by it
pub record Opened (table : Table) (s : State) (f : Form) (k : List Symbol) (way : List Nested) (e : Ending) : Type 0 where
  pub parts : List Symbol
  pub is_way : Contains (table f) parts
  pub run : Run table s (parts ++ k) way e

pub open_form : (table : Table) (f : Form) (k d : List Symbol) → Contains (table f) d
    → (s : State) (q : List Symbol) (way : List Nested) (e : Ending) → Run table s q way e → q ≡ N f ∷ k → Opened table s f k way e
open_form table f k d h s q way e (stop s' p) is = record { parts = d; is_way = h; run = stop s (d ++ k) }
open_form table f k d h s q way e (done s') is = cc
open_form table f k d h s q way e (token s' t w p v e' is_t more) is = cc
open_form table f k d h s q way e (leaf s' t w p v e' is_t more) is = cc
open_form table f k d h s q way e (here s' w p v e' more) is = cc
open_form table f k d h s q way e (mark s' m p v e' more) is = cc
open_form table f k d h s q way e (step s' b p v e' more) is = cc
open_form table f k d h s q way e (unless s' ts p v e' guard more) is = cc
open_form table f k d h s q way e (rule s' g parts p v e' among more) is =
    let same = heads (N g) (N f) p k is in record {
      parts = parts;
      is_way = subst (λ (c : Form). Contains (table c) parts) (form_is g f same.0) among;
      run = subst (λ (l : List Symbol). Run table s (parts ++ l) way e) same.1 more;
    }

-- the only way of a form takes its place
pub only : (table : Table) (f : Form) (parts : List Symbol) → table f ≡ parts ∷ []
    → (k : List Symbol) (s : State) (way : List Nested) (e : Ending) → Run table s (N f ∷ k) way e → Run table s (parts ++ k) way e
only table f parts one k s way e run =
    let first : Contains (table f) parts = subst (λ (l : List (List Symbol)). Contains l parts) (sym one) (first_member parts []) in
    let o = open_form table f k parts first s (N f ∷ k) way e run refl in
    let is : parts ≡ o.parts = one_is parts o.parts (subst (λ (l : List (List Symbol)). Contains l o.parts) one o.is_way) in
    subst (λ (l : List Symbol). Run table s (l ++ k) way e) (sym is) o.run

-- one of a form's two ways does
pub either : (table : Table) (f : Form) (one two : List Symbol) → table f ≡ one ∷ two ∷ []
    → (k : List Symbol) (s : State) (way : List Nested) (e : Ending) → Run table s (N f ∷ k) way e
    → (b : Bool) × Run table s (cond b one two ++ k) way e
either table f one two both k s way e run =
    let first : Contains (table f) one = subst (λ (l : List (List Symbol)). Contains l one) (sym both) (first_member one (two ∷ [])) in
    let o = open_form table f k one first s (N f ∷ k) way e run refl in
    elim (two_are one two o.parts (subst (λ (l : List (List Symbol)). Contains l o.parts) both o.is_way)) [
      | inl is ↦ (true, subst (λ (l : List Symbol). Run table s (l ++ k) way e) (sym is) o.run)
      | inr is ↦ (false, subst (λ (l : List Symbol). Run table s (l ++ k) way e) (sym is) o.run)
    ]

-- a run by a way of a form is one of the form
pub by_way : (table : Table) (f : Form) (i : ℕ) → i < length (table f) → (k : List Symbol) (s : State) (way : List Nested) (e : Ending)
    → Run table s (way_at table f i ++ k) way e → Run table s (N f ∷ k) way e
by_way table f i h k s way e run =
    rule s f (way_at table f i) k way e (i, h, get_or_default (table f) i (way_at table f i) [] h) run

-- which way a run went
pub record IsWay (table : Table) (f : Form) (parts : List Symbol) : Type 0 where
  pub number : ℕ
  pub below : number < length (table f)
  pub is : parts ≡ way_at table f number

pub is_way : (table : Table) (f : Form) (parts : List Symbol) → Contains (table f) parts → IsWay table f parts
is_way table f parts h = record { number = h.0; below = h.1; is = sym h.2 ∙ get_or_default (table f) h.0 parts [] h.1 }
