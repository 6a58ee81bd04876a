-- The definitions at lists small enough to follow by hand.
use Rattle.std.proofs.Common.{◌≡◌, ◌<◌, ℕ, zero, suc, get_or, List, [], ◌∷◌, refl, arith}
use Rattle.c_ast.specs.declared.qualifiers.Qual.{Qual}
use Rattle.c_ast.specs.declared.qualifiers.Qual.TheVariants.{Fixed, Var}
use Rattle.cv_word.specs.declared.registers.Taint.{Taint}
use Rattle.cv_word.specs.declared.registers.Taint.TheVariants.{Pub, Priv}
use Rattle.qual_solve.specs.declared.constraint.Constraint.{Constraint}
use Rattle.qual_solve.specs.Assignments.{taint_of, Meets, IsLeast}
use Rattle.qual_solve.specs.Leaks.{MeetsOpen, IsForced, IsChain, InOrder, ends, lower, equal}

abbrev between : Qual → Qual → Constraint
between from to = record { from = from; to = to; place = 0 }

-- variable 0 flows to public; private comes there by variables 1 and 2, and by the constant public in fewer steps
abbrev list : List Constraint
list =
    between (Var 0) (Fixed Pub) ∷ between (Fixed Priv) (Var 1) ∷ between (Var 1) (Var 2) ∷ between (Var 2) (Var 0)
    ∷ between (Fixed Priv) (Fixed Pub) ∷ between (Fixed Pub) (Var 0) ∷ []

-- ---- small facts

not_private : (variable : ℕ) → variable < 1 → get_or (Pub ∷ []) variable Pub ≡ Priv → ⊥
not_private zero lt e = cc
not_private (suc v) lt e = absurd (omega arith)

not_public : (assignment : List Taint) (t : Taint) → taint_of assignment (Var 0) ≡ t → (taint_of assignment (Var 0) ≡ Pub → ⊥) → taint_of assignment (Var 0) ≡ Priv
not_public assignment Priv e none = e
not_public assignment Pub e none = absurd (none e)

meets_none : MeetsOpen (Pub ∷ []) (between (Fixed Priv) (Fixed Pub) ∷ [])
meets_none zero d lt opens = absurd (opens refl)
meets_none (suc k) d lt opens = absurd (omega arith)

-- ---- assignments

second : taint_of (Pub ∷ Priv ∷ []) (Var 1) ≡ Priv
second = refl

constant : taint_of (Priv ∷ []) (Fixed Pub) ≡ Pub
constant = refl

-- private to public isn't met
broken : Meets (Priv ∷ []) (between (Var 0) (Fixed Pub)) → ⊥
broken meets = meets refl refl

-- with no constraint the least assignment has nothing private
none_private : IsLeast 1 [] (Pub ∷ [])
none_private = record {
  entries = refl;
  satisfies = λ k d lt. absurd (omega arith);
  least = λ variable lt private other is satisfies. absurd (not_private variable lt private);
}

-- ---- what is forced

-- by one constraint from the constant private
flows : IsForced 1 (between (Fixed Priv) (Var 0) ∷ []) (Var 0)
flows assignment is meets =
    let met : Meets assignment (between (Fixed Priv) (Var 0)) = meets 0 (between (Fixed Priv) (Var 0)) (omega arith) (λ e. cc) in
    not_public assignment (taint_of assignment (Var 0)) refl (met refl)

-- a closing constraint forces nothing: public meets all others
closing : IsForced 1 (between (Fixed Priv) (Fixed Pub) ∷ []) (Var 0) → ⊥
closing forced =
    let private : Pub ≡ Priv = forced (Pub ∷ []) refl meets_none in
    cc

-- ---- chains

-- by the variables
long_way : IsChain list 0 (1 ∷ 2 ∷ 3 ∷ 0 ∷ [])
long_way = record {
  leads = (
    between (Fixed Priv) (Var 1),
    refl,
    refl,
    (between (Var 1) (Var 2), refl, refl, (between (Var 2) (Var 0), refl, refl, (between (Var 0) (Fixed Pub), refl, refl, tt))),
  );
  before = 1 ∷ 2 ∷ 3 ∷ [];
  last = refl;
}

-- by the constant public
short_way : IsChain list 0 (4 ∷ 5 ∷ 0 ∷ [])
short_way = record {
  leads = (
    between (Fixed Priv) (Fixed Pub),
    refl,
    refl,
    (between (Fixed Pub) (Var 0), refl, refl, (between (Var 0) (Fixed Pub), refl, refl, tt)),
  );
  before = 4 ∷ 5 ∷ [];
  last = refl;
}

-- ---- the order of a dictionary

first_differs : InOrder (0 ∷ 9 ∷ []) (1 ∷ 0 ∷ [])
first_differs = lower (omega arith)

second_differs : InOrder (4 ∷ 5 ∷ []) (4 ∷ 7 ∷ [])
second_differs = equal (lower (omega arith))

former_ends : InOrder (4 ∷ []) (4 ∷ 0 ∷ [])
former_ends = equal ends
