-- The fault at the least place, as more faults are looked at.
use Rattle.std.proofs.Common.{◌≡◌, ℕ, zero, suc, ◌+◌, ◌<◌, ◌≤◌, Bool, true, false, List, [], ◌∷◌, ◌++◌, Option, Some, None, length, ap, get_or, take, refl, sym, subst, inl, inr, arith, if◌then◌else◌}
use Rattle.std.proofs.lemmas.Grind.{common_steps}
use Rattle.std.proofs.lemmas.List.{take_more}
use Rattle.std.specs.Prelude.{◌⊎◌}
use Rattle.std.proofs.lemmas.List.Elements.{Contains-push, Contains-push_cases, Contains-append_left}
use Rattle.type_rules.specs.declared.rules.Fault.{Fault}
use Rattle.type_rules.specs.Programs.{IsLeast}
use Rattle.c_types.specs.Faults.{is_before, IsFound}

-- a fault or one behind it
abbrev Reaches : ℕ → ℕ → Fault → Type 0
Reaches rule place f = (place < f.place) ⊎ ((place ≡ f.place) × (rule ≤ f.rule))

reaches_itself : (f : Fault) → Reaches f.rule f.place f
reaches_itself f = inr (refl, omega arith)

-- one that is before another reaches what that one reaches
reaches_through : (f g : Fault) (other at : ℕ) → is_before f g ≡ true → (g.place < at) ⊎ ((g.place ≡ at) × (g.rule ≤ other)) → (f.place < at) ⊎ ((f.place ≡ at) × (f.rule ≤ other))
reaches_through f g other at before (inl less) = grind (arith, common_steps)
reaches_through f g other at before (inr same) = grind (arith, common_steps)

not_before : (f g : Fault) → is_before f g ≡ false → (g.place < f.place) ⊎ ((g.place ≡ f.place) × (g.rule ≤ f.rule))
not_before f g e = grind (arith, common_steps)

pushed_first : (xs : List Fault) (f : Fault) → xs ≡ [] → IsLeast (xs ++ f ∷ []) f.rule f.place
pushed_first xs f e = record {
  broken = Contains-push xs f;
  least = λ other at c. elim (Contains-push_cases xs f (record { rule = other; place = at }) c) [
    | inl old ↦ absurd (omega (arith, old.1, ap length e))
    | inr is ↦ subst (λ y. Reaches f.rule f.place y) is (reaches_itself f)
  ];
}

pushed_by : (xs : List Fault) (g f : Fault) (less : Bool) → is_before f g ≡ less → IsLeast xs g.rule g.place → IsFound (if less then Some f else Some g) (xs ++ f ∷ [])
pushed_by xs g f true e h = record {
  broken = Contains-push xs f;
  least = λ other at c. elim (Contains-push_cases xs f (record { rule = other; place = at }) c) [
    | inl old ↦ reaches_through f g other at e (h.least other at old)
    | inr is ↦ subst (λ y. Reaches f.rule f.place y) is (reaches_itself f)
  ];
}
pushed_by xs g f false e h = record {
  broken = Contains-append_left xs (f ∷ []) (record { rule = g.rule; place = g.place }) h.broken;
  least = λ other at c. elim (Contains-push_cases xs f (record { rule = other; place = at }) c) [
    | inl old ↦ h.least other at old
    | inr is ↦ subst (λ y. Reaches g.rule g.place y) is (not_before f g e)
  ];
}

-- the same of whatever was found
pub pushed : (xs : List Fault) (found : Option Fault) (f : Fault) → IsFound found xs
    → IsFound (elim found [ None ↦ Some f | Some g ↦ if is_before f g then Some f else Some g ]) (xs ++ f ∷ [])
pushed xs None f h = pushed_first xs f h
pushed xs (Some g) f h = pushed_by xs g f (is_before f g) refl h

-- an item of the list is the same whatever stands for one behind its end
pub same_item : (xs : List Fault) (i : ℕ) (one other : Fault) → i < length xs → get_or xs i one ≡ get_or xs i other
same_item [] i one other h = absurd (omega (arith, h))
same_item (x ∷ xs) zero one other h = refl
same_item (x ∷ xs) (suc i) one other h = same_item xs i one other (omega (arith, h))

-- a front of the list that is one longer
pub least_next : (all : List Fault) (i : ℕ) (found next : Option Fault) (f : Fault) → i < length all → f ≡ get_or all i f → IsFound found (take i all)
    → next ≡ (elim found [ None ↦ Some f | Some g ↦ if is_before f g then Some f else Some g ]) → IsFound next (take (i + 1) all)
least_next all i found next f within is h step =
    rw (step, take_more all i f within, sym is) (pushed (take i all) found f h)
