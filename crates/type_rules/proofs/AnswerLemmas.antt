-- A program has one answer at most.
use Rattle.std.proofs.Common.{◌≡◌, ℕ, ◌<◌, ◌≤◌, sym, ◌∙◌, inl, inr, arith}
use Rattle.std.specs.Prelude.{◌⊎◌}
use Rattle.c_ast.specs.declared.program.Program.{Program}
use Rattle.c_ast.specs.declared.typed.Typed.{Typed}
use Rattle.type_rules.specs.Programs.{IsLeastFault, IsTyped}

pub one_tree : (p : Program) (tree other : Typed) → IsTyped p tree → IsTyped p other → tree ≡ other
one_tree p tree other h g = h.is ∙ sym g.is

least_is_one : (rule place other at : ℕ) → (place < at) ⊎ ((place ≡ at) × (rule ≤ other)) → (at < place) ⊎ ((at ≡ place) × (other ≤ rule)) → (rule ≡ other) × (place ≡ at)
least_is_one rule place other at (inl one) (inl two) = absurd (omega (arith, one, two))
least_is_one rule place other at (inl one) (inr two) = absurd (omega (arith, one, two.0))
least_is_one rule place other at (inr one) (inl two) = absurd (omega (arith, one.0, two))
least_is_one rule place other at (inr one) (inr two) = (omega (arith, one.1, two.1), one.0)

pub one_fault : (p : Program) (rule place other at : ℕ) → IsLeastFault p rule place → IsLeastFault p other at → (rule ≡ other) × (place ≡ at)
one_fault p rule place other at h g = least_is_one rule place other at (h.least other at g.broken) (g.least rule place h.broken)

pub not_both : (p : Program) (tree : Typed) (rule place : ℕ) → IsTyped p tree → ¬ IsLeastFault p rule place
not_both p tree rule place h = λ l. h.unbroken rule place l.broken
