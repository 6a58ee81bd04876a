-- A list of constraints has one answer.
use Rattle.std.proofs.Common.{◌≡◌, ℕ, suc, ◌<◌, ◌⊎◌, inl, inr, List, [], ◌∷◌, length, get_or, refl, sym, ◌∙◌, subst, arith}
use Rattle.cv_word.specs.declared.registers.Taint.{Taint}
use Rattle.cv_word.specs.declared.registers.Taint.TheVariants.{Pub, Priv}
use Rattle.c_ast.specs.declared.qualifiers.Qual.TheVariants.{Fixed}
use Rattle.qual_solve.specs.declared.constraint.Constraint.{Constraint}
use Rattle.qual_solve.specs.Assignments.{IsLeast}
use Rattle.qual_solve.specs.Leaks.{InOrder, lower, equal, IsLeak, IsBestFrom}

-- ---- assignments

-- taints that are private where the other is, and the other way round, are equal
same_taint : (a b : Taint) → (a ≡ Priv → b ≡ Priv) → (b ≡ Priv → a ≡ Priv) → a ≡ b
same_taint Priv Priv to from = refl
same_taint Pub Pub to from = refl
same_taint Priv Pub to from = sym (to refl)
same_taint Pub Priv to from = from refl

same_taints : (a b : List Taint) → length a ≡ length b → ((v : ℕ) → v < length a → get_or a v Pub ≡ get_or b v Pub) → a ≡ b
same_taints [] [] e each = refl
same_taints [] (y ∷ b) e each = absurd (omega (arith, e))
same_taints (x ∷ a) [] e each = absurd (omega (arith, e))
same_taints (x ∷ a) (y ∷ b) e each =
    let first : x ≡ y = each 0 (omega arith) in
    let rest : a ≡ b = same_taints a b (omega (arith, e)) (λ v lt. each (suc v) (omega arith)) in
    cc

pub one_least : (vars : ℕ) (list : List Constraint) (a b : List Taint) → IsLeast vars list a → IsLeast vars list b → a ≡ b
one_least vars list a b p q =
    same_taints a b (p.entries ∙ sym q.entries) (λ v lt.
    let below : v < vars = omega (arith, p.entries) in
    same_taint (get_or a v Pub) (get_or b v Pub)
    (λ private. p.least v below private b q.entries q.satisfies)
    (λ private. q.least v below private a p.entries p.satisfies))

-- ---- leaks

pub one_at : (vars : ℕ) (list : List Constraint) (at to : ℕ) (a b : List ℕ) → IsLeak vars list at a → IsLeak vars list to b → at ≡ to
one_at vars list at to a b p q = omega (arith, p.first.first to q.first.broken, q.first.first at p.first.broken)

-- which of the two cases puts a list before another
order_cases : (x y : ℕ) (xs ys : List ℕ) → InOrder (x ∷ xs) (y ∷ ys) → (x < y) ⊎ ((x ≡ y) × InOrder xs ys)
order_cases x y xs ys (lower lt) = inl lt
order_cases x y xs ys (equal rest) = inr (refl, rest)

-- two lists that are before each other are equal
same_order : (xs ys : List ℕ) → InOrder xs ys → InOrder ys xs → xs ≡ ys
same_order [] [] p q = refl
same_order [] (y ∷ ys) p q = elim q [ ]
same_order (x ∷ xs) [] p q = elim p [ ]
same_order (x ∷ xs) (y ∷ ys) p q = elim (order_cases x y xs ys p) [
  | inl lt ↦ elim (order_cases y x ys xs q) [
    | inl gt ↦ absurd (omega arith)
    | inr same ↦ absurd (omega (arith, same.0))
  ]
  | inr same ↦ elim (order_cases y x ys xs q) [
    | inl gt ↦ absurd (omega (arith, same.0))
    | inr back ↦
        let first : x ≡ y = same.0 in
        let rest : xs ≡ ys = same_order xs ys same.1 back.1 in
        cc
  ]
]

pub one_chain : (vars : ℕ) (list : List Constraint) (at to : ℕ) (a b : List ℕ) → IsLeak vars list at a → IsLeak vars list to b → a ≡ b
one_chain vars list at to a b p q =
    let e = one_at vars list at to a b p q in
    let P : ℕ → Type 0 = λ n. IsBestFrom list (Fixed Priv) n b in
    let best : IsBestFrom list (Fixed Priv) at b = subst P (sym e) q.best in
    let same : length a ≡ length b = omega (arith, p.best.shortest b best.is_chain, best.shortest a p.best.is_chain) in
    same_order a b (p.best.first b best.is_chain (sym same)) (best.first a p.best.is_chain same)
