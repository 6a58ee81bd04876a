-- The first arrow from each node that leads a step nearer, found from the last arrow down.
use Rattle.std.proofs.Common.{◌≡◌, ◌≢◌, ℕ, ◌+◌, ◌-◌, ◌<◌, ◌≤◌, inl, inr, List, length, get_or, set, refl, sym, ◌∙◌, ap, subst, arith}
use Rattle.std.proofs.lemmas.Bool.{cases_eq}
use Rattle.std.proofs.lemmas.List.{get_or-set_same, get_or-set_other}
use Rattle.std.proofs.lemmas.Option.{slice_get_read}
use Rattle.qual_solve.specs.declared.constraint.Constraint.{Constraint}
use Rattle.qual_solve.specs.Distances.{IsStep, AreNext}
use Rattle.qual_solve.specs.Ends.{node_of, lefts_of, rights_of}
use Rattle.qual_solve.proofs.Numbered.{left_at, right_at, length_rights}

-- the first arrow from a bound on
pub record AreNextFrom (near far distances : List ℕ) (bound : ℕ) (next : List ℕ) : Type 0 where
  pub step : (node arrow : ℕ) → bound ≤ arrow → IsStep near far distances node arrow → IsStep near far distances node (get_or next node 0)
  pub first : (node arrow : ℕ) → bound ≤ arrow → IsStep near far distances node arrow → get_or next node 0 ≤ arrow

pub next_begins : (near far distances : List ℕ) (bound : ℕ) (next : List ℕ) → length near ≤ bound → AreNextFrom near far distances bound next
next_begins near far distances bound next le = record {
  step = λ node arrow high is. absurd (omega (arith, is.within));
  first = λ node arrow high is. absurd (omega (arith, is.within));
}

pub next_ends : (near far distances : List ℕ) (bound : ℕ) (next : List ℕ) → bound ≡ 0 → AreNextFrom near far distances bound next → AreNext near far distances next
next_ends near far distances bound next none are = record {
  step = λ node arrow is. are.step node arrow (omega arith) is;
  first = λ node arrow is. are.first node arrow (omega arith) is;
}

-- the arrow below the bound is a step
pub next_step : (near far distances : List ℕ) (arrow node : ℕ) (next : List ℕ) → AreNextFrom near far distances (arrow + 1) next →
    IsStep near far distances node arrow → node < length next → AreNextFrom near far distances arrow (set next node arrow)
next_step near far distances arrow node next are is lt =
    let here : get_or (set next node arrow) node 0 ≡ arrow = get_or-set_same next node arrow 0 lt in
    record {
      step = λ other later high other_is. elim (cases_eq other node) [
        | inl same ↦
            let at : get_or (set next node arrow) other 0 ≡ arrow = ap (λ n. get_or (set next node arrow) n 0) same ∙ here in
            let P : ℕ → Type 0 = λ n. IsStep near far distances n arrow in
            let Q : ℕ → Type 0 = λ a. IsStep near far distances other a in
            subst Q (sym at) (subst P (sym same) is)
        | inr ne ↦
            let stays = get_or-set_other next node other arrow 0 ne in
            let apart : later ≢ arrow = λ same. ne (sym other_is.leads ∙ ap (λ a. get_or far a 0) same ∙ is.leads) in
            let Q : ℕ → Type 0 = λ a. IsStep near far distances other a in
            subst Q (sym stays) (are.step other later (omega (arith, apart)) other_is)
      ];
      first = λ other later high other_is. elim (cases_eq other node) [
        | inl same ↦ omega (arith, ap (λ n. get_or (set next node arrow) n 0) same, here)
        | inr ne ↦
            let stays = get_or-set_other next node other arrow 0 ne in
            let apart : later ≢ arrow = λ same. ne (sym other_is.leads ∙ ap (λ a. get_or far a 0) same ∙ is.leads) in
            omega (arith, stays, are.first other later (omega (arith, apart)) other_is)
      ];
    }

-- the arrow below the bound is none
pub next_skip : (near far distances : List ℕ) (arrow : ℕ) (next : List ℕ) → AreNextFrom near far distances (arrow + 1) next →
    ((node : ℕ) → IsStep near far distances node arrow → ⊥) → AreNextFrom near far distances arrow next
next_skip near far distances arrow next are none = record {
  step = λ node later high is.
      let apart : later ≢ arrow = λ same. (let P : ℕ → Type 0 = λ a. IsStep near far distances node a in none node (subst P same is)) in
      are.step node later (omega (arith, apart)) is;
  first = λ node later high is.
      let apart : later ≢ arrow = λ same. (let P : ℕ → Type 0 = λ a. IsStep near far distances node a in none node (subst P same is)) in
      are.first node later (omega (arith, apart)) is;
}

-- ---- as the code has it, over constraints

abbrev From : List Constraint → List ℕ → ℕ → List ℕ → Type 0
From list distances bound next = AreNextFrom (rights_of list) (lefts_of list) distances bound next

-- the constraint below the bound leads a step nearer
pub constraint_step : (list : List Constraint) (distances next next' : List ℕ) (bound node : ℕ) (c : Constraint) →
    0 < bound → bound ≤ length list → c ≡ get_or list (bound - 1) c → node ≡ node_of c.from → node < length next →
    get_or distances (node_of c.to) 0 + 1 ≡ get_or distances (node_of c.from) 0 → next' ≡ set next node (bound - 1) →
    From list distances bound next → From list distances (bound - 1) next'
constraint_step list distances next next' bound node c some le read e inside nearer written are =
    let within : bound - 1 < length list = omega arith in
    let numbered = slice_get_read list (length list) (bound - 1) c refl within read in
    let left = left_at list (bound - 1) c numbered in
    let right = right_at list (bound - 1) c numbered in
    let is : IsStep (rights_of list) (lefts_of list) distances node (bound - 1) = record {
      within = omega (arith, length_rights list);
      leads = left ∙ sym e;
      nearer = ap (λ x. get_or distances x 0 + 1) right ∙ nearer ∙ sym (ap (λ x. get_or distances x 0) e);
    } in
    let same : bound ≡ bound - 1 + 1 = omega arith in
    let P : List ℕ → Type 0 = λ xs. From list distances (bound - 1) xs in
    let Q : ℕ → Type 0 = λ b. From list distances b next in
    subst P (sym written) (next_step (rights_of list) (lefts_of list) distances (bound - 1) node next (subst Q same are) is inside)

-- the constraint below the bound doesn't
pub constraint_skip : (list : List Constraint) (distances next : List ℕ) (bound : ℕ) (c : Constraint) →
    0 < bound → bound ≤ length list → c ≡ get_or list (bound - 1) c →
    (get_or distances (node_of c.to) 0 + 1 ≡ get_or distances (node_of c.from) 0 → ⊥) →
    From list distances bound next → From list distances (bound - 1) next
constraint_skip list distances next bound c some le read not_nearer are =
    let within : bound - 1 < length list = omega arith in
    let numbered = slice_get_read list (length list) (bound - 1) c refl within read in
    let left = left_at list (bound - 1) c numbered in
    let right = right_at list (bound - 1) c numbered in
    let same : bound ≡ bound - 1 + 1 = omega arith in
    let Q : ℕ → Type 0 = λ b. From list distances b next in
    next_skip (rights_of list) (lefts_of list) distances (bound - 1) next (subst Q same are)
    (λ node is. not_nearer (sym (ap (λ x. get_or distances x 0 + 1) right) ∙ is.nearer ∙ ap (λ x. get_or distances x 0) (sym is.leads ∙ left)))
