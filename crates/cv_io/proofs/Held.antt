-- The releasers of all classes, of which an entry is looked at or written.
use Rattle.std.proofs.Common.{◌≡◌, ℕ, zero, suc, arith, ◌<◌, List, [], ◌∷◌, Option, Some, None, Result, IsSome, IsTrue, rules, length, slice_index_or, slice_set, is_some, sym, ap, ◌∙◌}
use Rattle.std.proofs.Math.Seq.{map-set_same}
use Rattle.std.proofs.lemmas.List.{map-set}
use Rattle.std.proofs.lemmas.Option.{slice_get-map, slice_get-get_or, get_or_from_slice_get}
use Rattle.std.specs.Option.{option_map}
use Rattle.cv_io.specs.Releasers.{Known, Classes, classes_by, held_of, is_held, Asks, AsksEntry}

-- the entry of a class that has a releaser is one
pub entry_held : {R : Type 0} (known : R → Known) (rs : List (Option R)) (class : ℕ) (x : Option R) → IsTrue (is_held (held_of (classes_by known rs)) class) → x ≡ slice_index_or rs class x → IsSome x
entry_held known [] class x h e = cc
entry_held known (Some r ∷ rs) zero x h e = search (rules, e)
entry_held known (None ∷ rs) zero x h e = cc
entry_held known (r ∷ rs) (suc i) x h e = entry_held known rs i x h e

-- a class has a releaser where its entry is one
pub held_at : {R : Type 0} (known : R → Known) (rs : List (Option R)) (class : ℕ) (x : Option R) → class < length rs → x ≡ slice_index_or rs class x → is_held (held_of (classes_by known rs)) class ≡ is_some x
held_at known [] class x within e = absurd (omega arith)
held_at known (Some r ∷ rs) zero x within e = ap is_some (sym e)
held_at known (None ∷ rs) zero x within e = ap is_some (sym e)
held_at known (r ∷ rs) (suc i) x within e = held_at known rs i x (omega arith) e

-- a class that has a releaser is not past the list
pub within_held : {R : Type 0} (known : R → Known) (rs : List (Option R)) (class : ℕ) → IsTrue (is_held (held_of (classes_by known rs)) class) → class < length rs
within_held known [] class h = cc
within_held known (r ∷ rs) zero h = omega arith
within_held known (r ∷ rs) (suc i) h =
    let within : i < length rs = within_held known rs i h in
    omega arith

-- an entry's releaser was asked, and is written back
pub Asks-entry : {R T E : Type 0} (known : R → Known) (rs : List (Option R)) (class : ℕ) (answer : Result T E) (from to : List ℕ) (x y : Option R) → class < length rs → x ≡ slice_index_or rs class x → AsksEntry answer from to (option_map known x) (option_map known y) → Asks answer class from to (classes_by known rs) (classes_by known (slice_set rs class y))
Asks-entry known rs class answer from to x y within e asks = record {
  before = asks.before;
  after = asks.after;
  was_held =
      slice_get-map (option_map known) rs class
      ∙ ap (option_map (option_map known)) (slice_get-get_or rs class x within ∙ ap Some (sym e))
      ∙ ap Some asks.was;
  releases = asks.releases;
  is_set = map-set (option_map known) rs class y ∙ ap (slice_set (classes_by known rs) class) asks.is;
}

-- asking takes no class its releaser
pub held_of-asks : {T E : Type 0} (answer : Result T E) (class : ℕ) (from to : List ℕ) (old new : Classes) → Asks answer class from to old new → held_of new ≡ held_of old
held_of-asks answer class from to old new asks =
    ap held_of asks.is_set
    ∙ map-set_same is_some old class (Some asks.after) None (ap is_some (sym (get_or_from_slice_get old class _ None asks.was_held)))
