-- Work that isn't refused, and what a gate step makes of it.
use Rattle.std.proofs.Common.{◌≡◌, ◌∙◌, ℕ, ◌≤◌, Bool, true, false, ◌&&◌, cond, [], Option, Some, None, refl, sym, ap, subst, not, ◌%◌, ◌^◌}
use Rattle.std.specs.Prelude.{nat_lt, IsTrue, slice_get, unwrap_or}
use Rattle.std.specs.Int.{w32, cast_signed}
use Rattle.std.proofs.lemmas.Bool.{and_parts, true≢false, ltb-false}
use Rattle.std.proofs.lemmas.Option.{none-some, unwrap_or-slice_get}
use Rattle.cv_io.specs.Releasers.{Classes, held_of, is_held}
use Rattle.cv_word.specs.declared.fault.FaultKind.{FaultKind}
use Rattle.cv_word.specs.declared.gates.Arguments.{Arguments}
use Rattle.cv_word.specs.declared.gates.Gate.{Gate}
use Rattle.cv_word.specs.declared.gates.Gate.TheVariants.{Exit, CoreEnd, Release}
use Rattle.cv_word.specs.declared.registers.Registers.{Registers}
use Rattle.cv_word.specs.Memory.{Memory, Range}
use Rattle.cv_word.specs.GateStep.{World, Releasers, Work, answers, ends, refusal, reads, writes, is_good_range, passes_limit, lacks_releaser, after_work, returned, work, read_from, written_to}
use Rattle.trusted_stubs.specs.declared.end.GateEnd.{GateEnd}
use Rattle.trusted_stubs.specs.declared.end.GateEnd.TheVariants.{Next}
use Rattle.trusted_stubs.specs.declared.end.GateEnd.TheVariants as end
use Rattle.trusted_stubs.specs.Answers.{WorkAnswers, GateStepsTo, IsUnrefused, changed}

-- ---- refusals

no_fault : (bad past lacks : Bool) (x y z : FaultKind) → cond bad (Some x) (cond past (Some y) (cond lacks (Some z) None)) ≡ None → (bad ≡ false) × (past ≡ false) × (lacks ≡ false)
no_fault true past lacks x y z e = absurd (none-some x (sym e))
no_fault false true lacks x y z e = absurd (none-some y (sym e))
no_fault false false true x y z e = absurd (none-some z (sym e))
no_fault false false false x y z e = (refl, refl, refl)

not_not : (b : Bool) → not b ≡ false → b ≡ true
not_not true e = refl
not_not false e = absurd (true≢false e)

parts_of_none : (size : ℕ) (gate : Gate) (a : Arguments) (w : World) (r : Releasers) → refusal size gate a w r ≡ None →
    IsUnrefused size gate a w × (lacks_releaser gate a r ≡ false)
unfolding refusal
parts_of_none size gate a w r e =
    let parts = no_fault (not (is_good_range size (reads gate a) && is_good_range size (writes gate a))) (passes_limit gate a w) (lacks_releaser gate a r) _ _ _ e in
    let both = and_parts (is_good_range size (reads gate a)) (is_good_range size (writes gate a)) (not_not _ parts.0) in
    (record { reads_good = both.0; writes_good = both.1; within = parts.1 }, parts.2)

-- a gate that refuses with none of the releasers of these classes is served, and lacks none
module _ (size : ℕ) (gate : Gate) (a : Arguments) (w : World) (classes : Classes)
    (served : (r : Releasers) → r.held ≡ held_of classes → refusal size gate a w r ≡ None) where
  some_releasers : Releasers
  some_releasers = record {
    held = held_of classes;
    tapes = λ class. record { left = record { bytes = []; releases = None }; taken = 0; answered = 0 };
    asked = λ class. [];
  }

  parts : IsUnrefused size gate a w × (lacks_releaser gate a some_releasers ≡ false)
  unfolding some_releasers
  parts = parts_of_none size gate a w some_releasers (served some_releasers refl)

  pub served_so : IsUnrefused size gate a w
  served_so = parts.0

  pub served_as : (known : Gate) → gate ≡ known → IsUnrefused size known a w
  served_as known is = subst (λ (g : Gate). IsUnrefused size g a w) is served_so

  pub held_so : gate ≡ Release → IsTrue (is_held (held_of classes) a.fourth)
  unfolding some_releasers
  held_so is =
      let lacks : not (unwrap_or (slice_get (held_of classes) a.fourth) false) ≡ false = subst (λ (g : Gate). lacks_releaser g a some_releasers ≡ false) is parts.1 in
      let has : is_held (held_of classes) a.fourth ≡ true = sym (unwrap_or-slice_get (held_of classes) a.fourth false) ∙ not_not _ lacks in
      has

-- what is so of a gate that was found to be this one
pub is_served : (size : ℕ) (gate known : Gate) (a : Arguments) (w : World) → gate ≡ known → IsUnrefused size gate a w → IsUnrefused size known a w
is_served size gate known a w is served = subst (λ (g : Gate). IsUnrefused size g a w) is served

-- what passes no limit has room
pub has_room : (most total : ℕ) → nat_lt most total ≡ false → total ≤ most
has_room most total e = ltb-false most total e

-- ---- answers

same_changed : (s s' : Registers) (m m' : Memory) (w w' : World) (r r' : Releasers) → s ≡ s' → m ≡ m' → w ≡ w' → r ≡ r' → changed s m w r ≡ changed s' m' w' r'
same_changed s s' m m' w w' r r' a b c d = cc

pub settled : (k : Work) (answer next : ℕ) (range : Option Range) (s s' : Registers) (m m' : Memory) (w w' : World) (r r' : Releasers) → WorkAnswers k answer range m m' w' r' →
    s' ≡ returned answer next s → GateStepsTo (after_work k next range s m) Next (changed s m w r) (changed s' m' w' r')
settled (answers n bytes v q) answer next range s s' m m' w w' r r' h e =
    same_changed s' (returned n next s) m' (written_to m range bytes) w' v r' q (e ∙ ap (λ (x : ℕ). returned x next s) h.0) h.1 h.2 h.3
settled (ends ending) answer next range s s' m m' w w' r r' h e = absurd h

-- the work of a gate that was found to be this one is done, and the core goes on
pub answered : (gate known : Gate) (a : Arguments) (answer next : ℕ) (end : GateEnd) (s s' : Registers) (m m' : Memory) (w w' : World) → gate ≡ known → end ≡ Next →
    ((r : Releasers) → WorkAnswers (work known a (read_from m (reads known a)) w r) answer (writes known a) m m' w' r) → s' ≡ returned answer next s →
    (r : Releasers) → GateStepsTo (after_work (work gate a (read_from m (reads gate a)) w r) next (writes gate a) s m) end (changed s m w r) (changed s' m' w' r)
answered gate known a answer next end s s' m m' w w' is ended done e r =
    let P : Gate → Type 0 = λ g. GateStepsTo (after_work (work g a (read_from m (reads g a)) w r) next (writes g a) s m) end (changed s m w r) (changed s' m' w' r) in
    let Q : GateEnd → Type 0 = λ x. GateStepsTo (after_work (work known a (read_from m (reads known a)) w r) next (writes known a) s m) x (changed s m w r) (changed s' m' w' r) in
    subst P (sym is) (subst Q (sym ended) (settled (work known a (read_from m (reads known a)) w r) answer next (writes known a) s s' m m' w w' r r (done r) e))

-- ---- the two gates that end the core or the run

pub exited : (gate : Gate) (a : Arguments) (next : ℕ) (answer : GateEnd) (s : Registers) (m : Memory) (w : World) → gate ≡ Exit → answer ≡ end.Exit (cast_signed w32 (a.first % 2 ^ 32)) →
    (r : Releasers) → GateStepsTo (after_work (work gate a (read_from m (reads gate a)) w r) next (writes gate a) s m) answer (changed s m w r) (changed s m w r)
unfolding work
exited gate a next answer s m w is e r =
    let P : Gate → Type 0 = λ g. GateStepsTo (after_work (work g a (read_from m (reads g a)) w r) next (writes g a) s m) answer (changed s m w r) (changed s m w r) in
    let Q : GateEnd → Type 0 = λ x. GateStepsTo (after_work (work Exit a (read_from m (reads Exit a)) w r) next (writes Exit a) s m) x (changed s m w r) (changed s m w r) in
    subst P (sym is) (subst Q (sym e) (refl, refl))

pub core_ended : (gate : Gate) (a : Arguments) (next : ℕ) (s : Registers) (m : Memory) (w : World) → gate ≡ CoreEnd →
    (r : Releasers) → GateStepsTo (after_work (work gate a (read_from m (reads gate a)) w r) next (writes gate a) s m) end.CoreEnd (changed s m w r) (changed s m w r)
unfolding work
core_ended gate a next s m w is r =
    let P : Gate → Type 0 = λ g. GateStepsTo (after_work (work g a (read_from m (reads g a)) w r) next (writes g a) s m) end.CoreEnd (changed s m w r) (changed s m w r) in
    subst P (sym is) (tt, refl)

-- ---- ranges

pub both_are : {a b c d : Bool} → a ≡ c → b ≡ d → (a && b) ≡ (c && d)
both_are e f = cc
