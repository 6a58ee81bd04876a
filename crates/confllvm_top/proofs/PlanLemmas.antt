-- How a plan is carried out, part by part.
use Rattle.std.proofs.Common.{true, false, ◌≡◌, ◌∙◌, ℕ, ◌≤◌, inl, inr, List, [], ◌∷◌, ◌++◌, take, length, Option, Some, None, refl, sym, ap, subst, arith, slice_get}
use Rattle.std.proofs.lemmas.Option.{none-some}
use Rattle.cv_io.specs.Counts.{HasRisen}
use Rattle.cv_io.specs.Files.{Files, files_with}
use Rattle.cv_io.specs.Output.{appended}
use Rattle.confllvm_top.specs.declared.status.Status.{Status}
use Rattle.confllvm_top.specs.declared.status.Status.TheVariants.{Done, Refused, Usage, StoreFault, SinkFault, Fault, Steps, TrustFault, NoMemory}
use Rattle.command_line.specs.Commands.{Command, RunFiles, Run}
use Rattle.conf_verify.specs.declared.rule.Rule.{Rule}
use Rattle.conf_verify.specs.Verdict.{IsAccepted, IsVerdict}
use Rattle.confllvm_top.specs.Inputs.{image_alone}
use Rattle.confllvm_top.specs.declared.loading.LoadFault.{LoadFault}
use Rattle.confllvm_top.specs.declared.loading.LoadFault.TheVariants as load
use Rattle.confllvm_top.specs.Endings.{Outside, Does, ToldAnd}
use Rattle.confllvm_top.specs.Loading.{IsInput, LacksInput}
use Rattle.confllvm_top.specs.Lines.{no_memory_line, refused_line, store_fault_line}
use Rattle.confllvm_top.specs.Loads.{IsLoadFault, LoadTold, SavesAll, SavesNamed}
use Rattle.confllvm_top.specs.Plans.{Plan, Saving, Shelf, HasSaved, PlanEnds, saved, line_err}
use Rattle.confllvm_top.specs.Running.{saving}
use Rattle.confllvm_top.specs.Streams.{Stream, HasGot, HasGotNothing, HasGotFront, MayHaveGot}
use Rattle.cv_io.specs.Releasers.{Classes}
use Rattle.confllvm_top.proofs.EndingLemmas.{nothing_released, quiet_tapes, risen_since}

-- ---- sinks and stores by their parts

abbrev pub stream_of : Option (List ℕ) → Option (List ℕ) → ℕ → ℕ → Stream
stream_of before now faults_before faults = record { held_before = before; held = now; faults_before = faults_before; faults = faults }

abbrev pub shelf_of : Option Files → Option Files → ℕ → ℕ → Shelf
shelf_of before now faults_before faults = record { files_before = before; files = now; faults_before = faults_before; faults = faults }

-- what was got since an earlier call that put nothing
got_since : (p : List ℕ) (a b c : Option (List ℕ)) → b ≡ a → c ≡ appended b p → c ≡ appended a p
got_since p a b c e h = h ∙ ap (λ (x : Option (List ℕ)). appended x p) e

front_since : (p : List ℕ) (a b c : Option (List ℕ)) (i j k : ℕ) → b ≡ a → i ≤ j → HasGotFront p (stream_of b c j k) → HasGotFront p (stream_of a c i k)
front_since p a b c i j k e low h = (record { kept = h.0.kept; is_appended = got_since (take h.0.kept p) a b c e h.0.is_appended }, risen_since i j k low h.1)

pub may_since : (p : List ℕ) (a b c : Option (List ℕ)) (i j k : ℕ) → b ≡ a → i ≤ j → MayHaveGot p (stream_of b c j k) → MayHaveGot p (stream_of a c i k)
may_since p a b c i j k e low (inl got) = inl (got_since p a b c e got)
may_since p a b c i j k e low (inr (inl none)) = inr (inl (none ∙ e))
may_since p a b c i j k e low (inr (inr front)) = inr (inr (front_since p a b c i j k e low front))

-- ---- saves

saved-append : (xs ys : List Saving) (told : Option Files) → saved (xs ++ ys) told ≡ saved ys (saved xs told)
saved-append [] ys told = refl
saved-append (x ∷ xs) ys told = saved-append xs ys (files_with told x.name x.bytes)

-- the first save failed
pub saves_first : (status : Status) (name : Option (List ℕ)) (bytes : List ℕ) (rest : List Saving) (s : Shelf) (err : Stream) → SavesNamed (Some status) name bytes s err →
    SavesAll (Some status) (saving name bytes ++ rest) s err
saves_first StoreFault (Some name) bytes rest s err h = record {
  count = 0;
  saving = record { name = name; bytes = bytes };
  is_next = refl;
  has_saved = h.0;
  faulted = h.1;
  tells = h.2;
}
saves_first StoreFault None bytes rest s err h = absurd h
saves_first NoMemory name bytes rest s err h = ((0, h.0), h.1)
saves_first Done name bytes rest s err h = absurd h
saves_first (Refused rule at) name bytes rest s err h = absurd h
saves_first Usage name bytes rest s err h = absurd h
saves_first SinkFault name bytes rest s err h = absurd h
saves_first (Fault core at kind) name bytes rest s err h = absurd h
saves_first (Steps used) name bytes rest s err h = absurd h
saves_first (TrustFault class) name bytes rest s err h = absurd h

-- how many there are where a file is named
count_of : Option (List ℕ) → ℕ
count_of None = 0
count_of (Some name) = 1

second_next : (name : Option (List ℕ)) (bytes : List ℕ) (x : Saving) (rest : List Saving) → slice_get (saving name bytes ++ x ∷ rest) (count_of name) ≡ Some x
unfolding count_of
second_next None bytes x rest = refl
second_next (Some name) bytes x rest = refl

first_taken : (name : Option (List ℕ)) (bytes : List ℕ) (rest : List Saving) → take (count_of name) (saving name bytes ++ rest) ≡ saving name bytes
unfolding count_of
first_taken None bytes rest = refl
first_taken (Some name) bytes rest = refl

-- the first save went well, and the second came to this
pub saves_second : (result : Option Status) (first second : Option (List ℕ)) (mine yours : List ℕ) (a b c : Option Files) (i j k : ℕ) (x y z : Option (List ℕ)) (l m n : ℕ) →
    SavesNamed None first mine (shelf_of a b i j) (stream_of x y l m) → i ≤ j → l ≤ m → SavesNamed result second yours (shelf_of b c j k) (stream_of y z m n) →
    SavesAll result (saving first mine ++ saving second yours) (shelf_of a c i k) (stream_of x z l n)
saves_second None first second mine yours a b c i j k x y z l m n h low small g = (
  g.0 ∙ ap (λ (f : Option Files). saved (saving second yours) f) h.0 ∙ sym (saved-append (saving first mine) (saving second yours) a),
  g.1 ∙ h.1,
)
saves_second (Some StoreFault) first (Some name) mine yours a b c i j k x y z l m n h low small g = record {
  count = count_of first;
  saving = record { name = name; bytes = yours };
  is_next = second_next first mine (record { name = name; bytes = yours }) [];
  has_saved = g.0 ∙ h.0 ∙ ap (λ (l : List Saving). saved l a) (sym (first_taken first mine (saving (Some name) yours)));
  faulted = risen_since i j k low g.1;
  tells = may_since (store_fault_line name) x y z l m n h.1 small g.2;
}
saves_second (Some StoreFault) first None mine yours a b c i j k x y z l m n h low small g = absurd g
saves_second (Some NoMemory) first second mine yours a b c i j k x y z l m n h low small g = (
  (count_of first, g.0 ∙ h.0 ∙ ap (λ (l : List Saving). saved l a) (sym (first_taken first mine (saving second yours)))),
  may_since no_memory_line x y z l m n h.1 small g.1,
)
saves_second (Some Done) first second mine yours a b c i j k x y z l m n h low small g = absurd g
saves_second (Some (Refused rule at)) first second mine yours a b c i j k x y z l m n h low small g = absurd g
saves_second (Some Usage) first second mine yours a b c i j k x y z l m n h low small g = absurd g
saves_second (Some SinkFault) first second mine yours a b c i j k x y z l m n h low small g = absurd g
saves_second (Some (Fault core at kind)) first second mine yours a b c i j k x y z l m n h low small g = absurd g
saves_second (Some (Steps used)) first second mine yours a b c i j k x y z l m n h low small g = absurd g
saves_second (Some (TrustFault class)) first second mine yours a b c i j k x y z l m n h low small g = absurd g

-- ---- a plan behind its put

-- a save failed
pub plan_unsaved : (result status : Status) (plan : Plan) (out err : Stream) (s : Shelf) → HasGot plan.out out → SavesAll (Some result) plan.saves s err → PlanEnds result status plan out err s
plan_unsaved StoreFault status plan out err s got h = inr (inr (inl (
  refl,
  record {
    count = h.count;
    saving = h.saving;
    is_next = h.is_next;
    front = record { has_put = got; has_saved = h.has_saved };
    faulted = h.faulted;
    tells = h.tells;
  },
)))
plan_unsaved NoMemory status plan out err s got h = inr (inr (inr (refl, (h.1, inr (h.0.0, record { has_put = got; has_saved = h.0.1 })))))
plan_unsaved Done status plan out err s got h = absurd h
plan_unsaved (Refused rule at) status plan out err s got h = absurd h
plan_unsaved Usage status plan out err s got h = absurd h
plan_unsaved SinkFault status plan out err s got h = absurd h
plan_unsaved (Fault core at kind) status plan out err s got h = absurd h
plan_unsaved (Steps used) status plan out err s got h = absurd h
plan_unsaved (TrustFault class) status plan out err s got h = absurd h

-- all was saved, and the line came to this; a plan that is nothing but a line tells how
abbrev still : Stream
still = stream_of None None 0 0

abbrev at_rest : Shelf
at_rest = shelf_of None None 0 0

abbrev pub LineEnds : Status → Status → List ℕ → Stream → Type 0
LineEnds result status line err = (out : Stream) (s : Shelf) → HasGotNothing out → HasSaved [] s → PlanEnds result status (line_err line) out err s

never_risen : HasRisen 0 0 → ⊥
never_risen h = omega arith

take-length : (xs : List Saving) → take (length xs) xs ≡ xs
take-length [] = refl
take-length (x ∷ xs) = ap (λ (l : List Saving). x ∷ l) (take-length xs)

line_behind : (result status : Status) (plan : Plan) (out : Stream) (x y z : Option (List ℕ)) (l m n : ℕ) (s : Shelf) → HasGot plan.out out → HasSaved plan.saves s →
    y ≡ x → l ≤ m → PlanEnds result status (line_err plan.err) still (stream_of y z m n) at_rest → PlanEnds result status plan out (stream_of x z l n) s
line_behind result status plan out x y z l m n s got saves quiet small (inl told) =
    inl (told.0, record { has_put = got; has_saved = saves; has_told = got_since plan.err x y z quiet told.1.has_told })
line_behind result status plan out x y z l m n s got saves quiet small (inr (inl (e, inl cut))) = absurd (never_risen cut.0.1)
line_behind result status plan out x y z l m n s got saves quiet small (inr (inl (e, inr cut))) =
    inr (inl (e, inr (got, saves, front_since plan.err x y z l m n quiet small cut.2)))
line_behind result status plan out x y z l m n s got saves quiet small (inr (inr (inl unsaved))) = absurd (none-some unsaved.1.saving unsaved.1.is_next)
line_behind result status plan out x y z l m n s got saves quiet small (inr (inr (inr none))) =
    inr (inr (inr (none.0, (may_since no_memory_line x y z l m n quiet small none.1.0, inr (length plan.saves, record { has_put = got; has_saved = saves ∙ ap (λ (q : List Saving). saved q s.files_before) (sym (take-length plan.saves)) })))))

pub plan_line : (result status : Status) (plan : Plan) (out : Stream) (x y z : Option (List ℕ)) (l m n : ℕ) (s : Shelf) → HasGot plan.out out → HasSaved plan.saves s →
    y ≡ x → l ≤ m → LineEnds result status plan.err (stream_of y z m n) → PlanEnds result status plan out (stream_of x z l n) s
plan_line result status plan out x y z l m n s got saves quiet small ends =
    line_behind result status plan out x y z l m n s got saves quiet small (ends still at_rest refl refl)

-- ---- a store before an earlier call

counted_since : (result status : Status) (plan : Plan) (out err : Stream) (a c : Option Files) (i j k : ℕ) → i ≤ j → PlanEnds result status plan out err (shelf_of a c j k) →
    PlanEnds result status plan out err (shelf_of a c i k)
counted_since result status plan out err a c i j k low (inl told) =
    inl (told.0, record { has_put = told.1.has_put; has_saved = told.1.has_saved; has_told = told.1.has_told })
counted_since result status plan out err a c i j k low (inr (inl cut)) = inr (inl cut)
counted_since result status plan out err a c i j k low (inr (inr (inl unsaved))) = inr (inr (inl (
  unsaved.0,
  record {
    count = unsaved.1.count;
    saving = unsaved.1.saving;
    is_next = unsaved.1.is_next;
    front = record { has_put = unsaved.1.front.has_put; has_saved = unsaved.1.front.has_saved };
    faulted = risen_since i j k low unsaved.1.faulted;
    tells = unsaved.1.tells;
  },
)))
counted_since result status plan out err a c i j k low (inr (inr (inr (e, (tells, inl quiet))))) = inr (inr (inr (e, (tells, inl quiet))))
counted_since result status plan out err a c i j k low (inr (inr (inr (e, (tells, inr front))))) =
    inr (inr (inr (e, (tells, inr (front.0, record { has_put = front.1.has_put; has_saved = front.1.has_saved })))))

pub plan_since : (result status : Status) (plan : Plan) (out err : Stream) (a b c : Option Files) (i j k : ℕ) → b ≡ a → i ≤ j → PlanEnds result status plan out err (shelf_of b c j k) →
    PlanEnds result status plan out err (shelf_of a c i k)
plan_since result status plan out err a b c i j k e low h =
    counted_since result status plan out err a c i j k low (subst (λ (x : Option Files). PlanEnds result status plan out err (shelf_of x c j k)) e h)

abbrev outside_of : Stream → Stream → Shelf → Classes → Classes → Outside
outside_of out err s x y = record { out = out; err = err; store = s; classes_before = x; classes = y }

does_before : (result : Status) (command : Command) (image : List ℕ) (out err : Stream) (a c : Option Files) (i j k : ℕ) (x y : Classes) → i ≤ j →
    Does result command image (outside_of out err (shelf_of a c j k) x y) → Does result command image (outside_of out err (shelf_of a c i k) x y)
does_before result command image out err a c i j k x y low (inl none) =
    inl (none.0, record { quiet = record { out = none.1.quiet.out; store = none.1.quiet.store }; unasked = none.1.unasked; tells = none.1.tells })
does_before result command image out err a c i j k x y low (inr (inl missing)) = inr (inl (
  missing.0,
  record {
    accepted = missing.1.accepted;
    failed = record {
      quiet = record { out = missing.1.failed.quiet.out; store = missing.1.failed.quiet.store };
      unasked = missing.1.failed.unasked;
      name = missing.1.failed.name;
      loads = missing.1.failed.loads;
      tells = missing.1.failed.tells;
    };
    cause = elim missing.1.cause [ inl risen ↦ inl (risen_since i j k low risen) | inr told ↦ inr told ];
  },
))
does_before result command image out err a c i j k x y low (inr (inr d)) = inr (inr (record {
  loaded = d.loaded;
  image_is = d.image_is;
  inputs = d.inputs;
  status = d.status;
  plan = d.plan;
  served = d.served;
  answer = d.answer;
  ends = counted_since result d.status d.plan out err a c i j k low d.ends;
}))

pub does_since : (result : Status) (command : Command) (image : List ℕ) (out err : Stream) (a b c : Option Files) (i j k : ℕ) (x y : Classes) → b ≡ a → i ≤ j →
    Does result command image (outside_of out err (shelf_of b c j k) x y) → Does result command image (outside_of out err (shelf_of a c i k) x y)
does_since result command image out err a b c i j k x y e low h =
    does_before result command image out err a c i j k x y low (subst (λ (f : Option Files). Does result command image (outside_of out err (shelf_of f c j k) x y)) e h)

-- ---- inputs that were not loaded

pub misses : (fault : LoadFault) (result : Status) (name : List ℕ) (steps : ℕ) (files : RunFiles) (image : List ℕ) (out err : Stream) (a c : Option Files) (i k : ℕ) (x y : Classes) →
    IsAccepted image → HasGotNothing out → c ≡ a → y ≡ x → IsLoadFault fault (IsInput files) (ToldAnd a (λ told. LacksInput told files)) (shelf_of a c i k) → LoadTold result fault err →
    Does result (Run name steps files) image (outside_of out err (shelf_of a c i k) x y)
misses load.NoMemory result name steps files image out err a c i k x y accepted quiet same unasked fault told =
    inl (told.0, record { quiet = record { out = quiet; store = same }; unasked = unasked; tells = told.1 })
misses (load.Store missing) result name steps files image out err a c i k x y accepted quiet same unasked fault (inl told) =
    inr (inl (
      told.0,
      record {
        accepted = accepted;
        failed = record { quiet = record { out = quiet; store = same }; unasked = unasked; name = missing.now; loads = inr fault.0; tells = told.1 };
        cause = fault.1;
      },
    ))
misses (load.Store missing) result name steps files image out err a c i k x y accepted quiet same unasked fault (inr told) =
    inl (told.0, record { quiet = record { out = quiet; store = same }; unasked = unasked; tells = told.1 })

-- ---- bytes that `run` refuses

not_passed : false ≡ true → ⊥
not_passed e = cc

pub refused_run : (rule : Rule) (at : ℕ) (result : Status) (name : List ℕ) (steps : ℕ) (files : RunFiles) (image : List ℕ) (out err : Stream) (s : Shelf) (x y : Classes) →
    IsVerdict image rule at → (IsAccepted image → ⊥) → y ≡ x → PlanEnds result (Refused rule at) (line_err (refused_line rule at)) out err s →
    Does result (Run name steps files) image (outside_of out err s x y)
refused_run rule at result name steps files image out err s x y verdict refused unasked ends = inr (inr (record {
  loaded = image_alone image (quiet_tapes x);
  image_is = refl;
  inputs = λ accepted. absurd (refused accepted);
  status = Refused rule at;
  plan = line_err (refused_line rule at);
  served = record { released = nothing_released x y unasked; asked = (refl, refl) };
  answer = record { answers = verdict; noninterfering = λ h k. absurd (not_passed k); tells = refl };
  ends = ends;
}))
