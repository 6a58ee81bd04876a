-- The run of a machine that stands at an image's start, and what tells it.
use Rattle.std.proofs.Common.{◌≡◌, ◌∙◌, ℕ, suc, Bool, List, [], ◌∷◌, length, Option, is_some, refl, sym, ap, subst, inl, inr}
use Rattle.cv_word.specs.Words.{AreBytes}
use Rattle.cv_word.specs.GateStep.{Releasers, Tape}
use Rattle.cv_io.specs.Releasers.{Classes, held_of}
use Rattle.trusted_stubs.specs.Events.{Event, Request, audit_of, played}
use Rattle.image_form.specs.Image.{Image}
use Rattle.conf_verify.specs.Verdict.{IsImage, IsAccepted}
use Rattle.x64_machine.specs.declared.outcome.Outcome.{Outcome}
use Rattle.x64_machine.specs.declared.outcome.Outcome.TheVariants as outcome
use Rattle.x64_machine.specs.Run.{State, Configuration, configuration, run}
use Rattle.x64_machine.specs.Start.{start_cores, start_state, start_releasers}
use Rattle.x64_machine.specs.Following.{HasRun, unanswered}
use Rattle.x64_machine.specs.Noninterference.{Noninterfering}
use Rattle.command_line.specs.Commands.{RunFiles, Run}
use Rattle.confllvm_top.specs.declared.status.Status.{Status}
use Rattle.confllvm_top.specs.Answers.{Answers, EndsRun, IsAnswer, IsPlan, TellsRun}
use Rattle.confllvm_top.specs.Loading.{Loaded}
use Rattle.conf_verify.specs.declared.rule.Rule.{Rule}
use Rattle.confllvm_top.specs.declared.status.Status.TheVariants.{NoMemory, Refused, SinkFault, StoreFault}
use Rattle.confllvm_top.specs.Streams.{Stream}
use Rattle.confllvm_top.specs.Plans.{Plan, PlanEnds, Shelf}
use Rattle.confllvm_top.specs.Ran.{HasRunWith}
use Rattle.confllvm_top.specs.Released.{HasReleased, HasUsed, IsAsked, IsServed, RunsWith, tapes_from}
use Rattle.confllvm_top.proofs.TapeLemmas.{begins_with, rest, rest_follows, tapes_are_bytes}
use Rattle.confllvm_top.specs.Running.{Finding, RunsTo, finding_of, plan_of, schedule_of, status_of, used_of}

-- there is a core for each entry
length-start_cores : (image : Image) (i : ℕ) (xs : List ℕ) → length (start_cores image i xs) ≡ length xs
length-start_cores image i [] = refl
length-start_cores image i (entry ∷ xs) = ap suc (length-start_cores image (suc i) xs)

abbrev pub loaded_of : List ℕ → List ℕ → List ℕ → List ℕ → List (Option Tape) → Loaded
loaded_of image schedule public_input private_input tapes = record { image = image; schedule = schedule; public_input = public_input; private_input = private_input; tapes = tapes }

-- what a machine comes to that has run from the image's start while releasers answered
pub ran_with : (bytes schedule public private_in : List ℕ) (steps : ℕ) (files : RunFiles) (image : Image) (private : List ℕ) (first last : State) (entries : List ℕ) (old new : Classes) →
    IsImage bytes image → private ≡ image.private → AreBytes public × AreBytes private_in × AreBytes private → AreBytes last.world.visible.audit →
    first ≡ start_state image public private_in private → HasRun entries old new first last →
    ((tapes : List (Option Tape)) → entries ≡ schedule_of files steps (loaded_of bytes schedule public private_in tapes) (length first.cores)) →
    HasRunWith (loaded_of bytes schedule public private_in) steps files last old new
ran_with bytes schedule public private_in steps files image private first last entries old new is same are audit begins ran scheduled =
    let begun : State = start_state image public private_in private in
    let plays = subst (λ (s : State). HasRun entries old new s last) begins ran in
    let failure : Option Request = unanswered last.outcome last.cores in
    let limited : Bool = is_some failure in
    let events : List Event = plays.events in
    let tapes : List (Option Tape) = tapes_from limited events 0 (held_of old) in
    let loaded : Loaded = loaded_of bytes schedule public private_in tapes in
    let later : Releasers = rest limited (held_of old) in
    let cores : length first.cores ≡ length image.entries = ap (λ (s : State). length s.cores) begins ∙ length-start_cores image 0 image.entries in
    let told : AreBytes (audit_of events) = subst (λ (l : List ℕ). AreBytes l) plays.listed audit in
    record {
      tapes = tapes;
      released = record { events = events; failure = failure; known = plays.known; tapes_are = refl };
      releasers = played events later;
      runs = record {
        image = image;
        is = is;
        shared = record { public_input = public; tapes = tapes; input_bytes = are.0; tape_bytes = tapes_are_bytes limited events (held_of old) told };
        secret = record { segment = private; private_input = private_in; segment_bytes = are.2; input_bytes = are.1 };
        public_input = refl;
        tapes = refl;
        segment = same;
        private_input = refl;
        comes_to =
            ap (λ (c : Configuration). finding_of c) (plays.goes later refl (rest_follows failure events old new plays.known))
            ∙ ap (λ (r : Releasers). finding_of (run entries (configuration begun r))) (begins_with limited events (held_of old) plays.served)
            ∙ ap (λ (e : List ℕ). finding_of (run e (configuration begun (start_releasers tapes)))) (scheduled tapes ∙ ap (λ (n : ℕ). schedule_of files steps loaded n) cores);
      };
      used = record { listed = plays.listed; used = λ class. refl; asked = λ class. refl; unanswered = refl };
    }

-- ---- what tells it

ends_run : (name : List ℕ) (steps : ℕ) (files : RunFiles) (loaded : Loaded) (o : Outcome) → EndsRun (status_of (used_of files steps loaded) o) steps files loaded →
    Answers (status_of (used_of files steps loaded) o) (Run name steps files) loaded
ends_run name steps files loaded outcome.Running h = h
ends_run name steps files loaded (outcome.Exited status) h = h
ends_run name steps files loaded (outcome.Fault core at kind) h = h
ends_run name steps files loaded (outcome.Tape core at class) h = h

tells_run : (name : List ℕ) (steps : ℕ) (files : RunFiles) (loaded : Loaded) (plan : Plan) (o : Outcome) → TellsRun steps files loaded plan →
    IsPlan (status_of (used_of files steps loaded) o) (Run name steps files) loaded plan
tells_run name steps files loaded plan outcome.Running h = h
tells_run name steps files loaded plan (outcome.Exited status) h = h
tells_run name steps files loaded plan (outcome.Fault core at kind) h = h
tells_run name steps files loaded plan (outcome.Tape core at class) h = h

pub run_answer : (name : List ℕ) (steps : ℕ) (files : RunFiles) (loaded : Loaded) (status : Status) (plan : Plan) (finding : Finding) → IsAccepted loaded.image → Noninterfering loaded.image →
    RunsTo loaded steps files finding → status ≡ status_of (used_of files steps loaded) finding.outcome → plan ≡ plan_of files (used_of files steps loaded) finding →
    IsAnswer status (Run name steps files) loaded plan
run_answer name steps files loaded status plan finding accepted noninterfering runs is told =
    let used : ℕ = used_of files steps loaded in
    subst (λ (s : Status). IsAnswer s (Run name steps files) loaded plan) (sym is) (record {
      answers = ends_run name steps files loaded finding.outcome (record { accepted = accepted; finding = finding; runs = runs; status_is = refl });
      noninterfering = λ _ _. noninterfering;
      tells = tells_run name steps files loaded plan finding.outcome (record { finding = finding; runs = runs; is = told });
    })

asked_run : (name : List ℕ) (steps : ℕ) (files : RunFiles) (loaded : Loaded) (o : Outcome) (events : List Event) (failure : Option Request) → RunsWith loaded (Run name steps files) events failure →
    IsAsked (status_of (used_of files steps loaded) o) (Run name steps files) loaded events failure
asked_run name steps files loaded outcome.Running events failure h = h
asked_run name steps files loaded (outcome.Exited status) events failure h = h
asked_run name steps files loaded (outcome.Fault core at kind) events failure h = h
asked_run name steps files loaded (outcome.Tape core at class) events failure h = h

-- what the releasers did in a run
pub run_served : (name : List ℕ) (steps : ℕ) (files : RunFiles) (loaded : Loaded) (status : Status) (finding : Finding) (old new : Classes) (released : HasReleased loaded.tapes old new) →
    RunsTo loaded steps files finding → HasUsed released.events released.failure finding → status ≡ status_of (used_of files steps loaded) finding.outcome →
    IsServed status (Run name steps files) loaded old new
run_served name steps files loaded status finding old new released runs used is = record {
  released = released;
  asked =
      subst (λ (s : Status). IsAsked s (Run name steps files) loaded released.events released.failure) (sym is)
      (asked_run name steps files loaded finding.outcome released.events released.failure (finding, runs, used));
}

-- ---- how what a run left is told

abbrev Ends : Status → ℕ → RunFiles → Finding → Stream → Stream → Shelf → Type 0
Ends result used files finding out err s = PlanEnds result (status_of used finding.outcome) (plan_of files used finding) out err s

pub by_used : (result : Status) (n used : ℕ) (files : RunFiles) (finding : Finding) (out err : Stream) (s : Shelf) → n ≡ used → Ends result n files finding out err s → Ends result used files finding out err s
by_used result n used files finding out err s same ends = subst (λ (k : ℕ). Ends result k files finding out err s) same ends

other_status : (used : ℕ) (o : Outcome) (rule : Rule) (at : ℕ) → status_of used o ≡ Refused rule at → ⊥
other_status used outcome.Running rule at e = cc
other_status used (outcome.Exited status) rule at e = cc
other_status used (outcome.Fault core place kind) rule at e = cc
other_status used (outcome.Tape core place class) rule at e = cc

apart : (a b : Status) (rule : Rule) (at : ℕ) → a ≡ b → a ≡ Refused rule at → (b ≡ Refused rule at → ⊥) → ⊥
apart a b rule at e f g = g (sym e ∙ f)

-- a run that is told isn't refused
pub not_refused : (result : Status) (used : ℕ) (o : Outcome) (plan : Plan) (out err : Stream) (s : Shelf) (rule : Rule) (at : ℕ) → PlanEnds result (status_of used o) plan out err s →
    result ≡ Refused rule at → ⊥
not_refused result used o plan out err s rule at (inl told) e = apart result (status_of used o) rule at told.0 e (other_status used o rule at)
not_refused result used o plan out err s rule at (inr (inl cut)) e = apart result SinkFault rule at cut.0 e (λ f. cc)
not_refused result used o plan out err s rule at (inr (inr (inl unsaved))) e = apart result StoreFault rule at unsaved.0 e (λ f. cc)
not_refused result used o plan out err s rule at (inr (inr (inr none))) e = apart result NoMemory rule at none.0 e (λ f. cc)
