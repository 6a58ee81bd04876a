-- A command has one answer to what it has loaded.
use Rattle.std.proofs.Common.{◌≡◌, ◌∙◌, ℕ, ◌⊎◌, inl, inr, List, length, Option, Some, slice_get, refl, sym, ap, subst}
use Rattle.image_form.specs.Image.{Image}
use Rattle.image_form.proofs.Laws.{spelling_is_one}
use Rattle.conf_verify.specs.declared.rule.Rule.{Rule}
use Rattle.code_sweep.specs.declared.item.Placed.{Placed}
use Rattle.conf_verify.specs.Listed.{IsListed, IsUnlisted}
use Rattle.conf_verify.specs.Verdict.{IsImage, IsAccepted, IsVerdict}
use Rattle.cv_word.specs.GateStep.{Tape}
use Rattle.cv_io.specs.Releasers.{Classes}
use Rattle.trusted_stubs.specs.Events.{Event, Request, IsKnownAfter}
use Rattle.x64_machine.specs.declared.outcome.Outcome.{Outcome}
use Rattle.x64_machine.specs.declared.outcome.Outcome.TheVariants as outcome
use Rattle.x64_machine.specs.Following.{asked_by, unanswered}
use Rattle.x64_machine.specs.Run.{Configuration, Core, run}
use Rattle.x64_machine.specs.Start.{start, start_state, start_releasers}
use Rattle.confllvm_top.specs.Endings.{HasEnded, Outside}
use Rattle.confllvm_top.specs.Released.{HasFailedToAnswer, IsServed}
use Rattle.confllvm_top.specs.declared.status.Status.{Status}
use Rattle.confllvm_top.specs.declared.status.Status.TheVariants.{Done, Refused, Usage, StoreFault, SinkFault, Fault, Steps, TrustFault, NoMemory}
use Rattle.command_line.specs.Commands.{Command, RunFiles, Verify, Run, Disasm}
use Rattle.confllvm_top.specs.Answers.{Answers, EndsRun}
use Rattle.confllvm_top.specs.Listing.{CanBeListed}
use Rattle.confllvm_top.specs.Loading.{Loaded}
use Rattle.confllvm_top.specs.Running.{Finding, RunsTo, finding_of, schedule_of, status_of, used_of}
use Rattle.confllvm_top.proofs.EndingLemmas.{no_answer}

-- ---- one finding

one_image : (bytes : List ℕ) (a b : Image) → IsImage bytes a → IsImage bytes b → a ≡ b
one_image bytes a b i j = spelling_is_one a b i.good j.good (sym i.spelled ∙ j.spelled)

-- what the run of an image comes to, by the parts of its start
abbrev begun : Image → List ℕ → List (Option Tape) → List ℕ → List ℕ → Configuration
begun image public tapes segment private = record { state = start_state image public private segment; releasers = start_releasers tapes }

abbrev ended : Loaded → ℕ → RunFiles → Image → List ℕ → List (Option Tape) → List ℕ → List ℕ → Finding
ended loaded steps files image public tapes segment private =
    finding_of (run (schedule_of files steps loaded (length image.entries)) (begun image public tapes segment private))

found_by : (loaded : Loaded) (steps : ℕ) (files : RunFiles) (f : Finding) (x : RunsTo loaded steps files f) →
    f ≡ ended loaded steps files x.image loaded.public_input loaded.tapes x.image.private loaded.private_input
found_by loaded steps files f x =
    x.comes_to
    ∙ ap (λ (l : List ℕ). ended loaded steps files x.image l x.shared.tapes x.secret.segment x.secret.private_input) x.public_input
    ∙ ap (λ (l : List (Option Tape)). ended loaded steps files x.image loaded.public_input l x.secret.segment x.secret.private_input) x.tapes
    ∙ ap (λ (l : List ℕ). ended loaded steps files x.image loaded.public_input loaded.tapes l x.secret.private_input) x.segment
    ∙ ap (λ (l : List ℕ). ended loaded steps files x.image loaded.public_input loaded.tapes x.image.private l) x.private_input

pub one_finding : (loaded : Loaded) (steps : ℕ) (files : RunFiles) (f g : Finding) → RunsTo loaded steps files f → RunsTo loaded steps files g → f ≡ g
one_finding loaded steps files f g x y =
    found_by loaded steps files f x
    ∙ ap (λ (i : Image). ended loaded steps files i loaded.public_input loaded.tapes i.private loaded.private_input) (one_image loaded.image x.image y.image x.is y.is)
    ∙ sym (found_by loaded steps files g y)

-- ---- one answer

-- bytes have one verdict and one listing, as `one_verdict` and `one_listing` say
pub record OneVerdict : Type 0 where
  pub accepted : (bytes : List ℕ) (rule : Rule) (at : ℕ) → IsAccepted bytes → IsVerdict bytes rule at → ⊥
  pub rule : (bytes : List ℕ) (rule other : Rule) (at there : ℕ) → IsVerdict bytes rule at → IsVerdict bytes other there → rule ≡ other
  pub place : (bytes : List ℕ) (rule other : Rule) (at there : ℕ) → IsVerdict bytes rule at → IsVerdict bytes other there → at ≡ there
  pub unlisted : (bytes code : List ℕ) (items : List Placed) (rule : Rule) (at : ℕ) → IsListed bytes code items → IsUnlisted bytes rule at → ⊥

-- what a command finds where it refuses nothing
abbrev Finds : Command → Loaded → Type 0
Finds (Verify name) loaded = IsAccepted loaded.image
Finds (Run name steps files) loaded = IsAccepted loaded.image
Finds (Disasm name) loaded = CanBeListed loaded.image

-- a status with which a command passes what it has loaded
abbrev Passes : Status → Command → Loaded → Type 0
Passes status (Verify name) loaded = status ≡ Done
Passes status (Run name steps files) loaded = EndsRun status steps files loaded
Passes status (Disasm name) loaded = status ≡ Done

-- a status with which it refuses it, by the verdict
record Refuses (status : Status) (command : Command) (loaded : Loaded) : Type 0 where
  rule : Rule
  at : ℕ
  verdict : IsVerdict loaded.image rule at
  is : status ≡ Refused rule at
  excludes : Finds command loaded → ⊥

-- an answer refuses the bytes or passes them
refuses_or_passes : OneVerdict → (status : Status) (command : Command) (loaded : Loaded) → Answers status command loaded →
    Refuses status command loaded ⊎ (Finds command loaded × Passes status command loaded)
refuses_or_passes v (Refused rule at) (Verify name) loaded h =
    inl (record { rule = rule; at = at; verdict = h; is = refl; excludes = λ found. v.accepted loaded.image rule at found h })
refuses_or_passes v (Refused rule at) (Run name steps files) loaded h =
    inl (record { rule = rule; at = at; verdict = h; is = refl; excludes = λ found. v.accepted loaded.image rule at found h })
refuses_or_passes v (Refused rule at) (Disasm name) loaded h =
    inl (record { rule = rule; at = at; verdict = h.verdict; is = refl; excludes = λ found. v.unlisted loaded.image found.code found.items rule at found.listed h })
refuses_or_passes v Done (Verify name) loaded h = inr (h, refl)
refuses_or_passes v Done (Disasm name) loaded h = inr (h, refl)
refuses_or_passes v Done (Run name steps files) loaded h = inr (h.accepted, h)
refuses_or_passes v (Fault core at kind) (Run name steps files) loaded h = inr (h.accepted, h)
refuses_or_passes v (Steps used) (Run name steps files) loaded h = inr (h.accepted, h)
refuses_or_passes v (TrustFault class) (Run name steps files) loaded h = inr (h.accepted, h)
refuses_or_passes v (Fault core at kind) (Verify name) loaded h = absurd h
refuses_or_passes v (Fault core at kind) (Disasm name) loaded h = absurd h
refuses_or_passes v (Steps used) (Verify name) loaded h = absurd h
refuses_or_passes v (Steps used) (Disasm name) loaded h = absurd h
refuses_or_passes v (TrustFault class) (Verify name) loaded h = absurd h
refuses_or_passes v (TrustFault class) (Disasm name) loaded h = absurd h
refuses_or_passes v Usage command loaded h = absurd (no_answer Usage command loaded refl h)
refuses_or_passes v StoreFault command loaded h = absurd (no_answer StoreFault command loaded refl h)
refuses_or_passes v SinkFault command loaded h = absurd (no_answer SinkFault command loaded refl h)
refuses_or_passes v NoMemory command loaded h = absurd (no_answer NoMemory command loaded refl h)

same_refusal : (rule other : Rule) (at there : ℕ) → rule ≡ other → at ≡ there → Refused rule at ≡ Refused other there
same_refusal rule other at there e f = cc

both_refuse : OneVerdict → (command : Command) (loaded : Loaded) (mine yours : Status) → Refuses mine command loaded → Refuses yours command loaded → mine ≡ yours
both_refuse v command loaded mine yours x y =
    x.is ∙ same_refusal x.rule y.rule x.at y.at (v.rule loaded.image x.rule y.rule x.at y.at x.verdict y.verdict) (v.place loaded.image x.rule y.rule x.at y.at x.verdict y.verdict)
    ∙ sym y.is

both_pass : (command : Command) (loaded : Loaded) (mine yours : Status) → Passes mine command loaded → Passes yours command loaded → mine ≡ yours
both_pass (Verify name) loaded mine yours x y = x ∙ sym y
both_pass (Run name steps files) loaded mine yours x y =
    x.status_is ∙ ap (λ (f : Finding). status_of (used_of files steps loaded) f.outcome) (one_finding loaded steps files x.finding y.finding x.runs y.runs) ∙ sym y.status_is
both_pass (Disasm name) loaded mine yours x y = x ∙ sym y

pub one_answer_of : OneVerdict → (command : Command) (loaded : Loaded) (mine yours : Status) → Answers mine command loaded → Answers yours command loaded → mine ≡ yours
one_answer_of v command loaded mine yours x y =
    elim (refuses_or_passes v mine command loaded x) [
      | inl m ↦ elim (refuses_or_passes v yours command loaded y) [
        | inl n ↦ both_refuse v command loaded mine yours m n
        | inr n ↦ absurd (m.excludes n.0)
      ]
      | inr m ↦ elim (refuses_or_passes v yours command loaded y) [
        | inl n ↦ absurd (n.excludes m.0)
        | inr n ↦ both_pass command loaded mine yours m.1 n.1
      ]
    ]

-- ---- the inputs decide nothing but the run of an accepted image

pub by_image : (status : Status) (command : Command) (a b : Loaded) → a.image ≡ b.image → (IsAccepted a.image → a ≡ b) → Answers status command a → Answers status command b
by_image (Refused rule at) (Verify name) a b e f h = subst (λ (l : List ℕ). IsVerdict l rule at) e h
by_image (Refused rule at) (Run name steps files) a b e f h = subst (λ (l : List ℕ). IsVerdict l rule at) e h
by_image (Refused rule at) (Disasm name) a b e f h = subst (λ (l : List ℕ). IsUnlisted l rule at) e h
by_image Done (Verify name) a b e f h = subst (λ (l : List ℕ). IsAccepted l) e h
by_image Done (Disasm name) a b e f h = subst (λ (l : List ℕ). CanBeListed l) e h
by_image Done (Run name steps files) a b e f h = subst (λ (l : Loaded). EndsRun Done steps files l) (f h.accepted) h
by_image (Fault core at kind) (Run name steps files) a b e f h = subst (λ (l : Loaded). EndsRun (Fault core at kind) steps files l) (f h.accepted) h
by_image (Steps used) (Run name steps files) a b e f h = subst (λ (l : Loaded). EndsRun (Steps used) steps files l) (f h.accepted) h
by_image (TrustFault class) (Run name steps files) a b e f h = subst (λ (l : Loaded). EndsRun (TrustFault class) steps files l) (f h.accepted) h
by_image (Fault core at kind) (Verify name) a b e f h = absurd h
by_image (Fault core at kind) (Disasm name) a b e f h = absurd h
by_image (Steps used) (Verify name) a b e f h = absurd h
by_image (Steps used) (Disasm name) a b e f h = absurd h
by_image (TrustFault class) (Verify name) a b e f h = absurd h
by_image (TrustFault class) (Disasm name) a b e f h = absurd h
by_image Usage command a b e f h = absurd (no_answer Usage command a refl h)
by_image StoreFault command a b e f h = absurd (no_answer StoreFault command a refl h)
by_image SinkFault command a b e f h = absurd (no_answer SinkFault command a refl h)
by_image NoMemory command a b e f h = absurd (no_answer NoMemory command a refl h)

-- ---- a releaser that failed

same_class : (k l : ℕ) → TrustFault k ≡ TrustFault l → l ≡ k
same_class k l e = cc

request_told : (used class : ℕ) (o : Outcome) (cores : List Core) → TrustFault class ≡ status_of used o → (n : ℕ) × (unanswered o cores ≡ Some (record { class = class; count = n }))
request_told used class outcome.Running cores e = absurd (cc)
request_told used class (outcome.Exited status) cores e = absurd (cc)
request_told used class (outcome.Fault core at kind) cores e = absurd (cc)
request_told used class (outcome.Tape core at k) cores e =
    (asked_by (slice_get cores core), ap (λ (x : ℕ). Some (record { class = x; count = asked_by (slice_get cores core) })) (same_class class k e))

failed_by : (class n : ℕ) (events : List Event) (failure : Option Request) (old new : Classes) → failure ≡ Some (record { class = class; count = n }) → IsKnownAfter failure events old new → HasFailedToAnswer class old new
failed_by class n events failure old new is known = record {
  events = events;
  request = record { class = class; count = n };
  class_is = refl;
  failed = subst (λ (f : Option Request). IsKnownAfter f events old new) is known;
}

trust_failed : (class : ℕ) (command : Command) (loaded : Loaded) (old new : Classes) → Answers (TrustFault class) command loaded → IsServed (TrustFault class) command loaded old new → HasFailedToAnswer class old new
trust_failed class (Verify name) loaded old new h served = absurd h
trust_failed class (Disasm name) loaded old new h served = absurd h
trust_failed class (Run name steps files) loaded old new h served =
    let finding = served.asked.0 in
    let runs = served.asked.1 in
    let last : Configuration = run (schedule_of files steps loaded (length runs.image.entries)) (start runs.image runs.shared runs.secret) in
    let same : h.finding ≡ finding = one_finding loaded steps files h.finding finding h.runs runs in
    let told : TrustFault class ≡ status_of (used_of files steps loaded) last.state.outcome =
    h.status_is ∙ ap (λ (f : Finding). status_of (used_of files steps loaded) f.outcome) (same ∙ runs.comes_to) in
    let asked = request_told (used_of files steps loaded) class last.state.outcome last.state.cores told in
    failed_by class asked.0 served.released.events served.released.failure old new
    (sym served.asked.2.unanswered ∙ ap (λ (f : Finding). f.unanswered) runs.comes_to ∙ asked.1) served.released.known

pub ended-trust_fault : (words : List (List ℕ)) (o : Outside) (result : Status) (class : ℕ) → result ≡ TrustFault class → HasEnded result words o → HasFailedToAnswer class o.classes_before o.classes
ended-trust_fault words o result class is ended =
    let about = ended.about in
    trust_failed class about.command about.loaded o.classes_before o.classes
    (subst (λ (s : Status). Answers s about.command about.loaded) is about.answer.answers)
    (subst (λ (s : Status). IsServed s about.command about.loaded o.classes_before o.classes) is about.served)
