-- What the end of a command says.
use Rattle.std.proofs.Common.{◌≡◌, ◌∙◌, ℕ, ◌⊎◌, ◌≤◌, inl, inr, Bool, true, false, List, [], Option, Some, None, refl, sym, ap, subst, arith}
use Rattle.std.proofs.lemmas.List.{append-nil}
use Rattle.std.proofs.lemmas.Option.{same_Some}
use Rattle.cv_io.specs.Counts.{HasRisen}
use Rattle.cv_io.specs.Output.{appended}
use Rattle.cv_io.specs.Files.{Files, HasFile, LacksFile}
use Rattle.conf_verify.specs.Verdict.{IsAccepted}
use Rattle.confllvm_top.specs.declared.status.Status.{Status}
use Rattle.confllvm_top.specs.declared.status.Status.TheVariants.{Done, Refused, Usage, StoreFault, SinkFault, Fault, Steps, TrustFault, NoMemory}
use Rattle.command_line.specs.Commands.{Command, RunFiles, Verify, Run, Disasm, IsCommand, name_of}
use Rattle.confllvm_top.specs.Answers.{Answers, IsAnswer}
use Rattle.cv_io.specs.Releasers.{Classes, held_of}
use Rattle.cv_word.specs.GateStep.{Tape}
use Rattle.confllvm_top.specs.Released.{HasReleased, IsAsked, tapes_from}
use Rattle.confllvm_top.specs.Endings.{AnswersAlways, AnswersWith, Outside, IsAbout, HasEnded, HasFailedToEnd, HasFailedToSave, HasNotLoaded, HasRunOut, HasNoMemory, IsChecked, IsFault, MissesInput, CarriesOut, Does}
use Rattle.confllvm_top.specs.Inputs.{image_alone}
use Rattle.confllvm_top.specs.Loading.{Loaded, HasInput, HasInputs, TellsInput, TellsInputs, TellsNamed, Lacks, LacksInput, LacksNamed, named_by}
use Rattle.confllvm_top.specs.Plans.{Plan, HasFaulted, IsTold, IsCutOff, IsUnsaved, RanOut, PlanEnds}
use Rattle.confllvm_top.specs.Statuses.{asks, checks, is_passed, is_told}
use Rattle.confllvm_top.specs.Streams.{HasFailed}

-- a piece of no bytes leaves a sink's bytes as they were
pub appended_nothing : (told : Option (List ℕ)) → appended told [] ≡ told
appended_nothing None = refl
appended_nothing (Some bytes) = ap (λ b. Some b) (append-nil bytes)

-- ---- statuses

true_is_false : (b : Bool) → b ≡ true → b ≡ false → ⊥
true_is_false b e f = cc

no_told : (status other : Status) → status ≡ other → is_told other ≡ false → is_told status ≡ true → ⊥
no_told status other e f h = true_is_false (is_told other) (ap (λ s. is_told s) (sym e) ∙ h) f

pub passed_told : (status : Status) → is_passed status ≡ true → is_told status ≡ true
passed_told (Refused rule at) e = refl
passed_told Done e = e
passed_told (Fault core at kind) e = e
passed_told (Steps used) e = e
passed_told (TrustFault class) e = e
passed_told Usage e = e
passed_told StoreFault e = e
passed_told SinkFault e = e
passed_told NoMemory e = e

pub tells_class : (class : ℕ) (status : Status) → status ≡ TrustFault class → is_told status ≡ true
tells_class class status e = ap (λ (s : Status). is_told s) e

-- no command answers with a status that tells nothing
pub no_answer : (status : Status) (command : Command) (loaded : Loaded) → is_told status ≡ false → Answers status command loaded → ⊥
no_answer (Refused rule at) command loaded e h = absurd (cc)
no_answer Done command loaded e h = absurd (cc)
no_answer (Fault core at kind) command loaded e h = absurd (cc)
no_answer (Steps used) command loaded e h = absurd (cc)
no_answer (TrustFault class) command loaded e h = absurd (cc)
no_answer Usage (Verify name) loaded e h = h
no_answer Usage (Run name steps files) loaded e h = h
no_answer Usage (Disasm name) loaded e h = h
no_answer StoreFault (Verify name) loaded e h = h
no_answer StoreFault (Run name steps files) loaded e h = h
no_answer StoreFault (Disasm name) loaded e h = h
no_answer SinkFault (Verify name) loaded e h = h
no_answer SinkFault (Run name steps files) loaded e h = h
no_answer SinkFault (Disasm name) loaded e h = h
no_answer NoMemory (Verify name) loaded e h = h
no_answer NoMemory (Run name steps files) loaded e h = h
no_answer NoMemory (Disasm name) loaded e h = h

-- an answer isn't one of the statuses that tell nothing
untold : (status other : Status) (command : Command) (loaded : Loaded) → status ≡ other → is_told other ≡ false → Answers status command loaded → ⊥
untold status other command loaded e f h = no_answer other command loaded f (subst (λ (s : Status). Answers s command loaded) e h)

passed_accepted : (status : Status) (command : Command) (loaded : Loaded) → Answers status command loaded → checks command ≡ true → is_passed status ≡ true →
    IsAccepted loaded.image
passed_accepted Done (Verify name) loaded h k e = h
passed_accepted Done (Run name steps files) loaded h k e = h.accepted
passed_accepted (Fault core at kind) (Verify name) loaded h k e = absurd h
passed_accepted (Fault core at kind) (Run name steps files) loaded h k e = h.accepted
passed_accepted (Steps used) (Verify name) loaded h k e = absurd h
passed_accepted (Steps used) (Run name steps files) loaded h k e = h.accepted
passed_accepted (TrustFault class) (Verify name) loaded h k e = absurd h
passed_accepted (TrustFault class) (Run name steps files) loaded h k e = h.accepted
passed_accepted status (Disasm name) loaded h k e = absurd (cc)
passed_accepted (Refused rule at) command loaded h k e = absurd (cc)
passed_accepted Usage command loaded h k e = absurd (cc)
passed_accepted StoreFault command loaded h k e = absurd (cc)
passed_accepted SinkFault command loaded h k e = absurd (cc)
passed_accepted NoMemory command loaded h k e = absurd (cc)

-- ---- what the end says of the words and the files

differ_memory : (a : Status) → a ≡ SinkFault → a ≡ NoMemory → ⊥
differ_memory a e f = cc

differ_store : (a : Status) → a ≡ SinkFault → a ≡ StoreFault → ⊥
differ_store a e f = cc

differ_both : (a : Status) → a ≡ StoreFault → a ≡ NoMemory → ⊥
differ_both a e f = cc

-- the law that words say one command at most
abbrev pub OneCommand : Type 0
OneCommand = (words : List (List ℕ)) (mine yours : Command) → IsCommand words mine → IsCommand words yours → mine ≡ yours

-- a command with the bytes of its file
module _ (words : List (List ℕ)) (o : Outside) (command : Command) (image : List ℕ) (result : Status)
    (said : IsCommand words command) (has : HasFile o.store.files_before (name_of command) image) where
  about : (d : CarriesOut result command image o) → IsAbout words o d.status d.plan
  about d = record {
    command = command;
    loaded = d.loaded;
    are_loaded = record { said = said; has = subst (λ (b : List ℕ). HasFile o.store.files_before (name_of command) b) (sym d.image_is) has; inputs = d.inputs };
    served = d.served;
    answer = d.answer;
  }

  -- where the answer tells something, all is told
  plan_told : (d : CarriesOut result command image o) → is_told result ≡ true → PlanEnds result d.status d.plan o.out o.err o.store → (result ≡ d.status) × IsTold d.plan o.out o.err o.store
  plan_told d t (inl told) = told
  plan_told d t (inr (inl cut)) = absurd (no_told result SinkFault cut.0 refl t)
  plan_told d t (inr (inr (inl unsaved))) = absurd (no_told result StoreFault unsaved.0 refl t)
  plan_told d t (inr (inr (inr none))) = absurd (no_told result NoMemory none.0 refl t)

  carried_out : Does result command image o → is_told result ≡ true → (d : CarriesOut result command image o) × (result ≡ d.status) × IsTold d.plan o.out o.err o.store
  carried_out (inl none) t = absurd (no_told result NoMemory none.0 refl t)
  carried_out (inr (inl missing)) t = absurd (no_told result StoreFault missing.0 refl t)
  carried_out (inr (inr d)) t = let p = plan_told d t d.ends in (d, p.0, p.1)

  pub ended-told : Does result command image o → is_told result ≡ true → HasEnded result words o
  ended-told does t =
      let c = carried_out does t in
      record { plan = c.0.plan; about = subst (λ (s : Status). IsAbout words o s c.0.plan) (sym c.1) (about c.0); told = c.2 }

  pub ended-checked : OneCommand → Does result command image o → (other : Command) → IsCommand words other → checks other ≡ true → is_passed result ≡ true →
      IsChecked words o.store.files_before other
  unfolding about carried_out
  ended-checked one does other is checked passed =
      let c = carried_out does (passed_told result passed) in
      let d = c.0 in
      let same : other ≡ command = one words other command is said in
      let mine : checks command ≡ true = subst (λ (x : Command). checks x ≡ true) same checked in
      let ok : is_passed d.status ≡ true = subst (λ (s : Status). is_passed s ≡ true) c.1 passed in
      subst (λ (x : Command). IsChecked words o.store.files_before x) (sym same) (record {
        loaded = d.loaded;
        are_loaded = (about d).are_loaded;
        accepted = passed_accepted d.status command d.loaded d.answer.answers mine ok;
        noninterfering = d.answer.noninterfering mine ok;
      })

  -- a failed put
  plan_cut : (d : CarriesOut result command image o) → result ≡ SinkFault → PlanEnds result d.status d.plan o.out o.err o.store → IsCutOff d.plan o.out o.err o.store
  plan_cut d e (inl told) = absurd (untold d.status SinkFault command d.loaded (sym told.0 ∙ e) refl d.answer.answers)
  plan_cut d e (inr (inl cut)) = cut.1
  plan_cut d e (inr (inr (inl unsaved))) = absurd (differ_store result e unsaved.0)
  plan_cut d e (inr (inr (inr none))) = absurd (differ_memory result e none.0)

  pub ended-cut_off : Does result command image o → result ≡ SinkFault → HasFailedToEnd words o
  ended-cut_off (inl none) e = absurd (differ_memory result e none.0)
  ended-cut_off (inr (inl missing)) e = absurd (differ_store result e missing.0)
  ended-cut_off (inr (inr d)) e = record { status = d.status; plan = d.plan; about = about d; cut_off = plan_cut d e d.ends }

  -- a failed load or save
  plan_unsaved : (d : CarriesOut result command image o) → result ≡ StoreFault → PlanEnds result d.status d.plan o.out o.err o.store → IsUnsaved d.plan o.out o.err o.store
  plan_unsaved d e (inl told) = absurd (untold d.status StoreFault command d.loaded (sym told.0 ∙ e) refl d.answer.answers)
  plan_unsaved d e (inr (inl cut)) = absurd (differ_store result cut.0 e)
  plan_unsaved d e (inr (inr (inl unsaved))) = unsaved.1
  plan_unsaved d e (inr (inr (inr none))) = absurd (differ_both result e none.0)

  pub ended-unsaved : Does result command image o → result ≡ StoreFault → HasNotLoaded words o ⊎ HasFailedToSave words o
  ended-unsaved (inl none) e = absurd (differ_both result e none.0)
  ended-unsaved (inr (inl missing)) e = inl (record { command = command; said = said; failed = missing.1.failed })
  ended-unsaved (inr (inr d)) e = inr (record { status = d.status; plan = d.plan; about = about d; unsaved = plan_unsaved d e d.ends })

  lacking : (files : Files) → o.store.files_before ≡ Some files → IsAccepted image → LacksInput files (named_by command) → LacksNamed words o.store.files_before
  lacking files told accepted lacks = record {
    command = command;
    said = said;
    files = files;
    are_told = told;
    lacks = inr (image, has.has files told, accepted, lacks);
  }

  missing_cause : MissesInput command image o → HasFaulted o.store ⊎ LacksNamed words o.store.files_before
  missing_cause m = elim m.cause [ inl risen ↦ inl risen | inr told ↦ inr (lacking told.0 told.1 m.accepted told.2) ]

  pub ended-store_fault : Does result command image o → result ≡ StoreFault → HasFaulted o.store ⊎ LacksNamed words o.store.files_before
  ended-store_fault (inl none) e = absurd (differ_both result e none.0)
  ended-store_fault (inr (inl missing)) e = missing_cause missing.1
  ended-store_fault (inr (inr d)) e = inl (plan_unsaved d e d.ends).faulted

  -- want of memory
  plan_ran_out : (d : CarriesOut result command image o) → result ≡ NoMemory → PlanEnds result d.status d.plan o.out o.err o.store → RanOut d.plan o.out o.err o.store
  plan_ran_out d e (inl told) = absurd (untold d.status NoMemory command d.loaded (sym told.0 ∙ e) refl d.answer.answers)
  plan_ran_out d e (inr (inl cut)) = absurd (differ_memory result cut.0 e)
  plan_ran_out d e (inr (inr (inl unsaved))) = absurd (differ_both result unsaved.0 e)
  plan_ran_out d e (inr (inr (inr none))) = none.1

  pub ended-ran_out : Does result command image o → result ≡ NoMemory → HasNoMemory o ⊎ HasRunOut words o
  ended-ran_out (inl none) e = inl none.1
  ended-ran_out (inr (inl missing)) e = absurd (differ_both result missing.0 e)
  ended-ran_out (inr (inr d)) e = inr (record { status = d.status; plan = d.plan; about = about d; ran_out = plan_ran_out d e d.ends })

-- a put that was cut off is of a sink that failed
pub cut_off-failed : (words : List (List ℕ)) (o : Outside) → HasFailedToEnd words o → HasFailed o.out ⊎ HasFailed o.err
cut_off-failed words o h = elim h.cut_off [ inl out ↦ inl out.0.1 | inr err ↦ inr err.2.1 ]

-- ---- files that are told

same_input : (told : Option Files) (files : Files) (name : Option (List ℕ)) (mine yours : List ℕ) → told ≡ Some files → HasInput told name mine → TellsInput files name yours → mine ≡ yours
same_input told files None mine yours t h k = h ∙ sym k
same_input told files (Some name) mine yours t h k = same_Some mine yours (sym (h.has files t) ∙ k)

-- the same, with the tapes of another
abbrev with_tapes : Loaded → Loaded → Loaded
with_tapes a b = record a { tapes = b.tapes }

same_loaded : (a b : Loaded) → a.image ≡ b.image → a.schedule ≡ b.schedule → a.public_input ≡ b.public_input → a.private_input ≡ b.private_input → a ≡ with_tapes b a
same_loaded a b e f g h =
    ap (λ (x : List ℕ). record a { image = x }) e ∙ ap (λ (x : List ℕ). record a { image = b.image; schedule = x }) f
    ∙ ap (λ (x : List ℕ). record b { public_input = x; private_input = a.private_input; tapes = a.tapes }) g ∙ ap (λ (x : List ℕ). record b { private_input = x; tapes = a.tapes }) h

-- what no answer but that of an accepted image depends on
abbrev pub ByImage : Type 0
ByImage = (status : Status) (command : Command) (a b : Loaded) → a.image ≡ b.image → (IsAccepted a.image → a ≡ b) → Answers status command a → Answers status command b

some_none : (bytes : List ℕ) (o : Option (List ℕ)) → o ≡ Some bytes → o ≡ None → ⊥
some_none bytes o e f = cc

nothing_lacks : (files : Files) (name : Option (List ℕ)) (bytes : List ℕ) → TellsInput files name bytes → Lacks files name → ⊥
nothing_lacks files None bytes tells lacks = lacks
nothing_lacks files (Some name) bytes tells lacks = some_none bytes (files name) tells lacks

lacks_none : (files : Files) (names : RunFiles) (loaded : Loaded) → TellsInputs files names loaded → LacksInput files names → ⊥
lacks_none files names loaded tells (inl schedule) = nothing_lacks files names.schedule loaded.schedule tells.schedule schedule
lacks_none files names loaded tells (inr (inl public)) = nothing_lacks files names.public_input loaded.public_input tells.public_input public.1
lacks_none files names loaded tells (inr (inr private)) = nothing_lacks files names.private_input loaded.private_input tells.private_input private.2

one_told : (a b : Files) (told : Option Files) → told ≡ Some a → told ≡ Some b → a ≡ b
one_told a b told e f = same_Some a b (sym e ∙ f)

module _ (words : List (List ℕ)) (o : Outside) (command : Command) (image : List ℕ) (result : Status)
    (said : IsCommand words command) (has : HasFile o.store.files_before (name_of command) image) (by_image : ByImage) where
  -- a command that was carried out answers to what is told
  told_answer : (wanted : Loaded) → TellsNamed words o.store.files_before command wanted → (loaded : Loaded) → loaded.image ≡ image →
      (IsAccepted loaded.image → HasInputs o.store.files_before (named_by command) loaded) → (status : Status) → Answers status command loaded → Answers status command (with_tapes wanted loaded)
  told_answer wanted tells loaded image_is inputs status answers =
      let same : loaded.image ≡ wanted.image = image_is ∙ same_Some image wanted.image (sym (has.has tells.files tells.are_told) ∙ tells.has) in
      by_image status command loaded (with_tapes wanted loaded) same
      (λ accepted.
      let mine = inputs accepted in
      let yours = tells.inputs (subst (λ (b : List ℕ). IsAccepted b) same accepted) in
      same_loaded loaded wanted same
      (same_input o.store.files_before tells.files (named_by command).schedule _ _ tells.are_told mine.schedule yours.schedule)
      (same_input o.store.files_before tells.files (named_by command).public_input _ _ tells.are_told mine.public_input yours.public_input)
      (same_input o.store.files_before tells.files (named_by command).private_input _ _ tells.are_told mine.private_input yours.private_input))
      answers

  plan_answered : (wanted : Loaded) → TellsNamed words o.store.files_before command wanted → (d : CarriesOut result command image o) →
      PlanEnds result d.status d.plan o.out o.err o.store → AnswersWith result command wanted o ⊎ IsFault result o
  plan_answered wanted tells d (inl told) =
      inl (record {
        tapes = d.loaded.tapes;
        released = d.served.released;
        answers = subst (λ (s : Status). Answers s command (with_tapes wanted d.loaded)) (sym told.0) (told_answer wanted tells d.loaded d.image_is d.inputs d.status d.answer.answers);
      })
  plan_answered wanted tells d (inr (inl cut)) = inr (inr (inl (cut.0, elim cut.1 [ inl out ↦ inl out.0.1 | inr err ↦ inr err.2.1 ])))
  plan_answered wanted tells d (inr (inr (inl unsaved))) = inr (inl (unsaved.0, unsaved.1.faulted))
  plan_answered wanted tells d (inr (inr (inr none))) = inr (inr (inr none.0))

  not_missing : (wanted : Loaded) → TellsNamed words o.store.files_before command wanted → MissesInput command image o → HasFaulted o.store
  not_missing wanted tells m =
      elim m.cause [
        | inl risen ↦ risen
        | inr told ↦
            let same : told.0 ≡ tells.files = one_told told.0 tells.files o.store.files_before told.1 tells.are_told in
            let here : image ≡ wanted.image = same_Some image wanted.image (sym (has.has tells.files tells.are_told) ∙ tells.has) in
            absurd (lacks_none tells.files (named_by command) wanted (tells.inputs (subst (λ (b : List ℕ). IsAccepted b) here m.accepted))
            (subst (λ (f : Files). LacksInput f (named_by command)) same told.2))
      ]

  answered_here : (wanted : Loaded) → TellsNamed words o.store.files_before command wanted → Does result command image o → AnswersWith result command wanted o ⊎ IsFault result o
  answered_here wanted tells (inl none) = inr (inr (inr none.0))
  answered_here wanted tells (inr (inl missing)) = inr (inl (missing.0, not_missing wanted tells missing.1))
  answered_here wanted tells (inr (inr d)) = plan_answered wanted tells d d.ends

  pub ended-answered : OneCommand → Does result command image o → (other : Command) (wanted : Loaded) → TellsNamed words o.store.files_before other wanted →
      AnswersWith result other wanted o ⊎ IsFault result o
  ended-answered one does other wanted tells =
      let same : other ≡ command = one words other command tells.said said in
      subst (λ (c : Command). AnswersWith result c wanted o ⊎ IsFault result o) (sym same)
      (answered_here wanted (subst (λ (c : Command). TellsNamed words o.store.files_before c wanted) same tells) does)

  pub ended-exact : OneCommand → ((c : Command) (l : Loaded) (mine yours : Status) → Answers mine c l → Answers yours c l → mine ≡ yours) → Does result command image o →
      (other : Command) (wanted : Loaded) (status : Status) → TellsNamed words o.store.files_before other wanted → AnswersAlways status other wanted o → (result ≡ status) ⊎ IsFault result o
  ended-exact one answer does other wanted status tells is =
      elim (ended-answered one does other wanted tells) [
        | inl mine ↦ inl (answer other (record wanted { tapes = mine.tapes }) result status mine.answers (is mine.tapes mine.released))
        | inr fault ↦ inr fault
      ]

-- ---- a store before an earlier call

-- the count of faults rose since before
pub risen_since : (first before after : ℕ) → first ≤ before → HasRisen before after → HasRisen first after
risen_since first before after low risen = omega arith

-- ---- what a command that has no inputs does

no_inputs : (told : Option Files) (image : List ℕ) (tapes : List (Option Tape)) → HasInputs told (named_by (Verify [])) (image_alone image tapes)
no_inputs told image tapes = record { schedule = refl; public_input = refl; private_input = refl }

-- the tapes where no releaser is asked
abbrev pub quiet_tapes : Classes → List (Option Tape)
quiet_tapes classes = tapes_from false [] 0 (held_of classes)

abbrev pub nothing_released : (old new : Classes) → new ≡ old → HasReleased (quiet_tapes old) old new
nothing_released old new same = record { events = []; failure = None; known = same; tapes_are = refl }

no_one_asked : (status : Status) (command : Command) (loaded : Loaded) → asks command ≡ false → IsAsked status command loaded [] None
no_one_asked (Refused rule at) command loaded e = (refl, refl)
no_one_asked Done (Verify name) loaded e = (refl, refl)
no_one_asked Done (Disasm name) loaded e = (refl, refl)
no_one_asked Usage (Verify name) loaded e = (refl, refl)
no_one_asked Usage (Disasm name) loaded e = (refl, refl)
no_one_asked StoreFault (Verify name) loaded e = (refl, refl)
no_one_asked StoreFault (Disasm name) loaded e = (refl, refl)
no_one_asked SinkFault (Verify name) loaded e = (refl, refl)
no_one_asked SinkFault (Disasm name) loaded e = (refl, refl)
no_one_asked (Fault core at kind) (Verify name) loaded e = (refl, refl)
no_one_asked (Fault core at kind) (Disasm name) loaded e = (refl, refl)
no_one_asked (Steps used) (Verify name) loaded e = (refl, refl)
no_one_asked (Steps used) (Disasm name) loaded e = (refl, refl)
no_one_asked (TrustFault class) (Verify name) loaded e = (refl, refl)
no_one_asked (TrustFault class) (Disasm name) loaded e = (refl, refl)
no_one_asked NoMemory (Verify name) loaded e = (refl, refl)
no_one_asked NoMemory (Disasm name) loaded e = (refl, refl)
no_one_asked _ (Run name steps files) loaded e = absurd (cc)

pub does_alone : (command : Command) (image : List ℕ) (status result : Status) (plan : Plan) (o : Outside) → named_by command ≡ named_by (Verify []) → asks command ≡ false → o.classes ≡ o.classes_before →
    ((tapes : List (Option Tape)) → IsAnswer status command (image_alone image tapes) plan) → PlanEnds result status plan o.out o.err o.store → Does result command image o
does_alone command image status result plan o none quiet same answer ends = inr (inr (record {
  loaded = image_alone image (quiet_tapes o.classes_before);
  image_is = refl;
  inputs = λ accepted. subst (λ (f : RunFiles). HasInputs o.store.files_before f (image_alone image (quiet_tapes o.classes_before))) (sym none) (no_inputs o.store.files_before image (quiet_tapes o.classes_before));
  served = record { released = nothing_released o.classes_before o.classes same; asked = no_one_asked status command (image_alone image (quiet_tapes o.classes_before)) quiet };
  status = status;
  plan = plan;
  answer = answer (quiet_tapes o.classes_before);
  ends = ends;
}))

-- ---- the file of a command

pub has_named : (told : Option Files) (name other bytes items : List ℕ) → name ≡ other → bytes ≡ items → HasFile told name items → HasFile told other bytes
has_named told name other bytes items same value has =
    subst (λ (n : List ℕ). HasFile told n bytes) same (subst (λ (b : List ℕ). HasFile told name b) (sym value) has)

pub lacks_named : (words : List (List ℕ)) (told : Option Files) (command : Command) (name : List ℕ) → IsCommand words command → name ≡ name_of command → LacksFile told name →
    LacksNamed words told
lacks_named words told command name said same lacks = record {
  command = command;
  said = said;
  files = lacks.files;
  are_told = lacks.are_told;
  lacks = inl (ap (λ (n : List ℕ). lacks.files n) (sym same) ∙ lacks.lacks);
}

-- ---- the same command by another name

pub does_as : (mine yours : Command) (result : Status) (image : List ℕ) (o : Outside) → mine ≡ yours → Does result mine image o → Does result yours image o
does_as mine yours result image o same does = subst (λ (c : Command). Does result c image o) same does
