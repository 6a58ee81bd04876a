-- Accepted bytes are noninterfering.
use Rattle.std.proofs.Common.{◌≡◌, ℕ, zero, suc, ◌+◌, ◌-◌, ◌*◌, Bool, true, ◌&&◌, List, [], ◌∷◌, ◌++◌, length, Option, Some, None, refl, sym, ◌∙◌, ap, subst, arith, slice_get, eqb}
use Rattle.std.specs.Prelude.{replicate}
use Rattle.std.proofs.lemmas.Bool.{and_from, and_parts, true≢false, eq-eqb, eqb-true}
use Rattle.std.proofs.lemmas.List.{length-set}
use Rattle.cv_word.specs.MemoryMap.{code_base, public_base}
use Rattle.cv_word.specs.declared.registers.Registers.{Registers}
use Rattle.x64_decode.specs.Spelling.{number}
use Rattle.x64_decode.specs.declared.instr.Reg.TheVariants.{Rsp}
use Rattle.code_sweep.specs.declared.item.Item.{Item}
use Rattle.code_sweep.specs.declared.item.Item.TheVariants.{Call, Ret, Plain, ReturnUnit, CallUnit}
use Rattle.code_sweep.specs.declared.item.Placed.{Placed}
use Rattle.taint_flow.specs.Label.{Label, entry_label}
use Rattle.taint_flow.specs.Flow.{address_after, said_behind}
use Rattle.image_form.specs.Image.{Image, IsGood, signature, word, spelling}
use Rattle.std.specs.List.{concat, flat_map}
use Rattle.std.proofs.lemmas.Option.{same_Some, none-some}
use Rattle.cv_word.specs.Words.{AreBytes}
use Rattle.conf_verify.specs.declared.rule.Rule.TheVariants.{V3, V4, V5, V6, V7, V9}
use Rattle.conf_verify.specs.Rules.{is_call_word, FollowsCallWord}
use Rattle.conf_verify.specs.Verdict.{IsImage, IsAcceptedImage}
use Rattle.x64_machine.specs.declared.outcome.Outcome.TheVariants.{Running}
use Rattle.x64_machine.specs.Run.{run, view}
use Rattle.x64_machine.specs.Start.{Shared, Secret, start_registers, start_cores, start_world, start_releasers, fresh_tape, start}
use Rattle.cv_word.specs.GateStep.{Tape}
use Rattle.cv_word.specs.Memory.{items_at}
use Rattle.cv_word.specs.Memory.{padded}
use Rattle.cv_word.specs.MemoryMap.{first_mapped}
use Rattle.ni_laws.specs.Agreement.{LabelledCode, accepted_code, HasSixteen, Equal, AtItem, at_item, CoresAlike, Common, Apart, agree}
use Rattle.ni_laws.proofs.Items.{Facts, found, nowhere, search_items}
use Rattle.ni_laws.proofs.Bytes.{left_bytes, right_bytes, append_bytes, zeros_are}
use Rattle.ni_laws.proofs.Landing.{landed_word}
use Rattle.ni_laws.proofs.Runs.{run_alike, same_view}

-- an entry that breaks no rule follows a call word
abbrev ends_before : ℕ → ℕ → Placed → Bool
ends_before place j p = is_call_word p.item && eqb (p.at + p.len) place

follows : (items : List Placed) (place : ℕ) → ((FollowsCallWord items place → ⊥) → ⊥) → FollowsCallWord items place
follows items place h =
    elim (search_items items (ends_before place)) [
      | found j p e passes ↦ let a = and_parts (is_call_word p.item) (eqb (p.at + p.len) place) passes in (j, p, e, a.0, eqb-true (p.at + p.len) place a.1)
      | nowhere none ↦ absurd (h (λ g. true≢false (sym (and_from (is_call_word g.1.item) (eqb (g.1.at + g.1.len) place) g.3 (eq-eqb (g.1.at + g.1.len) place g.4)) ∙ none g.0 g.1 g.2)))
    ]

-- registers are equal to themselves
equal_self : (l : Label) (s : Registers) → HasSixteen s → Equal l s s
equal_self l s sixteen = record {
  under = record { mine = sixteen; yours = sixteen; registers = λ r h. refl; flags = λ h. refl; counters = refl };
  stack = refl;
}

start_sixteen : (image : Image) (k entry : ℕ) → HasSixteen (start_registers image k entry)
start_sixteen image k entry = length-set (replicate 16 0) (number Rsp) (public_base + (image.seg_size - k * image.stack_size))

call_word_said : (item : Item) → is_call_word item ≡ true → (l : Label) × (said_behind item ≡ Some l)
call_word_said (Call bits) e = (entry_label bits, refl)
call_word_said (Ret bit) e = absurd (true≢false (sym e))
call_word_said (Plain i) e = absurd (true≢false (sym e))
call_word_said (ReturnUnit bit) e = absurd (true≢false (sym e))
call_word_said (CallUnit r bits) e = absurd (true≢false (sym e))

behind_is : (p : Placed) → code_base + (p.at + p.len) ≡ address_after p
behind_is p = omega arith

-- a core starts at an item
starts_at : (code : LabelledCode) → Facts code → (image : Image) (k entry : ℕ) → FollowsCallWord code.items entry →
    AtItem code (start_registers image k entry) (start_registers image k entry)
starts_at code facts image k entry f =
    let w = call_word_said f.1.item f.3 in
    landed_word code facts _ _ f.0 f.1 w.0 f.2 w.1 (ap (λ n. code_base + n) (sym f.4) ∙ behind_is f.1)
    (equal_self w.0 (start_registers image k entry) (start_sixteen image k entry))

start_cores_alike : (code : LabelledCode) → Facts code → (image : Image) (k : ℕ) (entries : List ℕ) →
    ((n : ℕ) (entry : ℕ) → slice_get entries n ≡ Some entry → FollowsCallWord code.items entry) →
    CoresAlike code (start_cores image k entries) (start_cores image k entries)
start_cores_alike code facts image k [] f = tt
start_cores_alike code facts image k (entry ∷ entries) f = (
  record { ended = refl; counters = refl; standing = λ h. at_item (starts_at code facts image k entry (f 0 entry refl)) },
  start_cores_alike code facts image (suc k) entries (λ n e h. f (suc n) e h),
)

-- ---- the facts of an accepted image

-- the parts of an image that hold bytes
pub record HasBytes (image : Image) : Type 0 where
  pub prefix : AreBytes image.prefix
  pub code : AreBytes image.code
  pub public : AreBytes image.public

concat_bytes : (xs : List (List ℕ)) → AreBytes (concat xs) → (i : ℕ) (x : List ℕ) → slice_get xs i ≡ Some x → AreBytes x
concat_bytes [] are i x e = absurd (none-some x e)
concat_bytes (y ∷ ys) are zero x e = subst (λ (z : List ℕ). AreBytes z) (same_Some y x e) (left_bytes y (concat ys) are)
concat_bytes (y ∷ ys) are (suc i) x e = concat_bytes ys (right_bytes y (concat ys) are) i x e

-- the parts of an image's bytes
abbrev fields : Image → List (List ℕ)
fields image =
    signature ∷ (1 ∷ []) ∷ (length image.entries ∷ []) ∷ (0 ∷ 0 ∷ []) ∷ image.prefix ∷ (0 ∷ 0 ∷ []) ∷ word image.seg_size ∷ word image.stack_size
    ∷ word (length image.code) ∷ word (length image.public) ∷ word (length image.private) ∷ (0 ∷ 0 ∷ 0 ∷ 0 ∷ []) ∷ flat_map word image.entries
    ∷ image.code ∷ image.public ∷ image.private ∷ []

spelled_bytes : (image : Image) → AreBytes (spelling image) → HasBytes image
unfolding spelling
spelled_bytes image are = record {
  prefix = concat_bytes (fields image) are 4 image.prefix refl;
  code = concat_bytes (fields image) are 13 image.code refl;
  public = concat_bytes (fields image) are 14 image.public refl;
}

pub image_bytes : (bytes : List ℕ) (image : Image) → AreBytes bytes → IsImage bytes image → HasBytes image
image_bytes bytes image are is = spelled_bytes image (subst (λ (l : List ℕ). AreBytes l) is.spelled are)

pub facts_of : (image : Image) (accepted : IsAcceptedImage image) → IsGood image → AreBytes image.prefix → AreBytes image.code → Facts (accepted_code image accepted)
facts_of image accepted good prefix code = record {
  six = good.prefix_len;
  prefix_bytes = prefix;
  code_bytes = code;
  limit = (let len = good.code in len.1);
  listing = accepted.listing;
  ends = λ place. accepted.shape V3 place;
  occurs = λ place. accepted.shape V4 place;
  returns = λ place. accepted.shape V5 place;
  jumps = λ place. accepted.shape V6 place;
  calls = λ place. accepted.shape V7 place;
  meets = accepted.meets;
  flow = accepted.flow;
}

-- ---- two runs of an accepted image, with any secrets, show the same

padded_bytes : (before size : ℕ) (bytes : List ℕ) → AreBytes bytes → AreBytes (padded before size bytes)
unfolding padded
padded_bytes before size bytes are =
    append_bytes (replicate before 0 ++ bytes) (replicate (size - (before + length bytes)) 0)
    (append_bytes (replicate before 0) bytes (zeros_are before) are) (zeros_are (size - (before + length bytes)))

-- a tape at its start
no_bytes : (i : ℕ) → AreBytes []
no_bytes n i = omega arith

fresh_bytes : (o : Option (Option Tape)) → ((tape : Tape) → o ≡ Some (Some tape) → AreBytes tape.bytes) → AreBytes (fresh_tape o).left.bytes
fresh_bytes None are = no_bytes 0
fresh_bytes (Some None) are = no_bytes 0
fresh_bytes (Some (Some tape)) are = are tape refl

-- what two starts have in common, and what they may differ in
abbrev common_of : Image → Shared → Common
common_of image shared = record {
  size = image.seg_size;
  public = padded first_mapped image.seg_size image.public;
  visible = (start_world image shared.public_input []).visible;
  held = (start_releasers shared.tapes).held;
  tapes = (start_releasers shared.tapes).tapes;
}

abbrev apart_of : Image → Secret → Apart
apart_of image secret = record {
  cores = start_cores image 0 image.entries;
  segment = padded first_mapped image.seg_size (items_at secret.segment 0 (image.seg_size - first_mapped));
  input = secret.private_input;
  output = [];
  asked = λ class. [];
}

pub law_of_image : (image : Image) → IsAcceptedImage image → IsGood image → HasBytes image → (shared : Shared) (mine yours : Secret) (schedule : List ℕ) →
    view (run schedule (start image shared mine)) ≡ view (run schedule (start image shared yours))
law_of_image image accepted good has shared mine yours schedule =
    let facts = facts_of image accepted good has.prefix has.code in
    let entry_follows : (n entry : ℕ) → slice_get image.entries n ≡ Some entry → FollowsCallWord accepted.items entry =
    λ n entry h. follows accepted.items entry (λ none. accepted.shape V9 entry (n, entry, h, refl, none)) in
    let cores = start_cores_alike (accepted_code image accepted) facts image 0 image.entries entry_follows in
    same_view (accepted_code image accepted) image.seg_size _ _
    (run_alike (accepted_code image accepted) facts image.seg_size schedule _ _
    (agree (record { common = common_of image shared; mine = apart_of image mine; yours = apart_of image yours }) Running
    (record {
      size_is = refl;
      cores = cores;
      public = padded_bytes first_mapped image.seg_size image.public has.public;
      prefix_is = refl;
      input = shared.input_bytes;
      tapes = λ class. fresh_bytes (slice_get shared.tapes class) (λ tape is. shared.tape_bytes class tape is);
      outputs = refl;
    })))
