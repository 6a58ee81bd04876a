-- The answers of the check's steps, from what its searches answer.
use Rattle.std.proofs.Common.{◌≡◌, ℕ, ◌+◌, ◌<◌, ◌≤◌, List, length, get_or, slice_index, sym, ◌∙◌, ap, subst, arith}
use Rattle.std.proofs.lemmas.Option.{slice_get-get_or, get_or_from_slice_get}
use Rattle.cv_word.specs.MemoryMap.{code_base}
use Rattle.magic_words.specs.MagicWords.{AreOccurrences}
use Rattle.code_sweep.specs.declared.item.Placed.{Placed}
use Rattle.taint_flow.specs.Flow.{Labelling, MeetsFlow}
use Rattle.taint_flow.specs.Label.{IsAtMost}
use Rattle.taint_flow.specs.Bits.{labelling_of}
use Rattle.taint_flow.specs.declared.label.Label.{Label as LabelBits}
use Rattle.taint_flow.proofs.Tables.{count_small}
use Rattle.taint_flow.proofs.Chain.{order_from_listing}
use Rattle.image_form.specs.Image.{Image, IsGood}
use Rattle.conf_verify.specs.declared.rule.Rule.{Rule}
use Rattle.conf_verify.specs.declared.rule.Rule.TheVariants.{V4, V9}
use Rattle.conf_verify.specs.declared.verdict.VerifyError.{VerifyError}
use Rattle.conf_verify.specs.declared.verdict.VerifyError.TheVariants.{NoMemory, Refused}
use Rattle.conf_verify.specs.Rules.{BreaksShape, BreaksPrefix, BreaksEntries, rule_number}
use Rattle.conf_verify.specs.Search.{BadOccurrence, BadLabel}
use Rattle.conf_verify.specs.Verdict.{IsImage, HasListing}
use Rattle.conf_verify.specs.Answer.{IsRefusal}
use Rattle.conf_verify.specs.Steps.{IsCodeVerdict, IsCodeRefusal, HoldsBelow}
use Rattle.conf_verify.proofs.Told.{told_code}
use Rattle.conf_verify.proofs.Steps.{told_prefix, no_prefix, told_entry, all_hold}
use Rattle.conf_verify.proofs.Flows.{told_flow}

pub refusal : (image : Image) (error : VerifyError) (rule : Rule) (at : ℕ) → error ≡ Refused rule at → IsCodeVerdict image rule at → IsCodeRefusal image error
refusal image error rule at is v = subst (λ (e : VerifyError). IsCodeRefusal image e) (sym is) v

pub raise : (bytes : List ℕ) (image : Image) (error : VerifyError) → IsImage bytes image → IsCodeRefusal image error → IsRefusal bytes error
raise bytes image NoMemory is r = tt
raise bytes image (Refused rule at) is r = told_code bytes image is rule at r

the_place : (ys : List ℕ) (k place : ℕ) → k < length ys → place ≡ get_or ys k place → place ≡ slice_index ys k
the_place ys k place inside is = is ∙ get_or_from_slice_get ys k (slice_index ys k) place (slice_get-get_or ys k 0 inside)

pub prefix_at : (image : Image) (items xs : List Placed) (places ys : List ℕ) (k place : ℕ) → xs ≡ items → ys ≡ places → IsGood image → HasListing image items →
    AreOccurrences image.prefix image.code (length image.code) places → place ≡ get_or places k place → (k < length ys) × BadOccurrence xs ys k × ((j : ℕ) → j < k → BadOccurrence xs ys j → ⊥) → HoldsBelow image items 4 →
    IsCodeVerdict image V4 (code_base + place)
prefix_at image items xs places ys k place same same' good listing are is found below =
    let listing' = subst (λ (l : List Placed). HasListing image l) (sym same) listing in
    let below' = subst (λ (l : List Placed). HoldsBelow image l 4) (sym same) below in
    let are' = subst (λ (l : List ℕ). AreOccurrences image.prefix image.code (length image.code) l) (sym same') are in
    subst (λ n. IsCodeVerdict image V4 (code_base + n)) (sym (the_place ys k place found.0 (is ∙ ap (λ (l : List ℕ). get_or l k place) (sym same'))))
    (told_prefix image xs ys k good listing' are' found.0 found.1 found.2 below')

pub prefix_none : (image : Image) (items xs : List Placed) (places ys : List ℕ) → xs ≡ items → ys ≡ places → IsGood image → AreOccurrences image.prefix image.code (length image.code) places →
    ((k : ℕ) → k < length ys → BadOccurrence xs ys k → ⊥) → (place : ℕ) → BreaksPrefix image.prefix image.code items place → ⊥
prefix_none image items xs places ys same same' good are none =
    subst (λ (l : List Placed). (place : ℕ) → BreaksPrefix image.prefix image.code l place → ⊥) same
    (no_prefix image xs ys good (subst (λ (l : List ℕ). AreOccurrences image.prefix image.code (length image.code) l) (sym same') are) none)

pub entry_at : (image : Image) (items : List Placed) (entries : List ℕ) (entry : ℕ) → entries ≡ image.entries → HasListing image items →
    BreaksEntries entries items entry × ((other : ℕ) → other < entry → BreaksEntries entries items other → ⊥) → HoldsBelow image items 9 → IsCodeVerdict image V9 (code_base + entry)
entry_at image items entries entry same listing found below =
    told_entry image items entry listing
    (subst (λ (l : List ℕ). BreaksEntries l items entry × ((other : ℕ) → other < entry → BreaksEntries l items other → ⊥)) same found) below

pub entry_none : (image : Image) (items : List Placed) (entries : List ℕ) → entries ≡ image.entries → HoldsBelow image items 9 → ((place : ℕ) → BreaksEntries entries items place → ⊥) →
    (rule : Rule) (place : ℕ) → BreaksShape rule image items place → ⊥
entry_none image items entries same below none =
    all_hold image items below (subst (λ (l : List ℕ). (place : ℕ) → BreaksEntries l items place → ⊥) same none)

pub flow_at : (image : Image) (items : List Placed) (labels : List LabelBits) (i : ℕ) (d : Placed) (rule : Rule) → HasListing image items → MeetsFlow items (labelling_of labels) →
    ((any : Labelling) → MeetsFlow items any → (k : ℕ) → IsAtMost (labelling_of labels k) (any k)) → ((other : Rule) (place : ℕ) → BreaksShape other image items place → ⊥) →
    (i < length items) × BadLabel items (labelling_of labels) rule i × ((other : Rule) (j : ℕ) → j < i → BadLabel items (labelling_of labels) other j → ⊥)
    × ((other : Rule) → rule_number other < rule_number rule → BadLabel items (labelling_of labels) other i → ⊥) →
    IsCodeVerdict image rule (code_base + (get_or items i d).at)
flow_at image items labels i d rule listing meets least shape found =
    told_flow image items (labelling_of labels) listing meets least shape
    i (get_or items i d) rule (slice_get-get_or items i d found.0) (record { bad = found.1; first = found.2; lowest = found.3 })

pub few_items : (image : Image) (items : List Placed) → IsGood image → HasListing image items → length items ≤ 4194304
few_items image items good listing =
    let few = count_small items image.code (order_from_listing image.prefix image.code items listing) in
    let code = good.code in let most = code.1 in omega arith
