-- The rules on labels at one item of a listing.
use Rattle.std.proofs.Common.{◌≡◌, ℕ, ◌<◌, true, false, List, length, get_or, Option, Some, sym, ◌∙◌, ap, slice_get}
use Rattle.std.proofs.lemmas.Bool.{true≢false}
use Rattle.std.proofs.lemmas.Option.{same_Some, get_or_from_slice_get, slice_get-get_or}
use Rattle.code_sweep.specs.declared.item.Placed.{Placed}
use Rattle.taint_flow.specs.Label.{Label}
use Rattle.taint_flow.specs.Bits.{label_of, labelling_of, public_bits}
use Rattle.taint_flow.specs.declared.label.Label.{Label as LabelBits}
use Rattle.conf_verify.specs.declared.rule.Rule.{Rule}
use Rattle.conf_verify.specs.Rules.{item_breaks}
use Rattle.taint_flow.specs.Calls.{callee}
use Rattle.conf_verify.specs.Search.{BadLabel}

label_same : (labels : List LabelBits) (i : ℕ) (l : LabelBits) → slice_get labels i ≡ Some l → labelling_of labels i ≡ label_of l.bits
label_same labels i l e = ap (λ (x : LabelBits). label_of x.bits) (get_or_from_slice_get labels i l public_bits e)

pub bad_here : (items : List Placed) (labels : List LabelBits) (i : ℕ) (d : Placed) (called : Option ℕ) (l : LabelBits) (rule : Rule) → i < length items → slice_get labels i ≡ Some l →
    called ≡ callee items (get_or items i d) → item_breaks rule called (get_or items i d).item (label_of l.bits) ≡ true → BadLabel items (labelling_of labels) rule i
bad_here items labels i d called l rule inside e calls bad = (
  get_or items i d,
  slice_get-get_or items i d inside,
  ap (λ (m : Label). item_breaks rule (callee items (get_or items i d)) (get_or items i d).item m) (label_same labels i l e)
      ∙ ap (λ (o : Option ℕ). item_breaks rule o (get_or items i d).item (label_of l.bits)) (sym calls) ∙ bad,
)

pub fine_here : (items : List Placed) (labels : List LabelBits) (i : ℕ) (d : Placed) (called : Option ℕ) (l : LabelBits) (rule : Rule) → i < length items → slice_get labels i ≡ Some l →
    called ≡ callee items (get_or items i d) → item_breaks rule called (get_or items i d).item (label_of l.bits) ≡ false → BadLabel items (labelling_of labels) rule i → ⊥
fine_here items labels i d called l rule inside e calls fine bad =
    let same = same_Some bad.0 (get_or items i d) (sym bad.1 ∙ slice_get-get_or items i d inside) in
    true≢false (sym bad.2 ∙ ap (λ (x : Placed). item_breaks rule (callee items x) x.item (labelling_of labels i)) same
    ∙ ap (λ (m : Label). item_breaks rule (callee items (get_or items i d)) (get_or items i d).item m) (label_same labels i l e)
    ∙ ap (λ (o : Option ℕ). item_breaks rule o (get_or items i d).item (label_of l.bits)) (sym calls) ∙ fine)
