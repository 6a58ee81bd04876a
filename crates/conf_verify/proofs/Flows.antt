-- From the first item that breaks a rule under the least labels to the verdict, and to acceptance.
use Rattle.std.proofs.Common.{◌≡◌, ◌≢◌, ℕ, ◌+◌, ◌<◌, Bool, true, false, ◌||◌, ◌&&◌, not, eqb, List, length, Option, Some, None, refl, sym, ◌∙◌, ap, subst, arith, ◌⊎◌, inl, inr, slice_get}
use Rattle.std.proofs.lemmas.Bool.{cases_order, true≢false, and_parts, and_from}
use Rattle.std.proofs.lemmas.Option.{same_Some, slice_get_within}
use Rattle.cv_word.specs.MemoryMap.{code_base}
use Rattle.x64_decode.specs.declared.instr.Reg.TheVariants.{Rax, Rcx, Rdx, Rsi, Rdi}
use Rattle.x64_decode.specs.declared.instr.Seg.{Seg}
use Rattle.x64_decode.specs.declared.instr.Seg.TheVariants.{Fs, Gs}
use Rattle.x64_decode.specs.declared.instr.Mem.{Mem}
use Rattle.x64_decode.specs.declared.instr.Instr.{Instr}
use Rattle.x64_decode.specs.declared.instr.Instr.TheVariants.{Store, Jcc, Idiv}
use Rattle.code_sweep.specs.declared.item.Item.{Item}
use Rattle.code_sweep.specs.declared.item.Item.TheVariants.{Call, Ret, Plain, ReturnUnit, CallUnit}
use Rattle.code_sweep.specs.declared.item.Placed.{Placed}
use Rattle.taint_flow.specs.Label.{Label, IsAtMost, taint, flags}
use Rattle.taint_flow.specs.Flow.{Labelling, MeetsFlow, memory_of, base_is_private, shows_private, has_private_address, instruction_stores_private, stores_private, instruction_branches_on_private, branches_on_private, instruction_divides_private, divides_private, leaves_rsp_private, passes_private, returns_private}
use Rattle.taint_flow.specs.Calls.{callee}
use Rattle.std.specs.Int.{bit_at}
use Rattle.taint_flow.proofs.Monotone.{left_by_up, or_up}
use Rattle.taint_flow.proofs.Chain.{order_from_listing}
use Rattle.image_form.specs.Image.{Image}
use Rattle.conf_verify.specs.declared.rule.Rule.{Rule}
use Rattle.conf_verify.specs.declared.rule.Rule.TheVariants.{V2, V10, V11, V12, V13, V14, V15, V16}
use Rattle.conf_verify.specs.Rules.{BreaksShape, BreaksFlow, BreaksUnder, item_breaks, is_flow_rule, rule_number}
use Rattle.conf_verify.specs.Search.{BadLabel}
use Rattle.conf_verify.specs.Verdict.{HasListing, Precedes, IsBefore, IsAcceptedImage}
use Rattle.conf_verify.specs.Steps.{IsCodeVerdict}
use Rattle.conf_verify.proofs.One.{one_chain, no_break}
use Rattle.conf_verify.proofs.Steps.{comes_before}
use Rattle.conf_verify.proofs.Told.{Seen, seen_break, seen_shape, seen_flow, see, of_listing}

-- ---- where more may be private, more breaks

base_up : (m : Option Mem) (l k : Label) → IsAtMost l k → base_is_private m l ≡ true → base_is_private m k ≡ true
base_up None l k h e = e
base_up (Some mem) l k h e = h _ e

shown_up : (seg : Seg) (a b : Bool) → (a ≡ true → b ≡ true) → shows_private seg a ≡ true → shows_private seg b ≡ true
shown_up Fs a b f e = f e
shown_up Gs a b f e = e

address_up : (item : Item) (l k : Label) → IsAtMost l k → has_private_address item l ≡ true → has_private_address item k ≡ true
address_up (Plain i) l k h e = base_up (memory_of i) l k h e
address_up (ReturnUnit bit) l k h e = h _ e
address_up (CallUnit r bits) l k h e = h _ e
address_up (Call bits) l k h e = e
address_up (Ret bit) l k h e = e

instruction_stores_up : (i : Instr) (l k : Label) → IsAtMost l k → instruction_stores_private i l ≡ true → instruction_stores_private i k ≡ true
instruction_stores_up (Store width mem src) l k h e = shown_up mem.seg (taint l src) (taint k src) (h _) e
instruction_stores_up _ l k h e = e

stores_up : (item : Item) (l k : Label) → IsAtMost l k → stores_private item l ≡ true → stores_private item k ≡ true
stores_up (Plain i) l k h e = instruction_stores_up i l k h e
stores_up _ l k h e = e

instruction_branches_up : (i : Instr) (l k : Label) → IsAtMost l k → instruction_branches_on_private i l ≡ true → instruction_branches_on_private i k ≡ true
instruction_branches_up (Jcc cc rel) l k h e = h flags e
instruction_branches_up _ l k h e = e

branches_up : (item : Item) (l k : Label) → IsAtMost l k → branches_on_private item l ≡ true → branches_on_private item k ≡ true
branches_up (Plain i) l k h e = instruction_branches_up i l k h e
branches_up _ l k h e = e

instruction_divides_up : (i : Instr) (l k : Label) → IsAtMost l k → instruction_divides_private i l ≡ true → instruction_divides_private i k ≡ true
instruction_divides_up (Idiv r) l k h e =
    or_up (taint l Rax) (taint k Rax) (taint l Rdx || taint l r) (taint k Rdx || taint k r) (h _)
    (or_up (taint l Rdx) (taint k Rdx) (taint l r) (taint k r) (h _) (h _)) e
instruction_divides_up _ l k h e = e

divides_up : (item : Item) (l k : Label) → IsAtMost l k → divides_private item l ≡ true → divides_private item k ≡ true
divides_up (Plain i) l k h e = instruction_divides_up i l k h e
divides_up _ l k h e = e

stack_up : (item : Item) (l k : Label) → IsAtMost l k → leaves_rsp_private item l ≡ true → leaves_rsp_private item k ≡ true
stack_up (Plain i) l k h e = left_by_up i l k h _ e
stack_up _ l k h e = e

and_up : (a b c : Bool) → (a ≡ true → c ≡ true) → (a && b) ≡ true → (c && b) ≡ true
and_up a b c f e = let p = and_parts a b e in and_from c b (f p.0) p.1

passes_up : (called : Option ℕ) (l k : Label) → IsAtMost l k → passes_private called l ≡ true → passes_private called k ≡ true
passes_up None l k h e = e
passes_up (Some bits) l k h e =
    or_up _ _ _ _
    (or_up _ _ _ _
    (or_up _ _ _ _
    (and_up (taint l Rdi) (not (eqb (bit_at bits 0) 1)) (taint k Rdi) (h _))
    (and_up (taint l Rsi) (not (eqb (bit_at bits 1) 1)) (taint k Rsi) (h _)))
    (and_up (taint l Rdx) (not (eqb (bit_at bits 2) 1)) (taint k Rdx) (h _)))
    (and_up (taint l Rcx) (not (eqb (bit_at bits 3) 1)) (taint k Rcx) (h _))
    e

returns_up : (item : Item) (l k : Label) → IsAtMost l k → returns_private item l ≡ true → returns_private item k ≡ true
returns_up (ReturnUnit bit) l k h e = let p = and_parts (eqb bit 0) (taint l Rax) e in and_from (eqb bit 0) (taint k Rax) p.0 (h _ p.1)
returns_up (Call bits) l k h e = e
returns_up (Ret bit) l k h e = e
returns_up (Plain i) l k h e = e
returns_up (CallUnit r bits) l k h e = e

item_up : (rule : Rule) (called : Option ℕ) (item : Item) (l k : Label) → IsAtMost l k → item_breaks rule called item l ≡ true → item_breaks rule called item k ≡ true
item_up V10 called item l k h e = address_up item l k h e
item_up V11 called item l k h e = stores_up item l k h e
item_up V12 called item l k h e = branches_up item l k h e
item_up V13 called item l k h e = divides_up item l k h e
item_up V14 called item l k h e = stack_up item l k h e
item_up V15 called item l k h e = passes_up called l k h e
item_up V16 called item l k h e = returns_up item l k h e
item_up _ called item l k h e = absurd (true≢false (sym e))

item_flow_rule : (rule : Rule) (called : Option ℕ) (item : Item) (l : Label) → item_breaks rule called item l ≡ true → is_flow_rule rule ≡ true
item_flow_rule V10 called item l e = refl
item_flow_rule V11 called item l e = refl
item_flow_rule V12 called item l e = refl
item_flow_rule V13 called item l e = refl
item_flow_rule V14 called item l e = refl
item_flow_rule V15 called item l e = refl
item_flow_rule V16 called item l e = refl
item_flow_rule _ called item l e = absurd (true≢false (sym e))

-- ---- the verdict

before_flow : (f g : Bool) (n there m at : ℕ) → f ≡ true → g ≡ true → Precedes f g n there m at → (there < at) ⊎ ((there ≡ at) × (n < m))
before_flow true true n there m at e g h = h
before_flow false g n there m at e k h = absurd (true≢false (sym e))
before_flow true false n there m at e g h = absurd (true≢false (sym g))

-- the first item that breaks a rule, and the lowest rule that it breaks
pub record IsLeastBroken (items : List Placed) (labels : Labelling) (i : ℕ) (rule : Rule) : Type 0 where
  pub bad : BadLabel items labels rule i
  pub first : (other : Rule) (j : ℕ) → j < i → BadLabel items labels other j → ⊥
  pub lowest : (other : Rule) → rule_number other < rule_number rule → BadLabel items labels other i → ⊥

same_place : (prefix code : List ℕ) (image : Image) (items : List Placed) → HasListing image items → (i j : ℕ) (p q : Placed) → slice_get items i ≡ Some p → slice_get items j ≡ Some q → q.at ≡ p.at → j ≡ i
same_place prefix code image items listing i j p q e f same =
    elim (cases_order i j) [
      | inl is ↦ sym is
      | inr h ↦ elim h [
        | inl later ↦ absurd (let s = (order_from_listing image.prefix image.code items listing).rising i j p q e f later in omega arith)
        | inr sooner ↦ absurd (let s = (order_from_listing image.prefix image.code items listing).rising j i q p f e sooner in omega arith)
      ]
    ]

sooner_under : (image : Image) (items : List Placed) (labels : Labelling) → HasListing image items → (i : ℕ) (p : Placed) (rule : Rule) → slice_get items i ≡ Some p → IsLeastBroken items labels i rule →
    (other : Rule) (place : ℕ) → BreaksUnder other items labels place → ((code_base + place < code_base + p.at) ⊎ ((code_base + place ≡ code_base + p.at) × (rule_number other < rule_number rule))) → ⊥
sooner_under image items labels listing i p rule e least other place u (inl low) =
    let at = u.3 in least.first other u.0 (comes_before image.prefix image.code items i u.0 p u.1 listing e u.2 (omega arith)) (u.1, u.2, u.4)
sooner_under image items labels listing i p rule e least other place u (inr same) =
    let at = u.3 in let there = same.0 in
    let is = same_place image.prefix image.code image items listing i u.0 p u.1 e u.2 (omega arith) in
    least.lowest other same.1 (subst (λ j. BadLabel items labels other j) is (u.1, u.2, u.4))

sooner_flow : (image : Image) (items : List Placed) (labels : Labelling) → HasListing image items → MeetsFlow items labels → ((other : Rule) (place : ℕ) → BreaksShape other image items place → ⊥) →
    (i : ℕ) (p : Placed) (rule : Rule) → slice_get items i ≡ Some p → IsLeastBroken items labels i rule → is_flow_rule rule ≡ true →
    (other : Rule) (there : ℕ) → IsBefore other there rule (code_base + p.at) → Seen image other there → ⊥
sooner_flow image items labels listing meets shape i p rule e least flow other there h (seen_break two place here b) =
    no_break image.prefix image.code b.before items 0 place b.chain listing b.inside b.none
sooner_flow image items labels listing meets shape i p rule e least flow other there h (seen_shape items' place listing' here b) =
    shape other place (subst (λ (l : List Placed). BreaksShape other image l place) (one_chain image.prefix image.code items' items 0 listing' listing) b)
sooner_flow image items labels listing meets shape i p rule e least flow other there h (seen_flow items' place other_flow listing' here b) =
    let under = subst (λ (l : List Placed). BreaksFlow other l place) (one_chain image.prefix image.code items' items 0 listing' listing) b labels meets in
    let g = before_flow (is_flow_rule other) (is_flow_rule rule) (rule_number other) there (rule_number rule) (code_base + p.at) other_flow flow h in
    sooner_under image items labels listing i p rule e least other place under
    (subst (λ n. (n < code_base + p.at) ⊎ ((n ≡ code_base + p.at) × (rule_number other < rule_number rule))) here g)

not_two : (rule : Rule) → is_flow_rule rule ≡ true → rule ≢ V2
not_two rule flow two = true≢false (sym flow ∙ ap is_flow_rule two)

every_labelling : (items : List Placed) (labels : Labelling) → ((any : Labelling) → MeetsFlow items any → (i : ℕ) → IsAtMost (labels i) (any i)) → (i : ℕ) (p : Placed) (rule : Rule) → slice_get items i ≡ Some p →
    item_breaks rule (callee items p) p.item (labels i) ≡ true → BreaksFlow rule items p.at
every_labelling items labels least i p rule e bad any meets = (i, p, e, refl, item_up rule (callee items p) p.item (labels i) (any i) (least any meets i) bad)

pub told_flow : (image : Image) (items : List Placed) (labels : Labelling) → HasListing image items → MeetsFlow items labels → ((any : Labelling) → MeetsFlow items any → (i : ℕ) → IsAtMost (labels i) (any i)) →
    ((other : Rule) (place : ℕ) → BreaksShape other image items place → ⊥) →
    (i : ℕ) (p : Placed) (rule : Rule) → slice_get items i ≡ Some p → IsLeastBroken items labels i rule → IsCodeVerdict image rule (code_base + p.at)
told_flow image items labels listing meets most shape i p rule e least =
    let same = same_Some least.bad.0 p (sym least.bad.1 ∙ e) in
    let bad : item_breaks rule (callee items p) p.item (labels i) ≡ true =
    subst (λ (x : Placed). item_breaks rule (callee items x) x.item (labels i) ≡ true) same least.bad.2 in
    let flow = item_flow_rule rule (callee items p) p.item (labels i) bad in
    record {
      broken = of_listing image rule (code_base + p.at) (not_two rule flow) (items, p.at, listing, refl, inr (flow, every_labelling items labels most i p rule e bad));
      first = λ other there h c. sooner_flow image items labels listing meets shape i p rule e least flow other there h (see image other there c);
    }

-- ---- acceptance

pub accepts : (image : Image) (items : List Placed) (labels : Labelling) → HasListing image items → MeetsFlow items labels → ((other : Rule) (place : ℕ) → BreaksShape other image items place → ⊥) →
    ((rule : Rule) (i : ℕ) → i < length items → BadLabel items labels rule i → ⊥) → IsAcceptedImage image
accepts image items labels listing meets shape fine = record {
  items = items;
  listing = listing;
  shape = shape;
  labels = labels;
  meets = meets;
  flow = λ rule place u. fine rule u.0 (slice_get_within items u.0 u.1 u.2) (u.1, u.2, u.4);
}
