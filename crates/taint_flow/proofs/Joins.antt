-- A join: one label takes in another, and the item is queued.
use Rattle.std.proofs.Common.{subst, ◌≡◌, ℕ, ◌+◌, ◌-◌, ◌<◌, ◌≤◌, ◌≢◌, Bool, true, false, List, [], ◌∷◌, ◌++◌, length, set, get_or, sym, ◌∙◌, ap, arith, Option, Some, inl, inr, ◌⊎◌}
use Rattle.std.specs.List.{sum_by}
use Rattle.std.specs.Int.RustNames.{bit_or}
use Rattle.std.proofs.lemmas.Option.{same_Some}
use Rattle.std.proofs.lemmas.Bool.{cases_eq, true≢false}
use Rattle.std.proofs.lemmas.List.{length-set, get_or-set_same, get_or-set_other, length_push, get_or_read}
use Rattle.std.proofs.lemmas.List.Elements.{All-push}
use Rattle.std.proofs.lemmas.List.Sums.{sum_by-set, count_by-le-length}
use Rattle.taint_flow.specs.Label.{Label, IsAtMost}
use Rattle.taint_flow.specs.Flow.{Labelling}
use Rattle.taint_flow.specs.Bits.{label_of, labelling_of, public_bits}
use Rattle.taint_flow.specs.declared.label.Label.{Label as LabelBits}
use Rattle.taint_flow.specs.Worklist.{State, label_at, is_queued, IsWhole, IsBelow, all_private, private_names, room_above, Rises}
use Rattle.taint_flow.proofs.Bits.{at_most_left, at_most_right, union_at_most}
use Rattle.taint_flow.proofs.Stacks.{one_if, times_on, flags_set, pushed_same, pushed_other, flag_set}
use Rattle.taint_flow.proofs.Names.{names_most, names_rise}

-- a label set in a list of labels
pub set_at_same : (labels : List LabelBits) (j : ℕ) (l : LabelBits) → j < length labels → labelling_of (set labels j l) j ≡ label_of l.bits
set_at_same labels j l h = ap (λ (x : LabelBits). label_of x.bits) (get_or-set_same labels j l public_bits h)

pub set_at_other : (labels : List LabelBits) (j i : ℕ) (l : LabelBits) → i ≢ j → labelling_of (set labels j l) i ≡ labelling_of labels i
set_at_other labels j i l n = ap (λ (x : LabelBits). label_of x.bits) (get_or-set_other labels j i l public_bits n)

along : (l m n : Label) → l ≡ m → IsAtMost m n → IsAtMost l n
along l m n e h = subst (λ (x : Label). IsAtMost x n) (sym e) h

onto : (l m n : Label) → n ≡ m → IsAtMost l m → IsAtMost l n
onto l m n e h = subst (λ (x : Label). IsAtMost l x) (sym e) h

-- what a join makes of the labels, of item j whose bits were `before`
abbrev pub with_bits : List LabelBits → ℕ → ℕ → List LabelBits
with_bits labels j bits = set labels j (record { bits = bits })

higher_at : (labels : List LabelBits) (j i before out : ℕ) → j < length labels → label_of before ≡ labelling_of labels j →
    (i ≡ j) ⊎ (i ≡ j → ⊥) → IsAtMost (labelling_of labels i) (labelling_of (with_bits labels j (bit_or before out)) i)
higher_at labels j i before out h was (inl e) =
    subst (λ (n : ℕ). IsAtMost (labelling_of labels n) (labelling_of (with_bits labels j (bit_or before out)) n)) (sym e)
    (along _ _ _ (sym was) (onto _ _ _ (set_at_same labels j (record { bits = bit_or before out }) h) (at_most_left before out)))
higher_at labels j i before out h was (inr n) = onto _ _ _ (set_at_other labels j i _ n) (λ k one. one)

below_at : (labels : List LabelBits) (j i before out : ℕ) (any : Labelling) → j < length labels → label_of before ≡ labelling_of labels j →
    IsAtMost (label_of out) (any j) → ((i : ℕ) → IsAtMost (labelling_of labels i) (any i)) →
    (i ≡ j) ⊎ (i ≡ j → ⊥) → IsAtMost (labelling_of (with_bits labels j (bit_or before out)) i) (any i)
below_at labels j i before out any h was small below (inl e) =
    subst (λ (n : ℕ). IsAtMost (labelling_of (with_bits labels j (bit_or before out)) n) (any n)) (sym e)
    (along _ _ _ (set_at_same labels j (record { bits = bit_or before out }) h)
    (union_at_most before out (any j) (along _ _ _ was (below j)) small))
below_at labels j i before out any h was small below (inr n) = along _ _ _ (set_at_other labels j i _ n) (below i)

-- the item read there
pub read_label : (labels : List LabelBits) (j : ℕ) (x : LabelBits) → j < length labels → x ≡ get_or labels j x → label_of x.bits ≡ labelling_of labels j
read_label labels j x h e = ap (λ (y : LabelBits). label_of y.bits) (get_or_read labels j x h e public_bits)

-- the work that is left
work_falls : (labels : List LabelBits) (j before joined : ℕ) → j < length labels → before ≡ (get_or labels j public_bits).bits →
    private_names 17 (label_of before) < private_names 17 (label_of joined) →
    sum_by room_above (with_bits labels j joined) + 1 ≤ sum_by room_above labels
work_falls labels j before joined h was more =
    let e : sum_by room_above (with_bits labels j joined) + (17 - private_names 17 (label_of (get_or labels j public_bits).bits)) ≡
    sum_by room_above labels + (17 - private_names 17 (label_of joined)) =
    sum_by-set room_above labels j (record { bits = joined }) public_bits h in
    let same : private_names 17 (label_of before) ≡ private_names 17 (label_of (get_or labels j public_bits).bits) =
    ap (λ (n : ℕ). private_names 17 (label_of n)) was in
    let most : private_names 17 (label_of joined) ≤ 17 = names_most 17 (label_of joined) in
    omega arith

queued_cases : (queued : List Bool) (j i : ℕ) → j < length queued → get_or (set queued j true) i false ≡ false → (i ≡ j → ⊥)
queued_cases queued j i h f e = true≢false (sym (get_or-set_same queued j true false h) ∙ (ap (λ (n : ℕ). get_or (set queued j true) n false) (sym e) ∙ f))

-- the flags and the stack with item j queued
pub record Queues (s : State) (j : ℕ) (queued : List Bool) (stack : List ℕ) (room : ℕ) : Type 0 where
  pub whole : (count : ℕ) → j < count → IsWhole count s →
      IsWhole count (record { labels = s.labels; queued = queued; stack = stack; room = room })
  pub told : (i : ℕ) → get_or queued i false ≡ false → (is_queued s i ≡ false) × (i ≡ j → ⊥)
  pub short : length stack ≤ length s.stack + 1

-- what the code read and found
pub record Reads (s : State) (j before out : ℕ) : Type 0 where
  pub inside : j < length s.labels
  pub flags : length s.queued ≡ length s.labels
  pub was : before ≡ (get_or s.labels j public_bits).bits
  pub names : IsAtMost (label_of out) all_private
  pub differs : bit_or before out ≡ before → ⊥

abbrev pub joined_state : State → ℕ → ℕ → List Bool → List ℕ → ℕ → State
joined_state s j bits queued stack room = record { labels = with_bits s.labels j bits; queued = queued; stack = stack; room = room }

was_label : (s : State) (j before out : ℕ) → Reads s j before out → label_of before ≡ labelling_of s.labels j
was_label s j before out r = ap (λ (n : ℕ). label_of n) r.was

whole_joined : (s : State) (j bits : ℕ) (queued : List Bool) (stack : List ℕ) (room : ℕ) → j < length s.labels →
    Queues s j queued stack room → (count : ℕ) → IsWhole count s → IsWhole count (joined_state s j bits queued stack room)
whole_joined s j bits queued stack room h q count w =
    let small : j < count = let e = w.labels in omega arith in
    let v : IsWhole count (record { labels = s.labels; queued = queued; stack = stack; room = room }) = q.whole count small w in
    record {
      labels = length-set s.labels j (record { bits = bits }) ∙ w.labels;
      queued = v.queued;
      room = v.room;
      inside = v.inside;
      once = v.once;
      stacked = v.stacked;
    }

told_joined : (s : State) (j bits i : ℕ) (queued : List Bool) (stack : List ℕ) (room : ℕ) → Queues s j queued stack room →
    get_or queued i false ≡ false →
    (is_queued s i ≡ false) × (label_at (joined_state s j bits queued stack room) i ≡ label_at s i)
told_joined s j bits i queued stack room q f =
    let t : (is_queued s i ≡ false) × (i ≡ j → ⊥) = q.told i f in
    (t.0, set_at_other s.labels j i (record { bits = bits }) t.1)

rises_joined : (s : State) (j before out : ℕ) (queued : List Bool) (stack : List ℕ) (room : ℕ) → Reads s j before out →
    Queues s j queued stack room → Rises s (joined_state s j (bit_or before out) queued stack room)
rises_joined s j before out queued stack room r q = record {
  labels = length-set s.labels j (record { bits = bit_or before out });
  whole = whole_joined s j (bit_or before out) queued stack room r.inside q;
  higher = λ i. higher_at s.labels j i before out r.inside (was_label s j before out r) (cases_eq i j);
  told = λ i. told_joined s j (bit_or before out) i queued stack room q;
  work = (let fall : sum_by room_above (with_bits s.labels j (bit_or before out)) + 1 ≤ sum_by room_above s.labels =
      work_falls s.labels j before (bit_or before out) r.inside r.was (names_rise before out r.names r.differs) in
      let short : length stack ≤ length s.stack + 1 = q.short in
      omega arith);
}

pub takes_joined : (s : State) (j before out : ℕ) → j < length s.labels →
    IsAtMost (label_of out) (labelling_of (with_bits s.labels j (bit_or before out)) j)
takes_joined s j before out h =
    onto _ _ _ (set_at_same s.labels j (record { bits = bit_or before out }) h) (at_most_right before out)

pub stays_joined : (s : State) (j before out : ℕ) → Reads s j before out → (any : Labelling) → IsAtMost (label_of out) (any j) →
    IsBelow s any → (i : ℕ) → IsAtMost (labelling_of (with_bits s.labels j (bit_or before out)) i) (any i)
stays_joined s j before out r any small below i =
    below_at s.labels j i before out any r.inside (was_label s j before out r) small below (cases_eq i j)

-- the flags and the stack as they were, where the item is queued already
queues_kept : (s : State) (j : ℕ) → is_queued s j ≡ true → Queues s j s.queued s.stack s.room
queues_kept s j q = record {
  whole = λ count h w. w;
  told = λ i f. (f, λ e. true≢false (sym q ∙ (ap (λ (n : ℕ). is_queued s n) (sym e) ∙ f)));
  short = omega arith;
}

-- and with the item pushed
once_pushed : (queued : List Bool) (stack : List ℕ) (j i : ℕ) → j < length queued → get_or queued j false ≡ false →
    times_on stack i ≡ one_if (get_or queued i false) → (i ≡ j) ⊎ (i ≡ j → ⊥) →
    times_on (stack ++ j ∷ []) i ≡ one_if (get_or (set queued j true) i false)
once_pushed queued stack j i h f was (inl e) =
    let more : times_on (stack ++ j ∷ []) i ≡ times_on stack i + 1 = pushed_same stack j i e in
    let none : one_if (get_or queued i false) ≡ 0 = ap one_if (ap (λ (n : ℕ). get_or queued n false) e ∙ f) in
    let now : one_if (get_or (set queued j true) i false) ≡ 1 =
    ap one_if (ap (λ (n : ℕ). get_or (set queued j true) n false) e ∙ get_or-set_same queued j true false h) in
    omega arith
once_pushed queued stack j i h f was (inr n) =
    pushed_other stack j i n ∙ was ∙ sym (ap one_if (get_or-set_other queued j i true false n))

whole_pushed : (s : State) (j count : ℕ) → is_queued s j ≡ false → j < count → IsWhole count s →
    IsWhole count (record { labels = s.labels; queued = set s.queued j true; stack = s.stack ++ j ∷ []; room = s.room })
whole_pushed s j count f small w =
    let within : j < length s.queued = let e = w.queued in omega arith in
    record {
      labels = w.labels;
      queued = length-set s.queued j true ∙ w.queued;
      room = w.room;
      inside = All-push (λ k. k < count) s.stack j w.inside small;
      once = λ i. once_pushed s.queued s.stack j i within f (w.once i) (cases_eq i j);
      stacked = (let long : length (s.stack ++ j ∷ []) ≡ length s.stack + 1 = length_push s.stack j in
          let more : flags_set (set s.queued j true) ≡ flags_set s.queued + 1 = flag_set s.queued j within f in
          let was : length s.stack ≡ flags_set s.queued = w.stacked in
          omega arith);
    }

queues_pushed : (s : State) (j : ℕ) → j < length s.queued → is_queued s j ≡ false →
    Queues s j (set s.queued j true) (s.stack ++ j ∷ []) s.room
queues_pushed s j h f = record {
  whole = λ count small w. whole_pushed s j count f small w;
  told = λ i g.
      let n : i ≡ j → ⊥ = queued_cases s.queued j i h g in
      (sym (get_or-set_other s.queued j i true false n) ∙ g, n);
  short = (let e : length (s.stack ++ j ∷ []) ≡ length s.stack + 1 = length_push s.stack j in omega arith);
}

-- an item that is not queued finds room on the stack
pub room_left : (count : ℕ) (s : State) (j : ℕ) → IsWhole count s → j < count → is_queued s j ≡ false → length s.stack < s.room
room_left count s j w small f =
    let within : j < length s.queued = let e = w.queued in omega arith in
    let more : flags_set (set s.queued j true) ≡ flags_set s.queued + 1 = flag_set s.queued j within f in
    let most : flags_set (set s.queued j true) ≤ length (set s.queued j true) = count_by-le-length (λ b. b) (set s.queued j true) in
    let same : length (set s.queued j true) ≡ length s.queued = length-set s.queued j true in
    let stacked : length s.stack ≡ flags_set s.queued = w.stacked in
    let room : count ≤ s.room = w.room in
    let flags : length s.queued ≡ count = w.queued in
    omega arith

pub rises_queued : (s : State) (j before out : ℕ) → Reads s j before out → is_queued s j ≡ true →
    Rises s (joined_state s j (bit_or before out) s.queued s.stack s.room)
rises_queued s j before out r q = rises_joined s j before out s.queued s.stack s.room r (queues_kept s j q)

pub rises_pushed : (s : State) (j before out : ℕ) (stack : List ℕ) (room : ℕ) → Reads s j before out → is_queued s j ≡ false →
    stack ≡ s.stack ++ j ∷ [] → room ≡ s.room → Rises s (joined_state s j (bit_or before out) (set s.queued j true) stack room)
rises_pushed s j before out stack room r f e same =
    let within : j < length s.queued = let n = r.flags in let h = r.inside in omega arith in
    subst (λ (n : ℕ). Rises s (joined_state s j (bit_or before out) (set s.queued j true) stack n)) (sym same)
    (subst (λ (xs : List ℕ). Rises s (joined_state s j (bit_or before out) (set s.queued j true) xs s.room)) (sym e)
    (rises_joined s j before out (set s.queued j true) (s.stack ++ j ∷ []) s.room r (queues_pushed s j within f)))

-- from what the code read
pub reads_from : (s : State) (j out : ℕ) (x : LabelBits) → j < length s.labels → length s.queued ≡ length s.labels →
    x ≡ get_or s.labels j x → IsAtMost (label_of out) all_private → (bit_or x.bits out ≡ x.bits → ⊥) → Reads s j x.bits out
reads_from s j out x inside flags e names differs = record {
  inside = inside;
  flags = flags;
  was = ap (λ (y : LabelBits). y.bits) (get_or_read s.labels j x inside e public_bits);
  names = names;
  differs = differs;
}

pub takes_same : (s : State) (j out : ℕ) (x : LabelBits) → j < length s.labels → x ≡ get_or s.labels j x → bit_or x.bits out ≡ x.bits →
    IsAtMost (label_of out) (label_at s j)
takes_same s j out x inside e same =
    onto _ _ _ (sym (read_label s.labels j x inside e))
    (subst (λ (n : ℕ). IsAtMost (label_of out) (label_of n)) same (at_most_right x.bits out))

-- what holds of the item that is named
pub at_itself : (j : ℕ) (P : ℕ → Type 0) → P j → (k : ℕ) → (let to : Option ℕ = Some j in to) ≡ Some k → P k
at_itself j P p k e = subst P (same_Some j k e) p

pub queued_read : (queued : List Bool) (j : ℕ) (b t : Bool) → j < length queued → b ≡ get_or queued j b → b ≡ t → get_or queued j false ≡ t
queued_read queued j b t h e is = sym (get_or_read queued j b h e false) ∙ is
