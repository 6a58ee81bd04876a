-- The search for the least labelling: how it starts, what one item hands on, and what is kept.
use Rattle.std.proofs.Common.{subst, ◌≡◌, ℕ, zero, suc, ◌+◌, ◌-◌, ◌*◌, ◌<◌, ◌≤◌, Bool, true, false, cond, eqb, List, [], ◌∷◌, ◌++◌, length, set, get_or, replicate, refl, sym, ◌∙◌, ap, arith, Option, Some, None, inl, inr, ◌⊎◌}
use Rattle.std.specs.Prelude.{All, unwrap_or}
use Rattle.std.specs.Option.{option_map}
use Rattle.std.specs.List.{slice_get, sum_by}
use Rattle.std.proofs.lemmas.Option.{same_Some, none-some, slice_get_within, cond_some}
use Rattle.std.proofs.lemmas.Bool.{cases_eq, cases_lt, cond-true, false_from_ne_true}
use Rattle.std.proofs.lemmas.List.{get_or-set_same, get_or-set_other, get_or-replicate, get_or_past, length-replicate, length-set, length_push}
use Rattle.std.proofs.lemmas.List.Elements.{All-nil, All-push}
use Rattle.std.proofs.lemmas.List.Folds.{sum_by-replicate}
use Rattle.cv_word.specs.MemoryMap.{code_base}
use Rattle.code_sweep.specs.declared.item.Item.{Item}
use Rattle.code_sweep.specs.declared.item.Item.TheVariants.{Call, Ret}
use Rattle.code_sweep.specs.declared.item.Placed.{Placed}
use Rattle.taint_flow.specs.Label.{Label, IsAtMost}
use Rattle.taint_flow.specs.Flow.{Labelling, MeetsFlow, Leads, left_behind, falls_through, jump_target, address, said_behind}
use Rattle.taint_flow.specs.Bits.{label_of, labelling_of, public_bits}
use Rattle.taint_flow.specs.declared.label.Label.{Label as LabelBits}
use Rattle.taint_flow.specs.Places.{NextStands, NumbersItems, goes_on}
use Rattle.taint_flow.specs.Worklist.{State, waiting, label_at, is_queued, IsWhole, IsBelow, Rises, TakesIn, StaysBelow, all_private, private_names, room_above, work_left, HandsOn, HasWords, StaysLeast, IsFresh, IsSound, behind_word, word_label}
use Rattle.std.proofs.lemmas.Nat.Bits.{bit_at-zero}
use Rattle.taint_flow.proofs.Stacks.{one_if, one_most, times_on, flags_set, pushed_same, pushed_other, flag_cleared, TakesOff, taken_off}
use Rattle.taint_flow.proofs.Joins.{read_label}
use Rattle.taint_flow.proofs.Names.{left_behind_within, all_meets, no_names}
use Rattle.taint_flow.proofs.Monotone.{left_behind_up}

along : (l m n : Label) → l ≡ m → IsAtMost m n → IsAtMost l n
along l m n e h = subst (λ (x : Label). IsAtMost x n) (sym e) h

onto : (l m n : Label) → n ≡ m → IsAtMost l m → IsAtMost l n
onto l m n e h = subst (λ (x : Label). IsAtMost l x) (sym e) h

pub rises_then : (s m t : State) → Rises s m → Rises m t → Rises s t
rises_then s m t a b = record {
  labels = b.labels ∙ a.labels;
  whole = λ count w. b.whole count (a.whole count w);
  higher = λ i k h. b.higher i k (a.higher i k h);
  told = λ i q. ((a.told i (b.told i q).0).0, (b.told i q).1 ∙ (a.told i (b.told i q).0).1);
  work = (let x = a.work in let y = b.work in omega arith);
}

-- one item of a listing, what it leaves, and the two items that it may lead to
pub record Hands (items : List Placed) (i : ℕ) (p : Placed) (out : Label) (s : State) (next target : Option ℕ) (number : ℕ → Option ℕ) : Type 0 where
  pub here : slice_get items i ≡ Some p
  pub out_is : out ≡ left_behind p.item (label_at s i)
  pub next_is : next ≡ cond (falls_through p.item) (Some (i + 1)) None
  pub found : (place : ℕ) → jump_target p ≡ Some (code_base + place) → target ≡ number place
  pub only : (j : ℕ) → target ≡ Some j → (place : ℕ) × (jump_target p ≡ Some (code_base + place)) × (number place ≡ Some j)
  pub numbers : NumbersItems items number

next_leads : (items : List Placed) (i : ℕ) (p : Placed) (out : Label) (s : State) (next target : Option ℕ) (number : ℕ → Option ℕ) →
    Hands items i p out s next target number → (j : ℕ) → next ≡ Some j → (falls_through p.item ≡ true) × (j ≡ suc i)
next_leads items i p out s next target number h j e =
    let parts : (falls_through p.item ≡ true) × (i + 1 ≡ j) = cond_some (falls_through p.item) (i + 1) j (sym h.next_is ∙ e) in
    let same : i + 1 ≡ j = parts.1 in
    (parts.0, omega arith)

target_leads : (items : List Placed) (i : ℕ) (p : Placed) (out : Label) (s : State) (next target : Option ℕ) (number : ℕ → Option ℕ) →
    Hands items i p out s next target number → (j : ℕ) → target ≡ Some j →
    (q : Placed) × (slice_get items j ≡ Some q) × (jump_target p ≡ Some (address q))
target_leads items i p out s next target number h j e =
    let at = h.only j e in
    let item = h.numbers.only at.0 j at.2 in
    (item.0, item.1, at.1 ∙ ap (λ (n : ℕ). Some (code_base + n)) (sym item.2))

goes : (item : Item) → falls_through item ≡ true → goes_on item ≡ true
goes (Call bits) h = refl
goes (Ret bit) h = refl
goes _ h = h

pub next_inside : (items : List Placed) (i : ℕ) (p : Placed) → slice_get items i ≡ Some p → NextStands items → (j : ℕ) →
    cond (falls_through p.item) (Some (i + 1)) None ≡ Some j → j < length items
next_inside items i p here n j e =
    let parts : (falls_through p.item ≡ true) × (i + 1 ≡ j) = cond_some (falls_through p.item) (i + 1) j e in
    let same : i + 1 ≡ j = parts.1 in
    let within : suc i < length items = n i p here (goes p.item parts.0) in
    omega arith

hands_at : (items : List Placed) (i : ℕ) (p : Placed) (out : Label) (s t : State) (next target : Option ℕ) (number : ℕ → Option ℕ) →
    Hands items i p out s next target number → TakesIn next out t → TakesIn target out t → (j : ℕ) →
    (((falls_through p.item ≡ true) × (j ≡ suc i)) ⊎ ((q : Placed) × (slice_get items j ≡ Some q) × (jump_target p ≡ Some (address q)))) →
    IsAtMost out (label_at t j)
hands_at items i p out s t next target number h a b j (inl x) =
    let named : next ≡ Some j =
    h.next_is ∙ (cond-true (falls_through p.item) (Some (i + 1)) None x.0 ∙ ap (λ (n : ℕ). Some n) (let e : j ≡ suc i = x.1 in omega arith)) in
    a j named
hands_at items i p out s t next target number h a b j (inr x) =
    let named : target ≡ Some j = h.found x.0.at x.2 ∙ h.numbers.each j x.0 x.1 in
    b j named

pub handed : (items : List Placed) (i : ℕ) (p : Placed) (out : Label) (s t : State) (next target : Option ℕ) (number : ℕ → Option ℕ) →
    Hands items i p out s next target number → TakesIn next out t → TakesIn target out t → HandsOn items i s t
handed items i p out s t next target number h a b j p' there lead =
    let same : p ≡ p' = same_Some p p' (sym h.here ∙ there) in
    let same_lead : p ≡ lead.0 = same_Some p lead.0 (sym h.here ∙ lead.1) in
    subst (λ (x : Placed). IsAtMost (left_behind x.item (label_at s i)) (label_at t j)) same
    (subst (λ (l : Label). IsAtMost l (label_at t j)) h.out_is
    (hands_at items i p out s t next target number h a b j
    (subst (λ (x : Placed). (((falls_through x.item ≡ true) × (j ≡ suc i)) ⊎ ((q : Placed) × (slice_get items j ≡ Some q) × (jump_target x ≡ Some (address q))))) (sym same_lead) lead.2)))

-- what was taken in stays in
pub takes_on : (to : Option ℕ) (out : Label) (s t : State) → TakesIn to out s → Rises s t → TakesIn to out t
takes_on to out s t a r j e k one = r.higher j k (a j e k one)

out_below : (items : List Placed) (i : ℕ) (p : Placed) (out : Label) (s : State) (next target : Option ℕ) (number : ℕ → Option ℕ) →
    Hands items i p out s next target number → (any : Labelling) → MeetsFlow items any → IsBelow s any → (j : ℕ) → Leads items i j → IsAtMost out (any j)
out_below items i p out s next target number h any meets below j lead =
    along _ _ _ h.out_is
    (λ k one. meets.leads i j p h.here lead k (left_behind_up p.item (label_at s i) (any i) (below i) k one))

next_below : (items : List Placed) (i : ℕ) (p : Placed) (out : Label) (s : State) (next target : Option ℕ) (number : ℕ → Option ℕ) →
    Hands items i p out s next target number → (any : Labelling) → MeetsFlow items any → IsBelow s any → (j : ℕ) → next ≡ Some j → IsAtMost out (any j)
next_below items i p out s next target number h any meets below j e =
    out_below items i p out s next target number h any meets below j (p, h.here, inl (next_leads items i p out s next target number h j e))

target_below : (items : List Placed) (i : ℕ) (p : Placed) (out : Label) (s : State) (next target : Option ℕ) (number : ℕ → Option ℕ) →
    Hands items i p out s next target number → (any : Labelling) → MeetsFlow items any → IsBelow s any → (j : ℕ) → target ≡ Some j → IsAtMost out (any j)
target_below items i p out s next target number h any meets below j e =
    out_below items i p out s next target number h any meets below j (p, h.here, inr (target_leads items i p out s next target number h j e))

pub handed_least : (items : List Placed) (i : ℕ) (p : Placed) (out : Label) (s m t : State) (next target : Option ℕ) (number : ℕ → Option ℕ) →
    Hands items i p out s next target number → StaysBelow target out s m → StaysBelow next out m t → StaysLeast items s t
handed_least items i p out s m t next target number h a b any meets below =
    b any (next_below items i p out s next target number h any meets below) (a any (target_below items i p out s next target number h any meets below) below)

-- whether an item leads to the next, as the code found it
pub next_if : (falls : Bool) (i : ℕ) (item : Item) → falls ≡ falls_through item → (let next : Option ℕ = cond falls (Some (i + 1)) None in next) ≡ cond (falls_through item) (Some (i + 1)) None
next_if falls i item e = ap (λ (b : Bool). let next : Option ℕ = cond b (Some (i + 1)) None in next) e

-- a number taken off the stack, and its flag cleared
abbrev pub popped : State → ℕ → List ℕ → ℕ → State
popped s i rest room = record { labels = s.labels; queued = set s.queued i false; stack = rest; room = room }

pub top_inside : (count : ℕ) (s : State) (i : ℕ) (rest : List ℕ) → IsWhole count s → TakesOff s.stack i rest → i < count
top_inside count s i rest w e = (e.small count w.inside).0

-- it was queued, and stands nowhere else
top_once : (count : ℕ) (s : State) (i : ℕ) (rest : List ℕ) → IsWhole count s → TakesOff s.stack i rest →
    (times_on rest i ≡ 0) × (one_if (is_queued s i) ≡ 1)
top_once count s i rest w e =
    let more : times_on s.stack i ≡ times_on rest i + 1 = e.same in
    let once : times_on s.stack i ≡ one_if (is_queued s i) = w.once i in
    let most : one_if (is_queued s i) ≤ 1 = one_most (is_queued s i) in
    (omega arith, omega arith)

once_popped : (count : ℕ) (s : State) (i k : ℕ) (rest : List ℕ) → IsWhole count s → TakesOff s.stack i rest → i < length s.queued →
    (k ≡ i) ⊎ (k ≡ i → ⊥) → times_on rest k ≡ one_if (get_or (set s.queued i false) k false)
once_popped count s i k rest w e small (inl same) =
    ap (λ (n : ℕ). times_on rest n) same ∙ (top_once count s i rest w e).0 ∙
    sym (ap one_if (ap (λ (n : ℕ). get_or (set s.queued i false) n false) same ∙ get_or-set_same s.queued i false false small))
once_popped count s i k rest w e small (inr n) =
    sym (e.other k n) ∙ w.once k ∙
    sym (ap one_if (get_or-set_other s.queued i k false false n))

stacked_popped : (count : ℕ) (s : State) (i : ℕ) (rest : List ℕ) → IsWhole count s → TakesOff s.stack i rest → i < length s.queued →
    length rest ≡ flags_set (set s.queued i false)
stacked_popped count s i rest w e small =
    let long : length s.stack ≡ length rest + 1 = e.long in
    let was : length s.stack ≡ flags_set s.queued = w.stacked in
    let less : flags_set (set s.queued i false) + 1 ≡ flags_set s.queued = flag_cleared s.queued i small (top_once count s i rest w e).1 in
    omega arith

pub whole_popped : (count : ℕ) (s : State) (i : ℕ) (rest : List ℕ) (room : ℕ) → IsWhole count s → TakesOff s.stack i rest → room ≡ s.room →
    IsWhole count (popped s i rest room)
whole_popped count s i rest room w e same =
    let small : i < length s.queued = let top = top_inside count s i rest w e in let len = w.queued in omega arith in
    record {
      labels = w.labels;
      queued = length-set s.queued i false ∙ w.queued;
      room = (let had : count ≤ s.room = w.room in omega arith);
      inside = (e.small count w.inside).1;
      once = λ k. once_popped count s i k rest w e small (cases_eq k i);
      stacked = stacked_popped count s i rest w e small;
    }

kept_flag : (queued : List Bool) (i k : ℕ) → (k ≡ i → ⊥) → get_or (set queued i false) k false ≡ false → get_or queued k false ≡ false
kept_flag queued i k n h = sym (get_or-set_other queued i k false false n) ∙ h

done_at : (items : List Placed) (count : ℕ) (s t : State) (i k : ℕ) (rest : List ℕ) (room : ℕ) → IsSound items count s → Rises (popped s i rest room) t →
    HandsOn items i (popped s i rest room) t → is_queued t k ≡ false → (k ≡ i) ⊎ (k ≡ i → ⊥) → HandsOn items k t t
done_at items count s t i k rest room sound r h q (inl e) j p here lead =
    along _ _ _ (ap (λ (l : Label). left_behind p.item l) ((r.told k q).1 ∙ ap (λ (n : ℕ). label_at s n) e))
    (h j p (ap (λ (n : ℕ). slice_get items n) (sym e) ∙ here) (subst (λ (n : ℕ). Leads items n j) e lead))
done_at items count s t i k rest room sound r h q (inr n) j p here lead =
    along _ _ _ (ap (λ (l : Label). left_behind p.item l) (r.told k q).1)
    (λ name one. r.higher j name (sound.done k (kept_flag s.queued i k n (r.told k q).0) j p here lead name one))

pub sound_after : (items : List Placed) (count : ℕ) (s t : State) (i : ℕ) (rest : List ℕ) (room : ℕ) → IsSound items count s → TakesOff s.stack i rest →
    room ≡ s.room → Rises (popped s i rest room) t → HandsOn items i (popped s i rest room) t →
    StaysLeast items (popped s i rest room) t → IsSound items count t
sound_after items count s t i rest room sound e same r h least = record {
  whole = r.whole (length items) (whole_popped (length items) s i rest room sound.whole e same);
  words = λ k p l small here is name one. r.higher (suc k) name (sound.words k p l small here is name one);
  done = λ k q. done_at items count s t i k rest room sound r h q (cases_eq k i);
  below = λ any meets. least any meets (sound.below any meets);
}

pub work_after : (s t : State) (i : ℕ) (rest : List ℕ) (room : ℕ) → TakesOff s.stack i rest → Rises (popped s i rest room) t →
    work_left t < work_left s
work_after s t i rest room e r =
    let long : length s.stack ≡ length rest + 1 = e.long in
    let work : work_left t ≤ work_left (popped s i rest room) = r.work in
    omega arith

-- no label has a name above the flags, nor what an item leaves
pub sound_within : (items : List Placed) (count : ℕ) (s : State) (i : ℕ) → IsSound items count s → IsAtMost (label_at s i) all_private
sound_within items count s i sound = sound.below (λ (n : ℕ). all_private) (all_meets items) i

pub out_within : (item : Item) (out : ℕ) (x : LabelBits) (s : State) (i : ℕ) → i < length s.labels → x ≡ get_or s.labels i x →
    label_of out ≡ left_behind item (label_of x.bits) → IsAtMost (label_at s i) all_private → IsAtMost (label_of out) all_private
out_within item out x s i small e leaves h =
    along _ _ _ leaves (left_behind_within item (label_of x.bits) (along _ _ _ (read_label s.labels i x small e) h))

-- the start
labels_public : (n i k : ℕ) → (i < n) ⊎ (n ≤ i) → labelling_of (replicate n public_bits) i k ≡ false
labels_public n i k (inl h) =
    ap (λ (l : LabelBits). label_of l.bits k) (get_or-replicate n i public_bits public_bits h) ∙ ap (λ (b : ℕ). eqb b 1) (bit_at-zero k)
labels_public n i k (inr h) =
    ap (λ (l : LabelBits). label_of l.bits k)
    (get_or_past (replicate n public_bits) i public_bits (let e : length (replicate n public_bits) ≡ n = length-replicate n public_bits in omega arith))
    ∙ ap (λ (b : ℕ). eqb b 1) (bit_at-zero k)

-- the stack has the highest numbers, so many of them, each once
pub record Highest (count i : ℕ) (stack : List ℕ) : Type 0 where
  pub inside : All (λ k. k < count) stack
  pub there : (k : ℕ) → count ≤ k + i → k < count → times_on stack k ≡ 1
  pub absent : (k : ℕ) → k + i < count → times_on stack k ≡ 0
  pub past : (k : ℕ) → count ≤ k → times_on stack k ≡ 0
  pub long : length stack ≡ i

there_more : (count i k : ℕ) (stack : List ℕ) → i < count → Highest count i stack → count ≤ k + (i + 1) → k < count →
    (k ≡ count - 1 - i) ⊎ (k ≡ count - 1 - i → ⊥) → times_on (stack ++ (count - 1 - i) ∷ []) k ≡ 1
there_more count i k stack h s a b (inl e) =
    let more : times_on (stack ++ (count - 1 - i) ∷ []) k ≡ times_on stack k + 1 = pushed_same stack (count - 1 - i) k e in
    let none : times_on stack k ≡ 0 = s.absent k (omega arith) in
    omega arith
there_more count i k stack h s a b (inr n) = pushed_other stack (count - 1 - i) k n ∙ s.there k (omega arith) b

highest_more : (count i : ℕ) (stack : List ℕ) → i < count → Highest count i stack → Highest count (i + 1) (stack ++ (count - 1 - i) ∷ [])
highest_more count i stack h s = record {
  inside = All-push (λ k. k < count) stack (count - 1 - i) s.inside (omega arith);
  there = λ k a b. there_more count i k stack h s a b (cases_eq k (count - 1 - i));
  absent = λ k a. pushed_other stack (count - 1 - i) k (λ e. absurd (omega arith)) ∙ s.absent k (omega arith);
  past = λ k a. pushed_other stack (count - 1 - i) k (λ e. absurd (omega arith)) ∙ s.past k a;
  long = (let more : length (stack ++ (count - 1 - i) ∷ []) ≡ length stack + 1 = length_push stack (count - 1 - i) in
      let was : length stack ≡ i = s.long in
      omega arith);
}

-- the numbers that wait are the highest
waiting_highest : (count k : ℕ) → k ≤ count → Highest count k (waiting (count - k) k)
unfolding waiting
waiting_highest count zero h = record {
  inside = All-nil (λ k. k < count);
  there = λ k a b. absurd (omega (arith, a, b));
  absent = λ k a. refl;
  past = λ k a. refl;
  long = refl;
}
waiting_highest count (suc k) h =
    let low : count - suc k + 1 ≡ count - k = omega (arith, h) in
    let next : count - suc k ≡ count - 1 - k = omega (arith, h) in
    let one : k + 1 ≡ suc k = omega arith in
    let more = highest_more count k (waiting (count - k) k) (omega (arith, h)) (waiting_highest count k (omega (arith, h))) in
    subst (λ (n : ℕ). Highest count n (waiting (count - suc k) (suc k))) one
    (subst (λ (n : ℕ). Highest count (k + 1) (waiting n k ++ (count - suc k) ∷ [])) (sym low)
    (subst (λ (n : ℕ). Highest count (k + 1) (waiting (count - k) k ++ n ∷ [])) (sym next) more))

pub waiting_all : (count : ℕ) → Highest count count (waiting 0 count)
waiting_all count =
    let none : count - count ≡ 0 = omega arith in
    subst (λ (n : ℕ). Highest count count (waiting n count)) none (waiting_highest count count (omega arith))

-- and none waits past the last
pub none_waits : (count i : ℕ) → count ≤ i → waiting i (count - i) ≡ []
unfolding waiting
none_waits count i h = ap (λ (n : ℕ). waiting i n) (let none : count - i ≡ 0 = omega (arith, h) in none)

-- the first of those that wait is taken off
pub first_taken_off : (count i : ℕ) (above : List ℕ) → i < count →
    TakesOff (waiting i (count - i) ++ above) i (waiting (i + 1) (count - (i + 1)) ++ above)
unfolding waiting
first_taken_off count i above h =
    let n : suc (count - (i + 1)) ≡ count - i = omega (arith, h) in
    subst (λ (n : ℕ). TakesOff (waiting i n ++ above) i (waiting (i + 1) (count - (i + 1)) ++ above)) n
    (taken_off (waiting (i + 1) (count - (i + 1))) above i)

fresh_once : (count k : ℕ) (stack : List ℕ) → Highest count count stack → (k < count) ⊎ (count ≤ k) →
    times_on stack k ≡ one_if (get_or (replicate count true) k false)
fresh_once count k stack h (inl small) =
    h.there k (omega arith) small ∙ sym (ap one_if (get_or-replicate count k true false small))
fresh_once count k stack h (inr past) =
    h.past k past ∙
    sym (ap one_if (get_or_past (replicate count true) k false (let e : length (replicate count true) ≡ count = length-replicate count true in omega arith)))

fresh_at : (count room : ℕ) (stack : List ℕ) → Highest count count stack → count ≤ room →
    IsFresh count (record { labels = replicate count public_bits; queued = replicate count true; stack = stack; room = room })
fresh_at count room stack h had = record {
  whole = record {
    labels = length-replicate count public_bits;
    queued = length-replicate count true;
    room = had;
    inside = h.inside;
    once = λ k. fresh_once count k stack h (cases_lt k count);
    stacked = (let all : flags_set (replicate count true) ≡ count * 1 = sum_by-replicate one_if count true in
        let long : length stack ≡ count = h.long in
        omega arith);
  };
  public = λ n k. labels_public count n k (cases_lt n count);
  all_queued = λ n small. get_or-replicate count n true false small;
  work = (let all : sum_by room_above (replicate count public_bits) ≡ count * room_above public_bits = sum_by-replicate room_above count public_bits in
      let each : private_names 17 (label_of 0) ≡ 0 = no_names in
      let room : room_above public_bits ≡ 17 = omega arith in
      let whole : sum_by room_above (replicate count public_bits) ≡ count * 17 = all ∙ ap (λ (n : ℕ). count * n) room in
      let long : length stack ≡ count = h.long in
      omega arith);
}

pub fresh_from : (count room : ℕ) (labels : List LabelBits) (queued : List Bool) (stack : List ℕ) → count ≤ room →
    labels ≡ replicate count public_bits → queued ≡ replicate count true → Highest count count stack →
    IsFresh count (record { labels = labels; queued = queued; stack = stack; room = room })
fresh_from count room labels queued stack had a b h =
    subst (λ (ls : List LabelBits). IsFresh count (record { labels = ls; queued = queued; stack = stack; room = room })) (sym a)
    (subst (λ (qs : List Bool). IsFresh count (record { labels = replicate count public_bits; queued = qs; stack = stack; room = room })) (sym b)
    (fresh_at count room stack h had))

-- what the code made of one item
pub hands_from : (items : List Placed) (i : ℕ) (p : Placed) (x : LabelBits) (out : ℕ) (s : State) (next target : Option ℕ) (number : ℕ → Option ℕ) →
    slice_get items i ≡ Some p → i < length items → length s.labels ≡ length items → x ≡ get_or s.labels i x →
    label_of out ≡ left_behind p.item (label_of x.bits) →
    next ≡ cond (falls_through p.item) (Some (i + 1)) None →
    ((place : ℕ) → jump_target p ≡ Some (code_base + place) → target ≡ number place) →
    ((j : ℕ) → target ≡ Some j → (place : ℕ) × (jump_target p ≡ Some (code_base + place)) × (number place ≡ Some j)) →
    NumbersItems items number → Hands items i p (label_of out) s next target number
hands_from items i p x out s next target number here small len e leaves n found only numbers = record {
  here = here;
  out_is = leaves ∙ ap (λ (l : Label). left_behind p.item l) (read_label s.labels i x (omega arith) e);
  next_is = n;
  found = found;
  only = only;
  numbers = numbers;
}

-- behind the words
behind_inside_at : (item : Item) (i n j : ℕ) → (goes_on item ≡ true → suc i < n) → behind_word item i ≡ Some j → j < n
behind_inside_at (Call bits) i n j h e =
    let same : i + 1 ≡ j = same_Some (i + 1) j e in
    let small : suc i < n = h refl in
    omega arith
behind_inside_at (Ret bit) i n j h e =
    let same : i + 1 ≡ j = same_Some (i + 1) j e in
    let small : suc i < n = h refl in
    omega arith
behind_inside_at _ i n j h e = absurd (none-some j e)

pub behind_inside : (items : List Placed) (i : ℕ) (p : Placed) → slice_get items i ≡ Some p → NextStands items → (j : ℕ) →
    behind_word p.item i ≡ Some j → j < length items
behind_inside items i p here n j e = behind_inside_at p.item i (length items) j (n i p here) e

-- what a word says is taken in behind it
said_taken : (said : Option Label) (i : ℕ) (l : Label) (t : State) → said ≡ Some l →
    TakesIn (option_map (λ (_ : Label). i + 1) said) (unwrap_or said (label_of 0)) t → IsAtMost l (label_at t (i + 1))
said_taken None i l t e takes = absurd (none-some l e)
said_taken (Some m) i l t e takes = along l m (label_at t (i + 1)) (sym (same_Some m l e)) (takes (i + 1) refl)

word_at : (items : List Placed) (i k : ℕ) (p q : Placed) (l : Label) (m t : State) → HasWords items i m → Rises m t →
    TakesIn (behind_word p.item i) (word_label p.item) t → slice_get items i ≡ Some p → k < i + 1 → slice_get items k ≡ Some q →
    said_behind q.item ≡ Some l → (k ≡ i) ⊎ (k ≡ i → ⊥) → IsAtMost l (label_at t (suc k))
word_at items i k p q l m t before r takes here small there is (inl e) =
    let same : p ≡ q = same_Some p q (sym here ∙ (ap (λ (n : ℕ). slice_get items n) (sym e) ∙ there)) in
    let said : said_behind p.item ≡ Some l = ap (λ (x : Placed). said_behind x.item) same ∙ is in
    let next : i + 1 ≡ suc k = omega arith in
    subst (λ (n : ℕ). IsAtMost l (label_at t n)) next (said_taken (said_behind p.item) i l t said takes)
word_at items i k p q l m t before r takes here small there is (inr n) =
    λ name one. r.higher (suc k) name (before k q l (omega arith) there is name one)

words_more : (items : List Placed) (i : ℕ) (p : Placed) (m t : State) → HasWords items i m → Rises m t →
    TakesIn (behind_word p.item i) (word_label p.item) t → slice_get items i ≡ Some p → HasWords items (i + 1) t
words_more items i p m t before r takes here k q l small there is =
    word_at items i k p q l m t before r takes here small there is (cases_eq k i)

said_below : (said : Option Label) (i j : ℕ) (any : Labelling) → ((l : Label) → said ≡ Some l → IsAtMost l (any (suc i))) →
    option_map (λ (_ : Label). i + 1) said ≡ Some j → IsAtMost (unwrap_or said (label_of 0)) (any j)
said_below None i j any h e = absurd (none-some j e)
said_below (Some l) i j any h e =
    let same : i + 1 ≡ j = same_Some (i + 1) j e in
    let next : suc i ≡ j = omega arith in
    subst (λ (n : ℕ). IsAtMost l (any n)) next (h l refl)

word_below : (items : List Placed) (i : ℕ) (p : Placed) (any : Labelling) → MeetsFlow items any → slice_get items i ≡ Some p →
    (j : ℕ) → behind_word p.item i ≡ Some j → IsAtMost (word_label p.item) (any j)
word_below items i p any meets here j e = said_below (said_behind p.item) i j any (λ l said. meets.words i p l here said) e

least_more : (items : List Placed) (i : ℕ) (p : Placed) (s m t : State) → StaysLeast items s m →
    StaysBelow (behind_word p.item i) (word_label p.item) m t → slice_get items i ≡ Some p → StaysLeast items s t
least_more items i p s m t least stays here any meets below =
    stays any (word_below items i p any meets here) (least any meets below)

-- after labels have risen
sound_risen : (items : List Placed) (count more : ℕ) (s t : State) → IsSound items count s → Rises s t → HasWords items more t →
    StaysLeast items s t → IsSound items more t
sound_risen items count more s t sound r words least = record {
  whole = r.whole (length items) sound.whole;
  words = words;
  done = λ k q j p here lead.
      along _ _ _ (ap (λ (l : Label). left_behind p.item l) (r.told k q).1)
      (λ name one. r.higher j name (sound.done k (r.told k q).0 j p here lead name one));
  below = λ any meets. least any meets (sound.below any meets);
}

-- the search ends
unqueued : (items : List Placed) (s : State) → IsSound items (length items) s → s.stack ≡ [] → (i : ℕ) → is_queued s i ≡ false
unqueued items s sound e i =
    false_from_ne_true (is_queued s i) (λ q.
    let once : times_on s.stack i ≡ one_if (is_queued s i) = sound.whole.once i in
    let none : times_on s.stack i ≡ 0 = ap (λ (xs : List ℕ). times_on xs i) e in
    let here : one_if (is_queued s i) ≡ 1 = ap one_if q in
    omega arith)

pub meets_at_end : (items : List Placed) (s : State) → IsSound items (length items) s → s.stack ≡ [] → MeetsFlow items (label_at s)
meets_at_end items s sound e = record {
  words = λ i p l here is. sound.words i p l (slice_get_within items i p here) here is;
  leads = λ i j p here lead. sound.done i (unqueued items s sound e i) j p here lead;
}

-- the join of one word, as the code made it
takes_word : (to : Option ℕ) (out : Label) (item : Item) (i : ℕ) (t : State) → to ≡ behind_word item i → out ≡ word_label item →
    TakesIn to out t → TakesIn (behind_word item i) (word_label item) t
takes_word to out item i t a b takes j e = along (word_label item) out (label_at t j) (sym b) (takes j (a ∙ e))

stays_word : (to : Option ℕ) (out : Label) (item : Item) (i : ℕ) (s t : State) → to ≡ behind_word item i → out ≡ word_label item →
    StaysBelow to out s t → StaysBelow (behind_word item i) (word_label item) s t
stays_word to out item i s t a b stays any small below =
    stays any (λ j e. along out (word_label item) (any j) b (small j (sym a ∙ e))) below

words_joined : (items : List Placed) (i : ℕ) (p : Placed) (to : Option ℕ) (out : Label) (m t : State) → to ≡ behind_word p.item i →
    out ≡ word_label p.item → slice_get items i ≡ Some p → HasWords items i m → Rises m t → TakesIn to out t → HasWords items (i + 1) t
words_joined items i p to out m t a b here before r takes =
    words_more items i p m t before r (takes_word to out p.item i t a b takes) here

least_joined : (items : List Placed) (i : ℕ) (p : Placed) (to : Option ℕ) (out : Label) (s m t : State) → to ≡ behind_word p.item i →
    out ≡ word_label p.item → slice_get items i ≡ Some p → StaysLeast items s m → StaysBelow to out m t → StaysLeast items s t
least_joined items i p to out s m t a b here least stays =
    least_more items i p s m t least (stays_word to out p.item i m t a b stays) here

-- after a word has told what it says
pub sound_told : (items : List Placed) (i : ℕ) (p : Placed) (to : Option ℕ) (out : Label) (s t : State) → to ≡ behind_word p.item i →
    out ≡ word_label p.item → slice_get items i ≡ Some p → Rises s t → TakesIn to out t → StaysBelow to out s t → IsSound items i s →
    IsSound items (i + 1) t
sound_told items i p to out s t a b here rises takes stays sound =
    sound_risen items i (i + 1) s t sound rises (words_joined items i p to out s t a b here sound.words rises takes)
    (least_joined items i p to out s s t a b here (λ any meets low. low) stays)
