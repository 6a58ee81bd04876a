-- The names of a label: no row leaves one above the flags, and a label that takes in another has more of them.
use Rattle.std.proofs.Common.{subst, ◌≡◌, ℕ, zero, suc, ◌+◌, ◌<◌, ◌≤◌, Bool, true, false, cond, not, eqb, leb, refl, sym, ◌∙◌, ap, arith, Some, List, inl, inr, ◌⊎◌}
use Rattle.std.specs.Int.{bit_at}
use Rattle.std.specs.Int.RustNames.{bit_or}
use Rattle.std.proofs.lemmas.Bool.{and_parts, cases_eq, cases_lt, eq-eqb, eqb-true, eqb-false, ne_eqb, cond-false, true≢false, false≢true, le-leb, lt-leb}
use Rattle.std.proofs.lemmas.Option.{same_Some, none-some}
use Rattle.std.proofs.lemmas.Nat.Bits.{bit_at_or, bit_at-lt, bit_at-zero, same_from_bits}
use Rattle.x64_decode.specs.Spelling.{number}
use Rattle.x64_decode.proofs.Tables.{number_below}
use Rattle.x64_decode.specs.declared.instr.Reg.{Reg}
use Rattle.x64_decode.specs.declared.instr.Reg.TheVariants.{Rax, Rcx, Rdx, Rsi, Rdi}
use Rattle.x64_decode.specs.declared.instr.Instr.{Instr}
use Rattle.x64_decode.specs.declared.instr.Instr.TheVariants.{Mov, Alu, Test, Imul, Neg, Idiv, Cqo, ShiftImm, ShiftCl, Movsxd, Movzx8, Movsx8, Setcc, Cmov, MovImm32, MovImm64, MovImmS, AluImm, Load, LoadZx8, LoadSx8, LoadSx32}
use Rattle.code_sweep.specs.declared.item.Item.{Item}
use Rattle.code_sweep.specs.declared.item.Item.TheVariants.{Call, Ret, Plain}
use Rattle.code_sweep.specs.declared.item.Placed.{Placed}
use Rattle.x64_decode.specs.Operations.{is_written}
use Rattle.taint_flow.specs.Label.{Label, flags, set, set_reg, set_where, IsAtMost, left_by, entry_label, return_label}
use Rattle.taint_flow.specs.Flow.{MeetsFlow, left_behind, said_behind}
use Rattle.taint_flow.specs.Bits.{label_of}
use Rattle.taint_flow.specs.Worklist.{all_private, private_names, word_label}
use Rattle.taint_flow.proofs.Stacks.{one_if, one_most}
use Rattle.taint_flow.proofs.Bits.{at_most_left, entry_is, all_is}

-- a name set in a label that has none above the flags
within_at : (k i : ℕ) (b : Bool) (l : Label) → k ≤ 16 → IsAtMost l all_private → cond (eqb i k) b (l i) ≡ true →
    (i ≡ k) ⊎ (i ≡ k → ⊥) → all_private i ≡ true
within_at k i b l small h one (inl e) = le-leb i 16 (omega arith)
within_at k i b l small h one (inr n) = h i (sym (cond-false (eqb i k) b (l i) (ne_eqb i k n)) ∙ one)

set_within : (k : ℕ) (b : Bool) (l : Label) → k ≤ 16 → IsAtMost l all_private → IsAtMost (set k b l) all_private
set_within k b l small h i one = within_at k i b l small h one (cases_eq i k)

reg_within : (r : Reg) (b : Bool) (l : Label) → IsAtMost l all_private → IsAtMost (set_reg r b l) all_private
reg_within r b l h = set_within (number r) b l (omega (arith, number_below r)) h

flags_within : (b : Bool) (l : Label) → IsAtMost l all_private → IsAtMost (set flags b l) all_private
flags_within b l h = set_within flags b l (omega arith) h

where_within : (t : Bool) (r : Reg) (b : Bool) (l : Label) → IsAtMost l all_private → IsAtMost (set_where t r b l) all_private
where_within true r b l h = reg_within r b l h
where_within false r b l h = h

-- a row for each instruction that sets a name
left_by_within : (i : Instr) (l : Label) → IsAtMost l all_private → IsAtMost (left_by i l) all_private
unfolding left_by
left_by_within (Mov wide dst src) l h = reg_within dst _ l h
left_by_within (Alu op dst src) l h = where_within (is_written op) dst _ _ (flags_within _ l h)
left_by_within (Test a b) l h = flags_within _ l h
left_by_within (Imul dst src) l h = reg_within dst _ _ (flags_within true l h)
left_by_within (Neg r) l h = flags_within _ l h
left_by_within (Idiv r) l h = reg_within Rdx _ _ (reg_within Rax _ _ (flags_within true l h))
left_by_within Cqo l h = reg_within Rdx _ l h
left_by_within (ShiftImm op r count) l h = flags_within true l h
left_by_within (ShiftCl op r) l h = reg_within r _ _ (flags_within true l h)
left_by_within (Movsxd dst src) l h = reg_within dst _ l h
left_by_within (Movzx8 dst src) l h = reg_within dst _ l h
left_by_within (Movsx8 dst src) l h = reg_within dst _ l h
left_by_within (Setcc condition r) l h = reg_within r _ l h
left_by_within (Cmov condition dst src) l h = reg_within dst _ l h
left_by_within (MovImm32 dst imm) l h = reg_within dst false l h
left_by_within (MovImm64 dst imm) l h = reg_within dst false l h
left_by_within (MovImmS dst imm) l h = reg_within dst false l h
left_by_within (AluImm op dst imm) l h = flags_within _ l h
left_by_within (Load wide dst mem) l h = reg_within dst _ l h
left_by_within (LoadZx8 dst mem) l h = reg_within dst _ l h
left_by_within (LoadSx8 dst mem) l h = reg_within dst _ l h
left_by_within (LoadSx32 dst mem) l h = reg_within dst _ l h
left_by_within _ l h = h

pub left_behind_within : (item : Item) (l : Label) → IsAtMost l all_private → IsAtMost (left_behind item l) all_private
left_behind_within (Plain i) l h = left_by_within i l h
left_behind_within _ l h = h

-- what the words say
most_within : IsAtMost (label_of 0x1ffef) all_private
most_within = subst (λ (l : Label). IsAtMost l all_private) (sym all_is) (λ k one. (and_parts (leb k 16) (not (eqb k 4)) one).0)

entry_within : (bits : ℕ) → IsAtMost (entry_label bits) all_private
entry_within bits =
    subst (λ (l : Label). IsAtMost l all_private) (entry_is bits _ _ _ _ refl refl refl refl)
    (reg_within Rdi _ _ (reg_within Rsi _ _ (reg_within Rdx _ _ (reg_within Rcx _ _ most_within))))

return_is : (bit : ℕ) → return_label bit ≡ set_reg Rax (eqb bit 1) (label_of 0x1ffef)
unfolding return_label
return_is bit = ap (λ (l : Label). set_reg Rax (eqb bit 1) l) (sym all_is)

return_within : (bit : ℕ) → IsAtMost (return_label bit) all_private
return_within bit = subst (λ (l : Label). IsAtMost l all_private) (sym (return_is bit)) (reg_within Rax _ _ most_within)

none_within : IsAtMost (label_of 0) all_private
none_within k one = absurd (false≢true (sym (ap (λ (b : ℕ). eqb b 1) (bit_at-zero k)) ∙ one))

pub word_within : (item : Item) → IsAtMost (word_label item) all_private
word_within (Call bits) = entry_within bits
word_within (Ret bit) = return_within bit
word_within _ = none_within

said_within : (item : Item) (l : Label) → said_behind item ≡ Some l → IsAtMost l all_private
said_within (Call bits) l e = subst (λ (m : Label). IsAtMost m all_private) (same_Some _ l e) (entry_within bits)
said_within (Ret bit) l e = subst (λ (m : Label). IsAtMost m all_private) (same_Some _ l e) (return_within bit)
said_within _ l e = absurd (none-some l e)

-- so the labels with all names private meet the flow rules, and the least ones have no name above the flags
pub all_meets : (items : List Placed) → MeetsFlow items (λ (i : ℕ). all_private)
all_meets items = record {
  words = λ i p l here is. said_within p.item l is;
  leads = λ i j p here lead. left_behind_within p.item all_private (λ k one. one);
}

-- the number of names
pub names_most : (n : ℕ) (l : Label) → private_names n l ≤ n
unfolding private_names
names_most zero l = omega arith
names_most (suc n) l =
    let rest : private_names n l ≤ n = names_most n l in
    let last : one_if (l n) ≤ 1 = one_most (l n) in
    omega arith

agree_more : (n : ℕ) (l m : Label) → l n ≡ m n → ((k : ℕ) → k < n → l k ≡ m k) → (k : ℕ) → k < suc n → (k ≡ n) ⊎ (k ≡ n → ⊥) → l k ≡ m k
agree_more n l m here below k h (inl e) = ap l e ∙ (here ∙ ap m (sym e))
agree_more n l m here below k h (inr o) = below k (omega arith)

-- a label above another has more names below n, or the same
abbrev MoreOrSame : ℕ → Label → Label → Type 0
MoreOrSame n l m = (private_names n l < private_names n m) ⊎ ((private_names n l ≡ private_names n m) × ((k : ℕ) → k < n → l k ≡ m k))

names_suc : (n : ℕ) (l : Label) → private_names (suc n) l ≡ private_names n l + one_if (l n)
unfolding private_names
names_suc n l = refl

one_more : (n : ℕ) (l m : Label) (a b : Bool) → l n ≡ a → m n ≡ b → (a ≡ true → b ≡ true) → MoreOrSame n l m → MoreOrSame (suc n) l m
one_more n l m true false la mb up rest = absurd (false≢true (up refl))
one_more n l m false true la mb up (inl less) =
    let x : private_names (suc n) l ≡ private_names n l + 0 = names_suc n l ∙ ap (λ (b : Bool). private_names n l + one_if b) la in
    let y : private_names (suc n) m ≡ private_names n m + 1 = names_suc n m ∙ ap (λ (b : Bool). private_names n m + one_if b) mb in
    inl (omega arith)
one_more n l m false true la mb up (inr same) =
    let x : private_names (suc n) l ≡ private_names n l + 0 = names_suc n l ∙ ap (λ (b : Bool). private_names n l + one_if b) la in
    let y : private_names (suc n) m ≡ private_names n m + 1 = names_suc n m ∙ ap (λ (b : Bool). private_names n m + one_if b) mb in
    let z : private_names n l ≡ private_names n m = same.0 in
    inl (omega arith)
one_more n l m a b la mb up (inl less) =
    let x : private_names (suc n) l ≡ private_names n l + one_if a = names_suc n l ∙ ap (λ (b : Bool). private_names n l + one_if b) la in
    let y : private_names (suc n) m ≡ private_names n m + one_if b = names_suc n m ∙ ap (λ (b : Bool). private_names n m + one_if b) mb in
    inl (omega arith)
one_more n l m a b la mb up (inr same) =
    let x : private_names (suc n) l ≡ private_names n l + one_if a = names_suc n l ∙ ap (λ (b : Bool). private_names n l + one_if b) la in
    let y : private_names (suc n) m ≡ private_names n m + one_if b = names_suc n m ∙ ap (λ (b : Bool). private_names n m + one_if b) mb in
    let z : private_names n l ≡ private_names n m = same.0 in
    inr (omega arith, λ k h. agree_more n l m (la ∙ sym mb) same.1 k h (cases_eq k n))

more_or_same : (n : ℕ) (l m : Label) → IsAtMost l m → MoreOrSame n l m
unfolding private_names
more_or_same zero l m up = inr (refl, λ k h. absurd (omega arith))
more_or_same (suc n) l m up = one_more n l m (l n) (m n) refl refl (up n) (more_or_same n l m up)

-- two bits that are both 1 or both not
same_bit : (x y : ℕ) → x < 2 → y < 2 → eqb x 1 ≡ eqb y 1 → (x ≡ 1) ⊎ (x ≡ 1 → ⊥) → x ≡ y
same_bit x y a b e (inl one) = one ∙ sym (eqb-true y 1 (sym e ∙ eq-eqb x 1 one))
same_bit x y a b e (inr n) =
    let other : y ≡ 1 → ⊥ = eqb-false y 1 (sym e ∙ ne_eqb x 1 n) in
    omega arith

-- above the flags nothing is taken in
kept_above : (a b i : ℕ) → IsAtMost (label_of b) all_private → 17 ≤ i → bit_at (bit_or a b) i ≡ bit_at a i
kept_above a b i small h =
    let n : bit_at b i ≡ 1 → ⊥ = λ e. true≢false (sym (small i (eq-eqb (bit_at b i) 1 e)) ∙ lt-leb i 16 (omega arith)) in
    let low : bit_at b i < 2 = bit_at-lt b i in
    bit_at_or a b i ∙ omega arith

same_at : (a b i : ℕ) → IsAtMost (label_of b) all_private → ((k : ℕ) → k < 17 → label_of a k ≡ label_of (bit_or a b) k) →
    (i < 17) ⊎ (17 ≤ i) → bit_at (bit_or a b) i ≡ bit_at a i
same_at a b i small same (inl h) =
    same_bit (bit_at (bit_or a b) i) (bit_at a i) (bit_at-lt (bit_or a b) i) (bit_at-lt a i) (sym (same i h)) (cases_eq (bit_at (bit_or a b) i) 1)
same_at a b i small same (inr h) = kept_above a b i small h

rise_from : (a b : ℕ) → IsAtMost (label_of b) all_private → (bit_or a b ≡ a → ⊥) → MoreOrSame 17 (label_of a) (label_of (bit_or a b)) →
    private_names 17 (label_of a) < private_names 17 (label_of (bit_or a b))
rise_from a b small differs (inl more) = more
rise_from a b small differs (inr same) =
    absurd (differs (same_from_bits (bit_or a b) a (λ i. same_at a b i small same.1 (cases_lt i 17))))

-- a label that becomes another number by taking in a label has more names
pub names_rise : (a b : ℕ) → IsAtMost (label_of b) all_private → (bit_or a b ≡ a → ⊥) →
    private_names 17 (label_of a) < private_names 17 (label_of (bit_or a b))
names_rise a b small differs = rise_from a b small differs (more_or_same 17 (label_of a) (label_of (bit_or a b)) (at_most_left a b))

-- no name is private in the label 0
pub no_names : private_names 17 (label_of 0) ≡ 0
unfolding private_names
no_names = refl
