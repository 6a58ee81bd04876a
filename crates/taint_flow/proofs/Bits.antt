-- Labels as numbers: one bit read and written, and their union.
use Rattle.std.proofs.Common.{subst, ◌≡◌, ℕ, ◌+◌, ◌*◌, ◌%◌, ◌^◌, ◌<◌, ◌≤◌, ◌≢◌, Bool, true, false, not, ◌&&◌, eqb, leb, max, refl, sym, ◌∙◌, ap, arith, inl, inr, ◌⊎◌}
use Rattle.std.specs.Int.{bit_at}
use Rattle.std.specs.Int.RustNames.{bit_or, bit_xor}
use Rattle.std.proofs.lemmas.Nat.Bits.{bit_at_or, bit_at_xor, bit_at-pow_same, bit_at-pow_other, bit_at-lt, bit_at_above}
use Rattle.std.proofs.lemmas.Bool.{cases_eq, eq-eqb, eqb-true, ne_eqb, cond-true, cond-false, agree_below_at, lt-leb, cases_lt, true≢false, false≢true, and_left}
use Rattle.std.proofs.lemmas.Nat.{one_shl}
use mathlib.Core.Path.{fun_ext}
use mathlib.Core.Bool.{beq}
use Rattle.x64_decode.specs.declared.instr.Reg.TheVariants.{Rcx, Rdx, Rsi, Rdi}
use Rattle.cv_word.specs.CallBits.{may_pass_private}
use Rattle.taint_flow.specs.Label.{Label, IsAtMost, set, set_reg, entry_label}
use Rattle.taint_flow.specs.Bits.{label_of}

turned : (b : ℕ) → b < 2 → (private : Bool) → (eqb b 1 ≡ private → ⊥) → eqb ((b + 1) % 2) 1 ≡ private
turned b small true other = eq-eqb _ _ (let h : b ≢ 1 = λ e. other (eq-eqb b 1 e) in omega arith)
turned b small false other = ne_eqb _ _ (λ e. other (ne_eqb b 1 (omega arith)))

turned_at : (n k i : ℕ) (private : Bool) → (label_of n k ≡ private → ⊥) → (i ≡ k) ⊎ (i ≡ k → ⊥) →
    label_of (bit_xor n (2 ^ k)) i ≡ set k private (label_of n) i
turned_at n k i private h (inl e) =
    let bit : bit_at (bit_xor n (2 ^ k)) i ≡ (bit_at n k + 1) % 2 = rw (e, bit_at_xor, bit_at-pow_same) in
    (ap (λ b. eqb b 1) bit ∙ turned (bit_at n k) (bit_at-lt n k) private h) ∙ sym (cond-true (eqb i k) private _ (eq-eqb i k e))
turned_at n k i private h (inr other) =
    let bit : bit_at (bit_xor n (2 ^ k)) i ≡ bit_at n i =
    rw (bit_at_xor, bit_at-pow_other k i other) (let small : bit_at n i < 2 = bit_at-lt n i in omega arith) in
    ap (λ b. eqb b 1) bit ∙ sym (cond-false (eqb i k) private _ (ne_eqb i k other))

pub set_turned : (n k : ℕ) (private : Bool) → k < 32 → (label_of n k ≡ private → ⊥) →
    label_of (bit_xor n (1 * 2 ^ k % 2 ^ 32)) ≡ set k private (label_of n)
set_turned n k private small h =
    subst (λ (m : ℕ). label_of (bit_xor n m) ≡ set k private (label_of n)) (sym (one_shl k 32 small))
    (fun_ext (λ i. turned_at n k i private h (cases_eq i k)))

-- all names but rsp
abbrev pub all_but_rsp : Label
all_but_rsp = λ k. leb k 16 && not (eqb k 4)

all_at : (k : ℕ) → (k < 17) ⊎ (17 ≤ k) → label_of 0x1ffef k ≡ all_but_rsp k
all_at k (inl h) = agree_below_at (label_of 0x1ffef) all_but_rsp 17 k refl h
all_at k (inr h) =
    let bit : bit_at 0x1ffef k ≡ 0 = bit_at_above 0x1ffef 17 k (omega arith) h in
    ap (λ b. eqb b 1) bit ∙ sym (and_left (leb k 16) (not (eqb k 4)) (lt-leb k 16 (omega arith)))

pub all_is : label_of 0x1ffef ≡ all_but_rsp
all_is = fun_ext (λ k. all_at k (cases_lt k 17))

-- all names but rsp, and then the four arguments by their bits
pub entry_is : (bits : ℕ) (rdi rsi rdx rcx : Bool) →
    rdi ≡ may_pass_private bits 0 → rsi ≡ may_pass_private bits 1 → rdx ≡ may_pass_private bits 2 → rcx ≡ may_pass_private bits 3 →
    set_reg Rdi rdi (set_reg Rsi rsi (set_reg Rdx rdx (set_reg Rcx rcx (label_of 0x1ffef)))) ≡ entry_label bits
unfolding entry_label
entry_is bits rdi rsi rdx rcx e0 e1 e2 e3 = rw (all_is, e0, e1, e2, e3)

pub entry_steps : (bits n1 n2 n3 n4 : ℕ) (rdi rsi rdx rcx : Bool) →
    rdi ≡ may_pass_private bits 0 → rsi ≡ may_pass_private bits 1 → rdx ≡ may_pass_private bits 2 → rcx ≡ may_pass_private bits 3 →
    label_of n1 ≡ set_reg Rcx rcx (label_of 0x1ffef) →
    label_of n2 ≡ set_reg Rdx rdx (label_of n1) →
    label_of n3 ≡ set_reg Rsi rsi (label_of n2) →
    label_of n4 ≡ set_reg Rdi rdi (label_of n3) →
    label_of n4 ≡ entry_label bits
entry_steps bits n1 n2 n3 n4 rdi rsi rdx rcx e0 e1 e2 e3 s1 s2 s3 s4 =
    s4 ∙ ap (λ (l : Label). set_reg Rdi rdi l) (s3 ∙ ap (λ (l : Label). set_reg Rsi rsi l) (s2 ∙ ap (λ (l : Label). set_reg Rdx rdx l) s1))
    ∙ entry_is bits rdi rsi rdx rcx e0 e1 e2 e3

-- two answers that a test told apart
pub beq_apart : (a b : Bool) → beq a b ≡ false → a ≡ b → ⊥
beq_apart true true h e = true≢false h
beq_apart false false h e = true≢false h
beq_apart true false h e = true≢false e
beq_apart false true h e = false≢true e

-- the union of two labels
pub at_most_left : (a b : ℕ) → IsAtMost (label_of a) (label_of (bit_or a b))
at_most_left a b k h =
    let one : bit_at a k ≡ 1 = eqb-true _ _ h in
    let small : bit_at b k < 2 = bit_at-lt b k in
    eq-eqb _ _ (rw bit_at_or (omega arith))

pub at_most_right : (a b : ℕ) → IsAtMost (label_of b) (label_of (bit_or a b))
at_most_right a b k h =
    let one : bit_at b k ≡ 1 = eqb-true _ _ h in
    let small : bit_at a k < 2 = bit_at-lt a k in
    eq-eqb _ _ (rw bit_at_or (omega arith))

bit_cases : (a b k : ℕ) → bit_at (bit_or a b) k ≡ 1 → (bit_at a k ≡ 1) ⊎ (bit_at b k ≡ 1)
bit_cases a b k h =
    let is : max (bit_at a k) (bit_at b k) ≡ 1 = sym (bit_at_or a b k) ∙ h in
    let small : bit_at a k < 2 = bit_at-lt a k in
    elim (cases_eq (bit_at a k) 1) [ inl e ↦ inl e | inr n ↦ inr (omega arith) ]

union_at : (a b : ℕ) (m : Label) (k : ℕ) → IsAtMost (label_of a) m → IsAtMost (label_of b) m →
    (bit_at a k ≡ 1) ⊎ (bit_at b k ≡ 1) → m k ≡ true
union_at a b m k h g (inl e) = h k (eq-eqb _ _ e)
union_at a b m k h g (inr e) = g k (eq-eqb _ _ e)

pub union_at_most : (a b : ℕ) (m : Label) → IsAtMost (label_of a) m → IsAtMost (label_of b) m → IsAtMost (label_of (bit_or a b)) m
union_at_most a b m h g k one = union_at a b m k h g (bit_cases a b k (eqb-true _ _ one))
