-- A row leaves more where there was more.
use Rattle.std.proofs.Common.{◌≡◌, ℕ, Bool, true, false, ◌||◌, cond, eqb, inl, inr, ◌⊎◌}
use Rattle.std.proofs.lemmas.Bool.{or_left, or_right, or_cases}
use Rattle.x64_decode.specs.Spelling.{number}
use Rattle.x64_decode.specs.declared.instr.Reg.{Reg}
use Rattle.x64_decode.specs.declared.instr.Reg.TheVariants.{Rax, Rcx, Rdx}
use Rattle.x64_decode.specs.declared.instr.Instr.{Instr}
use Rattle.x64_decode.specs.declared.instr.Instr.TheVariants.{Mov, Alu, Test, Imul, Neg, Idiv, Cqo, ShiftImm, ShiftCl, Movsxd, Movzx8, Movsx8, Setcc, Cmov, MovImm32, MovImm64, MovImmS, AluImm, Load, LoadZx8, LoadSx8, LoadSx32}
use Rattle.code_sweep.specs.declared.item.Item.{Item}
use Rattle.code_sweep.specs.declared.item.Item.TheVariants.{Plain}
use Rattle.x64_decode.specs.Operations.{is_written}
use Rattle.taint_flow.specs.Label.{Label, flags, set, set_where, segment_taint, IsAtMost, left_by}
use Rattle.taint_flow.specs.Flow.{left_behind}

cond_up : (t a b x y : Bool) → (a ≡ true → b ≡ true) → (x ≡ true → y ≡ true) → cond t a x ≡ true → cond t b y ≡ true
cond_up true a b x y f g h = f h
cond_up false a b x y f g h = g h

set_up : (k : ℕ) (a b : Bool) (l m : Label) → (a ≡ true → b ≡ true) → IsAtMost l m → IsAtMost (set k a l) (set k b m)
set_up k a b l m f h i = cond_up (eqb i k) a b (l i) (m i) f (h i)

where_up : (t : Bool) (r : Reg) (a b : Bool) (l m : Label) → (a ≡ true → b ≡ true) → IsAtMost l m → IsAtMost (set_where t r a l) (set_where t r b m)
where_up true r a b l m f h = set_up (number r) a b l m f h
where_up false r a b l m f h = h

either_up : (a b x y : Bool) → (a ≡ true → b ≡ true) → (x ≡ true → y ≡ true) → (a ≡ true) ⊎ (x ≡ true) → (b || y) ≡ true
either_up a b x y f g (inl h) = or_left b y (f h)
either_up a b x y f g (inr h) = or_right b y (g h)

-- where either holds, and each grows, one holds
pub or_up : (a b x y : Bool) → (a ≡ true → b ≡ true) → (x ≡ true → y ≡ true) → (a || x) ≡ true → (b || y) ≡ true
or_up a b x y f g h = either_up a b x y f g (or_cases a x h)

two_up : (l m : Label) (a b : ℕ) → IsAtMost l m → (l a || l b) ≡ true → (m a || m b) ≡ true
two_up l m a b h = or_up (l a) (m a) (l b) (m b) (h a) (h b)

three_up : (l m : Label) (a b c : ℕ) → IsAtMost l m → (l a || (l b || l c)) ≡ true → (m a || (m b || m c)) ≡ true
three_up l m a b c h = or_up (l a) (m a) (l b || l c) (m b || m c) (h a) (two_up l m b c h)

same_up : (b : Bool) → b ≡ true → b ≡ true
same_up b h = h

moved : (l m : Label) (dst src : ℕ) → IsAtMost l m → IsAtMost (set dst (l src) l) (set dst (m src) m)
moved l m dst src h = set_up dst (l src) (m src) l m (h src) h

fixed : (l m : Label) (dst : ℕ) (b : Bool) → IsAtMost l m → IsAtMost (set dst b l) (set dst b m)
fixed l m dst b h = set_up dst b b l m (same_up b) h

pub left_by_up : (i : Instr) (l m : Label) → IsAtMost l m → IsAtMost (left_by i l) (left_by i m)
unfolding left_by
left_by_up (Mov wide dst src) l m h = moved l m (number dst) (number src) h
left_by_up (Alu op dst src) l m h =
    where_up (is_written op) dst _ _ _ _ (two_up l m (number dst) (number src) h)
    (set_up flags _ _ l m (two_up l m (number dst) (number src) h) h)
left_by_up (Test a b) l m h = set_up flags _ _ l m (two_up l m (number a) (number b) h) h
left_by_up (Imul dst src) l m h =
    set_up (number dst) _ _ _ _ (two_up l m (number dst) (number src) h) (fixed l m flags true h)
left_by_up (Neg r) l m h = moved l m flags (number r) h
left_by_up (Idiv r) l m h =
    set_up (number Rdx) _ _ _ _ (three_up l m (number Rax) (number Rdx) (number r) h)
    (set_up (number Rax) _ _ _ _ (three_up l m (number Rax) (number Rdx) (number r) h) (fixed l m flags true h))
left_by_up Cqo l m h = moved l m (number Rdx) (number Rax) h
left_by_up (ShiftImm op r count) l m h = fixed l m flags true h
left_by_up (ShiftCl op r) l m h =
    set_up (number r) _ _ _ _ (two_up l m (number r) (number Rcx) h) (fixed l m flags true h)
left_by_up (Movsxd dst src) l m h = moved l m (number dst) (number src) h
left_by_up (Movzx8 dst src) l m h = moved l m (number dst) (number src) h
left_by_up (Movsx8 dst src) l m h = moved l m (number dst) (number src) h
left_by_up (Setcc cond r) l m h = set_up (number r) _ _ l m (two_up l m (number r) flags h) h
left_by_up (Cmov cond dst src) l m h = set_up (number dst) _ _ l m (three_up l m (number dst) (number src) flags h) h
left_by_up (MovImm32 dst imm) l m h = fixed l m (number dst) false h
left_by_up (MovImm64 dst imm) l m h = fixed l m (number dst) false h
left_by_up (MovImmS dst imm) l m h = fixed l m (number dst) false h
left_by_up (AluImm op dst imm) l m h = moved l m flags (number dst) h
left_by_up (Load wide dst mem) l m h = fixed l m (number dst) (segment_taint mem.seg) h
left_by_up (LoadZx8 dst mem) l m h = fixed l m (number dst) (segment_taint mem.seg) h
left_by_up (LoadSx8 dst mem) l m h = fixed l m (number dst) (segment_taint mem.seg) h
left_by_up (LoadSx32 dst mem) l m h = fixed l m (number dst) (segment_taint mem.seg) h
left_by_up _ l m h = h

pub left_behind_up : (item : Item) (l m : Label) → IsAtMost l m → IsAtMost (left_behind item l) (left_behind item m)
left_behind_up (Plain i) l m h = left_by_up i l m h
left_behind_up _ l m h = h
