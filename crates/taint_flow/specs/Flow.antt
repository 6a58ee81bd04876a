-- Labellings of a listing: which items lead to which, the flow rules, and the rules on labels.
use Rattle.std.specs.Prelude.{◌≡◌, ℕ, suc, ◌+◌, Bool, true, false, ◌||◌, ◌&&◌, not, ◌==◌, ◌⊎◌, List, Option, Some, None, slice_get}
use Rattle.cv_word.specs.MemoryMap.{code_base}
use Rattle.cv_word.specs.Arithmetic.{added}
use Rattle.cv_word.specs.Words.{widened}
use Rattle.cv_word.specs.CallBits.{may_pass_private}
use Rattle.x64_decode.specs.declared.instr.Reg.TheVariants.{Rax, Rcx, Rdx, Rsp, Rsi, Rdi}
use Rattle.x64_decode.specs.declared.instr.Seg.{Seg}
use Rattle.x64_decode.specs.declared.instr.Seg.TheVariants.{Fs, Gs}
use Rattle.x64_decode.specs.declared.instr.Mem.{Mem}
use Rattle.x64_decode.specs.declared.instr.Instr.{Instr}
use Rattle.x64_decode.specs.declared.instr.Instr.TheVariants.{Idiv, Load, LoadZx8, LoadSx8, LoadSx32, Store, Jmp, Jcc, Ud2}
use Rattle.x64_decode.specs.declared.instr.Instr.TheVariants as instr
use Rattle.code_sweep.specs.declared.item.Item.{Item}
use Rattle.code_sweep.specs.declared.item.Item.TheVariants.{Call, Ret, Plain, ReturnUnit, CallUnit}
use Rattle.code_sweep.specs.declared.item.Placed.{Placed}
use Rattle.taint_flow.specs.Label.{Label, flags, taint, IsAtMost, left_by, entry_label, return_label}

-- the flat address of an item, and of what follows it
abbrev pub address : Placed → ℕ
address p = code_base + p.at

abbrev pub address_after : Placed → ℕ
address_after p = code_base + p.at + p.len

-- The item leads to the one behind it. CALL, JMP, UD2, words and check units don't.
abbrev pub instruction_falls : Instr → Bool
instruction_falls (instr.Call rel) = false
instruction_falls (Jmp rel) = false
instruction_falls Ud2 = false
instruction_falls _ = true

abbrev pub falls_through : Item → Bool
falls_through (Plain i) = instruction_falls i
falls_through _ = false

-- where an item that is a jump may go: the address behind it plus its displacement, modulo 2 ^ 64
abbrev pub instruction_target : Instr → ℕ → Option ℕ
instruction_target (Jmp rel) next = Some (added next (widened rel))
instruction_target (Jcc cc rel) next = Some (added next (widened rel))
instruction_target _ next = None

abbrev pub item_target : Item → ℕ → Option ℕ
item_target (Plain i) next = instruction_target i next
item_target _ next = None

abbrev pub jump_target : Placed → Option ℕ
jump_target p = item_target p.item (address_after p)

-- An item of a listing is named by its number, from 0. Item i leads to item j.
abbrev pub Leads : List Placed → ℕ → ℕ → Type 0
Leads items i j =
    (p : Placed) × (slice_get items i ≡ Some p) ×
    (((falls_through p.item ≡ true) × (j ≡ suc i)) ⊎
    ((q : Placed) × (slice_get items j ≡ Some q) × (jump_target p ≡ Some (address q))))

-- what an item hands on to those that it leads to, from what may be private before it
abbrev pub left_behind : Item → Label → Label
left_behind (Plain i) l = left_by i l
left_behind _ l = l

-- a label for each item of a listing, by the item's number
abbrev pub Labelling : Type 0
Labelling = ℕ → Label

-- what a word says may be private at least behind it
abbrev pub said_behind : Item → Option Label
said_behind (Call bits) = Some (entry_label bits)
said_behind (Ret bit) = Some (return_label bit)
said_behind _ = None

-- The flow rules: behind a word at least what it says may be private; and where an item leads, at least what it leaves.
pub record MeetsFlow (items : List Placed) (labels : Labelling) : Type 0 where
  pub words : (i : ℕ) (p : Placed) (l : Label) → slice_get items i ≡ Some p → said_behind p.item ≡ Some l → IsAtMost l (labels (suc i))
  pub leads : (i j : ℕ) (p : Placed) → slice_get items i ≡ Some p → Leads items i j → IsAtMost (left_behind p.item (labels i)) (labels j)

-- the memory operand of an instruction
abbrev pub memory_of : Instr → Option Mem
memory_of (Load wide dst mem) = Some mem
memory_of (LoadZx8 dst mem) = Some mem
memory_of (LoadSx8 dst mem) = Some mem
memory_of (LoadSx32 dst mem) = Some mem
memory_of (Store width mem src) = Some mem
memory_of _ = None

-- the base of the operand may be private
abbrev pub base_is_private : Option Mem → Label → Bool
base_is_private None l = false
base_is_private (Some mem) l = taint l mem.base

-- The rules on labels, for an item and what may be private before it.

-- an access to memory whose address may be private; a return unit reads at rsp, and a call unit goes where its register says
abbrev pub has_private_address : Item → Label → Bool
has_private_address (Plain i) l = base_is_private (memory_of i) l
has_private_address (ReturnUnit bit) l = taint l Rsp
has_private_address (CallUnit r bits) l = taint l r
has_private_address _ l = false

-- a store to the public segment of what may be private
abbrev pub shows_private : Seg → Bool → Bool
shows_private Fs private = private
shows_private Gs private = false

abbrev pub instruction_stores_private : Instr → Label → Bool
instruction_stores_private (Store width mem src) l = shows_private mem.seg (taint l src)
instruction_stores_private _ l = false

abbrev pub stores_private : Item → Label → Bool
stores_private (Plain i) l = instruction_stores_private i l
stores_private _ l = false

-- a branch on flags that may be private
abbrev pub instruction_branches_on_private : Instr → Label → Bool
instruction_branches_on_private (Jcc cc rel) l = l flags
instruction_branches_on_private _ l = false

abbrev pub branches_on_private : Item → Label → Bool
branches_on_private (Plain i) l = instruction_branches_on_private i l
branches_on_private _ l = false

-- a division whose operands may be private
abbrev pub instruction_divides_private : Instr → Label → Bool
instruction_divides_private (Idiv r) l = taint l Rax || (taint l Rdx || taint l r)
instruction_divides_private _ l = false

abbrev pub divides_private : Item → Label → Bool
divides_private (Plain i) l = instruction_divides_private i l
divides_private _ l = false

-- an instruction behind which rsp may be private
abbrev pub leaves_rsp_private : Item → Label → Bool
leaves_rsp_private (Plain i) l = taint (left_by i l) Rsp
leaves_rsp_private _ l = false

-- a call with the bits of what is called: an argument may be private whose bit is clear
abbrev pub passes_private : Option ℕ → Label → Bool
passes_private None l = false
passes_private (Some bits) l =
    (taint l Rdi && not (may_pass_private bits 0)) || (taint l Rsi && not (may_pass_private bits 1))
    || (taint l Rdx && not (may_pass_private bits 2)) || (taint l Rcx && not (may_pass_private bits 3))

-- a return with a public result, where rax may be private
abbrev pub returns_private : Item → Label → Bool
returns_private (ReturnUnit bit) l = (bit == 0) && taint l Rax
returns_private _ l = false
