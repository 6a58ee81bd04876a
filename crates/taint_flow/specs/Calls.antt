-- What an item calls: the procedure or the gate, told by its bits.
use Rattle.std.specs.Prelude.{◌≡◌, ℕ, ◌==◌, Bool, true, false, List, [], ◌∷◌, Option, Some, None, slice_get, if◌then◌else◌}
use Rattle.std.specs.Option.{option_or}
use Rattle.cv_word.specs.Arithmetic.{added}
use Rattle.cv_word.specs.Words.{widened}
use Rattle.cv_word.specs.Gates.{gate_bits_at}
use Rattle.x64_decode.specs.declared.instr.Instr.{Instr}
use Rattle.x64_decode.specs.declared.instr.Instr.TheVariants as instr
use Rattle.code_sweep.specs.declared.item.Item.{Item}
use Rattle.code_sweep.specs.declared.item.Item.TheVariants.{Call, Plain, CallUnit}
use Rattle.code_sweep.specs.declared.item.Placed.{Placed}
use Rattle.taint_flow.specs.Flow.{address_after}

-- the bits of a call word
abbrev pub call_bits : Item → Option ℕ
call_bits (Call bits) = Some bits
call_bits _ = None

-- the bits of the procedure whose call word ends at a flat address
abbrev pub procedure_at : List Placed → ℕ → Option ℕ
procedure_at [] target = None
procedure_at (p ∷ ps) target = if address_after p == target then call_bits p.item else procedure_at ps target

-- the flat address that a direct call names: the address behind it plus its displacement, modulo 2 ^ 64
abbrev pub instruction_calls : Instr → ℕ → Option ℕ
instruction_calls (instr.Call rel) next = Some (added next (widened rel))
instruction_calls _ next = None

abbrev pub item_calls : Item → ℕ → Option ℕ
item_calls (Plain i) next = instruction_calls i next
item_calls _ next = None

abbrev pub call_target : Placed → Option ℕ
call_target p = item_calls p.item (address_after p)

-- the bits of what stands at the target of a direct call: a procedure, else a gate
abbrev pub bits_at : List Placed → Option ℕ → Option ℕ
bits_at items None = None
bits_at items (Some target) = option_or (procedure_at items target) (gate_bits_at target)

-- The bits of what an item calls: a direct call, those at its target; a call unit, its own. None for a direct call with a bad
-- target, and for every item that calls nothing.
abbrev pub bits_called : List Placed → Item → ℕ → Option ℕ
bits_called items (CallUnit r bits) next = Some bits
bits_called items item next = bits_at items (item_calls item next)

abbrev pub callee : List Placed → Placed → Option ℕ
callee items p = bits_called items p.item (address_after p)

-- the item is a direct call or a call unit
abbrev pub instruction_is_call : Instr → Bool
instruction_is_call (instr.Call rel) = true
instruction_is_call _ = false

abbrev pub is_call : Item → Bool
is_call (Plain i) = instruction_is_call i
is_call (CallUnit r bits) = true
is_call _ = false

-- the call words among the items are of eight bytes
abbrev pub AreEight : List Placed → Type 0
AreEight items = (i : ℕ) (p : Placed) (bits : ℕ) → slice_get items i ≡ Some p → p.item ≡ Call bits → p.len ≡ 8
