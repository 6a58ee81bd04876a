-- When two configurations of the same accepted code agree.
use Rattle.std.specs.Prelude.{◌≡◌, ℕ, ◌+◌, ◌^◌, ◌<◌, ◌↔◌, Bool, true, false, List, [], ◌∷◌, length, take, drop, Option, Some, None, slice_get}
use Rattle.cv_word.specs.Words.{AreBytes, little_endian}
use Rattle.cv_word.specs.MemoryMap.{code_base}
use Rattle.cv_word.specs.Gates.{bits_of, gate_at}
use Rattle.cv_word.specs.GateStep.{Visible, World, TapeState, Releasers}
use Rattle.cv_word.specs.declared.gates.Gate.{Gate}
use Rattle.cv_word.specs.declared.registers.Registers.{Registers}
use Rattle.x64_decode.specs.declared.instr.Reg.{Reg}
use Rattle.x64_decode.specs.declared.instr.Reg.TheVariants.{Rsp, Gpr10, Gpr11}
use Rattle.magic_words.specs.MagicWords.{call_word, return_word}
use Rattle.code_sweep.specs.Units.{inverse}
use Rattle.code_sweep.specs.declared.item.Item.{Item}
use Rattle.code_sweep.specs.declared.item.Item.TheVariants.{ReturnUnit, CallUnit}
use Rattle.code_sweep.specs.declared.item.Placed.{Placed}
use Rattle.taint_flow.specs.Label.{Label, flags, taint, set, set_reg, entry_label}
use Rattle.taint_flow.specs.Flow.{Labelling, address}
use Rattle.cv_word.specs.Memory.{Memory}
use Rattle.x64_alu.specs.CoreStep.{value}
use Rattle.image_form.specs.Image.{Image}
use Rattle.conf_verify.specs.Rules.{is_word}
use Rattle.conf_verify.specs.Verdict.{IsAcceptedImage}
use Rattle.x64_machine.specs.declared.outcome.Outcome.{Outcome}
use Rattle.x64_machine.specs.Run.{Core, Configuration}

-- ---- the code

-- A code as the checker sees it: the prefix of its words, its bytes, the items that stand in it, and for each item the label
-- before it, which says what may be private there.
pub record LabelledCode : Type 0 where
  pub prefix : List ℕ
  pub bytes : List ℕ
  pub items : List Placed
  pub labels : Labelling

-- the code of an accepted image, with the items and labels by which it was accepted
abbrev pub accepted_code : (image : Image) → IsAcceptedImage image → LabelledCode
accepted_code image accepted = record { prefix = image.prefix; bytes = image.code; items = accepted.items; labels = accepted.labels }

-- ---- two cores

-- a core has sixteen registers
abbrev pub HasSixteen : Registers → Type 0
HasSixteen s = length s.r ≡ 16

-- registers and flags that a label leaves public are equal, and the program counters are
pub record EqualUnder (l : Label) (s t : Registers) : Type 0 where
  pub mine : HasSixteen s
  pub yours : HasSixteen t
  pub registers : (r : Reg) → taint l r ≡ false → value s r ≡ value t r
  pub flags : l flags ≡ false → s.flags ≡ t.flags
  pub counters : s.pc ≡ t.pc

-- The registers that a label leaves public are equal, and rsp is, whatever the label says of it.
pub record Equal (l : Label) (s t : Registers) : Type 0 where
  pub under : EqualUnder l s t
  pub stack : value s Rsp ≡ value t Rsp

-- At the start of an item that is no word, what its label leaves public is equal.
pub record AtItem (code : LabelledCode) (s t : Registers) : Type 0 where
  pub i : ℕ
  pub p : Placed
  pub stands : slice_get code.items i ≡ Some p
  pub no_word : is_word p.item ≡ false
  pub here : s.pc ≡ address p
  pub equal : Equal (code.labels i) s t

-- Inside a check unit r10, r11 and the flags are the unit's own.
abbrev pub inside_label : Label → Label
inside_label l = set_reg Gpr10 true (set_reg Gpr11 true (set flags true l))

-- what is public before the unit is equal; r10 holds the address that is checked, past the addition that of what follows the
-- word, the same in both and below 2 ^ 32
pub record InUnit (l : Label) (s t : Registers) : Type 0 where
  pub equal : Equal (inside_label l) s t
  pub checked : value s Gpr10 ≡ value t Gpr10
  pub small : value s Gpr10 < 2 ^ 32

-- in a return unit, before 8 is added to rsp
pub record AtRaise (code : LabelledCode) (s t : Registers) : Type 0 where
  pub i : ℕ
  pub p : Placed
  pub bit : ℕ
  pub stands : slice_get code.items i ≡ Some p
  pub unit : p.item ≡ ReturnUnit bit
  pub here : s.pc ≡ address p + 10
  pub inside : InUnit (code.labels i) s t

-- The check of a unit, told by the instruction that is next: MOV of the inverse to r11, NOT, CMP, JE, UD2, ADD, and the jump
-- or the call.
pub data Stage : Type 0 where
  loads : Stage
  inverts : Stage
  compares : Stage
  branches : Stage
  traps : Stage
  advances : Stage
  leaves : Stage

abbrev pub stage_offset : Stage → ℕ
stage_offset loads = 0
stage_offset inverts = 10
stage_offset compares = 13
stage_offset branches = 21
stage_offset traps = 27
stage_offset advances = 29
stage_offset leaves = 36

-- where in a unit its check begins, and the word that it looks for
abbrev pub check_of : List ℕ → Item → Option (ℕ × List ℕ)
check_of prefix (ReturnUnit bit) = Some (17, return_word bit prefix)
check_of prefix (CallUnit r bits) = Some (3, call_word bits prefix)
check_of prefix _ = None

-- the 8 bytes of the code at a flat address are the word
pub record WordStands (code word : List ℕ) (at : ℕ) : Type 0 where
  pub place : ℕ
  pub here : at ≡ code_base + place
  pub stands : take 8 (drop place code) ≡ word

-- What a core holds at a stage: r11 the constant, and from NOT on the word; ZF, before JE, whether the word stands at r10;
-- before the addition the word stands at r10, and behind it at r10 less 8.
abbrev pub Holds : List ℕ → List ℕ → Stage → Registers → Type 0
Holds code word loads s = Unit {0}
Holds code word inverts s = value s Gpr11 ≡ little_endian (inverse word)
Holds code word compares s = value s Gpr11 ≡ little_endian word
Holds code word branches s = (value s Gpr11 ≡ little_endian word) × ((s.flags.zf ≡ true) ↔ WordStands code word (value s Gpr10))
Holds code word traps s = value s Gpr11 ≡ little_endian word
Holds code word advances s = (value s Gpr11 ≡ little_endian word) × WordStands code word (value s Gpr10)
Holds code word leaves s = (value s Gpr11 ≡ little_endian word) × ((at : ℕ) × (value s Gpr10 ≡ at + 8) × WordStands code word at)

-- from CMP on the flags are equal
abbrev pub has_compared : Stage → Bool
has_compared branches = true
has_compared traps = true
has_compared advances = true
has_compared leaves = true
has_compared _ = false

-- inside the check of a unit
pub record AtStage (code : LabelledCode) (stage : Stage) (s t : Registers) : Type 0 where
  pub i : ℕ
  pub p : Placed
  pub start : ℕ
  pub word : List ℕ
  pub stands : slice_get code.items i ≡ Some p
  pub checks : check_of code.prefix p.item ≡ Some (start, word)
  pub here : s.pc ≡ address p + start + stage_offset stage
  pub inside : InUnit (code.labels i) s t
  pub mine : Holds code.bytes word stage s
  pub yours : Holds code.bytes word stage t
  pub flags : has_compared stage ≡ true → s.flags ≡ t.flags

-- at a gate the arguments whose bit is clear are equal
pub record AtGate (s t : Registers) : Type 0 where
  pub gate : Gate
  pub here : gate_at s.pc ≡ Some gate
  pub equal : Equal (entry_label (bits_of gate)) s t

-- A running core stands at the start of an item that is no word, inside a unit, or at a gate.
pub data Standing (code : LabelledCode) (s t : Registers) : Type 0 where
  at_item : AtItem code s t → Standing code s t
  at_raise : AtRaise code s t → Standing code s t
  at_stage : (stage : Stage) → AtStage code stage s t → Standing code s t
  at_gate : AtGate s t → Standing code s t

-- ---- two configurations

-- Two cores: both have ended or neither has; the program counters are equal; and where they run, they stand alike.
pub record CoreAlike (code : LabelledCode) (c d : Core) : Type 0 where
  pub ended : c.ended ≡ d.ended
  pub counters : c.registers.pc ≡ d.registers.pc
  pub standing : c.ended ≡ false → Standing code c.registers d.registers

abbrev pub CoresAlike : LabelledCode → List Core → List Core → Type 0
CoresAlike code [] [] = Unit {0}
CoresAlike code (c ∷ cs) (d ∷ ds) = CoreAlike code c d × CoresAlike code cs ds
CoresAlike code [] (d ∷ ds) = ⊥
CoresAlike code (c ∷ cs) [] = ⊥

-- a memory by its parts
abbrev pub memory : ℕ → List ℕ → List ℕ → List ℕ → Memory
memory size code public private = record { size = size; code = code; public = public; private = private }

-- What two configurations have in common: the size of a segment, public memory, what may be seen of the gates' world, which
-- classes have a releaser, and what is left of the tapes.
pub record Common : Type 0 where
  pub size : ℕ
  pub public : List ℕ
  pub visible : Visible
  pub held : List Bool
  pub tapes : ℕ → TapeState

-- What they may differ in: their cores, private memory, the private input and output, and what the classes were asked.
pub record Apart : Type 0 where
  pub cores : List Core
  pub segment : List ℕ
  pub input : List ℕ
  pub output : List ℕ
  pub asked : ℕ → List ℕ

-- Two configurations but for their outcome: what they have in common, and what each has for itself.
pub record Two : Type 0 where
  pub common : Common
  pub mine : Apart
  pub yours : Apart

-- the memory, the gates' world and the releasers of one of them
abbrev pub memory_of : List ℕ → Common → Apart → Memory
memory_of code common apart = memory common.size code common.public apart.segment

abbrev pub world_of : Common → Apart → World
world_of common apart = record { visible = common.visible; private_input = apart.input; private_output = apart.output }

abbrev pub releasers_of : Common → Apart → Releasers
releasers_of common apart = record { held = common.held; tapes = common.tapes; asked = apart.asked }

-- a configuration by its parts
abbrev pub config : LabelledCode → Common → Apart → Outcome → Configuration
config code common apart o = record {
  state = record { cores = apart.cores; memory = memory_of code.bytes common apart; world = world_of common apart; outcome = o };
  releasers = releasers_of common apart;
}

-- What is so of two configurations of a code that agree. Their segments have the given size. Their cores are alike. What they have
-- in common is bytes. The gates look for words of the code's prefix. The private outputs are of one length.
pub record TwoAlike (code : LabelledCode) (size : ℕ) (two : Two) : Type 0 where
  pub size_is : two.common.size ≡ size
  pub cores : CoresAlike code two.mine.cores two.yours.cores
  pub public : AreBytes two.common.public
  pub prefix_is : two.common.visible.prefix ≡ code.prefix
  pub input : AreBytes two.common.visible.public_input
  pub tapes : (class : ℕ) → AreBytes (two.common.tapes class).left.bytes
  pub outputs : length two.mine.output ≡ length two.yours.output

-- Two configurations of a code agree: they are alike, and their outcome is the same. So their views are equal.
pub data Agree (code : LabelledCode) (size : ℕ) : Configuration → Configuration → Type 0 where
  agree : (two : Two) (o : Outcome) → TwoAlike code size two →
      Agree code size (config code two.common two.mine o) (config code two.common two.yours o)
