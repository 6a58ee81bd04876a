-- The gate step: what happens in place of an instruction where a core's program counter is a gate's address. Nothing here
-- tracks taint: Pub and Priv only name a segment.
--
-- 1. The address at which the core waits is read from public memory at rsp; where that is unmapped, the fault is Memory.
-- 2. The return word of the gate's result bit stands there in the code; else the fault is GateReturn.
-- 3. The gate does its work, or refuses.
-- 4. rsp goes up by 8, rax takes the answer, and the core goes on behind the word. Instead of that Exit ends the run, and
--    CoreEnd ends the core.
use Rattle.std.specs.Prelude.{ℕ, ◌+◌, ◌-◌, ◌%◌, ◌^◌, ◌==◌, Bool, true, false, ◌&&◌, ◌||◌, not, min, nat_lt, if◌then◌else◌, List, [], ◌++◌, length, take, drop, Option, Some, None, unwrap_or, slice_get, slice_index, slice_set, ℤ}
use Rattle.std.specs.Int.{w32, cast_signed}
use Rattle.std.specs.Option.{option_map}
use Rattle.std.specs.Str.{bytes_eq}
use Rattle.cv_word.specs.Words.{little_endian, word_bytes, sum_64}
use Rattle.cv_word.specs.MemoryMap.{code_base, is_mapped}
use Rattle.cv_word.specs.Marks.{return_word}
use Rattle.cv_word.specs.Gates.{result_bit}
use Rattle.cv_word.specs.declared.gates.Arguments.{Arguments}
use Rattle.cv_word.specs.declared.gates.Gate.{Gate}
use Rattle.cv_word.specs.declared.gates.Gate.TheVariants.{Exit, CoreEnd, PubIn, PubOut, PrivIn, PrivOut, PrivGet, PrivPut, PubAlloc, PrivAlloc, PubFree, PrivFree, Release}
use Rattle.cv_word.specs.Heap.{Heap, taken_at, after_take, gives, after_give}
use Rattle.cv_word.specs.Memory.{Memory, Range, is_good, is_code_word, items_at, range_read, range_written}
use Rattle.cv_word.specs.declared.fault.FaultKind.{FaultKind}
use Rattle.cv_word.specs.declared.fault.FaultKind.TheVariants as fault
use Rattle.cv_word.specs.declared.registers.Registers.{Registers}
use Rattle.cv_word.specs.declared.registers.Taint.{Taint}
use Rattle.cv_word.specs.declared.registers.Taint.TheVariants.{Pub, Priv}

-- ---- what gates act on

-- What may be seen of the gates' world, but for the length of the private output: the prefix of the image's words; the public
-- input; the position in each input, in bytes; what is free and what is out of each heap; the public output; and the audit,
-- which lists each release.
pub record Visible : Type 0 where
  pub prefix : List ℕ
  pub public_input : List ℕ
  pub public_position : ℕ
  pub private_position : ℕ
  pub public_heap : Heap
  pub private_heap : Heap
  pub public_output : List ℕ
  pub audit : List ℕ

-- the gates' world: that, and the private input and output
pub record World : Type 0 where
  pub visible : Visible
  pub private_input : List ℕ
  pub private_output : List ℕ

-- What a releaser will answer: some bytes, one release after another, in so many releases, or None where it answers without
-- limit.
pub record Tape : Type 0 where
  pub bytes : List ℕ
  pub releases : Option ℕ

-- What is left of a tape, and the position in it: how many of its bytes were taken, and how many releases it answered.
pub record TapeState : Type 0 where
  pub left : Tape
  pub taken : ℕ
  pub answered : ℕ

-- For each class of releases, by its number: whether a releaser is held for it, where none is for a class past the list; its tape;
-- and all source bytes that it was asked with in releases that it answered. The source bytes are private, all else may be seen.
pub record Releasers : Type 0 where
  pub held : List Bool
  pub tapes : ℕ → TapeState
  pub asked : ℕ → List ℕ

-- ---- ranges

abbrev pub public_range : ℕ → ℕ → Range
public_range at len = record { segment = Pub; at = at; len = len }

abbrev pub private_range : ℕ → ℕ → Range
private_range at len = record { segment = Priv; at = at; len = len }

-- the range that a gate reads, and the range that it may write
abbrev pub reads : Gate → Arguments → Option Range
reads PubOut a = Some (public_range a.first a.second)
reads PrivOut a = Some (private_range a.first a.second)
reads Release a = Some (private_range a.first a.third)
reads _ a = None

abbrev pub writes : Gate → Arguments → Option Range
writes PubIn a = Some (public_range a.first a.second)
writes PrivIn a = Some (private_range a.first a.second)
writes Release a = Some (public_range a.second a.third)
writes _ a = None

-- the bytes of a range, or none, and the memory with bytes written to a range, or to none
abbrev pub read_from : Memory → Option Range → List ℕ
read_from m None = []
read_from m (Some range) = range_read m range

abbrev pub written_to : Memory → Option Range → List ℕ → Memory
written_to m None bytes = m
written_to m (Some range) bytes = range_written m range bytes

-- ---- what is refused

-- the most bytes of each output and of the audit
abbrev pub most_output : ℕ
most_output = 1048576

-- the most bytes of one release
abbrev pub longest_release : ℕ
longest_release = 65536

-- a range, if there is one, is good
abbrev pub is_good_range : ℕ → Option Range → Bool
is_good_range size None = true
is_good_range size (Some range) = is_good size range

-- an output or the audit would pass its limit, or one release has too many bytes
abbrev pub passes_limit : Gate → Arguments → World → Bool
passes_limit PubOut a w = nat_lt most_output (length w.visible.public_output + a.second)
passes_limit PrivOut a w = nat_lt most_output (length w.private_output + a.second)
passes_limit PrivPut a w = nat_lt most_output (length w.private_output + 8)
passes_limit Release a w = nat_lt longest_release a.third || nat_lt most_output (length w.visible.audit + (8 + a.third))
passes_limit _ a w = false

abbrev pub is_held : Releasers → ℕ → Bool
is_held r class = unwrap_or (slice_get r.held class) false

-- a release is asked of a class without a releaser
abbrev pub lacks_releaser : Gate → Arguments → Releasers → Bool
lacks_releaser Release a r = not (is_held r a.fourth)
lacks_releaser _ a r = false

-- why a gate refuses, in segments of that size: the first of these that holds
unfoldable pub refusal : ℕ → Gate → Arguments → World → Releasers → Option FaultKind
refusal size gate a w r =
    if not (is_good_range size (reads gate a) && is_good_range size (writes gate a)) then Some fault.Range else
    if passes_limit gate a w then Some fault.OutLimit else
    if lacks_releaser gate a r then Some fault.NoReleaser else None

-- ---- what is done

-- how the core or the run ends at a gate: the core ends; the run exits with a status; or the tape of a class is too short
pub data Ending : Type 0 where
  ends_core : Ending
  exits : ℤ → Ending
  runs_out : ℕ → Ending

-- A gate answers a number, with these bytes for the range that it may write, and leaves this world and these releasers; or it
-- ends the core or the run.
pub data Work : Type 0 where
  answers : ℕ → List ℕ → World → Releasers → Work
  ends : Ending → Work

abbrev pub with_visible : World → Visible → World
with_visible w v = record w { visible = v }

-- how many bytes of the public input are copied where so many are asked for
abbrev pub copied : ℕ → Visible → ℕ
copied most v = min most (length v.public_input - v.public_position)

-- the next bytes of the private input, zeros past its end
abbrev pub next_private : ℕ → World → List ℕ
next_private count w = items_at w.private_input w.visible.private_position count

-- the world behind them, whatever the input's length; the position stays at 2 ^ 64 - 1
abbrev pub after_private : ℕ → World → World
after_private count w = with_visible w (record w.visible { private_position = min (w.visible.private_position + count) (2 ^ 64 - 1) })

abbrev pub with_public_output : World → List ℕ → World
with_public_output w bytes = with_visible w (record w.visible { public_output = w.visible.public_output ++ bytes })

abbrev pub with_private_output : World → List ℕ → World
with_private_output w bytes = record w { private_output = w.private_output ++ bytes }

-- the heap of a segment
abbrev pub heap_of : Taint → World → Heap
heap_of Pub w = w.visible.public_heap
heap_of Priv w = w.visible.private_heap

abbrev pub with_heap : Taint → Heap → World → World
with_heap Pub heap w = with_visible w (record w.visible { public_heap = heap })
with_heap Priv heap w = with_visible w (record w.visible { private_heap = heap })

-- a block is taken, or 0 is answered; a block is given back, and 1 is answered, or 0
abbrev pub allocates : Taint → ℕ → World → Releasers → Work
allocates segment n w r = answers (unwrap_or (taken_at (heap_of segment w) n) 0) [] (with_heap segment (after_take (heap_of segment w) n) w) r

abbrev pub frees : Taint → ℕ → World → Releasers → Work
frees segment at w r = answers (if gives (heap_of segment w) at then 1 else 0) [] (with_heap segment (after_give (heap_of segment w) at) w) r

-- how the audit lists a release: the class and the number of bytes, each in 4 bytes, and the bytes
abbrev pub audit_entry : ℕ → ℕ → List ℕ → List ℕ
audit_entry class count bytes = word_bytes 4 class ++ (word_bytes 4 count ++ bytes)

abbrev pub with_audit : World → List ℕ → World
with_audit w entry = with_visible w (record w.visible { audit = w.visible.audit ++ entry })

-- a tape answers no more releases, or has too few bytes for one
abbrev pub answers_no_more : Tape → Bool
answers_no_more tape = unwrap_or tape.releases 1 == 0

unfoldable pub is_short : ℕ → Tape → Bool
is_short count tape = nat_lt (length tape.bytes) count || answers_no_more tape

-- a tape after a release of so many bytes
unfoldable pub advanced : ℕ → TapeState → TapeState
advanced count state = record {
  left = record { bytes = drop count state.left.bytes; releases = option_map (λ n. n - 1) state.left.releases };
  taken = state.taken + count;
  answered = state.answered + 1;
}

-- the values by class, with another one for a class
abbrev pub with_class : {A : Type 0} → ℕ → A → (ℕ → A) → ℕ → A
with_class class value values other = if other == class then value else values other

-- the releasers after a release of so many bytes from this source
abbrev pub after_release : ℕ → ℕ → List ℕ → Releasers → Releasers
after_release class count source r = record r {
  tapes = with_class class (advanced count (r.tapes class)) r.tapes;
  asked = with_class class (r.asked class ++ source) r.asked;
}

-- a release of so many source bytes to a class, whose tape answers the next of its bytes, as many
abbrev pub releases_to : ℕ → ℕ → List ℕ → World → Releasers → Work
releases_to class count source w r =
    let tape = (r.tapes class).left in
    let told = take count tape.bytes in
    if is_short count tape then ends (runs_out class)
    else answers count told (with_audit w (audit_entry class count told)) (after_release class count source r)

-- what a gate does, with the bytes of the range that it reads
unfoldable pub work : Gate → Arguments → List ℕ → World → Releasers → Work
work Exit a source w r = ends (exits (cast_signed w32 (a.first % 2 ^ 32)))
work CoreEnd a source w r = ends ends_core
work PubIn a source w r =
    let count = copied a.second w.visible in
    answers count (items_at w.visible.public_input w.visible.public_position count)
    (with_visible w (record w.visible { public_position = w.visible.public_position + count })) r
work PubOut a source w r = answers a.second [] (with_public_output w source) r
work PrivIn a source w r = answers a.second (next_private a.second w) (after_private a.second w) r
work PrivOut a source w r = answers a.second [] (with_private_output w source) r
work PrivGet a source w r = answers (little_endian (next_private 8 w)) [] (after_private 8 w) r
work PrivPut a source w r = answers 0 [] (with_private_output w (word_bytes 8 a.first)) r
work PubAlloc a source w r = allocates Pub a.first w r
work PrivAlloc a source w r = allocates Priv a.first w r
work PubFree a source w r = frees Pub a.first w r
work PrivFree a source w r = frees Priv a.first w r
work Release a source w r = releases_to a.fourth a.third source w r

-- ---- the step of a core

-- A gate step goes on with new registers, memory, world and releasers; or it ends the core or the run; or it faults. Where it
-- doesn't go on, nothing else changes.
pub data GateEffect : Type 0 where
  goes : Registers → Memory → World → Releasers → GateEffect
  stops : Ending → GateEffect
  faults : FaultKind → GateEffect

-- rdi, rsi, rdx and rcx are the registers 7, 6, 2 and 1; rsp is 4, and rax 0
abbrev pub arguments_of : Registers → Arguments
arguments_of s = record { first = slice_index s.r 7; second = slice_index s.r 6; third = slice_index s.r 2; fourth = slice_index s.r 1 }

abbrev pub rsp_of : Registers → ℕ
rsp_of s = slice_index s.r 4

-- the registers after a gate that answers: rax, rsp and the program counter are new
abbrev pub returned : ℕ → ℕ → Registers → Registers
returned answer next s = record s { r = slice_set (slice_set s.r 0 answer) 4 (sum_64 (rsp_of s) 8); pc = next }

-- what a gate's work makes of the core, which goes on at the next address
abbrev pub after_work : Work → ℕ → Option Range → Registers → Memory → GateEffect
after_work (answers answer bytes w r) next range s m = goes (returned answer next s) (written_to m range bytes) w r
after_work (ends ending) next range s m = stops ending

-- a gate does its work unless it refuses
abbrev pub unless_refused : Option FaultKind → Gate → ℕ → Registers → Memory → World → Releasers → GateEffect
unless_refused (Some kind) gate next s m w r = faults kind
unless_refused None gate next s m w r =
    let a = arguments_of s in
    after_work (work gate a (read_from m (reads gate a)) w r) next (writes gate a) s m

-- the word stands in the code, at a flat address
unfoldable pub stands_in_code : Memory → List ℕ → ℕ → Bool
stands_in_code m word at = is_code_word m at && bytes_eq (take 8 (drop (at - code_base) m.code)) word

-- the core waits at a flat address, where the gate's return word has to stand
abbrev pub from_waiting : ℕ → Gate → Registers → Memory → World → Releasers → GateEffect
from_waiting at gate s m w r =
    if stands_in_code m (return_word (result_bit gate) w.visible.prefix) at
    then unless_refused (refusal m.size gate (arguments_of s) w r) gate (at + 8) s m w r
    else faults fault.GateReturn

unfoldable pub gate_step : Gate → Registers → Memory → World → Releasers → GateEffect
gate_step gate s m w r =
    let top = rsp_of s % 2 ^ 32 in
    if is_mapped m.size top 4 then from_waiting (little_endian (take 4 (drop top m.public))) gate s m w r else faults fault.Memory
