-- The limits of a program, and the first that is passed.
use Rattle.std.specs.Prelude.{◌≡◌, ℕ, ◌+◌, ◌*◌, ◌%◌, Bool, ◌&&◌, ◌==◌, nat_lt, nat_le, List, [], ◌∷◌, Option, None, Some, map, if◌then◌else◌}
use Rattle.std.specs.Option.{option_or}
use Rattle.cv_word.specs.declared.registers.Taint.{Taint}
use Rattle.c_ast.specs.declared.typed.Typed.{Typed}
use Rattle.c_ast.specs.declared.typed.Function.{Function}
use Rattle.type_shapes.specs.declared.sizes.Extent.{Extent}
use Rattle.c_layout.specs.declared.errors.LimitKind.{LimitKind}
use Rattle.c_layout.specs.declared.errors.LimitKind.TheVariants.{Entries, Nodes, Params, Frame, Stack, Segment}
use Rattle.c_layout.specs.declared.errors.LayoutError.{LayoutError}
use Rattle.c_layout.specs.declared.errors.LayoutError.TheVariants.{NoMemory, Limit}
use Rattle.c_layout.specs.declared.limits.Passed.{Passed}
use Rattle.c_layout.specs.declared.layouts.Layout.{Layout}
use Rattle.c_layout.specs.Places.{extents_of}
use Rattle.c_layout.specs.Segments.{first_offset}
use Rattle.c_layout.specs.Counts.{nodes_in, most_values}
use Rattle.c_layout.specs.Frames.{frame_size}
use Rattle.c_layout.specs.Layouts.{layout_of, start_length}

-- the number, if it is above the limit
abbrev pub above : ℕ → ℕ → Option ℕ
above limit n = if nat_lt limit n then Some n else None

-- the first number above the limit
abbrev pub first_above : ℕ → List ℕ → Option ℕ
first_above limit [] = None
first_above limit (n ∷ ns) = if nat_lt limit n then Some n else first_above limit ns

-- the number of entries, above 8
unfoldable pub entries_limit : ℕ → Option ℕ
entries_limit entries = above 8 entries

-- the number of expression nodes and statements, above 20,000
unfoldable pub nodes_limit : List Function → Option ℕ
nodes_limit functions = above 20000 (nodes_in functions)

-- the number of parameters or arguments in the first function where it is above 4
unfoldable pub params_limit : List Function → Option ℕ
params_limit functions = first_above 4 (map most_values functions)

-- the size of the first frame of more than 16,384 bytes
unfoldable pub frame_limit : List Extent → List Function → Option ℕ
frame_limit structs functions = first_above 16384 (map (frame_size structs) functions)

-- what a segment has to hold: the bytes before the first offset, so many start bytes, and a stack for each entry
abbrev pub needed : ℕ → ℕ → ℕ → ℕ
needed length stack_size entries = first_offset + length + entries * stack_size

-- a multiple of 16 from 256 on, and the segment holds a stack of this size for each entry behind the first offset
abbrev pub is_stack_size : ℕ → ℕ → ℕ → Bool
is_stack_size seg_size stack_size entries =
    (stack_size % 16 == 0) && nat_le 256 stack_size && nat_le (needed 0 stack_size entries) seg_size

-- the size of a stack, if it may not have that
unfoldable pub stack_limit : ℕ → ℕ → ℕ → Option ℕ
stack_limit seg_size stack_size entries = if is_stack_size seg_size stack_size entries then None else Some stack_size

-- a multiple of 4096 from 65,536 to 67,108,864
abbrev pub is_segment_size : ℕ → Bool
is_segment_size seg_size = (seg_size % 4096 == 0) && nat_le 65536 seg_size && nat_le seg_size 67108864

-- what a segment would have to hold, if that is more than its size; else its size, if it may not have that
unfoldable pub segment_limit : ℕ → ℕ → ℕ → ℕ → Option ℕ
segment_limit length seg_size stack_size entries =
    option_or (above seg_size (needed length stack_size entries)) (if is_segment_size seg_size then None else Some seg_size)

-- a limit with its value, where it is passed
abbrev pub named : LimitKind → Option ℕ → Option Passed
named kind None = None
named kind (Some value) = Some (record { kind = kind; value = value })

-- the first that there is
abbrev pub first_of : List (Option Passed) → Option Passed
first_of [] = None
first_of (passed ∷ more) = option_or passed (first_of more)

-- the limits in order, for the larger segment's number of start bytes
abbrev pub first_passed : List Function → List Extent → ℕ → ℕ → ℕ → ℕ → Option Passed
first_passed functions structs length seg_size stack_size entries = first_of (
    named Entries (entries_limit entries)
    ∷ named Nodes (nodes_limit functions)
    ∷ named Params (params_limit functions)
    ∷ named Frame (frame_limit structs functions)
    ∷ named Stack (stack_limit seg_size stack_size entries)
    ∷ named Segment (segment_limit length seg_size stack_size entries)
    ∷ []
    )

-- the first limit that a program passes, if it passes one
abbrev pub passed_limit : Typed → List Taint → ℕ → ℕ → ℕ → Option Passed
passed_limit typed asg seg_size stack_size entries =
    first_passed typed.functions (extents_of typed.structs) (start_length typed asg) seg_size stack_size entries

-- this is the layout, and no limit is passed
pub record IsLayout (typed : Typed) (asg : List Taint) (seg_size stack_size entries : ℕ) (layout : Layout) : Type 0 where
  pub is : layout ≡ layout_of typed asg
  pub within : passed_limit typed asg seg_size stack_size entries ≡ None

-- the first limit that is passed, with its value; want of memory says nothing
abbrev pub IsRefusal : Typed → List Taint → ℕ → ℕ → ℕ → LayoutError → Type 0
IsRefusal typed asg seg_size stack_size entries NoMemory = Unit {0}
IsRefusal typed asg seg_size stack_size entries (Limit kind value) =
    passed_limit typed asg seg_size stack_size entries ≡ Some (record { kind = kind; value = value })
