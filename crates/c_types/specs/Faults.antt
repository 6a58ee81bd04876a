-- The fault that is told, as faults are looked at one after the other.
use Rattle.std.specs.Prelude.{◌≡◌, Bool, ◌&&◌, ◌||◌, ◌==◌, nat_lt, List, [], Option, Some, None}
use Rattle.type_rules.specs.declared.rules.Fault.{Fault}
use Rattle.type_rules.specs.Programs.{IsLeast}

-- at a lesser place, or by a lower rule there
abbrev pub is_before : Fault → Fault → Bool
is_before a b = nat_lt a.place b.place || (a.place == b.place && nat_lt a.rule b.rule)

-- none of no faults, or the least of some
abbrev pub IsFound : Option Fault → List Fault → Type 0
IsFound None faults = faults ≡ []
IsFound (Some f) faults = IsLeast faults f.rule f.place
