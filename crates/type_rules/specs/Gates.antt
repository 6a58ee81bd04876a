-- The gates: functions that are declared outside of the file's scope.
use Rattle.std.specs.Prelude.{ℕ, List, [], ◌∷◌, Some, None, codes, position, fold}
use Rattle.std.specs.Str.{bytes_eq}
use Rattle.cv_word.specs.declared.registers.Taint.{Taint}
use Rattle.cv_word.specs.declared.registers.Taint.TheVariants.{Pub, Priv}
use Rattle.c_ast.specs.declared.qualifiers.Qual.TheVariants.{Fixed}
use Rattle.c_ast.specs.declared.qualifiers.Ty.{Ty}
use Rattle.c_ast.specs.declared.qualifiers.Ty as ty
use Rattle.name_scopes.specs.declared.scopes.Entry.{Entry}
use Rattle.name_scopes.specs.declared.scopes.Meaning.TheVariants.{Gate}
use Rattle.name_scopes.specs.Scopes.{declare}

abbrev pub int : Ty
int = ty.Int 4 (Fixed Pub)

abbrev pub long_of : Taint → Ty
long_of taint = ty.Int 8 (Fixed taint)

-- a public pointer to characters
abbrev pub chars : Taint → Ty
chars taint = ty.Ptr (ty.Int 1 (Fixed taint)) (Fixed Pub)

-- a gate's number, name and type
pub record Prototype : Type 0 where
  pub number : ℕ
  pub name : List ℕ
  pub ty : Ty

abbrev pub prototype : ℕ → List ℕ → Ty → List Ty → Prototype
prototype number name ret params = record { number = number; name = name; ty = ty.Fun ret params }

-- a buffer of characters and its length
abbrev pub buffer : Taint → List Ty
buffer taint = chars taint ∷ long_of Pub ∷ []

-- how a program and a core end
abbrev pub endings : List Prototype
endings = prototype 0 (codes "exit") ty.Void (int ∷ []) ∷ prototype 1 (codes "core_end") ty.Void [] ∷ []

-- input and output of bytes
abbrev pub public_buffers : List Prototype
public_buffers = prototype 2 (codes "pub_in") (long_of Pub) (buffer Pub) ∷ prototype 3 (codes "pub_out") (long_of Pub) (buffer Pub) ∷ []

abbrev pub private_buffers : List Prototype
private_buffers = prototype 4 (codes "priv_in") (long_of Pub) (buffer Priv) ∷ prototype 5 (codes "priv_out") (long_of Pub) (buffer Priv) ∷ []

-- input and output of one private word
abbrev pub words : List Prototype
words = prototype 6 (codes "priv_get") (long_of Priv) [] ∷ prototype 7 (codes "priv_put") ty.Void (long_of Priv ∷ []) ∷ []

-- blocks of the two heaps
abbrev pub allocations : List Prototype
allocations = prototype 8 (codes "pub_alloc") (chars Pub) (long_of Pub ∷ []) ∷ prototype 9 (codes "priv_alloc") (chars Priv) (long_of Pub ∷ []) ∷ []

abbrev pub frees : List Prototype
frees = prototype 10 (codes "pub_free") (long_of Pub) (chars Pub ∷ []) ∷ prototype 11 (codes "priv_free") (long_of Pub) (chars Priv ∷ []) ∷ []

-- private bytes, where they go, how many, and the class of the release
abbrev pub releases : List Prototype
releases = prototype 12 (codes "release") (long_of Pub) (chars Priv ∷ chars Pub ∷ long_of Pub ∷ long_of Pub ∷ []) ∷ []

-- a gate whose name stands in the program's list of names
abbrev pub with_gate : List (List ℕ) → List Entry → Prototype → List Entry
with_gate names scope p = elim (position (λ name. bytes_eq name p.name) names) [
  | None ↦ scope
  | Some name ↦ declare scope name (Gate p.number) (Some p.ty)
]

abbrev pub with_gates : List (List ℕ) → List Prototype → List Entry → List Entry
with_gates names gates scope = fold (with_gate names) scope gates

abbrev pub gates_in : List (List ℕ) → List Entry
gates_in names =
    with_gates names releases (with_gates names frees (with_gates names allocations (with_gates names words
    (with_gates names private_buffers (with_gates names public_buffers (with_gates names endings []))))))
