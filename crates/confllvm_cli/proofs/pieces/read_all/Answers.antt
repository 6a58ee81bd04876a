use Rattle.std.proofs.Common.{arith, ◌≡◌, ◌∙◌, subst, ap, ℕ, ◌<◌, ◌++◌, List, [], length, take, Option, None, Some, inl, inr}
use Rattle.std.specs.Prelude.{IfSome}
use Rattle.std.specs.Option.{option_map}
use Rattle.std.proofs.lemmas.Bool.{cases_lt}
use Rattle.std.proofs.lemmas.List.{length-take-le, take_all}
use Rattle.confllvm_cli.proofs.pieces.read_all.Goals as goal

-- fewer bytes than the limit are all that there were
all_taken : (known : Option (List ℕ)) (limit : ℕ) (bytes before : List ℕ) → before ≡ [] → length bytes < limit →
    IfSome (option_map (take limit) known) (λ xs. bytes ≡ before ++ xs) → IfSome known (λ given. bytes ≡ given)
all_taken None limit bytes before none short h = h
all_taken (Some given) limit bytes before none short h =
    let front : bytes ≡ take limit given = h ∙ ap (λ (xs : List ℕ). xs ++ take limit given) none in
    elim (cases_lt (length given) limit) [
      | inl less ↦ front ∙ take_all limit given (omega (arith, less))
      | inr more ↦
          let long = ap length front in
          let full = length-take-le limit given more in
          absurd (omega (arith, short, long, full))
    ]

pub returns-in-Ok-clause-all : goal.returns-in-Ok-clause-all
returns-in-Ok-clause-all g c =
    let len = c.len.ensures in
    let few = c.if-len-le-LONGEST_LOAD.true in
    let limit = c.take.ensures.limit in
    let ok = c.read_to_end.new.buf.ok in
    subst (λ reader. IfSome (g.R.Read.remaining reader) (λ given. c.read_to_end.new.buf.items ≡ given)) c.take.ensures.inner
    (all_taken (g.R.Read.remaining c.take.result.inner) c.take.result.limit c.read_to_end.new.buf.items c.in_ok-bytes.bytes.items
    c.in_ok-bytes.ensures.items (omega (arith, len, few, limit, ok)) c.in-Ok.ensures.bytes)
