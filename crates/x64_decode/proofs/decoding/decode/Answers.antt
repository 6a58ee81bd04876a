use Rattle.std.proofs.Common.{ℕ, length, sym, ◌∙◌, ap, arith}
use Rattle.std.specs.Option.{option_map}
use Rattle.x64_decode.specs.Spelling.{spelling}
use Rattle.x64_decode.specs.declared.instr.Instr.{Instr}
use Rattle.x64_decode.specs.Reading.{instruction_at}
use Rattle.x64_decode.proofs.Laws.{reads, not_read, seen, told, told_only}
use Rattle.x64_decode.proofs.decoding.decode.Goals as goal

pub returns-in_default-clause-exact : goal.returns-in_default-clause-exact
returns-in_default-clause-exact c =
    ap (λ o. option_map (λ (i : Instr). let r : Instr × ℕ = (i, length (spelling i)) in r) o) (sym (ap instruction_at (sym c.bytes_from-bytes.ensures) ∙ not_read _ c.in_default.ensures))

pub returns-in_default-clause-only : goal.returns-in_default-clause-only
returns-in_default-clause-only c = λ i s.
    let e = reads _ i s in let f = ap instruction_at (sym c.bytes_from-bytes.ensures) ∙ not_read _ c.in_default.ensures in absurd (cc)

pub overflow_sub-result : goal.overflow_sub-result
overflow_sub-result c =
    (seen c.args.code.now c.args.at c.bytes_from-bytes.result.now c.in-Some.i c.in-Some.rest.now (λ k. omega (arith, c.type_inv.code k)) c.bytes_from-bytes.ensures c.in-Some.ensures).left

pub overflow_cast-result : goal.overflow_cast-result
overflow_cast-result c =
    let s = seen c.args.code.now c.args.at c.bytes_from-bytes.result.now c.in-Some.i c.in-Some.rest.now (λ k. omega (arith, c.type_inv.code k)) c.bytes_from-bytes.ensures c.in-Some.ensures in
    let few = s.few in let len = s.len in omega arith

pub returns-clause-exact : goal.returns-clause-exact
returns-clause-exact c =
    told (seen c.args.code.now c.args.at c.bytes_from-bytes.result.now c.in-Some.i c.in-Some.rest.now (λ k. omega (arith, c.type_inv.code k)) c.bytes_from-bytes.ensures c.in-Some.ensures)

pub returns-clause-found : goal.returns-clause-found
returns-clause-found c =
    (seen c.args.code.now c.args.at c.bytes_from-bytes.result.now c.in-Some.i c.in-Some.rest.now (λ k. omega (arith, c.type_inv.code k)) c.bytes_from-bytes.ensures c.in-Some.ensures).spells

pub returns-clause-only : goal.returns-clause-only
returns-clause-only c =
    told_only (seen c.args.code.now c.args.at c.bytes_from-bytes.result.now c.in-Some.i c.in-Some.rest.now (λ k. omega (arith, c.type_inv.code k)) c.bytes_from-bytes.ensures c.in-Some.ensures)

pub returns-clause-inside : goal.returns-clause-inside
returns-clause-inside c =
    let s = seen c.args.code.now c.args.at c.bytes_from-bytes.result.now c.in-Some.i c.in-Some.rest.now (λ k. omega (arith, c.type_inv.code k)) c.bytes_from-bytes.ensures c.in-Some.ensures in
    let len = s.len in let some = s.some in let inside = s.inside in (omega arith, omega arith)
