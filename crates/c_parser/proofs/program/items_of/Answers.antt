use Rattle.std.proofs.Common.{[], ◌∷◌, true, false, drop, refl, sym, subst, ◌∙◌, arith, lit<}
use Rattle.c_parser.specs.declared.spot.TheConstants.{NESTING}
use Rattle.c_parser.specs.declared.errors.ParseError.{ParseError}
use Rattle.c_grammar.specs.Grammar as form
use Rattle.c_grammar.specs.Grammar.{N}
use Rattle.c_parser.specs.Programs.{IsFault}
use Rattle.c_parser.proofs.Chains.{by_rule, made, read, stays, stops_at, moved_then}
use Rattle.c_parser.proofs.ProgramLemmas.{tops_number, program_begins, whole_program, breaks_program, no_end}
use Rattle.c_parser.proofs.program.items_of.Goals as goal

pub loop-alloc-init : goal.loop-alloc-init
loop-alloc-init c = record {
  path = rw c.new-items.ensures (program_begins c.args.words.now);
  moves = stays (omega arith) (omega arith);
  none_ended = refl;
}

pub returns-in_err-item-clause-refused : goal.returns-in_err-item-clause-refused
returns-in_err-item-clause-refused c =
    let p = by_rule form.Tops 0 (tops_number (drop c.loop-alloc.here.at c.args.words.now) true (sym c.begins_type.ensures ∙ c.loop-alloc-test.true)) (lit< tt) c.loop-alloc.invariant.path in
    breaks_program c.args.words.now c.from_residual.result c.in_err-item.field-0.0 c.from_residual.ensures.1
    (stops_at (N form.Top ∷ []) _ c.in_err-item.field-0.0 p c.in_err-item.ensures.refused)

pub loop-alloc-preserved : goal.loop-alloc-preserved
loop-alloc-preserved c =
    let p = by_rule form.Tops 0 (tops_number (drop c.loop-alloc.here.at c.args.words.now) true (sym c.begins_type.ensures ∙ c.loop-alloc-test.true)) (lit< tt) c.loop-alloc.invariant.path in
    record {
      path = rw c.in_ok-push.ensures.ok (made (λ built. refl) (read c.in_ok-item.ensures.read.leads p));
      moves = moved_then c.loop-alloc.invariant.moves c.in_ok-item.ensures.read.moves;
      none_ended = c.in_ok-item.ensures.none_ended;
    }

pub returns-then-here-words-clause-refused : goal.returns-then-here-words-clause-refused
returns-then-here-words-clause-refused c =
    let p = by_rule form.Tops 1 (tops_number (drop c.loop-alloc.here.at c.args.words.now) false (sym c.begins_type.ensures ∙ c.loop-alloc-test.false)) (lit< tt) c.loop-alloc.invariant.path in
    subst (λ (e : ParseError). IsFault NESTING c.args.words.now e) (sym c.fault.ensures) (no_end c.args.words.now c.loop-alloc.here c.loop-alloc.items c.if-here-words.true p)

pub returns-clause-read : goal.returns-clause-read
returns-clause-read c =
    let p = by_rule form.Tops 1 (tops_number (drop c.loop-alloc.here.at c.args.words.now) false (sym c.begins_type.ensures ∙ c.loop-alloc-test.false)) (lit< tt) c.loop-alloc.invariant.path in
    whole_program c.args.words.now c.loop-alloc.here c.loop-alloc.items c.if-here-words.false p
