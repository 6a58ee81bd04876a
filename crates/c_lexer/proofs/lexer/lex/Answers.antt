use Rattle.std.proofs.Common.{◌+◌, [], ◌∷◌, ◌++◌, List, drop, is_ok, sym, ap, subst, arith}
use Rattle.std.proofs.ResultArms.{chosen}
use Rattle.c_lexer.specs.declared.tokens.Token.{Token}
use Rattle.c_lexer.specs.Tokens.{Reads, nothing}
use Rattle.c_lexer.proofs.ReadsLemmas.{ReadsOn, token_from, blank_turn, token_turn, stops}
use Rattle.c_lexer.proofs.lexer.lex.Goals as goal
use Rattle.c_lexer.proofs.lexer.lex.Goals.{In-Blank, In-Lexeme}

pub loop-place-init : goal.loop-place-init
loop-place-init c = record {
  in_range = omega arith;
  reads = subst (λ (ts : List Token). Reads 0 c.args.source.now ts 0 c.args.source.now) (sym c.new-tokens.ensures.items) (nothing 0 c.args.source.now);
}

-- over a space or a comment
blank : (c : In-Blank) → ReadsOn c.args.source.now c.loop-place.place c.in-Blank.length c.loop-place.tokens.items
blank c = blank_turn c.args.source.now c.loop-place.place c.in-Blank.length c.loop-place.tokens.items c.loop-place.invariant.in_range c.loop-place.invariant.reads c.in-Blank.ensures

-- over a token
token : (c : In-Lexeme) → ReadsOn c.args.source.now c.loop-place.place c.in-Lexeme.length (c.loop-place.tokens.items ++ token_from c.in-Lexeme.kind c.loop-place.place (c.loop-place.place + c.in-Lexeme.length) ∷ [])
token c = token_turn c.args.source.now c.loop-place.place c.in-Lexeme.length c.in-Lexeme.kind c.loop-place.tokens.items c.loop-place.invariant.in_range c.loop-place.invariant.reads c.in-Lexeme.ensures

pub overflow_add-place : goal.overflow_add-place
overflow_add-place c = let t = blank (goal.at.overflow_add-place c).In-Blank in omega arith

pub loop-place-smaller-in-Blank : goal.loop-place-smaller-in-Blank
loop-place-smaller-in-Blank c = let t = blank (goal.at.loop-place-smaller-in-Blank c).In-Blank in omega arith

pub loop-place-preserved-in-Blank : goal.loop-place-preserved-in-Blank
loop-place-preserved-in-Blank c =
    let t = blank (goal.at.loop-place-preserved-in-Blank c).In-Blank in
    record { in_range = t.within; reads = t.reads }

pub overflow_add-end : goal.overflow_add-end
overflow_add-end c = let t = token (goal.at.overflow_add-end c).In-Lexeme in omega arith

pub overflow_cast-end : goal.overflow_cast-end
overflow_cast-end c = let t = token (goal.at.overflow_cast-end c).In-Lexeme in omega arith

pub loop-place-smaller : goal.loop-place-smaller
loop-place-smaller c = let t = token (goal.at.loop-place-smaller c).In-Lexeme in omega arith

pub loop-place-preserved : goal.loop-place-preserved
loop-place-preserved c =
    let t = token (goal.at.loop-place-preserved c).In-Lexeme in
    let end = c.loop-place.place + c.in-Lexeme.length in
    let pushed = chosen _ _ _ _ c.push.ensures.items (ap is_ok c.in_ok-push-in-Lexeme.was) in
    record {
      in_range = t.within;
      reads = subst (λ (ts : List Token). Reads 0 c.args.source.now ts end (drop end c.args.source.now)) (sym pushed) t.reads;
    }

pub returns-in-Unknown-clause-fault : goal.returns-in-Unknown-clause-fault
returns-in-Unknown-clause-fault c =
    stops c.args.source.now c.loop-place.place c.loop-place.tokens.items (omega arith) c.loop-place.invariant.reads c.in-Unknown.ensures
