use Rattle.std.proofs.Common.{arith, refl, ◌∙◌, sym, ap, take, add-one, length, cond, not, inl}
use Rattle.std.proofs.lemmas.List.{take_all}
use Rattle.conf_verify.specs.Rules.{call_words, last_bits, other_items}
use Rattle.conf_verify.specs.Search.{BadCall, BadEnd, BadJump, BadResult, BadReturn}
use Rattle.conf_verify.proofs.Chains.{bits_next, counted_call, counted_others, result_found, result_fine}
use Rattle.conf_verify.proofs.Firsts.{first_next, first_stays, first_all}
use Rattle.conf_verify.proofs.Procedures.{reached_next}
use Rattle.conf_verify.proofs.Quiet.{no_jump, quiet_return, quiet_call, quiet_result, quiet_words, quiet_others, quiet_bits}
use Rattle.conf_verify.proofs.first_bad.first_bad.Goals as goal

pub loop-i-init : goal.loop-i-init
loop-i-init c = record {
  end = λ j h. absurd (omega arith);
  return_word = λ j h. absurd (omega arith);
  jump = λ j h. absurd (omega arith);
  call = λ j h. absurd (omega arith);
  result = λ j h. absurd (omega arith);
  procedures = refl;
  items = refl;
  few = omega arith;
  few_items = omega arith;
  reached = record { from = omega arith; to = omega arith; goes_on = λ below. absurd (omega arith); border = inl refl };
  bits = refl;
}

pub procedure_from-procedure-requires-clause-reached : goal.procedure_from-procedure-requires-clause-reached
procedure_from-procedure-requires-clause-reached c = c.loop-i.invariant.reached

pub overflow_add-first : goal.overflow_add-first
overflow_add-first c = let few = c.loop-i.invariant.few_items in let all = c.requires.few in omega arith

pub overflow_add-first-in-loop-i : goal.overflow_add-first-in-loop-i
overflow_add-first-in-loop-i c = let one = c.one_where.ensures.most in let few = c.loop-i.invariant.few in let all = c.requires.few in omega arith

pub overflow_add-first-in-loop-i-2 : goal.overflow_add-first-in-loop-i-2
overflow_add-first-in-loop-i-2 c = let one = c.one_where-in-loop-i.ensures.most in let few = c.loop-i.invariant.few_items in let all = c.requires.few in omega arith

pub loop-i-preserved-then-is_quiet : goal.loop-i-preserved-then-is_quiet
loop-i-preserved-then-is_quiet c =
    let quiet = c.is_quiet.ensures.yes c.if-is_quiet.true in
    let few = c.loop-i.invariant.few in
    let few' = c.loop-i.invariant.few_items in
    record {
      end = first_next (BadEnd c.args.items.now) c.loop-i.i c.loop-i.first.end c.first_of-first.result c.is_bad_end.result c.loop-i.invariant.end c.first_of-first.ensures c.is_bad_end.ensures.yes c.is_bad_end.ensures.no;
      return_word = first_stays (BadReturn c.args.items.now) c.loop-i.i c.loop-i.first.return_word c.loop-i.invariant.return_word (quiet_return c.args.items.now c.loop-i.i _ quiet);
      jump = first_next (BadJump c.args.items.now) c.loop-i.i c.loop-i.first.jump c.first_of-first-then-is_quiet.result c.is_bad_jump-bad_jump.result c.loop-i.invariant.jump c.first_of-first-then-is_quiet.ensures c.is_bad_jump-bad_jump.ensures.yes c.is_bad_jump-bad_jump.ensures.no;
      call = first_stays (BadCall c.args.items.now) c.loop-i.i c.loop-i.first.call c.loop-i.invariant.call (quiet_call c.args.items.now c.loop-i.i _ quiet);
      result = first_stays (BadResult c.args.items.now) c.loop-i.i c.loop-i.first.result c.loop-i.invariant.result (quiet_result c.args.items.now c.loop-i.i _ quiet);
      procedures = quiet_words c.args.items.now c.loop-i.i c.loop-i.first.procedures _ c.loop-i-test.true c.loop-i.invariant.procedures quiet;
      items = quiet_others c.args.items.now c.loop-i.i c.loop-i.first.items _ c.loop-i-test.true c.loop-i.invariant.items quiet;
      few = omega arith;
      few_items = omega arith;
      reached = reached_next c.args.items.now c.procedure_from-procedure.result.start c.procedure_from-procedure.result.end c.loop-i.i
          c.procedure_from-procedure.ensures.procedure c.procedure_from-procedure.ensures.from c.procedure_from-procedure.ensures.to;
      bits = quiet_bits c.args.items.now c.loop-i.i _ c.loop-i.bits c.loop-i-test.true c.loop-i.invariant.bits quiet
          ∙ ap (λ n. last_bits (take n c.args.items.now)) (sym (add-one c.loop-i.i));
    }

pub loop-i-preserved : goal.loop-i-preserved
loop-i-preserved c =
    let bits = bits_next c.args.items.now c.loop-i.i _ c.loop-i.bits c.bits_from-bits.result c.loop-i-test.true c.loop-i.invariant.bits c.bits_from-bits.ensures in
    let one = c.one_where.ensures.most in
    let one' = c.one_where-in-loop-i.ensures.most in
    let few = c.loop-i.invariant.few in
    let few' = c.loop-i.invariant.few_items in
    record {
      end = first_next (BadEnd c.args.items.now) c.loop-i.i c.loop-i.first.end c.first_of-first.result c.is_bad_end.result c.loop-i.invariant.end c.first_of-first.ensures c.is_bad_end.ensures.yes c.is_bad_end.ensures.no;
      return_word = first_next (BadReturn c.args.items.now) c.loop-i.i c.loop-i.first.return_word c.first_of-first-in-loop-i.result c.is_bad_return.result c.loop-i.invariant.return_word c.first_of-first-in-loop-i.ensures c.is_bad_return.ensures.yes c.is_bad_return.ensures.no;
      jump = first_stays (BadJump c.args.items.now) c.loop-i.i c.loop-i.first.jump c.loop-i.invariant.jump (no_jump c.args.items.now c.loop-i.i _ (c.is_quiet.ensures.no c.if-is_quiet.false));
      call = first_next (BadCall c.args.items.now) c.loop-i.i c.loop-i.first.call c.first_of-first-in-loop-i-2.result c.is_bad_call.result c.loop-i.invariant.call c.first_of-first-in-loop-i-2.ensures c.is_bad_call.ensures.yes c.is_bad_call.ensures.no;
      result = first_next (BadResult c.args.items.now) c.loop-i.i c.loop-i.first.result c.first_of-first-in-loop-i-3.result c.is_bad_result.result c.loop-i.invariant.result c.first_of-first-in-loop-i-3.ensures
          (λ e. result_found c.args.items.now c.loop-i.i _ c.bits_from-bits.result c.loop-i-test.true bits (c.is_bad_result.ensures.yes e))
          (λ e. result_fine c.args.items.now c.loop-i.i _ c.bits_from-bits.result c.loop-i-test.true bits (c.is_bad_result.ensures.no e));
      procedures = counted_call c.args.items.now c.loop-i.i c.loop-i.first.procedures c.one_where.result _ c.loop-i-test.true c.loop-i.invariant.procedures
          (c.one_where.ensures.value ∙ ap (λ b. cond b 1 0) c.is_call_word.ensures);
      items = counted_others c.args.items.now c.loop-i.i c.loop-i.first.items c.one_where-in-loop-i.result _ c.loop-i-test.true c.loop-i.invariant.items
          (c.one_where-in-loop-i.ensures.value ∙ ap (λ b. cond (not b) 1 0) c.is_word.ensures);
      few = omega arith;
      few_items = omega arith;
      reached = reached_next c.args.items.now c.procedure_from-procedure.result.start c.procedure_from-procedure.result.end c.loop-i.i
          c.procedure_from-procedure.ensures.procedure c.procedure_from-procedure.ensures.from c.procedure_from-procedure.ensures.to;
      bits = bits ∙ ap (λ n. last_bits (take n c.args.items.now)) (sym (add-one c.loop-i.i));
    }

pub returns-clause-end : goal.returns-clause-end
returns-clause-end c = first_all (BadEnd c.args.items.now) c.loop-i.i (length c.args.items.now) c.loop-i.first.end (omega arith) c.loop-i.invariant.end

pub returns-clause-return_word : goal.returns-clause-return_word
returns-clause-return_word c = first_all (BadReturn c.args.items.now) c.loop-i.i (length c.args.items.now) c.loop-i.first.return_word (omega arith) c.loop-i.invariant.return_word

pub returns-clause-jump : goal.returns-clause-jump
returns-clause-jump c = first_all (BadJump c.args.items.now) c.loop-i.i (length c.args.items.now) c.loop-i.first.jump (omega arith) c.loop-i.invariant.jump

pub returns-clause-call : goal.returns-clause-call
returns-clause-call c = first_all (BadCall c.args.items.now) c.loop-i.i (length c.args.items.now) c.loop-i.first.call (omega arith) c.loop-i.invariant.call

pub returns-clause-result : goal.returns-clause-result
returns-clause-result c = first_all (BadResult c.args.items.now) c.loop-i.i (length c.args.items.now) c.loop-i.first.result (omega arith) c.loop-i.invariant.result

pub returns-clause-procedures : goal.returns-clause-procedures
returns-clause-procedures c = c.loop-i.invariant.procedures ∙ ap call_words (take_all c.loop-i.i c.args.items.now (omega arith))

pub returns-clause-items : goal.returns-clause-items
returns-clause-items c = c.loop-i.invariant.items ∙ ap other_items (take_all c.loop-i.i c.args.items.now (omega arith))
