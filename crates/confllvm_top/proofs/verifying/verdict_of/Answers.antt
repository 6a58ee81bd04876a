use Rattle.std.proofs.Common.{rules, arith, refl}
use Rattle.std.specs.String.{string_bytes}
use Rattle.confllvm_top.proofs.verifying.verdict_of.Goals as goal

pub returns-in_ok-line-in-Ok : goal.returns-in_ok-line-in-Ok
returns-in_ok-line-in-Ok c = λ name tapes. record {
  answers = c.in-Ok.ensures.accepted;
  noninterfering = λ _ _. c.accepted_law.ensures _ (λ i. omega (arith, c.type_inv.bytes i)) c.in-Ok.ensures.accepted;
  tells = (
    string_bytes c.in_ok-line-in-Ok.line,
    record {
      checked = c.in-Ok.verified;
      image = search rules;
      counts = search rules;
      is = search rules;
    },
    refl,
  );
}
