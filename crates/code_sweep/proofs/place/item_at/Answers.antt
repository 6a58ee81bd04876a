use Rattle.std.proofs.Common.{rules, length, sym, arith, ◌∙◌, ap, subst, refl}
use Rattle.code_sweep.proofs.Begun.{word_stands, word_length, word_fits, at_return, return_item_length, return_fits, at_call, call_item_length, call_fits, at_nothing, at_other, at_plain, plain_length}
use Rattle.code_sweep.specs.declared.item.Item.{Item}
use Rattle.code_sweep.specs.Listing.{StandsAt, item_bytes}
use Rattle.code_sweep.proofs.place.item_at.Goals as goal

pub returns-in-Some-clause-found : goal.returns-in-Some-clause-found
returns-in-Some-clause-found c =
    let P : Item → Type 0 = λ item. StandsAt c.args.prefix c.args.code.now c.args.at item in
    subst P (sym c.word_item.ensures) (word_stands c.args.prefix c.args.code.now c.args.at c.in-Some.word (search rules) c.if-at-code.false c.in-Some.ensures.found)

pub returns-in-Some-clause-len : goal.returns-in-Some-clause-len
returns-in-Some-clause-len c =
    word_length c.args.prefix c.in-Some.word (search rules) ∙ ap (λ (item : Item). length (item_bytes c.args.prefix item)) (sym c.word_item.ensures)

pub returns-in-Some-clause-inside : goal.returns-in-Some-clause-inside
returns-in-Some-clause-inside c =
    (omega arith, word_fits c.args.prefix c.args.code.now c.args.at c.in-Some.word (search rules) c.if-at-code.false c.in-Some.ensures.found)

pub returns-in-Some-return_unit_bit-clause-found : goal.returns-in-Some-return_unit_bit-clause-found
returns-in-Some-return_unit_bit-clause-found c =
    at_return c.args.prefix c.args.code.now c.bytes_from-bytes.result.now c.args.at c.in-Some-return_unit_bit.bit c.bytes_from-bytes.ensures (search rules)
    c.if-at-code.false c.in_default.ensures.none c.in-Some-return_unit_bit.ensures.found

pub returns-in-Some-return_unit_bit-clause-len : goal.returns-in-Some-return_unit_bit-clause-len
returns-in-Some-return_unit_bit-clause-len c = return_item_length c.args.prefix c.in-Some-return_unit_bit.bit (search rules)

pub returns-in-Some-return_unit_bit-clause-inside : goal.returns-in-Some-return_unit_bit-clause-inside
returns-in-Some-return_unit_bit-clause-inside c = (
  omega arith,
  return_fits c.args.prefix c.args.code.now c.bytes_from-bytes.result.now c.args.at c.in-Some-return_unit_bit.bit c.bytes_from-bytes.ensures (search rules)
      c.if-at-code.false c.in-Some-return_unit_bit.ensures.found,
)

pub returns-in-Some-call_unit_parts-clause-found : goal.returns-in-Some-call_unit_parts-clause-found
returns-in-Some-call_unit_parts-clause-found c =
    at_call c.args.prefix c.args.code.now c.bytes_from-bytes.result.now c.args.at c.in-Some-call_unit_parts.r c.in-Some-call_unit_parts.bits
    c.bytes_from-bytes.ensures (search rules) c.if-at-code.false c.in_default.ensures.none c.in_default-return_unit_bit.ensures.none
    c.in-Some-call_unit_parts.ensures.found

pub returns-in-Some-call_unit_parts-clause-len : goal.returns-in-Some-call_unit_parts-clause-len
returns-in-Some-call_unit_parts-clause-len c = call_item_length c.args.prefix c.in-Some-call_unit_parts.r c.in-Some-call_unit_parts.bits (search rules)

pub returns-in-Some-call_unit_parts-clause-inside : goal.returns-in-Some-call_unit_parts-clause-inside
returns-in-Some-call_unit_parts-clause-inside c = (
  omega arith,
  call_fits c.args.prefix c.args.code.now c.bytes_from-bytes.result.now c.args.at c.in-Some-call_unit_parts.r c.in-Some-call_unit_parts.bits
      c.bytes_from-bytes.ensures (search rules) c.if-at-code.false c.in-Some-call_unit_parts.ensures.found,
)

pub returns-in_default-decode-clause-none : goal.returns-in_default-decode-clause-none
returns-in_default-decode-clause-none c =
    at_nothing c.args.prefix c.args.code.now c.bytes_from-bytes.result.now c.args.at c.bytes_from-bytes.ensures (search rules) c.in_default.ensures.none
    c.in_default-return_unit_bit.ensures.none c.in_default-call_unit_parts.ensures.none c.in_default-decode.ensures.exact

pub returns-then-stands_alone-clause-found : goal.returns-then-stands_alone-clause-found
returns-then-stands_alone-clause-found c =
    at_plain c.args.prefix c.args.code.now c.bytes_from-bytes.result.now c.args.at c.in-Some-decode.i c.in-Some-decode.len c.bytes_from-bytes.ensures
    (search rules) c.if-at-code.false c.in_default.ensures.none c.in_default-return_unit_bit.ensures.none c.in_default-call_unit_parts.ensures.none
    c.in-Some-decode.ensures.exact (c.if-stands_alone.ensures.yes refl)

pub returns-then-stands_alone-clause-len : goal.returns-then-stands_alone-clause-len
returns-then-stands_alone-clause-len c = plain_length c.args.prefix c.args.code.now c.args.at c.in-Some-decode.i c.in-Some-decode.len c.in-Some-decode.ensures.exact

pub returns-else-stands_alone-clause-none : goal.returns-else-stands_alone-clause-none
returns-else-stands_alone-clause-none c =
    at_other c.args.prefix c.args.code.now c.bytes_from-bytes.result.now c.args.at c.in-Some-decode.i c.in-Some-decode.len c.bytes_from-bytes.ensures
    (search rules) c.in_default.ensures.none c.in_default-return_unit_bit.ensures.none c.in_default-call_unit_parts.ensures.none
    c.in-Some-decode.ensures.exact (c.if-stands_alone.ensures.no refl)
