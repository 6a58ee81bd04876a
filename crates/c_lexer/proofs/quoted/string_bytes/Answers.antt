use Rattle.std.proofs.Common.{◌+◌, List, ℕ, [], ◌∷◌, ◌++◌, Some, None, ◌≡◌, Option, get_or, is_ok, sym, ap, subst, arith, ◌∙◌, false, ◌==◌}
use Rattle.std.proofs.ResultArms.{chosen}
use Rattle.std.proofs.lemmas.Bool.Decides.{nat_tests}
use Rattle.c_lexer.specs.Spelling.{escaped}
use Rattle.c_lexer.proofs.StringLemmas.{IsDecoded, decoded_first, decoded_all, plain_turn, EscapeTurn, escape_turn}
use Rattle.c_lexer.proofs.quoted.string_bytes.Goals as goal

-- what the escape means is what was found
escape_found : (text : List ℕ) (place : ℕ) (done : List ℕ) (meant : ℕ) → EscapeTurn text place done
    → Some meant ≡ escaped (get_or text (place + 1) 0) → IsDecoded text (place + 2) (done ++ meant ∷ [])
escape_found text place done meant t e =
    let same : Some t.meant ≡ Some meant = sym t.is_meant ∙ sym e in
    let equal : t.meant ≡ meant = cc in
    subst (λ b. IsDecoded text (place + 2) (done ++ b ∷ [])) equal t.next

none_found : (text : List ℕ) (place : ℕ) (done : List ℕ) → EscapeTurn text place done
    → ◌≡◌ {A = Option ℕ} None (escaped (get_or text (place + 1) 0)) → ⊥
none_found text place done t e = let same : Some t.meant ≡ None = sym t.is_meant ∙ sym e in cc

pub loop-place-init : goal.loop-place-init
loop-place-init c =
    subst (λ (bytes : List ℕ). IsDecoded c.args.text.now 1 bytes) (sym c.new-bytes.ensures.items) (decoded_first c.args.text.now c.requires.0 c.requires.1)

pub unreachable-requires : goal.unreachable-requires
unreachable-requires c =
    none_found c.args.text.now c.loop-place.place c.loop-place.bytes.items
    (escape_turn c.args.text.now c.loop-place.place c.loop-place.bytes.items c.loop-place.invariant c.loop-place-test.true c.if-b-eq92.true)
    (sym c.in-None.is ∙ c.escaped.ensures ∙ ap escaped c.byte_at.ensures)

pub loop-place-preserved-then-b-eq92 : goal.loop-place-preserved-then-b-eq92
loop-place-preserved-then-b-eq92 c =
    let pushed = chosen _ _ _ _ c.push.ensures.items (ap is_ok c.in_ok-push-in-Some.was) in
    subst (λ (bytes : List ℕ). IsDecoded c.args.text.now (c.loop-place.place + 2) bytes) (sym pushed)
    (escape_found c.args.text.now c.loop-place.place c.loop-place.bytes.items c.in-Some.meant
    (escape_turn c.args.text.now c.loop-place.place c.loop-place.bytes.items c.loop-place.invariant c.loop-place-test.true c.if-b-eq92.true)
    (sym c.in-Some.is ∙ c.escaped.ensures ∙ ap escaped c.byte_at.ensures))

pub loop-place-preserved : goal.loop-place-preserved
loop-place-preserved c =
    let pushed = chosen _ _ _ _ c.push-else-b-eq92.ensures.items (ap is_ok c.in_ok-push.was) in
    let other : (get_or c.args.text.now c.loop-place.place 0 == 92) ≡ false = grind (nat_tests, arith) in
    subst (λ (bytes : List ℕ). IsDecoded c.args.text.now (c.loop-place.place + 1) bytes) (sym pushed)
    (plain_turn c.args.text.now c.loop-place.place c.loop-place.bytes.items c.loop-place.invariant c.loop-place-test.true other)

pub returns : goal.returns
returns c = decoded_all c.args.text.now c.loop-place.bytes.items c.loop-place.place c.loop-place.invariant c.loop-place-test.false
