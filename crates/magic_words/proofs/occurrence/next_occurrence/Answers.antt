use Rattle.std.proofs.Common.{arith, subst, List, ℕ, Some, None}
use Rattle.memchr.specs.Find.{FindsNeedle}
use Rattle.magic_words.proofs.Places.{found_behind}
use Rattle.magic_words.proofs.occurrence.next_occurrence.Goals as goal

pub returns-in-Some : goal.returns-in-Some
returns-in-Some c =
    found_behind c.args.prefix.now c.args.code.now c.args.from (Some c.in-Some.skipped) (omega (arith, c.told-prefix)) c.requires
    (let P : List ℕ → Type 0 = λ l. FindsNeedle l c.args.prefix.now 0 (Some c.in-Some.skipped) in subst P c.bytes_from-rest.ensures c.in-Some.ensures)

pub returns-in-None : goal.returns-in-None
returns-in-None c =
    found_behind c.args.prefix.now c.args.code.now c.args.from None (omega (arith, c.told-prefix)) c.requires
    (let P : List ℕ → Type 0 = λ l. FindsNeedle l c.args.prefix.now 0 None in subst P c.bytes_from-rest.ensures c.in-None.ensures)
