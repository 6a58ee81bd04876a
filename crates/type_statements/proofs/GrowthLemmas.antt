-- What a block declares is behind what was known before it, and nothing else changes.
use Rattle.std.proofs.Common.{◌≡◌, ℕ, Bool, List, [], ◌∷◌, ◌++◌, length, take, fold, refl, sym, ap, ◌∙◌, rules}
use Rattle.std.proofs.lemmas.List.{append_assoc, append-nil}
use Rattle.std.proofs.Math.Seq.{take-append_seam}
use Rattle.c_ast.specs.declared.program.Specifier.{Specifier}
use Rattle.c_ast.specs.declared.program.Initialised.{Initialised}
use Rattle.c_ast.specs.declared.program.BlockItem as items
use Rattle.c_ast.specs.declared.program.BlockItem.{BlockItem}
use Rattle.c_ast.specs.declared.program.BlockItem.TheOpen.{BlockItem-F, Declare, Run}
use Rattle.name_scopes.specs.declared.scopes.Entry.{Entry}
use Rattle.type_rules.specs.declared.frames.Frame.{Frame}
use Rattle.type_rules.specs.declared.known.Known.{Known}
use Rattle.type_rules.specs.Statements.{Inside, ItemRule, StatementRule, with_scope, declare_local, item_step, item_typed}

pub record Grows (before after : Known) : Type 0 where
  pub more : List Entry
  pub is : after ≡ with_scope (before.scope ++ more) before

pub grows_nothing : (known : Known) → Grows known known
grows_nothing known = record { more = []; is = ap (λ s. with_scope s known) (sym (append-nil known.scope)) }

pub grows_on : (a b c : Known) → Grows a b → Grows b c → Grows a c
grows_on a b c first second = record {
  more = first.more ++ second.more;
  is = second.is ∙ ap (λ k. with_scope (k.scope ++ second.more) k) first.is
      ∙ ap (λ s. with_scope s a) (append_assoc a.scope first.more second.more);
}

locals_grow : (frame : Frame) (start : ℕ) (specifier : Specifier) (inside : Inside) (declarators : List Initialised)
    → Grows inside.known (fold (declare_local frame start specifier) inside declarators).known
locals_grow frame start specifier inside [] = grows_nothing inside.known
locals_grow frame start specifier inside (i ∷ rest) =
    let next : Inside = declare_local frame start specifier inside i in
    grows_on inside.known next.known _ (record { more = _; is = refl }) (locals_grow frame start specifier next rest)

layer_grows : {K B : Type 0} (layer : BlockItem-F ItemRule K B StatementRule) (frame : Frame) (in_loop : Bool) (start : ℕ) (inside : Inside)
    → Grows inside.known (item_step layer frame in_loop start inside).known
layer_grows (Declare d) frame in_loop start inside = locals_grow frame start d.specifier inside d.declarators
layer_grows (Run rule) frame in_loop start inside = grows_nothing inside.known

item_grows : (item : BlockItem) (frame : Frame) (in_loop : Bool) (start : ℕ) (inside : Inside)
    → Grows inside.known (item_typed item frame in_loop start inside).known
item_grows item frame in_loop start inside = search (rules, items.the_lemmas, layer_grows)

-- one more item
pub grows_by_item : (item : BlockItem) (frame : Frame) (in_loop : Bool) (start : ℕ) (inside : Inside) (first next : Known)
    → next ≡ (item_typed item frame in_loop start inside).known → Grows first inside.known → Grows first next
grows_by_item item frame in_loop start inside first next is before =
    rw is (grows_on first inside.known _ before (item_grows item frame in_loop start inside))

-- what is known once a block is forgotten
pub forgotten : (before after : Known) → Grows before after → with_scope (take (length before.scope) after.scope) after ≡ before
forgotten before after grows =
    ap (λ k. with_scope (take (length before.scope) k.scope) k) grows.is ∙ ap (λ s. with_scope s before) (take-append_seam before.scope grows.more)
