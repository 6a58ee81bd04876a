-- A reading: `int x;` is a program, and what it builds.
use Rattle.std.proofs.Common.{lit<, ℕ, List, [], ◌∷◌, None, false, refl}
use Rattle.c_ast.specs.declared.program.Base.TheVariants as base
use Rattle.c_ast.specs.declared.program.Shape.TheVariants as shape
use Rattle.c_ast.specs.declared.program.Item.{Item}
use Rattle.c_ast.specs.declared.program.Item.TheVariants as item
use Rattle.c_grammar.specs.declared.words.Word.{Word}
use Rattle.c_grammar.specs.declared.words.Terminal.{Terminal}
use Rattle.c_grammar.specs.declared.words.Terminal.TheVariants.{Int, Name, Semicolon}
use Rattle.c_grammar.specs.Grammar.{Program, rules}
use Rattle.c_grammar.specs.Grammar as form
use Rattle.c_grammar.specs.Reading.{Nested, nested, done, token, leaf, here, mark, step, IsReading}
use Rattle.c_grammar.proofs.Runs.{by_way}

abbrev word : Terminal → ℕ → Word
word t place = record { terminal = t; place = place; value = 0 }

abbrev words : List Word
words = word Int 0 ∷ word Name 4 ∷ word Semicolon 5 ∷ []

abbrev way : List Nested
way = nested (word Int 0) 0 ∷ nested (word Name 4) 0 ∷ nested (word Semicolon 5) 0 ∷ []

abbrev items : List Item
items = item.Object (record {
  specifier = record { place = 0; is_private = false; base = base.Int };
  declarators = record { declarator = record { name = 0; place = 4; stars = []; shape = shape.Plain }; start = None } ∷ [];
}) ∷ []

int_x : IsReading words items way
int_x = (
  refl,
  by_way rules Program 0 (lit< tt) _ _ _ _ (step _ _ _ _ _
      (by_way rules form.Tops 0 (lit< tt) _ _ _ _ (by_way rules form.Top 1 (lit< tt) _ _ _ _ (by_way rules form.Declaration 0 (lit< tt) _ _ _ _
      (by_way rules form.Specifier 0 (lit< tt) _ _ _ _ (here _ _ _ _ _ (by_way rules form.PerhapsPrivate 1 (lit< tt) _ _ _ _ (step _ _ _ _ _
      (by_way rules form.BaseType 1 (lit< tt) _ _ _ _ (token _ Int (word Int 0) _ _ _ refl (step _ _ _ _ _
      (by_way rules form.PerhapsPrivate 1 (lit< tt) _ _ _ _ (step _ _ _ _ _ (step _ _ _ _ _
      (by_way rules form.Object 0 (lit< tt) _ _ _ _ (by_way rules form.Declarator 0 (lit< tt) _ _ _ _
      (by_way rules form.Pointer 0 (lit< tt) _ _ _ _ (step _ _ _ _ _ (by_way rules form.MoreStars 1 (lit< tt) _ _ _ _ (mark _ _ _ _ _
      (leaf _ Name (word Name 4) _ _ _ refl (by_way rules form.PerhapsLength 1 (lit< tt) _ _ _ _ (step _ _ _ _ _ (step _ _ _ _ _
      (by_way rules form.PerhapsStart 1 (lit< tt) _ _ _ _ (step _ _ _ _ _ (step _ _ _ _ _ (step _ _ _ _ _
      (by_way rules form.MoreObjects 1 (lit< tt) _ _ _ _ (token _ Semicolon (word Semicolon 5) _ _ _ refl (step _ _ _ _ _ (step _ _ _ _ _
      (step _ _ _ _ _ (by_way rules form.Tops 1 (lit< tt) _ _ _ _ (done _))))))))))))))))))))))))))))))))))),
)
