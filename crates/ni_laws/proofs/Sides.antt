-- The two sides of two configurations, and two configurations again with other parts.
use Rattle.std.proofs.Common.{◌≡◌, ℕ, List, length, sym, ◌∙◌, subst}
use Rattle.cv_word.specs.Words.{AreBytes}
use Rattle.cv_word.specs.GateStep.{Visible, World, Releasers}
use Rattle.cv_word.specs.Memory.{Memory}
use Rattle.ni_laws.specs.Agreement.{LabelledCode, CoresAlike, Apart, Two, memory_of, world_of, releasers_of, TwoAlike}

abbrev pub my_memory : List ℕ → Two → Memory
my_memory code two = memory_of code two.common two.mine

abbrev pub your_memory : List ℕ → Two → Memory
your_memory code two = memory_of code two.common two.yours

abbrev pub my_world : Two → World
my_world two = world_of two.common two.mine

abbrev pub your_world : Two → World
your_world two = world_of two.common two.yours

abbrev pub my_releasers : Two → Releasers
my_releasers two = releasers_of two.common two.mine

abbrev pub your_releasers : Two → Releasers
your_releasers two = releasers_of two.common two.yours

-- two configurations with something else to be seen of the gates' world
abbrev pub seeing : Visible → Two → Two
seeing v two = record two { common = record two.common { visible = v } }

-- .. two that are alike still are, where the prefix and the public input stay
pub seen : (code : LabelledCode) (size : ℕ) (two : Two) (v : Visible) → TwoAlike code size two →
    v.prefix ≡ two.common.visible.prefix → v.public_input ≡ two.common.visible.public_input → TwoAlike code size (seeing v two)
seen code size two v known p i = record {
  size_is = known.size_is;
  cores = known.cores;
  public = known.public;
  prefix_is = p ∙ known.prefix_is;
  input = subst (λ (l : List ℕ). AreBytes l) (sym i) known.input;
  tapes = known.tapes;
  outputs = known.outputs;
}

-- two configurations with something else for each
abbrev pub apart : Apart → Apart → Two → Two
apart mine yours two = record two { mine = mine; yours = yours }

-- .. two that are alike still are, where the cores are alike and the private outputs are of one length
pub set_apart : (code : LabelledCode) (size : ℕ) (two : Two) (mine yours : Apart) → TwoAlike code size two →
    CoresAlike code mine.cores yours.cores → length mine.output ≡ length yours.output → TwoAlike code size (apart mine yours two)
set_apart code size two mine yours known cores outputs = record {
  size_is = known.size_is;
  cores = cores;
  public = known.public;
  prefix_is = known.prefix_is;
  input = known.input;
  tapes = known.tapes;
  outputs = outputs;
}
