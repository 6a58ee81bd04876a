-- The whole of the words.
use Rattle.std.proofs.Common.{◌≡◌, ℕ, ◌+◌, ◌-◌, ◌<◌, ◌≤◌, arith, Bool, true, false, cond, ◌||◌, List, [], ◌∷◌, length, get_or, drop, refl, sym, ap, subst, ◌∙◌, lit<}
use Rattle.std.specs.Prelude.{Result, IfErr, IsErrAnd}
use Rattle.std.proofs.lemmas.Bool.{both_ways}
use Rattle.std.proofs.lemmas.List.{drop_more, drop_all, length-drop}
use Rattle.c_ast.specs.declared.program.Item.{Item}
use Rattle.c_grammar.specs.declared.words.Word.{Word}
use Rattle.c_parser.specs.declared.spot.Spot.{Spot}
use Rattle.c_parser.specs.declared.spot.TheConstants.{NESTING}
use Rattle.c_parser.specs.declared.errors.ParseError.{ParseError}
use Rattle.c_parser.specs.declared.errors.ParseError.TheVariants.{NoMemory, SyntaxFault, DepthFault}
use Rattle.c_grammar.specs.Steps.{Items}
use Rattle.c_grammar.specs.Grammar as form
use Rattle.c_grammar.specs.Grammar.{N, B}
use Rattle.c_grammar.specs.Ways.{can_begin, way_number}
use Rattle.c_grammar.specs.Reading.{start, Nested, IsReading, IsWithin}
use Rattle.c_grammar.specs.Descent.{Accepts, Faults, Deep, Descent, accepts, left_over}
use Rattle.c_parser.specs.Paths.{state_at, Path, Breaks}
use Rattle.c_parser.specs.Parts.{first_spot, IsProgramOf}
use Rattle.c_parser.specs.Programs.{IsFault}
use Rattle.c_grammar.specs.Faults.{IsSyntaxFault, IsDepthFault}
use Rattle.c_grammar.proofs.Descents.{program_reads}
use Rattle.c_grammar.proofs.FaultLemmas.{syntax_fault, depth_fault}
use Rattle.c_parser.proofs.PathLemmas.{no_word, err_out}
use Rattle.c_parser.proofs.Chains.{by_rule, made, starts}

zero_either : (b : Bool) (n : ℕ) → n ≡ cond b 0 0 → n ≡ 0
zero_either true n e = e
zero_either false n e = e

program_number : (ws : List Word) → way_number form.Program ws ≡ 0
program_number [] = refl
program_number (w ∷ ws) = zero_either _ _ refl

or_none : (b : Bool) → (b || false) ≡ b
or_none true = refl
or_none false = refl

pub tops_number : (ws : List Word) (b : Bool) → can_begin form.TypeName ws ≡ b → way_number form.Tops ws ≡ cond b 0 1
tops_number [] true h = absurd (both_ways _ refl h)
tops_number [] false h = refl
tops_number (w ∷ ws) b h = ap (λ c. cond c 0 1) (or_none _ ∙ h)

pub program_begins : (words : List Word) → Path NESTING words first_spot (N form.Program ∷ []) first_spot (N form.Tops ∷ []) (Items [] ∷ [])
program_begins words = made (λ built. refl) (by_rule form.Program 0 (program_number (drop 0 words)) (lit< tt) (starts words first_spot (N form.Program ∷ [])))

-- all words are read
pub whole_program : (words : List Word) (here : Spot) (items : List Item) → length words ≤ here.at → Path NESTING words first_spot (N form.Program ∷ []) here [] (Items items ∷ [])
    → IsProgramOf NESTING words items
whole_program words here items past p =
    let d : Descent NESTING (state_at here (Items items ∷ [])) [] (drop here.at words) (Accepts (Items items ∷ [])) =
    subst (λ (ws : List Word). Descent NESTING (state_at here (Items items ∷ [])) [] ws (Accepts (Items items ∷ []))) (sym (drop_all here.at words past)) (accepts (state_at here (Items items ∷ []))) in
    let r = program_reads NESTING words items (p.path [] [] (Accepts (Items items ∷ [])) d) in
    record { way = r.way; reading = r.reading; within = r.within }

-- where the descent stops the words have their fault
fault_at : (words : List Word) (e : ParseError) → Breaks NESTING words first_spot (N form.Program ∷ []) e → IsFault NESTING words e
fault_at words NoMemory q = tt
fault_at words (SyntaxFault t) q =
    let same : length words - (length words - t) ≡ t = omega (arith, q.0) in
    subst (IsSyntaxFault NESTING words) same (syntax_fault NESTING words (length words - t) (q.1.stops [] []))
fault_at words (DepthFault t) q =
    let same : length words - (length words - t) ≡ t = omega (arith, q.0) in
    subst (IsDepthFault NESTING words) same (depth_fault NESTING words (length words - t) (q.1.stops [] []))

pub breaks_program : {A : Type 0} (words : List Word) (r : Result A ParseError) (e : ParseError) → IsErrAnd r (λ y. y ≡ e) → Breaks NESTING words first_spot (N form.Program ∷ []) e → IfErr r (IsFault NESTING words)
breaks_program {A} words r e h q = err_out (IsFault NESTING words) r e h (fault_at words e q)

-- words are left over
pub no_end : (words : List Word) (here : Spot) (items : List Item) → here.at < length words → Path NESTING words first_spot (N form.Program ∷ []) here [] (Items items ∷ [])
    → IsFault NESTING words (SyntaxFault here.at)
no_end words here items below p =
    let w = get_or words here.at no_word in
    let rest = drop (here.at + 1) words in
    let s = state_at here (Items items ∷ []) in
    let split = drop_more words here.at no_word below in
    let d : Descent NESTING s [] (drop here.at words) (Faults (length (w ∷ rest))) =
    subst (λ (ws : List Word). Descent NESTING s [] ws (Faults (length (w ∷ rest)))) (sym split) (left_over s w rest) in
    let same : length words - length (w ∷ rest) ≡ here.at = omega (arith, below, ap length split, length-drop here.at words) in
    subst (IsSyntaxFault NESTING words) same (syntax_fault NESTING words (length (w ∷ rest)) (p.path [] [] (Faults (length (w ∷ rest))) d))
