-- The descent reads what the grammar reads, and stops in one way.
use Rattle.std.proofs.Common.{◌≡◌, ◌≢◌, ℕ, ◌<◌, ◌≤◌, max, List, [], ◌∷◌, ◌++◌, length, refl, sym, ap, subst, ◌∙◌, inl, inr, arith}
use Rattle.std.specs.Prelude.{◌⊎◌}
use Rattle.std.proofs.lemmas.List.{get_or_default}
use Rattle.std.proofs.lemmas.List.Elements.{All-nil, All-cons, All-head, All-tail, All-weaker}
use Rattle.c_ast.specs.declared.program.Item.{Item}
use Rattle.c_grammar.specs.declared.words.Word.{Word}
use Rattle.c_grammar.specs.declared.words.Terminal.{Terminal}
use Rattle.c_grammar.specs.Steps.{Value, Items, Leaf, Place, build}
use Rattle.c_grammar.specs.Grammar.{Program, Symbol, T, L, N, M, B, Here, Unless}
use Rattle.c_grammar.specs.Ways.{ways, way_at, way_number}
use Rattle.c_grammar.specs.Reading as reading
use Rattle.c_grammar.specs.Reading.{State, start, nesting, after, add, Nested, nested, words_of, BeginWith, Ending, Complete, Run, IsReading, IsWithin}
use Rattle.c_grammar.specs.Descent.{Stop, Accepts, Faults, Deep, Wants, plain, valued, Descent, accepts, left_over, token, deep, other, ended, here, nowhere, mark, step, unless, rule}
use Rattle.c_grammar.proofs.Runs.{heads, is_way}
use Rattle.c_grammar.proofs.WayLemmas.{to_ways, from_ways}
use Rattle.c_grammar.proofs.Begins.{Fit, fit_way}
use Rattle.c_grammar.proofs.Picks.{picks}

-- ---- what is accepted is read

pub record ReadsTo (limit : ℕ) (s : State) (k : List Symbol) (ws : List Word) (vs : List Value) : Type 0 where
  pub way : List Nested
  pub words : words_of way ≡ ws
  pub run : Run ways s k way (Complete vs)
  pub within : IsWithin limit way

same_values : (us vs : List Value) → Accepts us ≡ Accepts vs → us ≡ vs
same_values us vs e = cc

wanted : (s : State) (x : Symbol) (t : Terminal) (f : Word → State → State) (k : List Symbol) (w : Word) (way : List Nested) (e : Ending) → Wants x t f → w.terminal ≡ t
    → Run ways (f w s) k way e → Run ways s (x ∷ k) (nested w (nesting s) ∷ way) e
wanted s x t f k w way e (plain u) h run = reading.token s t w k way e h run
wanted s x t f k w way e (valued u) h run = reading.leaf s t w k way e h run

here_again : (s : State) (k : List Symbol) (w : Word) (ws : List Word) (vs : List Value) (way : List Nested) → words_of way ≡ w ∷ ws
    → Run ways (add (Place w.place) s) k way (Complete vs) → Run ways s (Here ∷ k) way (Complete vs)
here_again s k w ws vs [] is run = cc
here_again s k w ws vs (n ∷ way) is run =
    let first = heads n.word w (words_of way) ws is in
    reading.here s n k way (Complete vs) (subst (λ (x : Word). Run ways (add (Place x.place) s) k (n ∷ way) (Complete vs)) (sym first.0) run)

pub reads : (limit : ℕ) (s : State) (k : List Symbol) (ws : List Word) (o : Stop) (vs : List Value) → Descent limit s k ws o → o ≡ Accepts vs → ReadsTo limit s k ws vs
reads limit s k ws o vs (accepts s') is = record {
  way = [];
  words = refl;
  run = subst (λ (us : List Value). Run ways s [] [] (Complete us)) (same_values s.built vs is) (reading.done s);
  within = All-nil (λ w. w.nesting ≤ limit);
}
reads limit s k ws o vs (left_over s' w v) is = cc
reads limit s k ws o vs (token s' x t f p w v o' want h low more) is =
    let r = reads limit (f w s) p v o vs more is in record {
      way = nested w (nesting s) ∷ r.way;
      words = ap (λ l. w ∷ l) r.words;
      run = wanted s x t f p w r.way (Complete vs) want h r.run;
      within = All-cons (λ w. w.nesting ≤ limit) (nested w (nesting s)) r.way low r.within;
    }
reads limit s k ws o vs (deep s' x t f p w v want h high) is = cc
reads limit s k ws o vs (other s' x t f p w v want differs) is = cc
reads limit s k ws o vs (ended s' x t f p want) is = cc
reads limit s k ws o vs (here s' p w v o' more) is =
    let r = reads limit (add (Place w.place) s) p (w ∷ v) o vs more is in
    record { way = r.way; words = r.words; run = here_again s p w v vs r.way r.words r.run; within = r.within }
reads limit s k ws o vs (nowhere s' p) is = cc
reads limit s k ws o vs (mark s' m p v o' more) is =
    let r = reads limit (after m s) p ws o vs more is in
    record { way = r.way; words = r.words; run = reading.mark s m p r.way (Complete vs) r.run; within = r.within }
reads limit s k ws o vs (step s' b p v o' more) is =
    let r = reads limit (record s { built = build b s.built }) p ws o vs more is in
    record { way = r.way; words = r.words; run = reading.step s b p r.way (Complete vs) r.run; within = r.within }
reads limit s k ws o vs (unless s' ts p v o' guard more) is =
    let r = reads limit s p ws o vs more is in record {
      way = r.way;
      words = r.words;
      run = reading.unless s ts p r.way (Complete vs) (λ h. guard (subst (BeginWith ts) r.words h)) r.run;
      within = r.within;
    }
reads limit s k ws o vs (rule s' f p v o' below more) is =
    let number = way_number f ws in
    let r = reads limit s (way_at ways f number ++ p) ws o vs more is in record {
      way = r.way;
      words = r.words;
      run = reading.rule s f (way_at ways f number) p r.way (Complete vs) (number, below, get_or_default (ways f) number (way_at ways f number) [] below) r.run;
      within = r.within;
    }

-- ---- what is read is accepted

pub accepted : (limit : ℕ) (s : State) (q : List Symbol) (way : List Nested) (e : Ending) (vs : List Value) → Run ways s q way e → e ≡ Complete vs → Fit q → IsWithin limit way
    → Descent limit s q (words_of way) (Accepts vs)
accepted limit s q way e vs (reading.stop s' p) is fit low = cc
accepted limit s q way e vs (reading.done s') is fit low =
    let same : s.built ≡ vs = cc in subst (λ (us : List Value). Descent limit s [] [] (Accepts us)) same (accepts s)
accepted limit s q way e vs (reading.token s' t w p v e' h more) is fit low =
    token s (T t) t (λ w s. s) p w (words_of v) (Accepts vs) (plain t) h (All-head (λ w. w.nesting ≤ limit) (nested w (nesting s)) v low)
    (accepted limit s p v e vs more is fit (All-tail (λ w. w.nesting ≤ limit) (nested w (nesting s)) v low))
accepted limit s q way e vs (reading.leaf s' t w p v e' h more) is fit low =
    token s (L t) t (λ w s. add (Leaf w.place w.value) s) p w (words_of v) (Accepts vs) (valued t) h (All-head (λ w. w.nesting ≤ limit) (nested w (nesting s)) v low)
    (accepted limit (add (Leaf w.place w.value) s) p v e vs more is fit (All-tail (λ w. w.nesting ≤ limit) (nested w (nesting s)) v low))
accepted limit s q way e vs (reading.here s' w p v e' more) is fit low =
    here s p w.word (words_of v) (Accepts vs) (accepted limit (add (Place w.word.place) s) p way e vs more is fit low)
accepted limit s q way e vs (reading.mark s' m p v e' more) is fit low =
    mark s m p (words_of way) (Accepts vs) (accepted limit (after m s) p way e vs more is fit low)
accepted limit s q way e vs (reading.step s' b p v e' more) is fit low =
    step s b p (words_of way) (Accepts vs) (accepted limit (record s { built = build b s.built }) p way e vs more is fit low)
accepted limit s q way e vs (reading.unless s' ts p v e' h more) is fit low =
    unless s ts p (words_of way) (Accepts vs) h (accepted limit s p way e vs more is fit low)
accepted limit s q way e vs (reading.rule s' f parts p v e' among more) is fit low =
    let w = is_way ways f parts among in
    let run = subst (λ (x : Ending). Run ways s (way_at ways f w.number ++ p) way x) is (subst (λ (l : List Symbol). Run ways s (l ++ p) way e) w.is more) in
    let number = picks f p s way vs fit w.number w.below run in
    let on = accepted limit s (parts ++ p) way e vs more is (fit_way f parts p among fit) low in
    rule s f p (words_of way) (Accepts vs) (subst (λ (i : ℕ). i < length (ways f)) number w.below)
    (subst (λ (l : List Symbol). Descent limit s (l ++ p) (words_of way) (Accepts vs)) (w.is ∙ ap (way_at ways f) number) on)

-- ---- one stop

abbrev GoesAt : ℕ → State → Terminal → (Word → State → State) → List Symbol → List Word → Stop → Type 0
GoesAt limit s t f k [] o = o ≡ Faults 0
GoesAt limit s t f k (w ∷ ws) o =
    ((w.terminal ≢ t) × (o ≡ Faults (length (w ∷ ws))))
    ⊎ (((w.terminal ≡ t) × (limit < nesting s) × (o ≡ Deep (length (w ∷ ws))))
    ⊎ ((w.terminal ≡ t) × (nesting s ≤ limit) × Descent limit (f w s) k ws o))

-- one symbol on
abbrev Goes : ℕ → State → List Symbol → List Word → Stop → Type 0
Goes limit s [] [] o = o ≡ Accepts s.built
Goes limit s [] (w ∷ ws) o = o ≡ Faults (length (w ∷ ws))
Goes limit s (T t ∷ k) ws o = GoesAt limit s t (λ w s. s) k ws o
Goes limit s (L t ∷ k) ws o = GoesAt limit s t (λ w s. add (Leaf w.place w.value) s) k ws o
Goes limit s (Here ∷ k) [] o = o ≡ Faults 0
Goes limit s (Here ∷ k) (w ∷ ws) o = Descent limit (add (Place w.place) s) k (w ∷ ws) o
Goes limit s (M m ∷ k) ws o = Descent limit (after m s) k ws o
Goes limit s (B b ∷ k) ws o = Descent limit (record s { built = build b s.built }) k ws o
Goes limit s (Unless ts ∷ k) ws o = Descent limit s k ws o
Goes limit s (N f ∷ k) ws o = Descent limit s (way_at ways f (way_number f ws) ++ k) ws o

goes : (limit : ℕ) (s : State) (q : List Symbol) (ws : List Word) (o : Stop) → Descent limit s q ws o → Goes limit s q ws o
goes limit s q ws o (accepts s') = refl
goes limit s q ws o (left_over s' w v) = refl
goes limit s q ws o (token s' x t f p w v o' (plain u) h low more) = inr (inr (h, low, more))
goes limit s q ws o (token s' x t f p w v o' (valued u) h low more) = inr (inr (h, low, more))
goes limit s q ws o (deep s' x t f p w v (plain u) h high) = inr (inl (h, high, refl))
goes limit s q ws o (deep s' x t f p w v (valued u) h high) = inr (inl (h, high, refl))
goes limit s q ws o (other s' x t f p w v (plain u) differs) = inl (differs, refl)
goes limit s q ws o (other s' x t f p w v (valued u) differs) = inl (differs, refl)
goes limit s q ws o (ended s' x t f p (plain u)) = refl
goes limit s q ws o (ended s' x t f p (valued u)) = refl
goes limit s q ws o (here s' p w v o' more) = more
goes limit s q ws o (nowhere s' p) = refl
goes limit s q ws o (mark s' m p v o' more) = more
goes limit s q ws o (step s' b p v o' more) = more
goes limit s q ws o (unless s' ts p v o' guard more) = more
goes limit s q ws o (rule s' f p v o' below more) = more

-- at a token that is wanted, not wanted, or too deep
taken : (limit : ℕ) (s : State) (t : Terminal) (f : Word → State → State) (k : List Symbol) (w : Word) (ws : List Word) (o : Stop) → w.terminal ≡ t → nesting s ≤ limit
    → GoesAt limit s t f k (w ∷ ws) o → Descent limit (f w s) k ws o
taken limit s t f k w ws o h low (inl g) = absurd (g.0 h)
taken limit s t f k w ws o h low (inr (inl g)) = absurd (omega (arith, g.1))
taken limit s t f k w ws o h low (inr (inr g)) = g.2

too_deep : (limit : ℕ) (s : State) (t : Terminal) (f : Word → State → State) (k : List Symbol) (w : Word) (ws : List Word) (o : Stop) → w.terminal ≡ t → limit < nesting s
    → GoesAt limit s t f k (w ∷ ws) o → Deep (length (w ∷ ws)) ≡ o
too_deep limit s t f k w ws o h high (inl g) = absurd (g.0 h)
too_deep limit s t f k w ws o h high (inr (inl g)) = sym g.2
too_deep limit s t f k w ws o h high (inr (inr g)) = absurd (omega (arith, g.1))

not_wanted : (limit : ℕ) (s : State) (t : Terminal) (f : Word → State → State) (k : List Symbol) (w : Word) (ws : List Word) (o : Stop) → w.terminal ≢ t
    → GoesAt limit s t f k (w ∷ ws) o → Faults (length (w ∷ ws)) ≡ o
not_wanted limit s t f k w ws o differs (inl g) = sym g.1
not_wanted limit s t f k w ws o differs (inr (inl g)) = absurd (differs g.0)
not_wanted limit s t f k w ws o differs (inr (inr g)) = absurd (differs g.0)

pub one_stop : (limit : ℕ) (s : State) (q : List Symbol) (ws : List Word) (o o' : Stop) → Descent limit s q ws o → Descent limit s q ws o' → o ≡ o'
one_stop limit s q ws o o' (accepts s') d = sym (goes limit s [] [] o' d)
one_stop limit s q ws o o' (left_over s' w v) d = sym (goes limit s [] (w ∷ v) o' d)
one_stop limit s q ws o o' (token s' x t f p w v r (plain u) h low more) d =
    one_stop limit (f w s) p v o o' more (taken limit s t f p w v o' h low (goes limit s q ws o' d))
one_stop limit s q ws o o' (token s' x t f p w v r (valued u) h low more) d =
    one_stop limit (f w s) p v o o' more (taken limit s t f p w v o' h low (goes limit s q ws o' d))
one_stop limit s q ws o o' (deep s' x t f p w v (plain u) h high) d = too_deep limit s t f p w v o' h high (goes limit s q ws o' d)
one_stop limit s q ws o o' (deep s' x t f p w v (valued u) h high) d = too_deep limit s t f p w v o' h high (goes limit s q ws o' d)
one_stop limit s q ws o o' (other s' x t f p w v (plain u) differs) d = not_wanted limit s t f p w v o' differs (goes limit s q ws o' d)
one_stop limit s q ws o o' (other s' x t f p w v (valued u) differs) d = not_wanted limit s t f p w v o' differs (goes limit s q ws o' d)
one_stop limit s q ws o o' (ended s' x t f p (plain u)) d = sym (goes limit s q [] o' d)
one_stop limit s q ws o o' (ended s' x t f p (valued u)) d = sym (goes limit s q [] o' d)
one_stop limit s q ws o o' (here s' p w v r more) d = one_stop limit (add (Place w.place) s) p ws o o' more (goes limit s q ws o' d)
one_stop limit s q ws o o' (nowhere s' p) d = sym (goes limit s q [] o' d)
one_stop limit s q ws o o' (mark s' m p v r more) d = one_stop limit (after m s) p ws o o' more (goes limit s q ws o' d)
one_stop limit s q ws o o' (step s' b p v r more) d = one_stop limit (record s { built = build b s.built }) p ws o o' more (goes limit s q ws o' d)
one_stop limit s q ws o o' (unless s' ts p v r guard more) d = one_stop limit s p ws o o' more (goes limit s q ws o' d)
one_stop limit s q ws o o' (rule s' f p v r below more) d = one_stop limit s (way_at ways f (way_number f ws) ++ p) ws o o' more (goes limit s q ws o' d)

-- ---- programs

pub program_fits : Fit (N Program ∷ [])
program_fits = (record { follows = λ t h. absurd cc; ends = λ h. refl }, tt)

pub record ProgramRead (limit : ℕ) (words : List Word) (items : List Item) : Type 0 where
  pub way : List Nested
  pub reading : IsReading words items way
  pub within : IsWithin limit way

-- what the descent accepts is a program
pub program_reads : (limit : ℕ) (words : List Word) (items : List Item) → Descent limit start (N Program ∷ []) words (Accepts (Items items ∷ [])) → ProgramRead limit words items
program_reads limit words items d =
    let r = reads limit start (N Program ∷ []) words (Accepts (Items items ∷ [])) (Items items ∷ []) d refl in
    record { way = r.way; reading = (r.words, from_ways start (N Program ∷ []) r.way (Complete (Items items ∷ [])) r.run); within = r.within }

-- and a program within the limit is accepted
pub program_accepted : (limit : ℕ) (words : List Word) (items : List Item) (way : List Nested) → IsReading words items way → IsWithin limit way
    → Descent limit start (N Program ∷ []) words (Accepts (Items items ∷ []))
program_accepted limit words items way h low =
    subst (λ (ws : List Word). Descent limit start (N Program ∷ []) ws (Accepts (Items items ∷ []))) h.0
    (accepted limit start (N Program ∷ []) way (Complete (Items items ∷ [])) (Items items ∷ [])
    (to_ways start (N Program ∷ []) way (Complete (Items items ∷ [])) h.1) refl program_fits low)

abbrev pub deepest : List Nested → ℕ
deepest [] = 0
deepest (w ∷ way) = max w.nesting (deepest way)

pub within_more : (m n : ℕ) (way : List Nested) → m ≤ n → IsWithin m way → IsWithin n way
within_more m n way le h = All-weaker (λ w. w.nesting ≤ m) (λ w. w.nesting ≤ n) (λ w low. omega arith) way h

pub within_deepest : (way : List Nested) → IsWithin (deepest way) way
within_deepest [] = All-nil (λ w. w.nesting ≤ 0)
within_deepest (w ∷ way) =
    All-cons (λ v. v.nesting ≤ max w.nesting (deepest way)) w way (omega arith) (within_more (deepest way) (max w.nesting (deepest way)) way (omega arith) (within_deepest way))

same_items : (a b : List Item) → Accepts (Items a ∷ []) ≡ Accepts (Items b ∷ []) → a ≡ b
same_items a b e = cc

pub one_program : (words : List Word) (items others : List Item) (way another : List Nested) → IsReading words items way → IsReading words others another → items ≡ others
one_program words items others way another h g =
    let limit = max (deepest way) (deepest another) in
    same_items items others
    (one_stop limit start (N Program ∷ []) words (Accepts (Items items ∷ [])) (Accepts (Items others ∷ []))
    (program_accepted limit words items way h (within_more (deepest way) limit way (omega arith) (within_deepest way)))
    (program_accepted limit words others another g (within_more (deepest another) limit another (omega arith) (within_deepest another))))
