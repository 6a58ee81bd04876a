-- The descent and the fronts of a program: it goes where every front goes, and stops where none goes on.
use Rattle.std.proofs.Common.{◌≡◌, ℕ, zero, suc, ◌+◌, ◌<◌, ◌≤◌, List, [], ◌∷◌, ◌++◌, length, refl, sym, ap, subst, ◌∙◌, inl, inr, arith}
use Rattle.std.specs.Prelude.{◌⊎◌}
use Rattle.std.proofs.lemmas.List.{length-append, length-map}
use Rattle.std.proofs.lemmas.List.Elements.{All-nil, All-cons}
use Rattle.c_grammar.specs.declared.words.Word.{Word}
use Rattle.c_grammar.specs.declared.words.Terminal.{Terminal}
use Rattle.c_grammar.specs.Steps.{Place, Leaf, build}
use Rattle.c_grammar.specs.Grammar.{Form, Symbol, T, L, N, M, B, Here, Unless}
use Rattle.c_grammar.specs.Ways.{ways, way_at, way_number}
use Rattle.c_grammar.specs.Reading as reading
use Rattle.c_grammar.specs.Reading.{State, nesting, after, add, Nested, nested, words_of, BeginWith, Anywhere, Run, IsWithin}
use Rattle.c_grammar.specs.Descent.{Stop, Accepts, Faults, Deep, Wants, plain, valued, Descent, accepts, left_over, token, deep, other, ended, here, nowhere, mark, step, unless, rule}
use Rattle.c_grammar.specs.Faults.{nesting_at}
use Rattle.c_grammar.proofs.Runs.{heads, by_way}
use Rattle.c_grammar.proofs.Begins.{Fit}
use Rattle.c_grammar.proofs.Picks.{next, fit_number}
use Rattle.c_grammar.proofs.FrontPicks.{Agrees, as_it_is, not_as_deep, with_next, agrees}

-- ---- the words that the descent takes

-- how it ends, with the words left there: at a word that is nested too deep that word is the last of the way
abbrev pub Ends : ℕ → Stop → List Nested → List Word → Type 0
Ends limit (Accepts vs) last rest = (last ≡ []) × (rest ≡ [])
Ends limit (Faults n) last rest = (last ≡ []) × (length rest ≡ n)
Ends limit (Deep n) last rest = (w : Nested) × (last ≡ w ∷ []) × (limit < w.nesting) × (length rest + 1 ≡ n)

pub record Trail (limit : ℕ) (s : State) (k : List Symbol) (ws : List Word) (o : Stop) : Type 0 where
  pub way : List Nested
  pub last : List Nested
  pub rest : List Word
  pub words : words_of (way ++ last) ++ rest ≡ ws
  pub run : Run ways s k (way ++ last) Anywhere
  pub within : IsWithin limit way
  pub ends : Ends limit o last rest

wanted : (s : State) (x : Symbol) (t : Terminal) (f : Word → State → State) (k : List Symbol) (w : Word) (way : List Nested) → Wants x t f → w.terminal ≡ t
    → Run ways (f w s) k way Anywhere → Run ways s (x ∷ k) (nested w (nesting s) ∷ way) Anywhere
wanted s x t f k w way (plain u) h run = reading.token s t w k way Anywhere h run
wanted s x t f k w way (valued u) h run = reading.leaf s t w k way Anywhere h run

none_taken : (limit : ℕ) (s : State) (k : List Symbol) (ws : List Word) (o : Stop) → Ends limit o [] ws → Trail limit s k ws o
none_taken limit s k ws o e = record { way = []; last = []; rest = ws; words = refl; run = reading.stop s k; within = All-nil (λ w. w.nesting ≤ limit); ends = e }

-- a run is carried over
onto : (limit : ℕ) (s on : State) (k j : List Symbol) (ws : List Word) (o : Stop)
    → ((way : List Nested) (rest : List Word) → words_of way ++ rest ≡ ws → Run ways on j way Anywhere → Run ways s k way Anywhere) → Trail limit on j ws o → Trail limit s k ws o
onto limit s on k j ws o f t =
    record { way = t.way; last = t.last; rest = t.rest; words = t.words; run = f (t.way ++ t.last) t.rest t.words t.run; within = t.within; ends = t.ends }

here_run : (s : State) (k : List Symbol) (w : Word) (ws : List Word) (way : List Nested) (rest : List Word) → words_of way ++ rest ≡ w ∷ ws
    → Run ways (add (Place w.place) s) k way Anywhere → Run ways s (Here ∷ k) way Anywhere
here_run s k w ws [] rest is run = reading.stop s (Here ∷ k)
here_run s k w ws (n ∷ way) rest is run =
    let first = heads n.word w (words_of way ++ rest) ws is in
    reading.here s n k way Anywhere (subst (λ (x : Word). Run ways (add (Place x.place) s) k (n ∷ way) Anywhere) (sym first.0) run)

begins_more : (ts : List Terminal) (ws rest : List Word) → BeginWith ts ws → BeginWith ts (ws ++ rest)
begins_more [] ws rest h = tt
begins_more (t ∷ ts) [] rest h = absurd h
begins_more (t ∷ ts) (w ∷ ws) rest h = (h.0, begins_more ts ws rest h.1)

guarded_run : (s : State) (ts : List Terminal) (k : List Symbol) (ws : List Word) → ¬ BeginWith ts ws → (way : List Nested) (rest : List Word) → words_of way ++ rest ≡ ws
    → Run ways s k way Anywhere → Run ways s (Unless ts ∷ k) way Anywhere
guarded_run s ts k ws guard way rest is run =
    reading.unless s ts k way Anywhere (λ h. guard (subst (BeginWith ts) is (begins_more ts (words_of way) rest h))) run

pub trail : (limit : ℕ) (s : State) (k : List Symbol) (ws : List Word) (o : Stop) → Descent limit s k ws o → Trail limit s k ws o
trail limit s k ws o (accepts s') = none_taken limit s [] [] o (refl, refl)
trail limit s k ws o (left_over s' w v) = none_taken limit s [] (w ∷ v) o (refl, refl)
trail limit s k ws o (token s' x t f p w v o' want h low more) =
    let r = trail limit (f w s) p v o more in record {
      way = nested w (nesting s) ∷ r.way;
      last = r.last;
      rest = r.rest;
      words = ap (λ l. w ∷ l) r.words;
      run = wanted s x t f p w (r.way ++ r.last) want h r.run;
      within = All-cons (λ w. w.nesting ≤ limit) (nested w (nesting s)) r.way low r.within;
      ends = r.ends;
    }
trail limit s k ws o (deep s' x t f p w v want h high) = record {
  way = [];
  last = nested w (nesting s) ∷ [];
  rest = v;
  words = refl;
  run = wanted s x t f p w [] want h (reading.stop (f w s) p);
  within = All-nil (λ w. w.nesting ≤ limit);
  ends = (nested w (nesting s), refl, high, omega arith);
}
trail limit s k ws o (other s' x t f p w v want differs) = none_taken limit s (x ∷ p) (w ∷ v) o (refl, refl)
trail limit s k ws o (ended s' x t f p want) = none_taken limit s (x ∷ p) [] o (refl, refl)
trail limit s k ws o (here s' p w v o' more) =
    onto limit s (add (Place w.place) s) (Here ∷ p) p (w ∷ v) o (here_run s p w v) (trail limit (add (Place w.place) s) p (w ∷ v) o more)
trail limit s k ws o (nowhere s' p) = none_taken limit s (Here ∷ p) [] o (refl, refl)
trail limit s k ws o (mark s' m p v o' more) =
    onto limit s (after m s) (M m ∷ p) p ws o (λ way rest is run. reading.mark s m p way Anywhere run) (trail limit (after m s) p ws o more)
trail limit s k ws o (step s' b p v o' more) =
    onto limit s (record s { built = build b s.built }) (B b ∷ p) p ws o (λ way rest is run. reading.step s b p way Anywhere run) (trail limit (record s { built = build b s.built }) p ws o more)
trail limit s k ws o (unless s' ts p v o' guard more) =
    onto limit s s (Unless ts ∷ p) p ws o (guarded_run s ts p ws guard) (trail limit s p ws o more)
trail limit s k ws o (rule s' f p v o' below more) =
    onto limit s s (N f ∷ p) (way_at ways f (way_number f ws) ++ p) ws o (λ way rest is run. by_way ways f (way_number f ws) below p s way Anywhere run)
    (trail limit s (way_at ways f (way_number f ws) ++ p) ws o more)

-- ---- what every front has of it

-- a front that is a word longer
pub record Longer (s : State) (k : List Symbol) (ws : List Word) (way : List Nested) : Type 0 where
  pub longer : List Nested
  pub rest : List Word
  pub words : words_of longer ++ rest ≡ ws
  pub more : length longer ≡ length way + 1
  pub run : Run ways s k longer Anywhere

-- It goes no further than a word that can't go on. It nests a word that is too deep above the limit too, or ends with
-- it where a front goes on to the next.
abbrev pub Meets : State → List Symbol → List Word → ℕ → Stop → List Nested → Type 0
Meets s k ws limit (Accepts vs) way = Unit {0}
Meets s k ws limit (Faults n) way = length way + n ≤ length ws
Meets s k ws limit (Deep n) way =
    (t : ℕ) → t + n ≡ length ws → t < length way → (limit < nesting_at way t) ⊎ ((length way ≡ t + 1) × Longer s k ws way)

bound : (n : ℕ) (way : List Nested) (rest : List Word) (ws : List Word) → words_of way ++ rest ≡ ws → n ≤ length rest → n ≤ length ws
bound n way rest ws is less = omega (arith, ap length is, length-append (words_of way) rest, less)

faults_bound : (limit : ℕ) (s : State) (k : List Symbol) (ws : List Word) (n : ℕ) → Descent limit s k ws (Faults n) → n ≤ length ws
faults_bound limit s k ws n d =
    let r = trail limit s k ws (Faults n) d in bound n (r.way ++ r.last) r.rest ws r.words (omega (arith, r.ends.1))

length_last : (way last : List Nested) (w : Nested) → last ≡ w ∷ [] → length (way ++ last) ≡ length way + 1
length_last way last w is = length-append way last ∙ ap (λ l. length way + length l) is

deep_bound : (limit : ℕ) (s : State) (k : List Symbol) (ws : List Word) (n : ℕ) → Descent limit s k ws (Deep n) → n ≤ length ws
deep_bound limit s k ws n d =
    let r = trail limit s k ws (Deep n) d in
    let below = length_last r.way r.last r.ends.0 r.ends.1 in
    omega (arith, r.ends.3, ap length r.words, length-append (words_of (r.way ++ r.last)) r.rest, length-map (r.way ++ r.last) (λ w. w.word), below)

lower_deep : (limit : ℕ) (s : State) (k : List Symbol) (ws : List Word) (i : ℕ) (m n : Nested) → m.nesting ≤ n.nesting → Meets s k ws limit (Deep i) (m ∷ []) → Meets s k ws limit (Deep i) (n ∷ [])
lower_deep limit s k ws i m n low h zero e less =
    elim (h zero e (omega arith)) [
      | inl above ↦ inl (omega (arith, above, low))
      | inr l ↦ inr (refl, record { longer = l.1.longer; rest = l.1.rest; words = l.1.words; more = l.1.more; run = l.1.run })
    ]
lower_deep limit s k ws i m n low h (suc t) e less = absurd (omega (arith, less))

longer_deep : (limit : ℕ) (s : State) (k : List Symbol) (ws : List Word) (i : ℕ) (n m x : Nested) (rest : List Word) → m.word ∷ x.word ∷ rest ≡ ws → Run ways s k (m ∷ x ∷ []) Anywhere
    → Meets s k ws limit (Deep i) (n ∷ [])
longer_deep limit s k ws i n m x rest is run zero e less = inr (refl, record { longer = m ∷ x ∷ []; rest = rest; words = is; more = refl; run = run })
longer_deep limit s k ws i n m x rest is run (suc t) e less = absurd (omega (arith, less))

none_meets : (limit : ℕ) (s : State) (k : List Symbol) (ws : List Word) (o : Stop) → Descent limit s k ws o → Meets s k ws limit o []
none_meets limit s k ws (Accepts vs) d = tt
none_meets limit s k ws (Faults n) d = omega (arith, faults_bound limit s k ws n d)
none_meets limit s k ws (Deep n) d = λ t e less. absurd (omega (arith, less))

meets_onto : (limit : ℕ) (s on : State) (k j : List Symbol) (ws : List Word) (o : Stop) (way : List Nested)
    → ((l : List Nested) (rest : List Word) → words_of l ++ rest ≡ ws → Run ways on j l Anywhere → Run ways s k l Anywhere) → Meets on j ws limit o way → Meets s k ws limit o way
meets_onto limit s on k j ws (Accepts vs) way f h = tt
meets_onto limit s on k j ws (Faults n) way f h = h
meets_onto limit s on k j ws (Deep n) way f h = λ t e less.
    elim (h t e less) [
      | inl above ↦ inl above
      | inr l ↦ inr (l.0, record { longer = l.1.longer; rest = l.1.rest; words = l.1.words; more = l.1.more; run = f l.1.longer l.1.rest l.1.words l.1.run })
    ]

longer_by : (s : State) (x : Symbol) (t : Terminal) (f : Word → State → State) (k : List Symbol) (w : Word) (ws : List Word) (n : Nested) (way : List Nested) → Wants x t f → w.terminal ≡ t
    → Longer (f w s) k ws way → Longer s (x ∷ k) (w ∷ ws) (n ∷ way)
longer_by s x t f k w ws n way want h l = record {
  longer = nested w (nesting s) ∷ l.longer;
  rest = l.rest;
  words = ap (λ m. w ∷ m) l.words;
  more = omega (arith, l.more);
  run = wanted s x t f k w l.longer want h l.run;
}

token_deep : (limit : ℕ) (s : State) (x : Symbol) (t : Terminal) (f : Word → State → State) (k : List Symbol) (w : Word) (ws : List Word) (n : ℕ) (m : Nested) (way : List Nested)
    → Wants x t f → w.terminal ≡ t → n ≤ length ws → Meets (f w s) k ws limit (Deep n) way
    → (i : ℕ) → i + n ≡ length (w ∷ ws) → i < length (m ∷ way) → (limit < nesting_at (m ∷ way) i) ⊎ ((length (m ∷ way) ≡ i + 1) × Longer s (x ∷ k) (w ∷ ws) (m ∷ way))
token_deep limit s x t f k w ws n m way want h low more zero e less = absurd (omega (arith, e, low))
token_deep limit s x t f k w ws n m way want h low more (suc i) e less =
    elim (more i (omega (arith, e)) (omega (arith, less))) [
      | inl above ↦ inl above
      | inr l ↦ inr (omega (arith, l.0), longer_by s x t f k w ws m way want h l.1)
    ]

token_meets : (limit : ℕ) (s : State) (x : Symbol) (t : Terminal) (f : Word → State → State) (k : List Symbol) (w : Word) (ws : List Word) (o : Stop) (m : Nested) (way : List Nested)
    → Wants x t f → w.terminal ≡ t → Descent limit (f w s) k ws o → Meets (f w s) k ws limit o way → Meets s (x ∷ k) (w ∷ ws) limit o (m ∷ way)
token_meets limit s x t f k w ws (Accepts vs) m way want h d more = tt
token_meets limit s x t f k w ws (Faults n) m way want h d more = omega (arith, more)
token_meets limit s x t f k w ws (Deep n) m way want h d more = token_deep limit s x t f k w ws n m way want h (deep_bound limit (f w s) k ws n d) more

deep_meets : (limit : ℕ) (s : State) (k : List Symbol) (ws : List Word) (n : Nested) (way : List Nested) → limit < n.nesting
    → (i : ℕ) → i + length ws ≡ length ws → i < length (n ∷ way) → (limit < nesting_at (n ∷ way) i) ⊎ ((length (n ∷ way) ≡ i + 1) × Longer s k ws (n ∷ way))
deep_meets limit s k ws n way high zero e less = inl high
deep_meets limit s k ws n way high (suc i) e less = absurd (omega (arith, e))

lower_meets : (limit : ℕ) (s : State) (k : List Symbol) (ws : List Word) (o : Stop) (m n : Nested) → m.nesting ≤ n.nesting → Meets s k ws limit o (m ∷ []) → Meets s k ws limit o (n ∷ [])
lower_meets limit s k ws (Accepts vs) m n low h = tt
lower_meets limit s k ws (Faults i) m n low h = h
lower_meets limit s k ws (Deep i) m n low h = lower_deep limit s k ws i m n low h

longer_meets : (limit : ℕ) (s : State) (k : List Symbol) (ws : List Word) (o : Stop) (n m x : Nested) (rest : List Word) → m.word ∷ x.word ∷ rest ≡ ws → Run ways s k (m ∷ x ∷ []) Anywhere
    → Meets s k ws limit o (m ∷ x ∷ []) → Meets s k ws limit o (n ∷ [])
longer_meets limit s k ws (Accepts vs) n m x rest is run h = tt
longer_meets limit s k ws (Faults i) n m x rest is run h = omega (arith, h)
longer_meets limit s k ws (Deep i) n m x rest is run h = longer_deep limit s k ws i n m x rest is run

-- through a form
rule_meets : (limit : ℕ) (s : State) (f : Form) (k : List Symbol) (ws : List Word) (o : Stop) (n : Nested) (way : List Nested) (rest : List Word) → words_of (n ∷ way) ++ rest ≡ ws
    → ((l : List Nested) (r : List Word) → words_of l ++ r ≡ ws → Run ways s (N f ∷ k) l Anywhere → Run ways s (way_at ways f (way_number f ws) ++ k) l Anywhere → Meets s (N f ∷ k) ws limit o l)
    → way_number f ws < length (ways f) → Agrees f k s n way ws → Meets s (N f ∷ k) ws limit o (n ∷ way)
rule_meets limit s f k ws o n way rest is on below (as_it_is run) = on (n ∷ way) rest is (by_way ways f (way_number f ws) below k s (n ∷ way) Anywhere run) run
rule_meets limit s f k ws o n way rest is on below (not_as_deep m none same low run) =
    let alone : words_of (m ∷ []) ++ rest ≡ ws = ap (λ (w : Word). w ∷ rest) same ∙ subst (λ (l : List Nested). words_of (n ∷ l) ++ rest ≡ ws) none is in
    subst (λ (l : List Nested). Meets s (N f ∷ k) ws limit o (n ∷ l)) (sym none)
    (lower_meets limit s (N f ∷ k) ws o m n low (on (m ∷ []) rest alone (by_way ways f (way_number f ws) below k s (m ∷ []) Anywhere run) run))
rule_meets limit s f k ws o n way rest is on below (with_next m x more none two run) =
    let whole = by_way ways f (way_number f ws) below k s (m ∷ x ∷ []) Anywhere run in
    subst (λ (l : List Nested). Meets s (N f ∷ k) ws limit o (n ∷ l)) (sym none)
    (longer_meets limit s (N f ∷ k) ws o n m x more two whole (on (m ∷ x ∷ []) more two whole run))

pub meets : (limit : ℕ) (s : State) (k : List Symbol) (ws : List Word) (o : Stop) → Descent limit s k ws o → Fit k
    → (way : List Nested) (rest : List Word) → words_of way ++ rest ≡ ws → Run ways s k way Anywhere → Meets s k ws limit o way
meets limit s k ws o d fit [] rest is run = none_meets limit s k ws o d
meets limit s k ws o (accepts s') fit (n ∷ way) rest is run = tt
meets limit s k ws o (left_over s' w v) fit (n ∷ way) rest is run = absurd (next s [] n way Anywhere run)
meets limit s k ws o (token s' x t f p w v o' (plain u) h low more) fit (n ∷ way) rest is run =
    let first = heads n.word w (words_of way ++ rest) v is in
    let a = next s (T t ∷ p) n way Anywhere run in
    token_meets limit s (T t) t f p w v o n way (plain t) h more (meets limit (f w s) p v o more fit way rest first.1 a.2)
meets limit s k ws o (token s' x t f p w v o' (valued u) h low more) fit (n ∷ way) rest is run =
    let first = heads n.word w (words_of way ++ rest) v is in
    let a = next s (L t ∷ p) n way Anywhere run in
    token_meets limit s (L t) t f p w v o n way (valued t) h more
    (meets limit (f w s) p v o more fit way rest first.1 (subst (λ (y : Word). Run ways (add (Leaf y.place y.value) s) p way Anywhere) first.0 a.2))
meets limit s k ws o (deep s' x t f p w v (plain u) h high) fit (n ∷ way) rest is run =
    let a = next s (T t ∷ p) n way Anywhere run in deep_meets limit s k ws n way (omega (arith, high, a.1))
meets limit s k ws o (deep s' x t f p w v (valued u) h high) fit (n ∷ way) rest is run =
    let a = next s (L t ∷ p) n way Anywhere run in deep_meets limit s k ws n way (omega (arith, high, a.1))
meets limit s k ws o (other s' x t f p w v (plain u) differs) fit (n ∷ way) rest is run =
    let first = heads n.word w (words_of way ++ rest) v is in
    let a = next s (T t ∷ p) n way Anywhere run in absurd (differs (ap (λ (y : Word). y.terminal) (sym first.0) ∙ a.0))
meets limit s k ws o (other s' x t f p w v (valued u) differs) fit (n ∷ way) rest is run =
    let first = heads n.word w (words_of way ++ rest) v is in
    let a = next s (L t ∷ p) n way Anywhere run in absurd (differs (ap (λ (y : Word). y.terminal) (sym first.0) ∙ a.0))
meets limit s k ws o (ended s' x t f p want) fit (n ∷ way) rest is run = cc
meets limit s k ws o (here s' p w v o' more) fit (n ∷ way) rest is run =
    let first = heads n.word w (words_of way ++ rest) v is in
    let a = next s (Here ∷ p) n way Anywhere run in
    meets_onto limit s (add (Place w.place) s) (Here ∷ p) p (w ∷ v) o (n ∷ way) (here_run s p w v)
    (meets limit (add (Place w.place) s) p (w ∷ v) o more fit (n ∷ way) rest is (subst (λ (y : Word). Run ways (add (Place y.place) s) p (n ∷ way) Anywhere) first.0 a))
meets limit s k ws o (nowhere s' p) fit (n ∷ way) rest is run = cc
meets limit s k ws o (mark s' m p v o' more) fit (n ∷ way) rest is run =
    meets_onto limit s (after m s) (M m ∷ p) p ws o (n ∷ way) (λ l r e q. reading.mark s m p l Anywhere q)
    (meets limit (after m s) p ws o more fit (n ∷ way) rest is (next s (M m ∷ p) n way Anywhere run))
meets limit s k ws o (step s' b p v o' more) fit (n ∷ way) rest is run =
    meets_onto limit s (record s { built = build b s.built }) (B b ∷ p) p ws o (n ∷ way) (λ l r e q. reading.step s b p l Anywhere q)
    (meets limit (record s { built = build b s.built }) p ws o more fit (n ∷ way) rest is (next s (B b ∷ p) n way Anywhere run))
meets limit s k ws o (unless s' ts p v o' guard more) fit (n ∷ way) rest is run =
    meets_onto limit s s (Unless ts ∷ p) p ws o (n ∷ way) (guarded_run s ts p ws guard)
    (meets limit s p ws o more fit (n ∷ way) rest is (next s (Unless ts ∷ p) n way Anywhere run).1)
meets limit s k ws o (rule s' f p v o' below more) fit (n ∷ way) rest is run =
    let a = next s (N f ∷ p) n way Anywhere run in
    rule_meets limit s f p ws o n way rest is
    (λ l r e whole q. meets_onto limit s s (N f ∷ p) (way_at ways f (way_number f ws) ++ p) ws o l (λ l' r' e' q'. by_way ways f (way_number f ws) below p s l' Anywhere q')
    (meets limit s (way_at ways f (way_number f ws) ++ p) ws o more (fit_number f (way_number f ws) p below fit) l r e q))
    below (subst (λ (x : List Word). Agrees f p s n way x) is (agrees f p s n way rest fit a.number a.below a.run))
