-- Where the descent stops the words have their fault, and they have one at most.
use Rattle.std.proofs.Common.{◌≡◌, ℕ, zero, suc, ◌+◌, ◌-◌, ◌<◌, ◌≤◌, max, List, [], ◌∷◌, ◌++◌, length, take, get_or, drop, map, refl, sym, ap, subst, ◌∙◌, inl, inr, arith}
use Rattle.std.proofs.lemmas.List.{length-append, length-map, length-take-le, take-map, take-append-le, take_all, get_or-take, append-nil, take-append-drop}
use Rattle.std.proofs.lemmas.Bool.{cases_lt, cases_order}
use Rattle.std.proofs.lemmas.List.Elements.{All-head, All-tail}
use Rattle.c_ast.specs.declared.program.Item.{Item}
use Rattle.c_grammar.specs.declared.words.Word.{Word}
use Rattle.c_grammar.specs.declared.words.Terminal.{Terminal}
use Rattle.c_grammar.specs.Steps.{Items, Place, Leaf, build}
use Rattle.c_grammar.specs.Grammar.{Program, Symbol, N, Table, rules}
use Rattle.c_grammar.specs.Reading as reading
use Rattle.c_grammar.specs.Reading.{State, start, nesting, after, add, Nested, nested, words_of, BeginWith, Ending, Anywhere, Complete, Run, IsFront, IsFrontWay, IsReading, IsWithin}
use Rattle.c_grammar.specs.Descent.{Stop, Accepts, Faults, Deep, Descent, accepts, left_over, token, deep, other, ended, here, nowhere, mark, step, unless, rule}
use Rattle.c_grammar.specs.Faults.{nesting_at, IsTooDeep, IsProgramAtAnyDepth, IsSyntaxFault, IsDepthFault}
use Rattle.c_grammar.specs.Ways.{ways, way_at, way_number}
use Rattle.c_grammar.proofs.WayLemmas.{to_ways, from_ways}
use Rattle.c_grammar.proofs.Fronts.{Trail, trail, Longer, Meets, meets}
use Rattle.c_grammar.proofs.Descents.{deepest, within_more, within_deepest, one_stop, program_fits, program_accepted}

-- ---- a front of a run is a front

begins_cut : (ts : List Terminal) (n : ℕ) (way : List Nested) → BeginWith ts (words_of (take n way)) → BeginWith ts (words_of way)
begins_cut [] n way h = tt
begins_cut (t ∷ ts) zero way h = absurd h
begins_cut (t ∷ ts) (suc n) [] h = absurd h
begins_cut (t ∷ ts) (suc n) (w ∷ way) h = (h.0, begins_cut ts n way h.1)

pub cut : (table : Table) (s : State) (k : List Symbol) (way : List Nested) (e : Ending) → Run table s k way e → (n : ℕ) → Run table s k (take n way) Anywhere
cut table s k way e run zero = reading.stop s k
cut table s k way e (reading.stop s' p) (suc n) = reading.stop s k
cut table s k way e (reading.done s') (suc n) = reading.stop s k
cut table s k way e (reading.token s' t w p v e' h more) (suc n) = reading.token s t w p (take n v) Anywhere h (cut table s p v e more n)
cut table s k way e (reading.leaf s' t w p v e' h more) (suc n) =
    reading.leaf s t w p (take n v) Anywhere h (cut table (add (Leaf w.place w.value) s) p v e more n)
cut table s k way e (reading.here s' w p v e' more) (suc n) = reading.here s w p (take n v) Anywhere (cut table (add (Place w.word.place) s) p way e more (suc n))
cut table s k way e (reading.mark s' m p v e' more) (suc n) = reading.mark s m p (take (suc n) way) Anywhere (cut table (after m s) p way e more (suc n))
cut table s k way e (reading.step s' b p v e' more) (suc n) =
    reading.step s b p (take (suc n) way) Anywhere (cut table (record s { built = build b s.built }) p way e more (suc n))
cut table s k way e (reading.unless s' ts p v e' h more) (suc n) =
    reading.unless s ts p (take (suc n) way) Anywhere (λ g. h (begins_cut ts (suc n) way g)) (cut table s p way e more (suc n))
cut table s k way e (reading.rule s' f parts p v e' among more) (suc n) =
    reading.rule s f parts p (take (suc n) way) Anywhere among (cut table s (parts ++ p) way e more (suc n))

cut_words : (way : List Nested) (rest words : List Word) (n : ℕ) → words_of way ++ rest ≡ words → n ≤ length way → words_of (take n way) ≡ take n words
cut_words way rest words n is less =
    sym (take-map (λ w. w.word) n way) ∙ sym (take-append-le n (words_of way) rest (omega (arith, less, length-map way (λ w. w.word)))) ∙ ap (take n) is

run_front : (way : List Nested) (e : Ending) → Run rules start (N Program ∷ []) way e → Run rules start (N Program ∷ []) way Anywhere
run_front way e run =
    subst (λ (l : List Nested). Run rules start (N Program ∷ []) l Anywhere) (take_all (length way) way (omega arith)) (cut rules start (N Program ∷ []) way e run (length way))

-- where no words are left the next front is the same
at_end : (way : List Nested) (rest words : List Word) (i : ℕ) → words_of way ++ rest ≡ words → length way ≡ i + 1 → rest ≡ [] → take (i + 1) words ≡ take (i + 2) words
at_end way rest words i is long none =
    let short : length words ≡ i + 1 = omega (arith, ap length is, length-append (words_of way) rest, length-map way (λ w. w.word), long, ap length none) in
    take_all (i + 1) words (omega (arith, short)) ∙ sym (take_all (i + 2) words (omega (arith, short)))

-- the first words of a run are a front, in the same way
pub front_way : (way : List Nested) (rest words : List Word) (e : Ending) (n : ℕ) → words_of way ++ rest ≡ words → n ≤ length way → Run rules start (N Program ∷ []) way e
    → IsFrontWay (take n words) (take n way)
front_way way rest words e n is less run = (cut_words way rest words n is less, cut rules start (N Program ∷ []) way e run n)

way_length : (way : List Nested) (words : List Word) → words_of way ≡ words → length way ≡ length words
way_length way words is = sym (length-map way (λ w. w.word)) ∙ ap length is

-- a front has the nesting of the run
nesting_cut : (way : List Nested) (n i : ℕ) → i < n → nesting_at (take n way) i ≡ nesting_at way i
nesting_cut way n i less = ap (λ (l : List ℕ). get_or l i 0) (sym (take-map (λ w. w.nesting) n way)) ∙ get_or-take n (map (λ w. w.nesting) way) i 0 less

shallow_at : (limit : ℕ) (way more : List Nested) (i : ℕ) → IsWithin limit way → i < length way → nesting_at (way ++ more) i ≤ limit
shallow_at limit [] more i within less = absurd (omega (arith, less))
shallow_at limit (w ∷ way) more zero within less = All-head (λ v. v.nesting ≤ limit) w way within
shallow_at limit (w ∷ way) more (suc i) within less = shallow_at limit way more i (All-tail (λ v. v.nesting ≤ limit) w way within) (omega (arith, less))

last_at : (way : List Nested) (w : Nested) → nesting_at (way ++ w ∷ []) (length way) ≡ w.nesting
last_at [] w = refl
last_at (v ∷ way) w = last_at way w

take_take : {X : Type 0} (n m : ℕ) (xs : List X) → n ≤ m → take n (take m xs) ≡ take n xs
take_take zero m xs less = refl
take_take (suc n) zero xs less = absurd (omega (arith, less))
take_take (suc n) (suc m) [] less = refl
take_take (suc n) (suc m) (x ∷ xs) less = ap (λ l. x ∷ l) (take_take n m xs (omega (arith, less)))

-- a front of a front is one, with the same nesting
front_of_way : (words : List Word) (m n : ℕ) (way : List Nested) → n ≤ m → IsFrontWay (take m words) way → IsFrontWay (take n words) (take n way)
front_of_way words m n way less f =
    (sym (take-map (λ w. w.word) n way) ∙ ap (take n) f.0 ∙ take_take n m words less, cut rules start (N Program ∷ []) way Anywhere f.1 n)

front_of_front : (words : List Word) (m n : ℕ) → n ≤ m → IsFront (take m words) → IsFront (take n words)
front_of_front words m n less f = (take n f.0, front_of_way words m n f.0 less f.1)

-- ---- one fault at most

-- behind a word that can't go on no word is at fault
none_behind : (limit : ℕ) (words : List Word) (t u : ℕ) → IsSyntaxFault limit words t → t < u → IsFront (take u words) → u ≤ length words → ⊥
none_behind limit words t u h behind front within =
    elim h.stuck [
      | inl no_front ↦ no_front (front_of_front words u (t + 1) (omega (arith, behind)) front)
      | inr end ↦ omega (arith, behind, within, end.0)
    ]

end_or_before : (limit : ℕ) (words : List Word) (t : ℕ) → IsSyntaxFault limit words t → t ≤ length words
end_or_before limit words t h =
    elim h.stuck [
      | inl no_front ↦ elim (cases_lt (length words) t) [
        | inl past ↦ absurd (no_front (subst IsFront (take_all t words (omega (arith, past)) ∙ sym (take_all (t + 1) words (omega (arith, past)))) h.front))
        | inr within ↦ within
      ]
      | inr end ↦ omega (arith, end.0)
    ]

pub one_syntax : (limit : ℕ) (words : List Word) (t u : ℕ) → IsSyntaxFault limit words t → IsSyntaxFault limit words u → t ≡ u
one_syntax limit words t u h g =
    elim (cases_order t u) [
      | inl same ↦ same
      | inr (inl less) ↦ absurd (none_behind limit words t u h less g.front (end_or_before limit words u g))
      | inr (inr more) ↦ absurd (none_behind limit words u t g more h.front (end_or_before limit words t h))
    ]

pub one_depth : (limit : ℕ) (words : List Word) (t u : ℕ) → IsDepthFault limit words t → IsDepthFault limit words u → t ≡ u
one_depth limit words t u h g =
    elim (cases_order t u) [
      | inl same ↦ same
      | inr (inl less) ↦ absurd (g.first t less h.deep)
      | inr (inr more) ↦ absurd (h.first u more g.deep)
    ]

pub either_fault : (limit : ℕ) (words : List Word) (t u : ℕ) → IsSyntaxFault limit words t → ¬ IsDepthFault limit words u
either_fault limit words t u h = λ g.
    elim (cases_lt t u) [
      | inl behind ↦ none_behind limit words t (u + 1) h (omega (arith, behind)) g.deep.front (omega (arith, g.deep.inside))
      | inr within ↦ h.shallow u within g.deep
    ]

-- ---- a program has none

-- a word that a run nests within the limit is not too deep, where the run goes on behind it or the words end
read_shallow : (limit : ℕ) (words : List Word) (way : List Nested) (rest : List Word) (e : Ending) (i : ℕ) → words_of way ++ rest ≡ words → Run rules start (N Program ∷ []) way e
    → i + 2 ≤ length way → nesting_at way i ≤ limit → ¬ IsTooDeep limit words i
read_shallow limit words way rest e i is run goes_on low = λ h.
    let f = front_way way rest words e (i + 2) is goes_on run in
    let above = h.with_next (take (i + 2) way, f) (take (i + 2) way) f in
    omega (arith, above, low, nesting_cut way (i + 2) i (omega arith))

-- the same of the last word
last_shallow : (limit : ℕ) (words : List Word) (way : List Nested) (rest : List Word) (e : Ending) (i : ℕ) → words_of way ++ rest ≡ words → Run rules start (N Program ∷ []) way e
    → length way ≡ i + 1 → nesting_at way i ≤ limit → (IsFront (take (i + 2) words) → rest ≡ []) → ¬ IsTooDeep limit words i
last_shallow limit words way rest e i is run long low ends = λ h.
    let f = front_way way rest words e (i + 1) is (omega (arith, long)) run in
    let same = nesting_cut way (i + 1) i (omega arith) in
    let alone = h.alone (λ front.
    let all : take (i + 1) words ≡ take (i + 2) words = at_end way rest words i is long (ends front) in
    let g : IsFrontWay (take (i + 2) words) (take (i + 1) way) = subst (λ (l : List Word). IsFrontWay l (take (i + 1) way)) all f in
    let above = h.with_next front (take (i + 1) way) g in
    omega (arith, above, low, same)) (take (i + 1) way) f in
    omega (arith, alone, low, same)

pub program_shallow : (limit : ℕ) (words : List Word) (items : List Item) (way : List Nested) (i : ℕ) → IsReading words items way → IsWithin limit way → ¬ IsTooDeep limit words i
program_shallow limit words items way i reads within = λ h.
    let is = append-nil (words_of way) ∙ reads.0 in
    let inside : i < length way = omega (arith, h.inside, way_length way words reads.0) in
    let low = subst (λ (l : List Nested). nesting_at l i ≤ limit) (append-nil way) (shallow_at limit way [] i within inside) in
    elim (cases_lt (i + 1) (length way)) [
      | inl goes_on ↦ read_shallow limit words way [] (Complete (Items items ∷ [])) i is reads.1 (omega (arith, goes_on)) low h
      | inr last ↦ last_shallow limit words way [] (Complete (Items items ∷ [])) i is reads.1 (omega (arith, last, inside)) low (λ f. refl) h
    ]

pub program_no_syntax : (limit : ℕ) (words : List Word) (t : ℕ) → IsProgramAtAnyDepth words → ¬ IsSyntaxFault limit words t
program_no_syntax limit words t reads = λ h.
    let whole : IsFront (take (length words) words) =
    subst IsFront (sym (take_all (length words) words (omega arith))) (reads.1, (reads.2.0, run_front reads.1 (Complete (Items reads.0 ∷ [])) reads.2.1)) in
    elim h.stuck [
      | inl no_front ↦ elim (cases_lt t (length words)) [
        | inl inside ↦ no_front (front_of_front words (length words) (t + 1) (omega (arith, inside)) whole)
        | inr past ↦ no_front (subst IsFront (take_all (length words) words (omega arith) ∙ sym (take_all (t + 1) words (omega (arith, past)))) whole)
      ]
      | inr end ↦ end.1 reads
    ]

-- ---- the descent's stops

-- what the descent takes, by the grammar
taken : (limit : ℕ) (words : List Word) (o : Stop) (r : Trail limit start (N Program ∷ []) words o) → Run rules start (N Program ∷ []) (r.way ++ r.last) Anywhere
taken limit words o r = from_ways start (N Program ∷ []) (r.way ++ r.last) Anywhere r.run

met : (limit : ℕ) (words : List Word) (o : Stop) → Descent limit start (N Program ∷ []) words o → (n : ℕ) (way : List Nested) → IsFrontWay (take n words) way
    → Meets start (N Program ∷ []) words limit o way
met limit words o d n way f =
    meets limit start (N Program ∷ []) words o d program_fits way (drop n words)
    (ap (λ l. l ++ drop n words) f.0 ∙ take-append-drop n words) (to_ways start (N Program ∷ []) way Anywhere f.1)

-- no word that the descent goes through is too deep
goes_through : (limit : ℕ) (words : List Word) (o : Stop) (d : Descent limit start (N Program ∷ []) words o) (i : ℕ) (r : Trail limit start (N Program ∷ []) words o)
    → i < length r.way → (IsFront (take (i + 2) words) → length (r.way ++ r.last) ≡ i + 1 → r.rest ≡ []) → ¬ IsTooDeep limit words i
goes_through limit words o d i r inside ends =
    let all = r.way ++ r.last in
    let low = shallow_at limit r.way r.last i r.within inside in
    elim (cases_lt (i + 1) (length all)) [
      | inl goes_on ↦ read_shallow limit words all r.rest Anywhere i r.words (taken limit words o r) (omega (arith, goes_on)) low
      | inr last ↦
          let long : length all ≡ i + 1 = omega (arith, last, inside, length-append r.way r.last) in
          last_shallow limit words all r.rest Anywhere i r.words (taken limit words o r) long low (λ front. ends front long)
    ]

front_length : (words : List Word) (n : ℕ) (way : List Nested) → n ≤ length words → IsFrontWay (take n words) way → length way ≡ n
front_length words n way less f = way_length way (take n words) f.0 ∙ length-take-le n words less

-- ---- a word that can't go on

raised : (limit more : ℕ) (s : State) (k : List Symbol) (ws : List Word) (o : Stop) (n : ℕ) → limit ≤ more → Descent limit s k ws o → o ≡ Faults n → Descent more s k ws o
raised limit more s k ws o n up (accepts s') is = cc
raised limit more s k ws o n up (left_over s' w v) is = left_over s w v
raised limit more s k ws o n up (token s' x t f p w v o' want h low on) is = token s x t f p w v o want h (omega (arith, low, up)) (raised limit more (f w s) p v o n up on is)
raised limit more s k ws o n up (deep s' x t f p w v want h high) is = cc
raised limit more s k ws o n up (other s' x t f p w v want differs) is = other s x t f p w v want differs
raised limit more s k ws o n up (ended s' x t f p want) is = ended s x t f p want
raised limit more s k ws o n up (here s' p w v o' on) is = here s p w v o (raised limit more (add (Place w.place) s) p (w ∷ v) o n up on is)
raised limit more s k ws o n up (nowhere s' p) is = nowhere s p
raised limit more s k ws o n up (mark s' m p v o' on) is = mark s m p ws o (raised limit more (after m s) p ws o n up on is)
raised limit more s k ws o n up (step s' b p v o' on) is = step s b p ws o (raised limit more (record s { built = build b s.built }) p ws o n up on is)
raised limit more s k ws o n up (unless s' ts p v o' guard on) is = unless s ts p ws o guard (raised limit more s p ws o n up on is)
raised limit more s k ws o n up (rule s' f p v o' below on) is = rule s f p ws o below (raised limit more s (way_at ways f (way_number f ws) ++ p) ws o n up on is)

no_reading : (limit : ℕ) (words : List Word) (n : ℕ) → Descent limit start (N Program ∷ []) words (Faults n) → ¬ IsProgramAtAnyDepth words
no_reading limit words n d = λ h.
    let big = max limit (deepest h.1) in
    let up = raised limit big start (N Program ∷ []) words (Faults n) n (omega arith) d refl in
    let whole = program_accepted big words h.0 h.1 h.2 (within_more (deepest h.1) big h.1 (omega arith) (within_deepest h.1)) in
    let same : Faults n ≡ Accepts (Items h.0 ∷ []) = one_stop big start (N Program ∷ []) words (Faults n) (Accepts (Items h.0 ∷ [])) up whole in cc

none_left : (rest : List Word) → length rest ≡ 0 → rest ≡ []
none_left [] is = refl
none_left (w ∷ rest) is = absurd (omega (arith, is))

pub syntax_fault : (limit : ℕ) (words : List Word) (n : ℕ) → Descent limit start (N Program ∷ []) words (Faults n) → IsSyntaxFault limit words (length words - n)
syntax_fault limit words n d =
    let r = trail limit start (N Program ∷ []) words (Faults n) d in
    let all = r.way ++ r.last in
    let long : length all ≡ length r.way = length-append r.way r.last ∙ (let none = ap length r.ends.0 in omega (arith, none)) in
    let whole : length words ≡ length r.way + n = omega (arith, ap length r.words, length-append (words_of all) r.rest, length-map all (λ w. w.word), long, r.ends.1) in
    let stops : (i : ℕ) → IsFront (take i words) → i ≤ length words → i + n ≤ length words = λ i front less.
    let m = met limit words (Faults n) d i front.0 front.1 in omega (arith, m, front_length words i front.0 less front.1) in
    record {
      shallow = λ i less.
          elim (cases_lt i (length r.way)) [
            | inl inside ↦ goes_through limit words (Faults n) d i r inside (λ front last.
                none_left r.rest (elim (cases_lt 0 n) [
                  | inl some ↦ let m = stops (i + 2) front (omega (arith, whole, last, long, some)) in absurd (omega (arith, m, whole, last, long))
                  | inr none ↦ omega (arith, none, r.ends.1)
                ]))
            | inr past ↦ λ h. let m = stops (i + 1) h.front (omega (arith, h.inside)) in omega (arith, m, whole, past, less)
          ];
      front = (take (length words - n) all, front_way all r.rest words Anywhere (length words - n) r.words (omega (arith, whole, long)) (taken limit words (Faults n) r));
      stuck = elim (cases_lt 0 n) [
        | inl some ↦ inl (λ front. let m = stops (length words - n + 1) front (omega (arith, whole, some)) in omega (arith, m, whole))
        | inr none ↦ inr (omega (arith, none), no_reading limit words n d)
      ];
    }

-- ---- a word that is too deep

longer_front : (words : List Word) (t : ℕ) (way : List Nested) → length way ≡ t + 1 → Longer start (N Program ∷ []) words way → IsFront (take (t + 2) words) × (t + 2 ≤ length words)
longer_front words t way long l =
    let run = from_ways start (N Program ∷ []) l.longer Anywhere l.run in
    let inside : t + 2 ≤ length l.longer = omega (arith, l.more, long) in (
      (take (t + 2) l.longer, front_way l.longer l.rest words Anywhere (t + 2) l.words inside run),
      omega (arith, inside, ap length l.words, length-append (words_of l.longer) l.rest, length-map l.longer (λ w. w.word)),
    )

pub depth_fault : (limit : ℕ) (words : List Word) (n : ℕ) → Descent limit start (N Program ∷ []) words (Deep n) → IsDepthFault limit words (length words - n)
depth_fault limit words n d =
    let r = trail limit start (N Program ∷ []) words (Deep n) d in
    let all = r.way ++ r.last in
    let t = length words - n in
    let one : length r.last ≡ 1 = ap length r.ends.1 in
    let long : length all ≡ length r.way + 1 = length-append r.way r.last ∙ omega (arith, one) in
    let whole : length words ≡ length r.way + n = omega (arith, ap length r.words, length-append (words_of all) r.rest, length-map all (λ w. w.word), long, r.ends.3) in
    let some : 0 < n = omega (arith, r.ends.3) in
    let here : t + n ≡ length words = omega (arith, whole) in
    record {
      deep = record {
        inside = omega (arith, whole, some);
        front = (take (t + 1) all, front_way all r.rest words Anywhere (t + 1) r.words (omega (arith, whole, long)) (taken limit words (Deep n) r));
        with_next = λ front way f.
            elim (cases_lt (t + 1) (length words)) [
              | inl goes_on ↦
                  let is = front_length words (t + 2) way (omega (arith, goes_on)) f in
                  elim (met limit words (Deep n) d (t + 2) way f t here (omega (arith, is))) [ inl above ↦ above | inr l ↦ absurd (omega (arith, l.0, is)) ]
              | inr last ↦
                  let is = way_length way (take (t + 2) words) f.0 ∙ ap length (take_all (t + 2) words (omega (arith, last))) in
                  elim (met limit words (Deep n) d (t + 2) way f t here (omega (arith, is, whole, some))) [
                    | inl above ↦ above
                    | inr l ↦ absurd (omega (arith, (longer_front words t way l.0 l.1).1, last))
                  ]
            ];
        alone = λ none way f.
            let is = front_length words (t + 1) way (omega (arith, whole, some)) f in
            elim (met limit words (Deep n) d (t + 1) way f t here (omega (arith, is))) [
              | inl above ↦ above
              | inr l ↦ absurd (none (longer_front words t way l.0 l.1).0)
            ];
      };
      first = λ i less. goes_through limit words (Deep n) d i r (omega (arith, less, whole)) (λ front last. absurd (omega (arith, last, long, less, whole)));
    }
