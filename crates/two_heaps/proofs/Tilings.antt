-- Holes and blocks lie end to end, and take and give keep that.
use Rattle.std.proofs.Common.{◌≡◌, ℕ, zero, suc, ◌+◌, ◌%◌, ◌<◌, ◌≤◌, ◌⊎◌, inl, inr, Bool, cond, leb, Some, List, [], ◌∷◌, ◌++◌, length, get_or, refl, sym, ◌∙◌, ap, subst, arith}
use Rattle.std.specs.Prelude.{find, All}
use Rattle.std.proofs.lemmas.List.Elements.{All-nil, All-cons}
use Rattle.std.proofs.lemmas.Bool.{cases_lt, cases_Bool, lt-ltb, le-ltb, leb-true}
use Rattle.std.proofs.lemmas.Option.{same_Some, none-some}
use Rattle.cv_word.specs.Heap.{Span, end_of, span_between, hole_between, starting_above, free_to, merged, replaced_at}
use Rattle.two_heaps.specs.Tiling.{Fills, Tiles}
use Rattle.two_heaps.specs.Tiling.Tiles.{end, last_hole, block, hole_and_block}
use Rattle.two_heaps.specs.Kept.{Rises, begins}
use Rattle.two_heaps.proofs.Ordered.{found, passed_by, replaced_skip, replaced_first, replaced_here}
use Rattle.two_heaps.proofs.Merging.{merged_skip, merged_first, merged_onto, free_to_none, free_to_first, above_first}
use Rattle.two_heaps.proofs.Ordered.{all_above, rises_lower, rises_at, find_from}

-- ---- by offset

pub fills_len : (from to : ℕ) (span : Span) → Fills from to span → (0 < span.len) × (span.at ≡ from) × (from + span.len ≡ to)
fills_len from to span f = let b = f.begins in let e = f.ends in let s = f.some in (omega arith, b, omega arith)

pub holes_rise : (from to : ℕ) (holes blocks : List Span) → Tiles from to holes blocks → Rises 1 from holes
holes_rise from to holes blocks (end e) = tt
holes_rise from to holes blocks (last_hole {hole = h} f) = let l = fills_len from to h f in (omega (arith, l.1), l.0, tt)
holes_rise from to holes blocks (block {next = n} {block = b} {holes = hs} {blocks = bs} f t) =
    rises_lower 1 from n hs (let s = f.some in omega arith) (holes_rise n to hs bs t)
holes_rise from to holes blocks (hole_and_block {middle = m} {next = n} {hole = h} {block = b} {holes = hs} {blocks = bs} f g t) =
    let l = fills_len from m h f in
    let s = g.some in
    (omega (arith, l.1), l.0, rises_lower 1 (end_of h + 1) n hs (omega (arith, l.1, l.2)) (holes_rise n to hs bs t))

pub blocks_rise : (from to : ℕ) (holes blocks : List Span) → Tiles from to holes blocks → Rises 0 from blocks
blocks_rise from to holes blocks (end e) = tt
blocks_rise from to holes blocks (last_hole f) = tt
blocks_rise from to holes blocks (block {next = n} {block = b} {holes = hs} {blocks = bs} f t) =
    let l = fills_len from n b f in
    (omega (arith, l.1), l.0, rises_lower 0 (end_of b + 0) n bs (omega (arith, l.1, l.2)) (blocks_rise n to hs bs t))
blocks_rise from to holes blocks (hole_and_block {middle = m} {next = n} {hole = h} {block = b} {holes = hs} {blocks = bs} f g t) =
    let l = fills_len m n b g in
    let s = f.some in
    (omega (arith, l.1), l.0, rises_lower 0 (end_of b + 0) n bs (omega (arith, l.1, l.2)) (blocks_rise n to hs bs t))

pub tiles_up : (from to : ℕ) (holes blocks : List Span) → Tiles from to holes blocks → from ≤ to
tiles_up from to holes blocks (end e) = omega arith
tiles_up from to holes blocks (last_hole f) = let s = f.some in omega arith
tiles_up from to holes blocks (block {next = n} {holes = hs} {blocks = bs} f t) = let s = f.some in let r = tiles_up n to hs bs t in omega arith
tiles_up from to holes blocks (hole_and_block {next = n} {holes = hs} {blocks = bs} f g t) =
    let s = f.some in let u = g.some in let r = tiles_up n to hs bs t in omega arith

pub holes_count : (from to : ℕ) (holes blocks : List Span) → Tiles from to holes blocks → length holes ≤ length blocks + 1
holes_count from to holes blocks (end e) = omega arith
holes_count from to holes blocks (last_hole f) = omega arith
holes_count from to holes blocks (block {next = n} {holes = hs} {blocks = bs} f t) = let r = holes_count n to hs bs t in omega arith
holes_count from to holes blocks (hole_and_block {next = n} {holes = hs} {blocks = bs} f g t) = let r = holes_count n to hs bs t in omega arith

-- each span lies inside
pub holes_inside : (from to : ℕ) (holes blocks : List Span) → Tiles from to holes blocks → All (λ (s : Span). end_of s ≤ to) holes
holes_inside from to holes blocks (end e) = All-nil (λ (s : Span). end_of s ≤ to)
holes_inside from to holes blocks (last_hole {hole = h} f) =
    let e = f.ends in All-cons (λ (s : Span). end_of s ≤ to) h [] (omega arith) (All-nil (λ (s : Span). end_of s ≤ to))
holes_inside from to holes blocks (block {next = n} {holes = hs} {blocks = bs} f t) = holes_inside n to hs bs t
holes_inside from to holes blocks (hole_and_block {middle = m} {next = n} {hole = h} {block = b} {holes = hs} {blocks = bs} f g t) =
    let l = fills_len from m h f in
    let s = g.some in
    let up = tiles_up n to hs bs t in
    All-cons (λ (s : Span). end_of s ≤ to) h hs (omega (arith, l.1, l.2)) (holes_inside n to hs bs t)

pub blocks_inside : (from to : ℕ) (holes blocks : List Span) → Tiles from to holes blocks → All (λ (s : Span). end_of s ≤ to) blocks
blocks_inside from to holes blocks (end e) = All-nil (λ (s : Span). end_of s ≤ to)
blocks_inside from to holes blocks (last_hole f) = All-nil (λ (s : Span). end_of s ≤ to)
blocks_inside from to holes blocks (block {next = n} {block = b} {holes = hs} {blocks = bs} f t) =
    let l = fills_len from n b f in
    let up = tiles_up n to hs bs t in
    All-cons (λ (s : Span). end_of s ≤ to) b bs (omega (arith, l.1, l.2)) (blocks_inside n to hs bs t)
blocks_inside from to holes blocks (hole_and_block {middle = m} {next = n} {hole = h} {block = b} {holes = hs} {blocks = bs} f g t) =
    let l = fills_len m n b g in
    let up = tiles_up n to hs bs t in
    All-cons (λ (s : Span). end_of s ≤ to) b bs (omega (arith, l.1, l.2)) (blocks_inside n to hs bs t)

-- no hole has a byte in common with a block
pub tiles_apart : (from to : ℕ) (holes blocks : List Span) → Tiles from to holes blocks → (i j : ℕ) (d e : Span) → i < length holes → j < length blocks →
    (end_of (get_or holes i d) ≤ (get_or blocks j e).at) ⊎ (end_of (get_or blocks j e) ≤ (get_or holes i d).at)
tiles_apart from to holes blocks (end same) i j d e in_holes in_blocks = absurd (omega arith)
tiles_apart from to holes blocks (last_hole f) i j d e in_holes in_blocks = absurd (omega arith)
tiles_apart from to holes blocks (block {next = n} {block = b} {holes = hs} {blocks = bs} f t) i zero d e in_holes in_blocks =
    let l = fills_len from n b f in
    let low = rises_at 1 n hs i d (holes_rise n to hs bs t) in_holes in
    inr (omega (arith, l.1, l.2, low.0))
tiles_apart from to holes blocks (block {next = n} {block = b} {holes = hs} {blocks = bs} f t) i (suc j) d e in_holes in_blocks =
    tiles_apart n to hs bs t i j d e in_holes (omega arith)
tiles_apart from to holes blocks (hole_and_block {middle = m} {next = n} {hole = h} {block = b} {holes = hs} {blocks = bs} f g t) zero zero d e in_holes in_blocks =
    let k = fills_len from m h f in
    let l = fills_len m n b g in
    inl (omega (arith, k.1, k.2, l.1))
tiles_apart from to holes blocks (hole_and_block {middle = m} {next = n} {hole = h} {block = b} {holes = hs} {blocks = bs} f g t) zero (suc j) d e in_holes in_blocks =
    let k = fills_len from m h f in
    let l = fills_len m n b g in
    let low = rises_at 0 n bs j e (blocks_rise n to hs bs t) (omega arith) in
    inl (omega (arith, k.1, k.2, l.0, l.2, low.0))
tiles_apart from to holes blocks (hole_and_block {middle = m} {next = n} {hole = h} {block = b} {holes = hs} {blocks = bs} f g t) (suc i) zero d e in_holes in_blocks =
    let l = fills_len m n b g in
    let low = rises_at 1 n hs i d (holes_rise n to hs bs t) (omega arith) in
    inr (omega (arith, l.1, l.2, low.0))
tiles_apart from to holes blocks (hole_and_block {middle = m} {next = n} {hole = h} {block = b} {holes = hs} {blocks = bs} f g t) (suc i) (suc j) d e in_holes in_blocks =
    tiles_apart n to hs bs t i j d e (omega arith) (omega arith)

-- ---- take

front_fills : (from to size : ℕ) (hole : Span) → Fills from to hole → 0 < size → size % 16 ≡ 0 → Fills from (from + size) (record { at = hole.at; len = size })
front_fills from to size hole f some units = let b = f.begins in record { begins = f.begins; ends = omega arith; some = omega arith; units = units }

rest_fills : (from to size : ℕ) (hole : Span) → Fills from to hole → size < hole.len → size % 16 ≡ 0 → Fills (from + size) to (span_between (hole.at + size) (end_of hole))
rest_fills from to size hole f lt units =
    let b = f.begins in let e = f.ends in let u = f.units in
    record { begins = omega arith; ends = omega arith; some = omega arith; units = omega arith }

-- a hole that begins a heap, with its front a block and the rest, if any, a hole
pub cut_tiles : (from middle to size : ℕ) (hole : Span) (holes blocks : List Span) → Fills from middle hole → 0 < size → size ≤ hole.len → size % 16 ≡ 0 →
    ((next : ℕ) (rest : Span) → Fills next middle rest → Tiles next to (rest ∷ holes) blocks) → Tiles middle to holes blocks →
    Tiles from to (hole_between (hole.at + size) (end_of hole) ++ holes) (record { at = hole.at; len = size } ∷ blocks)
cut_tiles from middle to size hole holes blocks f some le units with_rest without =
    let l = fills_len from middle hole f in
    elim (cases_lt size hole.len) [
      | inl lt ↦
          let e : hole_between (hole.at + size) (end_of hole) ≡ span_between (hole.at + size) (end_of hole) ∷ [] =
          ap (λ b. cond b (span_between (hole.at + size) (end_of hole) ∷ []) []) (lt-ltb (hole.at + size) (end_of hole) (omega arith)) in
          let P : List Span → Type 0 = λ ss. Tiles from to (ss ++ holes) (record { at = hole.at; len = size } ∷ blocks) in
          subst P (sym e) (block (front_fills from middle size hole f some units) (with_rest (from + size) (span_between (hole.at + size) (end_of hole)) (rest_fills from middle size hole f lt units)))
      | inr ge ↦
          let e : hole_between (hole.at + size) (end_of hole) ≡ [] =
          ap (λ b. cond b (span_between (hole.at + size) (end_of hole) ∷ []) []) (le-ltb (hole.at + size) (end_of hole) (omega arith)) in
          let P : List Span → Type 0 = λ ss. Tiles from to (ss ++ holes) (record { at = hole.at; len = size } ∷ blocks) in
          let same : from + size ≡ middle = omega (arith, l.2) in
          let Q : ℕ → Type 0 = λ n. Tiles n to holes blocks in
          subst P (sym e) (block (front_fills from middle size hole f some units) (subst Q (sym same) without))
    ]

-- the list of holes or of blocks of a heap with a hole cut
both : (from to : ℕ) (holes blocks holes' blocks' : List Span) → holes' ≡ holes → blocks' ≡ blocks → Tiles from to holes blocks → Tiles from to holes' blocks'
both from to holes blocks holes' blocks' e g t =
    let P : List Span → Type 0 = λ l. Tiles from to l blocks in
    let Q : List Span → Type 0 = λ l. Tiles from to holes' l in
    subst Q (sym g) (subst P (sym e) t)

abbrev pub fits : ℕ → Span → Bool
fits size hole = leb size hole.len

abbrev new_block : ℕ → Span → List Span
new_block size hole = record { at = hole.at; len = size } ∷ []

-- the heap with a hole's front made a block
abbrev Cut : ℕ → ℕ → ℕ → List Span → List Span → Span → Type 0
Cut size from to holes blocks hole =
    Tiles from to (replaced_at hole.at (hole_between (hole.at + size) (end_of hole)) holes) (replaced_at hole.at (new_block size hole) blocks)

cut_last : (size from to : ℕ) (hole : Span) → 0 < size → size % 16 ≡ 0 → Fills from to hole → size ≤ hole.len → Cut size from to (hole ∷ []) [] hole
cut_last size from to hole some units f le =
    both from to (hole_between (hole.at + size) (end_of hole) ++ []) (new_block size hole) _ _
    (replaced_here 1 from (hole_between (hole.at + size) (end_of hole)) hole [] (holes_rise from to (hole ∷ []) [] (last_hole f))) refl
    (cut_tiles from to to size hole [] [] f some le units (λ next rest r. last_hole r) (end refl))

cut_first : (size from middle next to : ℕ) (hole behind : Span) (holes blocks : List Span) → 0 < size → size % 16 ≡ 0 →
    Fills from middle hole → Fills middle next behind → Tiles next to holes blocks → size ≤ hole.len → Cut size from to (hole ∷ holes) (behind ∷ blocks) hole
cut_first size from middle next to hole behind holes blocks some units f g t le =
    let l = fills_len from middle hole f in
    both from to (hole_between (hole.at + size) (end_of hole) ++ holes) (new_block size hole ++ (behind ∷ blocks)) _ _
    (replaced_here 1 from (hole_between (hole.at + size) (end_of hole)) hole holes (holes_rise from to (hole ∷ holes) (behind ∷ blocks) (hole_and_block f g t)))
    (replaced_first 0 middle hole.at (new_block size hole) (behind ∷ blocks) (omega (arith, l.0, l.1, l.2)) (blocks_rise middle to holes (behind ∷ blocks) (block g t)))
    (cut_tiles from middle to size hole holes (behind ∷ blocks) f some le units (λ at rest r. hole_and_block r g t) (block g t))

pub take_tiles : (size from to : ℕ) (holes blocks : List Span) (hole : Span) → 0 < size → size % 16 ≡ 0 → Tiles from to holes blocks →
    find (fits size) holes ≡ Some hole → Cut size from to holes blocks hole
take_tiles size from to holes blocks hole some units (end e) is = cc
take_tiles size from to holes blocks hole some units (last_hole {hole = h} f) is =
    elim (cases_Bool (fits size h)) [
      | inl passes ↦
          let same : h ≡ hole = same_Some h hole (sym (found (fits size) h [] passes) ∙ is) in
          subst (Cut size from to (h ∷ []) []) same (cut_last size from to h some units f (leb-true size h.len passes))
      | inr fails ↦ absurd (none-some hole (sym (passed_by (fits size) h [] fails) ∙ is))
    ]
take_tiles size from to holes blocks hole some units (block {next = n} {block = b} {holes = hs} {blocks = bs} f t) is =
    let l = fills_len from n b f in
    let low = find_from 1 n (fits size) hs hole (holes_rise n to hs bs t) is in
    both from to (replaced_at hole.at (hole_between (hole.at + size) (end_of hole)) hs) (b ∷ replaced_at hole.at (new_block size hole) bs) _ _ refl
    (replaced_skip hole.at (new_block size hole) b bs (omega (arith, l.0, l.1, l.2))) (block f (take_tiles size n to hs bs hole some units t is))
take_tiles size from to holes blocks hole some units (hole_and_block {middle = m} {next = n} {hole = h} {block = b} {holes = hs} {blocks = bs} f g t) is =
    let k = fills_len from m h f in
    let l = fills_len m n b g in
    elim (cases_Bool (fits size h)) [
      | inl passes ↦
          let same : h ≡ hole = same_Some h hole (sym (found (fits size) h hs passes) ∙ is) in
          subst (Cut size from to (h ∷ hs) (b ∷ bs)) same (cut_first size from m n to h b hs bs some units f g t (leb-true size h.len passes))
      | inr fails ↦
          let later : find (fits size) hs ≡ Some hole = sym (passed_by (fits size) h hs fails) ∙ is in
          let low = find_from 1 n (fits size) hs hole (holes_rise n to hs bs t) later in
          both from to (h ∷ replaced_at hole.at (hole_between (hole.at + size) (end_of hole)) hs) (b ∷ replaced_at hole.at (new_block size hole) bs) _ _
          (replaced_skip hole.at (hole_between (hole.at + size) (end_of hole)) h hs (omega (arith, k.1, k.2, l.0, l.2)))
          (replaced_skip hole.at (new_block size hole) b bs (omega (arith, l.0, l.1, l.2)))
          (hole_and_block f g (take_tiles size n to hs bs hole some units t later))
    ]

-- ---- give

between_fills : (from to n : ℕ) → from < to → from % 16 ≡ 0 → to % 16 ≡ 0 → n ≡ to → Fills from to (span_between from n)
between_fills from to n lt aligned multiple e = record { begins = refl; ends = omega arith; some = lt; units = omega arith }

-- the same heap with the first hole's end and what is above it spelled in other words
spelled : (from to p q : ℕ) (above rest blocks : List Span) → p ≡ q → above ≡ rest → Tiles from to (span_between from q ∷ rest) blocks → Tiles from to (span_between from p ∷ above) blocks
spelled from to p q above rest blocks e g t =
    let P : ℕ → Type 0 = λ n. Tiles from to (span_between from n ∷ rest) blocks in
    let Q : List Span → Type 0 = λ l. Tiles from to (span_between from p ∷ l) blocks in
    subst Q (sym g) (subst P (sym e) t)

-- free bytes before a heap, merged with the hole that begins it, if one does
free_front : (from next to : ℕ) (holes blocks : List Span) → from < next → from % 16 ≡ 0 → next % 16 ≡ 0 → Tiles next to holes blocks →
    Tiles from to (span_between from (free_to next holes) ∷ starting_above next holes) blocks
free_front from next to holes blocks lt aligned multiple (end e) = last_hole (between_fills from to next (omega arith) aligned (omega arith) e)
free_front from next to holes blocks lt aligned multiple (last_hole {hole = h} f) =
    let l = fills_len next to h f in
    let u = f.units in
    spelled from to _ (end_of h) _ [] [] (free_to_first next h [] f.begins) (above_first 1 next h [] f.begins (omega (arith, l.0, l.1)) tt)
    (last_hole (between_fills from to (end_of h) (omega (arith, l.0, l.2)) aligned (omega (arith, l.2)) f.ends))
free_front from next to holes blocks lt aligned multiple (block {next = n} {block = b} {holes = hs} {blocks = bs} f t) =
    let up = f.some in
    let r = holes_rise n to hs bs t in
    spelled from to _ next _ hs (b ∷ bs) (free_to_none 1 n next hs up r) (all_above 1 n next hs up r)
    (hole_and_block (between_fills from next next lt aligned multiple refl) f t)
free_front from next to holes blocks lt aligned multiple (hole_and_block {middle = m} {next = n} {hole = h} {block = b} {holes = hs} {blocks = bs} f g t) =
    let l = fills_len next m h f in
    let u = f.units in
    let r = holes_rise next to (h ∷ hs) (b ∷ bs) (hole_and_block f g t) in
    spelled from to _ (end_of h) _ hs (b ∷ bs) (free_to_first next h hs f.begins) (above_first 1 next h hs f.begins (omega (arith, l.0, l.1)) r.2)
    (hole_and_block (between_fills from m (end_of h) (omega (arith, l.0, l.2)) aligned (omega (arith, l.2)) f.ends) g t)

free_front_at : (from next to begins ends : ℕ) (holes blocks : List Span) → begins ≡ from → ends ≡ next → from < next → from % 16 ≡ 0 → next % 16 ≡ 0 → Tiles next to holes blocks →
    Tiles from to (span_between begins (free_to ends holes) ∷ starting_above ends holes) blocks
free_front_at from next to begins ends holes blocks e g lt aligned multiple t =
    let P : ℕ → Type 0 = λ n. Tiles from to (span_between n (free_to next holes) ∷ starting_above next holes) blocks in
    let Q : ℕ → Type 0 = λ n. Tiles from to (span_between begins (free_to n holes) ∷ starting_above n holes) blocks in
    subst Q (sym g) (subst P (sym e) (free_front from next to holes blocks lt aligned multiple t))

-- the heap with a block made a hole
abbrev Freed : ℕ → ℕ → List Span → List Span → Span → Type 0
Freed from to holes blocks out = Tiles from to (merged out holes) (replaced_at out.at [] blocks)

freed_first : (from next to : ℕ) (out : Span) (holes blocks : List Span) → from % 16 ≡ 0 → Fills from next out → Tiles next to holes blocks → Freed from to holes (out ∷ blocks) out
freed_first from next to out holes blocks aligned f t =
    let l = fills_len from next out f in
    let u = f.units in
    both from to (span_between out.at (free_to (end_of out) holes) ∷ starting_above (end_of out) holes) blocks _ _
    (merged_first 1 next out holes (omega (arith, l.1, l.2)) (holes_rise next to holes blocks t))
    (replaced_here 0 from [] out blocks (blocks_rise from to holes (out ∷ blocks) (block f t)))
    (free_front_at from next to out.at (end_of out) holes blocks f.begins f.ends f.some aligned (omega (arith, l.2)) t)

freed_behind : (from middle next to : ℕ) (hole out : Span) (holes blocks : List Span) → from % 16 ≡ 0 → Fills from middle hole → Fills middle next out → Tiles next to holes blocks →
    Freed from to (hole ∷ holes) (out ∷ blocks) out
freed_behind from middle next to hole out holes blocks aligned f g t =
    let k = fills_len from middle hole f in
    let l = fills_len middle next out g in
    let u = f.units in
    let v = g.units in
    both from to (span_between hole.at (free_to (end_of out) holes) ∷ starting_above (end_of out) holes) blocks _ _
    (merged_onto 1 next out hole holes k.0 l.0 (f.ends ∙ sym g.begins) (omega (arith, l.1, l.2)) (holes_rise next to holes blocks t))
    (replaced_here 0 middle [] out blocks (blocks_rise middle to holes (out ∷ blocks) (block g t)))
    (free_front_at from next to hole.at (end_of out) holes blocks f.begins g.ends (omega (arith, k.0, k.2, l.0, l.2)) aligned (omega (arith, k.2, l.2)) t)

pub give_tiles : (at from to : ℕ) (holes blocks : List Span) (out : Span) → from % 16 ≡ 0 → Tiles from to holes blocks →
    find (begins at) blocks ≡ Some out → Freed from to holes blocks out
give_tiles at from to holes blocks out aligned (end e) is = cc
give_tiles at from to holes blocks out aligned (last_hole f) is = cc
give_tiles at from to holes blocks out aligned (block {next = n} {block = b} {holes = hs} {blocks = bs} f t) is =
    let l = fills_len from n b f in
    let u = f.units in
    elim (cases_Bool (begins at b)) [
      | inl passes ↦
          let same : b ≡ out = same_Some b out (sym (found (begins at) b bs passes) ∙ is) in
          subst (Freed from to hs (b ∷ bs)) same (freed_first from n to b hs bs aligned f t)
      | inr fails ↦
          let later : find (begins at) bs ≡ Some out = sym (passed_by (begins at) b bs fails) ∙ is in
          let low = find_from 0 n (begins at) bs out (blocks_rise n to hs bs t) later in
          both from to (merged out hs) (b ∷ replaced_at out.at [] bs) _ _ refl
          (replaced_skip out.at [] b bs (omega (arith, l.0, l.1, l.2)))
          (block f (give_tiles at n to hs bs out (omega (arith, l.2)) t later))
    ]
give_tiles at from to holes blocks out aligned (hole_and_block {middle = m} {next = n} {hole = h} {block = b} {holes = hs} {blocks = bs} f g t) is =
    let k = fills_len from m h f in
    let l = fills_len m n b g in
    let u = f.units in
    let v = g.units in
    elim (cases_Bool (begins at b)) [
      | inl passes ↦
          let same : b ≡ out = same_Some b out (sym (found (begins at) b bs passes) ∙ is) in
          subst (Freed from to (h ∷ hs) (b ∷ bs)) same (freed_behind from m n to h b hs bs aligned f g t)
      | inr fails ↦
          let later : find (begins at) bs ≡ Some out = sym (passed_by (begins at) b bs fails) ∙ is in
          let low = find_from 0 n (begins at) bs out (blocks_rise n to hs bs t) later in
          both from to (h ∷ merged out hs) (b ∷ replaced_at out.at [] bs) _ _
          (merged_skip out h hs (omega arith) (omega (arith, k.1, k.2, l.0, l.2)))
          (replaced_skip out.at [] b bs (omega (arith, l.0, l.1, l.2)))
          (hole_and_block f g (give_tiles at n to hs bs out (omega (arith, k.2, l.2)) t later))
    ]
