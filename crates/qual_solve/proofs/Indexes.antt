-- The index of a graph's arrows, an arrow at a time.
use Rattle.std.proofs.Common.{◌≡◌, ◌≢◌, ℕ, ◌+◌, ◌-◌, ◌<◌, ◌≤◌, inl, inr, List, [], ◌∷◌, ◌++◌, length, get_or, set, replicate, refl, sym, ◌∙◌, ap, subst, arith, length-append}
use Rattle.std.proofs.lemmas.Bool.{cases_eq}
use Rattle.std.proofs.lemmas.List.{get_or-set_same, get_or-set_other, length-set, get_or-replicate, length-replicate, get_or_default}
use Rattle.qual_solve.specs.Distances.{IsIndexed}
use Rattle.qual_solve.proofs.Places.{Place, old, last, place_of}

-- as many zeros
abbrev zeros : ℕ → List ℕ
zeros nodes = replicate nodes 0

zero_at : (nodes node : ℕ) → node < length (zeros nodes) → get_or (zeros nodes) node 0 ≡ 0
zero_at nodes node lt =
    let long : length (zeros nodes) ≡ nodes = length-replicate nodes 0 in
    let inside : node < nodes = omega arith in
    get_or-replicate nodes node 0 0 inside

-- no arrow yet
indexed_none : (near : List ℕ) (nodes : ℕ) → IsIndexed near 0 (zeros nodes) []
indexed_none near nodes = record {
  each = refl;
  within = λ node lt. omega (arith, zero_at nodes node lt);
  all = λ arrow lt. absurd (omega arith);
  there = λ node lt some. absurd (omega (arith, zero_at nodes node lt));
  lower = λ arrow lt. absurd (omega arith);
  none = λ arrow between lt low high same. omega arith;
  same = λ arrow lt some. absurd (omega arith);
}

-- the next arrow, which leaves this node
indexed_next : (near : List ℕ) (count node : ℕ) (upto before : List ℕ) →
    IsIndexed near count upto before → node < length upto → get_or near count 0 ≡ node →
    IsIndexed near (count + 1) (set upto node (count + 1)) (before ++ get_or upto node 0 ∷ [])
indexed_next near count node upto before is lt e =
    let upto' = set upto node (count + 1) in
    let bound = get_or upto node 0 in
    let before' = before ++ bound ∷ [] in
    let long : length before' ≡ length before + 1 = length-append before (bound ∷ []) in
    let each = is.each in
    let here : get_or upto' node 0 ≡ count + 1 = get_or-set_same upto node (count + 1) 0 lt in
    let there : (other : ℕ) → other ≢ node → get_or upto' other 0 ≡ get_or upto other 0 =
    λ other ne. get_or-set_other upto node other (count + 1) 0 ne in
    let size : length upto' ≡ length upto = length-set upto node (count + 1) in
    let low : bound ≤ count = is.within node lt in
    let at : (arrow : ℕ) → arrow < count + 1 → Place before bound arrow = λ arrow h. place_of before bound arrow (omega (arith, long, each)) in
    record {
      each = omega (arith, long, each);
      within = λ other h. elim (cases_eq other node) [
        | inl same ↦ omega (arith, here, ap (λ n. get_or upto' n 0) same)
        | inr ne ↦ omega (arith, there other ne, is.within other (omega (arith, size)))
      ];
      all = λ arrow h. elim (cases_eq (get_or near arrow 0) node) [
        | inl same ↦ omega (arith, here, ap (λ n. get_or upto' n 0) same)
        | inr ne ↦
            let apart : arrow ≢ count = λ same. ne (ap (λ n. get_or near n 0) same ∙ e) in
            omega (arith, there (get_or near arrow 0) ne, is.all arrow (omega (arith, apart)))
      ];
      there = λ other h some. elim (cases_eq other node) [
        | inl same ↦
            let top : get_or upto' other 0 - 1 ≡ count = omega (arith, here, ap (λ n. get_or upto' n 0) same) in
            ap (λ n. get_or near n 0) top ∙ e ∙ sym same
        | inr ne ↦
            let stays = there other ne in
            ap (λ n. get_or near (n - 1) 0) stays ∙ is.there other (omega (arith, size)) (omega (arith, stays, some))
      ];
      lower = λ arrow h. elim (at arrow h) [
        | old below is_old ↦ omega (arith, is_old, is.lower arrow (omega (arith, each, below)))
        | last top is_new ↦ omega (arith, is_new, low, top, each)
      ];
      none = λ arrow between h from upto_arrow same. elim (at arrow h) [
        | old below is_old ↦ is.none arrow between (omega (arith, each, below)) (omega (arith, is_old, from)) upto_arrow same
        | last top is_new ↦
            let at_count : get_or near arrow 0 ≡ node = ap (λ n. get_or near n 0) (top ∙ each) ∙ e in
            let all = is.all between (omega (arith, top, each, upto_arrow)) in
            let same_node : get_or upto (get_or near between 0) 0 ≡ bound = ap (λ n. get_or upto n 0) (same ∙ at_count) in
            omega (arith, all, same_node, is_new, from)
      ];
      same = λ arrow h some. elim (at arrow h) [
        | old below is_old ↦ ap (λ n. get_or near (n - 1) 0) is_old ∙ is.same arrow (omega (arith, each, below)) (omega (arith, is_old, some))
        | last top is_new ↦
            ap (λ n. get_or near (n - 1) 0) is_new ∙ is.there node lt (omega (arith, is_new, some)) ∙ sym (ap (λ n. get_or near n 0) (top ∙ each) ∙ e)
      ];
    }

-- ---- as the code has it

pub begins : (near upto before : List ℕ) (nodes : ℕ) → upto ≡ replicate nodes 0 → before ≡ [] →
    IsIndexed near 0 upto before × (length upto ≡ nodes)
begins near upto before nodes zeros none =
    let P : List ℕ → Type 0 = λ xs. IsIndexed near 0 xs before in
    let Q : List ℕ → Type 0 = λ xs. IsIndexed near 0 (replicate nodes 0) xs in
    (subst P (sym zeros) (subst Q (sym none) (indexed_none near nodes)), ap length zeros ∙ length-replicate nodes 0)

pub goes_on : (near : List ℕ) (count node : ℕ) (upto before before' : List ℕ) (bound nodes : ℕ) →
    IsIndexed near count upto before × (length upto ≡ nodes) → get_or near count 0 ≡ node → node < nodes →
    bound ≡ get_or upto node bound → before' ≡ before ++ bound ∷ [] →
    IsIndexed near (count + 1) (set upto node (count + 1)) before' × (length (set upto node (count + 1)) ≡ nodes)
goes_on near count node upto before before' bound nodes is e lt read pushed =
    let inside : node < length upto = omega (arith, is.1) in
    let value : bound ≡ get_or upto node 0 = read ∙ get_or_default upto node bound 0 inside in
    let P : List ℕ → Type 0 = λ xs. IsIndexed near (count + 1) (set upto node (count + 1)) xs in (
      subst P (sym (pushed ∙ ap (λ x. before ++ x ∷ []) value)) (indexed_next near count node upto before is.0 inside e),
      length-set upto node (count + 1) ∙ is.1,
    )
