-- What is put in several steps is put as a whole.
use Rattle.std.proofs.Common.{◌≡◌, List, [], ◌++◌, Result, Ok, Err, OnOk, sym, ap, ◌∙◌, append_assoc, append-nil}

pub two : {X : Type 0} (old a b one new : List X) → one ≡ old ++ a → new ≡ one ++ b → new ≡ old ++ (a ++ b)
two old a b one new p q = q ∙ ap (λ l. l ++ b) p ∙ append_assoc old a b

pub three : {X : Type 0} (old a b c one more new : List X) → one ≡ old ++ a → more ≡ one ++ b → new ≡ more ++ c → new ≡ old ++ (a ++ b ++ c)
three old a b c one more new p q r = r ∙ ap (λ l. l ++ c) (two old a b one more p q) ∙ append_assoc old (a ++ b) c

pub four : {X : Type 0} (old a b c d one more most new : List X) → one ≡ old ++ a → more ≡ one ++ b → most ≡ more ++ c → new ≡ most ++ d → new ≡ old ++ (a ++ b ++ c ++ d)
four old a b c d one more most new p q r s = s ∙ ap (λ l. l ++ d) (three old a b c one more most p q r) ∙ append_assoc old (a ++ b ++ c) d

pub five : {X : Type 0} (old a b c d e one more most last new : List X)
    → one ≡ old ++ a → more ≡ one ++ b → most ≡ more ++ c → last ≡ most ++ d → new ≡ last ++ e → new ≡ old ++ (a ++ b ++ c ++ d ++ e)
five old a b c d e one more most last new p q r s t =
    t ∙ ap (λ l. l ++ e) (four old a b c d one more most last p q r s) ∙ append_assoc old (a ++ b ++ c ++ d) e

-- what a last call puts, where its result is returned as it is: all that is put is `whole`
pub as_whole : {X : Type 0} (old a new whole : List X) → new ≡ old ++ a → whole ≡ a → new ≡ old ++ whole
as_whole old a new whole p e = p ∙ ap (λ l. old ++ l) (sym e)

pub ends_one : {X T E : Type 0} (r : Result T E) (old a new whole : List X) → OnOk r (new ≡ old ++ a) → whole ≡ a → OnOk r (new ≡ old ++ whole)
ends_one (Ok x) old a new whole p e = as_whole old a new whole p e
ends_one (Err x) old a new whole p e = tt

pub ends_two : {X T E : Type 0} (r : Result T E) (old a b one new whole : List X)
    → one ≡ old ++ a → OnOk r (new ≡ one ++ b) → whole ≡ a ++ b → OnOk r (new ≡ old ++ whole)
ends_two (Ok x) old a b one new whole p q e = as_whole old (a ++ b) new whole (two old a b one new p q) e
ends_two (Err x) old a b one new whole p q e = tt

pub ends_three : {X T E : Type 0} (r : Result T E) (old a b c one more new whole : List X)
    → one ≡ old ++ a → more ≡ one ++ b → OnOk r (new ≡ more ++ c) → whole ≡ a ++ b ++ c → OnOk r (new ≡ old ++ whole)
ends_three (Ok x) old a b c one more new whole p q s e = as_whole old (a ++ b ++ c) new whole (three old a b c one more new p q s) e
ends_three (Err x) old a b c one more new whole p q s e = tt

pub ends_four : {X T E : Type 0} (r : Result T E) (old a b c d one more most new whole : List X)
    → one ≡ old ++ a → more ≡ one ++ b → most ≡ more ++ c → OnOk r (new ≡ most ++ d) → whole ≡ a ++ b ++ c ++ d → OnOk r (new ≡ old ++ whole)
ends_four (Ok x) old a b c d one more most new whole p q s t e = as_whole old (a ++ b ++ c ++ d) new whole (four old a b c d one more most new p q s t) e
ends_four (Err x) old a b c d one more most new whole p q s t e = tt

pub ends_five : {X T E : Type 0} (r : Result T E) (old a b c d e one more most last new whole : List X)
    → one ≡ old ++ a → more ≡ one ++ b → most ≡ more ++ c → last ≡ most ++ d → OnOk r (new ≡ last ++ e) → whole ≡ a ++ b ++ c ++ d ++ e → OnOk r (new ≡ old ++ whole)
ends_five (Ok x) old a b c d e one more most last new whole p q s t u w = as_whole old (a ++ b ++ c ++ d ++ e) new whole (five old a b c d e one more most last new p q s t u) w
ends_five (Err x) old a b c d e one more most last new whole p q s t u w = tt

-- what is put already, where a last call puts nothing
pub put_already : {T E P : Type 0} (r : Result T E) → P → OnOk r P
put_already (Ok x) p = p
put_already (Err e) p = tt

-- what is left gives nothing
pub finished : {X : Type 0} (new rest whole : List X) → new ++ rest ≡ whole → rest ≡ [] → new ≡ whole
finished new rest whole p e = sym (append-nil new) ∙ ap (λ l. new ++ l) (sym e) ∙ p

-- one part more of what is left is put
pub one_more : {X : Type 0} (now part all rest new whole : List X) → now ++ all ≡ whole → new ≡ now ++ part → all ≡ part ++ rest → new ++ rest ≡ whole
one_more now part all rest new whole p q e = ap (λ l. l ++ rest) q ∙ append_assoc now part rest ∙ ap (λ l. now ++ l) (sym e) ∙ p
