-- A code has one listing, and accepted bytes have no verdict.
use Rattle.std.proofs.Common.{◌≡◌, ℕ, ◌+◌, ◌-◌, ◌<◌, ◌≤◌, true, false, List, [], ◌∷◌, length, get_or, Option, Some, refl, sym, ◌∙◌, ap, subst, arith, ◌⊎◌, inl, inr}
use Rattle.x64_decode.specs.Spelling.{number, rex, between}
use Rattle.x64_decode.specs.Reading.{reg_of}
use Rattle.x64_decode.specs.declared.instr.Reg.{Reg}
use Rattle.x64_decode.specs.declared.instr.Instr.{Instr}
use Rattle.x64_decode.proofs.Tables.{reg_again, number_below}
use Rattle.code_sweep.specs.Units.{return_unit, call_unit}
use Rattle.code_sweep.specs.declared.item.Item.{Item}
use Rattle.code_sweep.specs.declared.item.Item.TheVariants.{Call, Ret, Plain, ReturnUnit, CallUnit}
use Rattle.code_sweep.specs.declared.item.Placed.{Placed}
use Rattle.code_sweep.specs.Listing.{item_bytes, IsChain, StandsAt, BreaksAt}
use Rattle.image_form.specs.Image.{Image}
use Rattle.image_form.specs.Table.{IsImageFile, IsWrongAt}
use Rattle.image_form.proofs.Laws.{spelling_is_one, image_has_no_wrong, IsImageFile-spelling}
use Rattle.conf_verify.specs.declared.rule.Rule.{Rule}
use Rattle.conf_verify.specs.declared.rule.Rule.TheVariants.{V1, V2, V3, V4, V5, V6, V7, V8, V9, V10, V11, V12, V13, V14, V15, V16}
use Rattle.conf_verify.specs.Rules.{BreaksShape, BreaksFlow, is_flow_rule}
use Rattle.conf_verify.specs.Verdict.{IsImage, HasListing, Breaks, IsAcceptedImage}

-- ---- one item at a place

first_is : (a b : ℕ) (xs : List ℕ) → a ∷ xs ≡ b ∷ xs → a ≡ b
first_is a b xs e = cc

some_is : (i j : Instr) → (let o : Option Instr = Some i in o) ≡ Some j → i ≡ j
some_is i j e = cc

second_is : (a b c d : ℕ) (xs ys : List ℕ) → a ∷ (b ∷ xs) ≡ c ∷ (d ∷ ys) → b ≡ d
second_is a b c d xs ys e = cc

kinds_differ : (a b : ℕ) → a ≡ 0x11 → b ≡ 0x22 → a ≡ b → ⊥
kinds_differ a b e f same = omega arith

words_differ : (m n : ℕ) (prefix : List ℕ) → m ∷ (0x11 ∷ prefix) ≡ n ∷ (0x22 ∷ prefix) → ⊥
words_differ m n prefix e = kinds_differ 0x11 0x22 refl refl (second_is m 0x11 n 0x22 prefix prefix e)

small_bits : (m n top : ℕ) → m < top → n < top → top ≤ 255 → 255 - m ≡ 255 - n → m ≡ n
small_bits m n top a b c e = omega arith

same_return : (prefix : List ℕ) (m n : ℕ) → m < 2 → n < 2 → return_unit prefix m ≡ return_unit prefix n → m ≡ n
same_return prefix m n a b e = small_bits m n 2 a b (omega arith) (ap (λ l. get_or l 19 0) e)

same_register : (r q : Reg) → rex false (number r) 10 ≡ rex false (number q) 10 → between (number r) 10 ≡ between (number q) 10 → r ≡ q
same_register r q first third =
    let small : number r < 16 = number_below r in
    let small' : number q < 16 = number_below q in
    let e : number r ≡ number q = omega arith in
    sym (reg_again r) ∙ ap reg_of e ∙ reg_again q

same_call : (prefix : List ℕ) (r q : Reg) (m n : ℕ) → m < 32 → n < 32 → call_unit prefix r m ≡ call_unit prefix q n → CallUnit r m ≡ CallUnit q n
same_call prefix r q m n a b e =
    ap (λ x. CallUnit x m) (same_register r q (ap (λ l. get_or l 0 0) e) (ap (λ l. get_or l 2 0) e))
    ∙ ap (λ x. CallUnit q x) (small_bits m n 32 a b (omega arith) (ap (λ l. get_or l 5 0) e))

pub one_item : (prefix code : List ℕ) (place : ℕ) (a b : Item) → StandsAt prefix code place a → StandsAt prefix code place b → a ≡ b
unfolding item_bytes
one_item prefix code place (Call m) (Call n) s t = ap Call (first_is m n (0x11 ∷ prefix) (sym s.is.1 ∙ t.is.1))
one_item prefix code place (Ret m) (Ret n) s t = ap Ret (first_is m n (0x22 ∷ prefix) (sym s.is.1 ∙ t.is.1))
one_item prefix code place (Plain i) (Plain j) s t = ap Plain (some_is i j (sym s.is.3 ∙ t.is.3))
one_item prefix code place (ReturnUnit m) (ReturnUnit n) s t = ap ReturnUnit (same_return prefix m n s.is.1.0 t.is.1.0 (sym s.is.1.1 ∙ t.is.1.1))
one_item prefix code place (CallUnit r m) (CallUnit q n) s t = same_call prefix r q m n s.is.2.0 t.is.2.0 (sym s.is.2.1 ∙ t.is.2.1)
one_item prefix code place (Call m) (Ret n) s t = absurd (words_differ m n prefix (sym s.is.1 ∙ t.is.1))
one_item prefix code place (Ret m) (Call n) s t = absurd (words_differ n m prefix (sym t.is.1 ∙ s.is.1))
one_item prefix code place (Call m) (Plain j) s t = absurd ((t.is.0 m).0 s.is)
one_item prefix code place (Call m) (ReturnUnit n) s t = absurd ((t.is.0 m).0 s.is)
one_item prefix code place (Call m) (CallUnit r n) s t = absurd ((t.is.0 m).0 s.is)
one_item prefix code place (Ret m) (Plain j) s t = absurd ((t.is.0 m).1 s.is)
one_item prefix code place (Ret m) (ReturnUnit n) s t = absurd ((t.is.0 m).1 s.is)
one_item prefix code place (Ret m) (CallUnit r n) s t = absurd ((t.is.0 m).1 s.is)
one_item prefix code place (Plain i) (Call n) s t = absurd ((s.is.0 n).0 t.is)
one_item prefix code place (Plain i) (Ret n) s t = absurd ((s.is.0 n).1 t.is)
one_item prefix code place (Plain i) (ReturnUnit n) s t = absurd (s.is.1 n t.is.1)
one_item prefix code place (Plain i) (CallUnit r n) s t = absurd (s.is.2 r n t.is.2)
one_item prefix code place (ReturnUnit m) (Call n) s t = absurd ((s.is.0 n).0 t.is)
one_item prefix code place (ReturnUnit m) (Ret n) s t = absurd ((s.is.0 n).1 t.is)
one_item prefix code place (ReturnUnit m) (Plain j) s t = absurd (t.is.1 m s.is.1)
one_item prefix code place (ReturnUnit m) (CallUnit r n) s t = absurd (t.is.1 m s.is.1)
one_item prefix code place (CallUnit r m) (Call n) s t = absurd ((s.is.0 n).0 t.is)
one_item prefix code place (CallUnit r m) (Ret n) s t = absurd ((s.is.0 n).1 t.is)
one_item prefix code place (CallUnit r m) (Plain j) s t = absurd (t.is.2 r m s.is.2)
one_item prefix code place (CallUnit r m) (ReturnUnit n) s t = absurd (s.is.1 n t.is.1)

-- ---- one chain

abbrev placed : ℕ → ℕ → Item → Placed
placed at len item = record { at = at; len = len; item = item }

one_placed : (x y : Placed) → x.at ≡ y.at → x.len ≡ y.len → x.item ≡ y.item → x ≡ y
one_placed x y e f g =
    ap (λ n. placed n x.len x.item) e ∙ ap (λ n. placed y.at n x.item) f ∙ ap (λ i. placed y.at y.len i) g

same_head : (prefix code : List ℕ) (from to to' : ℕ) (x y : Placed) (xs ys : List Placed) → IsChain prefix code (x ∷ xs) from to → IsChain prefix code (y ∷ ys) from to' → x ≡ y
same_head prefix code from to to' x y xs ys c d =
    let item = one_item prefix code from x.item y.item c.2 d.2 in
    one_placed x y (c.0 ∙ sym d.0) (c.1 ∙ ap (λ i. length (item_bytes prefix i)) item ∙ sym d.1) item

pub one_chain : (prefix code : List ℕ) (xs ys : List Placed) (from : ℕ) → IsChain prefix code xs from (length code) → IsChain prefix code ys from (length code) → xs ≡ ys
one_chain prefix code [] [] from c d = refl
one_chain prefix code [] (y ∷ ys) from c d = absurd (let h = d.2.inside in omega arith)
one_chain prefix code (x ∷ xs) [] from c d = absurd (let h = c.2.inside in omega arith)
one_chain prefix code (x ∷ xs) (y ∷ ys) from c d =
    let head = same_head prefix code from (length code) (length code) x y xs ys c d in
    let tail = one_chain prefix code xs ys (from + x.len) c.3 (subst (λ (z : Placed). IsChain prefix code ys (from + z.len) (length code)) (sym head) d.3) in
    ap (λ (z : Placed). z ∷ xs) head ∙ ap (λ (zs : List Placed). y ∷ zs) tail

-- a code with a listing breaks nowhere
pub no_break : (prefix code : List ℕ) (before ys : List Placed) (from place : ℕ) → IsChain prefix code before from place → IsChain prefix code ys from (length code) →
    place < length code → ((item : Item) → StandsAt prefix code place item → ⊥) → ⊥
no_break prefix code [] [] from place c d inside none = omega arith
no_break prefix code [] (y ∷ ys) from place c d inside none = none y.item (subst (λ n. StandsAt prefix code n y.item) c d.2)
no_break prefix code (x ∷ xs) [] from place c d inside none = let h = c.2.inside in omega arith
no_break prefix code (x ∷ xs) (y ∷ ys) from place c d inside none =
    let head = same_head prefix code from place (length code) x y xs ys c d in
    no_break prefix code xs ys (from + x.len) place c.3 (subst (λ (z : Placed). IsChain prefix code ys (from + z.len) (length code)) (sym head) d.3) inside none

-- ---- accepted bytes break nothing

-- an image of the bytes is the accepted one
pub one_image : (bytes : List ℕ) (a b : Image) → IsImage bytes a → IsImage bytes b → a ≡ b
one_image bytes a b i j = spelling_is_one a b i.good j.good (sym i.spelled ∙ j.spelled)

pub form_is_right : (bytes : List ℕ) (image : Image) (at : ℕ) → IsImage bytes image → IsWrongAt bytes at → ⊥
form_is_right bytes image at is wrong =
    image_has_no_wrong bytes at (subst (λ l. IsImageFile l) (sym is.spelled) (IsImageFile-spelling image is.good)) wrong

code_is_right : (image : Image) → IsAcceptedImage image → (rule : Rule) (items : List Placed) (place : ℕ) → HasListing image items →
    (BreaksShape rule image items place ⊎ ((is_flow_rule rule ≡ true) × BreaksFlow rule items place)) → ⊥
code_is_right image ok rule items place listing breaks =
    let same = one_chain image.prefix image.code items ok.items 0 listing ok.listing in
    elim breaks [
      | inl shape ↦ ok.shape rule place (subst (λ (l : List Placed). BreaksShape rule image l place) same shape)
      | inr flow ↦ ok.flow rule place (subst (λ (l : List Placed). BreaksFlow rule l place) same flow.1 ok.labels ok.meets)
    ]

-- behind V2 a rule is broken by a listing
abbrev pub ByListing : Rule → List ℕ → ℕ → Type 0
ByListing rule bytes at = (image : Image) × IsImage bytes image × ((items : List Placed) × (place : ℕ) × HasListing image items × (at ≡ 0x10000 + place) ×
    (BreaksShape rule image items place ⊎ ((is_flow_rule rule ≡ true) × BreaksFlow rule items place)))

by_listing : (bytes : List ℕ) (image : Image) → IsImage bytes image → IsAcceptedImage image → (rule : Rule) (at : ℕ) → ByListing rule bytes at → ⊥
by_listing bytes image is ok rule at b =
    let same = one_image bytes b.0 image b.1 is in
    code_is_right image ok rule b.2.0 b.2.1
    (subst (λ (x : Image). HasListing x b.2.0) same b.2.2)
    (subst (λ (x : Image). (BreaksShape rule x b.2.0 b.2.1 ⊎ ((is_flow_rule rule ≡ true) × BreaksFlow rule b.2.0 b.2.1))) same b.2.4)

pub nothing_broken : (bytes : List ℕ) (image : Image) → IsImage bytes image → IsAcceptedImage image → (rule : Rule) (at : ℕ) → Breaks rule bytes at → ⊥
nothing_broken bytes image is ok V1 at b = form_is_right bytes image at is b
nothing_broken bytes image is ok V2 at b =
    let same = one_image bytes b.0 image b.1 is in
    let c : BreaksAt image.prefix image.code b.2.0 = subst (λ (x : Image). BreaksAt x.prefix x.code b.2.0) same b.2.2 in
    no_break image.prefix image.code c.before ok.items 0 b.2.0 c.chain ok.listing c.inside c.none
nothing_broken bytes image is ok V3 at b = by_listing bytes image is ok V3 at b
nothing_broken bytes image is ok V4 at b = by_listing bytes image is ok V4 at b
nothing_broken bytes image is ok V5 at b = by_listing bytes image is ok V5 at b
nothing_broken bytes image is ok V6 at b = by_listing bytes image is ok V6 at b
nothing_broken bytes image is ok V7 at b = by_listing bytes image is ok V7 at b
nothing_broken bytes image is ok V8 at b = by_listing bytes image is ok V8 at b
nothing_broken bytes image is ok V9 at b = by_listing bytes image is ok V9 at b
nothing_broken bytes image is ok V10 at b = by_listing bytes image is ok V10 at b
nothing_broken bytes image is ok V11 at b = by_listing bytes image is ok V11 at b
nothing_broken bytes image is ok V12 at b = by_listing bytes image is ok V12 at b
nothing_broken bytes image is ok V13 at b = by_listing bytes image is ok V13 at b
nothing_broken bytes image is ok V14 at b = by_listing bytes image is ok V14 at b
nothing_broken bytes image is ok V15 at b = by_listing bytes image is ok V15 at b
nothing_broken bytes image is ok V16 at b = by_listing bytes image is ok V16 at b

-- a code breaks at one place
break_is_one : (prefix code : List ℕ) (xs ys : List Placed) (from a b : ℕ) → IsChain prefix code xs from a → IsChain prefix code ys from b →
    ((item : Item) → StandsAt prefix code a item → ⊥) → ((item : Item) → StandsAt prefix code b item → ⊥) → a ≡ b
break_is_one prefix code [] [] from a b c d none_a none_b = sym c ∙ d
break_is_one prefix code [] (y ∷ ys) from a b c d none_a none_b = absurd (none_a y.item (subst (λ n. StandsAt prefix code n y.item) c d.2))
break_is_one prefix code (x ∷ xs) [] from a b c d none_a none_b = absurd (none_b x.item (subst (λ n. StandsAt prefix code n x.item) d c.2))
break_is_one prefix code (x ∷ xs) (y ∷ ys) from a b c d none_a none_b =
    let head = same_head prefix code from a b x y xs ys c d in
    break_is_one prefix code xs ys (from + x.len) a b c.3 (subst (λ (z : Placed). IsChain prefix code ys (from + z.len) b) (sym head) d.3) none_a none_b

pub one_break : (prefix code : List ℕ) (a b : ℕ) → BreaksAt prefix code a → BreaksAt prefix code b → a ≡ b
one_break prefix code a b x y = break_is_one prefix code x.before y.before 0 a b x.chain y.chain x.none y.none
