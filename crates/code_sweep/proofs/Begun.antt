-- What begins at a place of the code.
use Rattle.std.proofs.Common.{◌≡◌, ℕ, suc, ◌+◌, ◌-◌, ◌<◌, ◌≤◌, false, List, [], ◌∷◌, ◌++◌, length, take, drop, Option, Some, None, refl, sym, ◌∙◌, ap, subst, arith, length-append, length-take, length-drop}
use Rattle.std.proofs.lemmas.List.{length-map}
use Rattle.std.specs.Option.{option_map}
use Rattle.x64_decode.specs.Spelling.{number, rex, between, spelling}
use Rattle.x64_decode.specs.Reading.{reg_of, instruction_at}
use Rattle.x64_decode.specs.declared.instr.Reg.{Reg}
use Rattle.x64_decode.specs.declared.instr.Instr.{Instr}
use Rattle.x64_decode.proofs.Tables.{number_reg}
use Rattle.magic_words.specs.MagicWords.{call_word, BeginsWord}
use Rattle.magic_words.specs.declared.word.Word.{Word}
use Rattle.magic_words.specs.declared.word.Word.TheVariants as word
use Rattle.code_sweep.specs.Units.{inverse, check_tail, check_then, return_unit, call_unit}
use Rattle.code_sweep.specs.declared.item.Item.{Item}
use Rattle.code_sweep.specs.declared.item.Item.TheVariants.{Call, Ret, Plain, ReturnUnit, CallUnit}
use Rattle.code_sweep.specs.declared.item.Placed.{Placed}
use Rattle.code_sweep.specs.Listing.{IsChain, item_of, item_bytes, Begins, NoWord, NoReturnUnit, NoCallUnit, StandsAlone, StandsAt}

-- the bytes begin with the call unit of a register
pub call_found : (prefix bytes unit : List ℕ) (r : Reg) (register bits : ℕ) → r ≡ reg_of register → register < 16 → bits < 32 → length unit ≡ 42 →
    unit ≡ rex false register 10 ∷ (0x89 ∷ (between register 10 ∷ check_then (call_word bits prefix) 0xd2)) → take (length unit) bytes ≡ unit →
    (bits < 32) × (take 42 bytes ≡ call_unit prefix r bits)
call_found prefix bytes unit r register bits named small few long is found = (
  few,
  ap (λ n. take n bytes) (sym long) ∙ found ∙ is
      ∙ ap (λ n. rex false n 10 ∷ (0x89 ∷ (between n 10 ∷ check_then (call_word bits prefix) 0xd2))) (sym (number_reg register small) ∙ ap number (sym named)),
)

-- ---- words

call_begins : (prefix bytes : List ℕ) (bits : ℕ) → length prefix ≡ 6 → BeginsWord bytes prefix (word.Call bits) → Begins prefix bytes (Call bits)
unfolding item_bytes
call_begins prefix bytes bits six b = (b.proper, ap (λ n. take n bytes) (let e : suc (suc (length prefix)) ≡ 8 = omega arith in e) ∙ b.stands)

ret_begins : (prefix bytes : List ℕ) (bit : ℕ) → length prefix ≡ 6 → BeginsWord bytes prefix (word.Ret bit) → Begins prefix bytes (Ret bit)
unfolding item_bytes
ret_begins prefix bytes bit six b = (b.proper, ap (λ n. take n bytes) (let e : suc (suc (length prefix)) ≡ 8 = omega arith in e) ∙ b.stands)

begins_call : (prefix bytes : List ℕ) (bits : ℕ) → length prefix ≡ 6 → Begins prefix bytes (Call bits) → BeginsWord bytes prefix (word.Call bits)
unfolding item_bytes
begins_call prefix bytes bits six b = record { proper = b.0; stands = ap (λ n. take n bytes) (let e : 8 ≡ suc (suc (length prefix)) = omega arith in e) ∙ b.1 }

begins_ret : (prefix bytes : List ℕ) (bit : ℕ) → length prefix ≡ 6 → Begins prefix bytes (Ret bit) → BeginsWord bytes prefix (word.Ret bit)
unfolding item_bytes
begins_ret prefix bytes bit six b = record { proper = b.0; stands = ap (λ n. take n bytes) (let e : 8 ≡ suc (suc (length prefix)) = omega arith in e) ∙ b.1 }

no_word : (prefix bytes : List ℕ) → length prefix ≡ 6 → ((w : Word) → BeginsWord bytes prefix w → ⊥) → NoWord prefix bytes
no_word prefix bytes six none bits = (λ b. none (word.Call bits) (begins_call prefix bytes bits six b), λ b. none (word.Ret bits) (begins_ret prefix bytes bits six b))

-- the kinds of words differ, and so do the bits of one kind
second_cell : (a b c d : ℕ) (xs ys : List ℕ) → a ∷ (b ∷ xs) ≡ c ∷ (d ∷ ys) → b ≡ d
second_cell a b c d xs ys e = cc

first_cell : (a b c d : ℕ) (xs ys : List ℕ) → a ∷ (b ∷ xs) ≡ c ∷ (d ∷ ys) → a ≡ c
first_cell a b c d xs ys e = cc

kinds_differ : (a b : ℕ) → a ≡ 0x11 → b ≡ 0x22 → a ≡ b → ⊥
kinds_differ a b e f same = omega arith

-- the item that a word is stands there
pub word_stands : (prefix code : List ℕ) (place : ℕ) (w : Word) → length prefix ≡ 6 → place < length code → BeginsWord (drop place code) prefix w →
    StandsAt prefix code place (item_of w)
word_stands prefix code place (word.Call bits) six inside b = record { inside = inside; is = call_begins prefix (drop place code) bits six b }
word_stands prefix code place (word.Ret bit) six inside b = record { inside = inside; is = ret_begins prefix (drop place code) bit six b }

pub word_length : (prefix : List ℕ) (w : Word) → length prefix ≡ 6 → 8 ≡ length (item_bytes prefix (item_of w))
unfolding item_bytes
word_length prefix (word.Call bits) six = omega arith
word_length prefix (word.Ret bit) six = omega arith

pub word_fits : (prefix code : List ℕ) (place : ℕ) (w : Word) → length prefix ≡ 6 → place < length code → BeginsWord (drop place code) prefix w → place + 8 ≤ length code
word_fits prefix code place (word.Call bits) six inside b =
    let e : length (take 8 (drop place code)) ≡ suc (suc (length prefix)) = ap length b.stands in
    omega (arith, six, e, length-take 8 (drop place code), length-drop place code)
word_fits prefix code place (word.Ret bit) six inside b =
    let e : length (take 8 (drop place code)) ≡ suc (suc (length prefix)) = ap length b.stands in
    omega (arith, six, e, length-take 8 (drop place code), length-drop place code)

some_none : {A : Type 0} (x : A) → (let o : Option A = Some x in o) ≡ None → ⊥
some_none x e = cc

-- ---- units by their lengths

return_length : (prefix : List ℕ) (bit : ℕ) → length prefix ≡ 6 → length (return_unit prefix bit) ≡ 56
return_length prefix bit six = omega (arith, six, length-append (inverse prefix) (check_tail 0xe2), length-map prefix (λ (b : ℕ). 255 - b))

call_length : (prefix : List ℕ) (r : Reg) (bits : ℕ) → length prefix ≡ 6 → length (call_unit prefix r bits) ≡ 42
call_length prefix r bits six = omega (arith, six, length-append (inverse prefix) (check_tail 0xd2), length-map prefix (λ (b : ℕ). 255 - b))

pub begins_return : (prefix bytes : List ℕ) (bit : ℕ) → length prefix ≡ 6 → Begins prefix bytes (ReturnUnit bit) → take 56 bytes ≡ return_unit prefix bit
unfolding item_bytes
begins_return prefix bytes bit six b = ap (λ n. take n bytes) (sym (return_length prefix bit six)) ∙ b.1

pub return_begins : (prefix bytes : List ℕ) (bit : ℕ) → length prefix ≡ 6 → bit < 2 → take 56 bytes ≡ return_unit prefix bit → Begins prefix bytes (ReturnUnit bit)
unfolding item_bytes
return_begins prefix bytes bit six small e = (small, ap (λ n. take n bytes) (return_length prefix bit six) ∙ e)

pub begins_call_unit : (prefix bytes : List ℕ) (r : Reg) (bits : ℕ) → length prefix ≡ 6 → Begins prefix bytes (CallUnit r bits) → take 42 bytes ≡ call_unit prefix r bits
unfolding item_bytes
begins_call_unit prefix bytes r bits six b = ap (λ n. take n bytes) (sym (call_length prefix r bits six)) ∙ b.1

pub call_unit_begins : (prefix bytes : List ℕ) (r : Reg) (bits : ℕ) → length prefix ≡ 6 → bits < 32 → take 42 bytes ≡ call_unit prefix r bits → Begins prefix bytes (CallUnit r bits)
unfolding item_bytes
call_unit_begins prefix bytes r bits six small e = (small, ap (λ n. take n bytes) (call_length prefix r bits six) ∙ e)

pub no_return : (prefix bytes : List ℕ) → length prefix ≡ 6 → ((bit : ℕ) → bit < 2 → take 56 bytes ≡ return_unit prefix bit → ⊥) → NoReturnUnit prefix bytes
no_return prefix bytes six none bit b = none bit b.0 (begins_return prefix bytes bit six b)

pub no_call : (prefix bytes : List ℕ) → length prefix ≡ 6 → ((r : Reg) (bits : ℕ) → bits < 32 → take 42 bytes ≡ call_unit prefix r bits → ⊥) → NoCallUnit prefix bytes
no_call prefix bytes six none r bits b = none r bits b.0 (begins_call_unit prefix bytes r bits six b)

-- ---- the exits of `item_at`, where no word begins

-- a return unit stands here
pub at_return : (prefix code bytes : List ℕ) (place bit : ℕ) → bytes ≡ drop place code → length prefix ≡ 6 → place < length code →
    ((w : Word) → BeginsWord (drop place code) prefix w → ⊥) → (bit < 2) × (take 56 bytes ≡ return_unit prefix bit) →
    StandsAt prefix code place (ReturnUnit bit)
at_return prefix code bytes place bit same six inside none found = record {
  inside = inside;
  is = (no_word prefix (drop place code) six none, return_begins prefix (drop place code) bit six found.0 (ap (λ l. take 56 l) (sym same) ∙ found.1));
}

pub return_item_length : (prefix : List ℕ) (bit : ℕ) → length prefix ≡ 6 → 56 ≡ length (item_bytes prefix (ReturnUnit bit))
unfolding item_bytes
return_item_length prefix bit six = sym (return_length prefix bit six)

pub unit_fits : (code bytes unit : List ℕ) (place n : ℕ) → bytes ≡ drop place code → place < length code → take n bytes ≡ unit → length unit ≡ n → place + n ≤ length code
unit_fits code bytes unit place n same inside stands long =
    let e : length (take n bytes) ≡ n = ap length stands ∙ long in
    let f : length bytes ≡ length (drop place code) = ap length same in
    omega (arith, e, f, length-take n bytes, length-drop place code)

pub return_fits : (prefix code bytes : List ℕ) (place bit : ℕ) → bytes ≡ drop place code → length prefix ≡ 6 → place < length code →
    (bit < 2) × (take 56 bytes ≡ return_unit prefix bit) → place + 56 ≤ length code
return_fits prefix code bytes place bit same six inside found = unit_fits code bytes (return_unit prefix bit) place 56 same inside found.1 (return_length prefix bit six)

-- a call unit stands here
pub at_call : (prefix code bytes : List ℕ) (place : ℕ) (r : Reg) (bits : ℕ) → bytes ≡ drop place code → length prefix ≡ 6 → place < length code →
    ((w : Word) → BeginsWord (drop place code) prefix w → ⊥) → ((bit : ℕ) → bit < 2 → take 56 bytes ≡ return_unit prefix bit → ⊥) →
    (bits < 32) × (take 42 bytes ≡ call_unit prefix r bits) → StandsAt prefix code place (CallUnit r bits)
at_call prefix code bytes place r bits same six inside none no_ret found = record {
  inside = inside;
  is = (
    no_word prefix (drop place code) six none,
    no_return prefix (drop place code) six (λ bit h g. no_ret bit h (ap (λ l. take 56 l) same ∙ g)),
    call_unit_begins prefix (drop place code) r bits six found.0 (ap (λ l. take 42 l) (sym same) ∙ found.1),
  );
}

pub call_item_length : (prefix : List ℕ) (r : Reg) (bits : ℕ) → length prefix ≡ 6 → 42 ≡ length (item_bytes prefix (CallUnit r bits))
unfolding item_bytes
call_item_length prefix r bits six = sym (call_length prefix r bits six)

pub call_fits : (prefix code bytes : List ℕ) (place : ℕ) (r : Reg) (bits : ℕ) → bytes ≡ drop place code → length prefix ≡ 6 → place < length code →
    (bits < 32) × (take 42 bytes ≡ call_unit prefix r bits) → place + 42 ≤ length code
call_fits prefix code bytes place r bits same six inside found = unit_fits code bytes (call_unit prefix r bits) place 42 same inside found.1 (call_length prefix r bits six)

-- where neither a word nor a unit begins, only an instruction can stand
pub only_plain : (prefix code bytes : List ℕ) (place : ℕ) → bytes ≡ drop place code → length prefix ≡ 6 → ((w : Word) → BeginsWord (drop place code) prefix w → ⊥) →
    ((bit : ℕ) → bit < 2 → take 56 bytes ≡ return_unit prefix bit → ⊥) →
    ((r : Reg) (bits : ℕ) → bits < 32 → take 42 bytes ≡ call_unit prefix r bits → ⊥) →
    ((i : Instr) → StandsAt prefix code place (Plain i) → ⊥) → (item : Item) → StandsAt prefix code place item → ⊥
only_plain prefix code bytes place same six none no_ret no_cal plain (Call bits) s = none (word.Call bits) (begins_call prefix (drop place code) bits six s.is)
only_plain prefix code bytes place same six none no_ret no_cal plain (Ret bit) s = none (word.Ret bit) (begins_ret prefix (drop place code) bit six s.is)
only_plain prefix code bytes place same six none no_ret no_cal plain (ReturnUnit bit) s =
    no_ret bit s.is.1.0 (ap (λ l. take 56 l) same ∙ begins_return prefix (drop place code) bit six s.is.1)
only_plain prefix code bytes place same six none no_ret no_cal plain (CallUnit r bits) s =
    no_cal r bits s.is.2.0 (ap (λ l. take 42 l) same ∙ begins_call_unit prefix (drop place code) r bits six s.is.2)
only_plain prefix code bytes place same six none no_ret no_cal plain (Plain i) s = plain i s

abbrev pub with_length : Option Instr → Option (Instr × ℕ)
with_length o = option_map (λ (i : Instr). let r : Instr × ℕ = (i, length (spelling i)) in r) o

none_of : (o : Option Instr) → (let r : Option (Instr × ℕ) = None in r) ≡ with_length o → o ≡ None
none_of None e = refl
none_of (Some i) e = absurd (some_none (i, length (spelling i)) (sym e))

some_of : (o : Option Instr) (i : Instr) (n : ℕ) → (let r : Option (Instr × ℕ) = Some (i, n) in r) ≡ with_length o → o ≡ Some i
some_of None i n e = absurd (some_none (i, n) e)
some_of (Some j) i n e =
    let pair : (let r : Instr × ℕ = (i, n) in r) ≡ (j, length (spelling j)) = cc in
    ap (λ (x : Instr). let o : Option Instr = Some x in o) (sym (ap (λ (q : Instr × ℕ). q.0) pair))

length_of : (o : Option Instr) (i : Instr) (n : ℕ) → (let r : Option (Instr × ℕ) = Some (i, n) in r) ≡ with_length o → n ≡ length (spelling i)
length_of None i n e = absurd (some_none (i, n) e)
length_of (Some j) i n e =
    let pair : (let r : Instr × ℕ = (i, n) in r) ≡ (j, length (spelling j)) = cc in
    ap (λ (q : Instr × ℕ). q.1) pair ∙ ap (λ x. length (spelling x)) (sym (ap (λ (q : Instr × ℕ). q.0) pair))

-- nothing decodes here
pub at_nothing : (prefix code bytes : List ℕ) (place : ℕ) → bytes ≡ drop place code → length prefix ≡ 6 → ((w : Word) → BeginsWord (drop place code) prefix w → ⊥) →
    ((bit : ℕ) → bit < 2 → take 56 bytes ≡ return_unit prefix bit → ⊥) →
    ((r : Reg) (bits : ℕ) → bits < 32 → take 42 bytes ≡ call_unit prefix r bits → ⊥) →
    (let r : Option (Instr × ℕ) = None in r) ≡ with_length (instruction_at (drop place code)) → (item : Item) → StandsAt prefix code place item → ⊥
at_nothing prefix code bytes place same six none no_ret no_cal e =
    only_plain prefix code bytes place same six none no_ret no_cal (λ i s. some_none i (sym s.is.3 ∙ none_of (instruction_at (drop place code)) e))

-- an instruction that may not stand alone decodes here
same_some : (i j : Instr) → (let o : Option Instr = Some i in o) ≡ Some j → i ≡ j
same_some i j e = cc

pub at_other : (prefix code bytes : List ℕ) (place : ℕ) (i : Instr) (n : ℕ) → bytes ≡ drop place code → length prefix ≡ 6 → ((w : Word) → BeginsWord (drop place code) prefix w → ⊥) →
    ((bit : ℕ) → bit < 2 → take 56 bytes ≡ return_unit prefix bit → ⊥) →
    ((r : Reg) (bits : ℕ) → bits < 32 → take 42 bytes ≡ call_unit prefix r bits → ⊥) →
    (let r : Option (Instr × ℕ) = Some (i, n) in r) ≡ with_length (instruction_at (drop place code)) → (StandsAlone i → ⊥) → (item : Item) → StandsAt prefix code place item → ⊥
at_other prefix code bytes place i n same six none no_ret no_cal e alone =
    only_plain prefix code bytes place same six none no_ret no_cal (λ j s.
    alone (subst (λ x. StandsAlone x) (same_some j i (sym s.is.3 ∙ some_of (instruction_at (drop place code)) i n e)) s.is.4))

-- an instruction stands here
pub at_plain : (prefix code bytes : List ℕ) (place : ℕ) (i : Instr) (n : ℕ) → bytes ≡ drop place code → length prefix ≡ 6 → place < length code → ((w : Word) → BeginsWord (drop place code) prefix w → ⊥) →
    ((bit : ℕ) → bit < 2 → take 56 bytes ≡ return_unit prefix bit → ⊥) →
    ((r : Reg) (bits : ℕ) → bits < 32 → take 42 bytes ≡ call_unit prefix r bits → ⊥) →
    (let r : Option (Instr × ℕ) = Some (i, n) in r) ≡ with_length (instruction_at (drop place code)) → StandsAlone i → StandsAt prefix code place (Plain i)
at_plain prefix code bytes place i n same six inside none no_ret no_cal e alone = record {
  inside = inside;
  is = (no_word prefix (drop place code) six none, no_return prefix (drop place code) six (λ bit h g. no_ret bit h (ap (λ l. take 56 l) same ∙ g)), no_call prefix (drop place code) six (λ r bits h g. no_cal r bits h (ap (λ l. take 42 l) same ∙ g)), some_of (instruction_at (drop place code)) i n e, alone);
}

pub plain_length : (prefix code : List ℕ) (place : ℕ) (i : Instr) (n : ℕ) → (let r : Option (Instr × ℕ) = Some (i, n) in r) ≡ with_length (instruction_at (drop place code)) → n ≡ length (item_bytes prefix (Plain i))
unfolding item_bytes
plain_length prefix code place i n e = length_of (instruction_at (drop place code)) i n e

-- ---- chains

-- a chain with one more item
pub chain_more : (prefix code : List ℕ) (items : List Placed) (from at : ℕ) (p : Placed) → IsChain prefix code items from at → p.at ≡ at → p.len ≡ length (item_bytes prefix p.item) → StandsAt prefix code at p.item →
    IsChain prefix code (items ++ p ∷ []) from (at + p.len)
chain_more prefix code [] from at p chain here long stands =
    (here ∙ sym chain, long, subst (λ n. StandsAt prefix code n p.item) (sym chain) stands, ap (λ n. n + p.len) chain)
chain_more prefix code (q ∷ qs) from at p chain here long stands =
    (chain.0, chain.1, chain.2, chain_more prefix code qs (from + q.len) at p chain.3 here long stands)
