-- One verdict: what is told first is one rule at one place, and accepted bytes have none.
use Rattle.std.proofs.Common.{◌≡◌, ℕ, Bool, true, false, List, refl, sym, ◌∙◌, ap, inl, inr, cond, eqb}
use Rattle.std.proofs.lemmas.Bool.{cases_order}
use Rattle.conf_verify.specs.declared.rule.Rule.{Rule}
use Rattle.conf_verify.specs.declared.rule.Rule.TheVariants.{V1, V2, V3, V4, V5, V6, V7, V8, V9, V10, V11, V12, V13, V14, V15, V16}
use Rattle.conf_verify.specs.Rules.{is_flow_rule, rule_number}
use Rattle.conf_verify.specs.Verdict.{Precedes, IsVerdict}

-- of two, one is told first, or they are the same
data Order (f g : Bool) (n a m b : ℕ) : Type 0 where
  before : Precedes f g n a m b → Order f g n a m b
  behind : Precedes g f m b n a → Order f g n a m b
  same : n ≡ m → a ≡ b → Order f g n a m b

order : (f g : Bool) (n a m b : ℕ) → Order f g n a m b
order false true n a m b = before tt
order true false n a m b = behind tt
order false false n a m b =
    elim (cases_order n m) [
      | inl e ↦ elim (cases_order a b) [ inl h ↦ same e h | inr h ↦ elim h [ inl l ↦ before (inr (e, l)) | inr l ↦ behind (inr (sym e, l)) ] ]
      | inr h ↦ elim h [ inl l ↦ before (inl l) | inr l ↦ behind (inl l) ]
    ]
order true true n a m b =
    elim (cases_order a b) [
      | inl e ↦ elim (cases_order n m) [ inl h ↦ same h e | inr h ↦ elim h [ inl l ↦ before (inr (e, l)) | inr l ↦ behind (inr (sym e, l)) ] ]
      | inr h ↦ elim h [ inl l ↦ before (inl l) | inr l ↦ behind (inl l) ]
    ]

pub same_rule : (bytes : List ℕ) (rule other : Rule) (at there : ℕ) → IsVerdict bytes rule at → IsVerdict bytes other there → (rule_number rule ≡ rule_number other) × (at ≡ there)
same_rule bytes rule other at there v w =
    elim (order (is_flow_rule rule) (is_flow_rule other) (rule_number rule) at (rule_number other) there) [
      | before h ↦ absurd (w.first rule at h v.broken)
      | behind h ↦ absurd (v.first other there h w.broken)
      | same e f ↦ (e, f)
    ]

-- a rule is told by its number
abbrev numbered : ℕ → Rule
numbered n =
    cond (eqb n 1) V1 (cond (eqb n 2) V2 (cond (eqb n 3) V3 (cond (eqb n 4) V4 (cond (eqb n 5) V5 (cond (eqb n 6) V6 (cond (eqb n 7) V7 (cond (eqb n 8) V8
    (cond (eqb n 9) V9 (cond (eqb n 10) V10 (cond (eqb n 11) V11 (cond (eqb n 12) V12 (cond (eqb n 13) V13 (cond (eqb n 14) V14 (cond (eqb n 15) V15 V16))))))))))))))

numbered_again : (rule : Rule) → numbered (rule_number rule) ≡ rule
numbered_again V1 = refl
numbered_again V2 = refl
numbered_again V3 = refl
numbered_again V4 = refl
numbered_again V5 = refl
numbered_again V6 = refl
numbered_again V7 = refl
numbered_again V8 = refl
numbered_again V9 = refl
numbered_again V10 = refl
numbered_again V11 = refl
numbered_again V12 = refl
numbered_again V13 = refl
numbered_again V14 = refl
numbered_again V15 = refl
numbered_again V16 = refl

pub same_number : (rule other : Rule) → rule_number rule ≡ rule_number other → rule ≡ other
same_number rule other e = sym (numbered_again rule) ∙ ap numbered e ∙ numbered_again other
