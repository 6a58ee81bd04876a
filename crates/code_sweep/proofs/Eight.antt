-- A list of eight, cell by cell.
use Rattle.std.proofs.Common.{◌≡◌, ℕ, ◌+◌, ◌*◌, ◌/◌, ◌%◌, ◌<◌, List, [], ◌∷◌, ◌++◌, length, get_or, refl, arith, ap, ◌∙◌, false}
use Rattle.x64_decode.specs.Spelling.{rex, between}
use Rattle.magic_words.specs.MagicWords.{call_word}
use Rattle.code_sweep.specs.Units.{inverse, check_tail, check_then, return_unit}

pub eight : (w tail : List ℕ) → length w ≡ 8 →
    get_or w 0 0 ∷ (get_or w 1 0 ∷ (get_or w 2 0 ∷ (get_or w 3 0 ∷ (get_or w 4 0 ∷ (get_or w 5 0 ∷ (get_or w 6 0 ∷ (get_or w 7 0 ∷ tail))))))) ≡ w ++ tail
eight (a ∷ (b ∷ (c ∷ (d ∷ (e ∷ (f ∷ (g ∷ (h ∷ [])))))))) tail long = refl
eight [] tail long = absurd (omega arith)
eight (a ∷ []) tail long = absurd (omega arith)
eight (a ∷ (b ∷ [])) tail long = absurd (omega arith)
eight (a ∷ (b ∷ (c ∷ []))) tail long = absurd (omega arith)
eight (a ∷ (b ∷ (c ∷ (d ∷ [])))) tail long = absurd (omega arith)
eight (a ∷ (b ∷ (c ∷ (d ∷ (e ∷ []))))) tail long = absurd (omega arith)
eight (a ∷ (b ∷ (c ∷ (d ∷ (e ∷ (f ∷ [])))))) tail long = absurd (omega arith)
eight (a ∷ (b ∷ (c ∷ (d ∷ (e ∷ (f ∷ (g ∷ []))))))) tail long = absurd (omega arith)
eight (a ∷ (b ∷ (c ∷ (d ∷ (e ∷ (f ∷ (g ∷ (h ∷ (i ∷ rest))))))))) tail long = absurd (omega arith)

-- a constant of eight cells and what follows it
abbrev pub cells : List ℕ → List ℕ → List ℕ
cells w tail = get_or w 0 0 ∷ (get_or w 1 0 ∷ (get_or w 2 0 ∷ (get_or w 3 0 ∷ (get_or w 4 0 ∷ (get_or w 5 0 ∷ (get_or w 6 0 ∷ (get_or w 7 0 ∷ tail)))))))

pub return_cells : (prefix inv word : List ℕ) (bit : ℕ) → length inv ≡ 8 → inv ≡ inverse word → word ≡ bit ∷ (0x22 ∷ prefix) →
    100 ∷ (103 ∷ (68 ∷ (139 ∷ (148 ∷ (36 ∷ (0 ∷ (0 ∷ (0 ∷ (0 ∷ (72 ∷ (129 ∷ (196 ∷ (8 ∷ (0 ∷ (0 ∷ (0 ∷ (73 ∷ (187 ∷ cells inv (check_tail 0xe2)))))))))))))))))))
    ≡ return_unit prefix bit
return_cells prefix inv word bit long e f =
    ap (λ l. 100 ∷ (103 ∷ (68 ∷ (139 ∷ (148 ∷ (36 ∷ (0 ∷ (0 ∷ (0 ∷ (0 ∷ (72 ∷ (129 ∷ (196 ∷ (8 ∷ (0 ∷ (0 ∷ (0 ∷ (73 ∷ (187 ∷ l)))))))))))))))))))
    (eight inv (check_tail 0xe2) long ∙ ap (λ w. w ++ check_tail 0xe2) (e ∙ ap inverse f))

pub call_cells : (prefix inv word : List ℕ) (register bits : ℕ) → length inv ≡ 8 → inv ≡ inverse word → word ≡ bits ∷ (0x11 ∷ prefix) → register < 16 →
    (0x41 + 4 * (register / 8)) ∷ (0x89 ∷ ((0xc2 + 8 * (register % 8)) ∷ (73 ∷ (187 ∷ cells inv (check_tail 0xd2)))))
    ≡ rex false register 10 ∷ (0x89 ∷ (between register 10 ∷ check_then (call_word bits prefix) 0xd2))
call_cells prefix inv word register bits long e f h =
    let first : 0x41 + 4 * (register / 8) ≡ rex false register 10 = omega arith in
    let third : 0xc2 + 8 * (register % 8) ≡ between register 10 = omega arith in
    ap (λ l. (0x41 + 4 * (register / 8)) ∷ (0x89 ∷ ((0xc2 + 8 * (register % 8)) ∷ (73 ∷ (187 ∷ l)))))
    (eight inv (check_tail 0xd2) long ∙ ap (λ w. w ++ check_tail 0xd2) (e ∙ ap inverse f))
    ∙ ap (λ n. n ∷ (0x89 ∷ ((0xc2 + 8 * (register % 8)) ∷ check_then (call_word bits prefix) 0xd2))) first
    ∙ ap (λ n. rex false register 10 ∷ (0x89 ∷ (n ∷ check_then (call_word bits prefix) 0xd2))) third
