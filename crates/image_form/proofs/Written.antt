-- Pieces that are written one behind the other spell the image.
use Rattle.std.proofs.Common.{◌≡◌, ℕ, List, [], ◌∷◌, ◌++◌, length, subst, ◌∙◌, append_assoc}
use Rattle.std.specs.List.{flat_map}
use Rattle.std.proofs.lemmas.List.{append-nil}
use Rattle.image_form.specs.Image.{Image, word, spelling}

regroup : (a p z w e c u v : List ℕ) → a ++ p ++ z ++ w ++ e ++ c ++ u ++ v ≡ a ++ (p ++ (z ++ (w ++ (e ++ (c ++ (u ++ (v ++ [])))))))
regroup a p z w e c u v = simp (append_assoc, append-nil)

-- one more piece
after : (o a piece whole : List ℕ) → o ≡ a ++ piece → a ≡ whole → o ≡ whole ++ piece
after o a piece whole e f = cc

pub written : (image : Image) (entries o0 o1 o2 o3 o4 o5 o6 o7 o8 : List ℕ)
    → entries ≡ image.entries → o0 ≡ [] → o1 ≡ o0 ++ (67 ∷ 70 ∷ 86 ∷ 73 ∷ 1 ∷ length entries ∷ 0 ∷ 0 ∷ []) → o2 ≡ o1 ++ image.prefix → o3 ≡ o2 ++ (0 ∷ 0 ∷ [])
    → o4 ≡ o3 ++ flat_map word (image.seg_size ∷ image.stack_size ∷ length image.code ∷ length image.public ∷ length image.private ∷ 0 ∷ [])
    → o5 ≡ o4 ++ flat_map word entries → o6 ≡ o5 ++ image.code → o7 ≡ o6 ++ image.public → o8 ≡ o7 ++ image.private → o8 ≡ spelling image
unfolding spelling
written image entries o0 o1 o2 o3 o4 o5 o6 o7 o8 e e0 e1 e2 e3 e4 e5 e6 e7 e8 =
    let first = 67 ∷ 70 ∷ 86 ∷ 73 ∷ 1 ∷ length entries ∷ 0 ∷ 0 ∷ [] in
    let numbers = flat_map word (image.seg_size ∷ image.stack_size ∷ length image.code ∷ length image.public ∷ length image.private ∷ 0 ∷ []) in
    let a1 = after o1 o0 first [] e1 e0 in
    let a2 = after o2 o1 image.prefix _ e2 a1 in
    let a3 = after o3 o2 (0 ∷ 0 ∷ []) _ e3 a2 in
    let a4 = after o4 o3 numbers _ e4 a3 in
    let a5 = after o5 o4 (flat_map word entries) _ e5 a4 in
    let a6 = after o6 o5 image.code _ e6 a5 in
    let a7 = after o7 o6 image.public _ e7 a6 in
    let a8 = after o8 o7 image.private _ e8 a7 in
    let spelled_as : List ℕ → Type 0 = λ xs. o8 ≡ 67 ∷ 70 ∷ 86 ∷ 73 ∷ 1 ∷ length xs ∷ 0 ∷ 0 ∷ [] ++ (image.prefix ++ (0 ∷ 0 ∷ [] ++ (numbers ++ (flat_map word xs ++ (image.code ++ (image.public ++ (image.private ++ []))))))) in
    subst spelled_as e (a8 ∙ regroup first image.prefix (0 ∷ 0 ∷ []) numbers (flat_map word entries) image.code image.public image.private)
