-- A file whose fields are good is spelled by what they say, and what is spelled has good fields.
use Rattle.std.proofs.Common.{◌≡◌, ℕ, zero, suc, ◌+◌, ◌*◌, ◌≤◌, List, [], ◌∷◌, ◌++◌, length, get_or, take, drop, refl, sym, ap, ◌∙◌, suc-mul, arith}
use Rattle.std.specs.List.{flat_map}
use Rattle.std.proofs.lemmas.List.{take-append-drop, take_at, drop_at, drop-drop, drop_all, length-take, length-drop, length-append, get_or-drop, drop_more}
use Rattle.cv_word.specs.Words.{little_endian, AreBytes}
use Rattle.image_form.specs.Image.{Image, IsGood, IsSegmentSize, IsStackSize, IsEntryCount, IsCodeLength, HasRoom, word, signature, spelling}
use Rattle.image_form.specs.Table.{AreGood, fields, bytes_at, number_at, count_in, segment_in, stack_in, code_len_in, public_len_in, private_len_in, code_place, public_place, private_place, end_place}
use Rattle.image_form.specs.Reading.{numbers, image_in}
use Rattle.image_form.proofs.Numbers.{AreBytes-drop, AreBytes-take, word_number, word-little_endian, numbers-lt, length-numbers, flat_map-numbers, numbers-flat_map, length-flat_map_word}

-- ---- from a file to its spelling

-- the field at a place, and what comes after it
cut : (file : List ℕ) (place width : ℕ) (piece : List ℕ) → bytes_at file place width ≡ piece → drop place file ≡ piece ++ drop (place + width) file
cut file place width piece e =
    sym (take-append-drop width (drop place file))
    ∙ (ap (λ (t : List ℕ). t ++ drop width (drop place file)) e
    ∙ ap (λ (t : List ℕ). piece ++ t) (drop-drop width place file))

length-bytes_at : (file : List ℕ) (place width : ℕ) → place + width ≤ length file → length (bytes_at file place width) ≡ width
length-bytes_at file place width le = omega (arith, length-take width (drop place file), length-drop place file)

byte_at : (file : List ℕ) (place : ℕ) → place + 1 ≤ length file → bytes_at file place 1 ≡ get_or file place 0 ∷ []
byte_at file place le = rw (drop_more file place 0 (omega arith)) refl

word_at : (file : List ℕ) (place : ℕ) → place + 4 ≤ length file → AreBytes file → bytes_at file place 4 ≡ word (number_at file place)
word_at file place le h =
    sym (word-little_endian (bytes_at file place 4) (length-bytes_at file place 4 le) (AreBytes-take 4 (drop place file) (AreBytes-drop place file h)))

word_of_length : (file : List ℕ) (place len : ℕ) (piece : List ℕ) → bytes_at file place 4 ≡ word len → length piece ≡ len → bytes_at file place 4 ≡ word (length piece)
word_of_length file place len piece e l = e ∙ ap word (sym l)

-- the pieces one behind the other
joined : (image : Image) (file r4 r5 r6 r8 r14 r16 r20 r24 r28 r32 r36 r40 code public private : List ℕ)
    → file ≡ signature ++ r4 → r4 ≡ (1 ∷ []) ++ r5 → r5 ≡ (length image.entries ∷ []) ++ r6 → r6 ≡ (0 ∷ 0 ∷ []) ++ r8
    → r8 ≡ image.prefix ++ r14 → r14 ≡ (0 ∷ 0 ∷ []) ++ r16 → r16 ≡ word image.seg_size ++ r20 → r20 ≡ word image.stack_size ++ r24
    → r24 ≡ word (length image.code) ++ r28 → r28 ≡ word (length image.public) ++ r32 → r32 ≡ word (length image.private) ++ r36
    → r36 ≡ (0 ∷ 0 ∷ 0 ∷ 0 ∷ []) ++ r40 → r40 ≡ flat_map word image.entries ++ code → code ≡ image.code ++ public
    → public ≡ image.public ++ private → private ≡ image.private ++ [] → file ≡ spelling image
unfolding spelling
joined image file r4 r5 r6 r8 r14 r16 r20 r24 r28 r32 r36 r40 code public private e0 e4 e5 e6 e8 e14 e16 e20 e24 e28 e32 e36 e40 ec eu ev =
    let on : List ℕ → List ℕ → List ℕ = λ piece rest. piece ++ rest in
    e0 ∙ ap (on signature) (e4 ∙ ap (on (1 ∷ [])) (e5 ∙ ap (on (length image.entries ∷ [])) (e6 ∙ ap (on (0 ∷ 0 ∷ []))
    (e8 ∙ ap (on image.prefix) (e14 ∙ ap (on (0 ∷ 0 ∷ [])) (e16 ∙ ap (on (word image.seg_size)) (e20 ∙ ap (on (word image.stack_size))
    (e24 ∙ ap (on (word (length image.code))) (e28 ∙ ap (on (word (length image.public))) (e32 ∙ ap (on (word (length image.private)))
    (e36 ∙ ap (on (0 ∷ 0 ∷ 0 ∷ 0 ∷ [])) (e40 ∙ ap (on (flat_map word image.entries)) (ec ∙ ap (on image.code) (eu ∙ ap (on image.public) ev))))))))))))))

-- what a table of good fields comes to
record Facts (file : List ℕ) : Type 0 where
  pub header : 40 ≤ length file
  pub magic : bytes_at file 0 4 ≡ signature
  pub version : bytes_at file 4 1 ≡ 1 ∷ []
  pub count : IsEntryCount (count_in file)
  pub zero_6 : bytes_at file 6 2 ≡ 0 ∷ 0 ∷ []
  pub zero_14 : bytes_at file 14 2 ≡ 0 ∷ 0 ∷ []
  pub seg_size : IsSegmentSize (segment_in file)
  pub stack_size : IsStackSize (count_in file) (segment_in file) (stack_in file)
  pub code : IsCodeLength (code_len_in file)
  pub public : HasRoom (count_in file) (segment_in file) (stack_in file) (public_len_in file)
  pub private : HasRoom (count_in file) (segment_in file) (stack_in file) (private_len_in file)
  pub zero_36 : bytes_at file 36 4 ≡ 0 ∷ 0 ∷ 0 ∷ 0 ∷ []
  pub ends : length file ≡ end_place file

facts_from_good : (file : List ℕ) → AreGood file (fields file) → Facts file
facts_from_good file (r0, (r4, (r5, (r6, (r8, (r14, (r16, (r20, (r24, (r28, (r32, (r36, (r40, (rc, (ru, (rv, (re, _))))))))))))))))) = record {
  header = r36.0;
  magic = r0.1;
  version = r4.1;
  count = r5.1;
  zero_6 = r6.1;
  zero_14 = r14.1;
  seg_size = r16.1;
  stack_size = r20.1;
  code = r24.1.0;
  public = r28.1.0;
  private = r32.1.0;
  zero_36 = r36.1;
  ends = omega (arith, re.0, re.1);
}

good_from_facts : (file : List ℕ) → Facts file → AreGood file (fields file)
good_from_facts file f =
    let header = f.header in
    let ends = f.ends in (
      (omega arith, f.magic),
      (
        (omega arith, f.version),
        (
          (omega arith, f.count),
          (
            (omega arith, f.zero_6),
            (
              (omega arith, tt),
              (
                (omega arith, f.zero_14),
                (
                  (omega arith, f.seg_size),
                  (
                    (omega arith, f.stack_size),
                    (
                      (omega arith, (f.code, omega arith)),
                      (
                        (omega arith, (f.public, omega arith)),
                        (
                          (omega arith, (f.private, omega arith)),
                          (
                            (omega arith, f.zero_36),
                            (
                              (omega arith, tt),
                              (
                                (omega arith, tt),
                                (
                                  (omega arith, tt),
                                  (
                                    (omega arith, tt),
                                    ((omega arith, omega arith), tt),
                                  ),
                                ),
                              ),
                            ),
                          ),
                        ),
                      ),
                    ),
                  ),
                ),
              ),
            ),
          ),
        ),
      ),
    )

-- what the fields say is as long as they say
record Lengths (file : List ℕ) : Type 0 where
  pub entries : length (numbers (count_in file) (drop 40 file)) ≡ count_in file
  pub code : length (bytes_at file (code_place file) (code_len_in file)) ≡ code_len_in file
  pub public : length (bytes_at file (public_place file) (public_len_in file)) ≡ public_len_in file
  pub private : length (bytes_at file (private_place file) (private_len_in file)) ≡ private_len_in file

lengths : (file : List ℕ) → Facts file → Lengths file
lengths file f =
    let ends = f.ends in
    record {
      entries = length-numbers (count_in file) (drop 40 file);
      code = length-bytes_at file (code_place file) (code_len_in file) (omega arith);
      public = length-bytes_at file (public_place file) (public_len_in file) (omega arith);
      private = length-bytes_at file (private_place file) (private_len_in file) (omega arith);
    }

pub spelled : (file : List ℕ) → AreBytes file → AreGood file (fields file) → file ≡ spelling (image_in file)
unfolding image_in
spelled file h g =
    let f = facts_from_good file g in
    let l = lengths file f in
    let ends = f.ends in
    let header = f.header in
    let n = count_in file in
    let entries_fit : 4 * n ≤ length (drop 40 file) = omega (arith, length-drop 40 file) in
    let private = bytes_at file (private_place file) (private_len_in file) in
    joined (image_in file) file (drop 4 file) (drop 5 file) (drop 6 file) (drop 8 file) (drop 14 file) (drop 16 file) (drop 20 file) (drop 24 file)
    (drop 28 file) (drop 32 file) (drop 36 file) (drop 40 file) (drop (code_place file) file) (drop (public_place file) file) (drop (private_place file) file)
    (cut file 0 4 _ f.magic)
    (cut file 4 1 _ f.version)
    (cut file 5 1 _ (byte_at file 5 (omega arith) ∙ ap (λ (k : ℕ). k ∷ []) (sym l.entries)))
    (cut file 6 2 _ f.zero_6)
    (cut file 8 6 _ refl)
    (cut file 14 2 _ f.zero_14)
    (cut file 16 4 _ (word_at file 16 (omega arith) h))
    (cut file 20 4 _ (word_at file 20 (omega arith) h))
    (cut file 24 4 _ (word_of_length file 24 (code_len_in file) _ (word_at file 24 (omega arith) h) l.code))
    (cut file 28 4 _ (word_of_length file 28 (public_len_in file) _ (word_at file 28 (omega arith) h) l.public))
    (cut file 32 4 _ (word_of_length file 32 (private_len_in file) _ (word_at file 32 (omega arith) h) l.private))
    (cut file 36 4 _ f.zero_36)
    (cut file 40 (4 * n) _ (sym (flat_map-numbers n (drop 40 file) entries_fit (AreBytes-drop 40 file h))))
    (cut file (code_place file) (code_len_in file) _ refl)
    (cut file (public_place file) (public_len_in file) _ refl)
    (cut file (private_place file) (private_len_in file) _ refl ∙ ap (λ (t : List ℕ). private ++ t) (drop_all (end_place file) file (omega arith)))

pub good_in : (file : List ℕ) → AreBytes file → AreGood file (fields file) → IsGood (image_in file)
unfolding image_in
good_in file h g =
    let f = facts_from_good file g in
    let l = lengths file f in
    let ends = f.ends in
    let header = f.header in
    record {
      prefix_len = length-bytes_at file 8 6 (omega arith);
      seg_size = f.seg_size;
      stack_size = rw l.entries f.stack_size;
      entry_count = rw l.entries f.count;
      entries = numbers-lt (count_in file) (drop 40 file) (omega (arith, length-drop 40 file)) (AreBytes-drop 40 file h);
      code = rw l.code f.code;
      public = rw (l.entries, l.public) f.public;
      private = rw (l.entries, l.private) f.private;
    }

-- ---- from a spelling to its fields

-- a piece that stands at a place is the field there
record Stands (file : List ℕ) (place width : ℕ) (piece rest : List ℕ) : Type 0 where
  pub whole : place + width ≤ length file
  pub piece_is : bytes_at file place width ≡ piece
  pub rest_is : drop (place + width) file ≡ rest

stands : (file : List ℕ) (place width : ℕ) (piece rest : List ℕ) → place ≤ length file → drop place file ≡ piece ++ rest → length piece ≡ width → Stands file place width piece rest
stands file place width piece rest le e l = record {
  whole = omega (arith, ap length e, length-append piece rest, length-drop place file);
  piece_is = ap (λ (t : List ℕ). take width t) e ∙ take_at piece rest width l;
  rest_is = sym (drop-drop width place file) ∙ (ap (λ (t : List ℕ). drop width t) e ∙ drop_at piece rest width l);
}

at_least_once : (n s : ℕ) → 1 ≤ n → s ≤ n * s
at_least_once zero s le = absurd (omega arith)
at_least_once (suc n) s le = omega (arith, suc-mul n s)

same_bytes : (file : List ℕ) (p q v w : ℕ) → p ≡ q → v ≡ w → bytes_at file p v ≡ bytes_at file q w
same_bytes file p q v w e f = cc

make : List ℕ → ℕ → ℕ → List ℕ → List ℕ → List ℕ → List ℕ → Image
make prefix seg_size stack_size entries code public private =
    record { prefix = prefix; seg_size = seg_size; stack_size = stack_size; entries = entries; code = code; public = public; private = private }

make_fields : (a : Image) → make a.prefix a.seg_size a.stack_size a.entries a.code a.public a.private ≡ a
unfolding make
make_fields a = refl

same_image : (a b : Image) → a.prefix ≡ b.prefix → a.seg_size ≡ b.seg_size → a.stack_size ≡ b.stack_size → a.entries ≡ b.entries → a.code ≡ b.code → a.public ≡ b.public → a.private ≡ b.private → a ≡ b
same_image a b e1 e2 e3 e4 e5 e6 e7 = cc (make_fields a, make_fields b)

pub record Again (file : List ℕ) (image : Image) : Type 0 where
  pub good : AreGood file (fields file)
  pub image_is : image_in file ≡ image

-- a file that the pieces make is read as the image
again : (image : Image) → IsGood image → (file r4 r5 r6 r8 r14 r16 r20 r24 r28 r32 r36 r40 code public private : List ℕ)
    → file ≡ signature ++ r4 → r4 ≡ (1 ∷ []) ++ r5 → r5 ≡ (length image.entries ∷ []) ++ r6 → r6 ≡ (0 ∷ 0 ∷ []) ++ r8
    → r8 ≡ image.prefix ++ r14 → r14 ≡ (0 ∷ 0 ∷ []) ++ r16 → r16 ≡ word image.seg_size ++ r20 → r20 ≡ word image.stack_size ++ r24
    → r24 ≡ word (length image.code) ++ r28 → r28 ≡ word (length image.public) ++ r32 → r32 ≡ word (length image.private) ++ r36
    → r36 ≡ (0 ∷ 0 ∷ 0 ∷ 0 ∷ []) ++ r40 → r40 ≡ flat_map word image.entries ++ code → code ≡ image.code ++ public
    → public ≡ image.public ++ private → private ≡ image.private ++ [] → Again file image
unfolding image_in
again image good file r4 r5 r6 r8 r14 r16 r20 r24 r28 r32 r36 r40 code public private e0 e4 e5 e6 e8 e14 e16 e20 e24 e28 e32 e36 e40 ec eu ev =
    let n = length image.entries in
    let s0 = stands file 0 4 signature r4 (omega arith) e0 refl in
    let s4 = stands file 4 1 (1 ∷ []) r5 s0.whole (s0.rest_is ∙ e4) refl in
    let s5 = stands file 5 1 (n ∷ []) r6 s4.whole (s4.rest_is ∙ e5) refl in
    let s6 = stands file 6 2 (0 ∷ 0 ∷ []) r8 s5.whole (s5.rest_is ∙ e6) refl in
    let s8 = stands file 8 6 image.prefix r14 s6.whole (s6.rest_is ∙ e8) good.prefix_len in
    let s14 = stands file 14 2 (0 ∷ 0 ∷ []) r16 s8.whole (s8.rest_is ∙ e14) refl in
    let s16 = stands file 16 4 (word image.seg_size) r20 s14.whole (s14.rest_is ∙ e16) refl in
    let s20 = stands file 20 4 (word image.stack_size) r24 s16.whole (s16.rest_is ∙ e20) refl in
    let s24 = stands file 24 4 (word (length image.code)) r28 s20.whole (s20.rest_is ∙ e24) refl in
    let s28 = stands file 28 4 (word (length image.public)) r32 s24.whole (s24.rest_is ∙ e28) refl in
    let s32 = stands file 32 4 (word (length image.private)) r36 s28.whole (s28.rest_is ∙ e32) refl in
    let s36 = stands file 36 4 (0 ∷ 0 ∷ 0 ∷ 0 ∷ []) r40 s32.whole (s32.rest_is ∙ e36) refl in
    let s40 = stands file 40 (4 * n) (flat_map word image.entries) code s36.whole (s36.rest_is ∙ e40) (length-flat_map_word image.entries) in
    let sc = stands file (40 + 4 * n) (length image.code) image.code public s40.whole (s40.rest_is ∙ ec) refl in
    let su = stands file (40 + 4 * n + length image.code) (length image.public) image.public private sc.whole (sc.rest_is ∙ eu) refl in
    let sv = stands file (40 + 4 * n + length image.code + length image.public) (length image.private) image.private [] su.whole (su.rest_is ∙ ev) refl in
    let n-is : count_in file ≡ n = sym (get_or-drop 5 file 0 0) ∙ ap (λ (t : List ℕ). get_or t 0 0) (s4.rest_is ∙ e5) in
    let once = at_least_once n image.stack_size good.entry_count.0 in
    let seg-is : segment_in file ≡ image.seg_size = ap little_endian s16.piece_is ∙ word_number image.seg_size (omega (arith, good.seg_size)) in
    let stack-is : stack_in file ≡ image.stack_size = ap little_endian s20.piece_is ∙ word_number image.stack_size (omega (arith, good.seg_size, good.stack_size, once)) in
    let code-is : code_len_in file ≡ length image.code = ap little_endian s24.piece_is ∙ word_number (length image.code) (omega (arith, good.code)) in
    let public-is : public_len_in file ≡ length image.public = ap little_endian s28.piece_is ∙ word_number (length image.public) (omega (arith, good.seg_size, good.public)) in
    let private-is : private_len_in file ≡ length image.private = ap little_endian s32.piece_is ∙ word_number (length image.private) (omega (arith, good.seg_size, good.private)) in
    let f : Facts file = record {
      header = s36.whole;
      magic = s0.piece_is;
      version = s4.piece_is;
      count = rw n-is good.entry_count;
      zero_6 = s6.piece_is;
      zero_14 = s14.piece_is;
      seg_size = rw seg-is good.seg_size;
      stack_size = rw (n-is, seg-is, stack-is) good.stack_size;
      code = rw code-is good.code;
      public = rw (n-is, seg-is, stack-is, public-is) good.public;
      private = rw (n-is, seg-is, stack-is, private-is) good.private;
      zero_36 = s36.piece_is;
      ends = omega (arith, n-is, code-is, public-is, private-is, sv.whole, ap length sv.rest_is, length-drop (40 + 4 * n + length image.code + length image.public + length image.private) file);
    } in
    let entries-is : numbers (count_in file) (drop 40 file) ≡ image.entries =
    ap (λ (k : ℕ). numbers k (drop 40 file)) n-is
    ∙ (ap (λ (t : List ℕ). numbers n t) (s36.rest_is ∙ e40)
    ∙ numbers-flat_map image.entries code good.entries) in
    record {
      good = good_from_facts file f;
      image_is = same_image (image_in file) image s8.piece_is seg-is stack-is entries-is
          (same_bytes file _ _ _ _ (omega (arith, n-is)) code-is ∙ sc.piece_is)
          (same_bytes file _ _ _ _ (omega (arith, n-is, code-is)) public-is ∙ su.piece_is)
          (same_bytes file _ _ _ _ (omega (arith, n-is, code-is, public-is)) private-is ∙ sv.piece_is);
    }

pub read_again : (image : Image) → IsGood image → Again (spelling image) image
unfolding spelling
read_again image good =
    again image good (spelling image) _ _ _ _ _ _ _ _ _ _ _ _ _ _ _ refl refl refl refl refl refl refl refl refl refl refl refl refl refl refl refl
