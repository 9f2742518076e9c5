-- The loop that makes levels of what was handed over.
use Rattle.std.specs.Prelude.{◌≡◌, ℕ, zero, suc, ◌+◌, ◌≤◌, ◌<◌, List, [], ◌∷◌, ◌++◌, length, take, drop, slice_index, slice_set, refl}
use Rattle.std.proofs.Common.{◌∙◌, sym, ap, subst, arith, get_or, add-one, drop-cons}
use Rattle.std.proofs.lemmas.List.{drop-set-lt, length-set, length-map, get_or-map}
use Rattle.level_core.specs.declared.letter.Letter.{Letter}
use Rattle.format_spec.specs.declared.format.FormatLevel.{FormatLevel}
use Rattle.format_spec.specs.Formats.{letters_of}
use Rattle.tensor_storage.specs.declared.level.StorageLevel.{StorageLevel}
use Rattle.tensor_storage.specs.declared.words.LevelWords.{LevelWords}
use Rattle.tensor_storage.specs.Handed.{IsHandedOver, AreAlike}
use Rattle.storage_arrays.specs.Arrays.{positions_in}
use Rattle.storage_builder.specs.Made.{AreHandedOver, AllAlike}
use Rattle.storage_builder.proofs.Alike.{alike_positions}

-- so many levels are made, alike those that have what was handed over; and below them stand those that have the rest
pub record Making (letters : List Letter) (sizes : List ℕ) (given : List LevelWords) (n parents : ℕ) (parts : List LevelWords)
    (levels : List StorageLevel) : Type 0 where
  pub alike : (ls : List StorageLevel) → AreHandedOver letters sizes given 1 ls → AllAlike (take n ls) levels
  pub rest : (ls : List StorageLevel) → AreHandedOver letters sizes given 1 ls
      → AreHandedOver (drop n letters) (drop n sizes) (drop n given) parents (drop n ls)
  pub left : drop n parts ≡ drop n given
  pub long : length parts ≡ length given
  pub many : length levels ≡ n

pub making_none : (letters : List Letter) (sizes : List ℕ) (given : List LevelWords) → Making letters sizes given 0 1 given []
making_none letters sizes given = record { alike = λ ls h. tt; rest = λ ls h. h; left = refl; long = refl; many = refl }

handed_long : (letters : List Letter) (sizes : List ℕ) (parts : List LevelWords) (parents : ℕ) (ls : List StorageLevel)
    → AreHandedOver letters sizes parts parents ls → length ls ≡ length letters
handed_long [] sizes parts parents [] h = refl
handed_long [] sizes parts parents (l ∷ ls) h = absurd h
handed_long (letter ∷ letters) sizes parts parents [] h = absurd h
handed_long (letter ∷ letters) [] parts parents (l ∷ ls) h = absurd h
handed_long (letter ∷ letters) (size ∷ sizes) [] parents (l ∷ ls) h = absurd h
handed_long (letter ∷ letters) (size ∷ sizes) (part ∷ parts) parents (l ∷ ls) h =
    ap suc (handed_long letters sizes parts (positions_in parents l) ls h.1)

-- the level of a number, and those below it
handed_at : (n : ℕ) (letters : List Letter) (sizes : List ℕ) (parts : List LevelWords) (ls : List StorageLevel) (parents : ℕ)
    (dl : Letter) (dp : LevelWords) (d : StorageLevel) → n < length letters → n < length sizes → n < length parts → n < length ls
    → AreHandedOver (drop n letters) (drop n sizes) (drop n parts) parents (drop n ls)
    → IsHandedOver (get_or letters n dl) (get_or sizes n 0) parents (get_or parts n dp) (get_or ls n d)
    × AreHandedOver (drop (suc n) letters) (drop (suc n) sizes) (drop (suc n) parts) (positions_in parents (get_or ls n d))
    (drop (suc n) ls)
handed_at n [] sizes parts ls parents dl dp d a b c e h = absurd (omega (arith, a))
handed_at n (letter ∷ letters) [] parts ls parents dl dp d a b c e h = absurd (omega (arith, b))
handed_at n (letter ∷ letters) (size ∷ sizes) [] ls parents dl dp d a b c e h = absurd (omega (arith, c))
handed_at n (letter ∷ letters) (size ∷ sizes) (part ∷ parts) [] parents dl dp d a b c e h = absurd (omega (arith, e))
handed_at zero (letter ∷ letters) (size ∷ sizes) (part ∷ parts) (l ∷ ls) parents dl dp d a b c e h = h
handed_at (suc n) (letter ∷ letters) (size ∷ sizes) (part ∷ parts) (l ∷ ls) parents dl dp d a b c e h =
    handed_at n letters sizes parts ls parents dl dp d (omega (arith, a)) (omega (arith, b)) (omega (arith, c)) (omega (arith, e)) h

all_push : (n : ℕ) (ls ms : List StorageLevel) (m d : StorageLevel) → n < length ls → AllAlike (take n ls) ms → AreAlike (get_or ls n d) m
    → AllAlike (take (suc n) ls) (ms ++ m ∷ [])
all_push n [] ms m d less same a = absurd (omega (arith, less))
all_push zero (l ∷ ls) [] m d less same a = (a, tt)
all_push zero (l ∷ ls) (k ∷ ms) m d less same a = absurd same
all_push (suc n) (l ∷ ls) [] m d less same a = absurd same
all_push (suc n) (l ∷ ls) (k ∷ ms) m d less same a = (same.0, all_push n ls ms m d (omega (arith, less)) same.1 a)

a_level : (ls : List StorageLevel) → 0 < length ls → StorageLevel
a_level [] some = absurd (omega (arith, some))
a_level (l ∷ ls) some = l

module _ (letters : List Letter) (sizes : List ℕ) (given : List LevelWords) (n parents : ℕ) (parts : List LevelWords)
    (levels : List StorageLevel) (m : Making letters sizes given n parents parts levels) (dl : Letter) (dp : LevelWords)
    (h : n < length letters) (hs : n < length sizes) (hp : n < length given) where
  -- the part that is taken is the one that was given
  pub part_is : get_or parts n dp ≡ get_or given n dp
  part_is =
      let long = m.long in
      heads (get_or parts n dp) (get_or given n dp) (drop (suc n) parts) (drop (suc n) given)
      (sym (drop-cons parts n dp (omega (arith, long, hp))) ∙ m.left ∙ drop-cons given n dp hp)
    where
      heads : (x y : LevelWords) (xs ys : List LevelWords) → x ∷ xs ≡ y ∷ ys → x ≡ y
      heads x y xs ys e = cc

  tails_here : drop (suc n) parts ≡ drop (suc n) given
  tails_here =
      let long = m.long in
      tails (get_or parts n dp) (get_or given n dp) (drop (suc n) parts) (drop (suc n) given)
      (sym (drop-cons parts n dp (omega (arith, long, hp))) ∙ m.left ∙ drop-cons given n dp hp)
    where
      tails : (x y : LevelWords) (xs ys : List LevelWords) → x ∷ xs ≡ y ∷ ys → xs ≡ ys
      tails x y xs ys e = cc

  inside : (ls : List StorageLevel) → AreHandedOver letters sizes given 1 ls → n < length ls
  inside ls handed = let same = handed_long letters sizes given 1 ls handed in omega (arith, same, h)

  pub ready_here : (ls : List StorageLevel) → AreHandedOver letters sizes given 1 ls
      → (l : StorageLevel) × IsHandedOver (get_or letters n dl) (slice_index sizes n) parents (get_or given n dp) l
  ready_here ls handed =
      let less = inside ls handed in
      let d = a_level ls (omega (arith, less)) in
      (get_or ls n d, (handed_at n letters sizes given ls parents dl dp d h hs hp less (m.rest ls handed)).0)

  pub making_next : (made : StorageLevel) (left : List LevelWords) (pushed : List StorageLevel) (count : ℕ) (x : LevelWords)
      → ((l : StorageLevel) → IsHandedOver (get_or letters n dl) (slice_index sizes n) parents (get_or given n dp) l → AreAlike l made)
      → left ≡ slice_set parts n x → pushed ≡ levels ++ made ∷ [] → count ≡ positions_in parents made
      → Making letters sizes given (n + 1) count left pushed
  making_next made left pushed count x alike left_is pushed_is count_is =
      subst (λ k. Making letters sizes given k count left pushed) (sym (add-one n))
      (subst (λ ls. Making letters sizes given (suc n) count left ls) (sym pushed_is)
      (subst (λ ps. Making letters sizes given (suc n) count ps (levels ++ made ∷ [])) (sym left_is) next))
    where
      at : (ls : List StorageLevel) (handed : AreHandedOver letters sizes given 1 ls)
          → IsHandedOver (get_or letters n dl) (slice_index sizes n) parents (get_or given n dp) (get_or ls n made)
          × AreHandedOver (drop (suc n) letters) (drop (suc n) sizes) (drop (suc n) given) (positions_in parents (get_or ls n made))
          (drop (suc n) ls)
      at ls handed = handed_at n letters sizes given ls parents dl dp made h hs hp (inside ls handed) (m.rest ls handed)

      next : Making letters sizes given (suc n) count (slice_set parts n x) (levels ++ made ∷ [])
      next = record {
        alike = λ ls handed.
            all_push n ls levels made made (inside ls handed) (m.alike ls handed) (alike (get_or ls n made) (at ls handed).0);
        rest = λ ls handed.
            let here = at ls handed in
            let same = alike_positions (get_or ls n made) made parents (alike (get_or ls n made) here.0) here.0.has_parents in
            subst (λ k. AreHandedOver (drop (suc n) letters) (drop (suc n) sizes) (drop (suc n) given) k (drop (suc n) ls))
            (same ∙ sym count_is) here.1;
        left = drop-set-lt (suc n) parts n x (omega arith) ∙ tails_here;
        long = length-set parts n x ∙ m.long;
        many = let many = m.many in let long = length_then levels in omega (arith, many, long);
      }
        where
          length_then : (ls : List StorageLevel) → length (ls ++ made ∷ []) ≡ length ls + 1
          length_then [] = refl
          length_then (k ∷ ls) = let e = length_then ls in omega (arith, e)

-- the same of the levels of a format
module _ (format : List FormatLevel) (sizes : List ℕ) (given : List LevelWords) (n parents : ℕ) (parts : List LevelWords)
    (levels : List StorageLevel) (m : Making (letters_of format) sizes given n parents parts levels) (d : FormatLevel)
    (dp part : LevelWords) (h : n < length format) (hs : length sizes ≡ length format) (hp : length given ≡ length format)
    (part_taken : part ≡ get_or parts n dp) where
  many_letters : n < length (letters_of format)
  many_letters = let long = length-map format (λ level. level.letter) in omega (arith, long, h)

  letter_is : get_or (letters_of format) n d.letter ≡ (get_or format n d).letter
  letter_is = get_or-map (λ level. level.letter) format n d d.letter h

  taken : part ≡ get_or given n dp
  taken =
      part_taken
      ∙ part_is (letters_of format) sizes given n parents parts levels m d.letter dp many_letters (omega (arith, h, hs))
      (omega (arith, h, hp))

  handed_to : (l : StorageLevel)
      → IsHandedOver (get_or (letters_of format) n d.letter) (slice_index sizes n) parents (get_or given n dp) l
      → IsHandedOver (get_or format n d).letter (slice_index sizes n) parents part l
  handed_to l handed =
      subst (λ p. IsHandedOver (get_or format n d).letter (slice_index sizes n) parents p l) (sym taken)
      (subst (λ k. IsHandedOver k (slice_index sizes n) parents (get_or given n dp) l) letter_is handed)

  pub format_ready : (ls : List StorageLevel) → AreHandedOver (letters_of format) sizes given 1 ls
      → (l : StorageLevel) × IsHandedOver (get_or format n d).letter (slice_index sizes n) parents part l
  format_ready ls handed =
      let here = ready_here (letters_of format) sizes given n parents parts levels m d.letter dp many_letters (omega (arith, h, hs))
      (omega (arith, h, hp)) ls handed in
      (here.0, handed_to here.0 here.1)

  pub format_next : (made : StorageLevel) (pushed : List StorageLevel) (count : ℕ) (x : LevelWords)
      → ((l : StorageLevel) → IsHandedOver (get_or format n d).letter (slice_index sizes n) parents part l → AreAlike l made)
      → pushed ≡ levels ++ made ∷ [] → count ≡ positions_in parents made
      → Making (letters_of format) sizes given (n + 1) count (slice_set parts n x) pushed
  format_next made pushed count x alike pushed_is count_is =
      making_next (letters_of format) sizes given n parents parts levels m d.letter dp many_letters (omega (arith, h, hs))
      (omega (arith, h, hp)) made (slice_set parts n x) pushed count x
      (λ l handed. alike l (handed_to l handed)) refl pushed_is count_is

-- all levels are made
pub format_done : (format : List FormatLevel) (sizes : List ℕ) (given : List LevelWords) (n parents : ℕ) (parts : List LevelWords)
    (levels : List StorageLevel) → Making (letters_of format) sizes given n parents parts levels → length format ≤ n
    → (ls : List StorageLevel) → AreHandedOver (letters_of format) sizes given 1 ls → AllAlike ls levels
format_done format sizes given n parents parts levels m h ls handed =
    let long = length-map format (λ level. level.letter) in
    let same = handed_long (letters_of format) sizes given 1 ls handed in
    subst (λ ks. AllAlike ks levels) (take_whole n ls (omega (arith, long, same, h))) (m.alike ls handed)
  where
    take_whole : (k : ℕ) (ks : List StorageLevel) → length ks ≤ k → take k ks ≡ ks
    take_whole zero [] less = refl
    take_whole zero (l ∷ ks) less = absurd (omega (arith, less))
    take_whole (suc k) [] less = refl
    take_whole (suc k) (l ∷ ks) less = ap (λ ms. l ∷ ms) (take_whole k ks (omega (arith, less)))
