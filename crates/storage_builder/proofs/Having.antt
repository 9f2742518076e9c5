-- Levels of words, one below another: whether there are such is decided from the top.
use Rattle.std.specs.Prelude.{◌≡◌, ℕ, suc, ◌+◌, ◌≤◌, ◌<◌, List, [], ◌∷◌, length, drop, slice_index}
use Rattle.std.proofs.Common.{◌∙◌, sym, ap, subst, arith, get_or, add-one, drop-cons}
use Rattle.std.proofs.lemmas.List.{drop_all, length-map, get_or-map}
use Rattle.level_core.specs.declared.letter.Letter.{Letter}
use Rattle.format_spec.specs.declared.format.FormatLevel.{FormatLevel}
use Rattle.format_spec.specs.Formats.{letters_of}
use Rattle.tensor_storage.specs.declared.level.StorageLevel.{StorageLevel}
use Rattle.tensor_storage.specs.declared.words.LevelWords.{LevelWords}
use Rattle.level_checks.specs.Fitting.{positions_by}
use Rattle.level_checks.proofs.EachKind.{Made, positions_are}
use Rattle.level_checks.proofs.Loops.{Same}
use Rattle.storage_builder.specs.Checked.{AreLeastWide, HaveLevels}
use Rattle.storage_builder.specs.Made.{AreHandedOver, values_for}

-- the first level, of levels one below another
first_made : (letter : Letter) (letters : List Letter) (size : ℕ) (sizes : List ℕ) (part : LevelWords) (parts : List LevelWords)
    (parents values : ℕ) → HaveLevels (letter ∷ letters) (size ∷ sizes) (part ∷ parts) parents values → Made letter size parents part
first_made letter letters size sizes part parts parents values h = by h.levels h.handed h.widths
  where
    by : (ls : List StorageLevel) → AreHandedOver (letter ∷ letters) (size ∷ sizes) (part ∷ parts) parents ls → AreLeastWide parents ls
        → Made letter size parents part
    by [] handed widths = absurd handed
    by (l ∷ ls) handed widths = (l, handed.0, widths.0)

-- and those below it
others_made : (letter : Letter) (letters : List Letter) (size : ℕ) (sizes : List ℕ) (part : LevelWords) (parts : List LevelWords)
    (parents values : ℕ) → Made letter size parents part
    → Same (HaveLevels letters sizes parts (positions_by letter size parents part) values)
    (HaveLevels (letter ∷ letters) (size ∷ sizes) (part ∷ parts) parents values)
others_made letter letters size sizes part parts parents values (m, made, wide) = (into, back)
  where
    into : HaveLevels letters sizes parts (positions_by letter size parents part) values
        → HaveLevels (letter ∷ letters) (size ∷ sizes) (part ∷ parts) parents values
    into h =
        let is = sym (positions_are letter size parents part m made) in
        record {
          levels = m ∷ h.levels;
          handed = (made, subst (λ n. AreHandedOver letters sizes parts n h.levels) is h.handed);
          widths = (wide, subst (λ n. AreLeastWide n h.levels) is h.widths);
          many = subst (λ n. values_for n h.levels ≡ values) is h.many;
        }

    by : (ls : List StorageLevel) → AreHandedOver (letter ∷ letters) (size ∷ sizes) (part ∷ parts) parents ls → AreLeastWide parents ls
        → values_for parents ls ≡ values → HaveLevels letters sizes parts (positions_by letter size parents part) values
    by [] handed widths many = absurd handed
    by (l ∷ ls) handed widths many =
        let is = positions_are letter size parents part l handed.0 in
        record {
          levels = ls;
          handed = subst (λ n. AreHandedOver letters sizes parts n ls) is handed.1;
          widths = subst (λ n. AreLeastWide n ls) is widths.1;
          many = subst (λ n. values_for n ls ≡ values) is many;
        }

    back : HaveLevels (letter ∷ letters) (size ∷ sizes) (part ∷ parts) parents values
        → HaveLevels letters sizes parts (positions_by letter size parents part) values
    back h = by h.levels h.handed h.widths h.many

-- what is left from the level of a number on
abbrev pub Left : List FormatLevel → List ℕ → List LevelWords → ℕ → ℕ → ℕ → Type 0
Left format sizes parts n parents values = HaveLevels (drop n (letters_of format)) (drop n sizes) (drop n parts) parents values

module _ (format : List FormatLevel) (sizes : List ℕ) (parts : List LevelWords) (n parents values : ℕ) (d : FormatLevel) (part : LevelWords)
    (inside : n < length format) (sizes_long : length sizes ≡ length format) (parts_long : length parts ≡ length format)
    (part_is : part ≡ get_or parts n part) where
  letters_left : drop n (letters_of format) ≡ (get_or format n d).letter ∷ drop (n + 1) (letters_of format)
  letters_left =
      let long = length-map format (λ level. level.letter) in
      drop-cons (letters_of format) n d.letter (omega (arith, long, inside))
      ∙ ap (λ k. k ∷ drop (suc n) (letters_of format)) (get_or-map (λ level. level.letter) format n d d.letter inside)
      ∙ ap (λ m. (get_or format n d).letter ∷ drop m (letters_of format)) (sym (add-one n))

  sizes_left : drop n sizes ≡ slice_index sizes n ∷ drop (n + 1) sizes
  sizes_left = drop-cons sizes n 0 (omega (arith, sizes_long, inside)) ∙ ap (λ m. slice_index sizes n ∷ drop m sizes) (sym (add-one n))

  parts_left : drop n parts ≡ part ∷ drop (n + 1) parts
  parts_left =
      drop-cons parts n part (omega (arith, parts_long, inside)) ∙ ap (λ p. p ∷ drop (suc n) parts) (sym part_is)
      ∙ ap (λ m. part ∷ drop m parts) (sym (add-one n))

  here : Same (Left format sizes parts n parents values)
      (HaveLevels ((get_or format n d).letter ∷ drop (n + 1) (letters_of format)) (slice_index sizes n ∷ drop (n + 1) sizes)
      (part ∷ drop (n + 1) parts) parents values)
  here = (
    λ h. subst (λ ls. HaveLevels ls (slice_index sizes n ∷ drop (n + 1) sizes) (part ∷ drop (n + 1) parts) parents values) letters_left
        (subst (λ ss. HaveLevels (drop n (letters_of format)) ss (part ∷ drop (n + 1) parts) parents values) sizes_left
        (subst (λ ps. HaveLevels (drop n (letters_of format)) (drop n sizes) ps parents values) parts_left h)),
    λ h. subst (λ ls. HaveLevels ls (drop n sizes) (drop n parts) parents values) (sym letters_left)
        (subst (λ ss. HaveLevels ((get_or format n d).letter ∷ drop (n + 1) (letters_of format)) ss (drop n parts) parents values)
        (sym sizes_left)
        (subst (λ ps. HaveLevels ((get_or format n d).letter ∷ drop (n + 1) (letters_of format)) (slice_index sizes n ∷ drop (n + 1) sizes)
        ps parents values) (sym parts_left) h)),
  )

  -- there is a level here where there are all
  pub left_first : Left format sizes parts n parents values → Made (get_or format n d).letter (slice_index sizes n) parents part
  left_first h = first_made (get_or format n d).letter (drop (n + 1) (letters_of format)) (slice_index sizes n) (drop (n + 1) sizes) part
      (drop (n + 1) parts) parents values (here.0 h)

  -- and where there is, there are all where those below it are
  pub left_next : (count : ℕ) → Made (get_or format n d).letter (slice_index sizes n) parents part
      → count ≡ positions_by (get_or format n d).letter (slice_index sizes n) parents part
      → Same (Left format sizes parts (n + 1) count values) (Left format sizes parts n parents values)
  left_next count made is =
      let next = others_made (get_or format n d).letter (drop (n + 1) (letters_of format)) (slice_index sizes n) (drop (n + 1) sizes) part
      (drop (n + 1) parts) parents values made in (
        λ h. here.1 (next.0 (subst (λ k. Left format sizes parts (n + 1) k values) is h)),
        λ h. subst (λ k. Left format sizes parts (n + 1) k values) (sym is) (next.1 (here.0 h)),
      )

-- behind the last level
pub none_left : (format : List FormatLevel) (sizes : List ℕ) (parts : List LevelWords) (n parents values : ℕ) → length format ≤ n
    → Same (parents ≡ values) (Left format sizes parts n parents values)
none_left format sizes parts n parents values all = (
  λ e. subst (λ ls. HaveLevels ls (drop n sizes) (drop n parts) parents values) (sym none)
      (record { levels = []; handed = tt; widths = tt; many = e }),
  λ h. let k = subst (λ ls. HaveLevels ls (drop n sizes) (drop n parts) parents values) none h in by k.levels k.handed k.many,
)
  where
    none : drop n (letters_of format) ≡ []
    none = let long = length-map format (λ level. level.letter) in drop_all n (letters_of format) (omega (arith, long, all))

    by : (ls : List StorageLevel) → AreHandedOver [] (drop n sizes) (drop n parts) parents ls → values_for parents ls ≡ values
        → parents ≡ values
    by [] handed many = many
    by (l ∷ ls) handed many = absurd handed
