-- The levels that are made of words are a storage that keeps every rule exactly where some levels that have these words are.
use Rattle.std.specs.Prelude.{◌≡◌, ℕ, zero, suc, ◌<◌, Bool, Decides, List, [], ◌∷◌, length, map, slice_index, All, refl}
use Rattle.std.proofs.Common.{◌∙◌, sym, subst, arith, inl, inr, get_or}
use Rattle.std.proofs.lemmas.Bool.Decides.{eqb_tells}
use Rattle.level_core.specs.declared.span.Span.{Span}
use Rattle.level_core.specs.declared.letter.Letter.{Letter}
use Rattle.level_core.specs.Entries.{StandsAt, one}
use Rattle.level_rows.specs.Stacks.{Path}
use Rattle.format_spec.specs.declared.format.FormatLevel.{FormatLevel}
use Rattle.format_spec.specs.Formats.{letters_of, IsFormat}
use Rattle.tensor_storage.specs.declared.level.StorageLevel.{StorageLevel}
use Rattle.tensor_storage.specs.declared.words.LevelWords.{LevelWords}
use Rattle.tensor_storage.specs.Levels.{meaning}
use Rattle.tensor_storage.specs.Storages.{Storage, IsOpen, IsStorage, storage_of}
use Rattle.storage_arrays.specs.Arrays.{AreDone, positions_in}
use Rattle.storage_builder.specs.Building.{Building, building}
use Rattle.storage_builder.specs.Checked.{HasZeros, HaveLevels, IsWhole, IsMadeOf}
use Rattle.storage_builder.specs.Cleared.{EndsBelow, IsCleared}
use Rattle.storage_builder.specs.Made.{AreHandedOver, AllAlike}
use Rattle.storage_builder.proofs.Alike.{alike_kinds, alike_open, alike_positions}

-- levels that were handed over are finished
pub handed_done : (letters : List Letter) (sizes : List ℕ) (parts : List LevelWords) (parents : ℕ) (ls : List StorageLevel)
    → AreHandedOver letters sizes parts parents ls → AreDone parents ls
handed_done [] sizes parts parents [] h = tt
handed_done [] sizes parts parents (l ∷ ls) h = absurd h
handed_done (letter ∷ letters) sizes parts parents [] h = absurd h
handed_done (letter ∷ letters) [] parts parents (l ∷ ls) h = absurd h
handed_done (letter ∷ letters) (size ∷ sizes) [] parents (l ∷ ls) h = absurd h
handed_done (letter ∷ letters) (size ∷ sizes) (part ∷ parts) parents (l ∷ ls) h =
    (h.0.has_parents, handed_done letters sizes parts (positions_in parents l) ls h.1)

-- and are of the kinds that were named
pub handed_kinds : (letters : List Letter) (sizes : List ℕ) (parts : List LevelWords) (parents : ℕ) (ls : List StorageLevel)
    → AreHandedOver letters sizes parts parents ls → map meaning.kind ls ≡ letters
handed_kinds [] sizes parts parents [] h = refl
handed_kinds [] sizes parts parents (l ∷ ls) h = absurd h
handed_kinds (letter ∷ letters) sizes parts parents [] h = absurd h
handed_kinds (letter ∷ letters) [] parts parents (l ∷ ls) h = absurd h
handed_kinds (letter ∷ letters) (size ∷ sizes) [] parents (l ∷ ls) h = absurd h
handed_kinds (letter ∷ letters) (size ∷ sizes) (part ∷ parts) parents (l ∷ ls) h =
    λ i. h.0.kind i ∷ handed_kinds letters sizes parts (positions_in parents l) ls h.1 i

-- levels that are the same but for their room are finished alike
pub alike_are_done : (ls ms : List StorageLevel) (parents : ℕ) → AllAlike ls ms → AreDone parents ls → AreDone parents ms
alike_are_done [] [] parents same done = tt
alike_are_done [] (m ∷ ms) parents same done = absurd same
alike_are_done (l ∷ ls) [] parents same done = tt
alike_are_done (l ∷ ls) (m ∷ ms) parents same done = (
  same.0.has_parents parents done.0,
  subst (λ n. AreDone n ms) (alike_positions l m parents same.0 done.0)
      (alike_are_done ls ms (positions_in parents l) same.1 done.1),
)

-- the same paths lead through them
pub alike_path : (ls ms : List StorageLevel) (s : Span) (xs : List ℕ) (pos : ℕ) → AllAlike ls ms → Path meaning ls s xs pos
    → Path meaning ms s xs pos
alike_path [] [] s xs pos same p = p
alike_path [] (m ∷ ms) s xs pos same p = absurd same
alike_path (l ∷ ls) [] s xs pos same p = absurd same
alike_path (l ∷ ls) (m ∷ ms) s [] pos same p = absurd p
alike_path (l ∷ ls) (m ∷ ms) s (x ∷ xs) pos same p = (
  p.0,
  subst (StandsAt p.0.child.lo p.0) (sym (same.0.entries s)) p.1,
  p.2,
  alike_path ls ms p.0.child xs pos same.1 p.3,
)

-- so do they back
path_alike : (ls ms : List StorageLevel) (s : Span) (xs : List ℕ) (pos : ℕ) → AllAlike ls ms → Path meaning ms s xs pos
    → Path meaning ls s xs pos
path_alike [] [] s xs pos same p = p
path_alike [] (m ∷ ms) s xs pos same p = absurd same
path_alike (l ∷ ls) [] s xs pos same p = absurd same
path_alike (l ∷ ls) (m ∷ ms) s [] pos same p = absurd p
path_alike (l ∷ ls) (m ∷ ms) s (x ∷ xs) pos same p = (
  p.0,
  subst (StandsAt p.0.child.lo p.0) (same.0.entries s) p.1,
  p.2,
  path_alike ls ms p.0.child xs pos same.1 p.3,
)

open_alike : (ls ms : List StorageLevel) (count : ℕ) (s : Span) → AllAlike ls ms → IsOpen meaning ms count s → IsOpen meaning ls count s
open_alike [] [] count s same o = o
open_alike [] (m ∷ ms) count s same o = absurd same
open_alike (l ∷ ls) [] count s same o = absurd same
open_alike (l ∷ ls) (m ∷ ms) count s same o = (
  same.0.back s o.0,
  λ e at. open_alike ls ms count e.child same.1 (o.1 e (subst (StandsAt e.child.lo e) (sym (same.0.entries s)) at)),
)

-- where no path ends there is zero: values that were cleared along all paths tell
pub zeros_of : (nothing : ℕ) (ls : List StorageLevel) (values cleared : List ℕ)
    → IsCleared (EndsBelow meaning ls (one 0)) nothing values cleared → length cleared ≡ length values
    → All (λ v. v ≡ nothing) cleared → HasZeros nothing ls values
zeros_of nothing ls values cleared c long all pos inside none =
    sym (c.others pos (λ (xs, p). none xs p)) ∙ all pos 0 (subst (λ n. pos < n) (sym long) inside)

same_default : (xs : List ℕ) (k d e : ℕ) → k < length xs → get_or xs k d ≡ get_or xs k e
same_default [] k d e h = absurd (omega (arith, h))
same_default (x ∷ xs) zero d e h = refl
same_default (x ∷ xs) (suc k) d e h = same_default xs k d e (omega (arith, h))

pub zeros_all : (nothing : ℕ) (ls : List StorageLevel) (values cleared : List ℕ)
    → IsCleared (EndsBelow meaning ls (one 0)) nothing values cleared → length cleared ≡ length values
    → HasZeros nothing ls values → All (λ v. v ≡ nothing) cleared
zeros_all nothing ls values cleared c long zeros pos d inside =
    same_default cleared pos d 0 inside ∙ elim (eqb_tells (slice_index cleared pos) nothing) [
      | inl same ↦ same.1
      | inr apart ↦ absurd (apart.1 (c.others pos (λ (xs, p). apart.1 (c.there pos (xs, p)))
          ∙ zeros pos (subst (λ n. pos < n) long inside) (λ xs p. apart.1 (c.there pos (xs, p)))))
    ]

module _ (nothing : ℕ) (b : Building) (format : List FormatLevel) (sizes : List ℕ) (parts : List LevelWords) (values : List ℕ)
    (is : b ≡ building format sizes parts) where
  here : IsWhole nothing b values → IsWhole nothing (building format sizes parts) values
  here w = subst (λ k. IsWhole nothing k values) is w

  -- there are such levels
  pub some_levels : IsWhole nothing b values → HaveLevels (letters_of format) sizes parts 1 (length values)
  some_levels w = let k = here w in record { levels = k.levels; handed = k.handed; widths = k.widths; many = sym k.many }

  -- the levels that are made of them
  abbrev pub AreMade : List StorageLevel → Type 0
  AreMade levels = (ls : List StorageLevel) → AreHandedOver (letters_of format) sizes parts 1 ls → AllAlike ls levels

  abbrev pub HavePaths : List StorageLevel → Type 0
  HavePaths levels = IsOpen meaning levels (length values) (one 0) × HasZeros nothing levels values

  pub paths_hold : IsWhole nothing b values → (levels : List StorageLevel) → AreMade levels → HavePaths levels
  paths_hold w levels made =
      let k = here w in
      let same = made k.levels k.handed in (
        alike_open k.levels levels (length values) (one 0) same k.whole.opened,
        λ pos inside none. k.zeros pos inside (λ xs p. none xs (alike_path k.levels levels (one 0) xs pos same p)),
      )

  pub made_storage : IsFormat format → HaveLevels (letters_of format) sizes parts 1 (length values) → (levels : List StorageLevel)
      → AreMade levels → IsOpen meaning levels (length values) (one 0) → IsStorage (storage_of format levels values)
  made_storage ok h levels made asked = record {
    format = ok;
    letters = alike_kinds h.levels levels (made h.levels h.handed) ∙ handed_kinds (letters_of format) sizes parts 1 h.levels h.handed;
    opened = asked;
  }

  pub whole_of : IsFormat format → HaveLevels (letters_of format) sizes parts 1 (length values) → (levels : List StorageLevel)
      → AreMade levels → HavePaths levels → IsWhole nothing b values
  whole_of ok h levels made paths =
      let same = made h.levels h.handed in
      subst (λ k. IsWhole nothing k values) (sym is) (record {
        levels = h.levels;
        handed = h.handed;
        widths = h.widths;
        many = sym h.many;
        whole = record {
          format = ok;
          letters = handed_kinds (letters_of format) sizes parts 1 h.levels h.handed;
          opened = open_alike h.levels levels (length values) (one 0) same paths.0;
        };
        zeros = λ pos inside none. paths.1 pos inside (λ xs p. none xs (path_alike h.levels levels (one 0) xs pos same p));
      })

  -- the same of lists that are these
  pub have_of : (f : List FormatLevel) (s : List ℕ) (ps : List LevelWords) (count : ℕ) → f ≡ format → s ≡ sizes → ps ≡ parts
      → count ≡ length values → HaveLevels (letters_of f) s ps 1 count → HaveLevels (letters_of format) sizes parts 1 (length values)
  have_of f s ps count fs ss pss counts h =
      subst (HaveLevels (letters_of format) sizes parts 1) counts
      (subst (λ k. HaveLevels (letters_of format) sizes k 1 count) pss
      (subst (λ k. HaveLevels (letters_of format) k ps 1 count) ss (subst (λ k. HaveLevels (letters_of k) s ps 1 count) fs h)))

  pub made_as : (f : List FormatLevel) (s : List ℕ) (levels : List StorageLevel) → f ≡ format → s ≡ sizes
      → ((ls : List StorageLevel) → AreHandedOver (letters_of f) s parts 1 ls → AllAlike ls levels) → AreMade levels
  made_as f s levels fs ss made =
      subst (λ k. (ls : List StorageLevel) → AreHandedOver (letters_of format) k parts 1 ls → AllAlike ls levels) ss
      (subst (λ k. (ls : List StorageLevel) → AreHandedOver (letters_of k) s parts 1 ls → AllAlike ls levels) fs made)

  pub paths_of : (t : Bool) (ls levels : List StorageLevel) (vs : List ℕ) → ls ≡ levels → vs ≡ values
      → Decides t (IsOpen meaning ls (length vs) (one 0) × HasZeros nothing ls vs) → Decides t (HavePaths levels)
  paths_of t ls levels vs same equal d =
      subst (λ k. Decides t (IsOpen meaning levels (length k) (one 0) × HasZeros nothing levels k)) equal
      (subst (λ k. Decides t (IsOpen meaning k (length vs) (one 0) × HasZeros nothing k vs)) same d)

  -- the tensor of them
  pub tensor_made : (levels : List StorageLevel) → AreMade levels → (t : Storage) → t.format ≡ format → t.levels ≡ levels
      → t.values ≡ values → IsMadeOf b values t
  tensor_made levels made t fs ls vs = subst (λ k. IsMadeOf k values t) (sym is)
      (record { levels = λ ms h. subst (AllAlike ms) (sym ls) (made ms h); format = fs; values_are = vs })

  -- they are finished
  pub made_done : HaveLevels (letters_of format) sizes parts 1 (length values) → (levels : List StorageLevel) → AreMade levels
      → AreDone 1 levels
  made_done h levels made =
      alike_are_done h.levels levels 1 (made h.levels h.handed) (handed_done (letters_of format) sizes parts 1 h.levels h.handed)
