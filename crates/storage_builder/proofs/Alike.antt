-- What follows for levels that are the same but for their room.
use Rattle.std.specs.Prelude.{◌≡◌, ℕ, zero, suc, ◌+◌, List, [], ◌∷◌, map, refl}
use Rattle.std.proofs.Common.{◌∙◌, sym, ap, subst, arith}
use Rattle.level_core.specs.declared.span.Span.{Span}
use Rattle.level_core.specs.Entries.{IsIn, StandsAt, coord_at, one}
use Rattle.level_core.specs.Kinds.{properties}
use Rattle.level_core.specs.Meaning.{Arrays}
use Rattle.level_rows.specs.Rows.{Rows, StandsFor, RiseIn}
use Rattle.level_rows.specs.Taken.{Asked, Stores}
use Rattle.format_spec.specs.declared.format.FormatLevel.{FormatLevel}
use Rattle.tensor_storage.specs.declared.level.StorageLevel.{StorageLevel}
use Rattle.tensor_storage.specs.Handed.{AreAlike}
use Rattle.tensor_storage.specs.Laws.{laws}
use Rattle.tensor_storage.specs.Levels.{meaning}
use Rattle.tensor_storage.specs.Storages.{IsOpen, IsStorage, storage_of}
use Rattle.tensor_storage.proofs.Handed.{held_words}
use Rattle.storage_arrays.specs.Arrays.{positions_in}
use Rattle.storage_builder.specs.Made.{AllAlike}

-- they have as many positions
pub alike_positions : (l m : StorageLevel) (parents : ℕ) → AreAlike l m → meaning.has_parents l parents
    → positions_in parents l ≡ positions_in parents m
alike_positions l m zero a has = laws.none_without l has ∙ sym (laws.none_without m (a.has_parents zero has))
alike_positions l m (suc last) a has =
    let more : last + 1 ≡ suc last = omega arith in
    sym (laws.last_end l (suc last) last has more) ∙ ap (λ s. s.hi) (sym (a.segments (one last)))
    ∙ laws.last_end m (suc last) last (a.has_parents (suc last) has) more

-- the same arrays hold them
pub alike_held : (l m : StorageLevel) (tensor level : ℕ) (arrays : Arrays) → AreAlike l m → meaning.holds l tensor level arrays
    → meaning.holds m tensor level arrays
alike_held l m tensor level arrays a held =
    laws.words_hold m tensor level arrays
    (λ array words is. held_words l tensor level arrays held array words (sym (a.words array) ∙ is))

-- they store the same
pub stores_alike : (l m : StorageLevel) (parents positions : ℕ) (rows : Rows) (place : ℕ → ℕ) → AreAlike l m
    → Stores meaning parents positions rows place l → Stores meaning parents positions rows place m
stores_alike l m parents positions rows place a s = record {
  has_parents = a.has_parents parents s.has_parents;
  stands = subst (λ k. StandsFor (properties k).full (Asked meaning m parents) (meaning.segment_of m) (meaning.entries m) rows place)
      (sym a.kind) stands_here;
  ends = λ p last. ap (λ s. s.hi) (a.segments (one p)) ∙ s.ends p last;
  groups = λ b span lo hi rise.
      a.allowed span (s.groups (ap (λ k. (properties k).branchless) (sym a.kind) ∙ b) span lo hi
      (subst (λ k. RiseIn (properties k).unique rows span) a.kind rise));
}
  where
    asked : (span : Span) → Asked meaning m parents span → Asked meaning l parents span
    asked span h = (a.back span h.0, h.1)

    stands_here : StandsFor (properties (meaning.kind l)).full (Asked meaning m parents) (meaning.segment_of m) (meaning.entries m) rows
        place
    stands_here = record {
      has = λ parent i ok h at. ap (λ es. coord_at es (place i)) (a.entries parent) ∙ s.stands.has parent i (asked parent ok) h at;
      alone = λ parent i ok h at. s.stands.alone parent i (asked parent ok) h (subst (IsIn (place i)) (a.segments parent) at);
      only = λ full parent pos x ok at is.
          s.stands.only full parent pos x (asked parent ok) (subst (IsIn pos) (a.segments parent) at)
          (sym (ap (λ es. coord_at es pos) (a.entries parent)) ∙ is);
    }

pub alike_kinds : (ls ms : List StorageLevel) → AllAlike ls ms → map meaning.kind ms ≡ map meaning.kind ls
alike_kinds [] [] same = refl
alike_kinds [] (m ∷ ms) same = absurd same
alike_kinds (l ∷ ls) [] same = absurd same
alike_kinds (l ∷ ls) (m ∷ ms) same = λ i. same.0.kind i ∷ alike_kinds ls ms same.1 i

pub alike_open : (ls ms : List StorageLevel) (positions : ℕ) (span : Span) → AllAlike ls ms → IsOpen meaning ls positions span
    → IsOpen meaning ms positions span
alike_open [] [] positions span same o = o
alike_open [] (m ∷ ms) positions span same o = absurd same
alike_open (l ∷ ls) [] positions span same o = absurd same
alike_open (l ∷ ls) (m ∷ ms) positions span same o = (
  same.0.allowed span o.0,
  λ e at. alike_open ls ms positions e.child same.1 (o.1 e (subst (StandsAt e.child.lo e) (same.0.entries span) at)),
)

-- levels one below another are a storage with the same values
pub alike_storage : (format : List FormatLevel) (ls ms : List StorageLevel) (values : List ℕ) → AllAlike ls ms
    → IsStorage (storage_of format ls values) → IsStorage (storage_of format ms values)
alike_storage format ls ms values same s = record {
  format = s.format;
  letters = alike_kinds ls ms same ∙ s.letters;
  opened = alike_open ls ms _ (one 0) same s.opened;
}
