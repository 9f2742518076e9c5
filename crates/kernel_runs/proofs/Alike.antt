-- What stands for a table still does where its levels are others, the same but for their room.
use Rattle.std.specs.Prelude.{◌≡◌, ℕ, zero, suc, List, [], ◌∷◌, length, map}
use Rattle.std.proofs.Common.{◌∙◌, sym, ap, subst}
use Rattle.level_core.specs.declared.letter.Letter.{Letter}
use Rattle.level_core.specs.declared.span.Span.{Span}
use Rattle.level_core.specs.Entries.{IsIn, StandsAt, coord_at, one, position_of}
use Rattle.level_core.specs.Kinds.{properties, capabilities}
use Rattle.level_core.specs.Orders.{InOrder, IsAfterSmaller}
use Rattle.level_rows.specs.Stacks.{Column, Path, rows_in}
use Rattle.format_spec.specs.declared.format.FormatLevel.{FormatLevel}
use Rattle.format_spec.specs.Formats.{letters_of}
use Rattle.tensor_storage.specs.declared.level.StorageLevel.{StorageLevel}
use Rattle.tensor_storage.specs.Built.{AreBuilt, GoesOver, IsBuilt, IsStoredAt}
use Rattle.tensor_storage.specs.Counts.{positions_from}
use Rattle.tensor_storage.specs.Levels.{meaning}
use Rattle.tensor_storage.specs.Stands.{IsPacked, Stands, row_from}
use Rattle.tensor_storage.specs.Storages.{IsOpen, Storage, in_level_order, storage_of}
use Rattle.tensor_storage.specs.Tables.{Table}
use Rattle.tensor_storage.specs.Handed.{AreAlike}
use Rattle.storage_builder.specs.Made.{AllAlike}
use Rattle.storage_builder.proofs.Alike.{stores_alike}

-- ---- one level
order_alike : (l m : StorageLevel) (p : ℕ) → AreAlike l m → InOrder meaning l p → InOrder meaning m p
order_alike l m p a order = λ x pos at.
    subst (λ es. IsAfterSmaller (meaning.segment_of m (one p)) es x pos) (sym (a.entries (one p)))
    (subst (λ s. IsAfterSmaller s (meaning.entries l (one p)) x pos) (sym (a.segments (one p)))
    (order x pos (sym (ap (λ es. position_of es x) (a.entries (one p))) ∙ at)))

built_one : (table : Table) (d n : ℕ) (parent : ℕ → ℕ) (parents : ℕ) (column : Column) (l m : StorageLevel) → AreAlike l m
    → IsBuilt meaning table d n parent parents column l → IsBuilt meaning table d n parent parents column m
built_one table d n parent parents column l m a b = record {
  coord = b.coord;
  first = b.first;
  keeps = a.keeps;
  stores = stores_alike l m parents column.positions (rows_in table.count parent column) column.place a b.stores;
  numbered = λ able. b.numbered (ap (λ k. (capabilities k).append) (sym a.kind) ∙ able);
  width = λ unordered. a.width ∙ b.width (ap (λ k. (properties k).ordered) (sym a.kind) ∙ unordered);
  order = λ unordered p less.
      order_alike l m p a (b.order (ap (λ k. (properties k).ordered) (sym a.kind) ∙ unordered) p less);
}

-- ---- levels one below another
built_alike : (table : Table) (d : ℕ) (parent : ℕ → ℕ) (parents : ℕ) (letters : List Letter) (ls ms : List StorageLevel)
    (cs : List Column) → AllAlike ls ms → AreBuilt meaning table d parent parents letters ls cs
    → AreBuilt meaning table d parent parents letters ms cs
built_alike table d parent parents letters [] [] cs same built = built
built_alike table d parent parents letters [] (m ∷ ms) cs same built = absurd same
built_alike table d parent parents letters (l ∷ ls) [] cs same built = absurd same
built_alike table d parent parents letters (l ∷ ls) (m ∷ ms) [] same built = absurd built
built_alike table d parent parents [] (l ∷ ls) (m ∷ ms) (c ∷ cs) same built = absurd built
built_alike table d parent parents (letter ∷ letters) (l ∷ ls) (m ∷ ms) (c ∷ cs) same built =
    (built_one table d _ parent parents c l m same.0 built.0, built_alike table (suc d) c.place c.positions letters ls ms cs same.1 built.1)

open_alike : (ls ms : List StorageLevel) (positions : ℕ) (s : Span) → AllAlike ls ms → IsOpen meaning ls positions s
    → IsOpen meaning ms positions s
open_alike [] [] positions s same o = o
open_alike [] (m ∷ ms) positions s same o = absurd same
open_alike (l ∷ ls) [] positions s same o = absurd same
open_alike (l ∷ ls) (m ∷ ms) positions s same o = (
  same.0.allowed s o.0,
  λ e at. open_alike ls ms positions e.child same.1 (o.1 e (subst (StandsAt e.child.lo e) (same.0.entries s) at)),
)

path_to : (ls ms : List StorageLevel) (s : Span) (xs : List ℕ) (pos : ℕ) → AllAlike ls ms → Path meaning ls s xs pos
    → Path meaning ms s xs pos
path_to [] [] s xs pos same path = path
path_to [] (m ∷ ms) s xs pos same path = absurd same
path_to (l ∷ ls) [] s xs pos same path = absurd same
path_to (l ∷ ls) (m ∷ ms) s [] pos same path = absurd path
path_to (l ∷ ls) (m ∷ ms) s (x ∷ xs) pos same path = (
  path.0,
  subst (StandsAt path.0.child.lo path.0) (sym (same.0.entries s)) path.1,
  path.2,
  path_to ls ms path.0.child xs pos same.1 path.3,
)

path_from : (ls ms : List StorageLevel) (s : Span) (xs : List ℕ) (pos : ℕ) → AllAlike ls ms → Path meaning ms s xs pos
    → Path meaning ls s xs pos
path_from [] [] s xs pos same path = path
path_from [] (m ∷ ms) s xs pos same path = absurd same
path_from (l ∷ ls) [] s xs pos same path = absurd same
path_from (l ∷ ls) (m ∷ ms) s [] pos same path = absurd path
path_from (l ∷ ls) (m ∷ ms) s (x ∷ xs) pos same path = (
  path.0,
  subst (StandsAt path.0.child.lo path.0) (same.0.entries s) path.1,
  path.2,
  path_from ls ms path.0.child xs pos same.1 path.3,
)

goes_to : (ls ms : List StorageLevel) (s : Span) (xs : List ℕ) (k pos : ℕ) → AllAlike ls ms → GoesOver meaning ls s xs k pos
    → GoesOver meaning ms s xs k pos
goes_to [] [] s xs k pos same goes = goes
goes_to [] (m ∷ ms) s xs k pos same goes = absurd same
goes_to (l ∷ ls) [] s xs k pos same goes = absurd same
goes_to (l ∷ ls) (m ∷ ms) s [] k pos same goes = absurd goes
goes_to (l ∷ ls) (m ∷ ms) s (x ∷ xs) zero pos same goes =
    (goes.0, subst (StandsAt goes.0.child.lo goes.0) (sym (same.0.entries s)) goes.1, goes.2, goes.3)
goes_to (l ∷ ls) (m ∷ ms) s (x ∷ xs) (suc k) pos same goes = (
  goes.0,
  subst (StandsAt goes.0.child.lo goes.0) (sym (same.0.entries s)) goes.1,
  goes.2,
  goes_to ls ms goes.0.child xs k pos same.1 goes.3,
)

stored_from : (parents : ℕ) (ls ms : List StorageLevel) (ns : List ℕ) (k pos : ℕ) → AllAlike ls ms
    → IsStoredAt meaning parents ms ns k pos → IsStoredAt meaning parents ls ns k pos
stored_from parents [] [] ns k pos same stored = stored
stored_from parents [] (m ∷ ms) ns k pos same stored = absurd same
stored_from parents (l ∷ ls) [] ns k pos same stored = absurd same
stored_from parents (l ∷ ls) (m ∷ ms) [] k pos same stored = absurd stored
stored_from parents (l ∷ ls) (m ∷ ms) (n ∷ ns) zero pos same stored = (
  ap (λ k. (properties k).full) (sym same.0.kind) ∙ stored.0,
  (
    stored.1.0,
    stored.1.1,
    subst (IsIn pos) (same.0.segments (one stored.1.0)) stored.1.2,
    λ none. stored.1.3 (ap (λ es. coord_at es pos) (same.0.entries (one stored.1.0)) ∙ none),
  ),
)
stored_from parents (l ∷ ls) (m ∷ ms) (n ∷ ns) (suc k) pos same stored = stored_from n ls ms ns k pos same.1 stored

stands_alike : (nothing : ℕ) (letters : List Letter) (sizes : List ℕ) (table : Table) (ls ms : List StorageLevel) (values : List ℕ)
    → AllAlike ls ms → Stands meaning nothing letters sizes table ls values → Stands meaning nothing letters sizes table ms values
stands_alike nothing letters sizes table ls ms values same t = record {
  columns = t.columns;
  counted = t.counted;
  built = built_alike table 0 (λ i. 0) 1 letters ls ms t.columns same t.built;
  many = t.many;
  opened = open_alike ls ms (length values) (one 0) same t.opened;
  made = λ xs pos path. t.made xs pos (path_from ls ms (one 0) xs pos same path);
  there = λ xs makes. let found = t.there xs makes in (found.0, path_to ls ms (one 0) xs found.0 same found.1);
  once = λ xs pos other path also.
      t.once xs pos other (path_from ls ms (one 0) xs pos same path) (path_from ls ms (one 0) xs other same also);
  alone = λ k pos stored.
      let found = t.alone k pos (stored_from 1 ls ms (positions_from table 0 1 letters sizes) k pos same stored) in (
        found.0,
        (found.1.0, path_to ls ms (one 0) found.0 found.1.0 same found.1.1),
        goes_to ls ms (one 0) found.0 k pos same found.2,
      );
  stored = λ i pos h path. t.stored i pos h (path_from ls ms (one 0) (row_from table.coords i 0 letters) pos same path);
  zeros = λ pos below none.
      t.zeros pos below (λ i h path. none i h (path_to ls ms (one 0) (row_from table.coords i 0 letters) pos same path));
  unnamed = λ xs pos path none. t.unnamed xs pos (path_from ls ms (one 0) xs pos same path) none;
}

-- a tensor whose levels are alike, with the same values, stands for the table too
pub packed_alike : (nothing : ℕ) (format : List FormatLevel) (ranges : List ℕ) (table : Table) (levels : List StorageLevel)
    (values : List ℕ) (tensor : Storage) → AllAlike levels tensor.levels → tensor.format ≡ format → values ≡ tensor.values
    → map meaning.size tensor.levels ≡ in_level_order format ranges
    → IsPacked nothing format ranges table (storage_of format levels values) → IsPacked nothing format ranges table tensor
packed_alike nothing format ranges table levels values tensor same format_is values_are sizes p = record {
  format_is = format_is;
  sizes = sizes;
  few = p.few;
  stands = subst (λ vs. Stands meaning nothing (letters_of format) (in_level_order format ranges) table tensor.levels vs) values_are
      (stands_alike nothing (letters_of format) (in_level_order format ranges) table levels tensor.levels values same p.stands);
}
