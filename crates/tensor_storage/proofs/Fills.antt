-- A level of any kind takes rows.
use Rattle.std.specs.Prelude.{◌≡◌, ℕ, ◌≤◌, Bool, true, false, List, length, slice_index, refl}
use Rattle.std.proofs.Common.{◌∙◌, sym, ap, subst, arith, inl, inr}
use Rattle.limits.specs.Limits.{greatest_position_count}
use Rattle.level_core.specs.declared.letter.Letter.{Letter}
use Rattle.level_core.specs.Kinds.{properties, capabilities, positions_for}
use Rattle.level_core.proofs.KindLaws.{inserted_else, unordered_stored, appended_ordered}
use Rattle.level_rows.specs.Rows.{Rows, Keys, rows_at, IsGreatestBelow, MayAppendRows, MayInsertRows}
use Rattle.level_rows.specs.Taken.{Stores}
use Rattle.level_rows.specs.Filling.{AreNeeded, MayFill, FillsRows}
use Rattle.tensor_storage.specs.declared.level.StorageLevel.{StorageLevel}
use Rattle.tensor_storage.specs.Levels.{meaning}
use Rattle.tensor_storage.specs.New.{IsNew}
use Rattle.tensor_storage.specs.Taking.{HasTaken, LevelsTakeRows}
use Rattle.tensor_storage.proofs.Steps.{apart, new_level, new_is, new_keeps}
use Rattle.tensor_storage.proofs.AppendedRows.{rows_appended}
use Rattle.tensor_storage.proofs.InsertedRows.{rows_inserted}
use Rattle.tensor_storage.proofs.Greatest.{few_below_size}

-- a level that was given rows, with their places
pub record Filled (parents most : ℕ) (rows : Rows) (old : StorageLevel) : Type 0 where
  pub level : StorageLevel
  pub places : List ℕ
  pub fills : FillsRows meaning parents most rows places old level

-- the greatest number below one parent is within the limit
most_small : (letter : Letter) (size parents : ℕ) (rows : Rows) (needed most : ℕ) → (capabilities letter).append ≡ false
    → size ≤ greatest_position_count → MayInsertRows size parents rows → AreNeeded letter size parents rows needed most
    → most ≤ greatest_position_count
most_small letter size parents rows needed most able small may need = by_full (properties letter).full refl
  where
    by_reached : IsGreatestBelow rows most → most ≤ greatest_position_count
    by_reached g = elim g.reached [
      | inl none ↦ omega (arith, none)
      | inr some ↦ let few = few_below_size rows size parents (rows.parent some.0) may in let is = some.2 in omega (arith, few, is, small)
    ]

    by_full : (b : Bool) → (properties letter).full ≡ b → most ≤ greatest_position_count
    by_full true full = let k = need.full full in omega (arith, k)
    by_full false sparse = by_reached (need.greatest able sparse)

module _ (parents needed most : ℕ) (keys : Keys) (above : List ℕ) (old : StorageLevel) (keeps : meaning.keeps old)
    (small : meaning.size old ≤ greatest_position_count) (few : parents ≤ greatest_position_count) (many : length above ≡ keys.count)
    (may : MayFill meaning parents (rows_at keys above) old)
    (need : AreNeeded (meaning.kind old) (meaning.size old) parents (rows_at keys above) needed most)
    (fits : needed ≤ greatest_position_count) where
  by_append : (capabilities (meaning.kind old)).append ≡ true → Filled parents most (rows_at keys above) old
  by_append is =
      let count = (need.appended is).0 in
      let a = rows_appended parents (rows_at keys above) old (may.appends is).0 is (omega (arith, count, fits)) above keeps
      (may.appends is).1 few many (λ i. refl) in
      record { level = a.level; places = a.places; fills = record { appended = λ _. a.is; inserted = λ no. apart (sym is ∙ no) } }

  by_insert : (capabilities (meaning.kind old)).append ≡ false → Filled parents most (rows_at keys above) old
  by_insert is =
      let m = may.inserts is in
      let count = need.inserted is in
      let i = rows_inserted parents most (rows_at keys above) old m.0 (λ sparse p h. (need.greatest is sparse).upto p) above keeps
      (record {
        able = inserted_else (meaning.kind old) is;
        unprepared = m.2;
        coordinates = most_small (meaning.kind old) (meaning.size old) parents (rows_at keys above) needed most is small m.0 need;
      })
      (omega (arith, count, fits)) many (λ i. refl) in
      record { level = i.level; places = i.places; fills = record { appended = λ yes. apart (sym yes ∙ is); inserted = λ _. i.is } }

  pub fills_level : Filled parents most (rows_at keys above) old
  fills_level = by_case (capabilities (meaning.kind old)).append refl
    where
      by_case : (b : Bool) → (capabilities (meaning.kind old)).append ≡ b → Filled parents most (rows_at keys above) old
      by_case true is = by_append is
      by_case false is = by_insert is

ordered_appended : (letter : Letter) → (capabilities letter).append ≡ true → (properties letter).ordered ≡ false → ⊥
ordered_appended letter appends unordered = apart (sym (appended_ordered letter appends) ∙ unordered)

module _ (letter : Letter) (size parents : ℕ) (keys : Keys) (above : List ℕ) (old : StorageLevel) (new : IsNew meaning letter size old)
    (needed most : ℕ) (need : AreNeeded letter size parents (rows_at keys above) needed most)
    (f : Filled parents most (rows_at keys above) old) where
  taken : HasTaken letter size parents needed most (rows_at keys above)
  taken = by_case (capabilities letter).append refl
    where
      able : (b : Bool) → (capabilities letter).append ≡ b → (capabilities (meaning.kind old)).append ≡ b
      able b is = ap (λ k. (capabilities k).append) new.kind ∙ is

      by_case : (b : Bool) → (capabilities letter).append ≡ b → HasTaken letter size parents needed most (rows_at keys above)
      by_case true is =
          let a = f.fills.appended (able true is) in
          record {
            level = f.level;
            places = f.places;
            kind = a.takes.kind ∙ new.kind;
            size_is = a.takes.size ∙ new.size_is;
            keeps = a.takes.keeps;
            many = a.takes.many;
            stores = subst (λ n. Stores meaning parents n (rows_at keys above) (slice_index f.places) f.level)
                (sym (need.appended is).0) a.takes.stored;
            numbered = λ _. a.numbered;
            width = λ o. absurd (ordered_appended letter is o);
            order = λ o. absurd (ordered_appended letter is o);
          }
      by_case false is =
          let i = f.fills.inserted (able false is) in
          let kind : meaning.kind old ≡ letter = new.kind in
          let before = λ (o : (properties letter).ordered ≡ false). ap (λ k. (properties k).ordered) kind ∙ o in
          let count : positions_for (meaning.kind old) (meaning.size old) parents most ≡ needed =
          ap (λ k. positions_for k (meaning.size old) parents most) kind
          ∙ ap (λ n. positions_for letter n parents most) new.size_is ∙ sym (need.inserted is) in
          record {
            level = f.level;
            places = f.places;
            kind = i.takes.kind ∙ kind;
            size_is = i.takes.size ∙ new.size_is;
            keeps = i.takes.keeps;
            many = i.takes.many;
            stores = subst (λ n. Stores meaning parents n (rows_at keys above) (slice_index f.places) f.level) count i.takes.stored;
            numbered = λ yes. apart (sym yes ∙ is);
            width = λ o. i.width (unordered_stored (meaning.kind old) (before o));
            order = λ o. i.order (before o);
          }

pub levels_take_rows : LevelsTakeRows
levels_take_rows letter size parents keys above small few many may needed most need fits =
    taken letter size parents keys above (new_level letter size) new needed most need
    (fills_level parents needed most keys above (new_level letter size) (new_keeps letter size small)
    (subst (λ n. n ≤ greatest_position_count) (sym new.size_is) small) few many may_fill
    (subst (λ k. AreNeeded k (meaning.size (new_level letter size)) parents (rows_at keys above) needed most) (sym new.kind)
    (subst (λ n. AreNeeded letter n parents (rows_at keys above) needed most) (sym new.size_is) need)) fits)
  where
    new : IsNew meaning letter size (new_level letter size)
    new = new_is letter size

    may_fill : MayFill meaning parents (rows_at keys above) (new_level letter size)
    may_fill = record {
      appends = λ is.
          let here : (capabilities letter).append ≡ true = ap (λ k. (capabilities k).append) (sym new.kind) ∙ is in (
            subst (λ k. MayAppendRows k (meaning.size (new_level letter size)) parents (rows_at keys above)) (sym new.kind)
                (subst (λ n. MayAppendRows letter n parents (rows_at keys above)) (sym new.size_is) (may.appends here)),
            new.log here,
          );
      inserts = λ is.
          let here : (capabilities letter).append ≡ false = ap (λ k. (capabilities k).append) (sym new.kind) ∙ is in (
            subst (λ n. MayInsertRows n parents (rows_at keys above)) (sym new.size_is) (may.inserts here).0,
            (may.inserts here).1,
            new.width here,
          );
    }
