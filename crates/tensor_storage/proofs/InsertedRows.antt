-- Rows that may be inserted are inserted into some level.
use Rattle.std.specs.Prelude.{◌≡◌, ℕ, zero, suc, ◌+◌, ◌≤◌, ◌<◌, Bool, true, false, List, length, slice_index, slice_set, refl}
use Rattle.std.proofs.Common.{sym, subst, arith, add-one}
use Rattle.limits.specs.Limits.{greatest_position_count}
use Rattle.level_core.specs.Kinds.{properties, positions_for, MayPrepare}
use Rattle.level_rows.specs.Rows.{Rows, begun_below, MayInsertRows}
use Rattle.level_rows.specs.Taken.{InsertsRows}
use Rattle.level_rows.proofs.InsertLoop.{Inserting, begins, next_is, allowed_next, may_insert_next, inserts_next, inserts}
use Rattle.tensor_storage.specs.declared.level.StorageLevel.{StorageLevel}
use Rattle.tensor_storage.specs.Levels.{meaning}
use Rattle.tensor_storage.specs.Laws.{laws}
use Rattle.tensor_storage.proofs.Steps.{apart, prepare, insert}

-- a level into which rows were inserted, with their places
pub record Inserted (parents most : ℕ) (rows : Rows) (old : StorageLevel) : Type 0 where
  pub level : StorageLevel
  pub places : List ℕ
  pub is : InsertsRows meaning parents most rows places old level

module _ (parents most : ℕ) (rows : Rows) (old : StorageLevel) (may : MayInsertRows (meaning.size old) parents rows)
    (enough : (properties (meaning.kind old)).full ≡ false → (p : ℕ) → p < parents → begun_below rows p rows.count ≤ most) where
  -- so many rows are inserted
  record Part (done : ℕ) : Type 0 where
    at : ℕ
    positions : List ℕ
    level : StorageLevel
    inserting : Inserting meaning parents most done at rows positions old level

  next_row : (done : ℕ) → done < rows.count → Part done → Part (done + 1)
  next_row done h p = by_first (rows.first done) refl
    where
      f : Inserting meaning parents most done p.at rows p.positions old p.level
      f = p.inserting

      parent : ℕ
      parent = slice_index p.positions done

      is : parent ≡ rows.parent done
      is = next_is meaning laws parents most rows old may enough done p.at p.positions p.level f h

      by_first : (b : Bool) → b ≡ rows.first done → Part (done + 1)
      by_first true first =
          let g = insert p.level parent (rows.coord done)
          (allowed_next meaning laws parents most rows old may enough done p.at p.positions p.level f parent h is)
          (may_insert_next meaning laws parents most rows old may enough done p.at p.positions p.level f parent (rows.coord done) true h
          is refl first refl) in
          record {
            at = g.slot;
            positions = slice_set p.positions done g.slot;
            level = g.level;
            inserting = inserts_next meaning laws parents most rows old may enough done p.at p.positions p.level f parent (rows.coord done)
                g.slot true g.level h is refl first (λ _. g.inserted) (λ e. apart e);
          }
      by_first false first = record {
        at = p.at;
        positions = slice_set p.positions done p.at;
        level = p.level;
        inserting = inserts_next meaning laws parents most rows old may enough done p.at p.positions p.level f parent (rows.coord done)
            p.at false p.level h is refl first (λ e. apart (sym e)) (λ _. (refl, refl));
      }

  rows_to : (done : ℕ) → done ≤ rows.count → Part 0 → Part done
  rows_to zero h p = p
  rows_to (suc done) h p = subst Part (add-one done) (next_row done (omega (arith, h)) (rows_to done (omega (arith, h)) p))

  pub rows_inserted : (above : List ℕ) → meaning.keeps old → MayPrepare (meaning.kind old) (meaning.width old) most
      → positions_for (meaning.kind old) (meaning.size old) parents most ≤ greatest_position_count → length above ≡ rows.count
      → ((i : ℕ) → slice_index above i ≡ rows.parent i) → Inserted parents most rows old
  rows_inserted above keeps can within many are =
      let r = prepare old parents most can in
      let begun : Part 0 = record {
        at = 0;
        positions = above;
        level = r.level;
        inserting = begins meaning laws parents most rows old may enough above r.level keeps can within r.prepared many (λ i h. are i);
      } in
      let p = rows_to rows.count (omega arith) begun in
      record {
        level = p.level;
        places = p.positions;
        is = inserts meaning laws parents most rows old may enough p.at p.positions p.level p.inserting;
      }
