-- Rows that may be appended are appended to some level.
use Rattle.std.specs.Prelude.{◌≡◌, ◌≢◌, ℕ, zero, suc, ◌+◌, ◌-◌, ◌≤◌}
use Rattle.std.specs.Prelude.{◌<◌, nat_lt, Bool, true, false, if◌then◌else◌, List, length, slice_index}
use Rattle.std.specs.Prelude.{slice_set, refl}
use Rattle.std.proofs.Common.{◌∙◌, sym, ap, subst, arith, add-one}
use Rattle.limits.specs.Limits.{greatest_position_count}
use Rattle.level_core.specs.declared.stage.Stage.TheVariants.{Fresh, Finished}
use Rattle.level_core.specs.Kinds.{capabilities}
use Rattle.level_core.specs.Logs.{nothing_reserved}
use Rattle.level_rows.specs.Rows.{Rows, begun, place, MayAppendRows}
use Rattle.level_rows.specs.Taken.{AppendsRows}
use Rattle.level_rows.specs.Appending.{turned, added}
use Rattle.level_rows.proofs.Progress.{Placing}
use Rattle.level_rows.proofs.AppendLoop.{Filling, Turned, begins, next_is, may_turn_to}
use Rattle.level_rows.proofs.AppendLoop.{turned_to, may_append, is_spare, is_room, filled_more}
use Rattle.level_rows.proofs.AppendLoop.{may_close, may_finish_it, appends}
use Rattle.tensor_storage.specs.declared.level.StorageLevel.{StorageLevel}
use Rattle.tensor_storage.specs.Levels.{meaning}
use Rattle.tensor_storage.specs.Laws.{laws}
use Rattle.tensor_storage.proofs.Steps.{reserves, turns_to, adds_to, closes, finish}

-- a level to which rows were appended, with their places
pub record Appended (parents : ℕ) (rows : Rows) (old : StorageLevel) : Type 0 where
  pub level : StorageLevel
  pub places : List ℕ
  pub is : AppendsRows meaning parents rows places old level

-- the room that is left
left_room : (b : Bool) (spare : ℕ) → (b ≡ true → 0 < spare) → (rest : ℕ) × (rest + (if b then 1 else 0) ≡ spare)
left_room true spare some = let k = some refl in (spare - 1, omega (arith, k))
left_room false spare some = (spare, omega arith)

module _ (parents : ℕ) (rows : Rows) (old : StorageLevel) (may : MayAppendRows (meaning.kind old) (meaning.size old) parents rows)
    (able : (capabilities (meaning.kind old)).append ≡ true) (few : begun rows.first rows.count ≤ greatest_position_count) where
  -- so many rows are appended, the last of them below this parent, whose positions begin there
  record Part (done : ℕ) : Type 0 where
    spare : ℕ
    last : ℕ
    begin : ℕ
    count : ℕ
    positions : List ℕ
    level : StorageLevel
    filling : Filling meaning parents done spare (record { last = last; begin = begin; count = count }) rows positions old level

  able_at : (l : StorageLevel) → meaning.kind l ≡ meaning.kind old → (capabilities (meaning.kind l)).append ≡ true
  able_at l kind = ap (λ k. (capabilities k).append) kind ∙ able

  -- the next row is appended, once the last parent was turned from
  add_row : (done spare last begin count : ℕ) (positions : List ℕ) → done < rows.count
      → Placing done rows (place rows.first) positions → (m : StorageLevel)
      → Turned meaning parents done spare (record { last = last; begin = begin; count = count }) rows old m → Part (done + 1)
  add_row done spare last begin count positions h placing m t =
      let room = left_room (rows.first done) spare
      (is_spare meaning laws parents rows old may done spare (record { last = last; begin = begin; count = count }) m t
      (rows.first done) h refl) in
      let a = adds_to m (rows.first done) (rows.coord done) t.keeps (able_at m t.kind)
      (may_append meaning laws parents rows old may done spare (record { last = last; begin = begin; count = count }) m t
      (rows.first done) (rows.coord done) h refl refl)
      (is_room meaning laws parents rows old may done spare (record { last = last; begin = begin; count = count }) m t
      (rows.first done) h refl few) in
      let next = added (record { last = last; begin = begin; count = count }) (rows.first done) in
      record {
        spare = room.0;
        last = next.last;
        begin = next.begin;
        count = next.count;
        positions = slice_set positions done (next.count - 1);
        level = a.level;
        filling = filled_more meaning laws parents rows old may done spare (record { last = last; begin = begin; count = count }) m t
            (rows.first done) (rows.coord done) room.0 next positions a.level h refl refl refl a.changes a.keeps room.1 placing;
      }

  next_row : (done : ℕ) → done < rows.count → Part done → Part (done + 1)
  next_row done h p =
      let f = p.filling in
      let next : ℕ = slice_index p.positions done in
      let is = next_is meaning laws parents rows old may done p.spare (record { last = p.last; begin = p.begin; count = p.count })
      p.positions p.level f h in
      let t = turns_to p.level p.last p.begin p.count next f.keeps (able_at p.level f.kind)
      (may_turn_to meaning laws parents rows old may done p.spare (record { last = p.last; begin = p.begin; count = p.count })
      p.positions p.level f next is h) in
      let then_at = turned (record { last = p.last; begin = p.begin; count = p.count }) next in
      add_row done p.spare then_at.last then_at.begin then_at.count p.positions h f.placing t.level
      (turned_to meaning laws parents rows old may done p.spare (record { last = p.last; begin = p.begin; count = p.count }) p.positions
      p.level f next p.spare then_at t.level is h refl t.changes t.keeps refl)

  rows_to : (done : ℕ) → done ≤ rows.count → Part 0 → Part done
  rows_to zero h p = p
  rows_to (suc done) h p = subst Part (add-one done) (next_row done (omega (arith, h)) (rows_to done (omega (arith, h)) p))

  reservable : meaning.log old ≡ nothing_reserved → (meaning.log old).stage ≢ Finished
  reservable fresh same = never (sym (ap (λ g. g.stage) fresh) ∙ same)
    where
      never : Fresh ≡ Finished → ⊥
      never e = cc

  start : (above : List ℕ) → meaning.keeps old → meaning.log old ≡ nothing_reserved → parents ≤ greatest_position_count
      → length above ≡ rows.count → ((i : ℕ) → slice_index above i ≡ rows.parent i) → Part 0
  start above keeps fresh small many are =
      let r = reserves old parents keeps able (record { within = small; reservable = reservable fresh }) in
      record {
        spare = begun rows.first rows.count;
        last = 0;
        begin = 0;
        count = 0;
        positions = above;
        level = r.level;
        filling = begins meaning laws parents rows old may (begun rows.first rows.count) (begun rows.first rows.count) above r.level
            r.changes fresh r.keeps refl (omega arith) many are;
      }

  pub rows_appended : (above : List ℕ) → meaning.keeps old → meaning.log old ≡ nothing_reserved → parents ≤ greatest_position_count
      → length above ≡ rows.count → ((i : ℕ) → slice_index above i ≡ rows.parent i) → Appended parents rows old
  rows_appended above keeps fresh small many are =
      let p = rows_to rows.count (omega arith) (start above keeps fresh small many are) in
      let f = p.filling in
      let some : Bool = nat_lt 0 rows.count in
      let c = closes p.level p.last p.begin p.count some f.keeps (able_at p.level f.kind)
      (may_close meaning laws parents rows old may p.spare (record { last = p.last; begin = p.begin; count = p.count }) p.positions
      p.level f some refl) in
      let d = finish c.level parents c.keeps (able_at c.level (c.changes.kind ∙ f.kind))
      (may_finish_it meaning laws parents rows old may p.spare (record { last = p.last; begin = p.begin; count = p.count })
      p.positions p.level f some c.level refl c.changes c.keeps) in
      record {
        level = d.level;
        places = p.positions;
        is = appends meaning laws parents rows old may p.spare (record { last = p.last; begin = p.begin; count = p.count }) p.positions
            p.level f some c.level d.level refl c.changes c.keeps d.finishes;
      }
