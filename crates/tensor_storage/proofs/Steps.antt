-- Each step of giving a level its rows leaves a level.
use Rattle.std.specs.Prelude.{◌≡◌, ◌≢◌, ℕ, ◌<◌, ◌==◌, Bool, true, false, if◌then◌else◌, length, refl}
use Rattle.std.proofs.Common.{arith}
use Rattle.std.proofs.lemmas.Bool.Decides.{nat_tests}
use Rattle.limits.specs.Limits.{greatest_position_count}
use Rattle.level_core.specs.Entries.{one}
use Rattle.level_core.specs.Kinds.{capabilities, MayPrepare, MayInsert}
use Rattle.level_core.specs.Logs.{MayReserve, MayAppend, MayAppendEdges, MayFinish, with_parents, with_coord, with_edges}
use Rattle.level_rows.specs.Appending.{turned_log, added_log, closed_log}
use Rattle.tensor_storage.specs.declared.level.StorageLevel.{StorageLevel}
use Rattle.tensor_storage.specs.Levels.{meaning}
use Rattle.tensor_storage.proofs.EachKind.{each_gives}
pub use Rattle.tensor_storage.proofs.EachKind.{new_level, new_is, new_keeps, Logged, Done, Ready, Given}
pub use Rattle.tensor_storage.proofs.Tables.{apart}

pub same_log : (l : StorageLevel) → meaning.keeps l → Logged (meaning.log l) l
same_log l keeps = record { level = l; changes = record { kind = refl; size = refl; log = refl }; keeps = keeps }

pub reserves : (l : StorageLevel) (parents : ℕ) → meaning.keeps l → (capabilities (meaning.kind l)).append ≡ true
    → MayReserve parents (meaning.log l) → Logged (with_parents (meaning.kind l) parents (meaning.log l)) l
reserves = each_gives _ (λ L wrap gives l. gives.reserves l)

pub appends_coord : (l : StorageLevel) (x : ℕ) → meaning.keeps l → (capabilities (meaning.kind l)).append ≡ true
    → MayAppend (meaning.kind l) (meaning.size l) x (meaning.log l) → length (meaning.log l).coords < greatest_position_count
    → Logged (with_coord x (meaning.log l)) l
appends_coord = each_gives _ (λ L wrap gives l. gives.appends_coord l)

pub appends_edges : (l : StorageLevel) (parent begin end : ℕ) → meaning.keeps l → (capabilities (meaning.kind l)).append ≡ true
    → MayAppendEdges (meaning.kind l) parent begin end (meaning.log l)
    → Logged (with_edges (meaning.kind l) parent begin end (meaning.log l)) l
appends_edges = each_gives _ (λ L wrap gives l. gives.appends_edges l)

-- the last parent is given its positions where the next row's parent is another
pub turns_to : (l : StorageLevel) (last begin count next : ℕ) → meaning.keeps l → (capabilities (meaning.kind l)).append ≡ true
    → (last ≢ next → MayAppendEdges (meaning.kind l) last begin count (meaning.log l))
    → Logged (turned_log (meaning.kind l) (record { last = last; begin = begin; count = count }) next (meaning.log l)) l
turns_to l last begin count next keeps able may = by_same (last == next) refl
  where
    by_same : (b : Bool) → (last == next) ≡ b
        → Logged (if b then meaning.log l else with_edges (meaning.kind l) last begin count (meaning.log l)) l
    by_same true is = same_log l keeps
    by_same false is =
        let other : last ≢ next = grind (arith, nat_tests, is) in appends_edges l last begin count keeps able (may other)

-- a coordinate more, where a row begins a position
pub adds_to : (l : StorageLevel) (first : Bool) (x : ℕ) → meaning.keeps l → (capabilities (meaning.kind l)).append ≡ true
    → (first ≡ true → MayAppend (meaning.kind l) (meaning.size l) x (meaning.log l))
    → (first ≡ true → length (meaning.log l).coords < greatest_position_count) → Logged (added_log first x (meaning.log l)) l
adds_to l true x keeps able may room = appends_coord l x keeps able (may refl) (room refl)
adds_to l false x keeps able may room = same_log l keeps

-- the last parent is given its positions if there were rows
pub closes : (l : StorageLevel) (last begin count : ℕ) (some : Bool) → meaning.keeps l → (capabilities (meaning.kind l)).append ≡ true
    → (some ≡ true → MayAppendEdges (meaning.kind l) last begin count (meaning.log l))
    → Logged (closed_log (meaning.kind l) (record { last = last; begin = begin; count = count }) some (meaning.log l)) l
closes l last begin count true keeps able may = appends_edges l last begin count keeps able (may refl)
closes l last begin count false keeps able may = same_log l keeps

pub finish : (l : StorageLevel) (parents : ℕ) → meaning.keeps l → (capabilities (meaning.kind l)).append ≡ true
    → MayFinish parents (meaning.log l) → Done parents l
finish = each_gives _ (λ L wrap gives l. gives.finish l)

pub prepare : (l : StorageLevel) (parents most : ℕ) → MayPrepare (meaning.kind l) (meaning.width l) most → Ready parents most l
prepare = each_gives _ (λ L wrap gives l. gives.prepare l)

pub insert : (l : StorageLevel) (parent x : ℕ) → meaning.allowed l (one parent)
    → MayInsert (meaning.kind l) (meaning.size l) (meaning.segment_of l (one parent)) (meaning.entries l (one parent)) x
    → Given parent x l
insert = each_gives _ (λ L wrap gives l. gives.insert l)
