-- Levels are added one below another, each given the rows of a table: what holds after each, and of all.
use Rattle.std.specs.Prelude.{◌≡◌, ◌≢◌, ℕ, suc, ◌+◌, ◌-◌, ◌≤◌, ◌<◌, not, Bool, true, false, List, [], ◌∷◌, ◌++◌, length, slice_index, refl}
use Rattle.std.proofs.lemmas.List.{length_push}
use Rattle.std.proofs.Common.{◌∙◌, sym, ap, subst, arith}
use Rattle.level_core.specs.declared.letter.Letter.{Letter}
use Rattle.level_core.specs.Kinds.{properties}
use Rattle.level_core.specs.Meaning.{Meaning}
use Rattle.level_core.specs.Laws.{Laws}
use Rattle.level_rows.specs.Rows.{Keys, rows_at, begun, MayAppendRows, MayInsertRows, AreTogether}
use Rattle.level_rows.specs.Taken.{Stores, Takes, AppendsRows}
use Rattle.level_rows.specs.Stacks.{Column, rows_in, Stacked, AreChained, TellsPaths, last_place, last_positions}
use Rattle.level_rows.specs.Growing.{column_of, ChainTo, Growing, IsNext, LevelsGrow}
use Rattle.level_rows.specs.Tables.{Increase, ShareBy, NeverFall, AllPlaced, AreRowsOf, IsColumnOf, AreColumnsOf}
use Rattle.level_rows.proofs.PlaceLaws.{may_append_rows, may_insert_rows, together, appended_share, appended_never_fall}
use Rattle.level_rows.proofs.PlaceLaws.{appended_all_placed, inserted_share, inserted_never_fall, columns_sorted}
use Rattle.level_rows.proofs.StackLaws.{stacks_tell_paths}
use Rattle.level_rows.proofs.ValueLaws.{places_apart}

-- before the first level
pub none_grown : {L : Type 0} (means : Meaning L) (coords : ℕ → ℕ → ℕ) (count : ℕ)
    → Growing means coords count 0 0 false true [] [] (λ i. 0) 1
none_grown means coords count = record {
  stacked = tt;
  chained = refl;
  columns_are = tt;
  depth = refl;
  place_is = refl;
  parents_are = refl;
  share = record { within = λ i h. omega arith; agree = λ i j less h same d l. absurd (omega (arith, l)); share = λ i j less h a. refl };
  deep = λ e. absurd (apart e);
  level = λ _. refl;
  never_fall = λ _ i h. omega arith;
  all_placed = λ e. absurd (apart e);
}
  where
    apart : false ≡ true → ⊥
    apart e = cc

place_push : (columns : List Column) (column : Column) (parent : ℕ → ℕ) → last_place (columns ++ column ∷ []) parent ≡ column.place
place_push [] column parent = refl
place_push (c ∷ columns) column parent = place_push columns column c.place

positions_push : (columns : List Column) (column : Column) (parents : ℕ)
    → last_positions (columns ++ column ∷ []) parents ≡ column.positions
positions_push [] column parents = refl
positions_push (c ∷ columns) column parents = positions_push columns column c.positions

module _ {L : Type 0} (means : Meaning L) (coords : ℕ → ℕ → ℕ) (count : ℕ) (l : L) (column : Column) where
  stacked_push : (ls : List L) (columns : List Column) (parent : ℕ → ℕ) (parents : ℕ) → Stacked means count ls columns parent parents
      → Stores means (last_positions columns parents) column.positions (rows_in count (last_place columns parent) column) column.place l
      → Stacked means count (ls ++ l ∷ []) (columns ++ column ∷ []) parent parents
  stacked_push [] [] parent parents st s = (s, tt)
  stacked_push [] (c ∷ columns) parent parents st s = absurd st
  stacked_push (m ∷ ls) [] parent parents st s = absurd st
  stacked_push (m ∷ ls) (c ∷ columns) parent parents st s = (st.0, stacked_push ls columns c.place c.positions st.1 s)

  chained_push : (ls : List L) (groups last : Bool) → ChainTo means groups ls last → (properties (means.kind l)).branchless ≡ last
      → ChainTo means groups (ls ++ l ∷ []) (not (properties (means.kind l)).unique)
  chained_push [] groups last c is = (is ∙ sym c, refl)
  chained_push (m ∷ ls) groups last c is = (c.0, chained_push ls (not (properties (means.kind m)).unique) last c.1 is)

  columns_push : (ls : List L) (columns : List Column) (d e : ℕ) → AreColumnsOf means coords count ls columns d
      → (parent : ℕ → ℕ) (parents : ℕ) → Stacked means count ls columns parent parents → length ls ≡ e
      → IsColumnOf coords (d + e) count (properties (means.kind l)).unique column
      → AreColumnsOf means coords count (ls ++ l ∷ []) (columns ++ column ∷ []) d
  columns_push [] [] d e are parent parents st long is = let same : d + e ≡ d = omega (arith, long) in
      (subst (λ n. IsColumnOf coords n count (properties (means.kind l)).unique column) same is, tt)
  columns_push [] (c ∷ columns) d e are parent parents st long is = absurd st
  columns_push (m ∷ ls) [] d e are parent parents st long is = absurd st
  columns_push (m ∷ ls) (c ∷ columns) d e are parent parents st long is =
      let one_less : length ls ≡ e - 1 = omega (arith, long) in
      let same : d + e ≡ suc d + (e - 1) = omega (arith, long) in (
        are.0,
        columns_push ls columns (suc d) (e - 1) are.1 c.place c.positions st.1 one_less
            (subst (λ n. IsColumnOf coords n count (properties (means.kind l)).unique column) same is),
      )

length_more : {A : Type 0} (xs : List A) (x : A) (n : ℕ) → length xs ≡ n → length (xs ++ x ∷ []) ≡ suc n
length_more xs x n is = let k = length_push xs x in omega (arith, k, is)

apart : {A : Type 0} → true ≡ false → A
apart {A} e = absurd (no_way e)
  where
    no_way : true ≡ false → ⊥
    no_way e = cc

deeper : (letter : Letter) (d n above : ℕ) (groups : Bool) → IsNext letter d n above groups → d < n
deeper letter d n above groups next = by_case (properties letter).unique refl
  where
    by_case : (b : Bool) → (properties letter).unique ≡ b → d < n
    by_case true is = let k = next.unique is in omega (arith, k)
    by_case false is = let k = next.more is in omega (arith, k)

module _ {L : Type 0} (means : Meaning L) (laws : Laws means) (coords : ℕ → ℕ → ℕ) (order : ℕ) (keys : Keys) (d above parents : ℕ)
    (groups ordered : Bool) (levels : List L) (columns : List Column) (ps : List ℕ)
    (up : Increase coords order keys.count) (g : Growing means coords keys.count d above groups ordered levels columns (slice_index ps)
    parents) where
  upto_next : (letter : Letter) (n : ℕ) → IsNext letter d n above groups → above ≤ n
  upto_next letter n next = by_case groups refl
    where
      by_case : (b : Bool) → groups ≡ b → above ≤ n
      by_case true is = let k = next.chained is in omega (arith, k)
      by_case false is = let k = g.level is in let l = deeper letter d n above groups next in omega (arith, k, l)

  -- the rows may be appended to the next level
  pub may_append_next : (letter : Letter) (n size : ℕ) → IsNext letter d n above groups → ordered ≡ true
      → AreRowsOf coords d n size (rows_at keys ps) → MayAppendRows letter size parents (rows_at keys ps)
  may_append_next letter n size next is are =
      may_append_rows letter coords order d n above size parents (rows_at keys ps) up are g.share (g.never_fall is)
      (deeper letter d n above groups next) (upto_next letter n next) next.unique
      (λ b. g.level (sym next.branchless ∙ b)) (λ b. let with_groups = sym next.branchless ∙ b in
      (next.chained with_groups, g.all_placed with_groups))

  -- and inserted, and those of each parent stand together
  pub may_insert_next : (size : ℕ) → groups ≡ false → AreRowsOf coords d (suc d) size (rows_at keys ps)
      → MayInsertRows size parents (rows_at keys ps)
  may_insert_next size is are = may_insert_rows coords order d size parents (rows_at keys ps) up are
      (subst (λ n. ShareBy coords n keys.count parents (slice_index ps)) (g.level is) g.share)

  pub next_together : AreTogether (rows_at keys ps)
  next_together = together coords order above parents (rows_at keys ps) up g.share

  module _ (n size positions : ℕ) (places : List ℕ) (old new : L) (next : IsNext (means.kind old) d n above groups)
      (are : AreRowsOf coords d n size (rows_at keys ps)) (t : Takes means parents positions (rows_at keys ps) places old new) where
    kind_new : means.kind new ≡ means.kind old
    kind_new = t.kind

    stores : Stores means (last_positions columns 1) positions
        (rows_in keys.count (last_place columns (λ i. 0)) (column_of keys places positions)) (slice_index places) new
    stores =
        subst (λ p. Stores means p positions (rows_in keys.count (last_place columns (λ i. 0)) (column_of keys places positions))
        (slice_index places) new) (sym g.parents_are)
        (subst (λ f. Stores means parents positions (rows_in keys.count f (column_of keys places positions)) (slice_index places) new)
        (sym g.place_is) t.stored)

    grown : (ordered_then : Bool) → ShareBy coords n keys.count positions (slice_index places)
        → (ordered_then ≡ true → NeverFall keys.count (slice_index places))
        → ((properties (means.kind old)).unique ≡ false → AllPlaced keys.count positions (slice_index places))
        → Growing means coords keys.count (suc d) n (not (properties (means.kind old)).unique) ordered_then (levels ++ new ∷ [])
        (columns ++ column_of keys places positions ∷ []) (slice_index places) positions
    grown ordered_then share never all = record {
      stacked = stacked_push means coords keys.count new (column_of keys places positions) levels columns (λ i. 0) 1 g.stacked stores;
      chained = subst (λ k. ChainTo means false (levels ++ new ∷ []) (not (properties k).unique)) kind_new
          (chained_push means coords keys.count new (column_of keys places positions) levels false groups g.chained
          (ap (λ k. (properties k).branchless) kind_new ∙ next.branchless));
      columns_are = columns_push means coords keys.count new (column_of keys places positions) levels columns 0 d g.columns_are (λ i. 0) 1
          g.stacked g.depth
          (let same : 0 + d ≡ d = omega arith in
          subst (λ e. IsColumnOf coords e keys.count (properties (means.kind new)).unique (column_of keys places positions)) (sym same)
          (record {
            coord = are.coord;
            through = n;
            begins = are.begins;
            last = λ u. next.unique (sym (ap (λ k. (properties k).unique) kind_new) ∙ u);
          }));
      depth = length_more levels new d g.depth;
      place_is = place_push columns (column_of keys places positions) (λ i. 0);
      parents_are = positions_push columns (column_of keys places positions) 1;
      share = share;
      deep = λ b. by_unique_deep (properties (means.kind old)).unique refl b;
      level = λ b. by_unique (properties (means.kind old)).unique refl b;
      never_fall = never;
      all_placed = λ b. all_by (properties (means.kind old)).unique refl b;
    }
      where
        by_unique_deep : (u : Bool) → (properties (means.kind old)).unique ≡ u → not (properties (means.kind old)).unique ≡ true → suc d < n
        by_unique_deep true is b = apart (sym b ∙ ap not is)
        by_unique_deep false is b = next.more is

        by_unique : (u : Bool) → (properties (means.kind old)).unique ≡ u → not (properties (means.kind old)).unique ≡ false → n ≡ suc d
        by_unique true is b = next.unique is
        by_unique false is b = apart (sym (ap not is) ∙ b)

        all_by : (u : Bool) → (properties (means.kind old)).unique ≡ u → not (properties (means.kind old)).unique ≡ true
            → AllPlaced keys.count positions (slice_index places)
        all_by true is b = apart (sym b ∙ ap not is)
        all_by false is b = all is

  -- a level was appended to
  pub grown_appended : (n size : ℕ) (places : List ℕ) (old new : L) → IsNext (means.kind old) d n above groups
      → AreRowsOf coords d n size (rows_at keys ps) → AppendsRows means parents (rows_at keys ps) places old new
      → Growing means coords keys.count (suc d) n (not (properties (means.kind old)).unique) ordered (levels ++ new ∷ [])
      (columns ++ column_of keys places (begun keys.first keys.count) ∷ []) (slice_index places) (begun keys.first keys.count)
  grown_appended n size places old new next are a =
      grown n size (begun keys.first keys.count) places old new next are a.takes ordered
      (appended_share coords order n (rows_at keys ps) (slice_index places) up are.begins a.numbered)
      (λ _. appended_never_fall (rows_at keys ps) (slice_index places) a.numbered)
      (λ _. appended_all_placed (rows_at keys ps) (slice_index places) a.numbered)

  -- a level was inserted into
  pub grown_inserted : (n size positions : ℕ) (places : List ℕ) (old new : L) (ordered_then : Bool)
      → IsNext (means.kind old) d n above groups → groups ≡ false → (properties (means.kind old)).unique ≡ true
      → (ordered_then ≡ true → (ordered ≡ true) × ((properties (means.kind old)).ordered ≡ true))
      → AreRowsOf coords d n size (rows_at keys ps) → Takes means parents positions (rows_at keys ps) places old new
      → Growing means coords keys.count (suc d) n (not (properties (means.kind old)).unique) ordered_then (levels ++ new ∷ [])
      (columns ++ column_of keys places positions ∷ []) (slice_index places) positions
  grown_inserted n size positions places old new ordered_then next none unique keep are t =
      let last = next.unique unique in
      let share = subst (λ m. ShareBy coords m keys.count parents (slice_index ps)) (g.level none) g.share in
      let are_last = subst (λ m. AreRowsOf coords d m size (rows_at keys ps)) last are in
      let kind = t.kind in
      grown n size positions places old new next are t ordered_then
      (subst (λ m. ShareBy coords m keys.count positions (slice_index places)) (sym last)
      (inserted_share means laws new parents positions (rows_at keys ps) (slice_index places) t.stored share.within coords d size
      (ap (λ k. (properties k).unique) kind ∙ unique) are_last share))
      (λ o. inserted_never_fall means laws new parents positions (rows_at keys ps) (slice_index places) t.stored share.within coords order d
      size (ap (λ k. (properties k).ordered) kind ∙ (keep o).1) (ap (λ k. (properties k).unique) kind ∙ unique) up are_last share
      (g.never_fall (keep o).0))
      (λ b. apart (sym unique ∙ b))

chained_all : {L : Type 0} (means : Meaning L) (groups : Bool) (ls : List L) → ChainTo means groups ls false → AreChained means groups ls
chained_all means groups [] c = c
chained_all means groups (l ∷ ls) c = (c.0, chained_all means (not (properties (means.kind l)).unique) ls c.1)

-- all levels are there
pub grown_all : {L : Type 0} (means : Meaning L) → Laws means
    → (coords : ℕ → ℕ → ℕ) (count order above : ℕ) (ordered : Bool) (levels : List L) (columns : List Column) (place : ℕ → ℕ)
    (positions : ℕ) → Increase coords order count
    → Growing means coords count order above false ordered levels columns place positions → TellsPaths means count levels columns
grown_all means laws coords count order above ordered levels columns place positions up g =
    stacks_tell_paths means laws count levels columns g.stacked (chained_all means false levels g.chained)
    (columns_sorted means coords order count levels columns 0 (λ i. i < count) up g.columns_are
    (λ i h s d l. absurd (omega (arith, l))))

-- and no two rows have one place
pub grown_apart : {L : Type 0} (means : Meaning L) (coords : ℕ → ℕ → ℕ) (count order above : ℕ) (ordered : Bool) (levels : List L)
    (columns : List Column) (place : ℕ → ℕ) (positions : ℕ) → Increase coords order count
    → Growing means coords count order above false ordered levels columns place positions → (i j : ℕ) → i < j → j < count
    → place i ≢ place j
grown_apart means coords count order above ordered levels columns place positions up g =
    places_apart coords order count positions place up (subst (λ n. ShareBy coords n count positions place) (g.level refl) g.share)

pub levels_grow : {L : Type 0} (means : Meaning L) → Laws means → LevelsGrow means
levels_grow means laws = record {
  none = none_grown means;
  next = λ coords order keys d above parents groups ordered levels columns ps up g. record {
    may_append = may_append_next means laws coords order keys d above parents groups ordered levels columns ps up g;
    may_insert = may_insert_next means laws coords order keys d above parents groups ordered levels columns ps up g;
    together = next_together means laws coords order keys d above parents groups ordered levels columns ps up g;
    appended = grown_appended means laws coords order keys d above parents groups ordered levels columns ps up g;
    inserted = grown_inserted means laws coords order keys d above parents groups ordered levels columns ps up g;
  };
  all = grown_all means laws;
  apart = grown_apart means;
}
