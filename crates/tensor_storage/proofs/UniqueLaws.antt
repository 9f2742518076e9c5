-- At most one storage stands for a table.
use Rattle.std.specs.Prelude.{◌≡◌, ◌≢◌, ◌⊎◌, ℕ, zero, suc, ◌+◌, ◌≤◌, ◌<◌, not, Bool, true, false, List, [], ◌∷◌, length, map, slice_index}
use Rattle.std.specs.Prelude.{None, refl}
use Rattle.std.proofs.Common.{◌∙◌, sym, ap, subst, arith, inl, inr}
use Rattle.std.proofs.lemmas.Bool.{cases_lt, cases_eq}
use Rattle.std.proofs.lemmas.Grind.{same_number_lists}
use Rattle.level_core.specs.declared.letter.Letter.{Letter}
use Rattle.level_core.specs.Entries.{one}
use Rattle.level_core.specs.Kinds.{properties}
use Rattle.level_core.specs.Meaning.{Meaning}
use Rattle.level_core.specs.Laws.{Laws}
use Rattle.level_rows.specs.Stacks.{Path, Column, Stacked, AreChained, TellsPaths, last_place}
use Rattle.level_rows.specs.Tables.{Increase, Begins, AreColumnsOf}
use Rattle.level_rows.proofs.PlaceLaws.{columns_sorted}
use Rattle.level_rows.proofs.StackLaws.{place_within, stacks_tell_paths}
use Rattle.format_spec.specs.declared.format.FormatLevel.{FormatLevel}
use Rattle.format_spec.specs.Formats.{letters_of, Chained}
use Rattle.tensor_storage.specs.Built.{counts_of, AreBuilt}
use Rattle.tensor_storage.specs.Chains.{chain_length}
use Rattle.tensor_storage.specs.Levels.{StorageLevel, meaning}
use Rattle.tensor_storage.specs.Laws.{laws as level_laws}
use Rattle.tensor_storage.specs.Stands.{row_from, IsPacked}
use Rattle.tensor_storage.specs.Storages.{Storage, IsStorage}
use Rattle.tensor_storage.specs.Tables.{Table}
use Rattle.tensor_storage.specs.Unique.{AreHeldAlike, OneStands}
use Rattle.tensor_storage.proofs.Chains.{chain_of_unique}
use Rattle.tensor_storage.proofs.EachKind.{each_gives}
use Rattle.tensor_storage.proofs.LevelSame.{levels_agree, places_same}
use Rattle.tensor_storage.proofs.Standing.{rows_same}
use Rattle.tensor_storage.proofs.Tables.{begins}

-- levels of two storages are held alike, and each row has one last place in both
record Alike {L : Type 0} (means : Meaning L) (count : ℕ) (ls ms : List L) (cs ds : List Column) (lp mp : ℕ → ℕ) : Type 0 where
  held : AreHeldAlike means ls ms
  places : (i : ℕ) → i < count → last_place cs lp i ≡ last_place ds mp i

heads : {A : Type 0} (x y : A) (xs ys : List A) → x ∷ xs ≡ y ∷ ys → x ≡ y
heads x y xs ys h = cc

tails : {A : Type 0} (x y : A) (xs ys : List A) → x ∷ xs ≡ y ∷ ys → xs ≡ ys
tails x y xs ys h = cc

nothing_is : {A B : Type 0} (x : A) (xs : List A) → [] ≡ x ∷ xs → B
nothing_is {A} x xs h = absurd (never h)
  where
    never : [] ≡ x ∷ xs → ⊥
    never e = cc

module _ {L : Type 0} (means : Meaning L) (laws : Laws means)
    (plain : (l : L) → (properties (means.kind l)).ordered ≡ true → means.width l ≡ None) (table : Table) where
  all_alike : (letters : List Letter) (ls ms : List L) (cs ds : List Column) (d : ℕ) (lp mp : ℕ → ℕ) (parents : ℕ)
      → AreBuilt means table d lp parents letters ls cs → AreBuilt means table d mp parents letters ms ds
      → map means.kind ls ≡ map means.kind ms → map means.size ls ≡ map means.size ms → counts_of cs ≡ counts_of ds
      → ((i : ℕ) → i < table.count → lp i < parents) → ((i : ℕ) → i < table.count → mp i < parents)
      → ((i : ℕ) → i < table.count → lp i ≡ mp i)
      → Alike means table.count ls ms cs ds lp mp
  all_alike letters [] [] [] [] d lp mp parents a b kinds sizes counts lw mw same = record { held = tt; places = same }
  all_alike letters [] ms (c ∷ cs) ds d lp mp parents a b kinds sizes counts lw mw same = absurd a
  all_alike letters [] [] [] (e ∷ ds) d lp mp parents a b kinds sizes counts lw mw same = absurd b
  all_alike letters [] (m ∷ ms) [] ds d lp mp parents a b kinds sizes counts lw mw same =
      nothing_is (means.kind m) (map means.kind ms) kinds
  all_alike letters (l ∷ ls) ms [] ds d lp mp parents a b kinds sizes counts lw mw same = absurd a
  all_alike letters (l ∷ ls) [] (c ∷ cs) ds d lp mp parents a b kinds sizes counts lw mw same =
      nothing_is (means.kind l) (map means.kind ls) (sym kinds)
  all_alike letters (l ∷ ls) (m ∷ ms) (c ∷ cs) [] d lp mp parents a b kinds sizes counts lw mw same = absurd b
  all_alike [] (l ∷ ls) (m ∷ ms) (c ∷ cs) (e ∷ ds) d lp mp parents a b kinds sizes counts lw mw same = absurd a
  all_alike (letter ∷ letters) (l ∷ ls) (m ∷ ms) (c ∷ cs) (e ∷ ds) d lp mp parents a b kinds sizes counts lw mw same =
      let kind_is = sym (heads (means.kind l) (means.kind m) (map means.kind ls) (map means.kind ms) kinds) in
      let size_is = sym (heads (means.size l) (means.size m) (map means.size ls) (map means.size ms) sizes) in
      let count_is = heads c.positions e.positions (counts_of cs) (counts_of ds) counts in
      let n = d + chain_length (letter ∷ letters) in
      let agree = levels_agree means laws plain table d n parents lp mp c e l m a.0 b.0 lw mw same kind_is size_is in
      let rest = all_alike letters ls ms cs ds (suc d) c.place e.place c.positions a.1
      (subst (λ q. AreBuilt means table (suc d) e.place q letters ms ds) (sym count_is) b.1)
      (tails (means.kind l) (means.kind m) (map means.kind ls) (map means.kind ms) kinds) (tails (means.size l) (means.size m)
      (map means.size ls) (map means.size ms) sizes) (tails c.positions e.positions (counts_of cs) (counts_of ds) counts)
      (place_within means laws table.count l c lp parents a.0.stores lw)
      (λ i h. subst (λ q. e.place i < q) (sym count_is) (place_within means laws table.count m e mp parents b.0.stores mw i h))
      (places_same means laws plain table d n parents lp mp c e l m a.0 b.0 lw mw same kind_is size_is) in
      record {
        held = (
          (λ tensor level arrays holds. laws.same_arrays l m parents tensor level arrays a.0.stores.has_parents b.0.stores.has_parents
              agree holds),
          rest.held,
        );
        places = rest.places;
      }

  -- built levels are stacked
  stacked_of : (letters : List Letter) (ls : List L) (cs : List Column) (d : ℕ) (parent : ℕ → ℕ) (parents : ℕ)
      → AreBuilt means table d parent parents letters ls cs → Stacked means table.count ls cs parent parents
  stacked_of letters [] [] d parent parents a = tt
  stacked_of letters [] (c ∷ cs) d parent parents a = absurd a
  stacked_of letters (l ∷ ls) [] d parent parents a = absurd a
  stacked_of [] (l ∷ ls) (c ∷ cs) d parent parents a = absurd a
  stacked_of (letter ∷ letters) (l ∷ ls) (c ∷ cs) d parent parents a =
      (a.0.stores, stacked_of letters ls cs (suc d) c.place c.positions a.1)

  columns_of : (letters : List Letter) (ls : List L) (cs : List Column) (d : ℕ) (parent : ℕ → ℕ) (parents : ℕ) → map means.kind ls ≡ letters
      → AreBuilt means table d parent parents letters ls cs → AreColumnsOf means table.coords table.count ls cs d
  columns_of letters [] [] d parent parents kinds a = tt
  columns_of letters [] (c ∷ cs) d parent parents kinds a = absurd a
  columns_of letters (l ∷ ls) [] d parent parents kinds a = absurd a
  columns_of [] (l ∷ ls) (c ∷ cs) d parent parents kinds a = absurd a
  columns_of (letter ∷ letters) (l ∷ ls) (c ∷ cs) d parent parents kinds a = (
    record {
      coord = λ i h. ap (λ f. f i) a.0.coord;
      through = d + chain_length (letter ∷ letters);
      begins = subst (Begins table.coords (d + chain_length (letter ∷ letters)) table.count) (sym a.0.first)
          (begins table.coords (d + chain_length (letter ∷ letters)) table.count);
      last =
          λ u. let k =
          chain_of_unique letter letters
          (sym (ap (λ x. (properties x).unique) (heads (means.kind l) letter (map means.kind ls) letters kinds)) ∙ u) in omega (arith, k);
    },
    columns_of letters ls cs (suc d) c.place c.positions (tails (means.kind l) letter (map means.kind ls) letters kinds) a.1,
  )

  chained_of : (groups : Bool) (letters : List Letter) (ls : List L) → map means.kind ls ≡ letters → Chained groups letters
      → AreChained means groups ls
  chained_of groups [] [] kinds c = c
  chained_of groups (letter ∷ letters) [] kinds c = nothing_is letter letters kinds
  chained_of groups [] (l ∷ ls) kinds c = nothing_is (means.kind l) (map means.kind ls) (sym kinds)
  chained_of groups (letter ∷ letters) (l ∷ ls) kinds c =
      let here = sym (heads (means.kind l) letter (map means.kind ls) letters kinds) in (
        subst (λ k. (properties k).branchless ≡ groups) here c.0,
        chained_of (not (properties (means.kind l)).unique) letters ls (tails (means.kind l) letter (map means.kind ls) letters kinds)
            (subst (λ k. Chained (not (properties k).unique) letters) here c.1),
      )

width_none : (l : StorageLevel) → (properties (meaning.kind l)).ordered ≡ true → meaning.width l ≡ None
width_none = each_gives _ (λ L wrap gives l. gives.width_none l)

-- a row at a place, if there is one
placed_or_not : (count : ℕ) (place : ℕ → ℕ) (pos : ℕ)
    → ((i : ℕ) × (i < count) × (place i ≡ pos)) ⊎ ((i : ℕ) → i < count → place i ≡ pos → ⊥)
placed_or_not zero place pos = inr (λ i h at. omega (arith, h))
placed_or_not (suc count) place pos = by_last (placed_or_not count place pos) (cases_eq (place count) pos)
  where
    earlier : ((i : ℕ) → i < count → place i ≡ pos → ⊥) → place count ≢ pos → (i : ℕ) → i < suc count → place i ≡ pos → ⊥
    earlier none last i h at = by_order (cases_lt i count)
      where
        by_order : (i < count) ⊎ (count ≤ i) → ⊥
        by_order (inl less) = none i less at
        by_order (inr from) = let same : i ≡ count = omega (arith, h, from) in last (ap place (sym same) ∙ at)

    by_last : ((i : ℕ) × (i < count) × (place i ≡ pos)) ⊎ ((i : ℕ) → i < count → place i ≡ pos → ⊥)
        → (place count ≡ pos) ⊎ (place count ≢ pos) → ((i : ℕ) × (i < suc count) × (place i ≡ pos))
        ⊎ ((i : ℕ) → i < suc count → place i ≡ pos → ⊥)
    by_last (inl k) last = inl (k.0, (let less = k.1 in omega (arith, less)), k.2)
    by_last (inr none) (inl at) = inl (count, omega arith, at)
    by_last (inr none) (inr last) = inr (earlier none last)

-- the values of one storage by the places of the rows
module _ (zero_is : ℕ) (format : List FormatLevel) (ranges : List ℕ) (table : Table) (s : Storage)
    (up : Increase table.coords (length format) table.count) (is : IsStorage s) (p : IsPacked zero_is format ranges table s) where
  pub kinds_are : map meaning.kind s.levels ≡ letters_of format
  kinds_are = is.letters ∙ ap letters_of p.format_is

  stacked : Stacked meaning table.count s.levels p.stands.columns (λ i. 0) 1
  stacked = stacked_of meaning level_laws width_none table (letters_of format) s.levels p.stands.columns 0 (λ i. 0) 1 p.stands.built

  columns_are : AreColumnsOf meaning table.coords table.count s.levels p.stands.columns 0
  columns_are = columns_of meaning level_laws width_none table (letters_of format) s.levels p.stands.columns 0 (λ i. 0) 1 kinds_are
      p.stands.built

  tells : TellsPaths meaning table.count s.levels p.stands.columns
  tells = stacks_tell_paths meaning level_laws table.count s.levels p.stands.columns stacked
      (chained_of meaning level_laws width_none table false (letters_of format) s.levels kinds_are
      (subst (λ f. Chained false (letters_of f)) p.format_is is.format.chained))
      (columns_sorted meaning table.coords (length format) table.count s.levels p.stands.columns 0 (λ i. i < table.count) up columns_are
      (λ i h k d l. absurd (omega (arith, l))))

  own : (i : ℕ) → i < table.count → Path meaning s.levels (one 0) (row_from table.coords i 0 (letters_of format))
      (last_place p.stands.columns (λ i. 0) i)
  own i h = subst (λ xs. Path meaning s.levels (one 0) xs (last_place p.stands.columns (λ i. 0) i))
      (rows_same meaning table s.levels p.stands.columns 0 (λ i. 0) 1 stacked columns_are i h
      ∙ ap (row_from table.coords i 0) kinds_are) (tells.own i h)

  pub value_row : (i pos : ℕ) → i < table.count → last_place p.stands.columns (λ i. 0) i ≡ pos → slice_index s.values pos ≡ table.values i
  value_row i pos h at =
      p.stands.stored i pos h (subst (λ q. Path meaning s.levels (one 0) (row_from table.coords i 0 (letters_of format)) q) at (own i h))

  pub value_none : (pos : ℕ) → pos < length s.values → ((i : ℕ) → i < table.count → last_place p.stands.columns (λ i. 0) i ≡ pos → ⊥)
      → slice_index s.values pos ≡ zero_is
  value_none pos within none = p.stands.zeros pos within
      (λ i h path. none i h (tells.once (row_from table.coords i 0 (letters_of format)) (last_place p.stands.columns (λ i. 0) i) pos
      (own i h) path))

pub one_stands : OneStands
one_stands zero_is format ranges table s t up s_is t_is p q =
    record {
      levels = alike.held;
      values = same_number_lists s.values t.values long
          (λ pos h. value pos h (placed_or_not table.count (last_place p.stands.columns (λ i. 0)) pos));
    }
  where
    alike : Alike meaning table.count s.levels t.levels p.stands.columns q.stands.columns (λ i. 0) (λ i. 0)
    alike = all_alike meaning level_laws width_none table (letters_of format) s.levels t.levels p.stands.columns q.stands.columns 0 (λ i. 0)
        (λ i. 0) 1 p.stands.built q.stands.built
        (kinds_are zero_is format ranges table s up s_is p ∙ sym (kinds_are zero_is format ranges table t up t_is q)) (p.sizes
        ∙ sym q.sizes) (p.stands.counted ∙ sym q.stands.counted) (λ i h. omega arith) (λ i h. omega arith) (λ i h. refl)

    long : length s.values ≡ length t.values
    long = p.stands.many ∙ sym q.stands.many

    value : (pos : ℕ) → pos < length s.values → ((i : ℕ) × (i < table.count) × (last_place p.stands.columns (λ i. 0) i ≡ pos))
        ⊎ ((i : ℕ) → i < table.count → last_place p.stands.columns (λ i. 0) i ≡ pos → ⊥)
        → slice_index s.values pos ≡ slice_index t.values pos
    value pos h (inl k) = value_row zero_is format ranges table s up s_is p k.0 pos k.1 k.2
        ∙ sym (value_row zero_is format ranges table t up t_is q k.0 pos k.1 (sym (alike.places k.0 k.1) ∙ k.2))
    value pos h (inr none) = value_none zero_is format ranges table s up s_is p pos h none
        ∙ sym (value_none zero_is format ranges table t up t_is q pos (omega (arith, h, long))
        (λ i less at. none i less (alike.places i less ∙ at)))
