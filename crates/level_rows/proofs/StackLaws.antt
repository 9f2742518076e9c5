-- The paths of stacked levels are those that their rows make.
use Rattle.std.specs.Prelude.{◌≡◌, ◌⊎◌, ℕ, suc, ◌+◌, ◌-◌, ◌≤◌, ◌<◌, not, Bool, true, false, List, [], ◌∷◌, Some, refl}
use Rattle.std.proofs.Common.{◌∙◌, sym, ap, subst, arith, inl, inr}
use Rattle.std.proofs.lemmas.Bool.{cases_lt}
use Rattle.std.proofs.lemmas.Option.{same_Some}
use Rattle.level_core.specs.declared.letter.Letter.{Letter}
use Rattle.level_core.specs.declared.span.Span.{Span}
use Rattle.level_core.specs.declared.span.Entry.{Entry}
use Rattle.level_core.specs.Entries.{IsIn, StandsAt, one, span}
use Rattle.level_core.specs.Kinds.{properties, AreEntries}
use Rattle.level_core.specs.Meaning.{Meaning}
use Rattle.level_core.specs.Laws.{Laws}
use Rattle.level_core.specs.ParentLaws.{Askable}
use Rattle.level_core.proofs.EntryLaws.{placed_within}
use Rattle.level_core.proofs.KindLaws.{are_of_a_kind}
use Rattle.level_core.proofs.ParentLaws.{segments_apart}
use Rattle.level_core.proofs.GroupLaws.{single_at}
use Rattle.level_rows.specs.Rows.{StandsFor}
use Rattle.level_rows.specs.Taken.{Asked, Stores}
use Rattle.level_rows.specs.Stacks.{Path, IsPath, coords_of, rows_in, Column, last_place, last_positions, Stacked, AreChained, AreSorted}
use Rattle.level_rows.specs.Stacks.{MayAsk, AreNested, TellsPaths, StacksTellPaths}
use Rattle.level_rows.proofs.Entries.{Found, stands_within, coord_in, coord_from, one_entry, found, below_at}

-- one level: which rows have their places below an entry
pub record Below (full : Bool) (size count : ℕ) (parent column place : ℕ → ℕ) (span : Span) (e : Entry) : Type 0 where
  pub size_is : e.coord < size
  pub some : full ≡ false → (i : ℕ) × (i < count) × IsIn (parent i) span × (column i ≡ e.coord)
  pub down : (i : ℕ) → i < count → IsIn (place i) e.child → IsIn (parent i) span × (column i ≡ e.coord)
  pub up : (i : ℕ) → i < count → IsIn (parent i) span → column i ≡ e.coord → IsIn (place i) e.child

pub below : (letter : Letter) (size count : ℕ) (parent column place : ℕ → ℕ) (first : ℕ → Bool) (allowed : Span → Type 0)
    (segment_of : Span → Span) (entries : Span → List Entry) (s : Span) (e : Entry)
    → StandsFor (properties letter).full allowed segment_of entries
    (record { count = count; parent = parent; coord = column; first = first }) place → allowed s
    → AreEntries (properties letter) size s (segment_of s) (entries s) → StandsAt e.child.lo e (entries s)
    → Below (properties letter).full size count parent column place s e
below letter size count parent column place first allowed segment_of entries s e f ok are stands = record {
  size_is = below_at size e.child.lo e (entries s) are.below stands;
  some = λ full.
      let inside = stands_within (segment_of s).lo (segment_of s).hi e.child.lo e (entries s) are.placed stands in
      let a = inside.0 in let b = inside.1 in let d = inside.2 in
      let has = coord_in (segment_of s).lo (segment_of s).hi e.child.lo e.child.lo e (entries s) are.placed stands (omega arith, b) in
      let k = f.only full s e.child.lo e.coord ok (a, omega (arith, b, d)) has in
      let here = down k.0 k.1 (subst (λ q. IsIn q e.child) (sym k.2) (omega arith, b)) in
      (k.0, k.1, here.0, here.1);
  down = down;
  up = λ i h in_it same.
      let k = coord_from (place i) (column i) (entries s) (f.has s i ok h in_it) in
      subst (λ y. IsIn (place i) y.child)
      (one_entry k.entry.child.lo e.child.lo k.entry e (entries s) are.distinct k.stands stands (k.coord ∙ same)) k.at;
}
  where
    down : (i : ℕ) → i < count → IsIn (place i) e.child → IsIn (parent i) s × (column i ≡ e.coord)
    down i h at =
        let inside = stands_within (segment_of s).lo (segment_of s).hi e.child.lo e (entries s) are.placed stands in
        let a = inside.0 in let b = inside.2 in let p = at.0 in let q = at.1 in
        let in_it = f.alone s i ok h (omega (arith, a, p), omega (arith, b, q)) in (
          in_it,
          same_Some (column i) e.coord (sym (f.has s i ok h in_it)
              ∙ coord_in (segment_of s).lo (segment_of s).hi e.child.lo (place i) e (entries s) are.placed stands at),
        )

-- a set of rows is that of the rows whose parents are in a span
pub record AreThose (count : ℕ) (parent : ℕ → ℕ) (span : Span) (begins : ℕ → Type 0) : Type 0 where
  pub into : (i : ℕ) → i < count → IsIn (parent i) span → begins i
  pub back : (i : ℕ) → i < count → begins i → IsIn (parent i) span

next_those : (full : Bool) (size count : ℕ) (parent column place : ℕ → ℕ) (s : Span) (e : Entry) (x : ℕ) (begins : ℕ → Type 0)
    → Below full size count parent column place s e → e.coord ≡ x → AreThose count parent s begins
    → AreThose count place e.child (λ i. begins i × (column i ≡ x))
next_those full size count parent column place s e x begins b is those = record {
  into = λ i h at. let d = b.down i h at in (those.into i h d.0, d.1 ∙ is);
  back = λ i h k. b.up i h (those.back i h k.0) (k.1 ∙ sym is);
}

apart : {A : Type 0} → true ≡ false → A
apart {A} e = absurd (no_way e)
  where
    no_way : true ≡ false → ⊥
    no_way e = cc

not_true : (b : Bool) → not b ≡ false → b ≡ true
not_true true h = refl
not_true false h = apart h

-- where a row stands
pub record IsAt {L : Type 0} (means : Meaning L) (l : L) (pos p : ℕ) : Type 0 where
  pub from : (means.segment_of l (one p)).lo ≤ pos
  pub before : pos < (means.segment_of l (one p)).hi

module _ {L : Type 0} (means : Meaning L) (laws : Laws means) (count : ℕ) where
  -- one level of a stack
  module _ (l : L) (column : Column) (parent : ℕ → ℕ) (parents : ℕ)
      (st : Stores means parents column.positions (rows_in count parent column) column.place l) (within : (i : ℕ) → i < count
      → parent i < parents) where
    asked_one : (p : ℕ) → p < parents → Asked means l parents (one p)
    asked_one p h = (laws.parents l parents p st.has_parents h, omega (arith, h))

    askable : Askable (means.allowed l) (means.segment_of l) parents
    askable = record {
      row = laws.in_row l;
      each = λ p h. (asked_one p h).0;
      rise = λ p h. placed_within (means.segment_of l (one p)).lo (means.segment_of l (one p)).hi (means.entries l (one p))
          (laws.entries l (one p) (asked_one p h).0).placed;
    }

    ends_by : (p : ℕ) → p < parents → (means.segment_of l (one p)).hi ≤ column.positions
    ends_by p h = by_order (cases_lt p (parents - 1))
      where
        last : parents - 1 + 1 ≡ parents
        last = omega (arith, h)

        by_order : (p < parents - 1) ⊎ (parents - 1 ≤ p) → (means.segment_of l (one p)).hi ≤ column.positions
        by_order (inl before) =
            let ends = st.ends (parents - 1) last in
            let behind = segments_apart (means.allowed l) (means.segment_of l) parents p (parents - 1) askable before (omega (arith, h)) in
            let rise = askable.rise (parents - 1) (omega (arith, h)) in
            omega (arith, ends, behind, rise)
        by_order (inr from) = let ends = st.ends p (omega (arith, h, from)) in omega (arith, ends)

    pub row_at : (i : ℕ) → i < count → IsAt means l (column.place i) (parent i)
    row_at i h =
        let are = laws.entries l (one (parent i)) (asked_one (parent i) (within i h)).0 in
        let e = coord_from (column.place i) (column.coord i) (means.entries l (one (parent i)))
        (st.stands.has (one (parent i)) i (asked_one (parent i) (within i h)) h (omega arith, omega arith)) in
        let s = stands_within (means.segment_of l (one (parent i))).lo (means.segment_of l (one (parent i))).hi e.entry.child.lo e.entry
        (means.entries l (one (parent i))) are.placed e.stands in
        let a = s.0 in let b = s.2 in let c = e.at.0 in let d = e.at.1 in
        record { from = omega (arith, a, c); before = omega (arith, b, d) }

    -- a row's place is one of the positions
    pub place_within : (i : ℕ) → i < count → column.place i < column.positions
    place_within i h = let k = (row_at i h).before in let e = ends_by (parent i) (within i h) in omega (arith, k, e)

    child_ends : (s : Span) (e : Entry) → Asked means l parents s → StandsAt e.child.lo e (means.entries l s)
        → (e.child.lo < e.child.hi) × (e.child.hi ≤ column.positions)
    child_ends s e ok stands = by_full (properties (means.kind l)).full refl
      where
        are : AreEntries (properties (means.kind l)) (means.size l) s (means.segment_of l s) (means.entries l s)
        are = laws.entries l s ok.0

        inside : ((means.segment_of l s).lo ≤ e.child.lo) × (e.child.lo < e.child.hi) × (e.child.hi ≤ (means.segment_of l s).hi)
        inside = stands_within (means.segment_of l s).lo (means.segment_of l s).hi e.child.lo e (means.entries l s) are.placed stands

        by_full : (b : Bool) → (properties (means.kind l)).full ≡ b → (e.child.lo < e.child.hi) × (e.child.hi ≤ column.positions)
        by_full true is =
            let alone = laws.one_parent l s ok.0 ((are_of_a_kind (means.kind l)).full_branches is) in
            let same : s ≡ one s.lo = ap (span s.lo) alone in
            let upto = ok.1 in
            let ends = ends_by s.lo (omega (arith, alone, upto)) in
            let same_end = ap (λ t. (means.segment_of l t).hi) same in
            let c = inside.2 in
            (inside.1, omega (arith, ends, same_end, c))
        by_full false is =
            let a = inside.0 in let b = inside.1 in let c = inside.2 in
            let has = coord_in (means.segment_of l s).lo (means.segment_of l s).hi e.child.lo (e.child.hi - 1) e (means.entries l s)
            are.placed stands (omega (arith, b), omega (arith, b)) in
            let r = st.stands.only is s (e.child.hi - 1) e.coord ok (omega (arith, a, b), omega (arith, b, c)) has in
            let w = place_within r.0 r.1 in let at = r.2 in
            (inside.1, omega (arith, w, at, b))

    -- a child of a unique level is one position
    child_one : (s : Span) (e : Entry) → Asked means l parents s → StandsAt e.child.lo e (means.entries l s)
        → (properties (means.kind l)).unique ≡ true → e.child.hi ≡ e.child.lo + 1
    child_one s e ok stands unique = single_at (means.entries l s) e e.child.lo ((laws.entries l s ok.0).properties.unique unique) stands

    below_it : (s : Span) (e : Entry) → Asked means l parents s → StandsAt e.child.lo e (means.entries l s)
        → Below (properties (means.kind l)).full (means.size l) count parent column.coord column.place s e
    below_it s e ok stands = below (means.kind l) (means.size l) count parent column.coord column.place column.first (Asked means l parents)
        (means.segment_of l) (means.entries l) s e st.stands ok (laws.entries l s ok.0) stands

  -- a place in a stack: levels that are left, the span that was reached, and the rows below it
  pub record Here (ls : List L) (columns : List Column) (parent : ℕ → ℕ) (parents : ℕ) (groups : Bool) (s : Span)
      (begins same : ℕ → Type 0) : Type 0 where
    pub stacked : Stacked means count ls columns parent parents
    pub chained : AreChained means groups ls
    pub sorted : AreSorted means count ls columns same
    pub within : (i : ℕ) → i < count → parent i < parents
    pub asked : MayAsk means ls parents s
    pub those : AreThose count parent s begins
    pub alike : (i : ℕ) → suc i < count → begins i → begins (suc i) → same i

  next_asked : (l : L) (ls : List L) (column : Column) (columns : List Column) (parent : ℕ → ℕ) (parents : ℕ) (groups : Bool) (s : Span)
      (begins same : ℕ → Type 0) (e : Entry)
      → Here (l ∷ ls) (column ∷ columns) parent parents groups s begins same → StandsAt e.child.lo e (means.entries l s)
      → MayAsk means ls column.positions e.child
  next_asked l [] column columns parent parents groups s begins same e h stands =
      let ends = child_ends l column parent parents h.stacked.0 h.within s e h.asked stands in
      let alone = child_one l column parent parents h.stacked.0 h.within s e h.asked stands
      (not_true (properties (means.kind l)).unique h.chained.1) in
      let a = ends.0 in let b = ends.1 in
      (alone, omega (arith, a, b))
  next_asked l (m ∷ ls) column [] parent parents groups s begins same e h stands = absurd h.stacked.1
  next_asked l (m ∷ ls) column (next ∷ columns) parent parents groups s begins same e h stands =
      (by_kind (properties (means.kind m)).branchless refl, ends.1)
    where
      ends : (e.child.lo < e.child.hi) × (e.child.hi ≤ column.positions)
      ends = child_ends l column parent parents h.stacked.0 h.within s e h.asked stands

      by_kind : (b : Bool) → (properties (means.kind m)).branchless ≡ b → means.allowed m e.child
      by_kind false is =
          let alone = child_one l column parent parents h.stacked.0 h.within s e h.asked stands
          (not_true (properties (means.kind l)).unique (sym h.chained.1.0 ∙ is)) in
          let a = ends.0 in let b = ends.1 in
          subst (means.allowed m) (sym (ap (span e.child.lo) alone))
          (laws.parents m column.positions e.child.lo h.stacked.1.0.has_parents (omega (arith, a, b)))
      by_kind true is =
          let a = ends.0 in
          let b = below_it l column parent parents h.stacked.0 h.within s e h.asked stands in
          h.stacked.1.0.groups is e.child (omega (arith, a)) ends.1 (λ i more first here there.
          let d = b.down i (omega (arith, more)) here in
          let f = b.down (suc i) more there in
          (h.sorted.1.0 i more (
            h.alike i more (h.those.into i (omega (arith, more)) d.0) (h.those.into (suc i) more f.0),
            d.1
                ∙ sym f.1,
          )).apart first)

  next_here : (l : L) (ls : List L) (column : Column) (columns : List Column) (parent : ℕ → ℕ) (parents : ℕ) (groups : Bool) (s : Span)
      (begins same : ℕ → Type 0) (e : Entry) (x : ℕ)
      → Here (l ∷ ls) (column ∷ columns) parent parents groups s begins same → StandsAt e.child.lo e (means.entries l s) → e.coord ≡ x
      → Here ls columns column.place column.positions (not (properties (means.kind l)).unique) e.child
      (λ i. begins i × (column.coord i ≡ x)) (λ i. same i × (column.coord i ≡ column.coord (suc i)))
  next_here l ls column columns parent parents groups s begins same e x h stands is = record {
    stacked = h.stacked.1;
    chained = h.chained.1;
    sorted = h.sorted.1;
    within = place_within l column parent parents h.stacked.0 h.within;
    asked = next_asked l ls column columns parent parents groups s begins same e h stands;
    those = next_those (properties (means.kind l)).full (means.size l) count parent column.coord column.place s e x begins
        (below_it l column parent parents h.stacked.0 h.within s e h.asked stands) is h.those;
    alike = λ i more b c. (h.alike i more b.0 c.0, b.1 ∙ sym c.1);
  }

  -- a path of the levels is one that the rows make
  path_is : (ls : List L) (columns : List Column) (parent : ℕ → ℕ) (parents : ℕ) (groups : Bool) (s : Span) (begins same : ℕ → Type 0)
      (xs : List ℕ) (pos : ℕ)
      → Here ls columns parent parents groups s begins same → Path means ls s xs pos → IsPath means count ls columns begins xs
  path_is [] [] parent parents groups s begins same [] pos h p = tt
  path_is [] [] parent parents groups s begins same (x ∷ xs) pos h p = absurd p
  path_is [] (column ∷ columns) parent parents groups s begins same xs pos h p = absurd h.stacked
  path_is (l ∷ ls) [] parent parents groups s begins same xs pos h p = absurd h.stacked
  path_is (l ∷ ls) (column ∷ columns) parent parents groups s begins same [] pos h p = absurd p
  path_is (l ∷ ls) (column ∷ columns) parent parents groups s begins same (x ∷ xs) pos h p =
      let b = below_it l column parent parents h.stacked.0 h.within s p.0 h.asked p.1 in
      let is = p.2 in
      let less = b.size_is in (
        λ _. omega (arith, less, is),
        λ full. let k = b.some full in (k.0, k.1, h.those.into k.0 k.1 k.2, k.3 ∙ is),
        path_is ls columns column.place column.positions (not (properties (means.kind l)).unique) p.0.child
            (λ i. begins i × (column.coord i ≡ x)) (λ i. same i × (column.coord i ≡ column.coord (suc i))) xs pos
            (next_here l ls column columns parent parents groups s begins same p.0 x h p.1 is) p.3,
      )

  -- the entry of a coordinate that the rows make
  entry_of : (l : L) (column : Column) (parent : ℕ → ℕ) (parents : ℕ) (s : Span) (begins : ℕ → Type 0) (x : ℕ) (full : Bool)
      → (properties (means.kind l)).full ≡ full
      → Stores means parents column.positions (rows_in count parent column) column.place l → Asked means l parents s
      → AreThose count parent s begins
      → ((properties (means.kind l)).full ≡ true → x < means.size l)
      → ((properties (means.kind l)).full ≡ false → (i : ℕ) × (i < count) × begins i × (column.coord i ≡ x)) → Found x (means.entries l s)
  entry_of l column parent parents s begins x true is st ok those less some =
      let k = (laws.entries l s ok.0).properties.full is x (less is) in found x k.0 (means.entries l s) k.1
  entry_of l column parent parents s begins x false is st ok those less some =
      let k = some is in
      let e = coord_from (column.place k.0) x (means.entries l s) (st.stands.has s k.0 ok k.1 (those.back k.0 k.1 k.2) ∙ ap Some k.3) in
      record { entry = e.entry; stands = e.stands; coord = e.coord }

  -- each path that the rows make is one of the levels
  path_there : (ls : List L) (columns : List Column) (parent : ℕ → ℕ) (parents : ℕ) (groups : Bool) (s : Span) (begins same : ℕ → Type 0)
      (xs : List ℕ)
      → Here ls columns parent parents groups s begins same → IsPath means count ls columns begins xs → (pos : ℕ) × Path means ls s xs pos
  path_there [] [] parent parents groups s begins same [] h p = (s.lo, ap (span s.lo) h.asked.0)
  path_there [] [] parent parents groups s begins same (x ∷ xs) h p = absurd p
  path_there [] (column ∷ columns) parent parents groups s begins same xs h p = absurd h.stacked
  path_there (l ∷ ls) [] parent parents groups s begins same xs h p = absurd h.stacked
  path_there (l ∷ ls) (column ∷ columns) parent parents groups s begins same [] h p = absurd p
  path_there (l ∷ ls) (column ∷ columns) parent parents groups s begins same (x ∷ xs) h p =
      let e = entry_of l column parent parents s begins x (properties (means.kind l)).full refl h.stacked.0 h.asked h.those p.0 p.1 in
      let rest = path_there ls columns column.place column.positions (not (properties (means.kind l)).unique) e.entry.child
      (λ i. begins i × (column.coord i ≡ x)) (λ i. same i × (column.coord i ≡ column.coord (suc i))) xs
      (next_here l ls column columns parent parents groups s begins same e.entry x h e.stands e.coord) p.2 in
      (rest.0, (e.entry, e.stands, e.coord, rest.1))

  -- a path stands once
  path_once : (ls : List L) (columns : List Column) (parent : ℕ → ℕ) (parents : ℕ) (groups : Bool) (s : Span) (begins same : ℕ → Type 0)
      (xs : List ℕ) (pos other : ℕ)
      → Here ls columns parent parents groups s begins same → Path means ls s xs pos → Path means ls s xs other → pos ≡ other
  path_once [] columns parent parents groups s begins same [] pos other h p q = ap (λ t. t.lo) (sym p ∙ q)
  path_once [] columns parent parents groups s begins same (x ∷ xs) pos other h p q = absurd p
  path_once (l ∷ ls) [] parent parents groups s begins same xs pos other h p q = absurd h.stacked
  path_once (l ∷ ls) (column ∷ columns) parent parents groups s begins same [] pos other h p q = absurd p
  path_once (l ∷ ls) (column ∷ columns) parent parents groups s begins same (x ∷ xs) pos other h p q =
      let entry = one_entry q.0.child.lo p.0.child.lo q.0 p.0 (means.entries l s) (laws.entries l s h.asked.0).distinct q.1 p.1
      (q.2 ∙ sym p.2) in
      path_once ls columns column.place column.positions (not (properties (means.kind l)).unique) p.0.child
      (λ i. begins i × (column.coord i ≡ x)) (λ i. same i × (column.coord i ≡ column.coord (suc i))) xs pos other
      (next_here l ls column columns parent parents groups s begins same p.0 x h p.1 p.2) p.3
      (subst (λ e. Path means ls e.child xs other) entry q.3)

  -- a path ends at one of the positions of the last level
  path_within : (ls : List L) (columns : List Column) (parent : ℕ → ℕ) (parents : ℕ) (groups : Bool) (s : Span) (begins same : ℕ → Type 0)
      (xs : List ℕ) (pos : ℕ)
      → Here ls columns parent parents groups s begins same → Path means ls s xs pos → pos < last_positions columns parents
  path_within [] [] parent parents groups s begins same [] pos h p = let less = h.asked.1 in let at = ap (λ t. t.lo) p in
      omega (arith, less, at)
  path_within [] [] parent parents groups s begins same (x ∷ xs) pos h p = absurd p
  path_within [] (column ∷ columns) parent parents groups s begins same xs pos h p = absurd h.stacked
  path_within (l ∷ ls) [] parent parents groups s begins same xs pos h p = absurd h.stacked
  path_within (l ∷ ls) (column ∷ columns) parent parents groups s begins same [] pos h p = absurd p
  path_within (l ∷ ls) (column ∷ columns) parent parents groups s begins same (x ∷ xs) pos h p =
      path_within ls columns column.place column.positions (not (properties (means.kind l)).unique) p.0.child
      (λ i. begins i × (column.coord i ≡ x)) (λ i. same i × (column.coord i ≡ column.coord (suc i))) xs pos
      (next_here l ls column columns parent parents groups s begins same p.0 x h p.1 p.2) p.3

  -- a row whose coordinates are those of a path has its last place there
  place_to : (ls : List L) (columns : List Column) (parent : ℕ → ℕ) (parents : ℕ) (groups : Bool) (s : Span) (begins same : ℕ → Type 0)
      (xs : List ℕ) (pos i : ℕ)
      → Here ls columns parent parents groups s begins same → Path means ls s xs pos → i < count → IsIn (parent i) s
      → coords_of columns i ≡ xs → last_place columns parent i ≡ pos
  place_to [] [] parent parents groups s begins same [] pos i h p less at is =
      let lo = ap (λ y. y.lo) p in let hi = ap (λ y. y.hi) p in let a = at.0 in let b = at.1 in omega (arith, lo, hi, a, b)
  place_to [] [] parent parents groups s begins same (x ∷ xs) pos i h p less at is = absurd p
  place_to [] (column ∷ columns) parent parents groups s begins same xs pos i h p less at is = absurd h.stacked
  place_to (l ∷ ls) [] parent parents groups s begins same xs pos i h p less at is = absurd h.stacked
  place_to (l ∷ ls) (column ∷ columns) parent parents groups s begins same [] pos i h p less at is = absurd p
  place_to (l ∷ ls) (column ∷ columns) parent parents groups s begins same (x ∷ xs) pos i h p less at is =
      let b = below_it l column parent parents h.stacked.0 h.within s p.0 h.asked p.1 in
      let heads : column.coord i ≡ x = cc in
      let tails : coords_of columns i ≡ xs = cc in
      place_to ls columns column.place column.positions (not (properties (means.kind l)).unique) p.0.child
      (λ j. begins j × (column.coord j ≡ x)) (λ j. same j × (column.coord j ≡ column.coord (suc j))) xs pos i
      (next_here l ls column columns parent parents groups s begins same p.0 x h p.1 p.2) p.3 less (b.up i less at (heads ∙ sym p.2)) tails

  -- a row whose last place is that of a path has its coordinates
  place_from : (ls : List L) (columns : List Column) (parent : ℕ → ℕ) (parents : ℕ) (groups : Bool) (s : Span) (begins same : ℕ → Type 0)
      (xs : List ℕ) (pos i : ℕ)
      → Here ls columns parent parents groups s begins same → Path means ls s xs pos → i < count → last_place columns parent i ≡ pos
      → IsIn (parent i) s × (coords_of columns i ≡ xs)
  place_from [] [] parent parents groups s begins same [] pos i h p less is =
      let lo = ap (λ y. y.lo) p in let hi = ap (λ y. y.hi) p in ((omega (arith, lo, hi, is), omega (arith, lo, hi, is)), refl)
  place_from [] [] parent parents groups s begins same (x ∷ xs) pos i h p less is = absurd p
  place_from [] (column ∷ columns) parent parents groups s begins same xs pos i h p less is = absurd h.stacked
  place_from (l ∷ ls) [] parent parents groups s begins same xs pos i h p less is = absurd h.stacked
  place_from (l ∷ ls) (column ∷ columns) parent parents groups s begins same [] pos i h p less is = absurd p
  place_from (l ∷ ls) (column ∷ columns) parent parents groups s begins same (x ∷ xs) pos i h p less is =
      let b = below_it l column parent parents h.stacked.0 h.within s p.0 h.asked p.1 in
      let k = place_from ls columns column.place column.positions (not (properties (means.kind l)).unique) p.0.child
      (λ j. begins j × (column.coord j ≡ x)) (λ j. same j × (column.coord j ≡ column.coord (suc j))) xs pos i
      (next_here l ls column columns parent parents groups s begins same p.0 x h p.1 p.2) p.3 less is in
      let d = b.down i less k.0 in
      (d.0, ap (λ y. y ∷ coords_of columns i) (d.1 ∙ p.2) ∙ ap (λ ys. x ∷ ys) k.1)

  -- each row has its own path
  own_path : (ls : List L) (columns : List Column) (parent : ℕ → ℕ) (parents : ℕ) (groups : Bool) (s : Span)
      (begins same : ℕ → Type 0) (i : ℕ)
      → Here ls columns parent parents groups s begins same → i < count → IsIn (parent i) s
      → Path means ls s (coords_of columns i) (last_place columns parent i)
  own_path [] [] parent parents groups s begins same i h less at =
      let alone = h.asked.0 in let a = at.0 in let b = at.1 in
      let here : s.lo ≡ parent i = omega (arith, alone, a, b) in
      ap (span s.lo) alone ∙ ap one here
  own_path [] (column ∷ columns) parent parents groups s begins same i h less at = absurd h.stacked
  own_path (l ∷ ls) [] parent parents groups s begins same i h less at = absurd h.stacked
  own_path (l ∷ ls) (column ∷ columns) parent parents groups s begins same i h less at =
      let e = coord_from (column.place i) (column.coord i) (means.entries l s) (h.stacked.0.stands.has s i h.asked less at) in (
        e.entry,
        e.stands,
        e.coord,
        own_path ls columns column.place column.positions (not (properties (means.kind l)).unique) e.entry.child
            (λ j. begins j × (column.coord j ≡ column.coord i)) (λ j. same j × (column.coord j ≡ column.coord (suc j))) i
            (next_here l ls column columns parent parents groups s begins same e.entry (column.coord i) h e.stands e.coord) less e.at,
      )

  nested : (ls : List L) (columns : List Column) (parent : ℕ → ℕ) (parents : ℕ) (groups : Bool) (s : Span) (begins same : ℕ → Type 0)
      → Here ls columns parent parents groups s begins same → AreNested means ls columns parents s
  nested [] [] parent parents groups s begins same h = h.asked
  nested [] (column ∷ columns) parent parents groups s begins same h = absurd h.stacked
  nested (l ∷ ls) [] parent parents groups s begins same h = absurd h.stacked
  nested (l ∷ ls) (column ∷ columns) parent parents groups s begins same h = (
    h.asked,
    λ e stands. nested ls columns column.place column.positions (not (properties (means.kind l)).unique) e.child
        (λ i. begins i × (column.coord i ≡ e.coord)) (λ i. same i × (column.coord i ≡ column.coord (suc i)))
        (next_here l ls column columns parent parents groups s begins same e e.coord h stands refl),
  )

  top_asked : (ls : List L) (columns : List Column) → Stacked means count ls columns (λ i. 0) 1 → AreChained means false ls
      → MayAsk means ls 1 (one 0)
  top_asked [] columns st chained = (refl, omega arith)
  top_asked (l ∷ ls) [] st chained = absurd st
  top_asked (l ∷ ls) (column ∷ columns) st chained = (laws.parents l 1 0 st.0.has_parents (omega arith), omega arith)

  top : (ls : List L) (columns : List Column) → Stacked means count ls columns (λ i. 0) 1 → AreChained means false ls
      → AreSorted means count ls columns (λ i. i < count)
      → Here ls columns (λ i. 0) 1 false (one 0) (λ i. i < count) (λ i. i < count)
  top ls columns st chained sorted = record {
    stacked = st;
    chained = chained;
    sorted = sorted;
    within = λ i h. omega arith;
    asked = top_asked ls columns st chained;
    those = record { into = λ i h _. h; back = λ i h _. (omega arith, omega arith) };
    alike = λ i more a b. a;
  }

  tells : (ls : List L) (columns : List Column) → Stacked means count ls columns (λ i. 0) 1 → AreChained means false ls
      → AreSorted means count ls columns (λ i. i < count) → TellsPaths means count ls columns
  tells ls columns st chained sorted =
      let h = top ls columns st chained sorted in
      record {
        nested = nested ls columns (λ i. 0) 1 false (one 0) (λ i. i < count) (λ i. i < count) h;
        own = λ i less. own_path ls columns (λ i. 0) 1 false (one 0) (λ i. i < count) (λ i. i < count) i h less (omega arith, omega arith);
        made = λ xs pos p. path_is ls columns (λ i. 0) 1 false (one 0) (λ i. i < count) (λ i. i < count) xs pos h p;
        there = λ xs p. path_there ls columns (λ i. 0) 1 false (one 0) (λ i. i < count) (λ i. i < count) xs h p;
        once = λ xs pos other p q. path_once ls columns (λ i. 0) 1 false (one 0) (λ i. i < count) (λ i. i < count) xs pos other h p q;
        within = λ xs pos p. path_within ls columns (λ i. 0) 1 false (one 0) (λ i. i < count) (λ i. i < count) xs pos h p;
        placed = λ xs pos i p less is. place_to ls columns (λ i. 0) 1 false (one 0) (λ i. i < count) (λ i. i < count) xs pos i h p less
            (omega arith, omega arith) is;
        back =
            λ xs pos i p less is. (place_from ls columns (λ i. 0) 1 false (one 0) (λ i. i < count) (λ i. i < count) xs pos i h p less is).1;
      }

pub stacks_tell_paths : {L : Type 0} (means : Meaning L) → Laws means → StacksTellPaths means
stacks_tell_paths means laws count ls columns st chained sorted = tells means laws count ls columns st chained sorted
