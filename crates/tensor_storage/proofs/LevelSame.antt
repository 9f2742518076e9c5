-- Two levels that store the same rows are held by the same arrays, and the rows have the same places.
use Rattle.std.specs.Prelude.{◌≡◌, ◌⊎◌, ℕ, zero, suc, ◌+◌, ◌-◌, ◌≤◌, ◌<◌, Bool, true, false, Some, None, refl}
use Rattle.std.proofs.Common.{◌∙◌, sym, ap, subst, arith, inl, inr}
use Rattle.std.proofs.lemmas.Bool.{cases_order}
use Rattle.kernel_code.specs.Widths.{slot_width}
use Rattle.level_core.specs.declared.letter.Letter.{Letter}
use Rattle.level_core.specs.Entries.{IsIn, Placed, coord_at, position_of, one, span as the_span}
use Rattle.level_core.specs.Orders.{IsAfterSmaller}
use Rattle.level_core.specs.Kinds.{properties, capabilities, AreEntries}
use Rattle.level_core.specs.Meaning.{Meaning, AgreeBelow}
use Rattle.level_core.specs.Laws.{Laws}
use Rattle.level_core.proofs.EntryLaws.{placed_within}
use Rattle.level_core.proofs.KindLaws.{are_of_a_kind, appended_ordered, appended_stored, inserted_else}
use Rattle.level_core.proofs.Orders.{position_coord, coord_position}
use Rattle.level_rows.specs.Rows.{place}
use Rattle.level_rows.specs.Stacks.{Column}
use Rattle.level_rows.specs.Taken.{Asked}
use Rattle.tensor_storage.specs.Built.{IsBuilt}
use Rattle.tensor_storage.specs.Counts.{greatest_below}
use Rattle.tensor_storage.specs.Tables.{Table}
use Rattle.tensor_storage.proofs.EntrySame.{entries_same, tiles_coord, coord_inside, upward, full_is, coord_into, options_same}

compact_kinds : (letter : Letter) → (capabilities letter).append ≡ true
    → ((properties letter).compact ≡ true) × ((properties letter).full ≡ false) × ((properties letter).ordered ≡ true)
compact_kinds letter appends =
    let ordered = appended_ordered letter appends in
    ((are_of_a_kind letter).ordered_compact ordered, appended_stored letter appends, ordered)

full_kinds : (letter : Letter) → (properties letter).full ≡ true
    → ((properties letter).ordered ≡ true) × ((properties letter).unique ≡ true) × ((properties letter).compact ≡ true)
full_kinds letter full =
    let kind = are_of_a_kind letter in
    let ordered = kind.full_ordered full in
    (ordered, kind.inserted_unique (kind.full_inserted full), kind.ordered_compact ordered)

slot_kinds : (letter : Letter) → (capabilities letter).append ≡ false → (properties letter).full ≡ false
    → ((properties letter).ordered ≡ false) × ((properties letter).unique ≡ true)
slot_kinds letter never stored =
    let inserts = inserted_else letter never in
    ((are_of_a_kind letter).inserted_unordered inserts stored, (are_of_a_kind letter).inserted_unique inserts)

inserted_kinds : (letter : Letter) → (capabilities letter).append ≡ false → (properties letter).unique ≡ true
inserted_kinds letter never = (are_of_a_kind letter).inserted_unique (inserted_else letter never)

same_some : (a b : ℕ) → Some a ≡ Some b → a ≡ b
same_some a b e = cc

-- one of two levels
module _ {L : Type 0} (means : Meaning L) (laws : Laws means) (table : Table) (d n : ℕ) (parents : ℕ) (parent : ℕ → ℕ) (column : Column)
    (l : L) (built : IsBuilt means table d n parent parents column l)
    (within : (i : ℕ) → i < table.count → parent i < parents) where
  pub asked : (p : ℕ) → p < parents → Asked means l parents (one p)
  asked p h = (laws.parents l parents p built.stores.has_parents h, omega (arith, h))

  pub are : (p : ℕ) → p < parents → AreEntries (properties (means.kind l)) (means.size l) (one p) (means.segment_of l (one p))
      (means.entries l (one p))
  are p h = laws.entries l (one p) (asked p h).0

  -- a row's coordinate stands at its place below its parent
  pub row_coord : (i : ℕ) → i < table.count → coord_at (means.entries l (one (parent i))) (column.place i) ≡ Some (table.coords d i)
  row_coord i h = built.stores.stands.has (one (parent i)) i (asked (parent i) (within i h)) h (omega arith, omega arith)
      ∙ ap (λ f. Some (f i)) built.coord

  pub row_inside : (i : ℕ) → i < table.count → IsIn (column.place i) (means.segment_of l (one (parent i)))
  row_inside i h =
      let k = coord_inside (means.segment_of l (one (parent i))).lo (means.segment_of l (one (parent i))).hi (column.place i)
      (table.coords d i) (means.entries l (one (parent i))) (are (parent i) (within i h)).placed (row_coord i h) in
      (k.0, k.1)

  -- what is stored at a position is a row's
  pub stored_row : (properties (means.kind l)).full ≡ false → (p q x : ℕ) → p < parents → coord_at (means.entries l (one p)) q ≡ Some x
      → (i : ℕ) × (i < table.count) × (column.place i ≡ q) × (parent i ≡ p) × (table.coords d i ≡ x)
  stored_row sparse p q x h at =
      let inside = coord_inside (means.segment_of l (one p)).lo (means.segment_of l (one p)).hi q x (means.entries l (one p))
      (are p h).placed at in
      let r = built.stores.stands.only sparse (one p) q x (asked p h) (inside.0, inside.1) at in
      let below = built.stores.stands.alone (one p) r.0 (asked p h) r.1
      (subst (λ s. IsIn s (means.segment_of l (one p))) (sym r.2) (inside.0, inside.1)) in
      let lo = below.0 in let hi = below.1 in
      let same : parent r.0 ≡ p = omega (arith, lo, hi) in (
        r.0,
        r.1,
        r.2,
        same,
        same_some (table.coords d r.0) x
            (sym (row_coord r.0 r.1) ∙ ap (λ q'. coord_at (means.entries l (one q')) (column.place r.0)) same
            ∙ ap (coord_at (means.entries l (one p))) r.2 ∙ at),
      )

  pub rise : (p : ℕ) → p < parents → (means.segment_of l (one p)).lo ≤ (means.segment_of l (one p)).hi
  rise p h = placed_within (means.segment_of l (one p)).lo (means.segment_of l (one p)).hi (means.entries l (one p)) (are p h).placed

-- what is known of one level carries over to the other
record Carries {L : Type 0} (means : Meaning L) (parents : ℕ) (l m : L) : Type 0 where
  into : (p q x : ℕ) → p < parents → coord_at (means.entries l (one p)) q ≡ Some x → coord_at (means.entries m (one p)) q ≡ Some x

-- of a level that is appended to
carries_appended : {L : Type 0} (means : Meaning L) (laws : Laws means) (table : Table) (d n parents : ℕ) (lp mp : ℕ → ℕ) (lc mc : Column)
    (l m : L) (a : IsBuilt means table d n lp parents lc l) (b : IsBuilt means table d n mp parents mc m)
    → ((i : ℕ) → i < table.count → lp i < parents) → ((i : ℕ) → i < table.count → mp i < parents)
    → ((i : ℕ) → i < table.count → lp i ≡ mp i)
    → (capabilities (means.kind l)).append ≡ true → (capabilities (means.kind m)).append ≡ true → Carries means parents l m
carries_appended means laws table d n parents lp mp lc mc l m a b lw mw same la ma = record {
  into = λ p q x h at.
      let r = stored_row means laws table d n parents lp lc l a lw (compact_kinds (means.kind l) la).1 p q x h at in
      let places : mc.place r.0 ≡ q = b.numbered ma r.0 r.1 ∙ ap (λ f. place f r.0) (b.first ∙ sym a.first) ∙ sym (a.numbered la r.0 r.1)
      ∙ r.2 in
      let below : mp r.0 ≡ p = sym (same r.0 r.1) ∙ r.3 in
      ap (coord_at (means.entries m (one p))) (sym places) ∙ ap (λ p'. coord_at (means.entries m (one p')) (mc.place r.0)) (sym below)
      ∙ row_coord means laws table d n parents mp mc m b mw r.0 r.1 ∙ ap Some r.4;
}

-- a pair of levels of one kind and range
module _ {L : Type 0} (means : Meaning L) (laws : Laws means)
    (plain : (l : L) → (properties (means.kind l)).ordered ≡ true → means.width l ≡ None) (table : Table) (d n : ℕ) (parents : ℕ)
    (lp mp : ℕ → ℕ) (lc mc : Column) (l m : L)
    (a : IsBuilt means table d n lp parents lc l) (b : IsBuilt means table d n mp parents mc m)
    (lw : (i : ℕ) → i < table.count → lp i < parents) (mw : (i : ℕ) → i < table.count → mp i < parents)
    (same : (i : ℕ) → i < table.count → lp i ≡ mp i)
    (kinds : means.kind m ≡ means.kind l) (sizes : means.size m ≡ means.size l) where
  l_are : (p : ℕ) → p < parents → AreEntries (properties (means.kind l)) (means.size l) (one p) (means.segment_of l (one p))
      (means.entries l (one p))
  l_are = are means laws table d n parents lp lc l a lw

  m_are : (p : ℕ) → p < parents → AreEntries (properties (means.kind l)) (means.size l) (one p) (means.segment_of m (one p))
      (means.entries m (one p))
  m_are p h = subst (λ s. AreEntries (properties (means.kind l)) s (one p) (means.segment_of m (one p)) (means.entries m (one p))) sizes
      (subst (λ k. AreEntries (properties k) (means.size m) (one p) (means.segment_of m (one p)) (means.entries m (one p))) kinds
      (are means laws table d n parents mp mc m b mw p h))

  l_asked : (p : ℕ) → p < parents → means.allowed l (one p)
  l_asked p h = (asked means laws table d n parents lp lc l a lw p h).0

  m_asked : (p : ℕ) → p < parents → means.allowed m (one p)
  m_asked p h = (asked means laws table d n parents mp mc m b mw p h).0

  -- segments in a row are the same if each ends alike where it begins alike
  segments : ((p : ℕ) → p < parents → (means.segment_of l (one p)).lo ≡ (means.segment_of m (one p)).lo
      → (means.segment_of l (one p)).hi ≡ (means.segment_of m (one p)).hi)
      → (p : ℕ) → p < parents → means.segment_of m (one p) ≡ means.segment_of l (one p)
  segments ends p h = ap (λ lo. the_span lo (means.segment_of m (one p)).hi) (sym (los p h))
      ∙ ap (the_span (means.segment_of l (one p)).lo) (sym (ends p h (los p h)))
    where
      los : (p : ℕ) → p < parents → (means.segment_of l (one p)).lo ≡ (means.segment_of m (one p)).lo
      los zero h = (laws.in_row l).first (one 0) (l_asked 0 h) refl ∙ sym ((laws.in_row m).first (one 0) (m_asked 0 h) refl)
      los (suc p) h =
          let before : p < parents = omega (arith, h) in
          let next : p + 1 ≡ suc p = omega arith in
          sym ((laws.in_row l).next (one p) (one (suc p)) (l_asked p before) (l_asked (suc p) h) next) ∙ ends p before (los p before)
          ∙ (laws.in_row m).next (one p) (one (suc p)) (m_asked p before) (m_asked (suc p) h) next

  -- entries are the same if the same coordinates stand at each position
  entries_by : Carries means parents l m → Carries means parents m l → (p : ℕ) → p < parents
      → means.entries m (one p) ≡ means.entries l (one p)
  entries_by f g p h =
      entries_same (means.segment_of m (one p)).lo (means.segment_of m (one p)).hi (means.segment_of l (one p)).lo
      (means.segment_of l (one p)).hi (means.entries m (one p)) (means.entries l (one p)) (m_are p h).placed (l_are p h).placed
      (m_are p h).distinct
      (l_are p h).distinct (λ q. options_same (coord_at (means.entries m (one p)) q) (coord_at (means.entries l (one p)) q)
      (λ x at. g.into p q x h at) (λ x at. f.into p q x h at))

  agree : ((p : ℕ) → p < parents → means.segment_of m (one p) ≡ means.segment_of l (one p))
      → ((p : ℕ) → p < parents → means.entries m (one p) ≡ means.entries l (one p)) → means.width m ≡ means.width l
      → AgreeBelow means parents l m
  agree s e w = record { kind = kinds; size = sizes; width = w; segments = s; entries = e }

  ordered_m : (b' : Bool) → (properties (means.kind l)).ordered ≡ b' → (properties (means.kind m)).ordered ≡ b'
  ordered_m b' is = ap (λ k. (properties k).ordered) kinds ∙ is

  -- where the level is appended to, each position of a segment is a row's
  by_append : (capabilities (means.kind l)).append ≡ true → AgreeBelow means parents l m
  by_append la = agree (segments ends) (entries_by f g)
      (plain m (ordered_m true (compact_kinds (means.kind l) la).2) ∙ sym (plain l (compact_kinds (means.kind l) la).2))
    where
      ma : (capabilities (means.kind m)).append ≡ true
      ma = ap (λ k. (capabilities k).append) kinds ∙ la

      f : Carries means parents l m
      f = carries_appended means laws table d n parents lp mp lc mc l m a b lw mw same la ma

      g : Carries means parents m l
      g = carries_appended means laws table d n parents mp lp mc lc m l b a mw lw (λ i h. sym (same i h)) ma la

      ends : (p : ℕ) → p < parents → (means.segment_of l (one p)).lo ≡ (means.segment_of m (one p)).lo
          → (means.segment_of l (one p)).hi ≡ (means.segment_of m (one p)).hi
      ends p h lo = by_order (cases_order (means.segment_of l (one p)).hi (means.segment_of m (one p)).hi)
        where
          by_order : ((means.segment_of l (one p)).hi ≡ (means.segment_of m (one p)).hi)
              ⊎ (((means.segment_of l (one p)).hi < (means.segment_of m (one p)).hi)
              ⊎ ((means.segment_of m (one p)).hi < (means.segment_of l (one p)).hi))
              → (means.segment_of l (one p)).hi ≡ (means.segment_of m (one p)).hi
          by_order (inl is) = is
          by_order (inr (inl less)) =
              let up = rise means laws table d n parents lp lc l a lw p h in
              let k = tiles_coord (means.segment_of m (one p)).lo (means.segment_of m (one p)).hi (means.segment_of l (one p)).hi
              (means.entries m (one p)) ((m_are p h).properties.compact (compact_kinds (means.kind l) la).0)
              (omega (arith, up, lo)) less in
              let inside = coord_inside (means.segment_of l (one p)).lo (means.segment_of l (one p)).hi (means.segment_of l (one p)).hi k.0
              (means.entries l (one p)) (l_are p h).placed (g.into p (means.segment_of l (one p)).hi k.0 h k.1) in
              let before = inside.1 in absurd (omega (arith, before))
          by_order (inr (inr less)) =
              let up = rise means laws table d n parents mp mc m b mw p h in
              let k = tiles_coord (means.segment_of l (one p)).lo (means.segment_of l (one p)).hi (means.segment_of m (one p)).hi
              (means.entries l (one p)) ((l_are p h).properties.compact (compact_kinds (means.kind l) la).0)
              (omega (arith, up, lo)) less in
              let inside = coord_inside (means.segment_of m (one p)).lo (means.segment_of m (one p)).hi (means.segment_of m (one p)).hi k.0
              (means.entries m (one p)) (m_are p h).placed (f.into p (means.segment_of m (one p)).hi k.0 h k.1) in
              let before = inside.1 in absurd (omega (arith, before))

  -- where it is full, each coordinate below the range stands there in order
  by_full : (properties (means.kind l)).full ≡ true → AgreeBelow means parents l m
  by_full full = agree same_segments
      (λ p h. (m_full p h).0 ∙ ap (λ s. upward (means.size l - 0) 0 s.lo) (same_segments p h)
      ∙ sym (l_full p h).0) (plain m (ordered_m true (full_kinds (means.kind l) full).0)
      ∙ sym (plain l (full_kinds (means.kind l) full).0))
    where
      l_full : (p : ℕ) → p < parents → (means.entries l (one p) ≡ upward (means.size l - 0) 0 (means.segment_of l (one p)).lo)
          × ((means.segment_of l (one p)).hi ≡ (means.segment_of l (one p)).lo + (means.size l - 0))
      l_full p h = full_is (means.segment_of l (one p)).lo (means.segment_of l (one p)).hi 0 (means.size l) (means.entries l (one p))
          ((l_are p h).properties.compact (full_kinds (means.kind l) full).2) ((l_are p h).properties.unique
          (full_kinds (means.kind l) full).1)
          ((l_are p h).properties.ordered (full_kinds (means.kind l) full).0) (l_are p h).below
          (λ x from less. (l_are p h).properties.full full x less) (omega arith)

      m_full : (p : ℕ) → p < parents → (means.entries m (one p) ≡ upward (means.size l - 0) 0 (means.segment_of m (one p)).lo)
          × ((means.segment_of m (one p)).hi ≡ (means.segment_of m (one p)).lo + (means.size l - 0))
      m_full p h = full_is (means.segment_of m (one p)).lo (means.segment_of m (one p)).hi 0 (means.size l) (means.entries m (one p))
          ((m_are p h).properties.compact (full_kinds (means.kind l) full).2) ((m_are p h).properties.unique
          (full_kinds (means.kind l) full).1)
          ((m_are p h).properties.ordered (full_kinds (means.kind l) full).0) (m_are p h).below
          (λ x from less. (m_are p h).properties.full full x less) (omega arith)

      same_segments : (p : ℕ) → p < parents → means.segment_of m (one p) ≡ means.segment_of l (one p)
      same_segments = segments (λ p h lo. let e = (l_full p h).1 in let f = (m_full p h).1 in omega (arith, e, f, lo))

  -- where coordinates stand without order, each is sought past smaller ones alone
  by_slots : (capabilities (means.kind l)).append ≡ false → (properties (means.kind l)).full ≡ false → AgreeBelow means parents l m
  by_slots la sparse = agree same_segments (entries_by f g) (b.width (ordered_m false loose) ∙ sym (a.width loose))
    where
      loose : (properties (means.kind l)).ordered ≡ false
      loose = (slot_kinds (means.kind l) la sparse).0

      unique : (properties (means.kind l)).unique ≡ true
      unique = (slot_kinds (means.kind l) la sparse).1

      sparse_m : (properties (means.kind m)).full ≡ false
      sparse_m = ap (λ k. (properties k).full) kinds ∙ sparse

      same_segments : (p : ℕ) → p < parents → means.segment_of m (one p) ≡ means.segment_of l (one p)
      same_segments = segments (λ p h lo.
          let e = laws.wide l (slot_width (greatest_below table.coords d table.count table.count)) (one p) (a.width loose) (l_asked p h) in
          let f = laws.wide m (slot_width (greatest_below table.coords d table.count table.count)) (one p) (b.width (ordered_m false loose))
          (m_asked p h) in
          omega (arith, e, f, lo))

      l_to : (p : ℕ) → p < parents → (x pos : ℕ) → position_of (means.entries l (one p)) x ≡ Some pos
          → (q : ℕ) × (position_of (means.entries m (one p)) x ≡ Some q)
      l_to p h x pos at =
          let r = stored_row means laws table d n parents lp lc l a lw sparse p pos x h
          (position_coord (means.segment_of l (one p)).lo (means.segment_of l (one p)).hi x pos (means.entries l (one p))
          (l_are p h).placed at).0 in
          let below : mp r.0 ≡ p = sym (same r.0 r.1) ∙ r.3 in (
            mc.place r.0,
            coord_position x (mc.place r.0) (means.entries m (one p)) (m_are p h).distinct ((m_are p h).properties.unique unique)
                (ap (λ p'. coord_at (means.entries m (one p')) (mc.place r.0)) (sym below)
                ∙ row_coord means laws table d n parents mp mc m b mw r.0 r.1 ∙ ap Some r.4),
          )

      m_to : (p : ℕ) → p < parents → (x pos : ℕ) → position_of (means.entries m (one p)) x ≡ Some pos
          → (q : ℕ) × (position_of (means.entries l (one p)) x ≡ Some q)
      m_to p h x pos at =
          let r = stored_row means laws table d n parents mp mc m b mw sparse_m p pos x h
          (position_coord (means.segment_of m (one p)).lo (means.segment_of m (one p)).hi x pos (means.entries m (one p))
          (m_are p h).placed at).0 in
          let below : lp r.0 ≡ p = same r.0 r.1 ∙ r.3 in (
            lc.place r.0,
            coord_position x (lc.place r.0) (means.entries l (one p)) (l_are p h).distinct ((l_are p h).properties.unique unique)
                (ap (λ p'. coord_at (means.entries l (one p')) (lc.place r.0)) (sym below)
                ∙ row_coord means laws table d n parents lp lc l a lw r.0 r.1 ∙ ap Some r.4),
          )

      m_placed : (p : ℕ) → p < parents → Placed (means.segment_of l (one p)).lo (means.segment_of l (one p)).hi (means.entries m (one p))
      m_placed p h = subst (λ s. Placed s.lo s.hi (means.entries m (one p))) (same_segments p h) (m_are p h).placed

      m_order : (p : ℕ) → p < parents → (x pos : ℕ) → position_of (means.entries m (one p)) x ≡ Some pos
          → IsAfterSmaller (means.segment_of l (one p)) (means.entries m (one p)) x pos
      m_order p h x pos at = subst (λ s. IsAfterSmaller s (means.entries m (one p)) x pos) (same_segments p h)
          (b.order (ordered_m false loose) p h x pos at)

      f : Carries means parents l m
      f = record {
        into = λ p q x h at. coord_into (means.segment_of l (one p)) (means.entries l (one p)) (means.entries m (one p)) (l_are p h).placed
            (m_placed p h) (l_are p h).distinct (m_are p h).distinct ((l_are p h).properties.unique unique)
            ((m_are p h).properties.unique unique) (l_to p h) (λ y pos. a.order loose p h y pos) (m_order p h) (m_to p h) q x at;
      }

      g : Carries means parents m l
      g = record {
        into = λ p q x h at. coord_into (means.segment_of l (one p)) (means.entries m (one p)) (means.entries l (one p)) (m_placed p h)
            (l_are p h).placed (m_are p h).distinct (l_are p h).distinct ((m_are p h).properties.unique unique)
            ((l_are p h).properties.unique unique) (m_to p h) (m_order p h) (λ y pos. a.order loose p h y pos) (l_to p h) q x at;
      }

  pub levels_agree : AgreeBelow means parents l m
  levels_agree = by_kind (capabilities (means.kind l)).append (properties (means.kind l)).full refl refl
    where
      by_kind : (x y : Bool) → (capabilities (means.kind l)).append ≡ x → (properties (means.kind l)).full ≡ y
          → AgreeBelow means parents l m
      by_kind true y la full = by_append la
      by_kind false true la full = by_full full
      by_kind false false la full = by_slots la full

  pub places_same : (i : ℕ) → i < table.count → lc.place i ≡ mc.place i
  places_same i h = by_kind (capabilities (means.kind l)).append refl
    where
      by_kind : (x : Bool) → (capabilities (means.kind l)).append ≡ x → lc.place i ≡ mc.place i
      by_kind true la = a.numbered la i h ∙ ap (λ f. place f i) (a.first ∙ sym b.first)
          ∙ sym (b.numbered (ap (λ k. (capabilities k).append) kinds ∙ la) i h)
      by_kind false la =
          let es = means.entries l (one (lp i)) in
          let within = lw i h in
          let mine = coord_position (table.coords d i) (lc.place i) es (l_are (lp i) within).distinct
          ((l_are (lp i) within).properties.unique (inserted_kinds (means.kind l) la)) (row_coord means laws table d n parents lp lc l a
          lw i h) in
          let there : coord_at es (mc.place i) ≡ Some (table.coords d i) =
          ap (λ gs. coord_at gs (mc.place i)) (sym (levels_agree.entries (lp i) within))
          ∙ ap (λ p. coord_at (means.entries m (one p)) (mc.place i)) (same i h)
          ∙ row_coord means laws table d n parents mp mc m b mw i h in
          let other = coord_position (table.coords d i) (mc.place i) es (l_are (lp i) within).distinct
          ((l_are (lp i) within).properties.unique (inserted_kinds (means.kind l) la)) there in
          same_some (lc.place i) (mc.place i) (sym mine ∙ other)
