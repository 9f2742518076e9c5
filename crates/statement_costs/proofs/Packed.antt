-- In packed storages each coordinate has a position, wherever a path leads.
use Rattle.std.specs.Prelude.{◌≡◌, ◌⊎◌, ℕ, zero, suc, ◌≤◌, ◌<◌, List, [], ◌∷◌, length, Some, None, slice_get, slice_index}
use Rattle.std.specs.Prelude.{refl}
use Rattle.std.proofs.Common.{◌∙◌, sym, ap, subst, arith, inl, inr}
use Rattle.numbers.specs.Arithmetic.{Arithmetic}
use Rattle.level_core.specs.declared.span.Span.{Span}
use Rattle.level_core.specs.declared.span.Entry.{Entry}
use Rattle.level_core.specs.Entries.{Placed, one}
use Rattle.format_spec.specs.declared.format.FormatLevel.{FormatLevel}
use Rattle.format_spec.specs.Formats.{modes_of}
use Rattle.index_notation.specs.declared.syntax.Access.{Access}
use Rattle.index_notation.specs.declared.syntax.Statement.{Statement}
use Rattle.iteration_graph.specs.Edges.{format_of}
use Rattle.lists.specs.Each.{Each}
use Rattle.concrete_notation.specs.Contributions.{Inputs}
use Rattle.tensor_storage.specs.Children.{child_of}
use Rattle.tensor_storage.specs.Laws.{laws}
use Rattle.tensor_storage.specs.declared.level.StorageLevel.{StorageLevel}
use Rattle.tensor_storage.specs.Levels.{entries_of, meaning}
use Rattle.tensor_storage.specs.Storages.{Storage, IsOpen}
use Rattle.tensor_storage.proofs.Children.{child_is}
use Rattle.loop_code.specs.Loops.{follow}
use Rattle.lowering.specs.Held.{path_span}
use Rattle.lowering.specs.Layouts.{layout_of, variables_of}
use Rattle.lowering.specs.Stored.{HasStorage, entries_behind, levels_stored, stored_of}
use Rattle.lowering.specs.Sums.{HasSums, first_sum}
use Rattle.lowering.proofs.HeldStorages.{map_long, some_or_none}
use Rattle.lowering.proofs.Standing.{none_behind}
use Rattle.statement_costs.specs.Costs.{HaveGroups}

-- the levels behind so many
abbrev behind : ℕ → List StorageLevel → List StorageLevel
behind zero levels = levels
behind (suc depth) [] = []
behind (suc depth) (l ∷ levels) = behind depth levels

placed_each : (low high : ℕ) (es : List Entry) → Placed low high es → Each (λ (e : Entry). e.child.lo < e.child.hi) es
placed_each low high [] h = tt
placed_each low high (e ∷ es) h = (h.1, placed_each e.child.hi high es h.2)

-- what is so below a span that may be asked of the level behind so many
record IsAsked (levels : List StorageLevel) (positions depth : ℕ) (p : Span) : Type 0 where
  full_children : Each (λ (e : Entry). e.child.lo < e.child.hi) (entries_behind levels depth p)
  opened : (x : ℕ) (q : Span) → child_of (entries_behind levels depth p) x ≡ Some q
      → IsOpen meaning (behind (suc depth) levels) positions q

asked : (levels : List StorageLevel) (positions depth : ℕ) (p : Span) → depth < length levels
    → IsOpen meaning (behind depth levels) positions p → IsAsked levels positions depth p
asked [] positions depth p l o = absurd (omega (arith, l))
asked (level ∷ levels) positions zero p l o =
    let all = laws.entries level p o.0 in
    record {
      full_children = placed_each (meaning.segment_of level p).lo (meaning.segment_of level p).hi (entries_of level p) all.placed;
      opened = λ x q h. let k = child_is x q (entries_of level p) h in subst (IsOpen meaning levels positions) k.is (o.1 k.entry k.stands);
    }
asked (level ∷ levels) positions (suc depth) p l o =
    let more = asked levels positions depth p (omega (arith, l)) o in record { full_children = more.full_children; opened = more.opened }

same_some : (p q : Span) → Some p ≡ Some q → p ≡ q
same_some p q h = cc

none_some : {A : Type 0} (q : Span) → None ≡ Some q → A
none_some q h = absurd (apart h)
  where
    apart : None ≡ Some q → ⊥
    apart e = cc

before_or_behind : (k n : ℕ) → (k < n) ⊎ (n ≤ k)
before_or_behind k n = grind arith

module _ (a : Arithmetic) (s : Statement) (formats : List (List FormatLevel)) (storages : ℕ → Storage) (inputs : Inputs) where
  module _ (k : ℕ) (access : Access) (is : slice_get s.accesses k ≡ Some access) (has : HasStorage a formats storages inputs access) where
    abbrev levels : List StorageLevel
    levels = (storages access.tensor).levels

    abbrev positions : ℕ
    positions = length (storages access.tensor).values

    entries_are : (depth : ℕ) (p : Span) → (stored_of s storages).entries k (suc depth) p ≡ entries_behind levels depth p
    entries_are depth p = ap (λ o. entries_behind (levels_stored storages o) depth p) is

    levels_are : (layout_of s formats).levels k ≡ length levels
    levels_are =
        ap (λ o. length (variables_of formats o)) is
        ∙ map_long (slice_index access.vars) (modes_of (format_of formats access.tensor))
        ∙ map_long (λ (l : FormatLevel). l.mode) (format_of formats access.tensor) ∙ ap length (sym has.format)
        ∙ sym (map_long (λ (l : FormatLevel). l.letter) (storages access.tensor).format) ∙ ap length (sym has.storage.letters)
        ∙ map_long meaning.kind levels

    -- where a path leads the next level may be asked
    path_open : (point : ℕ → ℕ) (depth : ℕ) → depth ≤ length levels → (p : Span)
        → path_span (layout_of s formats) (stored_of s storages) k depth point ≡ Some p → IsOpen meaning (behind depth levels) positions p
    path_open point zero l p h = subst (IsOpen meaning levels positions) (same_some (one 0) p h) has.storage.opened
    path_open point (suc depth) l q h =
        by (path_open point depth (omega (arith, l)))
        (some_or_none (path_span (layout_of s formats) (stored_of s storages) k depth point))
      where
        x : ℕ
        x = point ((layout_of s formats).variable k (suc depth))

        by : ((p : Span) → path_span (layout_of s formats) (stored_of s storages) k depth point ≡ Some p
            → IsOpen meaning (behind depth levels) positions p)
            → ((p : Span) × (path_span (layout_of s formats) (stored_of s storages) k depth point ≡ Some p))
            ⊎ (path_span (layout_of s formats) (stored_of s storages) k depth point ≡ None)
            → IsOpen meaning (behind (suc depth) levels) positions q
        by more (inl p) =
            (asked levels positions depth p.0 (omega (arith, l)) (more p.0 p.1)).opened x q
            (sym (ap (λ es. child_of es x) (entries_are depth p.0))
            ∙ sym (ap (λ o. follow o (λ r. child_of ((stored_of s storages).entries k (suc depth) r) x)) p.1) ∙ h)
        by more (inr none) =
            none_some q (sym (ap (λ o. follow o (λ r. child_of ((stored_of s storages).entries k (suc depth) r) x)) none) ∙ h)

    groups_here : (depth : ℕ) (point : ℕ → ℕ) (p : Span) → depth < (layout_of s formats).levels k
        → path_span (layout_of s formats) (stored_of s storages) k depth point ≡ Some p
        → Each (λ (e : Entry). e.child.lo < e.child.hi) ((stored_of s storages).entries k (suc depth) p)
    groups_here depth point p below h =
        let within : depth < length levels = subst (λ n. depth < n) levels_are below in
        subst (Each (λ (e : Entry). e.child.lo < e.child.hi)) (sym (entries_are depth p))
        (asked levels positions depth p within (path_open point depth (omega (arith, within)) p h)).full_children

  of_number : (accesses : List Access) (k : ℕ) → Each (HasStorage a formats storages inputs) accesses → k < length accesses
      → (access : Access) × (slice_get accesses k ≡ Some access) × HasStorage a formats storages inputs access
  of_number [] k each l = absurd (omega (arith, l))
  of_number (x ∷ accesses) zero each l = (x, refl, each.0)
  of_number (x ∷ accesses) (suc k) each l = of_number accesses k each.1 (omega (arith, l))

  pub packed_groups : Each (HasStorage a formats storages inputs) s.accesses → HaveGroups s formats (stored_of s storages)
  packed_groups each k depth point p below within many h =
      let found = of_number s.accesses k each below in groups_here k found.0 found.1 found.2 depth point p within h

  -- a sum has no level, so it is enough that the other accesses have storages
  pub real_groups : HasSums s formats
      → ((k : ℕ) → k < first_sum s
      → (access : Access) × (slice_get s.accesses k ≡ Some access) × HasStorage a formats storages inputs access)
      → HaveGroups s formats (stored_of s storages)
  real_groups sums each k depth point p below within many h = by (before_or_behind k (first_sum s))
    where
      by : (k < first_sum s) ⊎ (first_sum s ≤ k) → Each (λ (e : Entry). e.child.lo < e.child.hi)
          ((stored_of s storages).entries k (suc depth) p)
      by (inl before) = let found = each k before in groups_here k found.0 found.1 found.2 depth point p within h
      by (inr behind) = let none = none_behind s formats sums k behind in absurd (omega (arith, none, within))
