-- What storages of the operands' tensors hold is what the operands tell.
use Rattle.std.specs.Prelude.{◌≡◌, ◌⊎◌, ℕ, zero, suc, ◌+◌, ◌<◌, ◌≤◌, nat_lt, true, false, List}
use Rattle.std.specs.Prelude.{[], ◌∷◌, length, map, drop, Option, Some, None, slice_get, slice_index, slice_index_or, refl}
use Rattle.std.proofs.Common.{◌∙◌, sym, ap, subst, arith, inl, inr, get_or}
use Rattle.std.proofs.lemmas.Bool.Decides.{nat_tests}
use Rattle.numbers.specs.Arithmetic.{Arithmetic}
use Rattle.level_core.specs.declared.letter.Letter.TheVariants.{Dense}
use Rattle.level_core.specs.declared.span.Span.{Span}
use Rattle.level_core.specs.Entries.{one}
use Rattle.format_spec.specs.declared.format.FormatLevel.{FormatLevel}
use Rattle.format_spec.specs.Formats.{modes_of}
use Rattle.index_notation.specs.declared.syntax.Access.{Access}
use Rattle.index_notation.specs.declared.syntax.Statement.{Statement}
use Rattle.expr_terms.specs.Value.{access_value_or_zero}
use Rattle.expr_terms.specs.ValueLaws.{AreWords}
use Rattle.iteration_graph.specs.Edges.{by_level, format_of}
use Rattle.lists.specs.Each.{Each}
use Rattle.workspaces.specs.Presence.{access_is_present, TellsPart}
use Rattle.level_rows.specs.Stacks.{Path}
use Rattle.tensor_storage.specs.Children.{child_of}
use Rattle.tensor_storage.specs.Laws.{laws}
use Rattle.tensor_storage.specs.declared.level.StorageLevel.{StorageLevel}
use Rattle.tensor_storage.specs.Levels.{entries_of, meaning}
use Rattle.tensor_storage.specs.Storages.{Storage, in_level_order}
use Rattle.tensor_storage.proofs.Paths.{Reached, none_reached, coordinate_left, next_reached, none_further, path_ends, mode_below}
use Rattle.concrete_notation.specs.Contributions.{Inputs}
use Rattle.loop_code.specs.Loops.{follow, word_of}
use Rattle.lowering.specs.Held.{path_span, path_value, AreHeld}
use Rattle.lowering.specs.Layouts.{layout_of, variables_of}
use Rattle.lowering.specs.Stored.{entries_behind, stored_of, levels_stored, values_stored, word_at, IsToldBy, HasStorage}
use Rattle.lowering.specs.Sums.{AreSummed, first_sum}

pub map_long : {X Y : Type 0} (f : X → Y) (xs : List X) → length (map f xs) ≡ length xs
map_long f [] = refl
map_long f (x ∷ xs) = ap suc (map_long f xs)

map_at : {X : Type 0} (f : X → ℕ) (xs : List X) (i d : ℕ) (e : X) → i < length xs
    → slice_index_or (map f xs) i d ≡ f (slice_index_or xs i e)
map_at f [] i d e l = absurd (omega (arith, l))
map_at f (x ∷ xs) zero d e l = refl
map_at f (x ∷ xs) (suc i) d e l = map_at f xs i d e (omega (arith, l))

-- a level, and its entries
record LevelBehind (levels : List StorageLevel) (depth : ℕ) : Type 0 where
  level : StorageLevel
  is : level ≡ get_or levels depth level
  entries : (span : Span) → entries_behind levels depth span ≡ entries_of level span

level_behind : (levels : List StorageLevel) (depth : ℕ) → depth < length levels → LevelBehind levels depth
level_behind [] depth l = absurd (omega (arith, l))
level_behind (x ∷ levels) zero l = record { level = x; is = refl; entries = λ span. refl }
level_behind (x ∷ levels) (suc depth) l =
    let b = level_behind levels depth (omega (arith, l)) in record { level = b.level; is = b.is; entries = b.entries }

below_test : (a b : ℕ) → a < b → nat_lt a b ≡ true
below_test a b h = grind (arith, nat_tests, h)

above_test : (a b : ℕ) → nat_lt (a + b) a ≡ false
above_test a b = grind (arith, nat_tests)

pub some_or_none : {X : Type 0} (o : Option X) → ((x : X) × (o ≡ Some x)) ⊎ (o ≡ None)
some_or_none None = inr refl
some_or_none (Some x) = inl (x, refl)

module _ (a : Arithmetic) (s : Statement) (formats : List (List FormatLevel)) (storages : ℕ → Storage) (inputs : Inputs) where
  module _ (k : ℕ) (real : k < first_sum s) (access : Access) (at : slice_get s.accesses k ≡ Some access)
      (has : HasStorage a formats storages inputs access)
      (point : ℕ → ℕ) where
    storage : Storage
    storage = storages access.tensor

    abbrev coords : List ℕ
    coords = map point access.vars

    abbrev xs : List ℕ
    xs = in_level_order (storages access.tensor).format (map point access.vars)

    order : length (storages access.tensor).format ≡ length access.vars
    order = ap length has.format ∙ has.order

    deep : length (storages access.tensor).levels ≡ length (storages access.tensor).format
    deep =
        sym (map_long meaning.kind (storages access.tensor).levels) ∙ ap length has.storage.letters
        ∙ map_long (λ (l : FormatLevel). l.letter) (storages access.tensor).format

    -- the path so far is followed to a span, or there is none
    abbrev Follows : ℕ → Type 0
    Follows d =
        ((span : Span) × (path_span (layout_of s formats) (stored_of s storages) k d point ≡ Some span)
        × Reached meaning (storages access.tensor).levels xs (length (storages access.tensor).values) d span)
        ⊎ ((path_span (layout_of s formats) (stored_of s storages) k d point ≡ None)
        × ((pos : ℕ) → Path meaning (storages access.tensor).levels (one 0) xs pos → ⊥))

    variable_is : (d : ℕ) (e : FormatLevel) → d < length (storages access.tensor).format
        → point ((layout_of s formats).variable k (suc d)) ≡ slice_index (map point access.vars) (get_or
        (storages access.tensor).format d e).mode
    variable_is d e below =
        let format = (storages access.tensor).format in
        let modes : length (modes_of format) ≡ length format = map_long (λ (l : FormatLevel). l.mode) format in
        let mode = mode_below format has.storage.format d e below in
        let same : slice_index_or (modes_of format) d 0 ≡ (get_or format d e).mode = map_at (λ
        (l : FormatLevel). l.mode) format d 0 e below in
        ap (λ o. point (slice_index_or (variables_of formats o) d 0)) at
        ∙ ap (λ f. point (slice_index_or (by_level f access.vars) d 0)) (sym has.format)
        ∙ ap point (map_at (slice_index access.vars) (modes_of format) d 0 0 (omega (arith, modes, below)))
        ∙ ap (λ m. point (slice_index access.vars m)) same
        ∙ sym (map_at point access.vars (get_or format d e).mode 0 0 (omega (arith, mode, order)))

    next : (d : ℕ) → d < length (storages access.tensor).levels → Follows d → Follows (suc d)
    next d below (inr n) =
        inr (
          ap (λ o. follow o (λ p. child_of ((stored_of s storages).entries k (suc d) p) (point ((layout_of s formats).variable k
              (suc d))))) n.0,
          n.1,
        )
    next d below (inl f) = by (some_or_none (child_of (entries_of b.level f.0) x))
      where
        levels : List StorageLevel
        levels = (storages access.tensor).levels

        b : LevelBehind (storages access.tensor).levels d
        b = level_behind (storages access.tensor).levels d below

        x : ℕ
        x = point ((layout_of s formats).variable k (suc d))

        within : d < length (storages access.tensor).format
        within = omega (arith, below, deep)

        left : drop d xs ≡ x ∷ drop (suc d) xs
        left =
            coordinate_left (storages access.tensor).format (map point access.vars) d (record { letter = Dense; mode = 0 }) within
            ∙ ap (λ y. y ∷ drop (suc d) xs) (sym (variable_is d (record { letter = Dense; mode = 0 }) within))

        child : path_span (layout_of s formats) (stored_of s storages) k (suc d) point ≡ child_of (entries_of b.level f.0) x
        child =
            ap (λ o. follow o (λ p. child_of ((stored_of s storages).entries k (suc d) p) x)) f.1
            ∙ ap (λ o. child_of (entries_behind (levels_stored storages o) d f.0) x) at
            ∙ ap (λ es. child_of es x) (b.entries f.0)

        by : ((span : Span) × (child_of (entries_of b.level f.0) x ≡ Some span)) ⊎ (child_of (entries_of b.level f.0) x ≡ None)
            → Follows (suc d)
        by (inl c) =
            inl (
              c.0,
              child ∙ c.1,
              subst (λ n. Reached meaning (storages access.tensor).levels xs (length
                  (storages access.tensor).values) n c.0)
                  (let up : d + 1 ≡ suc d = omega arith in up)
                  (next_reached meaning laws (storages access.tensor).levels xs (length
                  (storages access.tensor).values) d f.0 b.level x below b.is left f.2 c.0 c.1),
            )
        by (inr c) =
            inr (
              child ∙ c,
              none_further meaning laws (storages access.tensor).levels xs (length
                  (storages access.tensor).values) d f.0 b.level x below b.is
                  left f.2 c,
            )

    followed : (d : ℕ) → d ≤ length (storages access.tensor).levels → Follows d
    followed zero l = inl (
      one 0,
      refl,
      none_reached meaning (storages access.tensor).levels xs (length
          (storages access.tensor).values) has.storage.opened,
    )
    followed (suc d) l = next d (omega (arith, l)) (followed d (omega (arith, l)))

    levels_are : (layout_of s formats).levels k ≡ length (storages access.tensor).levels
    levels_are =
        ap (λ o. length (variables_of formats o)) at
        ∙ map_long (slice_index access.vars) (modes_of (format_of formats access.tensor))
        ∙ map_long (λ (l : FormatLevel). l.mode) (format_of formats access.tensor) ∙ ap length (sym has.format) ∙ sym deep

    told : TellsPart a (access_is_present inputs.paths point (slice_get s.accesses k)) (access_value_or_zero a inputs.values point
        (slice_get s.accesses k))
        (path_value (layout_of s formats) (stored_of s storages) point k)
    told = subst (λ o. TellsPart a (access_is_present inputs.paths point o) (access_value_or_zero a inputs.values point o)
        (path_value (layout_of s formats) (stored_of s storages) point k)) (sym at)
        (by (followed (length (storages access.tensor).levels) (omega arith)))
      where
        tells : IsToldBy a inputs (storages access.tensor) access.tensor (map point access.vars)
        tells = has.told (map point access.vars) (map_long point access.vars)

        value_is : path_value (layout_of s formats) (stored_of s storages) point k
            ≡ word_of ((stored_of s storages).word k) (path_span (layout_of s formats) (stored_of s storages) k (length
            (storages access.tensor).levels) point)
        value_is = ap (λ d. word_of ((stored_of s storages).word k) (path_span (layout_of s formats)
            (stored_of s storages) k d point)) levels_are

        long : length xs ≡ length (storages access.tensor).levels
        long = map_long (λ (l : FormatLevel). slice_index (map point access.vars) l.mode) (storages access.tensor).format ∙ sym deep

        by : Follows (length (storages access.tensor).levels)
            → TellsPart a (inputs.paths access.tensor (map point access.vars)) (inputs.values access.tensor (map point access.vars))
            (path_value (layout_of s formats) (stored_of s storages) point k)
        by (inl f) =
            let end = path_ends meaning (storages access.tensor).levels xs (length (storages access.tensor).values) f.0 long f.2 in
            let t = tells.path f.0.lo end in
            subst (TellsPart a (inputs.paths access.tensor (map point access.vars)) (inputs.values access.tensor (map point access.vars)))
            (sym (value_is ∙ ap (word_of ((stored_of s storages).word k)) f.1)) (
              t.0,
              ap (λ b. word_at b (values_stored storages (slice_get s.accesses k)) f.0.lo) (below_test k (first_sum s) real)
                  ∙ ap (λ o. slice_index (values_stored storages o) f.0.lo) at ∙ t.1,
            )
        by (inr n) =
            subst (TellsPart a (inputs.paths access.tensor (map point access.vars)) (inputs.values access.tensor (map point access.vars)))
            (sym (value_is ∙ ap (word_of ((stored_of s storages).word k)) n.0)) (tells.none n.1)

  -- where the accesses of tensors have storages, and sums are told as such
  pub storages_held : AreWords inputs.values → AreSummed a s inputs
      → ((k : ℕ) → k < first_sum s
      → (access : Access) × (slice_get s.accesses k ≡ Some access) × HasStorage a formats storages inputs access)
      → AreHeld a (layout_of s formats) (stored_of s storages) s inputs
  storages_held words summed each = record {
    words = words;
    told = λ k below point. let p = each k below in told k below p.0 p.1 p.2 point;
    summed = summed;
    plain = λ n below value. ap (λ b. word_at b (values_stored storages (slice_get s.accesses (first_sum s + n))) value)
        (above_test (first_sum s) n);
  }

  -- a statement without sums has all its accesses to tensors
  pub plain_held : s.sums ≡ [] → AreWords inputs.values → Each (HasStorage a formats storages inputs) s.accesses
      → AreHeld a (layout_of s formats) (stored_of s storages) s inputs
  plain_held none words each =
      let no : length s.sums ≡ 0 = ap length none in
      storages_held words (record {
        paths = λ n below. absurd (omega (arith, below, no));
        values = λ n below. absurd (omega (arith, below, no));
        absent = λ n below. absurd (omega (arith, below, no));
      }) (λ k below. of_number s.accesses k each (omega (arith, below, no)))
    where
      of_number : (accesses : List Access) (k : ℕ) → Each (HasStorage a formats storages inputs) accesses → k < length accesses
          → (access : Access) × (slice_get accesses k ≡ Some access) × HasStorage a formats storages inputs access
      of_number [] k each l = absurd (omega (arith, l))
      of_number (x ∷ accesses) zero each l = (x, refl, each.0)
      of_number (x ∷ accesses) (suc k) each l = of_number accesses k each.1 (omega (arith, l))
