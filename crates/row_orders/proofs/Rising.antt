-- Rows that loops add to the variables of their outer loops never fall.
use Rattle.std.specs.Prelude.{◌≡◌, ◌≢◌, ℕ, zero, suc, nat_eq, Bool, true, false, ◌||◌, List, []}
use Rattle.std.specs.Prelude.{◌∷◌, ◌++◌, length, map, Option, None, Some, refl}
use Rattle.std.proofs.Common.{◌∙◌, sym, ap, subst}
use Rattle.std.proofs.lemmas.Bool.{eqb-true, eqb-false}
use Rattle.std.proofs.lemmas.List.{map-append}
use denote.Hole.Carrier.{hidden}
use Rattle.lists.specs.Each.{Each}
use Rattle.lists.proofs.Each.{each_append}
use Rattle.numbers.specs.Arithmetic.{Arithmetic}
use Rattle.tensor_map.specs.Entries.{Entry}
use Rattle.tensor_map.proofs.Summed.{NeverFalls}
use Rattle.index_notation.specs.Statement.{IsDistinct}
use Rattle.expr_terms.specs.Points.{coords_at, with_coordinate}
use Rattle.expr_terms.specs.Terms.{contains}
use Rattle.expr_terms.proofs.PointLaws.{coordinate_same, coordinate_other, not_contained}
use Rattle.concrete_notation.specs.declared.concrete.Concrete.TheBlock.{hidden-the_row-Concrete-0}
use Rattle.concrete_notation.specs.Contributions.{rows_below}
use Rattle.concrete_notation.specs.Nests.{Nest, inside, nests, next_loops, SharesLoops}
use Rattle.concrete_notation.proofs.Points.{contains_both, map_long, neither, or_first, or_second}
use Rattle.loop_code.specs.declared.loops.LoopCode.{LoopCode, Add, Both', Loop', Sum', Row_of-LoopCode, end_of-LoopCode, more_of-LoopCode}
use Rattle.loop_code.specs.declared.loops.Seek.{Seek}
use Rattle.loop_code.specs.Loops.{Layout, Stored, Env, at_variable, at_cursor, sought, found, moved}
use Rattle.loop_code.specs.Loops.{term_value, row_of, sum_of, contributions, contributions_in}
use Rattle.loop_code.proofs.Parts.{rows_same}
use Rattle.lowering.specs.Lowered.{concrete_of, concrete_in}
use Rattle.row_orders.proofs.Blocks.{with_first, blocks_rise, none_falls}
use Rattle.row_orders.proofs.Lists.{clash, each_parts, each_unmapped, each_weaker}

-- loops that begin with those over these variables
abbrev pub Starts : List ℕ → List ℕ → Type 0
Starts [] loops = Unit {0}
Starts (v ∷ vs) [] = ⊥
Starts (v ∷ vs) (w ∷ ws) = (v ≡ w) × Starts vs ws

-- the loops around a term begin so, and no variable has two
pub record IsLed (front : List ℕ) (n : Nest) : Type 0 where
  pub starts : Starts front n.loops
  pub once : IsDistinct n.loops

mutual
  unfolding hidden-the_row-Concrete-0 hidden

  -- what each nest tells is so, since there is one
  common : (P : Type 0) (c : LoopCode) → Each (λ (n : Nest). P) (nests (concrete_of c)) → P
  common P (Loop' w seeks p body) h = common_in P body (each_unmapped (λ (n : Nest). P) (inside w) (nests (concrete_in body)) h)
  common P (Both' p f q g) h = common_in P f (each_parts (λ (n : Nest). P) (nests (concrete_in f)) (nests (concrete_in g)) h).0
  common P (Add t) h = h.0
  common P (Sum' k p inside q body) h = common_in P body h

  common_in : {m : _} (P : Type 0) (row : Row_of-LoopCode m) → Each (λ (n : Nest). P) (nests (concrete_in row)) → P
  common_in P end_of-LoopCode h = h.0
  common_in P (more_of-LoopCode c rest) h = common P c h

mutual
  unfolding hidden-the_row-Concrete-0 hidden

  -- where all terms' loops begin with one, it stands there
  stands_next : (v : ℕ) (front : List ℕ) (c : LoopCode) → Each (IsLed (v ∷ front)) (nests (concrete_of c))
      → contains (next_loops (concrete_of c)) v ≡ true
  stands_next v front (Loop' w seeks p body) h =
      let same : v ≡ w = common_in (v ≡ w) body (each_weaker (λ (n : Nest). IsLed (v ∷ front) (inside w n)) (λ (n : Nest). v ≡ w)
      (nests (concrete_in body)) (λ n led. led.starts.0)
      (each_unmapped (IsLed (v ∷ front)) (inside w) (nests (concrete_in body)) h)) in
      or_first (nat_eq w v) false (self w v (sym same))
    where
      self : (w v : ℕ) → w ≡ v → nat_eq w v ≡ true
      self w v is = by (nat_eq w v) refl
        where
          by : (b : Bool) → nat_eq w v ≡ b → b ≡ true
          by true e = refl
          by false e = absurd (eqb-false w v e is)
  stands_next v front (Both' p f q g) h =
      let parts = each_parts (IsLed (v ∷ front)) (nests (concrete_in f)) (nests (concrete_in g)) h in
      contains_both (next_loops (concrete_in f)) (next_loops (concrete_in g)) v
      ∙ or_first (contains (next_loops (concrete_in f)) v) (contains (next_loops (concrete_in g)) v) (stands_next_in v front f parts.0)
  stands_next v front (Add t) h = absurd h.0.starts
  stands_next v front (Sum' k p inside q body) h = stands_next_in v front body h

  stands_next_in : {m : _} (v : ℕ) (front : List ℕ) (row : Row_of-LoopCode m) → Each (IsLed (v ∷ front)) (nests (concrete_in row))
      → contains (next_loops (concrete_in row)) v ≡ true
  stands_next_in v front end_of-LoopCode h = absurd h.0.starts
  stands_next_in v front (more_of-LoopCode c rest) h = stands_next v front c h

-- a number that stands twice
twice : (v : ℕ) (vs ws : List ℕ) → contains vs v ≡ true → contains ws v ≡ true → IsDistinct (vs ++ ws) → ⊥
twice v [] ws h g distinct = clash false h refl
twice v (u ∷ vs) ws h g distinct = by (nat_eq u v) refl h (twice v vs ws)
  where
    by : (b : Bool) → nat_eq u v ≡ b → (b || contains vs v) ≡ true
        → (contains vs v ≡ true → contains ws v ≡ true → IsDistinct (vs ++ ws) → ⊥) → ⊥
    by true e here rest =
        clash (contains (vs ++ ws) v)
        (contains_both vs ws v ∙ or_second (contains vs v) (contains ws v) g)
        (ap (contains (vs ++ ws)) (sym (eqb-true u v e)) ∙ not_contained u (vs ++ ws) distinct.0)
    by false e here rest = rest here g distinct.1

map_below : (g : Entry → Entry) (n : ℕ) (f : ℕ → List Entry) → map g (rows_below n f) ≡ rows_below n (λ x. map g (f x))
map_below g zero f = refl
map_below g (suc n) f = map-append g (rows_below n f) (f n) ∙ ap (λ rows. rows ++ map g (f n)) (map_below g n f)

each_below : (P : Entry → Type 0) (n : ℕ) (f : ℕ → List Entry) → ((x : ℕ) → Each P (f x)) → Each P (rows_below n f)
each_below P zero f h = tt
each_below P (suc n) f h = each_append P (rows_below n f) (f n) (each_below P n f h) (h n)

-- a row whose coordinates are read in another way
abbrev pub reread : (List ℕ → List ℕ) → Entry → Entry
reread key row = record { coords = key row.coords; value = row.value }

one_reread : (key : List ℕ → List ℕ) (coords others : List ℕ) (value : Option ℕ) → key coords ≡ others
    → map (reread key) (row_of coords value) ≡ row_of others value
one_reread key coords others None is = refl
one_reread key coords others (Some x) is = λ i. record { coords = is i; value = x } ∷ []

one_long : (n : ℕ) (coords : List ℕ) (value : Option ℕ) → length coords ≡ n
    → Each (λ (row : Entry). length row.coords ≡ n) (row_of coords value)
one_long n coords None is = tt
one_long n coords (Some x) is = (is, tt)

one_first : (x : ℕ) (coords : List ℕ) (value : Option ℕ) → row_of (x ∷ coords) value ≡ map (with_first x) (row_of coords value)
one_first x coords None = refl
one_first x coords (Some y) = refl

module _ (a : Arithmetic) (layout : Layout) (stored : Stored) (ranges : ℕ → ℕ) where
  found_point : (seeks : List Seek) (env : Env) → (found layout stored seeks env).point ≡ env.point
  found_point [] env = refl
  found_point (s ∷ seeks) env = found_point seeks (at_cursor env s.access (sought layout stored env s.access s.level))

  pub moved_point : (w : ℕ) (seeks : List Seek) (env : Env) (x : ℕ)
      → (moved layout stored w seeks env x).point ≡ with_coordinate env.point w x
  moved_point w seeks env x = found_point seeks (at_variable env w x)

  -- where the rows of some loops are summed for an access
  abbrev with_sum : {m : _} → ℕ → Row_of-LoopCode m → Env → Env
  with_sum k inside env = at_cursor env k (sum_of a (contributions_in a layout stored ranges [] inside env))

  -- rows to other variables, which are told by the first ones' coordinates
  module _ (target others : List ℕ) (key : List ℕ → List ℕ)
      (told : (point : ℕ → ℕ) → key (coords_at point target) ≡ coords_at point others) where
    mutual
      pub rows_reread : (c : LoopCode) (env : Env) → map (reread key) (contributions a layout stored ranges target c env)
          ≡ contributions a layout stored ranges others c env
      rows_reread (Loop' w seeks p body) env =
          map_below (reread key) (ranges w) (λ x. contributions_in a layout stored ranges target body (moved layout stored w seeks env x))
          ∙ rows_same (ranges w)
          (λ x. map (reread key) (contributions_in a layout stored ranges target body (moved layout stored w seeks env x)))
          (λ x. contributions_in a layout stored ranges others body (moved layout stored w seeks env x))
          (λ x. rows_reread_in body (moved layout stored w seeks env x))
      rows_reread (Both' p f q g) env =
          map-append (reread key) (contributions_in a layout stored ranges target f env)
          (contributions_in a layout stored ranges target g env)
          ∙ ap (λ rows. rows ++ map (reread key) (contributions_in a layout stored ranges target g env)) (rows_reread_in f env)
          ∙ ap (λ rows. contributions_in a layout stored ranges others f env ++ rows) (rows_reread_in g env)
      rows_reread (Add t) env =
          one_reread key (coords_at env.point target) (coords_at env.point others) (term_value a stored env t) (told env.point)
      rows_reread (Sum' k p inside q body) env = rows_reread_in body (with_sum k inside env)

      rows_reread_in : {m : _} (row : Row_of-LoopCode m) (env : Env)
          → map (reread key) (contributions_in a layout stored ranges target row env)
          ≡ contributions_in a layout stored ranges others row env
      rows_reread_in end_of-LoopCode env = refl
      rows_reread_in (more_of-LoopCode c rest) env = rows_reread c env

  -- a row has a coordinate for each of the variables
  module _ (target : List ℕ) where
    abbrev IsLong : Entry → Type 0
    IsLong row = length row.coords ≡ length target

    mutual
      pub rows_long : (c : LoopCode) (env : Env) → Each IsLong (contributions a layout stored ranges target c env)
      rows_long (Loop' w seeks p body) env =
          each_below IsLong (ranges w)
          (λ x. contributions_in a layout stored ranges target body (moved layout stored w seeks env x))
          (λ x. rows_long_in body (moved layout stored w seeks env x))
      rows_long (Both' p f q g) env =
          each_append IsLong (contributions_in a layout stored ranges target f env)
          (contributions_in a layout stored ranges target g env) (rows_long_in f env) (rows_long_in g env)
      rows_long (Add t) env = one_long (length target) (coords_at env.point target) (term_value a stored env t)
          (map_long env.point target)
      rows_long (Sum' k p inside q body) env = rows_long_in body (with_sum k inside env)

      rows_long_in : {m : _} (row : Row_of-LoopCode m) (env : Env)
          → Each IsLong (contributions_in a layout stored ranges target row env)
      rows_long_in end_of-LoopCode env = tt
      rows_long_in (more_of-LoopCode c rest) env = rows_long c env

  abbrev Lacks : ℕ → List Nest → Type 0
  Lacks v ns = Each (λ (n : Nest). contains n.loops v ≡ false) ns

  mutual
    unfolding hidden-the_row-Concrete-0 hidden

    -- a variable whose loop is outside has one coordinate in all rows
    first_stays : (v : ℕ) (target : List ℕ) (c : LoopCode) (env : Env) → Lacks v (nests (concrete_of c))
        → contributions a layout stored ranges (v ∷ target) c env
        ≡ map (with_first (env.point v)) (contributions a layout stored ranges target c env)
    first_stays v target (Loop' w seeks p body) env lacks =
        rows_same (ranges w)
        (λ x. contributions_in a layout stored ranges (v ∷ target) body (moved layout stored w seeks env x))
        (λ x. map (with_first (env.point v)) (contributions_in a layout stored ranges target body (moved layout stored w seeks env x)))
        (λ x. first_stays_in v target body (moved layout stored w seeks env x) inner
        ∙ ap (λ y. map (with_first y) (contributions_in a layout stored ranges target body (moved layout stored w seeks env x)))
        (ap (λ (point : ℕ → ℕ). point v) (moved_point w seeks env x) ∙ coordinate_other env.point w x v apart))
        ∙ sym (map_below (with_first (env.point v)) (ranges w)
        (λ x. contributions_in a layout stored ranges target body (moved layout stored w seeks env x)))
      where
        lacking : Each (λ (n : Nest). (nat_eq w v || contains n.loops v) ≡ false) (nests (concrete_in body))
        lacking = each_unmapped (λ (n : Nest). contains n.loops v ≡ false) (inside w) (nests (concrete_in body)) lacks

        inner : Lacks v (nests (concrete_in body))
        inner = each_weaker (λ (n : Nest). (nat_eq w v || contains n.loops v) ≡ false) (λ (n : Nest). contains n.loops v ≡ false)
            (nests (concrete_in body)) (λ n h. (neither (nat_eq w v) (contains n.loops v) h).1) lacking

        apart : w ≢ v
        apart = eqb-false w v (common_in (nat_eq w v ≡ false) body
            (each_weaker (λ (n : Nest). (nat_eq w v || contains n.loops v) ≡ false) (λ (n : Nest). nat_eq w v ≡ false)
            (nests (concrete_in body)) (λ n h. (neither (nat_eq w v) (contains n.loops v) h).0) lacking))
    first_stays v target (Both' p f q g) env lacks =
        let parts = each_parts (λ (n : Nest). contains n.loops v ≡ false) (nests (concrete_in f)) (nests (concrete_in g)) lacks in
        ap (λ rows. rows ++ contributions_in a layout stored ranges (v ∷ target) g env) (first_stays_in v target f env parts.0)
        ∙ ap (λ rows. map (with_first (env.point v)) (contributions_in a layout stored ranges target f env) ++ rows)
        (first_stays_in v target g env parts.1)
        ∙ sym (map-append (with_first (env.point v)) (contributions_in a layout stored ranges target f env)
        (contributions_in a layout stored ranges target g env))
    first_stays v target (Add t) env lacks = one_first (env.point v) (coords_at env.point target) (term_value a stored env t)
    first_stays v target (Sum' k p inside q body) env lacks = first_stays_in v target body (with_sum k inside env) lacks

    first_stays_in : {m : _} (v : ℕ) (target : List ℕ) (row : Row_of-LoopCode m) (env : Env) → Lacks v (nests (concrete_in row))
        → contributions_in a layout stored ranges (v ∷ target) row env
        ≡ map (with_first (env.point v)) (contributions_in a layout stored ranges target row env)
    first_stays_in v target end_of-LoopCode env lacks = refl
    first_stays_in v target (more_of-LoopCode c rest) env lacks = first_stays v target c env lacks

  mutual
    unfolding hidden-the_row-Concrete-0 hidden

    -- where the loops around all terms begin with those over some variables, rows to these never fall
    pub rows_rise : (front : List ℕ) (c : LoopCode) (env : Env) → Each (IsLed front) (nests (concrete_of c))
        → SharesLoops (concrete_of c) → NeverFalls (contributions a layout stored ranges front c env)
    rows_rise [] c env led shared = none_falls (contributions a layout stored ranges [] c env) (rows_long [] c env)
    rows_rise (v ∷ front) (Loop' w seeks p body) env led shared =
        subst NeverFalls (sym rows)
        (blocks_rise (ranges w) (λ x. contributions_in a layout stored ranges front body (moved layout stored w seeks env x))
        (λ x. rows_rise_in front body (moved layout stored w seeks env x) deeper shared))
      where
        inner : Each (λ (n : Nest). IsLed (v ∷ front) (inside w n)) (nests (concrete_in body))
        inner = each_unmapped (IsLed (v ∷ front)) (inside w) (nests (concrete_in body)) led

        same : w ≡ v
        same = common_in (w ≡ v) body (each_weaker (λ (n : Nest). IsLed (v ∷ front) (inside w n)) (λ (n : Nest). w ≡ v)
            (nests (concrete_in body)) (λ n h. sym h.starts.0) inner)

        deeper : Each (IsLed front) (nests (concrete_in body))
        deeper = each_weaker (λ (n : Nest). IsLed (v ∷ front) (inside w n)) (IsLed front) (nests (concrete_in body))
            (λ n h. record { starts = h.starts.1; once = h.once.1 }) inner

        lacks : Lacks v (nests (concrete_in body))
        lacks = each_weaker (λ (n : Nest). IsLed (v ∷ front) (inside w n)) (λ (n : Nest). contains n.loops v ≡ false)
            (nests (concrete_in body)) (λ n h. ap (contains n.loops) (sym same) ∙ not_contained w n.loops h.once.0) inner

        there : (x : ℕ) → (moved layout stored w seeks env x).point v ≡ x
        there x = ap (λ (point : ℕ → ℕ). point v) (moved_point w seeks env x)
            ∙ ap (with_coordinate env.point w x) (sym same) ∙ coordinate_same env.point w x

        rows : rows_below (ranges w) (λ x. contributions_in a layout stored ranges (v ∷ front) body (moved layout stored w seeks env x))
            ≡ rows_below (ranges w) (λ x. map (with_first x)
            (contributions_in a layout stored ranges front body (moved layout stored w seeks env x)))
        rows = rows_same (ranges w)
            (λ x. contributions_in a layout stored ranges (v ∷ front) body (moved layout stored w seeks env x))
            (λ x. map (with_first x) (contributions_in a layout stored ranges front body (moved layout stored w seeks env x)))
            (λ x. first_stays_in v front body (moved layout stored w seeks env x) lacks
            ∙ ap (λ y. map (with_first y) (contributions_in a layout stored ranges front body (moved layout stored w seeks env x)))
            (there x))
    rows_rise (v ∷ front) (Both' p f q g) env led shared =
        let parts = each_parts (IsLed (v ∷ front)) (nests (concrete_in f)) (nests (concrete_in g)) led in
        absurd (twice v (next_loops (concrete_in f)) (next_loops (concrete_in g)) (stands_next_in v front f parts.0)
        (stands_next_in v front g parts.1) shared.0)
    rows_rise (v ∷ front) (Add t) env led shared = absurd led.0.starts
    rows_rise (v ∷ front) (Sum' k p inside q body) env led shared =
        rows_rise_in (v ∷ front) body (with_sum k inside env) led shared

    rows_rise_in : {m : _} (front : List ℕ) (row : Row_of-LoopCode m) (env : Env) → Each (IsLed front) (nests (concrete_in row))
        → SharesLoops (concrete_in row) → NeverFalls (contributions_in a layout stored ranges front row env)
    rows_rise_in front end_of-LoopCode env led shared = tt
    rows_rise_in front (more_of-LoopCode c rest) env led shared = rows_rise front c env led shared
