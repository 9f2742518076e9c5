-- Code that adds the rows of loops by groups appends rows that have their sums: each sum once, in increasing order.
use Rattle.std.specs.Prelude.{◌≡◌, ℕ, zero, suc, ◌-◌, ◌≤◌, ◌<◌, List, [], ◌∷◌, ◌++◌, length, drop, take, refl}
use Rattle.std.specs.Prelude.{slice_index}
use Rattle.std.proofs.Common.{◌∙◌, sym, ap, subst, arith, inl, inr}
use Rattle.std.proofs.lemmas.List.{length-append, length-map}
use Rattle.numbers.specs.Arithmetic.{Arithmetic, Laws}
use Rattle.lists.specs.Each.{Each}
use Rattle.kernel_code.specs.declared.syntax.Arr.{Arr}
use Rattle.kernel_code.specs.declared.syntax.Arr.TheVariants.{Range, Values, Dimension, Ends, Coordinates, Width, Key, Sums}
use Rattle.kernel_code.specs.declared.syntax.Arr.TheVariants.{ListCoordinates, ListPositions}
use Rattle.kernel_code.specs.declared.syntax.KStmt.{KStmt}
use Rattle.kernel_code.specs.declared.syntax.LoopKind.{LoopKind}
use Rattle.kernel_code.specs.declared.syntax.Place.{Place}
use Rattle.kernel_code.specs.declared.syntax.Place.TheVariants.{Level, Workspace}
use Rattle.kernel_code.specs.Does.{Does, Never}
use Rattle.kernel_code.specs.Kernels.{place_of}
use Rattle.kernel_code.specs.Keeps.{Leaves, NoVariable, no_turns}
use Rattle.kernel_code.specs.Meaning.{Setting, State}
use Rattle.kernel_code.proofs.Does.{does_append, does_weaker}
use Rattle.tensor_map.specs.Entries.{Entry, Listed}
use Rattle.tensor_map.proofs.Lemmas.{listed_at}
use Rattle.format_spec.specs.declared.format.FormatLevel.{FormatLevel}
use Rattle.format_spec.specs.Formats.{letters_of, modes_of}
use Rattle.index_notation.specs.declared.syntax.Statement.{Statement}
use Rattle.iteration_graph.specs.Edges.{format_of}
use Rattle.concrete_notation.specs.declared.concrete.Concrete.{Concrete}
use Rattle.concrete_notation.specs.Contributions.{sums_of}
use Rattle.concrete_notation.specs.Nests.{left_in_order}
use Rattle.concrete_notation.specs.Workspaces.{AreAllDense}
use Rattle.concrete_notation.proofs.SumsOf.{sums_listed}
use Rattle.loop_code.specs.declared.loops.LoopCode.{LoopCode}
use Rattle.loop_code.specs.Loops.{start}
use Rattle.lowering.specs.Lowered.{IsInOrder}
use Rattle.lowering.specs.Right.{rows_to}
use Rattle.tensor_storage.specs.Arranged.{no_entry}
use Rattle.tensor_storage.specs.Storages.{in_level_order}
use Rattle.result_targets.specs.Beside.{LeavesLists, beside_lists}
use Rattle.result_targets.specs.Scratch.{HasLists, IsThere}
use Rattle.result_targets.specs.Sinks.{Adds, Sink}
use Rattle.term_code.specs.declared.places.Places.{Places}
use Rattle.term_code.proofs.PlaceLaws.{keeps_kept}
use Rattle.kernel_correctness.specs.Stores.{Store, IsStoreOf, told_by}
use Rattle.operand_arrays.specs.Operands.{stored_in}
use Rattle.dense_results.specs.Operands.{operands_in}
use Rattle.dense_results.proofs.Operands.{told}
use Rattle.kernel_emit.specs.Emitted.{Stands}
use Rattle.kernel_emit.proofs.Kept.{ranges_kept, ready_kept}
use Rattle.kernel_emit.proofs.ListLaws.{operand_apart}
use Rattle.sparse_results.specs.Tables as tables
use Rattle.sparse_results.proofs.Growths.{levels_may_pass, workspaces_may_pass}
use Rattle.sparse_results.proofs.Keys.{level_keys}
use Rattle.appended_results.specs.Heads.{IsHead, row_at}
use Rattle.appended_results.specs.declared.sink.AppendedSink.{AppendedSink}
use Rattle.appended_results.specs.Sink.{appended_sink, RefusesSome}
use Rattle.appended_results.specs.Tables.{NamesRows}
use Rattle.appended_results.proofs.TableGrowths.{refused_passes}
use Rattle.appended_kernels.specs.Kernels.{AppendsFromTop, AreAppendedLoops, HasAppended, HaveNoRows, IsAtTop, IsForAppended, IsSinkOf}
use Rattle.appended_kernels.specs.Kernels.{IsLevel, MayBeRefused, behind}
use Rattle.appended_kernels.proofs.Direct.{of_level}
use Rattle.appended_kernels.proofs.Names.{each_at, listed_row}
use Rattle.appended_kernels.proofs.Rows.{read_store, are_rows, each_row, names_rows}
use Rattle.appended_kernels.proofs.Values.{below_from}
use Rattle.head_pairs.specs.Heads.{pairs_at}
use Rattle.head_pairs.proofs.Counted.{groups_are_few}
use Rattle.summed_groups.specs.Groups.{with_front, with_fronts}
use Rattle.drained_workspaces.specs.Draining.{Draining}
use Rattle.grouped_loops.specs.Emitted.{IsRow, IsTaken}
use Rattle.grouped_loops.specs.declared.grouped.Grouped.{Grouped}
use Rattle.grouped_loops.specs.Grouped.{HoldsSums, RefusesGroup, RefusesSums, grouped_sink, ranges_of}
use Rattle.touched_workspaces.specs.Sizes.{greatest_marked_range}
use Rattle.grouped_kernels.specs.Kernels.{AppendByGroups, AtOneHead, GroupsFromTop, RefusesBehind}
use Rattle.grouped_kernels.proofs.Modes.{keys_are_modes}
use Rattle.grouped_kernels.proofs.Sums.{sums_again, sums_rows}
use Rattle.grouped_kernels.proofs.Takes.{takes_behind}

-- what the row at each place has, each row has
each_from : (P : Entry → Type 0) (rows : List Entry) → ((i : ℕ) → i < length rows → P (row_at rows i)) → Each P rows
each_from P [] h = tt
each_from P (row ∷ rows) h = (h 0 (omega arith), each_from P rows (λ i l. h (suc i) (omega (arith, l))))

-- coordinates that some of rows have, all rows have
listed_first : (rows others : List Entry) (coords : List ℕ) → Listed rows coords → Listed (rows ++ others) coords
listed_first [] others coords h = absurd h
listed_first (row ∷ rows) others coords (inl here) = inl here
listed_first (row ∷ rows) others coords (inr there) = inr (listed_first rows others coords there)

-- ranges of modes behind the first ones
drop_levels : (n : ℕ) (levels : List FormatLevel) (ranges : List ℕ)
    → ranges_of (drop n (modes_of levels)) ranges ≡ drop n (in_level_order levels ranges)
drop_levels zero [] ranges = refl
drop_levels zero (level ∷ levels) ranges = ap (λ xs. slice_index ranges level.mode ∷ xs) (drop_levels zero levels ranges)
drop_levels (suc n) [] ranges = refl
drop_levels (suc n) (level ∷ levels) ranges = drop_levels n levels ranges

long_dropped : (n : ℕ) (xs : List ℕ) → length (drop n xs) ≡ length xs - n
long_dropped zero xs = omega arith
long_dropped (suc n) [] = omega arith
long_dropped (suc n) (x ∷ xs) = let rest = long_dropped n xs in omega (arith, rest)

-- no level of a result, nor its values, is a scratch list
lists_left : (k : AppendedSink) → LeavesLists appended_sink k
lists_left k Range h = absurd (cc h)
lists_left k (Values n) h = absurd (cc h)
lists_left k (Dimension n j) h = absurd (cc h)
lists_left k (Ends n j) h = absurd (cc h)
lists_left k (Coordinates n j) h = absurd (cc h)
lists_left k (Width n j) h = absurd (cc h)
lists_left k (Key n j) h = absurd (cc h)
lists_left k (Sums n) h = absurd (cc h)
lists_left k (ListCoordinates n) h = record { outside = λ j no. no; no_values = refl }
lists_left k (ListPositions n) h = record { outside = λ j no. no; no_values = refl }

module _ (a : Arithmetic) (laws : Laws a) (s : Statement) (formats : List (List FormatLevel)) (c : Concrete)
    (in_order : IsInOrder s formats c) (f : IsForAppended s formats) (loops : LoopCode) (l : AreAppendedLoops s formats c loops)
    {W : Type 0} (within : Sink W) (drains : Draining W) (g : Grouped W AppendedSink) (fits : IsSinkOf a formats g.outer.now)
    (places : Places) (free past : ℕ) (spaces : List ℕ) (begin emitted : List KStmt)
    (from : GroupsFromTop a within drains g s formats in_order.order places loops free past spaces begin emitted) where
  abbrev k : AppendedSink
  k = g.outer.now

  abbrev w : W
  w = g.workspace.now

  abbrev keys : List ℕ
  keys = left_in_order s in_order.order

  -- what may be refused
  abbrev Allowed : Store → Place → ℕ → Type 0
  Allowed = AtOneHead a s in_order.order g.first

  level_allowed : (store : Store) (place : Place) (count : ℕ) → IsLevel place → Allowed store place count
  level_allowed store (Level level) count h = tt
  level_allowed store Workspace count h = absurd h

  behind_allowed : (store : Store) (place : Place) (count : ℕ) → RefusesBehind a s in_order.order g.first store count
      → Allowed store place count
  behind_allowed store (Level level) count h = tt
  behind_allowed store Workspace count h = h

  abbrev both : Sink (Grouped W AppendedSink)
  both = grouped_sink within appended_sink

  abbrev rows_on : Store → List Entry
  rows_on store = rows_to a s formats (told_by a s store) (stored_in (operands_in s store)) (left_in_order s in_order.order) loops

  abbrev most : Store → LoopKind → ℕ
  most store = from.adds.most (operands_in s store) (slice_index store.ranges) start

  both_left : LeavesLists both g
  both_left b scratch = (lists_left k b scratch, from.workspace.laws.lists w b scratch)

  module _ (store : Store) (is : IsStoreOf s formats store) where
    abbrev sizes : List ℕ
    sizes = in_level_order store.format store.ranges

    abbrev rows : List Entry
    rows = rows_on store

    same_levels : k.levels ≡ store.format
    same_levels = fits.levels ∙ sym is.format_is

    letters_many : length (letters_of store.format) ≡ length store.format
    letters_many = length-map store.format (λ (level : FormatLevel). level.letter)

    sizes_many : length sizes ≡ length store.format
    sizes_many = length-map store.format (λ (level : FormatLevel). slice_index store.ranges level.mode)

    keys_many : length keys ≡ length store.format
    keys_many =
        ap length (level_keys s formats f.ordered in_order.order in_order.is_order).order
        ∙ length-map (modes_of (format_of formats 0)) (slice_index s.left.vars)
        ∙ length-map (format_of formats 0) (λ (level : FormatLevel). level.mode) ∙ ap length (sym is.format_is)

    pub rows_many : Each (tables.IsRow (length store.format)) rows
    rows_many = each_row a laws s formats c in_order f loops l store is

    -- ---- the rows of the loops are below the ranges
    row_below : (i : ℕ) → i < length rows → IsRow sizes (row_at rows i)
    row_below i h =
        let row = each_at (tables.IsRow (length store.format)) rows no_entry i rows_many h in
        let named = (names_rows a laws s formats c in_order f loops l store is).each i h in
        let below = (are_rows a laws s formats c in_order f loops l store is).below in
        record {
          below = below_from sizes (row_at rows i).coords (row.many ∙ sym sizes_many)
              (λ d inside. subst (λ x. x < slice_index sizes d) (named.2 d (omega (arith, inside, sizes_many, letters_many)))
              (below d named.0 inside named.1));
          word = row.word;
        }

    each_below : Each (IsRow sizes) rows
    each_below = each_from (IsRow sizes) rows row_below

    -- ---- the sink takes them by groups
    sized : sizes ≡ in_level_order k.levels store.ranges
    sized = ap (λ levels. in_level_order levels store.ranges) (sym same_levels)

    deep : k.head ≤ length sizes
    deep =
        let within_levels = (subst (λ (levels : List FormatLevel). IsHead (letters_of levels) k.head) (sym is.format_is)
        fits.head).within in
        omega (arith, within_levels, letters_many, sizes_many)

    tail_is : ranges_of g.modes.now store.ranges ≡ drop g.first sizes
    tail_is =
        ap (λ modes. ranges_of modes store.ranges) from.modes ∙ drop_levels g.first (format_of formats 0) store.ranges
        ∙ ap (λ levels. drop g.first (in_level_order levels store.ranges)) (sym is.format_is)

    tail_long : length (ranges_of g.modes.now store.ranges) ≡ within.keys w
    tail_long =
        let same = ap length tail_is in
        let dropped = long_dropped g.first sizes in
        let all = from.keys in
        omega (arith, same, dropped, all, sizes_many, keys_many)

    module _ (setting : Setting) (same : setting.arithmetic ≡ a) (declared : setting.workspaces ≡ spaces) where
      taken : IsTaken within appended_sink drains g a s formats keys 0 loops setting [] store.ranges [] (operands_in s store)
          (slice_index store.ranges) start
      taken = record {
        bound_are = tt;
        suits = subst (drains.suits w) (sym declared) from.suits;
        beside = from.workspace.beside k;
        sizes = sizes;
        long = sizes_many ∙ sym keys_many;
        tail = tail_is;
        outer_takes = takes_behind k store.ranges sizes sized deep g.first;
        within_takes = from.workspace.takes (ranges_of g.modes.now store.ranges) tail_long;
        each = each_below;
        behind = tt;
        before_long = tt;
      }

      -- ---- growths that are refused may be
      passed_sums : (b : Arr) (count : ℕ) → RefusesSums appended_sink k store.ranges rows b count
          → MayBeRefused a s store Allowed b count
      passed_sums b count r =
          let here = subst (λ (levels : List FormatLevel).
          RefusesSome (letters_of levels) (in_level_order levels store.ranges) k.head (sums_of r.a r.first) b count) same_levels
          r.refused in
          let p = refused_passes (letters_of store.format) sizes k.head (sums_of r.a r.first) b count here
          (tables.table_of (sums_of a rows))
          names in
          record {
            right = levels_may_pass a s store (sums_of a rows) (are_rows a laws s formats c in_order f loops l store is) p.level b count
                (record {
                  inside = (let inside = p.inside in omega (arith, inside, letters_many));
                  array = p.array;
                  above = p.above;
                  within = p.within;
                });
            allowed = level_allowed store (place_of (length store.format) b) count
                (of_level (length store.format) (suc p.level) b p.array);
          }
        where
          row_there : (i : ℕ) → i < length (sums_of r.a r.first)
              → (j : ℕ) × (j < length (sums_of a rows)) × ((row_at (sums_of a rows) j).coords ≡ (row_at (sums_of r.a r.first) i).coords)
          row_there i h =
              let coords : List ℕ = (row_at (sums_of r.a r.first) i).coords in
              let first : Listed r.first coords =
              (sums_listed r.a r.first coords).0 (listed_at (sums_of r.a r.first) i no_entry h) in
              listed_row (sums_of a rows) coords ((sums_listed a rows coords).1
              (subst (λ rs. Listed rs coords) (sym r.is) (listed_first r.first r.rest coords first)))

          names : NamesRows (length (letters_of store.format)) (sums_of r.a r.first) (tables.table_of (sums_of a rows))
          names = record {
            rise = (names_rows a laws s formats c in_order f loops l store is).rise;
            each = λ i h. let found = row_there i h in (found.0, found.1, (λ d inside. ap (λ xs. slice_index xs d) found.2));
          }

      not_dense : AreAllDense store.format → ⊥
      not_dense dense = f.ordered.some (subst AreAllDense is.format_is dense)

      passed_group : (b : Arr) (count : ℕ) → RefusesGroup within w g.first (ranges_of g.modes.now store.ranges) rows b count
          → MayBeRefused a s store Allowed b count
      passed_group b count r =
          let p = from.workspace.passes (ranges_of g.modes.now store.ranges) r.group b count r.refused in
          record {
            right = workspaces_may_pass a laws s formats store (read_store a laws s formats c in_order f loops l store is) not_dense
                c in_order
                loops l.rows keys p.0 b count (record {
                  array = p.1.array;
                  above = p.1.above;
                  within =
                      let most_of = p.1.within in
                      let whole = ap length r.is in
                      let parts = length-append r.before (with_fronts r.front r.group ++ r.rest) in
                      let later = length-append (with_fronts r.front r.group) r.rest in
                      let group = length-map r.group (with_front r.front) in
                      omega (arith, most_of, whole, parts, later, group);
                });
            allowed = behind_allowed store (place_of (length store.format) b) count (record {
              few = record {
                coords = r.front;
                many =
                    let most_of = p.1.within in
                    let held = (told s formats store (read_store a laws s formats c in_order f loops l store is) a laws).held in
                    let few = groups_are_few s formats c in_order loops l.rows a laws (told_by a s store)
                    (stored_in (operands_in s store)) held
                    keys r.front r.before r.group r.rest r.is in
                    let same = ap (λ n. pairs_at s in_order.order (take n keys) r.front (told_by a s store)) r.long in
                    omega (arith, most_of, few, same);
              };
              large = λ v alone.
                  let modes : g.modes.now ≡ v ∷ [] =
                  from.modes ∙ sym (ap (drop g.first) (keys_are_modes s formats f.ordered in_order.order in_order.is_order)) ∙ alone in
                  let left : length (drop g.first keys) ≡ 1 = ap length alone in
                  let dropped = long_dropped g.first keys in
                  let all = from.keys in
                  subst (λ (ms : List ℕ). greatest_marked_range < slice_index (ranges_of ms store.ranges) 0) modes
                  (from.workspace.large (omega (arith, left, dropped, all)) (ranges_of g.modes.now store.ranges) r.group b count
                  r.refused);
            });
          }

      -- ---- the code before the loops, and that of the loops
      module _ (st : State) (top : IsAtTop a k s formats store places st) (none : HaveNoRows spaces st) (has : HasLists 0 past st) where
        abbrev HasBegun : State → Type 0
        HasBegun u = Leaves NoVariable (within.kept w) free no_turns st u
            × within.holds w a (ranges_of g.modes.now store.ranges) [] u

        abbrev IsEnd : State → Type 0
        IsEnd t = HasAppended a k store.ranges (sums_of a rows) (most store) st t

        abbrev MayEnd : (LoopKind → ℕ) → Arr → ℕ → Type 0
        MayEnd turns = MayBeRefused a s store Allowed

        module _ (u : State) (begun : HasBegun u) where
          kept_lists : HasLists 0 past u
          kept_lists = λ list least less.
              let there = has list least less in
              record {
                coordinates = there.coordinates;
                positions = there.positions;
                coordinates_are = begun.0.arrays (ListCoordinates list) (from.workspace.laws.lists w (ListCoordinates list) refl)
                    ∙ there.coordinates_are;
                positions_are = begun.0.arrays (ListPositions list) (from.workspace.laws.lists w (ListPositions list) refl)
                    ∙ there.positions_are;
              }

          held_still : appended_sink.holds k a store.ranges [] u
          held_still =
              (from.workspace.beside k).stays a store.ranges [] st u
              (λ y mine. begun.0.below y (let less = mine.before in let room = from.room in omega (arith, less, room)) (λ no. no))
              (record {
                same = λ b plain kept. begun.0.arrays b kept;
                there = λ b scratch there.
                    subst IsThere (sym (begun.0.arrays b (from.workspace.laws.lists w b scratch))) there;
              }) top.held

          stands : Stands (beside_lists both 0 past) g s formats places (behind k) [] (λ j. 0) (operands_in s store)
              (slice_index store.ranges) start setting.arithmetic store.ranges [] u
          stands = record {
            least = 0;
            mine_from = λ y mine. omega arith;
            mine_below = λ y mine. elim mine [ inl m ↦ m.before | inr n ↦ absurd (from.workspace.laws.plain w y n) ];
            from = top.from;
            kept = λ b of. ((top.kept b of, from.workspace.operands b of), operand_apart 0 past b of);
            ready = ready_kept s formats (operands_in s store) places.accesses st.arrays u.arrays top.stands.operands
                (λ b of. begun.0.arrays b (from.workspace.operands b of)) top.stands.ready;
            opened = top.stands.opened;
            has_ranges = ranges_kept s (slice_index store.ranges) st.arrays u.arrays
                (begun.0.arrays Range (from.workspace.operands Range tt)) top.stands.ranges;
            keeps = keeps_kept free places [] start st u from.places_below (λ y less. begun.0.below y less (λ no. no)) top.keeps;
            held = (
              subst (λ b. HoldsSums within appended_sink g b store.ranges [] u) (sym same)
                  (record { summed = held_still; emptied = begun.1 }),
              kept_lists,
            );
          }

          added : Adds (beside_lists both 0 past) g setting store.ranges emitted free (most store) [] rows u
          added =
              from.adds.adds setting same laws (behind k) from.room both_left [] (λ j. 0) (operands_in s store)
              (slice_index store.ranges) start store.ranges [] u from.placed from.bound taken stands

          from_begun : Does setting emitted u IsEnd MayEnd
          from_begun =
              does_weaker setting emitted u _ IsEnd _ MayEnd added
              (λ t p. record {
                held = (subst (λ b. HoldsSums within appended_sink g b store.ranges rows t) same p.1.0).summed;
                turns = λ j.
                    let made = p.0.turns j in
                    let before = begun.0.turns j in
                    let none_made : no_turns j ≡ 0 = refl in
                    omega (arith, made, before, none_made);
              })
              (λ turns b count r. elim r.1 [ inl sums ↦ passed_sums b count sums | inr group ↦ passed_group b count group ])

        pub whole : Does setting (begin ++ emitted) st IsEnd MayEnd
        whole =
            does_append setting begin emitted st HasBegun IsEnd MayEnd
            (does_weaker setting begin st HasBegun HasBegun Never MayEnd
            (from.begins setting same store.ranges st top.stands.ranges none free) (λ u h. h) (λ turns b count no. absurd no))
            from_begun

  abbrev pub appends_by_groups : AppendsFromTop a g.outer.now s formats places (left_in_order s in_order.order) loops 0 past spaces Allowed
      (begin ++ emitted)
  appends_by_groups = record {
    most = most;
    held = λ store. sums_of a (rows_on store);
    each = λ store is. sums_rows a laws (length store.format) (rows_on store) (rows_many store is);
    same = λ store is. sums_again a (rows_on store);
    appends = λ setting same declared store is st top none has. whole store is setting same declared st top none has;
  }

pub append_by_groups : AppendByGroups
append_by_groups a laws s formats c in_order f loops l W within drains g fits places free past spaces begin emitted from =
    appends_by_groups a laws s formats c in_order f loops l within drains g fits places free past spaces begin emitted from
