-- The result of a kernel whose workspace holds the sums of a statement's rows: it is filled from them.
use Rattle.std.specs.Prelude.{◌≡◌, ◌⊎◌, ℕ, suc, ◌+◌, ◌*◌, ◌≤◌, List, [], ◌∷◌, length, replicate}
use Rattle.std.specs.Prelude.{false, refl}
use Rattle.std.proofs.Common.{◌∙◌, sym, ap, subst, arith}
use Rattle.std.proofs.lemmas.List.{length-map}
use Rattle.numbers.specs.Arithmetic.{Arithmetic}
use Rattle.kernel_code.specs.declared.syntax.Arr.{Arr}
use Rattle.kernel_code.specs.declared.syntax.Arr.TheVariants.{Values, Sums, ListPositions}
use Rattle.kernel_code.specs.declared.syntax.KExpr.{Num, Len}
use Rattle.kernel_code.specs.declared.syntax.KStmt.{KStmt, Extend}
use Rattle.kernel_code.specs.declared.syntax.LoopKind.{LoopKind}
use Rattle.kernel_code.specs.declared.syntax.LoopKind.TheVariants.{Merge, Skip, Gather, Drain, Probe}
use Rattle.kernel_code.specs.Does.{Does, Refusal}
use Rattle.kernel_code.specs.Meaning.{Setting, State, length_of, same_kind, set_array}
use Rattle.kernel_code.proofs.Does.{does_extend, does_weaker}
use Rattle.level_core.specs.Fragments.{IsOf}
use Rattle.format_spec.specs.declared.format.FormatLevel.{FormatLevel}
use Rattle.format_spec.specs.Formats.{letters_of}
use Rattle.index_notation.specs.declared.syntax.Statement.{Statement}
use Rattle.iteration_graph.specs.Edges.{format_of}
use Rattle.tensor_map.specs.Entries.{Entry}
use Rattle.tensor_storage.specs.Storages.{in_level_order}
use Rattle.term_code.specs.WorkspaceSinks.{values}
use Rattle.kernel_correctness.specs.Stores.{Store, IsStoreOf, told_by}
use Rattle.result_assembly.specs.Drained.{drain_turns, most_passes}
use Rattle.result_assembly.specs.Levels.{RefusesLevels}
use Rattle.result_assembly.specs.Stored.{DrainsResult, LeavesStored}
use Rattle.sparse_results.specs.Results.{AreRowsOfResult}
use Rattle.sparse_results.specs.Tables.{table_of}
use Rattle.sparse_results.proofs.Growths.{levels_may_pass}
use Rattle.sparse_results.proofs.Stored.{standing_is_result}
use Rattle.sparse_kernels.specs.Kernels.{IsForSparse}
use Rattle.sparse_kernels.specs.Turns.{AreTurns}
use Rattle.sparse_kernels.proofs.Ends.{IsDone, IsRightRefusal}
use Rattle.sparse_kernels.proofs.Filled.{IsFilled, ready, may_drain}
use Rattle.sparse_kernels.proofs.Points.{has_points}

-- a result has a coordinate for each level
pub left_long : (s : Statement) (formats : List (List FormatLevel)) → IsForSparse s formats → (store : Store) → IsStoreOf s formats store
    → length s.left.vars ≡ length store.format
left_long s formats f store is = sym f.left.order ∙ ap (λ t. length (format_of formats t)) f.named.result ∙ ap length (sym is.format_is)

-- from rows that are those of the result, in workspace w, which has so many keys; so many turns were made before, and so many are made in
-- all
module _ (a : Arithmetic) (s : Statement) (formats : List (List FormatLevel)) (store : Store) (is : IsStoreOf s formats store)
    (sums : List Entry) (are_rows : AreRowsOfResult a s store sums) (left_many : length s.left.vars ≡ length store.format)
    (w keys g low : ℕ) (keys_are : keys ≡ length s.left.vars) (drain : List KStmt)
    (drains : DrainsResult (format_of formats 0) w g low a.zero drain) (setting : Setting) (most made : LoopKind → ℕ) (t : State)
    (filled : IsFilled a.zero (letters_of store.format) (in_level_order store.format store.ranges) w keys g sums made t) where
  abbrev pub zeroed : State
  zeroed = set_array t (ListPositions g) (replicate (length (values sums)) 0)

  abbrev pub Stored : State → Type 0
  Stored u =
      LeavesStored a.zero store.format store.ranges (table_of sums) g low
      (set_array t (ListPositions g) (replicate (length (values sums)) 0)) u

  letters_many : length (letters_of store.format) ≡ length store.format
  letters_many = length-map store.format (λ (level : FormatLevel). level.letter)

  -- a growth of a level that may be refused
  abbrev pub RefusesLevel : Refusal
  RefusesLevel turns b count =
      IsRightRefusal a s store (letters_of store.format) most turns b count × ((level : ℕ) × (IsOf 0 level b ⊎ (b ≡ Values 0)))

  module _ (within : (j : LoopKind) → same_kind Drain j ≡ false → made j ≤ most j)
      (drained : (u : State) → Stored u → u.turns Drain ≤ most Drain + 2 * length (letters_of store.format) * length sums) where
    turns_made : (u : State) → Stored u → AreTurns s (told_by a s store) (letters_of store.format) most u.turns u.arrays
    turns_made u l = record {
      points = length sums;
      have = has_points a s store sums are_rows is.format left_many;
      merges = by_none Merge refl refl;
      skips = by_none Skip refl refl;
      gathers = by_none Gather refl refl;
      drains = drained u l;
      probes = λ width narrow.
          (let before = filled.turns Probe in
          let upto = within Probe refl in
          let more = l.leaves.turns Probe in
          let few = subst (λ n. l.probes ≤ n * (width * length sums)) (sym letters_many) (l.few width narrow) in
          omega (arith, before, upto, more, few));
    }
      where
        by_none : (j : LoopKind) → same_kind Drain j ≡ false
            → drain_turns (most_passes (length store.format)) (length sums) l.probes j ≡ 0 → u.turns j ≤ most j
        by_none j other none =
            let before = filled.turns j in
            let upto = within j other in
            let more = l.leaves.turns j in
            omega (arith, before, upto, more, none)

    ended : (u : State) → Stored u → IsDone a s store (letters_of store.format) most u
    ended u l = (
      standing_is_result a s store sums are_rows u.arrays (record {
        levels = l.levels;
        words = l.values;
        is_left = record { held = l.held; values_held = l.values_held };
        letters = l.letters;
        packed = l.packed;
      }),
      turns_made u l,
    )

    refused : (turns : LoopKind → ℕ) (b : Arr) (count : ℕ)
        → RefusesLevels (letters_of store.format) (in_level_order store.format store.ranges) (table_of sums) (length store.format)
        zeroed turns b count → RefusesLevel turns b count
    refused turns b count r =
        let p = r.3.1 in (
          levels_may_pass a s store sums are_rows r.0 b count
              (record { inside = r.1; array = p.array; above = p.above; within = p.within }),
          (suc r.0, p.array),
        )

    from_zeroed : Does setting drain zeroed (IsDone a s store (letters_of store.format) most)
        RefusesLevel
    from_zeroed =
        does_weaker setting drain zeroed (LeavesStored a.zero store.format store.ranges (table_of sums) g low zeroed)
        (IsDone a s store (letters_of store.format) most)
        (RefusesLevels (letters_of store.format) (in_level_order store.format store.ranges) (table_of sums) (length store.format)
        zeroed) RefusesLevel
        (subst (λ format. DrainsResult format w g low a.zero drain) (sym is.format_is) drains setting store.ranges
        (table_of sums) (may_drain a s formats store is sums are_rows filled.holds.few) zeroed
        (ready a.zero (letters_of store.format) (in_level_order store.format store.ranges) w keys g sums made t filled
        (keys_are ∙ left_many ∙ sym letters_many)))
        ended refused

    pub from_sums : Does setting (Extend (ListPositions g) (Len (Sums w)) (Num 0) ∷ drain) t
        (IsDone a s store (letters_of store.format) most) RefusesLevel
    from_sums =
        does_extend setting (ListPositions g) (Len (Sums w)) (Num 0) drain t (length (values sums)) 0 [] _ _
        (ap length_of filled.holds.sums) refl refl filled.list (λ room. from_zeroed) (λ no. absurd (cc no))
