-- The states between the parts of a kernel whose result goes through a workspace: the workspace holds rows, and the result is as it began.
use Rattle.std.specs.Prelude.{◌≡◌, ◌≢◌, ℕ, suc, ◌+◌, ◌≤◌, false, if◌then◌else◌, List, [], length, replicate, Some}
use Rattle.std.specs.Prelude.{refl}
use Rattle.std.proofs.Common.{◌∙◌, sym, ap, subst, arith}
use Rattle.std.proofs.lemmas.List.{length-map}
use Rattle.limits.specs.Limits.{greatest_workspace_pairs}
use Rattle.numbers.specs.Arithmetic.{Arithmetic}
use Rattle.kernel_code.specs.Arrays.{same_arr}
use Rattle.kernel_code.specs.declared.syntax.Arr.{Arr}
use Rattle.kernel_code.specs.declared.syntax.Arr.TheVariants.{Range, Values, Dimension, Ends, Coordinates, Width, Key, Sums}
use Rattle.kernel_code.specs.declared.syntax.Arr.TheVariants.{ListCoordinates, ListPositions}
use Rattle.kernel_code.specs.declared.syntax.LoopKind.{LoopKind}
use Rattle.kernel_code.specs.Keeps.{Leaves}
use Rattle.kernel_code.specs.Meaning.{State, set_array}
use Rattle.kernel_code.proofs.ArrayNames.{same_arr_self}
use Rattle.level_core.specs.declared.letter.Letter.{Letter}
use Rattle.level_core.specs.Fragments.{IsOf}
use Rattle.level_core.specs.Meaning.{Arrays}
use Rattle.level_rows.specs.Tables.{Increase}
use Rattle.format_spec.specs.declared.format.FormatLevel.{FormatLevel}
use Rattle.format_spec.specs.Formats.{letters_of}
use Rattle.index_notation.specs.declared.syntax.Statement.{Statement}
use Rattle.tensor_map.specs.Entries.{Entry}
use Rattle.tensor_storage.specs.Storages.{in_level_order}
use Rattle.result_targets.specs.Scratch.{is_of_some_list, IsOffLists}
use Rattle.result_targets.proofs.Scratch.{off_lists}
use Rattle.term_code.specs.WorkspaceSinks.{HoldsRows, IsOfWorkspace, column, values}
use Rattle.kernel_correctness.specs.Stores.{Store, IsStoreOf, StartsBelow}
use Rattle.result_assembly.specs.Drained.{HoldsTable, MayDrain}
use Rattle.result_assembly.specs.Levels.{IsReady}
use Rattle.result_assembly.proofs.Holding.{stays_other, starts_kept}
use Rattle.sparse_results.specs.Results.{AreRowsOfResult}
use Rattle.sparse_results.specs.Tables.{table_of}
use Rattle.sparse_results.proofs.Loops.{stores_have_small_levels}
use Rattle.sparse_results.proofs.Stored.{columns_are_tables}
use Rattle.sparse_kernels.proofs.Starts.{levels_beside}

-- a workspace holds rows, the levels of the result are as a kernel begins them, there is no value, and a scratch list is empty
pub record IsFilled (nothing : ℕ) (letters : List Letter) (sizes : List ℕ) (w keys g : ℕ) (rows : List Entry) (most : LoopKind → ℕ)
    (t : State) : Type 0 where
  pub holds : HoldsRows w keys rows t.arrays
  pub below : StartsBelow nothing letters sizes 1 1 t.arrays
  pub values : t.arrays (Values 0) ≡ Some []
  pub list : t.arrays (ListPositions g) ≡ Some []
  pub turns : (k : LoopKind) → t.turns k ≤ most k

pub not_scratch : (tensor level : ℕ) (x : Arr) → IsOf tensor level x → is_of_some_list x ≡ false
not_scratch tensor level Range of = refl
not_scratch tensor level (Values n) of = refl
not_scratch tensor level (Dimension n k) of = refl
not_scratch tensor level (Ends n k) of = refl
not_scratch tensor level (Coordinates n k) of = refl
not_scratch tensor level (Width n k) of = refl
not_scratch tensor level (Key n k) of = refl
not_scratch tensor level (Sums n) of = refl
not_scratch tensor level (ListCoordinates n) of = absurd of
not_scratch tensor level (ListPositions n) of = absurd of

-- so it stays where nothing but the workspace changes, and other scratch lists
pub still_pushed : (nothing : ℕ) (letters : List Letter) (sizes : List ℕ) (w keys g first past : ℕ)
    → IsOffLists first past (ListPositions g) → (before after : List Entry)
    (made more all : LoopKind → ℕ) (mine : ℕ → Type 0) (top : ℕ) (t u : State)
    → IsFilled nothing letters sizes w keys g before made t
    → Leaves mine (λ b. (IsOfWorkspace w b → ⊥) × IsOffLists first past b) top more t u
    → ((k : LoopKind) → made k + more k ≤ all k) → HoldsRows w keys after u.arrays
    → IsFilled nothing letters sizes w keys g after all u
still_pushed nothing letters sizes w keys g first past off before after made more all mine top t u f leaves within holds = record {
  holds = holds;
  below = starts_kept nothing letters sizes 1 1 t.arrays u.arrays (λ j x from of. leaves.arrays x (
    levels_beside w 0 j x of,
    λ i. off_lists first past x (not_scratch 0 j x of) i,
  )) (leaves.arrays (Values 0) values_off) f.below;
  values = leaves.arrays (Values 0) values_off ∙ f.values;
  list = leaves.arrays (ListPositions g) (λ no. no, off) ∙ f.list;
  turns = λ k. (let first = f.turns k in let then_more = leaves.turns k in let few = within k in omega (arith, first, then_more, few));
}
  where
    values_off : (IsOfWorkspace w (Values 0) → ⊥) × IsOffLists first past (Values 0)
    values_off = (λ no. no, λ i. off_lists first past (Values 0) refl i)

pub still_filled : (nothing : ℕ) (letters : List Letter) (sizes : List ℕ) (w keys g : ℕ) (before after : List Entry)
    (made more all : LoopKind → ℕ) (mine : ℕ → Type 0) (top : ℕ) (t u : State)
    → IsFilled nothing letters sizes w keys g before made t → Leaves mine (λ b. IsOfWorkspace w b → ⊥) top more t u
    → ((k : LoopKind) → made k + more k ≤ all k) → HoldsRows w keys after u.arrays
    → IsFilled nothing letters sizes w keys g after all u
still_filled nothing letters sizes w keys g before after made more all mine top t u f leaves within holds =
    still_pushed nothing letters sizes w keys g 0 0 (λ i. let b = i.before in absurd (omega (arith, b))) before after made more all mine top
    t u f (record { below = leaves.below; arrays = λ b k. leaves.arrays b k.0; turns = leaves.turns }) within holds

-- the rows are those of their table
holds_table : (w keys : ℕ) (rows : List Entry) (arrays : Arrays) → HoldsRows w keys rows arrays
    → HoldsTable w keys (table_of rows) arrays
holds_table w keys rows arrays h =
    let c = columns_are_tables rows in
    record {
      key = λ k less. record {
        words = column k rows;
        held = h.key k less;
        many = c.keys_many k;
        are = λ i inside. c.keys k i inside;
      };
      sums = record { words = values rows; held = h.sums; many = c.values_many; are = λ i inside. c.each_value i inside };
    }

next_apart : (j : ℕ) → j ≢ suc j
next_apart j e = omega (arith, e)

-- with a zero for each row in the scratch list, the result may be filled from them
module _ (nothing : ℕ) (letters : List Letter) (sizes : List ℕ) (w keys g : ℕ) (rows : List Entry) (most : LoopKind → ℕ) (t : State)
    (f : IsFilled nothing letters sizes w keys g rows most t) (many : keys ≡ length letters) where
  abbrev zeros : List ℕ
  zeros = replicate (length (values rows)) 0

  abbrev u : State
  u = set_array t (ListPositions g) (replicate (length (values rows)) 0)

  beside : (j : ℕ) (x : Arr) → IsOf 0 j x → same_arr (ListPositions g) x ≡ false
  beside j x of = (stays_other x j (suc j) g (next_apart j) of).1

  pub ready : IsReady nothing letters sizes (table_of rows) w g (set_array t (ListPositions g) (replicate (length (values rows)) 0))
  ready = record {
    places = ap (λ b. if b then Some zeros else t.arrays (ListPositions g)) (same_arr_self (ListPositions g))
        ∙ ap (λ n. Some (replicate n 0)) (columns_are_tables rows).values_many;
    rows = subst (λ n. HoldsTable w n (table_of rows) u.arrays) many
        (holds_table w keys rows u.arrays
        (record { key = λ k less. f.holds.key k less; sums = f.holds.sums; few = f.holds.few }));
    below = starts_kept nothing letters sizes 1 1 t.arrays u.arrays
        (λ j x from of. ap (λ b. if b then Some zeros else t.arrays x) (beside j x of)) refl f.below;
    values = f.values;
  }

-- rows of a result may fill its levels
pub may_drain : (a : Arithmetic) (s : Statement) (formats : List (List FormatLevel)) (store : Store) → IsStoreOf s formats store
    → (rows : List Entry) → AreRowsOfResult a s store rows → length rows ≤ greatest_workspace_pairs
    → MayDrain (letters_of store.format) (in_level_order store.format store.ranges) (table_of rows)
may_drain a s formats store is rows are few =
    let small = stores_have_small_levels s formats store is in
    record {
      each = small.each;
      small = small.small;
      order = subst (λ n. Increase (table_of rows).coords n (length rows))
          (sym (length-map store.format (λ (level : FormatLevel). level.letter))) are.order;
      below = are.below;
      few = few;
    }
