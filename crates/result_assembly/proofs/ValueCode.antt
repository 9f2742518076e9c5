-- The code that stores the values of rows at their positions.
use Rattle.std.specs.Prelude.{◌≡◌, ◌≢◌, ℕ, zero, suc, ◌+◌, ◌≤◌, ◌<◌, ◌^◌, nat_le, true, false, if◌then◌else◌, List, [], ◌∷◌, length}
use Rattle.std.specs.Prelude.{replicate, slice_index, slice_set, Some, refl}
use Rattle.std.proofs.Common.{◌∙◌, sym, ap, subst, arith}
use Rattle.std.proofs.lemmas.Bool.Decides.{nat_tests}
use Rattle.std.proofs.lemmas.List.{length-replicate}
use Rattle.std.proofs.lemmas.Option.{slice_get-get_or, same_Some}
use Rattle.limits.specs.Limits.{greatest_position_count}
use Rattle.kernel_code.specs.Arrays.{may_have}
use Rattle.kernel_code.specs.Does.{Does, Never, Goes}
use Rattle.kernel_code.proofs.Does.{does_nothing, does_set, does_extend, does_put, does_while}
use Rattle.kernel_code.specs.Keeps.{Leaves, NoVariable}
use Rattle.kernel_code.proofs.Keeps.{this_var, other_var, this_array, other_array}
use Rattle.kernel_code.proofs.ArrayNames.{same_arr_self}
use Rattle.kernel_code.proofs.Words.{word_is, sum_is, less_yes, less_no}
use Rattle.kernel_code.specs.Meaning.{Setting, State, value, length_of, set_var, set_array, one_turn, same_kind}
use Rattle.kernel_code.specs.declared.syntax.Arr.TheVariants.{Values, Sums, ListPositions}
use Rattle.kernel_code.specs.declared.syntax.KExpr.{KExpr, Num, Var, At, Len, Bin}
use Rattle.kernel_code.specs.declared.syntax.KStmt.{Set}
use Rattle.kernel_code.specs.declared.syntax.LoopKind.{LoopKind}
use Rattle.kernel_code.specs.declared.syntax.LoopKind.TheVariants.{Merge, Skip, Gather, Drain, Probe}
use Rattle.kernel_code.specs.declared.syntax.Op.TheVariants.{Add, Less}
use Rattle.level_core.specs.Fragments.{turns_of}
use Rattle.level_rows.specs.Values.{StoresValues}
use Rattle.level_rows.proofs.ValueLaws.{none_stored, one_stored}
use Rattle.tensor_storage.specs.Tables.{Table}
use Rattle.result_assembly.specs.Drained.{HasWords}
use Rattle.result_assembly.specs.Stored.{value_row_code, values_code, IsNoValue, LeavesValues}

turn_more : (x y done : ℕ) (k : LoopKind) → y ≤ x + turns_of Drain done k
    → (if same_kind Drain k then y + 1 else y) ≤ x + turns_of Drain (done + 1) k
turn_more x y done Merge h = omega (arith, h)
turn_more x y done Skip h = omega (arith, h)
turn_more x y done Gather h = omega (arith, h)
turn_more x y done Drain h = omega (arith, h)
turn_more x y done Probe h = omega (arith, h)

no_turn : (x : ℕ) (k : LoopKind) → x ≤ x + turns_of Drain 0 k
no_turn x Merge = omega arith
no_turn x Skip = omega arith
no_turn x Gather = omega arith
no_turn x Drain = omega arith
no_turn x Probe = omega arith

-- a state in which the values of the first rows are stored, and so many rows are left
record Storing (nothing : ℕ) (table : Table) (base parents : ℕ) (positions : List ℕ) (s : State) (n : ℕ) (t : State) : Type 0 where
  done : ℕ
  rest : done + n ≡ table.count
  at : t.vars base ≡ Some done
  values : List ℕ
  held : t.arrays (Values 0) ≡ Some values
  stores : StoresValues done (slice_index positions) table.values (replicate parents nothing) values
  leaves : Leaves NoVariable IsNoValue base (turns_of Drain done) s t

module _ (c : Setting) (w g base nothing : ℕ) (count : KExpr) (table : Table) (parents : ℕ) (positions : List ℕ) (s : State)
    (few_rows : table.count < 2 ^ 63) (few : parents ≤ greatest_position_count) (told : value count s ≡ Some parents)
    (empty : s.arrays (Values 0) ≡ Some []) (sums : HasWords (Sums w) table.count table.values s.arrays)
    (places : s.arrays (ListPositions g) ≡ Some positions) (many : length positions ≡ table.count)
    (within : (i : ℕ) → i < table.count → slice_index positions i < parents)
    (apart : (i j : ℕ) → i < j → j < table.count → slice_index positions i ≢ slice_index positions j) where
  abbrev test : KExpr
  test = Bin Less (Var base) (Len (Sums w))

  rows_told : (n : ℕ) (t : State) → Storing nothing table base parents positions s n t → value (Len (Sums w)) t ≡ Some table.count
  rows_told n t i = ap length_of (i.leaves.arrays (Sums w) refl ∙ sums.held) ∙ ap Some sums.many

  goes_on : (n : ℕ) (t : State) → (i : Storing nothing table base parents positions s (suc n) t) → value test t ≡ Some 1
  goes_on n t i =
      let rest = i.rest in
      less_yes (Var base) (Len (Sums w)) i.done table.count t i.at (rows_told (suc n) t i) (omega (arith, rest))

  ends : (n : ℕ) (t : State) → Storing nothing table base parents positions s n t → value test t ≡ Some 0
      → LeavesValues nothing table base parents positions s t
  ends zero t i no_more =
      let rest = i.rest in
      let all : i.done ≡ table.count = omega (arith, rest) in
      record {
        values = i.values;
        held = i.held;
        stores = subst (λ m. StoresValues m (slice_index positions) table.values (replicate parents nothing) i.values) all i.stores;
        leaves = subst (λ m. Leaves NoVariable IsNoValue base (turns_of Drain m) s t) all i.leaves;
      }
  ends (suc n) t i no_more =
      let one_none : 1 ≡ 0 = same_Some 1 0 (sym (goes_on n t i) ∙ no_more) in absurd (omega (arith, one_none))

  stops : (t : State) → Storing nothing table base parents positions s 0 t → value test t ≡ Some 0
  stops t i =
      let rest = i.rest in
      less_no (Var base) (Len (Sums w)) i.done table.count t i.at (rows_told 0 t i) (omega (arith, rest))

  module _ (n : ℕ) (t : State) (i : Storing nothing table base parents positions s (suc n) t) where
    inside : i.done < table.count
    inside = let rest = i.rest in omega (arith, rest)

    abbrev turned : State
    turned = one_turn t Drain

    abbrev place : ℕ
    place = slice_index positions i.done

    abbrev stored : List ℕ
    stored = slice_set i.values place (table.values i.done)

    abbrev put : State
    put = set_array turned (Values 0) stored

    abbrev next : State
    next = set_var put base (i.done + 1)

    place_told : value (At (ListPositions g) (Var base)) turned ≡ Some place
    place_told =
        let less = inside in
        word_is (ListPositions g) (Var base) positions i.done place turned (i.leaves.arrays (ListPositions g) refl ∙ places) i.at
        (slice_get-get_or positions i.done 0 (omega (arith, less, many)))

    value_told : value (At (Sums w) (Var base)) turned ≡ Some (table.values i.done)
    value_told =
        let less = inside in let long = sums.many in
        word_is (Sums w) (Var base) sums.words i.done (table.values i.done) turned (i.leaves.arrays (Sums w) refl ∙ sums.held) i.at
        (slice_get-get_or sums.words i.done 0 (omega (arith, less, long)) ∙ ap Some (sums.are i.done inside))

    placed_within : place < length i.values
    placed_within =
        let long = i.stores.long in let all = length-replicate parents nothing in let below = within i.done inside in
        omega (arith, long, all, below)

    stepped : Storing nothing table base parents positions s n next
    stepped = record {
      done = i.done + 1;
      rest = (let rest = i.rest in omega (arith, rest));
      at = this_var put base (i.done + 1);
      values = stored;
      held = this_array turned (Values 0) (Values 0) stored (same_arr_self (Values 0));
      stores = one_stored i.done table.count (slice_index positions) table.values (replicate parents nothing) i.values apart inside
          (let all = length-replicate parents nothing in let below = within i.done inside in omega (arith, all, below)) i.stores;
      leaves = record {
        below = λ y less no. other_var put base y (i.done + 1) (λ e. absurd (omega (arith, e, less))) ∙ i.leaves.below y less no;
        arrays = λ a st. other_array turned (Values 0) a stored st ∙ i.leaves.arrays a st;
        turns = λ k. turn_more (s.turns k) (t.turns k) i.done k (i.leaves.turns k);
      };
    }

    steps : Does c (value_row_code base w g) turned (Storing nothing table base parents positions s n) Never
    steps =
        does_put c (Values 0) (At (ListPositions g) (Var base)) (At (Sums w) (Var base)) (Set base (Bin Add (Var base) (Num 1)) ∷ [])
        turned place (table.values i.done) i.values _ _ place_told value_told refl i.held placed_within
        (does_set c base (Bin Add (Var base) (Num 1)) [] put (i.done + 1) _ _
        (sum_is (Var base) (Num 1) i.done 1 put i.at refl (let less = inside in omega (arith, less, few_rows)))
        (does_nothing c next _ _ stepped))

  pub values_stored : Does c (values_code base w g count nothing) s (LeavesValues nothing table base parents positions s) Never
  values_stored =
      does_extend c (Values 0) count (Num nothing) _ s parents nothing [] _ _ told refl refl empty
      (λ may. does_set c base (Num 0) _ (set_array s (Values 0) (replicate parents nothing)) 0 _ _ refl
      (does_while c Drain test (value_row_code base w g) [] (Storing nothing table base parents positions s)
      (LeavesValues nothing table base parents positions s) _ Never stops ends
      (λ n t i. Goes 0 (goes_on n t i) (steps n t i)) table.count
      (set_var (set_array s (Values 0) (replicate parents nothing)) base 0)
      first (λ t l. does_nothing c t _ _ l)))
      (λ never. too_many never)
    where
      too_many : {A : Type 0} → may_have (Values 0) (length {A = ℕ} [] + parents) ≡ false → A
      too_many e = let is : nat_le (0 + parents) greatest_position_count ≡ true = grind (arith, nat_tests, few) in
          absurd (no_way (sym is ∙ e))
        where
          no_way : true ≡ false → ⊥
          no_way e = cc

      first : Storing nothing table base parents positions s table.count
          (set_var (set_array s (Values 0) (replicate parents nothing)) base 0)
      first = record {
        done = 0;
        rest = omega arith;
        at = this_var (set_array s (Values 0) (replicate parents nothing)) base 0;
        values = replicate parents nothing;
        held = this_array s (Values 0) (Values 0) (replicate parents nothing) (same_arr_self (Values 0));
        stores = none_stored (slice_index positions) table.values (replicate parents nothing);
        leaves = record {
          below = λ y less no. other_var (set_array s (Values 0) (replicate parents nothing)) base y 0
              (λ e. absurd (omega (arith, e, less)));
          arrays = λ a st. other_array s (Values 0) a (replicate parents nothing) st;
          turns = λ k. no_turn (s.turns k) k;
        };
      }
