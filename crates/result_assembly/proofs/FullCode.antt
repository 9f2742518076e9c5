-- The code of a full level: nothing is stored, but a count of positions that passes the limit is refused.
use Rattle.std.specs.Prelude.{◌≡◌, ◌⊎◌, ℕ, suc, ◌+◌, ◌*◌, ◌≤◌, ◌<◌, nat_le, true, false, List, [], ◌∷◌, ◌++◌, drop, length, Some, refl}
use Rattle.std.specs.Prelude.{slice_index}
use Rattle.std.proofs.Common.{◌∙◌, sym, subst, arith, inl, inr}
use Rattle.std.proofs.lemmas.Bool.{cases_lt}
use Rattle.std.proofs.lemmas.Bool.Decides.{nat_tests}
use Rattle.limits.specs.Limits.{greatest_position_count}
use Rattle.kernel_code.specs.Arrays.{may_have}
use Rattle.kernel_code.specs.Does.{Does}
use Rattle.kernel_code.proofs.Does.{does_weaker, does_nothing, does_set, does_extend, does_if_yes, does_if_no}
use Rattle.kernel_code.specs.Keeps.{Below, EveryArray}
use Rattle.kernel_code.proofs.Keeps.{this_var, other_var, value_kept}
use Rattle.kernel_code.proofs.Words.{word_is, less_yes, less_no}
use Rattle.kernel_code.specs.Meaning.{Setting, State, value, set_var}
use Rattle.kernel_code.specs.declared.syntax.Arr.TheVariants.{Key, Values, Dimension}
use Rattle.kernel_code.specs.declared.syntax.KExpr.{KExpr, Num, Var, At, Bin}
use Rattle.kernel_code.specs.declared.syntax.KStmt.{KStmt, Set, Extend}
use Rattle.kernel_code.specs.declared.syntax.Op.TheVariants.{Less}
use Rattle.level_core.specs.declared.letter.Letter.{Letter}
use Rattle.level_core.specs.Kinds.{properties, positions_for}
use Rattle.level_core.specs.GuardedProducts.{guarded_product, StandsForProduct}
use Rattle.level_core.proofs.GuardedProducts.{guarded_told, all_parents, sizes_are_factors}
use Rattle.level_core.proofs.KindLaws.{full_positions}
use Rattle.level_rows.specs.Rows.{Rows}
use Rattle.level_rows.specs.Placing.{PlacesRows, probes_each}
use Rattle.tensor_storage.specs.Chains.{chain_length}
use Rattle.tensor_storage.specs.Counts.{positions_from}
use Rattle.tensor_storage.specs.Levels.{meaning}
use Rattle.tensor_storage.specs.Tables.{Table}
use Rattle.tensor_storage.proofs.Tables.{apart}
use Rattle.result_assembly.specs.Drained.{passes_at, MayDrain, AreDrained, LeavesLevel, RefusesLevel}
use Rattle.result_assembly.specs.Tests.{begins_test, guard_code}
use Rattle.result_assembly.proofs.CountedCode.{still_drained}
use Rattle.result_assembly.proofs.KindLaws.{full_never, full_unprobed}
use Rattle.result_assembly.proofs.Inserted.{inserted, told_level, needed_is}
use Rattle.result_assembly.proofs.Steps.{size_here, rows_here, small, starts_here}
use Rattle.result_assembly.proofs.Turns.{times_of, times_most, pass_here, none_then_placed}

module _ (letters rest : List Letter) (letter : Letter) (full : (properties letter).full ≡ true) (w g d n base : ℕ) (count : KExpr)
    (insert : List KStmt) (bounded : Below base count) (left : drop d letters ≡ letter ∷ rest)
    (through : n ≡ d + chain_length (letter ∷ rest))
    (places : PlacesRows meaning letter (suc d) (base + 1) w g count (Num 0) (begins_test (base + 1) w n)
    (At (Key w d) (Var (base + 1))) insert)
    (c : Setting) (nothing : ℕ) (sizes : List ℕ) (table : Table) (may : MayDrain letters sizes table)
    (s : State) (dr : AreDrained nothing letters sizes table w g d count s) where
  abbrev rows : Rows
  rows = rows_here letters rest letter w g d n count left through nothing sizes table may s dr

  abbrev size : ℕ
  size = size_here letters rest letter w g d n count left through nothing sizes table may s dr

  product : (n : ℕ) × (value (guarded_product count (At (Dimension 0 (suc d)) (Num 0))) s ≡ Some n) × StandsForProduct dr.parents size n
  product =
      guarded_told count (At (Dimension 0 (suc d)) (Num 0)) dr.parents size s dr.told
      (word_is (Dimension 0 (suc d)) (Num 0) (size ∷ []) 0 size s
      ((starts_here letters rest letter w g d n count left through nothing sizes table may s dr).0.size full) refl refl)
      (sizes_are_factors size (small letters rest letter w g d n count left through nothing sizes table may s dr))

  abbrev total : ℕ
  total = product.0

  -- as many as the kind says
  needs : positions_for letter size dr.parents 0 ≡ dr.parents * size
  needs = full_positions letter size dr.parents 0 full

  counted : positions_for letter size dr.parents 0 ≤ greatest_position_count → total ≡ positions_for letter size dr.parents 0
  counted h = let same = needs in product.2.same (omega (arith, h, same)) ∙ sym needs

  all_fit : total ≤ greatest_position_count → positions_for letter size dr.parents 0 ≤ greatest_position_count
  all_fit fits = let all = all_parents dr.parents size total product.2 fits in let same = needs in omega (arith, fits, all, same)

  abbrev then : State
  then = set_var s base total

  drained_then : AreDrained nothing letters sizes table w g d count then
  drained_then = still_drained nothing letters sizes table w g d count s then dr refl
      (value_kept (λ y. y < base) EveryArray count s then bounded
      (λ y less. other_var s base y total (λ e. absurd (omega (arith, e, less)))) (λ a every. refl))

  inserts : total ≤ greatest_position_count
      → Does c insert then (LeavesLevel nothing letters sizes table w g d base s) (RefusesLevel letters sizes table d s)
  unfolding drained_then
  inserts fits =
      does_weaker c insert then _ _ _ _
      (inserted letters rest letter w g d n base count (Num 0) left through (full_never letter full) nothing sizes table may
      then drained_then 0 (λ stored. apart (sym full ∙ stored)) (λ _. refl) total (this_var s base total) counted c insert places refl
      (omega arith)
      (λ _. all_fit fits))
      (λ u z. record {
        drained = z.0;
        probes = times_of (probes_each letter 0) rows.count;
        few = λ width narrow. let none = full_unprobed letter full in times_most rows.count (probes_each letter 0) width
            (omega (arith, none));
        leaves = record {
          below = λ y less no. z.1.below y (omega (arith, less)) no ∙ other_var s base y total (λ e. absurd (omega (arith, e, less)));
          arrays = λ a st. z.1.arrays a st;
          turns = λ k. none_then_placed (s.turns k) (u.turns k) (passes_at letters d) rows.count (probes_each letter 0) k
              (pass_here letters rest letter d rows.count left) (z.1.turns k);
        };
      })
      (λ turns a k r. (
        times_of (probes_each letter 0) rows.count,
        (
          (λ j. none_then_placed (s.turns j) (turns j) (passes_at letters d) rows.count (probes_each letter 0) j
              (pass_here letters rest letter d rows.count left) (r.0 j)),
          r.1,
        ),
      ))

  guarded : Does c (guard_code base ++ insert) then (LeavesLevel nothing letters sizes table w g d base s)
      (RefusesLevel letters sizes table d s)
  guarded = by_limit (cases_lt greatest_position_count total)
    where
      by_limit : (greatest_position_count < total) ⊎ (total ≤ greatest_position_count)
          → Does c (guard_code base ++ insert) then (LeavesLevel nothing letters sizes table w g d base s)
          (RefusesLevel letters sizes table d s)
      by_limit (inl above) =
          does_if_yes c (Bin Less (Num greatest_position_count) (Var base)) (Extend (Values 0) (Var base) (Num 0) ∷ []) [] insert then 0
          (λ t. ⊥) _ _ (less_yes (Num greatest_position_count) (Var base) greatest_position_count total
          then refl (this_var s base total) above)
          (does_extend c (Values 0) (Var base) (Num 0) [] then total 0 [] (λ t. ⊥) (RefusesLevel letters sizes table d s)
          (this_var s base total) refl refl dr.values (λ may. too_many may)
          (λ no. (
            0,
            (
              (λ k. omega arith),
              record {
                array = inr refl;
                above = omega (arith, above);
                within = at_most;
              },
            ),
          )))
          (λ t never. absurd never)
        where
          too_many : {A : Type 0} → may_have (Values 0) (length {A = ℕ} [] + total) ≡ true → A
          too_many e = let is : nat_le (0 + total) greatest_position_count ≡ false = grind (arith, nat_tests) in apart (sym e ∙ is)

          at_most : 0 + total ≤ slice_index (positions_from table 0 1 letters sizes) d
          at_most =
              let f = product.2.within in
              let told = told_level letters rest letter w g d n base count (Num 0) left through (full_never letter full) nothing
              sizes table may
              s dr 0 (λ stored. apart (sym full ∙ stored)) (λ _. refl) in
              let same = needed_is letters rest letter w g d n base count (Num 0) left through (full_never letter full) nothing
              sizes table may
              s dr 0 (λ stored. apart (sym full ∙ stored)) (λ _. refl) in
              let as_many = needs in omega (arith, f, told, same, as_many)
      by_limit (inr fits) =
          does_if_no c (Bin Less (Num greatest_position_count) (Var base)) (Extend (Values 0) (Var base) (Num 0) ∷ []) [] insert then
          (λ t. t ≡ then) _ _
          (less_no (Num greatest_position_count) (Var base) greatest_position_count total then refl (this_var s base total) fits)
          (does_nothing c then _ _ refl)
          (λ t is. subst (λ u. Does c insert u (LeavesLevel nothing letters sizes table w g d base s)
          (RefusesLevel letters sizes table d s))
          (sym is) (inserts fits))

  pub full_level : Does c (Set base (guarded_product count (At (Dimension 0 (suc d)) (Num 0))) ∷ (guard_code base ++ insert)) s
      (LeavesLevel nothing letters sizes table w g d base s) (RefusesLevel letters sizes table d s)
  full_level = does_set c base (guarded_product count (At (Dimension 0 (suc d)) (Num 0))) (guard_code base ++ insert) s total _ _
      product.1 guarded
