-- What the code does that counts the positions of a full level.
use Rattle.std.specs.Prelude.{◌≡◌, ◌⊎◌, ℕ, ◌+◌, ◌-◌, ◌*◌, ◌≤◌, ◌<◌, nat_le, true, false, List, [], ◌∷◌, length, Some, refl}
use Rattle.std.proofs.Common.{◌∙◌, sym, ap, arith, inl, inr}
use Rattle.std.proofs.lemmas.Bool.{cases_lt}
use Rattle.std.proofs.lemmas.Bool.Decides.{nat_tests}
use Rattle.limits.specs.Limits.{greatest_position_count}
use Rattle.kernel_code.specs.Arrays.{may_have}
use Rattle.kernel_code.specs.Does.{Does}
use Rattle.kernel_code.proofs.Does.{does_nothing, does_set, does_extend, does_if_yes, does_if_no}
use Rattle.kernel_code.specs.Keeps.{Leaves, EveryArray, no_turns}
use Rattle.kernel_code.proofs.Keeps.{this_var, leaves_set, leaves_none}
use Rattle.kernel_code.proofs.Words.{word_is, difference_is, less_yes, less_no}
use Rattle.kernel_code.specs.Meaning.{Setting, State, set_var, length_of}
use Rattle.kernel_code.specs.declared.syntax.Arr.TheVariants.{Values, Dimension}
use Rattle.kernel_code.specs.declared.syntax.Op.TheVariants.{Sub, Less}
use Rattle.kernel_code.specs.declared.syntax.KExpr.{KExpr, Num, Var, Len, At, Bin}
use Rattle.kernel_code.specs.declared.syntax.KStmt.{Extend}
use Rattle.level_core.specs.Fragments.{RefusedWithin}
use Rattle.level_core.specs.GuardedProducts.{guarded_product, StandsForProduct}
use Rattle.level_core.proofs.GuardedProducts.{guarded_told, sizes_are_factors, all_parents}
use Rattle.level_appends.specs.Positions.{refuse_code, count_code, PassesCount, IsOne, CountsPositions}

apart : {A : Type 0} → true ≡ false → A
apart e = absurd (never e)
  where
    never : true ≡ false → ⊥
    never e = cc

module _ (level total : ℕ) (parents_is : KExpr) (c : Setting) (size parents top : ℕ) (values : List ℕ)
    (small : size ≤ greatest_position_count)
    (few : length values ≤ greatest_position_count) (s : State) (sized : s.arrays (Dimension 0 level) ≡ Some (size ∷ []))
    (held : s.arrays (Values 0) ≡ Some values) (n : ℕ) (product : StandsForProduct parents size n) where
  by_limit : (greatest_position_count < n) ⊎ (n ≤ greatest_position_count)
      → Does c (refuse_code total) (set_var s total n)
      (λ t. Leaves (IsOne total) EveryArray top no_turns s t × (t.vars total ≡ Some (parents * size))
      × (parents * size ≤ greatest_position_count)) (RefusedWithin no_turns s (PassesCount (parents * size)))
  by_limit (inl above) =
      does_if_yes c (Bin Less (Num greatest_position_count) (Var total))
      (Extend (Values 0) (Bin Sub (Var total) (Len (Values 0))) (Num 0) ∷ []) [] [] (set_var s total n) 0 (λ t. ⊥) _ _
      (less_yes (Num greatest_position_count) (Var total) greatest_position_count n (set_var s total n) refl (this_var s total n) above)
      (does_extend c (Values 0) (Bin Sub (Var total) (Len (Values 0))) (Num 0) [] (set_var s total n) (n - length values) 0 values
      (λ t. ⊥) _
      (difference_is (Var total) (Len (Values 0)) n (length values) (set_var s total n) (this_var s total n) (ap length_of held)
      product.word (omega (arith, above, few))) refl refl held
      (λ may. too_many may)
      (λ no. (
        (λ k. omega arith),
        record { array = refl; above = omega (arith, above, few); within = (let w = product.within in omega (arith, w, above, few)) },
      )))
      (λ t never. absurd never)
    where
      too_many : {A : Type 0} → may_have (Values 0) (length values + (n - length values)) ≡ true → A
      too_many e =
          let beyond : greatest_position_count < length values + (n - length values) = omega (arith, above, few) in
          let is : nat_le (length values + (n - length values)) greatest_position_count ≡ false = grind (arith, nat_tests) in
          apart (sym e ∙ is)
  by_limit (inr fits) =
      does_if_no c (Bin Less (Num greatest_position_count) (Var total))
      (Extend (Values 0) (Bin Sub (Var total) (Len (Values 0))) (Num 0) ∷ []) [] [] (set_var s total n)
      (λ t. Leaves (IsOne total) EveryArray top no_turns s t × (t.vars total ≡ Some (parents * size))
      × (parents * size ≤ greatest_position_count)) _ _
      (less_no (Num greatest_position_count) (Var total) greatest_position_count n (set_var s total n) refl (this_var s total n) fits)
      (does_nothing c (set_var s total n) _ _ (
        leaves_set (IsOne total) EveryArray top no_turns s s total n (λ y l e. sym e) (leaves_none (IsOne total) EveryArray top no_turns s),
        this_var s total n ∙ ap Some (all_parents parents size n product fits),
        (let all = all_parents parents size n product fits in omega (arith, all, fits)),
      ))
      (λ t k. does_nothing c t _ _ k)

pub counts_positions : (level total : ℕ) (parents_is : KExpr) → CountsPositions level total parents_is (count_code level total parents_is)
counts_positions level total parents_is c size parents top values small few s sized held is =
    let product = guarded_told parents_is (At (Dimension 0 level) (Num 0)) parents size s is
    (word_is (Dimension 0 level) (Num 0) (size ∷ []) 0 size s sized refl refl) (sizes_are_factors size small) in
    does_set c total (guarded_product parents_is (At (Dimension 0 level) (Num 0))) (refuse_code total) s product.0 _ _ product.1
    (by_limit level total parents_is c size parents top values small few s sized held product.0 product.2
    (cases_lt greatest_position_count product.0))
