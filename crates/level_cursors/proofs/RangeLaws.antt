-- What the code of a cursor over a range does.
use Rattle.std.specs.Prelude.{◌≡◌, ◌≢◌, ℕ, zero, suc, ◌+◌, ◌≤◌, ◌<◌, if◌then◌else◌, [], ◌∷◌, Some, refl}
use Rattle.std.proofs.Common.{◌∙◌, sym, ap, subst, arith, inl, inr}
use Rattle.std.proofs.lemmas.Bool.Decides.{eqb_tells}
use Rattle.lists.proofs.Tests.{number_apart}
use Rattle.kernel_code.specs.declared.syntax.Op.TheVariants.{Add, Equal}
use Rattle.kernel_code.specs.declared.syntax.KExpr.{KExpr, Num, Var, Bin}
use Rattle.kernel_code.specs.declared.syntax.KStmt.{Set}
use Rattle.kernel_code.specs.Meaning.{State, word_of, set_var}
use Rattle.kernel_code.specs.Does.{Does, Never}
use Rattle.kernel_code.proofs.Does.{does_set, does_nothing, does_if_yes, does_if_no}
use Rattle.kernel_code.specs.Keeps.{Leaves, EveryArray, no_turns}
use Rattle.kernel_code.proofs.Keeps.{this_var, leaves_set, leaves_none}
use Rattle.kernel_code.proofs.Words.{binary_is, sum_is}
use Rattle.level_core.specs.Entries.{Rising, one}
use Rattle.tensor_storage.specs.Children.{child_of}
use Rattle.level_cursors.specs.Cursors.{no_coordinate, front, after}
use Rattle.level_cursors.specs.Ranges.{coordinates, all_coordinates, RangeStands, StartsRange, StepsRange, start_range_code}
use Rattle.level_cursors.specs.Ranges.{step_range_code}
use Rattle.level_cursors.proofs.Fronts.{no_coordinate_is_word, same_test, after_here, after_elsewhere, child_here}

-- every coordinate is there
pub range_has_each : (from count y : ℕ) → from ≤ y → y < from + count → child_of (coordinates from count) y ≡ Some (one y)
range_has_each from zero y l m = absurd (omega (arith, l, m))
range_has_each from (suc count) y l m = elim (eqb_tells from y) [
  | inl e ↦ child_here y (record { coord = from; child = one from }) (coordinates (from + 1) count) e.1 ∙ ap (λ x. Some (one x)) e.1
  | inr e ↦ ap (λ b. if b then Some (one from) else child_of (coordinates (from + 1) count) y) (number_apart from y e.1)
      ∙ range_has_each (from + 1) count y (omega (arith, l, e.1)) (omega (arith, m))
]

pub range_rising : (from count least : ℕ) → least ≤ from → Rising least (coordinates from count)
range_rising from zero least l = tt
range_rising from (suc count) least l = (l, range_rising (from + 1) count (from + 1) (omega arith))

module _ (front_at : ℕ) where
  set_front : (s : State) (top y : ℕ) → Leaves (λ z. z ≡ front_at) EveryArray top no_turns s (set_var s front_at y)
  set_front s top y = leaves_set (λ z. z ≡ front_at) EveryArray top no_turns s s front_at y (λ z b e. sym e)
      (leaves_none (λ z. z ≡ front_at) EveryArray top no_turns s)

  -- a state in which the front is set so that the cursor stands before these entries
  stands_set : (s : State) (y from count : ℕ) → from + count ≡ no_coordinate → y ≡ from
      → RangeStands front_at (coordinates from count) (set_var s front_at y)
  stands_set s y from count ends is = record {
    front_is = this_var s front_at y ∙ ap Some (is ∙ first count ends);
    from = from;
    count = count;
    is = refl;
    ends = ends;
  }
    where
      first : (count : ℕ) → from + count ≡ no_coordinate → from ≡ front (coordinates from count)
      first zero e = omega (arith, e)
      first (suc count) e = refl

  pub started : (flag : KExpr) → StartsRange front_at flag (start_range_code front_at flag)
  started flag = record {
    off = λ c s top is. does_if_no c flag _ (Set front_at (Num no_coordinate) ∷ []) [] s
        (λ t. Leaves (λ z. z ≡ front_at) EveryArray top no_turns s t × RangeStands front_at [] t) _ Never is
        (does_set c front_at (Num no_coordinate) [] s no_coordinate _ Never refl
        (does_nothing c (set_var s front_at no_coordinate) _ Never
        (set_front s top no_coordinate, stands_set s no_coordinate no_coordinate 0 (omega arith) refl)))
        (λ t h. does_nothing c t _ Never h);
    on = λ c s top n is. does_if_yes c flag (Set front_at (Num 0) ∷ []) _ [] s n
        (λ t. Leaves (λ z. z ≡ front_at) EveryArray top no_turns s t × RangeStands front_at all_coordinates t) _ Never is
        (does_set c front_at (Num 0) [] s 0 _ Never refl
        (does_nothing c (set_var s front_at 0) _ Never (set_front s top 0, stands_set s 0 0 no_coordinate (omega arith) refl)))
        (λ t h. does_nothing c t _ Never h);
  }

  pub stepped : (x : ℕ) → x < front_at → StepsRange front_at x (step_range_code front_at x)
  stepped x below c es s top at st h l w = elim (eqb_tells (front es) at) [ inr g ↦ no g.1 | inl g ↦ yes st.count st.is st.ends g.1 ]
    where
      no : front es ≢ at → Does c (step_range_code front_at x) s
          (λ t. Leaves (λ z. z ≡ front_at) EveryArray top no_turns s t × RangeStands front_at (after at es) t) Never
      no g = does_if_no c (Bin Equal (Var front_at) (Var x)) _ [] [] s
          (λ t. Leaves (λ z. z ≡ front_at) EveryArray top no_turns s t × RangeStands front_at (after at es) t) _ Never
          (binary_is Equal (Var front_at) (Var x) (front es) at s st.front_is h ∙ ap (λ b. Some (word_of b)) (number_apart (front es) at g))
          (does_nothing c s _ Never (
            leaves_none (λ z. z ≡ front_at) EveryArray top no_turns s,
            subst
                (λ ys. RangeStands front_at ys s) (sym (after_elsewhere at es g)) st,
          ))
          (λ t q. does_nothing c t _ Never q)

      yes : (count : ℕ) → es ≡ coordinates st.from count → st.from + count ≡ no_coordinate → front es ≡ at
          → Does c (step_range_code front_at x) s (λ t. Leaves (λ z. z ≡ front_at) EveryArray top no_turns s t
          × RangeStands front_at (after at es) t) Never
      yes zero is ends g = let none : front es ≡ no_coordinate = ap front is in absurd (omega (arith, none, g, l))
      yes (suc count) is ends g =
          let first : front es ≡ st.from = ap front is in
          let here : st.from ≡ at = omega (arith, first, g) in
          let rest : after at es ≡ coordinates (st.from + 1) count = ap (after at) is
          ∙ after_here at (record { coord = st.from; child = one st.from }) (coordinates (st.from + 1) count) here in
          subst (λ ys. Does c (step_range_code front_at x) s
          (λ t. Leaves (λ z. z ≡ front_at) EveryArray top no_turns s t × RangeStands front_at ys t) Never) (sym rest)
          (does_if_yes c (Bin Equal (Var front_at) (Var x)) (Set front_at (Bin Add (Var x) (Num 1)) ∷ []) [] [] s 0
          (λ t. Leaves (λ z. z ≡ front_at) EveryArray top no_turns s t × RangeStands front_at (coordinates (st.from + 1) count) t) _ Never
          (binary_is Equal (Var front_at) (Var x) (front es) at s st.front_is h ∙ ap (λ b. Some (word_of b)) (same_test (front es) at g))
          (does_set c front_at (Bin Add (Var x) (Num 1)) [] s (at + 1) _ Never
          (sum_is (Var x) (Num 1) at 1 s h refl (omega (arith, l, no_coordinate_is_word)))
          (does_nothing c (set_var s front_at (at + 1)) _ Never
          (set_front s top (at + 1), stands_set s (at + 1) (st.from + 1) count (omega (arith, ends)) (omega (arith, here)))))
          (λ t q. does_nothing c t _ Never q))
