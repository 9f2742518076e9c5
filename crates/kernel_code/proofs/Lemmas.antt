-- Lemmas about what specs/Laws.antt defines.
use Rattle.std.specs.Prelude.{◌≡◌, ℕ, ◌<◌, false, nat_lt, length, None, slice_index, refl}
use Rattle.std.proofs.Common.{◌∙◌, sym, ap, arith}
use Rattle.std.proofs.lemmas.Bool.Decides.{nat_tests}
use Rattle.kernel_code.specs.declared.syntax.Arr.TheVariants.{Range, Values, Dimension, Ends, Coordinates, Width, Key, Sums}
use Rattle.kernel_code.specs.declared.syntax.Arr.TheVariants.{ListCoordinates, ListPositions}
use Rattle.kernel_code.specs.Kernels.{empty_if}
use Rattle.kernel_code.proofs.TurnsLemmas.{at_least_list}
use Rattle.kernel_code.proofs.Does.{run_append}
use Rattle.kernel_code.proofs.Equations.{run_if, run_while}
use Rattle.kernel_code.specs.Keeps.{EveryArray}
use Rattle.kernel_code.proofs.Keeps.{value_kept}
use Rattle.kernel_code.specs.Laws.{DependsOnMentioned, RunsInOrder, ChoosesByTest, LoopsByTurns, TurnsNeverFall, StartsAsGiven}

pub depends_on_mentioned : DependsOnMentioned
depends_on_mentioned free e s s' b f g = value_kept (λ y. y < free) EveryArray e s s' b f (λ a h. g a)

pub runs_in_order : RunsInOrder
runs_in_order = run_append

pub chooses_by_test : ChoosesByTest
chooses_by_test = run_if

pub loops_by_turns : LoopsByTurns
loops_by_turns = run_while

pub turns_never_fall : TurnsNeverFall
turns_never_fall = at_least_list

no_number_below : (n : ℕ) → nat_lt n 0 ≡ false
no_number_below n = grind (arith, nat_tests)

none_below : (n m : ℕ) → m ≡ 0 → empty_if (nat_lt n m) ≡ None
none_below n m e = ap (λ j. empty_if (nat_lt n j)) e ∙ ap empty_if (no_number_below n)

pub starts_as_given : StartsAsGiven
starts_as_given k given none no_list h (Key w key) = none_below key (slice_index k.workspaces w) (ap (λ ws. slice_index ws w) none)
    ∙ sym (h (Key w key) refl)
starts_as_given k given none no_list h (Sums w) = none_below w (length k.workspaces) (ap length none) ∙ sym (h (Sums w) refl)
starts_as_given k given none no_list h (ListCoordinates g) = none_below g k.lists no_list ∙ sym (h (ListCoordinates g) refl)
starts_as_given k given none no_list h (ListPositions g) = none_below g k.lists no_list ∙ sym (h (ListPositions g) refl)
starts_as_given k given none no_list h Range = refl
starts_as_given k given none no_list h (Values n) = refl
starts_as_given k given none no_list h (Dimension n l) = refl
starts_as_given k given none no_list h (Ends n l) = refl
starts_as_given k given none no_list h (Coordinates n l) = refl
starts_as_given k given none no_list h (Width n l) = refl
