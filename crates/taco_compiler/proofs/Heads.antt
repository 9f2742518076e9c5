-- The variables of a head are the left ones in loop order that stand before the tail.
use Rattle.std.specs.Prelude.{◌≡◌, ℕ, zero, suc, ◌≤◌, Bool, true, false, not, cond, if◌then◌else◌, List, [], ◌∷◌, length, take, drop, refl}
use Rattle.std.specs.List.{take_while}
use Rattle.std.proofs.Common.{◌∙◌, sym, ap, arith}
use Rattle.std.proofs.lemmas.List.{length-drop}
use Rattle.std.proofs.lemmas.List.Sums.{take_while-cons}
use Rattle.kernel_code.specs.Kernels.{KernelOutcome, Finished, GotStuck, TooLong, NotFinished}
use Rattle.kernel_code.specs.declared.syntax.Place.TheVariants.{Level, Workspace}
use Rattle.format_spec.specs.declared.format.FormatLevel.{FormatLevel}
use Rattle.index_notation.specs.declared.syntax.Statement.{Statement}
use Rattle.concrete_notation.specs.Contributions.{Inputs}
use Rattle.concrete_notation.specs.Nests.{left_in_order}
use Rattle.row_orders.specs.Takings.{is_inside_sum}
use Rattle.head_pairs.specs.Heads.{head_variables}
use Rattle.taco_compiler.specs.Compiled.{IsUnrefused, NeedsOneHead}
use Rattle.taco_compiler.specs.Grouping.{IsTail}
use Rattle.taco_compiler.specs.Tails.{from_sum}

module _ (s : Statement) (order : List ℕ) where
  abbrev is_outside : ℕ → Bool
  is_outside v = not (is_inside_sum s order v)

  abbrev before : List ℕ → List ℕ
  before vs = take_while is_outside vs

  -- what begins with a summed variable before it is no longer than the whole
  tail_within : (vs : List ℕ) → length (from_sum s order vs) ≤ length vs
  tail_within [] = omega arith
  tail_within (v ∷ vs) = by (is_inside_sum s order v) (tail_within vs)
    where
      by : (b : Bool) → length (from_sum s order vs) ≤ length vs
          → length (if b then (v ∷ vs) else from_sum s order vs) ≤ length (v ∷ vs)
      by true rest = omega arith
      by false rest = omega (arith, rest)

  -- what stands before the tail is what comes before the first variable with a summed one before it
  before_tail : (n : ℕ) (vs : List ℕ) → n ≤ length vs → drop n vs ≡ from_sum s order vs → take n vs ≡ before vs
  before_tail zero [] within is = refl
  before_tail (suc n) [] within is = absurd (omega (arith, within))
  before_tail zero (v ∷ vs) within is = by (is_inside_sum s order v) is ∙ sym (take_while-cons is_outside v vs)
    where
      by : (b : Bool) → v ∷ vs ≡ (if b then (v ∷ vs) else from_sum s order vs) → take zero (v ∷ vs) ≡ cond (not b) (v ∷ before vs) []
      by true all = refl
      by false all = let same = ap length all in let rest = tail_within vs in absurd (omega (arith, same, rest))
  before_tail (suc n) (v ∷ vs) within is =
      by (is_inside_sum s order v) is (before_tail n vs (omega (arith, within))) ∙ sym (take_while-cons is_outside v vs)
    where
      by : (b : Bool) → drop n vs ≡ (if b then (v ∷ vs) else from_sum s order vs)
          → (drop n vs ≡ from_sum s order vs → take n vs ≡ before vs)
          → v ∷ take n vs ≡ cond (not b) (v ∷ before vs) []
      by true all later = let same = ap length all in let left = length-drop n vs in absurd (omega (arith, same, left))
      by false all later = ap (λ us. v ∷ us) (later all)

-- the variables of the loops around a workspace of the tail are the head's
pub head_is : (s : Statement) (formats : List (List FormatLevel)) (order : List ℕ) (first : ℕ) (modes : List ℕ)
    → IsTail s formats order first modes → take first (left_in_order s order) ≡ head_variables s order
head_is s formats order first modes tail =
    let many = tail.many in before_tail s order first (left_in_order s order) (omega (arith, many)) tail.rest

-- where no workspace is refused, none needs the pairs of a head
pub needs_no_head : (s : Statement) (order : List ℕ) (inputs : Inputs) (o : KernelOutcome) → IsUnrefused o → NeedsOneHead s order inputs o
needs_no_head s order inputs (Finished arrays turns) h = tt
needs_no_head s order inputs (GotStuck statement) h = h
needs_no_head s order inputs (TooLong (Level level) count) h = tt
needs_no_head s order inputs (TooLong Workspace count) h = absurd h
needs_no_head s order inputs NotFinished h = h
