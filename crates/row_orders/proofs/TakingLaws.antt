-- What is so of a statement, a format and an order by how the result takes its rows.
use Rattle.std.specs.Prelude.{◌≡◌, ℕ, zero, suc, not, ◌&&◌, ◌||◌, Bool, true, false, if◌then◌else◌, List, [], ◌∷◌, refl}
use Rattle.std.specs.List.{list_all, list_any}
use Rattle.std.proofs.Common.{◌∙◌, ap, arith}
use Rattle.level_core.specs.Kinds.{properties}
use Rattle.level_core.specs.declared.letter.Letter.{Letter}
use Rattle.level_core.specs.declared.letter.Letter.TheVariants as letter
use Rattle.format_spec.specs.declared.format.FormatLevel.{FormatLevel}
use Rattle.index_notation.specs.declared.syntax.Statement.{Statement}
use Rattle.iteration_graph.specs.Edges.{by_level}
use Rattle.concrete_notation.specs.Workspaces.{AreAllDense}
use Rattle.row_orders.specs.declared.takings.Taking.{Taking}
use Rattle.row_orders.specs.declared.takings.Taking.TheVariants.{AddedInPlace, AppendedInPlace, ThroughWorkspace}
use Rattle.row_orders.specs.Heads.{is_dense, head_levels, result_levels}
use Rattle.row_orders.specs.Takings.{calls_for_workspace, is_inside_sum, is_unordered, taking_of}
use Rattle.row_orders.proofs.Lists.{clash}
use Rattle.row_orders.proofs.Orders.{no_head}

dense_letter : (l : Letter) → (properties l).full ≡ true → l ≡ letter.Dense
dense_letter letter.Dense h = refl
dense_letter letter.Compressed h = absurd (cc h)
dense_letter letter.CompressedGroups h = absurd (cc h)
dense_letter letter.Singleton h = absurd (cc h)
dense_letter letter.SingletonGroups h = absurd (cc h)
dense_letter letter.Hashed h = absurd (cc h)

both_true : (a b : Bool) → (a && b) ≡ true → (a ≡ true) × (b ≡ true)
both_true true b h = (refl, h)
both_true false b h = absurd (cc h)

-- all levels pass the test exactly where all are dense
pub all_dense : (levels : List FormatLevel) → list_all is_dense levels ≡ true → AreAllDense levels
all_dense [] h k d l = absurd (omega (arith, l))
all_dense (level ∷ levels) h zero d l = dense_letter level.letter (both_true (is_dense level) (list_all is_dense levels) h).0
all_dense (level ∷ levels) h (suc k) d l =
    all_dense levels (both_true (is_dense level) (list_all is_dense levels) h).1 k d (omega (arith, l))

all_pass : (levels : List FormatLevel) → AreAllDense levels → list_all is_dense levels ≡ true
all_pass [] h = refl
all_pass (level ∷ levels) h =
    ap (λ l. (properties l).full && list_all is_dense levels) (h 0 level (omega arith))
    ∙ all_pass levels (λ k d l. h (suc k) d (omega (arith, l)))

none_unordered : (levels : List FormatLevel) → AreAllDense levels → list_any is_unordered levels ≡ false
none_unordered [] h = refl
none_unordered (level ∷ levels) h =
    ap (λ l. not (properties l).ordered || list_any is_unordered levels) (h 0 level (omega arith))
    ∙ none_unordered levels (λ k d l. h (suc k) d (omega (arith, l)))

-- a result that is dense throughout calls for no workspace
pub dense_calls_for_none : (s : Statement) (formats : List (List FormatLevel)) (order : List ℕ) → AreAllDense (result_levels s formats)
    → calls_for_workspace s formats order ≡ false
dense_calls_for_none s formats order dense =
    let levels = result_levels s formats in
    ap (λ b. b || list_any (is_inside_sum s order) (by_level (head_levels levels) s.left.vars)) (none_unordered levels dense)
    ∙ ap (λ ls. list_any (is_inside_sum s order) (by_level ls s.left.vars)) (no_head levels (all_pass levels dense))

module _ (s : Statement) (formats : List (List FormatLevel)) (order : List ℕ) where
  -- what the result's taking tells
  abbrev pub Told : Taking → Type 0
  Told AddedInPlace = AreAllDense (result_levels s formats)
  Told AppendedInPlace = (AreAllDense (result_levels s formats) → ⊥) × (calls_for_workspace s formats order ≡ false)
  Told ThroughWorkspace = (AreAllDense (result_levels s formats) → ⊥) × (calls_for_workspace s formats order ≡ true)

  pub taking_tells : Told (taking_of s formats order)
  taking_tells = by (list_all is_dense (result_levels s formats)) refl (calls_for_workspace s formats order) refl
    where
      by : (dense : Bool) → list_all is_dense (result_levels s formats) ≡ dense → (called : Bool)
          → calls_for_workspace s formats order ≡ called
          → Told (if dense then AddedInPlace else (if called then ThroughWorkspace else AppendedInPlace))
      by true is called c = all_dense (result_levels s formats) is
      by false is true c =
          (λ dense. clash (list_all is_dense (result_levels s formats)) (all_pass (result_levels s formats) dense) is, c)
      by false is false c =
          (λ dense. clash (list_all is_dense (result_levels s formats)) (all_pass (result_levels s formats) dense) is, c)
