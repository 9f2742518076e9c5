-- Which workspaces a concrete statement has, by the format of the result.
use Rattle.std.specs.Prelude.{◌≡◌, ℕ, List, [], ◌∷◌, All}
use Rattle.level_core.specs.declared.letter.Letter.TheVariants.{Dense}
use Rattle.format_spec.specs.declared.format.FormatLevel.{FormatLevel}
use Rattle.iteration_graph.specs.Edges.{format_of}
use Rattle.index_notation.specs.declared.syntax.Statement.{Statement}
use Rattle.concrete_notation.specs.declared.concrete.Concrete.{Concrete}
use Rattle.concrete_notation.specs.Nests.{workspaces, left_in_order}

abbrev pub AreAllDense : List FormatLevel → Type 0
AreAllDense levels = All (λ level. level.letter ≡ Dense) levels

-- none where all levels of the result are dense, and else one, which is keyed by the left variables in loop order
pub record HasWorkspaces (s : Statement) (order : List ℕ) (formats : List (List FormatLevel)) (c : Concrete) : Type 0 where
  pub none : AreAllDense (format_of formats s.left.tensor) → workspaces c ≡ []
  pub one : (AreAllDense (format_of formats s.left.tensor) → ⊥) → workspaces c ≡ left_in_order s order ∷ []
