-- A format without levels is dense throughout.
use Rattle.std.specs.Prelude.{◌≡◌, ℕ, List, [], ◌∷◌, length}
use Rattle.std.proofs.Common.{sym, ap, subst, arith}
use Rattle.format_spec.specs.declared.format.FormatLevel.{FormatLevel}
use Rattle.format_spec.specs.Formats.{letters_of}
use Rattle.iteration_graph.specs.Edges.{format_of}
use Rattle.concrete_notation.specs.Workspaces.{AreAllDense}

no_levels : (format : List FormatLevel) → letters_of format ≡ [] → AreAllDense format
no_levels [] h = λ k d l. absurd (omega (arith, l))
no_levels (level ∷ format) h = let long = ap length h in absurd (omega (arith, long))

-- so is that of the one tensor that has it
pub no_levels_dense : (format : List FormatLevel) (tensor : ℕ) → tensor ≡ 0 → letters_of format ≡ []
    → AreAllDense (format_of (format ∷ []) tensor)
no_levels_dense format tensor is none =
    subst (λ n. AreAllDense (format_of (format ∷ []) n)) (sym is) (no_levels format none)
