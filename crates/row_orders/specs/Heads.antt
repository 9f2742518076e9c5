-- The head of a result: the variables of its levels down to where only dense levels are left.
use Rattle.std.specs.Prelude.{Bool, if◌then◌else◌, List, [], ◌∷◌, ℕ}
use Rattle.std.specs.List.{list_all}
use Rattle.level_core.specs.Kinds.{properties}
use Rattle.format_spec.specs.declared.format.FormatLevel.{FormatLevel}
use Rattle.index_notation.specs.declared.syntax.Statement.{Statement}
use Rattle.iteration_graph.specs.Edges.{by_level, format_of}

-- whether a level is dense, which the full ones are
abbrev pub is_dense : FormatLevel → Bool
is_dense level = (properties level.letter).full

-- the levels of a format through the last that isn't dense: the dense ones above it are among them
abbrev pub head_levels : List FormatLevel → List FormatLevel
head_levels [] = []
head_levels (level ∷ levels) = if list_all is_dense (level ∷ levels) then [] else (level ∷ head_levels levels)

-- the dense levels below those
abbrev pub tail_levels : List FormatLevel → List FormatLevel
tail_levels [] = []
tail_levels (level ∷ levels) = if list_all is_dense (level ∷ levels) then (level ∷ levels) else tail_levels levels

-- the levels of a statement's result
abbrev pub result_levels : Statement → List (List FormatLevel) → List FormatLevel
result_levels s formats = format_of formats s.left.tensor

-- their variables, from the top
abbrev pub left_levels : Statement → List (List FormatLevel) → List ℕ
left_levels s formats = by_level (result_levels s formats) s.left.vars

-- those of the head's levels
abbrev pub head : Statement → List (List FormatLevel) → List ℕ
head s formats = by_level (head_levels (result_levels s formats)) s.left.vars
