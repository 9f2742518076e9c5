-- What is printed of the accesses that are stored anew.
use Rattle.std.specs.Prelude.{ℕ, List, [], ◌∷◌, ◌++◌, codes}
use Rattle.std.specs.List.{flat_map}
use Rattle.std.specs.Fmt.{decimal}
use Rattle.bindings.specs.Names.{name_at}
use Rattle.index_notation.specs.declared.syntax.Name.{Name}
use Rattle.index_notation.specs.declared.syntax.Statement.{Statement}
use Rattle.mode_planner.specs.declared.plans.Repack.{Repack}
use Rattle.text_lines.specs.Pieces.{joined}

-- a variable of these, by its number, behind a comma
abbrev pub next_variable : List Name → ℕ → List ℕ
next_variable names number = joined (codes "," ∷ name_at names number ∷ [])

-- variables joined by commas
abbrev pub variables_text : List Name → List ℕ → List ℕ
variables_text names [] = []
variables_text names (number ∷ numbers) = name_at names number ++ flat_map (next_variable names) numbers

-- a mode behind a comma
abbrev pub next_mode : ℕ → List ℕ
next_mode mode = joined (codes "," ∷ decimal mode ∷ [])

-- modes joined by commas
abbrev pub modes_text : List ℕ → List ℕ
modes_text [] = []
modes_text (mode ∷ modes) = decimal mode ++ flat_map next_mode modes

-- a tensor of this name, the variables of its access, by their numbers, and modes
abbrev pub access_line : List ℕ → List Name → List ℕ → List ℕ → List ℕ
access_line name names numbers modes =
    joined (codes "repack " ∷ name ∷ codes "(" ∷ [])
    ++ (variables_text names numbers ++ (codes ") " ++ (modes_text modes ++ codes "\n")))

-- an access, and the order of modes in which its tensor is stored anew
abbrev pub repack_line : Statement → Repack → List ℕ
repack_line s repack = access_line (name_at s.tensors repack.access.tensor) s.vars repack.access.vars repack.modes

-- a line for each
abbrev pub plan_text : Statement → List Repack → List ℕ
plan_text s plan = flat_map (repack_line s) plan
