-- The lines in front of a body.
use Rattle.std.specs.Prelude.{ℕ, List, ◌++◌, codes}
use Rattle.std.specs.Fmt.{decimal}

-- the line of the scratch list of a number
abbrev pub list_line : ℕ → List ℕ
list_line n = codes "  scratch g" ++ (decimal n ++ codes ";\n")

-- the line of the workspace of a number, with its number of keys
abbrev pub workspace_line : ℕ → ℕ → List ℕ
workspace_line n keys = codes "  workspace w" ++ (decimal n ++ (codes " " ++ (decimal keys ++ codes ";\n")))
