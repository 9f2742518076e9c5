-- The children of a coordinate below a parent.
use Rattle.std.specs.Prelude.{ℕ, ◌==◌, if◌then◌else◌, List, [], ◌∷◌, Option, Some, None}
use Rattle.level_core.specs.declared.span.Span.{Span}
use Rattle.level_core.specs.declared.span.Entry.{Entry}

-- the child positions of the coordinate, if it is there
abbrev pub child_of : List Entry → ℕ → Option Span
child_of [] x = None
child_of (e ∷ es) x = if e.coord == x then Some e.child else child_of es x
