-- What flags tell of what is made of parts, by what the parts' flags tell.
use Rattle.std.specs.Prelude.{◌≡◌, ℕ, Bool, true, ◌||◌, ◌&&◌, List, []}
use Rattle.kernel_code.specs.declared.syntax.KExpr.{KExpr}
use Rattle.index_notation.specs.declared.operator.Operator.{Operator}
use Rattle.index_notation.specs.declared.syntax.Expr.{Expr}
use Rattle.index_notation.specs.Operators.{is_there}
use Rattle.loop_code.specs.Loops.{Env}
use Rattle.loop_code.specs.Parts.{remains}
use Rattle.term_code.specs.declared.places.Places.{Places}
use Rattle.term_code.specs.Presence.{Tells}
use Rattle.loop_flags.specs.Told.{Told, ArePresent}

-- whatever the two tell, the flag tells that one of the two is so
abbrev pub TellsEither : KExpr → KExpr → KExpr → Type 0
TellsEither x y flag =
    (places : Places) (f g : Env → Bool) → Tells places f x → Tells places g y → Tells places (λ env. f env || g env) flag

-- that both are so
abbrev pub TellsBoth : KExpr → KExpr → KExpr → Type 0
TellsBoth x y flag =
    (places : Places) (f g : Env → Bool) → Tells places f x → Tells places g y → Tells places (λ env. f env && g env) flag

-- that the whole is there, by its sides
abbrev pub TellsThere : Operator → KExpr → KExpr → KExpr → Type 0
TellsThere o x y flag =
    (places : Places) (f g : Env → Bool) → Tells places f x → Tells places g y → Tells places (λ env. is_there o (f env) (g env)) flag

-- that what the one tells is so, and a part of another factor remains
abbrev pub TellsFactor : Places → List Told → KExpr → Expr → KExpr → Type 0
TellsFactor places told x other flag =
    (P : Env → ℕ → Bool) → ArePresent places told [] P → (f : Env → Bool) → Tells places f x
    → Tells places (λ env. f env && remains (P env) other) flag

-- where the two tell something of two sides that is so only where a part of the side remains, the flag tells that a part of the whole
-- remains and one of the two is so
abbrev pub TellsSides : Places → List Told → Operator → Expr → Expr → KExpr → KExpr → KExpr → Type 0
TellsSides places told o e f x y flag =
    (P : Env → ℕ → Bool) → ArePresent places told [] P → (g h : Env → Bool) → ((env : Env) → g env ≡ true → remains (P env) e ≡ true)
    → ((env : Env) → h env ≡ true → remains (P env) f ≡ true) → Tells places g x → Tells places h y
    → Tells places (λ env. is_there o (remains (P env) e) (remains (P env) f) && (g env || h env)) flag
