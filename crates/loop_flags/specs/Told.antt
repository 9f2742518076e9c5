-- Flags that tell of some accesses whether they are present: of sums that are not made yet, of which the places can't tell.
use Rattle.std.specs.Prelude.{◌≡◌, ℕ, nat_eq, Bool, ◌&&◌, if◌then◌else◌, List, [], ◌∷◌, Option, Some, None}
use Rattle.kernel_code.specs.declared.syntax.KExpr.{KExpr}
use Rattle.loop_code.specs.declared.loops.Seek.{Seek}
use Rattle.loop_code.specs.Loops.{Env}
use Rattle.loop_code.specs.Parts.{here, is_other}
use Rattle.term_code.specs.declared.places.Places.{Places}
use Rattle.term_code.specs.Presence.{Tells}
pub use Rattle.loop_flags.specs.declared.told.Told.{Told}

-- the flag that is given of an access
abbrev pub flag_of : List Told → ℕ → Option KExpr
flag_of [] k = None
flag_of (t ∷ told) k = if nat_eq t.access k then Some t.flag else flag_of told k

-- wherever loops are, these are present: of the accesses of which a flag is given, those of which it tells so; of the others, those that
-- stand at their places, and of which these seeks find no level that isn't full
pub record ArePresent (places : Places) (told : List Told) (seeks : List Seek) (P : Env → ℕ → Bool) : Type 0 where
  pub given : (k : ℕ) (flag : KExpr) → flag_of told k ≡ Some flag → Tells places (λ env. P env k) flag
  pub others : (k : ℕ) → flag_of told k ≡ None → (env : Env) → P env k ≡ (is_other seeks k && here env k)

-- the flag tells what is so of the accesses that are present
abbrev pub TellsOf : Places → List Told → List Seek → ((ℕ → Bool) → Bool) → KExpr → Type 0
TellsOf places told seeks f flag = (P : Env → ℕ → Bool) → ArePresent places told seeks P → Tells places (λ env. f (P env)) flag
