-- Code that adds the row of a term to a sink, where the term is present.
use Rattle.std.specs.Prelude.{◌≡◌, ℕ, ◌<◌, Bool, true, List, Some, All}
use Rattle.numbers.specs.Arithmetic.{Arithmetic, Laws}
use Rattle.kernel_code.specs.declared.syntax.KStmt.{KStmt}
use Rattle.kernel_code.specs.Meaning.{Setting, State}
use Rattle.kernel_code.specs.Keeps.{no_turns}
use Rattle.tensor_map.specs.Entries.{Entry}
use Rattle.expr_terms.specs.Points.{coords_at}
use Rattle.expr_terms.specs.Terms.{contains}
use Rattle.expr_terms.specs.declared.term.Term.{Term}
use Rattle.result_targets.specs.Sinks.{Sink, Adds}
use Rattle.loop_code.specs.Loops.{Env, Stored, row_of, term_value}
use Rattle.loop_code.specs.Places.{EachAccess}
use Rattle.term_code.specs.Places.{Places, Keeps, HasValues}

-- wherever the places are kept, the target's variables have coordinates, the term's accesses that are present have their values, and
-- the sink takes the term's row, if there is one, the code adds that row to those that the sink holds
abbrev pub AddsTerm : Arithmetic → {K : Type 0} → Sink K → K → Places → List ℕ → Term → ℕ → List KStmt → Type 0
AddsTerm a sink k places target t free code =
    (c : Setting) → c.arithmetic ≡ a → Laws a → ((y : ℕ) → sink.mine k y → y < free)
    → (these : ℕ → Bool) → EachAccess (λ j. these j ≡ true) t.expr
    → (ranges : List ℕ) (before : List Entry) (stored : Stored) (bound : List ℕ) (env : Env) → All (λ v. contains bound v ≡ true) target
    → ((v : ℕ) → term_value a stored env t ≡ Some v → sink.takes k ranges before
    (record { coords = coords_at env.point target; value = v }))
    → (s : State) → Keeps places bound env s → HasValues these places stored env s → sink.holds k c.arithmetic ranges before s
    → Adds sink k c ranges code free no_turns before (row_of (coords_at env.point target) (term_value a stored env t)) s
