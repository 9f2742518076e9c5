-- What the code of a term does.
use Rattle.std.specs.Prelude.{◌≡◌, ℕ, zero, suc, ◌+◌, ◌<◌, Bool, true, false, List, [], ◌∷◌, ◌++◌, length, map, Option, Some, None, All}
use Rattle.std.specs.Prelude.{slice_index, slice_index_or, refl}
use Rattle.std.proofs.Common.{◌∙◌, sym, ap, subst, arith}
use Rattle.std.proofs.lemmas.List.{append-nil}
use Rattle.numbers.specs.Arithmetic.{Arithmetic, Laws}
use Rattle.kernel_code.specs.declared.syntax.KExpr.{Var}
use Rattle.kernel_code.specs.declared.syntax.KStmt.{KStmt, If}
use Rattle.kernel_code.specs.Meaning.{Setting, State}
use Rattle.kernel_code.specs.Does.{Never}
use Rattle.kernel_code.proofs.Does.{does_append, does_nothing, does_if_yes, does_if_no, does_weaker}
use Rattle.kernel_code.specs.Keeps.{Leaves, no_turns}
use Rattle.kernel_code.proofs.Keeps.{leaves_none}
use Rattle.level_core.specs.Fragments.{OptionLeft, RefusedWithin}
use Rattle.tensor_map.specs.Entries.{Entry}
use Rattle.expr_terms.specs.Points.{coords_at}
use Rattle.expr_terms.specs.Terms.{contains}
use Rattle.expr_terms.specs.declared.term.Term.{Term}
use Rattle.result_targets.specs.Sinks.{Sink, SinkLaws, Adds, AddsTo, VarsAre}
use Rattle.result_targets.proofs.Scratch.{all_same}
use Rattle.loop_code.specs.Loops.{Env, access_values, row_of, term_value}
use Rattle.loop_code.specs.Places.{EachAccess}
use Rattle.loop_code.specs.PresentValues.{present_value, signed}
use Rattle.term_code.specs.Places.{Places, AreBelow, Keeps}
use Rattle.term_code.specs.Options.{LeavesOption}
use Rattle.term_code.specs.OptionCodes.{each_code}
use Rattle.term_code.specs.Terms.{AddsTerm}
use Rattle.term_code.proofs.OptionLaws.{leaves_same, negated_leaves}
use Rattle.term_code.proofs.PlaceLaws.{keeps_kept}

-- the value of a term by its sign
module _ (a : Arithmetic) (places : Places) (these : ℕ → Bool) (free : ℕ) (t : Term) (x : List KStmt)
    (leaves : LeavesOption a places these (λ stored env. present_value a (access_values stored env) t.expr) free x) where
  pub plain_leaves : t.negated ≡ false → LeavesOption a places these (λ stored env. term_value a stored env t) free x
  plain_leaves is =
      leaves_same a places these free (λ stored env. present_value a (access_values stored env) t.expr)
      (λ stored env. term_value a stored env t) x
      (λ stored env. ap (λ b. signed a b (present_value a (access_values stored env) t.expr)) (sym is)) leaves

  pub signed_leaves : t.negated ≡ true
      → LeavesOption a places these (λ stored env. term_value a stored env t) free (x ++ each_code a.minus_one free)
  signed_leaves is =
      leaves_same a places these free (λ stored env. signed a true (present_value a (access_values stored env) t.expr))
      (λ stored env. term_value a stored env t)
      (x ++ each_code a.minus_one free)
      (λ stored env. ap (λ b. signed a b (present_value a (access_values stored env) t.expr)) (sym is))
      (negated_leaves a places these free (λ stored env. present_value a (access_values stored env) t.expr) x leaves)

-- the kernel's variables of the target's are below free
pub keys_below : (free : ℕ) (variables target : List ℕ) → All (λ y. y < free) variables → All (λ v. v < length variables) target
    → (k d : ℕ) → k < length (map (slice_index variables) target) → slice_index_or (map (slice_index variables) target) k d < free
keys_below free variables [] low within k d l = absurd (omega (arith, l))
keys_below free variables (v ∷ vs) low within zero d l = low v 0 (within 0 0 (omega arith))
keys_below free variables (v ∷ vs) low within (suc k) d l =
    keys_below free variables vs low (λ j e m. within (suc j) e (omega (arith, m))) k d (omega (arith, l))

keys_are : (places : Places) (bound : List ℕ) (env : Env) (s : State) → Keeps places bound env s → (vs : List ℕ)
    → All (λ v. contains bound v ≡ true) vs → VarsAre (map (slice_index places.variables) vs) (map env.point vs) s
keys_are places bound env s keeps [] all = tt
keys_are places bound env s keeps (v ∷ vs) all =
    ((keeps.points v (all 0 0 (omega arith))).1, keys_are places bound env s keeps vs (λ j e m. all (suc j) e (omega (arith, m))))

module _ {K : Type 0} (sink : Sink K) (laws : SinkLaws sink) (k : K) (free : ℕ) (keys : List ℕ) (row : List KStmt)
    (row_law : AddsTo sink k keys (free + 1) (free + 2) row) where
  -- the row is added where the flag is set
  adds_row : (c : Setting) → Laws c.arithmetic → ((y : ℕ) → sink.mine k y → y < free)
      → (ranges : List ℕ) (before : List Entry) (coords : List ℕ) (o : Option ℕ)
      → ((v : ℕ) → o ≡ Some v → sink.takes k ranges before (record { coords = coords; value = v })) → (s : State) → VarsAre keys coords s
      → OptionLeft free o s → sink.holds k c.arithmetic ranges before s
      → Adds sink k c ranges (If (Var free) row [] ∷ []) free no_turns before (row_of coords o) s
  adds_row c arithmetic apart ranges before coords None takes s at left holds =
      does_if_no c (Var free) row [] [] s _ _ _ left
      (does_nothing c s (λ t. Leaves (sink.mine k) (sink.kept k) free no_turns s t × sink.holds k c.arithmetic ranges (before ++ []) t) _ (
        leaves_none (sink.mine k) (sink.kept k) free no_turns s,
        subst (λ es. sink.holds k c.arithmetic ranges es s) (sym (append-nil before)) holds,
      ))
      (λ t q. does_nothing c t _ _ q)
  adds_row c arithmetic apart ranges before coords (Some v) takes s at left holds =
      does_if_yes c (Var free) row [] [] s 0 _ _ _ left.0
      (does_weaker c row s _ _ _ _
      (row_law c arithmetic (λ y m. let b = apart y m in omega (arith, b)) ranges before (record { coords = coords; value = v })
      (takes v refl) s at left.1 holds)
      (λ t q. (record { below = λ y b m. q.0.below y (omega (arith, b)) m; arrays = q.0.arrays; turns = q.0.turns }, q.1)) (λ t b n z. z))
      (λ t q. does_nothing c t _ _ q)

  pub adds_term : (a : Arithmetic) (places : Places) (target : List ℕ) (t : Term) (x : List KStmt) → AreBelow free places
      → keys ≡ map (slice_index places.variables) target
      → ((these : ℕ → Bool) → EachAccess (λ j. these j ≡ true) t.expr
      → LeavesOption a places these (λ stored env. term_value a stored env t) free x)
      → AddsTerm a sink k places target t free (x ++ If (Var free) row [] ∷ [])
  adds_term a places target t x are named leaves = λ c is arithmetic apart these each ranges before stored bound env all takes s keeps
      has holds.
      let o = term_value a stored env t in
      let coords = coords_at env.point target in
      let refused = sink.refused k ranges (before ++ row_of coords o) in
      does_append c x (If (Var free) row [] ∷ []) s _ _ _
      (does_weaker c x s _ _ Never (RefusedWithin no_turns s refused) (leaves these each c is stored bound env s keeps has) (λ u q. q)
      (λ u b n z. absurd z))
      (λ u q.
      let same : (y : ℕ) → y < free → u.vars y ≡ s.vars y = λ y b. q.0.below y b (λ z. z) in
      let keeps_u = keeps_kept free places bound env s u are same keeps in
      does_weaker c (If (Var free) row [] ∷ []) u _ _ (RefusedWithin no_turns u refused) (RefusedWithin no_turns s refused)
      (adds_row c (subst Laws (sym is) arithmetic) apart ranges before coords o takes u
      (subst (λ ks. VarsAre ks coords u) (sym named) (keys_are places bound env u keeps_u target all)) q.1
      (laws.same k c.arithmetic ranges before s u (λ y m. same y (apart y m)) (all_same s u (λ b. q.0.arrays b tt)) holds))
      (λ w r. (
        record {
          below = λ y b m. r.0.below y b m ∙ same y b;
          arrays = λ b z. r.0.arrays b z ∙ q.0.arrays b tt;
          turns = λ j. let f = r.0.turns j in let g = q.0.turns j in omega (arith, f, g);
        },
        r.1,
      ))
      (λ turns b n z. (λ j. let f = z.0 j in let g = q.0.turns j in omega (arith, f, g), z.1)))
