-- Levels are filled one below another.
use Rattle.std.specs.Prelude.{◌≡◌, ℕ, suc, ◌+◌, ◌*◌, ◌≤◌, ◌<◌, List, [], ◌∷◌, ◌++◌, drop, replicate, refl}
use Rattle.std.proofs.Common.{◌∙◌, sym, ap, subst, arith}
use Rattle.limits.proofs.Limits.{some_positions}
use Rattle.kernel_code.specs.Does.{Does}
use Rattle.kernel_code.proofs.Does.{does_weaker, does_append, does_set, does_nothing}
use Rattle.kernel_code.proofs.Keeps.{this_var, other_var}
use Rattle.kernel_code.specs.Meaning.{Setting, State, set_var}
use Rattle.kernel_code.specs.declared.syntax.Arr.TheVariants.{Width}
use Rattle.kernel_code.specs.declared.syntax.KExpr.{KExpr, Num, Var}
use Rattle.kernel_code.specs.declared.syntax.KStmt.{KStmt, Set}
use Rattle.kernel_code.specs.declared.syntax.LoopKind.{LoopKind}
use Rattle.kernel_code.specs.declared.syntax.LoopKind.TheVariants.{Merge, Skip, Gather, Drain, Probe}
use Rattle.level_core.specs.declared.letter.Letter.{Letter}
use Rattle.level_rows.specs.Draining.{Stays}
use Rattle.format_spec.specs.declared.format.FormatLevel.{FormatLevel}
use Rattle.format_spec.specs.Formats.{letters_of, IsFormat}
use Rattle.tensor_storage.specs.Chains.{chain_length}
use Rattle.tensor_storage.specs.Laws.{laws}
use Rattle.tensor_storage.specs.Levels.{meaning}
use Rattle.tensor_storage.specs.Tables.{Table}
use Rattle.tensor_storage.proofs.PackSteps.{none_packed}
use Rattle.result_assembly.specs.Drained.{passes_at, passes_of, drain_turns, MayDrain, AreDrained, LeavesLevel, DrainsOf}
use Rattle.result_assembly.proofs.Turns.{more_turns, fewer_turns, probes_more}
use Rattle.result_assembly.specs.Levels.{IsReady, LeavesLevels, RefusesLevels, DrainsFirst}

none_turns : (before rows : ℕ) (k : LoopKind) → before ≤ before + drain_turns 0 rows 0 k
none_turns before rows Merge = omega arith
none_turns before rows Skip = omega arith
none_turns before rows Gather = omega arith
none_turns before rows Drain = omega arith
none_turns before rows Probe = omega arith

-- before the first level
pub none_drained : (format : List FormatLevel) (w g base : ℕ) → IsFormat format
    → DrainsFirst (letters_of format) 0 w g base (Set base (Num 1) ∷ [])
none_drained format w g base is c nothing sizes table may s ready =
    does_set c base (Num 1) [] s 1 _ _ refl (does_nothing c (set_var s base 1) _ _ (record {
      drained = record {
        levels = [];
        positions = replicate table.count 0;
        parents = 1;
        packed = none_packed meaning laws format sizes table [] (replicate table.count 0) is refl refl;
        few = (let some = some_positions in omega (arith, some));
        told = (let same : base + 0 ≡ base = omega arith in
            ap (λ x. (set_var s base 1).vars x) same ∙ this_var s base 1);
        held = tt;
        places = ready.places;
        rows = ready.rows;
        starts = 1;
        begun = omega arith;
        below = ready.below;
        values = ready.values;
      };
      probes = 0;
      few = λ width narrow. omega arith;
      leaves = record {
        below = λ y less no. other_var s base y 1 (λ e. absurd (omega (arith, e, less)));
        arrays = λ a st. refl;
        turns = λ k. none_turns (s.turns k) table.count k;
      };
    }))

-- the widths of the levels above stay
pub other_level : (d g k : ℕ) → k < d → Stays (suc d) g (Width 0 (suc k))
other_level d g k less = (λ of. let same : suc k ≡ suc d = of.1 in absurd (omega (arith, same, less)), refl)

module _ (letters rest : List Letter) (letter : Letter) (d w g base through : ℕ) (code more : List KStmt)
    (left : drop d letters ≡ letter ∷ rest) (chain : through ≡ d + chain_length (letter ∷ rest))
    (first : DrainsFirst letters d w g base code)
    (drains : DrainsOf letter (suc d) through w g (base + d + 1) (Var (base + d)) more)
    (c : Setting) (nothing : ℕ) (sizes : List ℕ) (table : Table) (may : MayDrain letters sizes table)
    (s : State) (ready : IsReady nothing letters sizes table w g s) where
  after : (t u : State) → LeavesLevels nothing letters sizes table w g d base s t
      → LeavesLevel nothing letters sizes table w g d (base + d + 1) t u → LeavesLevels nothing letters sizes table w g (suc d) base s u
  after t u f l = record {
    drained = (let same : base + d + 1 ≡ base + suc d = omega arith in
        subst (λ x. AreDrained nothing letters sizes table w g (suc d) (Var x) u) same l.drained);
    probes = f.probes + l.probes;
    few = λ width narrow. probes_more d (width * table.count) f.probes l.probes
        (f.few width (λ k less n is. narrow k (omega (arith, less)) n (l.leaves.arrays (Width 0 (suc k)) (other_level d g k less) ∙ is)))
        (l.few width (narrow d (omega arith)));
    leaves = record {
      below = λ y less no. l.leaves.below y (omega (arith, less)) no ∙ f.leaves.below y less no;
      arrays = λ a st. l.leaves.arrays a (st.0 (suc d), st.1) ∙ f.leaves.arrays a st;
      turns = λ k. more_turns (s.turns k) (t.turns k) (u.turns k) (passes_of letters d) (passes_at letters d) table.count f.probes
          l.probes k (f.leaves.turns k)
          (l.leaves.turns k);
    };
  }

  one_more : Does c (code ++ more) s (LeavesLevels nothing letters sizes table w g (suc d) base s)
      (RefusesLevels letters sizes table (suc d) s)
  one_more =
      does_append c code more s (LeavesLevels nothing letters sizes table w g d base s) _ _
      (does_weaker c code s _ _ _ _ (first c nothing sizes table may s ready) (λ t f. f)
      (λ turns a k r. (
        r.0,
        omega (arith, r.1),
        r.2,
        ((λ j. fewer_turns (s.turns j) (turns j) (passes_of letters d) (passes_at letters d) table.count r.2 j (r.3.0 j)), r.3.1),
      )))
      (λ t f.
      does_weaker c more t _ _ _ _ (drains letters rest d refl left chain c nothing sizes table may t f.drained) (λ u l. after t u f l)
      (λ turns a k r. (
        d,
        omega arith,
        f.probes + r.0,
        (
          (λ j. more_turns (s.turns j) (t.turns j) (turns j) (passes_of letters d) (passes_at letters d) table.count f.probes r.0 j
              (f.leaves.turns j) (r.1.0 j)),
          r.1.1,
        ),
      )))

-- one level more
pub next_drained : (letters rest : List Letter) (letter : Letter) (d level w g base place through : ℕ) (count : KExpr)
    (code more all : List KStmt) → drop d letters ≡ letter ∷ rest → through ≡ d + chain_length (letter ∷ rest)
    → DrainsFirst letters d w g base code → level ≡ suc d → place ≡ base + d + 1 → count ≡ Var (base + d)
    → DrainsOf letter level through w g place count more → all ≡ code ++ more → DrainsFirst letters (suc d) w g base all
next_drained letters rest letter d level w g base place through count code more all left chain first number placed counted drains is =
    subst (DrainsFirst letters (suc d) w g base) (sym is)
    (λ c nothing sizes table may s ready. one_more letters rest letter d w g base through code more left chain first
    (subst (λ l. DrainsOf letter l through w g (base + d + 1) (Var (base + d)) more) number
    (subst (λ p. DrainsOf letter level through w g p (Var (base + d)) more) placed
    (subst (λ e. DrainsOf letter level through w g place e more) counted drains)))
    c nothing sizes table may s ready)
