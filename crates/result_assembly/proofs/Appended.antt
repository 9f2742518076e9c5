-- The code of a level that is appended to.
use Rattle.std.specs.Prelude.{◌≡◌, ℕ, suc, ◌+◌, ◌*◌, ◌≤◌, true, if◌then◌else◌, List, [], ◌∷◌, ◌++◌, drop, refl}
use Rattle.std.proofs.Common.{◌∙◌, sym, ap, subst, arith, inl}
use Rattle.limits.specs.Limits.{greatest_position_count}
use Rattle.kernel_code.specs.Does.{Does}
use Rattle.kernel_code.proofs.Does.{does_weaker, does_append, does_set, does_nothing}
use Rattle.kernel_code.specs.Keeps.{Leaves, NoVariable}
use Rattle.kernel_code.proofs.Keeps.{this_var, leaves_set}
use Rattle.kernel_code.specs.Meaning.{Setting, State, set_var}
use Rattle.kernel_code.specs.declared.syntax.Arr.{Arr}
use Rattle.kernel_code.specs.declared.syntax.Arr.TheVariants.{Key}
use Rattle.kernel_code.specs.declared.syntax.KExpr.{KExpr, Var, At}
use Rattle.kernel_code.specs.declared.syntax.KStmt.{KStmt, Set}
use Rattle.kernel_code.specs.declared.syntax.LoopKind.{LoopKind}
use Rattle.kernel_code.specs.declared.syntax.LoopKind.TheVariants.{Drain}
use Rattle.level_core.specs.declared.letter.Letter.{Letter}
use Rattle.level_core.specs.Fragments.{PassesLimitWithin, RefusedWithin, turns_of}
use Rattle.level_core.specs.Kinds.{capabilities}
use Rattle.level_core.specs.Laws.{HoldsStart, HoldsFinished}
use Rattle.level_rows.specs.Rows.{Rows, begun, MayAppendRows}
use Rattle.level_rows.specs.Draining.{Stays, IsGiven, LeavesDrained, DrainsRows}
use Rattle.level_rows.specs.Filling.{AreNeeded, FillsRows}
use Rattle.level_rows.proofs.RowLaws.{begun_few}
use Rattle.level_core.proofs.KindLaws.{appended_stored}
use Rattle.tensor_storage.specs.Chains.{chain_length}
use Rattle.tensor_storage.specs.Levels.{meaning}
use Rattle.tensor_storage.specs.Tables.{Table}
use Rattle.tensor_storage.proofs.Steps.{new_is, new_level}
use Rattle.tensor_storage.proofs.Tables.{apart}
use Rattle.kernel_correctness.specs.Results.{summed}
use Rattle.result_assembly.specs.Drained.{passes_at, MayDrain, AreDrained, LeavesLevel, RefusesLevel}
use Rattle.result_assembly.specs.Tests.{begins_test}
use Rattle.result_assembly.proofs.Holding.{finished_summed}
use Rattle.result_assembly.proofs.Steps.{size_here, rows_here, few_rows, few_words, begun_here, fill_here, first_told, coord_told}
use Rattle.result_assembly.proofs.Steps.{told_here, packed_here, drained_here}
use Rattle.result_assembly.proofs.Turns.{pass_here, counted_at_most}

module _ (letters rest : List Letter) (letter : Letter) (w g d n base : ℕ) (count : KExpr) (code : List KStmt)
    (left : drop d letters ≡ letter ∷ rest) (through : n ≡ d + chain_length (letter ∷ rest)) (able : (capabilities letter).append ≡ true)
    (drains : DrainsRows meaning letter (suc d) (base + 1) w g count (begins_test (base + 1) w n) (At (Key w d) (Var (base + 1))) code)
    (c : Setting) (nothing : ℕ) (sizes : List ℕ) (table : Table) (may : MayDrain letters sizes table)
    (s : State) (dr : AreDrained nothing letters sizes table w g d count s) where
  abbrev rows : Rows
  rows = rows_here letters rest letter w g d n count left through nothing sizes table may s dr

  abbrev size : ℕ
  size = size_here letters rest letter w g d n count left through nothing sizes table may s dr

  abbrev needed : ℕ
  needed = begun rows.first rows.count

  start : HoldsStart meaning letter size dr.starts 0 (suc d) s.arrays
  start = begun_here letters rest letter w g d n count left through nothing sizes table may s dr

  need : AreNeeded (meaning.kind start.start) (meaning.size start.start) dr.parents rows needed needed
  need = record {
    appended = λ is. (refl, refl);
    inserted = λ no. apart (sym able_here ∙ no);
    greatest = λ no sparse. apart (sym able_here ∙ no);
    full = λ is. apart (sym is ∙ appended_stored (meaning.kind start.start) able_here);
  }
    where
      able_here : (capabilities (meaning.kind start.start)).append ≡ true
      able_here = ap (λ k. (capabilities k).append) start.kind ∙ able

  few : needed ≤ greatest_position_count
  few =
      let b = begun_few rows rows.count in
      let f = few_rows letters rest letter w g d n count left through nothing sizes table may s dr in omega (arith, b, f)

  given : IsGiven (suc d) (base + 1) w g dr.parents count (begins_test (base + 1) w n) (At (Key w d) (Var (base + 1))) rows s
  given = record {
    few = few_words letters rest letter w g d n count left through nothing sizes table may s dr;
    within = dr.few;
    parents_value = dr.told;
    first = first_told letters rest letter w g d n count left through nothing sizes table may s dr (base + 1);
    coord_value = coord_told letters rest letter w g d n count left through nothing sizes table may s dr (base + 1);
    values = dr.rows.sums.words;
    values_are = dr.rows.sums.held;
    many = dr.rows.sums.many;
    positions = dr.positions;
    places = dr.places;
    length_is = dr.packed.many;
    parents_are = λ i h. refl;
  }

  may_append : MayAppendRows letter (meaning.size start.start) dr.parents rows
  may_append =
      let new = new_is letter size in
      let f = (fill_here letters rest letter w g d n count left through nothing sizes table may s dr).appends
      (ap (λ k. (capabilities k).append) new.kind ∙ able) in
      subst (λ m. MayAppendRows letter m dr.parents rows) (sym start.size)
      (subst (λ m. MayAppendRows letter m dr.parents rows) new.size_is
      (subst (λ k. MayAppendRows k (meaning.size (new_level letter size)) dr.parents rows) new.kind f.0))

  -- the state that is left, once the number of positions stands in its variable
  after : (t : State) → LeavesDrained meaning start.start (suc d) g (base + 1) dr.parents rows s t
      → LeavesLevel nothing letters sizes table w g d base s (set_var t base needed)
  after t l = record {
    drained = drained_here letters rest letter w g d n count left through nothing sizes table may s dr (set_var t base needed)
        (λ a st. l.leaves.arrays a st) done.done l.positions needed (Var base)
        (packed_here letters rest letter w g d n count left through nothing sizes table may s dr start.start start.kind start.size needed
        needed need l.positions done.done few fills)
        few (this_var t base needed) done.held l.places
        (subst (λ b. (if b then dr.starts * size else 0) ≤ needed) (sym (appended_stored letter able)) (omega arith));
    probes = 0;
    few = λ width narrow. omega arith;
    leaves = record {
      below = λ y less no. (leaves_set NoVariable (Stays (suc d) g) base (turns_of Drain rows.count) s t base needed
          (λ z under is. absurd (omega (arith, under, is))) kept).below y less no;
      arrays = l.leaves.arrays;
      turns = λ k. counted_at_most (s.turns k) (t.turns k) (passes_at letters d) rows.count 0 k
          (pass_here letters rest letter d rows.count left) (l.leaves.turns k);
    };
  }
    where
      done : HoldsFinished meaning l.left dr.parents 0 (suc d) (summed t.arrays)
      done = finished_summed l.left dr.parents (suc d) t.arrays l.keeps l.may_finish l.held

      kept : Leaves NoVariable (Stays (suc d) g) base (turns_of Drain rows.count) s t
      kept = record {
        below = λ y less no. l.leaves.below y (omega (arith, less)) no;
        arrays = l.leaves.arrays;
        turns = l.leaves.turns;
      }

      fills : FillsRows meaning dr.parents needed rows l.positions start.start done.done
      fills = record {
        appended = λ is. record {
          takes = record {
            keeps = done.finishes.keeps;
            kind = done.finishes.kind ∙ l.kind;
            size = done.finishes.size ∙ l.size;
            many = l.many;
            stored = l.stores done.done done.finishes;
          };
          numbered = l.numbered;
        };
        inserted = λ no. apart (sym (ap (λ k. (capabilities k).append) start.kind ∙ able) ∙ no);
      }

  refused : (turns : LoopKind → ℕ) (a : Arr) (k : ℕ)
      → RefusedWithin (turns_of Drain rows.count) s (PassesLimitWithin 0 (suc d) needed) turns a k
      → RefusesLevel letters sizes table d s turns a k
  refused turns a k r =
      let told = told_here letters rest letter w g d n count left through nothing sizes table may s dr start.start start.kind start.size
      needed needed need in
      let upto = r.1.2 in (
        0,
        (
          (λ j. counted_at_most (s.turns j) (turns j) (passes_at letters d) rows.count 0 j
              (pass_here letters rest letter d rows.count left) (r.0 j)),
          record {
            array = inl r.1.1.array;
            above = (let is = r.1.1.told in let over = r.1.1.above in omega (arith, is, over));
            within = (let is = r.1.1.told in omega (arith, is, upto, told));
          },
        ),
      )

  pub appended : Does c (code ++ Set base (Var (base + 1 + 1)) ∷ []) s (LeavesLevel nothing letters sizes table w g d base s)
      (RefusesLevel letters sizes table d s)
  appended =
      does_append c code (Set base (Var (base + 1 + 1)) ∷ []) s
      (LeavesDrained meaning start.start (suc d) g (base + 1) dr.parents rows s) _ _
      (does_weaker c code s _ _ _ _
      (drains able c start.start start.kind start.keeps rows dr.parents (dr.starts, dr.begun, start.log able) may_append s start.held given)
      (λ t l. l) refused)
      (λ t l. does_set c base (Var (base + 1 + 1)) [] t needed _ _ l.count (does_nothing c (set_var t base needed) _ _ (after t l)))
