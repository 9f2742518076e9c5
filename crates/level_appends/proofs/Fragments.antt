-- What the fragments of a level do, told of its log.
use Rattle.std.specs.Prelude.{◌≡◌, ℕ, ◌+◌, ◌-◌, ◌≤◌, Bool, true, false, if◌then◌else◌, List, [], ◌∷◌, length, slice_set, Some, refl}
use Rattle.std.proofs.Common.{◌∙◌, sym, ap, subst, arith}
use Rattle.limits.specs.Limits.{greatest_position_count}
use Rattle.limits.proofs.Limits.{positions_are_small}
use Rattle.kernel_code.specs.Does.{Does, Never}
use Rattle.kernel_code.proofs.Does.{does_weaker}
use Rattle.kernel_code.specs.Keeps.{Leaves, NoVariable, no_turns}
use Rattle.kernel_code.specs.Meaning.{Setting, State, value}
use Rattle.kernel_code.specs.declared.syntax.Arr.{Arr}
use Rattle.kernel_code.specs.declared.syntax.KExpr.{KExpr, Num, Var}
use Rattle.kernel_code.specs.declared.syntax.KStmt.{KStmt}
use Rattle.level_core.specs.declared.letter.Letter.{Letter}
use Rattle.level_core.specs.declared.stage.Stage.TheVariants.{Unfinished, Finished}
use Rattle.level_core.specs.Codes.{ReserveCode, AppendCode, EdgesCode}
use Rattle.level_core.specs.Fragments.{IsOf, IsOutside, RefusedWithin, PassesLimit}
use Rattle.level_core.specs.Kinds.{properties, capabilities}
use Rattle.level_core.specs.Logs.{Log, IsLog, CodeMayReserve, MayAppend, MayAppendEdges, with_parents, with_coord, with_edges}
use Rattle.level_core.specs.Meaning.{Meaning, Arrays}
use Rattle.level_core.specs.Laws.{Laws}
use Rattle.level_rows.proofs.EmitLaws.{HasLog}

module _ {L : Type 0} (means : Meaning L) (laws : Laws means) (letter : Letter) (size level : ℕ) where
  pub log_there : (log : Log) (a b : Arrays) → ((x : Arr) → IsOf 0 level x → b x ≡ a x) → HasLog means letter size level log a
      → HasLog means letter size level log b
  log_there log a b same h = record {
    left = h.left;
    keeps = h.keeps;
    kind = h.kind;
    size_is = h.size_is;
    log_is = h.log_is;
    held = laws.held_there h.left 0 level a b same h.held;
  }

  pub log_kept : (log : Log) (a : Arrays) → (properties letter).branchless ≡ false → HasLog means letter size level log a → IsLog log
  log_kept log a b h = subst IsLog h.log_is (laws.logs h.left h.keeps (ap (λ k. (properties k).branchless) h.kind ∙ b))

  pub log_reserved : (c : Setting) (parents_is : KExpr) (free : ℕ) (code : List KStmt)
      → ReserveCode means letter 0 level (Num 0 ∷ parents_is ∷ []) free code → (capabilities letter).append ≡ true
      → (log : Log) (more : ℕ) → more ≤ greatest_position_count → log.stage ≡ Unfinished
      → (s : State) → HasLog means letter size level log s.arrays → value parents_is s ≡ Some more
      → Does c code s
      (λ t. Leaves NoVariable (IsOutside 0 level) free no_turns s t
      × HasLog means letter size level (with_parents letter more log) t.arrays)
      Never
  log_reserved c parents_is free code reserves able log more few stage s h is =
      does_weaker c code s _ _ _ _
      (reserves able c h.left h.kind h.keeps 0 more may s h.held (refl, (is, tt)))
      (λ t k. (
        k.0,
        record {
          left = k.1.0.left;
          keeps = k.1.0.keeps;
          kind = k.1.0.kind ∙ h.kind;
          size_is = k.1.0.size ∙ h.size_is;
          log_is = k.1.0.log ∙ ap (λ j. with_parents j more (means.log h.left)) h.kind ∙ ap (with_parents letter more) h.log_is;
          held = k.1.0.held;
        },
      ))
      (λ made a n z. let above = z.1.above in absurd (omega (arith, above, few)))
    where
      open_stage : Unfinished ≡ Finished → ⊥
      open_stage e = cc

      may : CodeMayReserve (means.kind h.left) more (means.log h.left)
      may = record {
        word = (let small = positions_are_small in omega (arith, few, small));
        within = λ _. few;
        reservable = λ e. open_stage (sym stage ∙ sym (ap (λ k. k.stage) h.log_is) ∙ e);
      }

  pub log_appended : (c : Setting) (coord free : ℕ) (code : List KStmt)
      → AppendCode means letter 0 level (Var coord ∷ []) free code → (capabilities letter).append ≡ true
      → (log : Log) (x : ℕ) → MayAppend letter size x log
      → (s : State) → HasLog means letter size level log s.arrays → s.vars coord ≡ Some x
      → Does c code s
      (λ t. Leaves NoVariable (IsOutside 0 level) free no_turns s t × HasLog means letter size level (with_coord x log) t.arrays
      × (length log.coords + 1 ≤ greatest_position_count))
      (RefusedWithin no_turns s (PassesLimit 0 level (length log.coords + 1)))
  log_appended c coord free code appends able log x may s h is =
      does_weaker c code s _ _ _ _
      (appends able c h.left h.kind h.keeps x
      (subst (λ k. MayAppend k (means.size h.left) x (means.log h.left)) (sym h.kind)
      (subst (λ n. MayAppend letter n x (means.log h.left)) (sym h.size_is) (subst (MayAppend letter size x) (sym h.log_is) may)))
      s h.held (is, tt))
      (λ t k.
      let few = k.1.1 in
      let sized = ap (λ l. length l.coords) h.log_is in (
        k.0,
        record {
          left = k.1.0.left;
          keeps = k.1.0.keeps;
          kind = k.1.0.kind ∙ h.kind;
          size_is = k.1.0.size ∙ h.size_is;
          log_is = k.1.0.log ∙ ap (with_coord x) h.log_is;
          held = k.1.0.held;
        },
        omega (arith, few, sized),
      ))
      (λ t a n z. (z.0, subst (λ l. PassesLimit 0 level (length l.coords + 1) a n) h.log_is z.1))

  pub log_given : (c : Setting) (last begin count : KExpr) (free : ℕ) (code : List KStmt)
      → EdgesCode means letter 0 level (last ∷ begin ∷ count ∷ []) free code → (capabilities letter).append ≡ true
      → (log : Log) (parent from to : ℕ) → MayAppendEdges letter parent from to log
      → (s : State) → HasLog means letter size level log s.arrays → value last s ≡ Some parent → value begin s ≡ Some from
      → value count s ≡ Some to
      → Does c code s
      (λ t. Leaves NoVariable (IsOutside 0 level) free no_turns s t
      × HasLog means letter size level (with_edges letter parent from to log) t.arrays) Never
  log_given c last begin count free code gives able log parent from to may s h p q r =
      does_weaker c code s _ _ _ _
      (gives able c h.left h.kind h.keeps parent from to
      (subst (λ k. MayAppendEdges k parent from to (means.log h.left)) (sym h.kind)
      (subst (MayAppendEdges letter parent from to) (sym h.log_is) may)) s h.held (p, (q, (r, tt))))
      (λ t k. (
        k.0,
        record {
          left = k.1.left;
          keeps = k.1.keeps;
          kind = k.1.kind ∙ h.kind;
          size_is = k.1.size ∙ h.size_is;
          log_is = k.1.log ∙ ap (λ j. with_edges j parent from to (means.log h.left)) h.kind
              ∙ ap (with_edges letter parent from to) h.log_is;
          held = k.1.held;
        },
      ))
      (λ t a n z. z)

pub edges_coords : (letter : Letter) (parent begin end : ℕ) (log : Log) → (with_edges letter parent begin end log).coords ≡ log.coords
edges_coords letter parent begin end log = by_test (properties letter).branchless
  where
    by_test : (b : Bool) → (if b then log else record log { counts = slice_set log.counts parent (end - begin); next = parent + 1 }).coords
        ≡ log.coords
    by_test true = refl
    by_test false = refl
