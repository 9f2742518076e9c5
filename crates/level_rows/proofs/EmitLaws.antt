-- The code that appends rows, made of the fragments of any kind of level that is appended to.
use Rattle.std.specs.Prelude.{◌≡◌, ℕ, ◌+◌, ◌-◌, ◌≤◌, true, List, [], ◌∷◌, ◌++◌, length, replicate, slice_index, refl}
use Rattle.std.proofs.Common.{◌∙◌, sym, ap, subst, arith}
use Rattle.std.proofs.lemmas.List.{length-replicate, replicate-append-replicate}
use Rattle.limits.proofs.Limits.{positions_are_small}
use Rattle.kernel_code.specs.Meaning.{Setting, State, length_of}
use Rattle.kernel_code.specs.Does.{Does}
use Rattle.kernel_code.proofs.Does.{does_weaker, does_append}
use Rattle.kernel_code.specs.Keeps.{Leaves, NoVariable, no_turns}
use Rattle.kernel_code.specs.declared.syntax.Arr.TheVariants.{Sums, ListPositions}
use Rattle.kernel_code.specs.declared.syntax.LoopKind.TheVariants.{Drain}
use Rattle.kernel_code.specs.declared.syntax.KExpr.{KExpr, Var, Len}
use Rattle.kernel_code.specs.declared.syntax.KStmt.{KStmt}
use Rattle.level_core.specs.declared.letter.Letter.{Letter}
use Rattle.level_core.specs.declared.stage.Stage.TheVariants.{Unfinished, Finished}
use Rattle.level_core.specs.Kinds.{properties, capabilities}
use Rattle.level_core.specs.Logs.{Log, IsLog, CodeMayReserve, MayAppend, MayAppendEdges, with_parents, with_coord, with_edges}
use Rattle.level_core.specs.Logs.{nothing_reserved, ungiven}
use Rattle.level_core.specs.Fragments.{IsOutside, RefusedWithin, PassesLimit, PassesLimitWithin, turns_of}
use Rattle.level_core.specs.Codes.{HoldsLog, ReserveCode, AppendCode, EdgesCode}
use Rattle.level_core.specs.Meaning.{Arrays, Meaning}
use Rattle.level_core.specs.Laws.{Laws}
use Rattle.level_rows.specs.Rows.{Rows, begun, MayAppendRows}
use Rattle.level_rows.specs.Draining.{drain_code, IsGiven, IsBegun, LeavesDrained, DrainsRows}
use Rattle.level_rows.proofs.Progress.{Filled}
use Rattle.level_rows.proofs.AppendSteps.{none_done, may_finish}
use Rattle.level_rows.proofs.Stored.{filled_stores}
use Rattle.level_rows.proofs.DrainSteps.{Appends}
use Rattle.level_rows.proofs.DrainLaws.{AllDrained, does_drain}

-- parents that are reserved in two steps are those that are reserved at once
reserved_again : (letter : Letter) (n parents : ℕ) → n ≤ parents
    → with_parents letter parents (with_parents letter n nothing_reserved) ≡ with_parents letter parents nothing_reserved
reserved_again letter n parents h =
    let u = ungiven letter in
    let none : n - 0 ≡ n = omega arith in
    let all : n + (parents - n) ≡ parents - 0 = omega (arith, h) in
    ap (λ counts. record { stage = Unfinished; coords = []; counts = counts; next = 0 })
    (ap (λ m. replicate m u ++ replicate (parents - length (replicate m u)) u) none
    ∙ ap (λ k. replicate n u ++ replicate (parents - k) u) (length-replicate n u)
    ∙ replicate-append-replicate n (parents - n) u ∙ ap (λ m. replicate m u) all)

-- the arrays hold a level of this kind and range to which this was appended
pub record HasLog {L : Type 0} (means : Meaning L) (letter : Letter) (size level : ℕ) (log : Log) (arrays : Arrays) : Type 0 where
  pub left : L
  pub keeps : means.keeps left
  pub kind : means.kind left ≡ letter
  pub size_is : means.size left ≡ size
  pub log_is : means.log left ≡ log
  pub held : means.holds left 0 level arrays

module _ {L : Type 0} (means : Meaning L) (laws : Laws means) (letter : Letter) (level base w g : ℕ) (parents_is test coord : KExpr)
    (reserve append edges : List KStmt)
    (reserves : ReserveCode means letter 0 level (Len (Sums w) ∷ parents_is ∷ []) (base + 6) reserve)
    (appends : AppendCode means letter 0 level (coord ∷ []) (base + 6) append)
    (gives : EdgesCode means letter 0 level (Var (base + 3) ∷ Var (base + 2) ∷ Var (base + 1) ∷ []) (base + 6) edges)
    (able : (capabilities letter).append ≡ true) where
  -- the laws of the code, told of logs
  code_is : (c : Setting) (size : ℕ) → Appends c letter size level (base + 6) coord (Var (base + 3)) (Var (base + 2)) (Var (base + 1))
      append edges (HasLog means letter size level)
  code_is c size = record {
    there = λ log a b same h. record {
      left = h.left;
      keeps = h.keeps;
      kind = h.kind;
      size_is = h.size_is;
      log_is = h.log_is;
      held = laws.held_there h.left 0 level a b same h.held;
    };
    is_log = λ log a b h. subst IsLog h.log_is (laws.logs h.left h.keeps (ap (λ k. (properties k).branchless) h.kind ∙ b));
    appends = λ x log s may h v.
        does_weaker c append s _ _ _ _
        (appends able c h.left h.kind h.keeps x
        (subst (λ k. MayAppend k (means.size h.left) x (means.log h.left)) (sym h.kind)
        (subst (λ n. MayAppend letter n x (means.log h.left)) (sym h.size_is) (subst (MayAppend letter size x) (sym h.log_is) may)))
        s h.held (v, tt))
        (λ t k.
        let few = k.1.1 in
        let sized = ap (λ l. length l.coords) h.log_is in (
          k.0,
          (
            record {
              left = k.1.0.left;
              keeps = k.1.0.keeps;
              kind = k.1.0.kind ∙ h.kind;
              size_is = k.1.0.size ∙ h.size_is;
              log_is = k.1.0.log ∙ ap (with_coord x) h.log_is;
              held = k.1.0.held;
            },
            omega (arith, few, sized),
          ),
        ))
        (λ t a n z. (z.0, subst (λ l. PassesLimit 0 level (length l.coords + 1) a n) h.log_is z.1));
    gives = λ parent from to log s may h p q r.
        does_weaker c edges s _ _ _ _
        (gives able c h.left h.kind h.keeps parent from to
        (subst (λ k. MayAppendEdges k parent from to (means.log h.left)) (sym h.kind)
        (subst (MayAppendEdges letter parent from to) (sym h.log_is) may)) s h.held (p, (q, (r, tt))))
        (λ t k. (
          k.0,
          record {
            left = k.1.left;
            keeps = k.1.keeps;
            kind = k.1.kind ∙ h.kind;
            size_is = k.1.size ∙ h.size_is;
            log_is = k.1.log ∙ ap (λ j. with_edges j parent from to (means.log h.left)) h.kind
                ∙ ap (with_edges letter parent from to) h.log_is;
            held = k.1.held;
          },
        ))
        (λ t a n z. z);
  }

  module _ (c : Setting) (l : L) (kind : means.kind l ≡ letter) (keeps : means.keeps l)
      (rows : Rows) (parents : ℕ) (fresh : IsBegun letter parents (means.log l)) (may : MayAppendRows letter (means.size l) parents rows)
      (s : State) (held : means.holds l 0 level s.arrays) (given : IsGiven level base w g parents parents_is test coord rows s) where
    -- what is left when all rows are drained is what is promised
    promised : (t u : State) → Leaves NoVariable (IsOutside 0 level) (base + 6) no_turns s t
        → AllDrained (HasLog means letter (means.size l) level) level g base parents rows t u
        → LeavesDrained means l level g base parents rows s u
    promised t u k d = record {
      left = d.held.left;
      keeps = d.held.keeps;
      kind = d.held.kind ∙ sym kind;
      size = d.held.size_is;
      held = d.held.held;
      may_finish = may_finish parents rows (means.log d.held.left) filled;
      positions = d.positions;
      places = d.places;
      many = d.placed.many;
      numbered = d.placed.behind;
      stores = λ done finishes. filled_stores means laws letter (means.size l) parents rows (slice_index d.positions) d.held.left done may
          d.held.kind filled finishes d.placed.behind;
      count = d.count;
      leaves = record {
        below = λ y h m. d.leaves.below y h m ∙ k.below y (omega (arith, h)) m;
        arrays = λ a st. d.leaves.arrays a st ∙ k.arrays a st.0;
        turns = λ j. let x = d.leaves.turns j in let y = k.turns j in omega (arith, x, y);
      };
    }
      where
        filled : Filled parents rows (means.log d.held.left)
        filled = subst (Filled parents rows) (sym d.held.log_is) d.filled

    -- once the parents are reserved
    drains : (t : State) → Leaves NoVariable (IsOutside 0 level) (base + 6) no_turns s t
        → HoldsLog means l (with_parents (means.kind l) parents (means.log l)) 0 level t
        → Does c (drain_code base w g test append edges) t (LeavesDrained means l level g base parents rows s)
        (RefusedWithin (turns_of Drain rows.count) s (PassesLimitWithin 0 level (begun rows.first rows.count)))
    drains t k h =
        does_weaker c (drain_code base w g test append edges) t _ _ _ _
        (does_drain c letter (means.size l) level base w g parents test coord append edges (HasLog means letter (means.size l) level) rows t
        (code_is c (means.size l)) may
        (λ u i last inside at parent own before same. given.first u i last inside at parent own before
        (λ a st. same a st ∙ k.arrays a st.0))
        (λ u i inside at same. given.coord_value u i inside at (λ a st. same a st ∙ k.arrays a st.0))
        given.values (k.arrays (Sums w) (λ of. of) ∙ given.values_are) given.many given.few
        (means.log h.left) given.positions has
        (none_done letter parents rows (means.log h.left) log (λ b. (code_is c (means.size l)).is_log (means.log h.left) t.arrays b has))
        (k.arrays (ListPositions g) (λ of. of) ∙ given.places)
        (record {
          many = given.length_is;
          behind = λ i inside. absurd (omega (arith, inside));
          ahead = λ i from inside. given.parents_are i inside;
        }))
        (λ u d. promised t u k d)
        (λ made a n z. ((λ j. let x = z.0 j in let y = k.turns j in omega (arith, x, y)), z.1))
      where
        log : means.log h.left ≡ with_parents letter parents nothing_reserved
        log = h.log ∙ ap (λ j. with_parents j parents (means.log l)) kind ∙ ap (with_parents letter parents) fresh.2
            ∙ reserved_again letter fresh.0 parents fresh.1

        has : HasLog means letter (means.size l) level (means.log h.left) t.arrays
        has = record { left = h.left; keeps = h.keeps; kind = h.kind ∙ kind; size_is = h.size; log_is = refl; held = h.held }

    emits : Does c (reserve ++ drain_code base w g test append edges) s (LeavesDrained means l level g base parents rows s)
        (RefusedWithin (turns_of Drain rows.count) s (PassesLimitWithin 0 level (begun rows.first rows.count)))
    emits =
        does_append c reserve (drain_code base w g test append edges) s _ _ _
        (does_weaker c reserve s _ _ _ _
        (reserves able c l kind keeps (length given.values) parents may_reserve s held
        (ap length_of given.values_are, (given.parents_value, tt))) (λ t k. k)
        (λ made a n z. let above = z.1.above in let within = given.within in absurd (omega (arith, above, within))))
        (λ t k. drains t k.0 k.1.0)
      where
        open_stage : Unfinished ≡ Finished → ⊥
        open_stage e = cc

        may_reserve : CodeMayReserve (means.kind l) parents (means.log l)
        may_reserve = record {
          word = (let within = given.within in let small = positions_are_small in omega (arith, within, small));
          within = λ _. given.within;
          reservable = λ e. open_stage (sym (ap (λ k. k.stage) fresh.2) ∙ e);
        }

pub emitted : {L : Type 0} (means : Meaning L) → Laws means
    → (letter : Letter) (level base w g : ℕ) (parents_is test coord : KExpr) (reserve append edges : List KStmt)
    → ReserveCode means letter 0 level (Len (Sums w) ∷ parents_is ∷ []) (base + 6) reserve
    → AppendCode means letter 0 level (coord ∷ []) (base + 6) append
    → EdgesCode means letter 0 level (Var (base + 3) ∷ Var (base + 2) ∷ Var (base + 1) ∷ []) (base + 6) edges
    → DrainsRows means letter level base w g parents_is test coord (reserve ++ drain_code base w g test append edges)
emitted means laws letter level base w g parents_is test coord reserve append edges reserves appends gives able c l kind keeps rows
    parents fresh may s held given =
    emits means laws letter level base w g parents_is test coord reserve append edges reserves appends gives able c l kind keeps rows
    parents fresh may s held given
