-- A level to which rows are appended, where other things change, where rows follow, and where a row begins no position.
use Rattle.std.specs.Prelude.{◌≡◌, ℕ, zero, suc, ◌+◌, ◌<◌, true, false, Some, refl}
use Rattle.std.proofs.Common.{◌∙◌, sym, ap, subst, arith}
use Rattle.kernel_code.specs.Meaning.{State}
use Rattle.kernel_code.specs.declared.syntax.Arr.{Arr}
use Rattle.level_core.specs.declared.letter.Letter.{Letter}
use Rattle.level_core.specs.Fragments.{IsOf}
use Rattle.level_core.specs.Kinds.{properties}
use Rattle.level_core.specs.Logs.{IsLog}
use Rattle.level_core.specs.Meaning.{Meaning}
use Rattle.level_core.specs.Laws.{Laws}
use Rattle.level_rows.specs.Rows.{Rows, MayAppendRows}
use Rattle.level_rows.specs.Appending.{added_log}
use Rattle.level_rows.proofs.Progress.{Progress}
use Rattle.level_rows.proofs.AppendSteps.{adds}
use Rattle.level_appends.specs.Appended.{IsOfCursor, EndsAt, LevelAt}
use Rattle.level_appends.proofs.Logs.{SameRows, progress_along, ends_along}
use Rattle.level_appends.proofs.Fragments.{log_there, log_kept}

module _ {L : Type 0} (means : Meaning L) (laws : Laws means) (letter : Letter) (size level base parents n : ℕ) (rows : Rows) where
  -- the level stays while its cursor and its arrays do
  pub level_there : (s t : State) → ((y : ℕ) → IsOfCursor base y → t.vars y ≡ s.vars y)
      → ((a : Arr) → IsOf 0 level a → t.arrays a ≡ s.arrays a) → LevelAt means letter size level base parents n rows s
      → LevelAt means letter size level base parents n rows t
  level_there s t vars arrays at = record {
    log = at.log;
    held = log_there means laws letter size level at.log s.arrays t.arrays arrays at.held;
    last = at.last;
    begin = at.begin;
    progress = at.progress;
    ends = at.ends;
    parent_is = λ b. vars base (record { from = omega arith; before = omega arith }) ∙ at.parent_is b;
    begin_is = λ b. vars (base + 1) (record { from = omega arith; before = omega arith }) ∙ at.begin_is b;
    count_is = vars (base + 2) (record { from = omega arith; before = omega arith }) ∙ at.count_is;
  }

  -- more rows follow
  pub level_along : (more : Rows) (s : State) → SameRows n rows more → LevelAt means letter size level base parents n rows s
      → LevelAt means letter size level base parents n more s
  level_along more s same at = record {
    log = at.log;
    held = at.held;
    last = at.last;
    begin = at.begin;
    progress = progress_along letter parents n at.last at.begin rows more at.log same at.progress;
    ends = ends_along n at.last rows more same at.ends;
    parent_is = at.parent_is;
    begin_is = at.begin_is;
    count_is = at.count_is;
  }

  -- a row that begins no position has that of the row before
  pub level_again : (s : State) → MayAppendRows letter size parents rows → n < rows.count → rows.first n ≡ false
      → LevelAt means letter size level base parents n rows s → LevelAt means letter size level base parents (suc n) rows s
  level_again s may h is at = record {
    log = at.log;
    held = at.held;
    last = at.last;
    begin = at.begin;
    progress =
        subst (λ p. Progress letter parents (suc n) p at.begin rows at.log) (sym same)
        (subst (λ b. Progress letter parents (suc n) (rows.parent n) at.begin rows (added_log b (rows.coord n) at.log)) is
        (adds letter size parents n at.begin rows at.log may h
        (subst (λ p. Progress letter parents n p at.begin rows at.log) same at.progress)
        (λ b. subst (λ t. IsLog (added_log t (rows.coord n) at.log)) (sym is)
        (log_kept means laws letter size level at.log s.arrays b at.held))));
    ends = record {
      none = λ none. absurd (omega (arith, none));
      some = λ i next. same ∙ ap rows.parent (let e : n ≡ i = omega (arith, next) in e);
    };
    parent_is = at.parent_is;
    begin_is = at.begin_is;
    count_is = at.count_is;
  }
    where
      apart : true ≡ false → ⊥
      apart e = cc

      by_before : (k : ℕ) → n ≡ k → at.last ≡ rows.parent n
      by_before zero none =
          absurd (apart (sym (may.order.begins (omega (arith, h))) ∙ ap rows.first (sym none) ∙ is))
      by_before (suc i) next =
          at.ends.some i next
          ∙ sym ((may.order.again i (omega (arith, h, next)) (ap rows.first (sym next) ∙ is)).0) ∙ ap rows.parent (sym next)

      same : at.last ≡ rows.parent n
      same = by_before n refl
