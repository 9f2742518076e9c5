-- Lemmas about what specs/CodeLaws.antt defines.
use Rattle.std.specs.Prelude.{◌≡◌, ℕ, ◌+◌, ◌-◌, ◌≤◌, Bool, true, false, if◌then◌else◌, List, [], ◌∷◌, ◌++◌, length, Some, slice_get, refl}
use Rattle.kernel_code.specs.declared.syntax.LoopKind.TheVariants.{Skip}
use Rattle.kernel_code.specs.declared.syntax.KExpr.{KExpr}
use Rattle.kernel_code.specs.declared.syntax.KStmt.{KStmt}
use Rattle.kernel_code.specs.Meaning.{Setting, State}
use Rattle.kernel_code.specs.Does.{Never}
use Rattle.kernel_code.proofs.Does.{does_weaker, does_nothing}
use Rattle.kernel_code.specs.Keeps.{NoVariable, no_turns}
use Rattle.kernel_code.proofs.Keeps.{leaves_none}
use Rattle.level_core.specs.declared.span.Span.{Span}
use Rattle.level_core.specs.declared.span.Entry.{Entry}
use Rattle.level_core.specs.Logs.{with_parents, with_coord, with_edges, CodeMayReserve, MayAppend}
use Rattle.level_core.specs.Fragments.{AreBelow, ValuesAre, IsOutside, Reads, Writes, Grows, RefusedWithin, PassesLimit, SpanLeft}
use Rattle.level_core.specs.Fragments.{turns_of, child_turns}
use Rattle.level_core.specs.FragmentLaws.{two_code}
use Rattle.level_core.proofs.FragmentLaws.{argument_is, span_set}
use Rattle.coordinate_lists.specs.Codes.{Appended}
use Rattle.limits.specs.Limits.{greatest_position_count}
use Rattle.level_core.specs.Codes.{HoldsLog}
use Rattle.singleton_level.specs.Singleton.{SingletonLevel, letter_of, log_of, KeepsRules, Holds, meaning}
use Rattle.singleton_level.specs.Laws.{branchless, reserved, reserved_keeps, reserved_logs}
use Rattle.singleton_level.proofs.Laws.{appended_keeps, edges_log}

pub segment_does : (c : Setting) (free : ℕ) (args : List KExpr) (lo hi : KExpr) (parent : Span) (s : State) → slice_get args 0 ≡ Some lo
    → slice_get args 1 ≡ Some hi → AreBelow free args → ValuesAre args s (parent.lo ∷ parent.hi ∷ [])
    → Reads c (two_code free lo hi) free no_turns s (SpanLeft free parent)
segment_does c free args lo hi parent s first second below values =
    let begin = argument_is args lo free 0 parent.lo (parent.lo ∷ parent.hi ∷ []) s first refl below values in
    let end = argument_is args hi free 1 parent.hi (parent.lo ∷ parent.hi ∷ []) s second refl below values in
    span_set c free parent lo hi s begin.0 end.0 end.1

pub child_turns_are : (unique : Bool) (e : Entry)
    → child_turns (letter_of unique) e ≡ (if unique then no_turns else turns_of Skip (e.child.hi - e.child.lo))
child_turns_are true e = refl
child_turns_are false e = refl

-- no code, since the number of parents stands in no array
pub reserve_does : (c : Setting) (l : SingletonLevel) (tensor level free parents : ℕ) (s : State) → KeepsRules l
    → CodeMayReserve (letter_of l.unique) parents (log_of l) → Holds l tensor level s.arrays
    → Grows c [] free tensor level no_turns s
    (λ t. HoldsLog meaning l (with_parents (letter_of l.unique) parents (log_of l)) tensor level t
    × (parents ≤ greatest_position_count)) (PassesLimit tensor level parents)
reserve_does c l tensor level free parents s k may held = does_nothing c s _ _ (
  leaves_none NoVariable (IsOutside tensor level) free no_turns s,
  (
    record {
      left = reserved parents l;
      keeps = reserved_keeps l parents l.spare k;
      kind = refl;
      size = refl;
      log =
          reserved_logs l parents;
      held = held;
    },
    may.within (branchless l.unique),
  ),
)

pub append_does : (c : Setting) (l : SingletonLevel) (level free x : ℕ) (code : List KStmt) (s : State) → KeepsRules l
    → MayAppend (letter_of l.unique) l.size x (log_of l)
    → Grows c code free 0 level no_turns s (Appended level x l.coords s) (PassesLimit 0 level (length l.coords + 1))
    → Grows c code free 0 level no_turns s (λ t. HoldsLog meaning l (with_coord x (log_of l)) 0 level t
    × (length l.coords + 1 ≤ greatest_position_count)) (PassesLimit 0 level (length l.coords + 1))
append_does c l level free x code s k may d =
    let R = RefusedWithin no_turns s (PassesLimit 0 level (length l.coords + 1)) in
    does_weaker c code s _ _ R R d
    (λ t h. (
      h.0,
      (
        record {
          left = record l { coords = l.coords ++ x ∷ [] };
          keeps = appended_keeps l x l.spare k may h.1.within;
          kind =
              refl;
          size = refl;
          log = refl;
          held = h.1.array;
        },
        h.1.within,
      ),
    ))
    (λ t a n z. z)

-- no code, since nothing is to be given
pub edges_does : (c : Setting) (l : SingletonLevel) (tensor level free parent begin end : ℕ) (s : State) → KeepsRules l
    → Holds l tensor level s.arrays
    → Writes c [] free tensor level no_turns s
    (HoldsLog meaning l (with_edges (letter_of l.unique) parent begin end (log_of l)) tensor level)
edges_does c l tensor level free parent begin end s k held = does_nothing c s _ Never (
  leaves_none NoVariable (IsOutside tensor level) free no_turns s,
  record { left = l; keeps = k; kind = refl; size = refl; log = edges_log l.unique parent begin end (log_of l); held = held },
)
