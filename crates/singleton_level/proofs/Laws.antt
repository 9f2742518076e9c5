-- Lemmas about what specs/Laws.antt defines.
use Rattle.std.specs.Prelude.{◌≡◌, ℕ, ◌+◌, ◌≤◌, ◌<◌, max, Bool, true, false, List, [], ◌∷◌, ◌++◌, length, slice_get, Some, refl}
use Rattle.std.proofs.Common.{◌∙◌, sym, ap, subst, arith}
use Rattle.std.proofs.lemmas.List.{length-append}
use Rattle.limits.specs.Limits.{greatest_position_count}
use Rattle.level_core.specs.declared.span.Span.{Span}
use Rattle.level_core.specs.declared.span.Entry.{Entry}
use Rattle.level_core.specs.declared.stage.Stage.{Stage}
use Rattle.level_core.specs.declared.stage.Stage.TheVariants.{Unfinished, Finished}
use Rattle.level_core.specs.Entries.{one, span, IsIn, StandsAt, coord_at}
use Rattle.level_core.specs.Kinds.{capabilities}
use Rattle.level_core.specs.Logs.{Log, with_parents, with_edges, Rises, slice, entries_between, MayAppend, MayAppendAll, MayFinish}
use Rattle.level_core.proofs.Appends.{may_append_one, below_append}
use Rattle.level_core.proofs.GroupLaws.{stands_where}
use Rattle.coordinate_lists.proofs.Spans.{one_rises, entries_coord, entry_is_group}
use Rattle.singleton_level.specs.Singleton.{SingletonLevel, letter_of, log_with, log_of, KeepsRules, IsAllowed, entries_of}
use Rattle.singleton_level.specs.Laws.{reserved_logs, all_given, finished_keeps}

-- the letter tells whether the level is unique
pub letter_tells : (a b : Bool) → letter_of a ≡ letter_of b → a ≡ b
letter_tells true true h = refl
letter_tells true false h = absurd (cc)
letter_tells false true h = absurd (cc)
letter_tells false false h = refl

-- a level with coordinates more
pub all_appended_keeps : (l : SingletonLevel) (xs : List ℕ) (spare : ℕ) → KeepsRules l
    → MayAppendAll (letter_of l.unique) l.size xs (log_of l) → length l.coords + length xs ≤ greatest_position_count
    → KeepsRules (record l { coords = l.coords ++ xs; spare = spare })
all_appended_keeps l xs spare k may room = record {
  small = k.small;
  few = let long = length-append l.coords xs in omega (arith, long, room);
  below = below_append l.size l.coords xs k.below may.below;
  given = λ h. absurd (apart l.stage may.unfinished h);
}
  where
    apart : (stage : Stage) → stage ≡ Unfinished → stage ≡ Finished → ⊥
    apart stage h g = different (sym h ∙ g)
      where
        different : Unfinished ≡ Finished → ⊥
        different e = cc

-- a level with a coordinate more
pub appended_keeps : (l : SingletonLevel) (x spare : ℕ) → KeepsRules l → MayAppend (letter_of l.unique) l.size x (log_of l)
    → length l.coords + 1 ≤ greatest_position_count → KeepsRules (record l { coords = l.coords ++ x ∷ []; spare = spare })
appended_keeps l x spare k may room =
    all_appended_keeps l (x ∷ []) spare k (may_append_one (letter_of l.unique) l.size x (log_of l) may) room

-- no positions are to be given
pub edges_log : (unique : Bool) (parent begin end : ℕ) (log : Log) → log ≡ with_edges (letter_of unique) parent begin end log
edges_log true parent begin end log = refl
edges_log false parent begin end log = refl

-- each parent of a finished level is allowed
pub allowed_finished : (l : SingletonLevel) (parents p : ℕ) → KeepsRules l → MayFinish parents (log_of l) → p < parents
    → IsAllowed (record l { stage = Finished }) (one p)
allowed_finished l parents p k may h = let all = all_given l parents may in record {
  keeps = finished_keeps l parents k may;
  readable = λ same. absurd (apart same);
  within = record { order = omega arith; inside = omega (arith, h, all.1) };
  rise = one_rises l.unique l.coords (one p) refl;
}
  where
    apart : Finished ≡ Unfinished → ⊥
    apart h = cc

-- what the calls leave of a level's fields, where the level is what they are seen as
pub reserve_logs : (v old : SingletonLevel) (coords : List ℕ) (known parents : ℕ) → v ≡ old → coords ≡ v.coords
    → known ≡ max v.parents parents → log_with Unfinished coords known ≡ with_parents (letter_of old.unique) parents (log_of old)
reserve_logs v old coords known parents is same more =
    ap (λ xs. log_with Unfinished xs known) same ∙ ap (log_with Unfinished v.coords) more ∙ reserved_logs v parents
    ∙ ap (λ l. with_parents (letter_of l.unique) parents (log_of l)) is

pub append_keeps : (v old : SingletonLevel) (coords xs : List ℕ) (spare : ℕ) → v ≡ old → KeepsRules v
    → MayAppendAll (letter_of old.unique) old.size xs (log_of old) → length old.coords + length xs ≤ greatest_position_count
    → coords ≡ v.coords ++ xs → KeepsRules (record v { coords = coords; spare = spare })
append_keeps v old coords xs spare is k may room appended =
    let may_here = subst (λ l. MayAppendAll (letter_of l.unique) l.size xs (log_of l)) (sym is) may in
    let room_here : length v.coords + length xs ≤ greatest_position_count =
    subst (λ l. length l.coords + length xs ≤ greatest_position_count) (sym is) room in
    subst (λ ys. KeepsRules (record v { coords = ys; spare = spare })) (sym appended)
    (all_appended_keeps v xs spare k may_here room_here)

pub push_keeps : (v old : SingletonLevel) (coords : List ℕ) (x spare : ℕ) → v ≡ old → KeepsRules v
    → MayAppend (letter_of old.unique) old.size x (log_of old) → length old.coords < greatest_position_count → coords ≡ v.coords ++ x ∷ []
    → KeepsRules (record v { coords = coords; spare = spare })
push_keeps v old coords x spare is k may room pushed =
    append_keeps v old coords (x ∷ []) spare is k (may_append_one (letter_of old.unique) old.size x (log_of old) may)
    (omega (arith, room)) pushed

pub rises_where_unique : (l : SingletonLevel) (parent : Span) → IsAllowed l parent → l.unique ≡ true → Rises true 0 (slice l.coords parent)
rises_where_unique l parent ok u = subst (λ b. Rises b 0 (slice l.coords parent)) u ok.rise

-- a position of an allowed parent has a coordinate
pub coord_inside : (coords : List ℕ) (pos : ℕ) (l : SingletonLevel) (parent : Span) → coords ≡ l.coords → IsAllowed l parent
    → IsIn pos parent → pos < length coords
coord_inside coords pos l parent is ok i = subst (λ xs. pos < length xs) (sym is) (omega (arith, i.1, ok.within.inside))

pub coord_read : (coords : List ℕ) (pos x : ℕ) (l : SingletonLevel) (parent : Span) → coords ≡ l.coords → slice_get coords pos ≡ Some x
    → IsAllowed l parent → IsIn pos parent → Some x ≡ coord_at (entries_of l parent) pos
coord_read coords pos x l parent is h ok i = sym h ∙ subst (λ xs. slice_get coords pos ≡ slice_get xs pos) is refl
    ∙ sym (entries_coord l.coords parent pos ok.within.inside i)

-- the first position of a child stands before the end of the parent, which has coordinates
pub child_first : (coords : List ℕ) (pos : ℕ) (segment : Span) (l : SingletonLevel) (parent : Span) (e : Entry) → coords ≡ l.coords
    → IsAllowed l parent → parent ≡ segment → StandsAt pos e (entries_of l parent) → (pos < segment.hi) × (segment.hi ≤ length coords)
child_first coords pos segment l parent e is ok same h =
    let g = entry_is_group l.coords parent e pos ok.within.inside h in
    let at = stands_where (entries_between l.coords parent) e pos h in
    subst (λ s. (pos < s.hi)
    × (s.hi ≤ length coords)) same (omega (arith, at, g.some, g.inside), subst (λ xs. parent.hi ≤ length xs) (sym is) ok.within.inside)

pub child_read : (coords : List ℕ) (pos end : ℕ) (segment : Span) (l : SingletonLevel) (parent : Span) (e : Entry) → coords ≡ l.coords
    → parent ≡ segment → StandsAt pos e (entries_of l parent)
    → ((s : Span) (e : Entry) → s.hi ≡ segment.hi → StandsAt pos e (entries_between coords s) → end ≡ e.child.hi) → span pos end ≡ e.child
child_read coords pos end segment l parent e is same h found =
    let at = stands_where (entries_between l.coords parent) e pos h in
    let ends = found parent e (subst (λ s. parent.hi ≡ s.hi) same refl)
    (subst (λ xs. StandsAt pos e (entries_between xs parent)) (sym is) h) in
    spans_are pos end e.child at ends
  where
    spans_are : (lo hi : ℕ) (s : Span) → s.lo ≡ lo → hi ≡ s.hi → span lo hi ≡ s
    spans_are lo hi s h g = ap (λ n. span n hi) (sym h) ∙ ap (λ n. span s.lo n) g

-- levels of these letters are appended to
pub appends : (unique : Bool) → (capabilities (letter_of unique)).append ≡ true
appends true = refl
appends false = refl
