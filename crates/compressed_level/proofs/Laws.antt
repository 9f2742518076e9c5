-- Lemmas about what specs/Laws.antt defines.
use Rattle.std.specs.Prelude.{◌≡◌, ◌≢◌, ℕ, suc, ◌+◌, ◌-◌, ◌≤◌, ◌<◌, Bool, true, false, List, [], ◌∷◌, ◌++◌, length, take, drop, replicate}
use Rattle.std.specs.Prelude.{slice_get, slice_set, Some, refl}
use Rattle.std.proofs.Common.{◌∙◌, sym, ap, subst, arith}
use Rattle.std.proofs.lemmas.List.{length-append, length-set}
use Rattle.limits.specs.Limits.{greatest_position_count}
use Rattle.level_core.specs.declared.span.Span.{Span}
use Rattle.level_core.specs.declared.span.Entry.{Entry}
use Rattle.level_core.specs.declared.stage.Stage.{Stage}
use Rattle.level_core.specs.declared.stage.Stage.TheVariants.{Unfinished, Finished}
use Rattle.level_core.specs.declared.letter.Letter.TheVariants.{Compressed, CompressedGroups}
use Rattle.level_core.specs.Entries.{StandsAt}
use Rattle.level_core.specs.Kinds.{capabilities}
use Rattle.level_core.specs.Logs.{Log, total, running, NoneFrom, Rises, slice, with_parents, with_coord, with_coords, with_edges, finished}
use Rattle.level_core.specs.Logs.{MayAppend, MayAppendAll, MayGive, MayAppendEdges}
use Rattle.level_core.proofs.Appends.{may_append_one, below_append}
use Rattle.level_core.proofs.EdgeLaws.{none_later}
use Rattle.coordinate_lists.specs.Spans.{IsGroupIn}
use Rattle.coordinate_lists.proofs.Spans.{entry_is_group}
use Rattle.coordinate_lists.proofs.Letters.{unique_is}
use Rattle.compressed_level.specs.Compressed.{CompressedLevel, letter_of, counts_in, ends_of, IsStored, log_in, PartsRise, KeepsRules}
use Rattle.compressed_level.specs.Compressed.{IsAllowed, segment_of, entries_of}
use Rattle.compressed_level.proofs.PartLaws.{end_at, parts_append, parts_give, total_give, zero_give, differences_of_sums}
use Rattle.compressed_level.specs.Laws.{logged, never_branchless, ungiven_is, ends_are, within_coords, rises_below}

pub edges_are : (unique : Bool) (parent begin end : ℕ) (log : Log)
    → with_edges (letter_of unique) parent begin end log ≡ record log {
      counts = slice_set log.counts parent (end - begin);
      next =
          parent + 1;
    }
edges_are true parent begin end log = refl
edges_are false parent begin end log = refl

pub keeps_coords : (l : CompressedLevel) (xs : List ℕ) → KeepsRules l → MayAppendAll (letter_of l.unique) l.size xs l.log
    → length l.log.coords + length xs ≤ greatest_position_count → KeepsRules (logged l (with_coords xs l.log))
keeps_coords l xs k m room =
    let long : length (l.log.coords ++ xs) ≡ length l.log.coords + length xs = length-append l.log.coords xs in
    let given = k.given in
    record {
      small = k.small;
      few = omega (arith, long, room);
      parents = k.parents;
      below = below_append l.size l.log.coords xs k.below m.below;
      rise = parts_append l.unique l.log.counts l.log.coords xs k.given k.rise
          (subst (λ u. Rises u 0 (drop (total l.log.counts) l.log.coords ++ xs))
          (unique_is Compressed CompressedGroups l.unique refl refl) (m.rises (never_branchless l.unique)));
      given = omega (arith, long, given);
      ahead = k.ahead;
      all_given = λ h. absurd (h m.unfinished);
    }

pub keeps_coord : (l : CompressedLevel) (x : ℕ) → KeepsRules l → MayAppend (letter_of l.unique) l.size x l.log
    → length l.log.coords + 1 ≤ greatest_position_count → KeepsRules (logged l (with_coord x l.log))
keeps_coord l x k m room = keeps_coords l (x ∷ []) k (may_append_one (letter_of l.unique) l.size x l.log m) room

gives_all : (l : CompressedLevel) (parent begin end : ℕ) → MayGive parent begin end l.log
    → end - begin ≡ length l.log.coords - total l.log.counts
gives_all l parent begin end g = ap (λ n. n - begin) g.ends ∙ ap (λ n. length l.log.coords - n) g.begins

keeps_given : (l : CompressedLevel) (parent begin end : ℕ) → KeepsRules l → l.log.stage ≡ Unfinished → MayGive parent begin end l.log
    → KeepsRules (logged l (record l.log { counts = slice_set l.log.counts parent (end - begin); next = parent + 1 }))
keeps_given l parent begin end k unfinished g =
    let count = gives_all l parent begin end g in
    let ahead : NoneFrom parent l.log.counts = none_later l.log.next parent l.log.counts g.above k.ahead in
    let long : length (slice_set l.log.counts parent (end - begin)) ≡ length l.log.counts = length-set l.log.counts parent (end - begin) in
    let sum = total_give parent (end - begin) l.log.counts g.reserved ahead in
    let parents_before = k.parents in
    let given = k.given in
    let next : suc parent ≡ parent + 1 = omega arith in
    record {
      small = k.small;
      few = k.few;
      parents = omega (arith, long, parents_before);
      below = k.below;
      rise = subst (λ n. PartsRise l.unique (slice_set l.log.counts parent n) l.log.coords) (sym count)
          (parts_give l.unique parent l.log.counts l.log.coords g.reserved k.given ahead k.rise);
      given = omega (arith, sum, count, given);
      ahead = subst (λ n. NoneFrom n (slice_set l.log.counts parent (end - begin))) next
          (zero_give parent (end - begin) l.log.counts ahead);
      all_given = λ h. absurd (h unfinished);
    }

pub keeps_edges : (l : CompressedLevel) (parent begin end : ℕ) → KeepsRules l → MayAppendEdges (letter_of l.unique) parent begin end l.log
    → KeepsRules (logged l (with_edges (letter_of l.unique) parent begin end l.log))
keeps_edges l parent begin end k m =
    subst (λ log. KeepsRules (logged l log)) (sym (edges_are l.unique parent begin end l.log))
    (keeps_given l parent begin end k m.unfinished (m.gives (never_branchless l.unique)))

-- so are those that are stored
pub stored_is : (stage : Stage) (ends : List ℕ) → IsStored stage ends → stage ≢ Finished → ends ≡ 0 ∷ counts_in stage ends
stored_is stage ends s h = s ∙ ends_are stage (counts_in stage ends) h

pub log_of_parents : (unique : Bool) (stage : Stage) (ends coords : List ℕ) (next parents more : ℕ) → IsStored stage ends
    → stage ≢ Finished → more ≡ parents - (length ends - 1)
    → log_in Unfinished (ends ++ replicate more 0) coords next ≡ with_parents (letter_of unique) parents (log_in stage ends coords next)
log_of_parents unique stage ends coords next parents more s h is =
    let behind = stored_is stage ends s h in
    let headed : length ends ≡ suc (length (counts_in stage ends)) = ap length behind in
    let long : length ends ≡ length (counts_in stage ends) + 1 = omega (arith, headed) in
    let count : more ≡ parents - length (counts_in stage ends) = omega (arith, is, long) in
    let counts : drop 1 (ends ++ replicate more 0) ≡ counts_in stage ends
    ++ replicate more 0 = ap (λ xs. drop 1 (xs ++ replicate more 0)) behind in
    ap (λ ns. record { stage = Unfinished; coords = coords; counts = ns; next = next }) (
    counts ∙ ap (λ n. counts_in stage ends ++ replicate n 0) count
    ∙ ap (λ z. counts_in stage ends ++ replicate (parents - length (counts_in stage ends)) z) (sym (ungiven_is unique))
    )

-- zeros behind stored ends are stored
pub stored_parents : (stage : Stage) (ends : List ℕ) (more : ℕ) → IsStored stage ends → stage ≢ Finished
    → IsStored Unfinished (ends ++ replicate more 0)
stored_parents stage ends more s h =
    let behind = stored_is stage ends s h in
    subst (λ xs. IsStored Unfinished (xs ++ replicate more 0)) (sym behind) refl

pub set_behind : (xs : List ℕ) (parent v : ℕ) → slice_set (0 ∷ xs) (parent + 1) v ≡ 0 ∷ slice_set xs parent v
set_behind xs parent v = let same : parent + 1 ≡ suc parent = omega arith in ap (λ i. slice_set (0 ∷ xs) i v) same

pub log_of_edges : (unique : Bool) (ends coords : List ℕ) (next parent begin end : ℕ) → IsStored Unfinished ends
    → log_in Unfinished (slice_set ends (parent + 1) (end - begin)) coords (parent + 1) ≡ with_edges (letter_of unique) parent begin end
    (log_in Unfinished ends coords next)
log_of_edges unique ends coords next parent begin end s =
    let behind : ends ≡ 0 ∷ drop 1 ends = s in
    let counts : drop 1 (slice_set ends (parent + 1) (end - begin)) ≡ slice_set (drop 1 ends) parent (end - begin) =
    ap (λ xs. drop 1 (slice_set xs (parent + 1) (end - begin))) behind ∙ ap (drop 1) (set_behind (drop 1 ends) parent (end - begin)) in
    ap (λ ns. record { stage = Unfinished; coords = coords; counts = ns; next = parent + 1 }) counts
    ∙ sym (edges_are unique parent begin end (log_in Unfinished ends coords next))

pub stored_edges : (ends : List ℕ) (parent v : ℕ) → IsStored Unfinished ends → IsStored Unfinished (slice_set ends (parent + 1) v)
stored_edges ends parent v s =
    subst (λ xs. IsStored Unfinished (slice_set xs (parent + 1) v)) (sym s)
    (subst (IsStored Unfinished) (sym (set_behind (drop 1 ends) parent v)) refl)

pub log_of_finished : (ends coords : List ℕ) (next : ℕ) → IsStored Unfinished ends
    → log_in Finished (running 0 ends) coords next ≡ finished (log_in Unfinished ends coords next)
log_of_finished ends coords next s =
    let counts : counts_in Finished (running 0 ends) ≡ drop 1 ends = ap (λ xs. counts_in Finished (running 0 xs)) s
    ∙ differences_of_sums (drop 1 ends) in
    ap (λ ns. record { stage = Finished; coords = coords; counts = ns; next = next }) counts

pub stored_finished : (ends : List ℕ) → IsStored Unfinished ends → IsStored Finished (running 0 ends)
stored_finished ends s =
    subst (λ xs. IsStored Finished (running 0 xs)) (sym s) (ap (λ ns. 0 ∷ running 0 ns) (sym (differences_of_sums (drop 1 ends))))

pub rises_where_unique : (l : CompressedLevel) (parent : Span) → IsAllowed l parent → l.unique ≡ true
    → Rises true 0 (slice l.log.coords (segment_of l parent))
rises_where_unique l parent ok u = subst (λ b. Rises b 0 (slice l.log.coords (segment_of l parent))) u (rises_below l parent ok)

-- where a parent's positions begin and end
pub end_is : (l : CompressedLevel) (parent : Span) (p : ℕ) → IsAllowed l parent → p ≤ parent.hi
    → slice_get (ends_of l.log.stage l.log.counts) p ≡ Some (total (take p l.log.counts))
end_is l parent p ok h =
    let single = ok.single in
    let inside = ok.inside in
    ap (λ stage. slice_get (ends_of stage l.log.counts) p) ok.finished ∙ end_at l.log.counts p (omega (arith, h, single, inside))

pub group_in : (l : CompressedLevel) (parent : Span) (pos : ℕ) (e : Entry) → IsAllowed l parent → StandsAt pos e (entries_of l parent)
    → IsGroupIn l.log.coords (segment_of l parent) e
group_in l parent pos e ok h = entry_is_group l.log.coords (segment_of l parent) e pos (within_coords l parent ok).inside h

-- levels of these letters are appended to
pub appends : (unique : Bool) → (capabilities (letter_of unique)).append ≡ true
appends true = refl
appends false = refl
