-- Lemmas about what specs/CallLaws.antt defines.
use Rattle.std.specs.Prelude.{◌≡◌, ℕ, zero, suc, ◌+◌, ◌-◌, ◌≤◌, ◌<◌, Bool, List, [], ◌∷◌, ◌++◌, length, replicate, slice_get, slice_set}
use Rattle.std.specs.Prelude.{Some}
use Rattle.std.proofs.Common.{◌∙◌, sym, ap, subst, arith}
use Rattle.limits.specs.Limits.{greatest_position_count}
use Rattle.limits.proofs.Limits.{positions_are_small}
use Rattle.level_core.specs.declared.span.Span.{Span}
use Rattle.level_core.specs.declared.span.Entry.{Entry}
use Rattle.level_core.specs.declared.stage.Stage.{Stage}
use Rattle.level_core.specs.declared.stage.Stage.TheVariants.{Unfinished, Finished}
use Rattle.level_core.specs.Entries.{IsIn, StandsAt, coord_at}
use Rattle.level_core.specs.Logs.{total, running, with_parents, with_coords, with_edges, finished, MayReserve, MayAppend, MayAppendAll}
use Rattle.level_core.specs.Logs.{MayAppendEdges, MayFinish, entries_between}
use Rattle.level_core.proofs.Appends.{may_append_one}
use Rattle.level_core.specs.Meaning.{Finishes}
use Rattle.level_core.proofs.GroupLaws.{stands_where}
use Rattle.compressed_level.specs.Compressed.{CompressedLevel, letter_of, counts_in, IsStored, log_in, KeepsRules, IsAllowed, segment_of}
use Rattle.compressed_level.specs.Compressed.{entries_of, meaning}
use Rattle.compressed_level.specs.Laws.{logged, finished_level}
use Rattle.compressed_level.specs.Laws.{keeps_parents, keeps_finished, never_branchless}
use Rattle.compressed_level.proofs.Laws.{keeps_coords, keeps_edges, log_of_parents, stored_parents, log_of_edges, stored_edges}
use Rattle.compressed_level.proofs.Laws.{log_of_finished, stored_finished}
use Rattle.compressed_level.specs.Laws.{within_coords}
use Rattle.compressed_level.specs.Laws.{coord_is}
use Rattle.compressed_level.proofs.Laws.{end_is, group_in}
use Rattle.compressed_level.specs.Compressed.{stored}
use Rattle.compressed_level.specs.CallLaws.{Giving, Finishing, Reading}
use Rattle.std.proofs.lemmas.Option.{same_Some}

-- the rules don't speak of the room
with_spare : (l : CompressedLevel) (n : ℕ) → KeepsRules l → KeepsRules (record l { spare = n })
with_spare l n k = record {
  small = k.small;
  few = k.few;
  parents = k.parents;
  below = k.below;
  rise = k.rise;
  given = k.given;
  ahead =
      k.ahead;
  all_given = k.all_given;
}

pub append_keeps : (size : ℕ) (unique : Bool) (stage : Stage) (ends coords : List ℕ) (next spare more : ℕ) (xs appended : List ℕ)
    (now : CompressedLevel) → stored size unique stage ends coords next spare ≡ now
    → KeepsRules (stored size unique stage ends coords next spare)
    → MayAppendAll (letter_of now.unique) now.size xs now.log → length now.log.coords + length xs ≤ greatest_position_count
    → appended ≡ coords ++ xs → KeepsRules (stored size unique stage ends appended next more)
append_keeps size unique stage ends coords next spare more xs appended now is k may room items =
    let l = stored size unique stage ends coords next spare in
    let may_here : MayAppendAll (letter_of unique) size xs (log_in stage ends coords next) =
    subst (λ n. MayAppendAll (letter_of n.unique) n.size xs n.log) (sym is) may in
    let room_here : length coords + length xs ≤ greatest_position_count =
    subst (λ n. length n.log.coords + length xs ≤ greatest_position_count) (sym is) room in
    subst (λ ys. KeepsRules (stored size unique stage ends ys next more)) (sym items)
    (with_spare (logged l (with_coords xs l.log)) more (keeps_coords l xs k may_here room_here))

pub push_keeps : (size : ℕ) (unique : Bool) (stage : Stage) (ends coords : List ℕ) (next spare more x : ℕ) (pushed : List ℕ)
    (now : CompressedLevel) → stored size unique stage ends coords next spare ≡ now
    → KeepsRules (stored size unique stage ends coords next spare)
    → MayAppend (letter_of now.unique) now.size x now.log → length now.log.coords < greatest_position_count → pushed ≡ coords ++ x ∷ []
    → KeepsRules (stored size unique stage ends pushed next more)
push_keeps size unique stage ends coords next spare more x pushed now is k may room items =
    append_keeps size unique stage ends coords next spare more (x ∷ []) pushed now is k
    (may_append_one (letter_of now.unique) now.size x now.log may) (omega (arith, room)) items

pub parents_keep : (size : ℕ) (unique : Bool) (stage : Stage) (ends coords : List ℕ) (next spare room parents more : ℕ) (pushed : List ℕ)
    (now : CompressedLevel) → stored size unique stage ends coords next spare ≡ now
    → KeepsRules (stored size unique stage ends coords next spare)
    → IsStored stage ends → MayReserve parents now.log → more ≡ parents - (length ends - 1) → pushed ≡ ends ++ replicate more 0
    → KeepsRules (stored size unique Unfinished pushed coords next room) × IsStored Unfinished pushed
parents_keep size unique stage ends coords next spare room parents more pushed now is k s may count items =
    let l = stored size unique stage ends coords next spare in
    let may_here : MayReserve parents (log_in stage ends coords next) = subst (λ n. MayReserve parents n.log) (sym is) may in
    let log = log_of_parents unique stage ends coords next parents more s may_here.reservable count in
    subst (λ xs. KeepsRules (stored size unique Unfinished xs coords next room) × IsStored Unfinished xs) (sym items) (
      subst (λ g. KeepsRules (record { size = size; unique = unique; log = g; spare = room })) (sym log)
          (with_spare (logged l (with_parents (letter_of unique) parents l.log)) room (keeps_parents l parents k may_here)),
      stored_parents stage ends more s may_here.reservable,
    )

pub parents_logged : (size : ℕ) (unique : Bool) (stage : Stage) (ends coords : List ℕ) (next spare parents more : ℕ) (pushed : List ℕ)
    (now : CompressedLevel) → stored size unique stage ends coords next spare ≡ now
    → IsStored stage ends → MayReserve parents now.log → more ≡ parents - (length ends - 1) → pushed ≡ ends ++ replicate more 0
    → log_in Unfinished pushed coords next ≡ with_parents (letter_of now.unique) parents now.log
parents_logged size unique stage ends coords next spare parents more pushed now is s may count items =
    let may_here : MayReserve parents (log_in stage ends coords next) = subst (λ n. MayReserve parents n.log) (sym is) may in
    ap (λ xs. log_in Unfinished xs coords next) items
    ∙ log_of_parents unique stage ends coords next parents more s may_here.reservable count
    ∙ ap (λ n. with_parents (letter_of n.unique) parents n.log) is

pub giving : (size : ℕ) (unique : Bool) (stage : Stage) (ends coords : List ℕ) (next spare parent begin end : ℕ) (now : CompressedLevel)
    → stored size unique stage ends coords next spare ≡ now → KeepsRules (stored size unique stage ends coords next spare)
    → IsStored stage ends
    → MayAppendEdges (letter_of now.unique) parent begin end now.log
    → (stage ≡ Unfinished) × Giving size unique ends coords next spare parent begin end
giving size unique stage ends coords next spare parent begin end now is k s m =
    let here : MayAppendEdges (letter_of unique) parent begin end (log_in stage ends coords next) =
    subst (λ n. MayAppendEdges (letter_of n.unique) parent begin end n.log) (sym is) m in (
      here.unfinished,
      subst
          (λ t. IsStored t ends → MayAppendEdges (letter_of unique) parent begin end (log_in t ends coords next)
          → KeepsRules (stored size unique t ends coords next spare) → Giving size unique ends coords next spare parent begin end)
          (sym here.unfinished)
          (λ s m k.
          let g = m.gives (never_branchless unique) in
          let headed : length ends ≡ suc (length (counts_in Unfinished ends)) = ap length s in
          let reserved = g.reserved in
          let begins = g.begins in
          let ends_at = g.ends in
          let given = k.given in
          let few = k.few in
          let parents = k.parents in
          record {
            place = omega (arith, headed, reserved);
            small = omega (arith, reserved, parents, positions_are_small);
            order =
                omega (arith, begins, ends_at, given);
            few = omega (arith, ends_at, few);
            stored_ends = s;
            may = m;
            keeps = k;
          })
          s here k,
    )

pub edges_keep : (size : ℕ) (unique : Bool) (ends coords : List ℕ) (next spare parent begin end : ℕ) (set : List ℕ)
    → Giving size unique ends coords next spare parent begin end → set ≡ slice_set ends (parent + 1) (end - begin)
    → KeepsRules (stored size unique Unfinished set coords (parent + 1) spare) × IsStored Unfinished set
edges_keep size unique ends coords next spare parent begin end set g items =
    let l = stored size unique Unfinished ends coords next spare in
    let log = log_of_edges unique ends coords next parent begin end g.stored_ends in
    subst (λ xs. KeepsRules (stored size unique Unfinished xs coords (parent + 1) spare) × IsStored Unfinished xs) (sym items) (
      subst (λ n. KeepsRules (record { size = size; unique = unique; log = n; spare = spare })) (sym log)
          (keeps_edges l parent begin end g.keeps g.may),
      stored_edges ends parent (end - begin) g.stored_ends,
    )

pub edges_logged : (size : ℕ) (unique : Bool) (ends coords : List ℕ) (next spare parent begin end : ℕ) (set : List ℕ)
    → Giving size unique ends coords next spare parent begin end → set ≡ slice_set ends (parent + 1) (end - begin)
    → log_in Unfinished set coords (parent + 1) ≡ with_edges (letter_of unique) parent begin end (log_in Unfinished ends coords next)
edges_logged size unique ends coords next spare parent begin end set g items = ap (λ xs. log_in Unfinished xs coords (parent + 1)) items
    ∙ log_of_edges unique ends coords next parent begin end g.stored_ends

pub finishing : (size : ℕ) (unique : Bool) (stage : Stage) (ends coords : List ℕ) (next spare parents : ℕ) (now : CompressedLevel)
    → stored size unique stage ends coords next spare ≡ now → KeepsRules (stored size unique stage ends coords next spare)
    → IsStored stage ends
    → MayFinish parents now.log → (stage ≡ Unfinished) × Finishing size unique ends coords next spare parents
finishing size unique stage ends coords next spare parents now is k s m =
    let here : MayFinish parents (log_in stage ends coords next) = subst (λ n. MayFinish parents n.log) (sym is) m in (
      here.unfinished,
      subst
          (λ t. IsStored t ends → MayFinish parents (log_in t ends coords next) → KeepsRules (stored size unique t ends coords next spare)
          → Finishing size unique ends coords next spare parents)
          (sym here.unfinished)
          (λ s m k.
          let headed : total ends ≡ 0 + total (counts_in Unfinished ends) = ap total s in
          let given = k.given in
          let few = k.few in
          record { small = omega (arith, headed, given, few); stored_ends = s; may = m; keeps = k })
          s here k,
    )

pub finish_keeps : (size : ℕ) (unique : Bool) (ends coords : List ℕ) (next spare parents : ℕ) (sums : List ℕ)
    → Finishing size unique ends coords next spare parents → sums ≡ running 0 ends
    → KeepsRules (stored size unique Finished sums coords next spare) × IsStored Finished sums
finish_keeps size unique ends coords next spare parents sums f items =
    let l = stored size unique Unfinished ends coords next spare in
    let log = log_of_finished ends coords next f.stored_ends in
    subst (λ xs. KeepsRules (stored size unique Finished xs coords next spare) × IsStored Finished xs) (sym items) (
      subst (λ n. KeepsRules (record { size = size; unique = unique; log = n; spare = spare })) (sym log)
          (keeps_finished l parents f.keeps f.may),
      stored_finished ends f.stored_ends,
    )

pub finish_logged : (size : ℕ) (unique : Bool) (ends coords : List ℕ) (next spare parents : ℕ) (sums : List ℕ)
    → Finishing size unique ends coords next spare parents → sums ≡ running 0 ends
    → log_in Finished sums coords next ≡ finished (log_in Unfinished ends coords next)
finish_logged size unique ends coords next spare parents sums f items = ap (λ xs. log_in Finished xs coords next) items
    ∙ log_of_finished ends coords next f.stored_ends

pub finish_is : (size : ℕ) (unique : Bool) (stage : Stage) (ends coords : List ℕ) (next spare parents : ℕ) (sums : List ℕ)
    (now : CompressedLevel) → stored size unique stage ends coords next spare ≡ now
    → KeepsRules (stored size unique stage ends coords next spare) → IsStored stage ends
    → MayFinish parents now.log → sums ≡ running 0 ends → Finishes meaning parents now (stored size unique Finished sums coords next spare)
finish_is size unique stage ends coords next spare parents sums now is k s m items =
    let v = stored size unique stage ends coords next spare in
    let f = finishing size unique stage ends coords next spare parents now is k s m in
    let may : MayFinish parents v.log = subst (λ n. MayFinish parents n.log) (sym is) m in
    let log : log_in Finished sums coords next ≡ finished v.log = finish_logged size unique ends coords next spare parents sums f.1 items
    ∙ ap (λ t. finished (log_in t ends coords next)) (sym f.0) in
    subst (λ n. Finishes meaning parents n (stored size unique Finished sums coords next spare)) is
    (subst (λ g. Finishes meaning parents v (logged v g)) (sym log) (finished_level v parents k may))

get_inside : (xs : List ℕ) (i x : ℕ) → slice_get xs i ≡ Some x → i < length xs
get_inside [] i x h = absurd (none_is x h)
  where
    none_is : (x : ℕ) → slice_get {X = ℕ} [] i ≡ Some x → ⊥
    none_is x h = cc
get_inside (y ∷ xs) zero x h = omega arith
get_inside (y ∷ xs) (suc i) x h = let k = get_inside xs i x h in omega (arith, k)

pub reading : (size : ℕ) (unique : Bool) (stage : Stage) (ends coords : List ℕ) (next spare : ℕ) (parent : Span) (now : CompressedLevel)
    → stored size unique stage ends coords next spare ≡ now → IsStored stage ends → IsAllowed now parent
    → Reading ends (segment_of now parent) parent
reading size unique stage ends coords next spare parent now is s ok =
    let l = stored size unique stage ends coords next spare in
    let here : IsAllowed l parent = subst (λ n. IsAllowed n parent) (sym is) ok in
    let single = here.single in
    let lo : slice_get ends parent.lo ≡ Some (segment_of l parent).lo = ap (λ xs. slice_get xs parent.lo) s
    ∙ end_is l parent parent.lo here (omega (arith, single)) in
    let hi : slice_get ends parent.hi ≡ Some (segment_of l parent).hi = ap (λ xs. slice_get xs parent.hi) s
    ∙ end_is l parent parent.hi here (omega arith) in
    subst (λ n. Reading ends (segment_of n parent) parent) is (record {
      lo = lo;
      hi = hi;
      lo_inside = get_inside ends parent.lo (segment_of l parent).lo lo;
      hi_inside = get_inside ends parent.hi (segment_of l parent).hi hi;
    })

-- the words that are read are the segment
pub segment_read : (ends : List ℕ) (segment parent : Span) (lo hi : ℕ) → Reading ends segment parent → slice_get ends parent.lo ≡ Some lo
    → slice_get ends parent.hi ≡ Some hi → record { lo = lo; hi = hi } ≡ segment
segment_read ends segment parent lo hi r h g =
    let first = same_Some lo segment.lo (sym h ∙ r.lo) in
    let second = same_Some hi segment.hi (sym g ∙ r.hi) in
    ap (λ n. record { lo = n; hi = hi }) first ∙ ap (λ n. record { lo = segment.lo; hi = n }) second

pub coord_inside : (coords : List ℕ) (pos : ℕ) (now : CompressedLevel) (parent : Span) → coords ≡ now.log.coords → IsAllowed now parent
    → IsIn pos (segment_of now parent) → pos < length coords
coord_inside coords pos now parent is ok i =
    let w = within_coords now parent ok in
    let inside = w.inside in
    subst (λ xs. pos < length xs) (sym is) (omega (arith, i.1, inside))

pub coord_read : (coords : List ℕ) (pos x : ℕ) (now : CompressedLevel) (parent : Span) → coords ≡ now.log.coords
    → slice_get coords pos ≡ Some x → IsAllowed now parent → IsIn pos (segment_of now parent)
    → Some x ≡ coord_at (entries_of now parent) pos
coord_read coords pos x now parent is h ok i = sym (coord_is now parent pos ok i ∙ ap (λ xs. slice_get xs pos) (sym is) ∙ h)

-- the first position of a group stands in its segment
pub child_first : (coords : List ℕ) (pos : ℕ) (segment : Span) (now : CompressedLevel) (parent : Span) (e : Entry)
    → coords ≡ now.log.coords → IsAllowed now parent → segment_of now parent ≡ segment → StandsAt pos e (entries_of now parent)
    → (pos < segment.hi) × (segment.hi ≤ length coords)
child_first coords pos segment now parent e is ok same stands =
    let g = group_in now parent pos e ok stands in
    let at = stands_where (entries_of now parent) e pos stands in
    let some = g.some in
    let inside = g.inside in (
      subst (λ s. pos < s.hi) same (omega (arith, at, some, inside)),
      subst (λ s. s.hi ≤ length coords) same
          (subst (λ xs. (segment_of now parent).hi ≤ length xs) (sym is) (within_coords now parent ok).inside),
    )

pub child_read : (coords : List ℕ) (pos found : ℕ) (segment : Span) (now : CompressedLevel) (parent : Span) (e : Entry)
    → coords ≡ now.log.coords → segment_of now parent ≡ segment → StandsAt pos e (entries_of now parent)
    → ((s : Span) (f : Entry) → s.hi ≡ segment.hi → StandsAt pos f (entries_between coords s) → found ≡ f.child.hi)
    → record { lo = pos; hi = found } ≡ e.child
child_read coords pos found segment now parent e is same stands find =
    let at = stands_where (entries_of now parent) e pos stands in
    let end = find (segment_of now parent) e (ap (λ s. s.hi) same)
    (subst (λ xs. StandsAt pos e (entries_between xs (segment_of now parent))) (sym is) stands) in
    ap (λ n. record { lo = n; hi = found }) (sym at) ∙ ap (λ n. record { lo = e.child.lo; hi = n }) end
