-- One level of the way down: what is so of the levels below it, entry after entry.
use Rattle.std.specs.Prelude.{◌≡◌, ◌⊎◌, ℕ, zero, suc, ◌+◌, ◌≤◌, ◌<◌, List, [], ◌∷◌, ◌++◌, length, take, drop}
use Rattle.std.proofs.Common.{◌∙◌, sym, ap, subst, arith, get_or, add-one, drop-cons}
use Rattle.std.proofs.lemmas.List.{drop_all, take_all, take_more}
use Rattle.level_core.specs.declared.span.Span.{Span}
use Rattle.level_core.specs.declared.span.Entry.{Entry}
use Rattle.level_core.specs.Entries.{Placed}
use Rattle.level_core.proofs.EntryLaws.{placed_within}
use Rattle.tensor_storage.specs.declared.level.StorageLevel.{StorageLevel}
use Rattle.tensor_storage.specs.Laws.{laws}
use Rattle.tensor_storage.specs.Levels.{meaning}
use Rattle.tensor_storage.specs.Storages.{IsOpen}
use Rattle.storage_arrays.specs.Arrays.{AreDone, positions_in}
use Rattle.level_checks.proofs.Loops.{Same}
use Rattle.level_checks.proofs.Segments.{segment_within}
use Rattle.storage_builder.specs.Cleared.{EndsBelow, IsCleared}
use Rattle.storage_builder.proofs.Clearing.{Opened, Through, cleared_as, cleared_both, opened_all, through_level, through_push}

-- the child of an entry is inside the segment
placed_at : (pos hi : ℕ) (es : List Entry) (i : ℕ) (d : Entry) → Placed pos hi es → i < length es
    → ((get_or es i d).child.lo < (get_or es i d).child.hi) × ((get_or es i d).child.hi ≤ hi)
placed_at pos hi [] i d p h = absurd (omega (arith, h))
placed_at pos hi (e ∷ es) zero d p h = (p.1, placed_within e.child.hi hi es p.2)
placed_at pos hi (e ∷ es) (suc i) d p h = placed_at e.child.hi hi es i d p.2 (omega (arith, h))

module _ (levels : List StorageLevel) (depth parents count : ℕ) (s : Span) (l : StorageLevel) (found : List Entry) (n : ℕ)
    (left : drop depth levels ≡ l ∷ drop (suc depth) levels) (done : AreDone parents (drop depth levels)) (within : s.hi ≤ parents)
    (ok : meaning.allowed l s) (found_is : found ≡ meaning.entries l s) (count_is : count ≡ positions_in parents l) where
  abbrev rest : List StorageLevel
  rest = drop (suc depth) levels

  below_is : drop (depth + 1) levels ≡ drop (suc depth) levels
  below_is = ap (λ m. drop m levels) (add-one depth)

  done_here : AreDone parents (l ∷ drop (suc depth) levels)
  done_here = subst (AreDone parents) left done

  pub done_below : AreDone count (drop (depth + 1) levels)
  done_below = subst (AreDone count) (sym below_is) (subst (λ k. AreDone k rest) (sym count_is) done_here.1)

  pub child_within : (i : ℕ) (d : Entry) → i < length found
      → ((get_or found i d).child.lo < (get_or found i d).child.hi) × ((get_or found i d).child.hi ≤ count)
  child_within i d inside =
      let placed = subst (Placed (meaning.segment_of l s).lo (meaning.segment_of l s).hi) (sym found_is) (laws.entries l s ok).placed in
      let at = placed_at (meaning.segment_of l s).lo (meaning.segment_of l s).hi found i d placed inside in
      let less = at.1 in
      let end = segment_within l parents s done_here.0 ok within in
      (at.0, omega (arith, less, end, count_is))

  -- the next entry
  opened_next : (i : ℕ) (d : Entry) → i < length found
      → Same (Opened meaning rest n (drop i found))
      (IsOpen meaning rest n (get_or found i d).child × Opened meaning rest n (drop (i + 1) found))
  opened_next i d inside =
      let next : drop i found ≡ get_or found i d ∷ drop (i + 1) found =
      drop-cons found i d inside ∙ ap (λ m. get_or found i d ∷ drop m found) (sym (add-one i)) in
      (λ o. subst (Opened meaning rest n) next o, λ o. subst (Opened meaning rest n) (sym next) o)

  all_open : Same (Opened meaning rest n found) (IsOpen meaning (drop depth levels) n s)
  all_open = (
    λ o. subst (λ ls. IsOpen meaning ls n s) (sym left)
        (ok, (opened_all meaning rest n (meaning.entries l s)).0 (subst (Opened meaning rest n) found_is o)),
    λ o. subst (Opened meaning rest n) (sym found_is)
        ((opened_all meaning rest n (meaning.entries l s)).1 (subst (λ ls. IsOpen meaning ls n s) left o).1),
  )

  -- below an entry the levels can't be asked
  pub not_open : (i : ℕ) (d : Entry) → i < length found → Same (Opened meaning rest n (drop i found)) (Opened meaning rest n found)
      → IsOpen meaning (drop depth levels) n s → IsOpen meaning (drop (depth + 1) levels) n (get_or found i d).child
  not_open i d inside so_far o =
      subst (λ ls. IsOpen meaning ls n (get_or found i d).child) (sym below_is) ((opened_next i d inside).0 (so_far.1 (all_open.1 o))).0

  pub opened_more : (i : ℕ) (d : Entry) → i < length found → IsOpen meaning (drop (depth + 1) levels) n (get_or found i d).child
      → Same (Opened meaning rest n (drop i found)) (Opened meaning rest n found)
      → Same (Opened meaning rest n (drop (i + 1) found)) (Opened meaning rest n found)
  opened_more i d inside o so_far =
      let here = subst (λ ls. IsOpen meaning ls n (get_or found i d).child) below_is o in (
        λ others. so_far.0 ((opened_next i d inside).1 (here, others)),
        λ all. ((opened_next i d inside).0 (so_far.1 all)).1,
      )

  pub opened_end : (i : ℕ) → length found ≤ i → Same (Opened meaning rest n (drop i found)) (Opened meaning rest n found)
      → IsOpen meaning (drop depth levels) n s
  opened_end i all so_far = all_open.0 (so_far.0 (subst (Opened meaning rest n) (sym (drop_all i found all)) tt))

  pub cleared_more : (nothing : ℕ) (old mid new : List ℕ) (i : ℕ) (d : Entry) → i < length found
      → IsCleared (Through meaning rest (take i found)) nothing old mid
      → IsCleared (EndsBelow meaning (drop (depth + 1) levels) (get_or found i d).child) nothing mid new
      → IsCleared (Through meaning rest (take (i + 1) found)) nothing old new
  cleared_more nothing old mid new i d inside before here =
      let e = get_or found i d in
      let here' = subst (λ ls. IsCleared (EndsBelow meaning ls e.child) nothing mid new) below_is here in
      let both = cleared_both (Through meaning rest (take i found)) (EndsBelow meaning rest e.child) nothing old mid new before here' in
      subst (λ es. IsCleared (Through meaning rest es) nothing old new) (sym (take_more found i d inside))
      (cleared_as (λ pos. Through meaning rest (take i found) pos ⊎ EndsBelow meaning rest e.child pos)
      (Through meaning rest (take i found ++ e ∷ [])) nothing old new (λ pos. through_push meaning rest (take i found) e pos) both)

  pub cleared_end : (nothing : ℕ) (old new : List ℕ) (i : ℕ) → length found ≤ i
      → IsCleared (Through meaning rest (take i found)) nothing old new
      → IsCleared (EndsBelow meaning (drop depth levels) s) nothing old new
  cleared_end nothing old new i all c =
      let whole = subst (λ es. IsCleared (Through meaning rest es) nothing old new) (take_all i found all ∙ found_is) c in
      subst (λ ls. IsCleared (EndsBelow meaning ls s) nothing old new) (sym left)
      (cleared_as (Through meaning rest (meaning.entries l s)) (EndsBelow meaning (l ∷ rest) s) nothing old new
      (λ pos. through_level meaning rest l s pos) whole)
