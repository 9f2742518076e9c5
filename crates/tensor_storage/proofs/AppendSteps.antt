-- The paths of levels are appended, entry by entry.
use Rattle.std.specs.Prelude.{◌≡◌, ℕ, suc, ◌<◌, ◌==◌, not, false, List, [], ◌∷◌, ◌++◌, length, map, drop, slice_index, slice_index_or}
use Rattle.std.specs.Prelude.{Option, Some, None, MatchOption, refl}
use Rattle.std.specs.declared.cmp.Ordering.{Ordering}
use Rattle.std.specs.declared.cmp.Ordering.TheVariants.{Less, Equal, Greater}
use Rattle.std.specs.Ordering.{ordering_index}
use Rattle.std.proofs.Common.{◌∙◌, sym, ap, arith, get_or, drop-cons}
use Rattle.std.proofs.lemmas.List.{append-nil, append_assoc, map-append}
use Rattle.level_core.specs.declared.span.Span.{Span}
use Rattle.level_core.specs.declared.span.Entry.{Entry}
use Rattle.tensor_map.specs.Order.{IsBefore}
use Rattle.tensor_map.specs.Entries.{Entry as TensorEntry, coords_of, StrictlyIncreasing}
use Rattle.tensor_map.proofs.OrderLaws.{before_all_trans}
use Rattle.tensor_storage.specs.Routes.{Route, longer, routes_through, entry_of}
use Rattle.tensor_storage.specs.Walks.{Walking, IsNext}
use Rattle.tensor_storage.proofs.RouteLaws.{through_more}

-- the paths through the entries that are done are appended
pub record Appended (segment : Span) (pos : ℕ) (all : List Entry) (below : Span → List Route) (places values front : List ℕ)
    (before list : List TensorEntry) : Type 0 where
  pub done : List Entry
  pub walks : Walking segment pos done all
  pub list_is : list ≡ before ++ map (entry_of places values front) (routes_through below done)

pub none_appended : (segment : Span) (all : List Entry) (below : Span → List Route) (places values front : List ℕ)
    (before : List TensorEntry) → Walking segment segment.lo [] all
    → Appended segment segment.lo all below places values front before before
none_appended segment all below places values front before w = record { done = []; walks = w; list_is = sym (append-nil before) }

abbrev row_of : List ℕ → List ℕ → ℕ → TensorEntry
row_of places coords value = record { coords = map (λ place. slice_index coords place) places; value = value }

-- one coordinate moves from the paths to what is in front of them
entry_longer : (places values front : List ℕ) (x : ℕ) (rs : List Route)
    → map (entry_of places values (front ++ x ∷ [])) rs ≡ map (entry_of places values front) (map (longer x) rs)
entry_longer places values front x [] = refl
entry_longer places values front x (r ∷ rs) =
    let here : (front ++ x ∷ []) ++ r.coords ≡ front ++ x ∷ r.coords = append_assoc front (x ∷ []) r.coords in
    ap (λ coords. row_of places coords (slice_index values r.end) ∷ map (entry_of places values (front ++ x ∷ [])) rs) here
    ∙ ap (λ es. entry_of places values front (longer x r) ∷ es) (entry_longer places values front x rs)

pub more_appended : (segment : Span) (pos : ℕ) (all : List Entry) (below : Span → List Route) (places values front path : List ℕ)
    (before list new : List TensorEntry) (e : Entry)
    → Appended segment pos all below places values front before list
    → ((done : List Entry) → Walking segment pos done all → IsNext segment pos done all e) → path ≡ front ++ e.coord ∷ []
    → new ≡ list ++ map (entry_of places values path) (below e.child)
    → Appended segment e.child.hi all below places values front before new
more_appended segment pos all below places values front path before list new e a next path_is is = record {
  done = a.done ++ e ∷ [];
  walks = (next a.done a.walks).walks;
  list_is = is ∙ ap (λ es. es ++ map (entry_of places values path) (below e.child)) a.list_is
      ∙ ap (λ p. (before ++ map (entry_of places values front) (routes_through below a.done))
      ++ map (entry_of places values p) (below e.child)) path_is
      ∙ ap (λ es. (before ++ map (entry_of places values front) (routes_through below a.done)) ++ es)
      (entry_longer places values front e.coord (below e.child))
      ∙ append_assoc before (map (entry_of places values front) (routes_through below a.done))
      (map (entry_of places values front) (map (longer e.coord) (below e.child)))
      ∙ ap (λ es. before ++ es)
      (sym (map-append (entry_of places values front) (routes_through below a.done) (map (longer e.coord) (below e.child)))
      ∙ ap (map (entry_of places values front)) (sym (through_more below a.done e)));
}

pub all_appended : (segment : Span) (pos : ℕ) (all : List Entry) (below : Span → List Route) (places values front : List ℕ)
    (before list : List TensorEntry) → Appended segment pos all below places values front before list
    → ((done : List Entry) → Walking segment pos done all → done ≡ all)
    → list ≡ before ++ map (entry_of places values front) (routes_through below all)
all_appended segment pos all below places values front before list a ends = a.list_is
    ∙ ap (λ es. before ++ map (entry_of places values front) (routes_through below es)) (ends a.done a.walks)

-- no entry is left
pub none_left : {A : Type 0} (o : Option A) (P : Type 0) (Q : A → Type 0) → MatchOption o P Q → ((x : A) → o ≡ Some x → ⊥) → P
none_left None P Q m none = m
none_left (Some x) P Q m none = absurd (none x refl)

-- the levels from one on
pub levels_left : {L : Type 0} (levels : List L) (depth : ℕ) (l : L) → depth < length levels → l ≡ get_or levels depth l
    → drop depth levels ≡ l ∷ drop (suc depth) levels
levels_left levels depth l within is = drop-cons levels depth l within ∙ ap (λ m. m ∷ drop (suc depth) levels) (sym is)

-- neighbours that increase
pub increasing_from : (entries : List TensorEntry)
    → ((k : ℕ) (d : TensorEntry) → suc k < length entries
    → IsBefore (slice_index_or entries k d).coords (slice_index_or entries (suc k) d).coords) → StrictlyIncreasing entries
increasing_from [] near = tt
increasing_from (e ∷ []) near = (tt, tt)
increasing_from (e ∷ f ∷ es) near =
    let rest = increasing_from (f ∷ es) (λ k d h. near (suc k) d (omega (arith, h))) in
    let first = near 0 e (omega arith) in
    ((first, before_all_trans e.coords f.coords (coords_of es) first rest.0), rest)

-- what isn't told as unequal to less is less
pub is_less : (o : Ordering) → not (ordering_index o == 0) ≡ false → o ≡ Less
is_less Less h = refl
is_less Equal h = absurd (cc)
is_less Greater h = absurd (cc)
