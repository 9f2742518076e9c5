-- A level that is finished after its rows were appended stands for them.
use Rattle.std.specs.Prelude.{◌≡◌, ◌⊎◌, ℕ, zero, suc, ◌+◌, ◌-◌, ◌≤◌, ◌<◌, Bool, true, List, [], ◌∷◌, length, take, drop, slice_index, Some}
use Rattle.std.proofs.Common.{◌∙◌, sym, ap, subst, arith, inl, inr}
use Rattle.std.proofs.lemmas.Bool.{cases_lt}
use Rattle.std.proofs.lemmas.List.{get_or-take, get_or-drop, length-take-le, length-drop}
use Rattle.std.proofs.lemmas.Option.{slice_get-get_or}
use Rattle.level_core.specs.declared.span.Span.{Span}
use Rattle.level_core.specs.declared.span.Entry.{Entry}
use Rattle.level_core.specs.Entries.{IsIn, coord_at}
use Rattle.level_core.specs.Logs.{Log, total, slice, entries_between, segment_in}
use Rattle.level_core.proofs.GroupLaws.{groups_coord}
use Rattle.level_rows.specs.Rows.{Rows, place, StandsFor}
use Rattle.level_rows.proofs.Progress.{Filled}
use Rattle.level_rows.proofs.RowLaws.{placed}

take_more : (p : ℕ) (ns : List ℕ) → total (take p ns) ≤ total (take (suc p) ns)
take_more zero [] = omega arith
take_more zero (n ∷ ns) = omega arith
take_more (suc p) [] = omega arith
take_more (suc p) (n ∷ ns) = let k = take_more p ns in omega (arith, k)

take_far : (p more : ℕ) (ns : List ℕ) → total (take p ns) ≤ total (take (p + more) ns)
take_far p zero ns = let same : p + 0 ≡ p = omega arith in subst (λ q. total (take p ns) ≤ total (take q ns)) (sym same) (omega arith)
take_far p (suc more) ns =
    let same : p + suc more ≡ suc (p + more) = omega arith in
    let k = take_far p more ns in
    let l = take_more (p + more) ns in
    subst (λ q. total (take p ns) ≤ total (take q ns)) (sym same) (omega (arith, k, l))

-- positions of the first parents are no more than those of more parents
pub take_upto : (p q : ℕ) (ns : List ℕ) → p ≤ q → total (take p ns) ≤ total (take q ns)
take_upto p q ns h = let same : p + (q - p) ≡ q = omega (arith, h) in
    subst (λ k. total (take p ns) ≤ total (take k ns)) same (take_far p (q - p) ns)

take_within : (p : ℕ) (ns : List ℕ) → total (take p ns) ≤ total ns
take_within zero ns = omega arith
take_within (suc p) [] = omega arith
take_within (suc p) (n ∷ ns) = let k = take_within p ns in omega (arith, k)

-- a position of a segment has the coordinate that stands there
coord_between : (coords : List ℕ) (s : Span) (pos : ℕ) → s.hi ≤ length coords → IsIn pos s
    → coord_at (entries_between coords s) pos ≡ Some (slice_index coords pos)
coord_between coords s pos h is =
    let long : length (slice coords s) ≡ s.hi - s.lo = length-take-le (s.hi - s.lo) (drop s.lo coords) (let k = length-drop s.lo coords in
    omega (arith, k, h)) in
    let from = is.0 in
    let before = is.1 in
    let inside : pos - s.lo < length (slice coords s) = omega (arith, long, from, before) in
    let there : s.lo + (pos - s.lo) ≡ pos = omega (arith, from) in
    groups_coord s.lo (slice coords s) pos from (omega (arith, long, from, before))
    ∙ slice_get-get_or (slice coords s) (pos - s.lo) 0 inside
    ∙ ap Some (get_or-take (s.hi - s.lo) (drop s.lo coords) (pos - s.lo) 0 (omega (arith, from, before))
    ∙ get_or-drop s.lo coords (pos - s.lo) 0 ∙ ap (slice_index coords) there)

-- what finishing tells of the level
pub record Finished (log : Log) (allowed : Span → Type 0) (segment_of : Span → Span) (entries : Span → List Entry) : Type 0 where
  pub segments : (parent : Span) → allowed parent → segment_of parent ≡ segment_in log.counts parent
  pub entries_are : (parent : Span) → allowed parent → entries parent ≡ entries_between log.coords (segment_of parent)

pub stands_for : (full : Bool) (parents : ℕ) (rows : Rows) (log : Log) (allowed : Span → Type 0) (segment_of : Span → Span)
    (entries : Span → List Entry) → (0 < rows.count → rows.first 0 ≡ true)
    → Filled parents rows log → Finished log allowed segment_of entries → StandsFor full allowed segment_of entries rows (place rows.first)
stands_for full parents rows log allowed segment_of entries starts f is = record {
  has = λ parent i ok h in_it.
      let b = f.below i h in
      let lo = take_upto parent.lo (rows.parent i) log.counts in_it.0 in
      let hi = take_upto (rows.parent i + 1) parent.hi log.counts (let l = in_it.1 in omega (arith, l)) in
      subst (λ es. coord_at es (place rows.first i) ≡ Some (rows.coord i)) (sym (entries_at parent ok))
      (coord_between log.coords (segment_in log.counts parent) (place rows.first i) (ends parent)
      (let x = b.0 in let y = b.1 in (omega (arith, x, lo), omega (arith, y, hi))) ∙ ap Some (f.appended.at i h));
  alone = λ parent i ok h at. by_order parent i h (subst (IsIn (place rows.first i)) (is.segments parent ok) at)
      (cases_lt (rows.parent i) parent.lo) (cases_lt (rows.parent i) parent.hi);
  only = λ _ parent pos x ok at c.
      let s = subst (IsIn pos) (is.segments parent ok) at in
      let e = ends parent in
      let m = f.appended.many in
      let l = s.1 in
      placed rows rows.count pos (omega (arith, l, e, m));
}
  where
    ends : (parent : Span) → (segment_in log.counts parent).hi ≤ length log.coords
    ends parent = let k = take_within parent.hi log.counts in let g = f.given in omega (arith, k, g)

    entries_at : (parent : Span) → allowed parent → entries parent ≡ entries_between log.coords (segment_in log.counts parent)
    entries_at parent ok = is.entries_are parent ok ∙ ap (entries_between log.coords) (is.segments parent ok)

    by_order : (parent : Span) (i : ℕ) → i < rows.count → IsIn (place rows.first i) (segment_in log.counts parent)
        → (rows.parent i < parent.lo) ⊎ (parent.lo ≤ rows.parent i) → (rows.parent i < parent.hi) ⊎ (parent.hi ≤ rows.parent i)
        → IsIn (rows.parent i) parent
    by_order parent i h at (inr from) (inl before) = (from, before)
    by_order parent i h at (inl early) late =
        let b = (f.below i h).1 in
        let k = take_upto (rows.parent i + 1) parent.lo log.counts (omega (arith, early)) in
        let a = at.0 in
        absurd (omega (arith, b, k, a))
    by_order parent i h at (inr from) (inr past) =
        let b = (f.below i h).0 in
        let k = take_upto parent.hi (rows.parent i) log.counts past in
        let a = at.1 in
        absurd (omega (arith, b, k, a))

-- rows that have the same places
pub stands_along : (full : Bool) (asked then_asked : Span → Type 0) (segment_of : Span → Span) (entries : Span → List Entry) (rows : Rows)
    (place then_place : ℕ → ℕ)
    → ((s : Span) → then_asked s → asked s) → ((i : ℕ) → i < rows.count → then_place i ≡ place i)
    → StandsFor full asked segment_of entries rows place → StandsFor full then_asked segment_of entries rows then_place
stands_along full asked then_asked segment_of entries rows place then_place fewer same s = record {
  has = λ parent i ok h at. ap (coord_at (entries parent)) (same i h) ∙ s.has parent i (fewer parent ok) h at;
  alone = λ parent i ok h at. s.alone parent i (fewer parent ok) h (subst (λ p. IsIn p (segment_of parent)) (same i h) at);
  only = λ f parent pos x ok at is. let k = s.only f parent pos x (fewer parent ok) at is in (k.0, k.1, same k.0 k.1 ∙ k.2);
}
