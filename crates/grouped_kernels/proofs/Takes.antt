-- A result that rows are appended to takes rows that increase and come behind those that it holds, and a workspace takes all rows below its
-- ranges.
use Rattle.std.specs.Prelude.{◌≡◌, ◌⊎◌, ℕ, zero, suc, ◌≤◌, ◌<◌, List, [], ◌∷◌, ◌++◌, length, take, slice_index, refl}
use Rattle.std.proofs.Common.{◌∙◌, ap, subst, arith, inl, inr}
use Rattle.lists.specs.Each.{Each}
use Rattle.lists.proofs.Each.{each_append}
use Rattle.tensor_map.specs.Entries.{Entry, coords_of, StrictlyIncreasing}
use Rattle.tensor_map.specs.Order.{IsBefore, IsBeforeAll}
use Rattle.tensor_storage.specs.Arranged.{no_entry}
use Rattle.tensor_storage.specs.Storages.{in_level_order}
use Rattle.tns_io.specs.Positions.{IsBelow}
use Rattle.tns_io.proofs.PositionLaws.{below_long}
use Rattle.result_targets.specs.Sinks.{TakesAll}
use Rattle.level_appends.proofs.Keys.{SameKey, KeyBefore}
use Rattle.appended_results.specs.Heads.{row_at}
use Rattle.appended_results.specs.Results.{MayCome}
use Rattle.appended_results.specs.declared.sink.AppendedSink.{AppendedSink}
use Rattle.appended_results.specs.Sink.{appended_sink}
use Rattle.appended_kernels.proofs.Names.{each_at}
use Rattle.summed_groups.specs.Groups.{AllBefore}
use Rattle.summed_groups.proofs.Parts.{whole_before}
use Rattle.pair_workspaces.specs.Sinks.{pair_sink}
use Rattle.pair_workspaces.specs.declared.sink.PairSink.{PairSink}
use Rattle.touched_workspaces.specs.Sinks.{touched_sink}
use Rattle.touched_workspaces.specs.declared.sink.TouchedSink.{TouchedSink}
use Rattle.grouped_loops.specs.Emitted.{AreLong, IsRow, TakesBehind, TakesRows}

-- ---- a result that rows are appended to
same_more : (n x y : ℕ) (xs ys : List ℕ) → x ≡ y → SameKey n (slice_index xs) (slice_index ys)
    → SameKey (suc n) (slice_index (x ∷ xs)) (slice_index (y ∷ ys))
same_more n x y xs ys is same zero l = is
same_more n x y xs ys is same (suc d) l = same d (omega (arith, l))

-- of lists with a coordinate for each level of the head, one that comes before another has the same head or one that comes before
head_follows : (head : ℕ) (xs ys : List ℕ) → head ≤ length xs → head ≤ length ys → IsBefore xs ys
    → (take head xs ≡ take head ys) ⊎ KeyBefore head (slice_index xs) (slice_index ys)
head_follows zero xs ys h g before = inl refl
head_follows (suc head) [] ys h g before = absurd (omega (arith, h))
head_follows (suc head) (x ∷ xs) [] h g before = absurd before
head_follows (suc head) (x ∷ xs) (y ∷ ys) h g (inl less) = inr (0, omega arith, (λ d l. absurd (omega (arith, l))), less)
head_follows (suc head) (x ∷ xs) (y ∷ ys) h g (inr rest) = by (head_follows head xs ys (omega (arith, h)) (omega (arith, g)) rest.1)
  where
    by : (take head xs ≡ take head ys) ⊎ KeyBefore head (slice_index xs) (slice_index ys)
        → (take (suc head) (x ∷ xs) ≡ take (suc head) (y ∷ ys)) ⊎ KeyBefore (suc head) (slice_index (x ∷ xs)) (slice_index (y ∷ ys))
    by (inl same) = inl (ap (λ zs. x ∷ zs) same ∙ ap (λ z. z ∷ take head ys) rest.0)
    by (inr b) = inr (suc b.0, (let l = b.1 in omega (arith, l)), same_more b.0 x y xs ys rest.0 b.2, b.3)

-- each of these rows comes before a list of coordinates
abbrev AllFirst : List Entry → List ℕ → Type 0
AllFirst before coords = Each (λ (row : Entry). IsBefore row.coords coords) before

all_first : (n : ℕ) (before : List Entry) (coords : List ℕ) → AllBefore n before coords → AllFirst before coords
all_first n [] coords h = tt
all_first n (row ∷ before) coords h = (whole_before n row.coords coords h.0, all_first n before coords h.1)

each_first : (n : ℕ) (before rows : List Entry) → Each (λ (row : Entry). AllBefore n before row.coords) rows
    → Each (λ (row : Entry). AllFirst before row.coords) rows
each_first n before [] h = tt
each_first n before (row ∷ rows) h = (all_first n before row.coords h.0, each_first n before rows h.1)

first_more : (before rows : List Entry) (row : Entry) → Each (λ (other : Entry). AllFirst before other.coords) rows
    → IsBeforeAll row.coords (coords_of rows) → Each (λ (other : Entry). AllFirst (before ++ row ∷ []) other.coords) rows
first_more before [] row h first = tt
first_more before (other ∷ rows) row h first = (
  each_append (λ (e : Entry). IsBefore e.coords other.coords) before (row ∷ []) h.0 (first.0, tt),
  first_more before rows row h.1 first.1,
)

module _ (k : AppendedSink) (ranges sizes : List ℕ) (sized : sizes ≡ in_level_order k.levels ranges) (deep : k.head ≤ length sizes) where
  comes : (before : List Entry) (row : Entry) → AreLong (length sizes) before → AllFirst before row.coords → IsRow sizes row
      → MayCome (in_level_order k.levels ranges) k.head before row
  comes before row long first is = record {
    below = subst (λ ns. IsBelow ns row.coords) sized is.below;
    word = is.word;
    follows = λ i last.
        let inside : i < length before = omega (arith, last) in
        let earlier = each_at (λ (e : Entry). length e.coords ≡ length sizes) before no_entry i long inside in
        let here = below_long sizes row.coords is.below in
        head_follows k.head (row_at before i).coords row.coords (omega (arith, earlier, deep)) (omega (arith, here, deep))
        (each_at (λ (e : Entry). IsBefore e.coords row.coords) before no_entry i first inside);
  }

  takes_first : (before rows : List Entry) → AreLong (length sizes) before → Each (λ (row : Entry). AllFirst before row.coords) rows
      → Each (IsRow sizes) rows → StrictlyIncreasing rows → TakesAll appended_sink k ranges before rows
  takes_first before [] long first each up = tt
  takes_first before (row ∷ rows) long first each up = (
    comes before row long first.0 each.0,
    takes_first (before ++ row ∷ []) rows
        (each_append (λ (e : Entry). length e.coords ≡ length sizes) before (row ∷ []) long
        (below_long sizes row.coords each.0.below, tt))
        (first_more before rows row first.1 up.0) each.1 up.1,
  )

  pub takes_behind : (n : ℕ) → TakesBehind appended_sink k n ranges sizes
  takes_behind n before rows long behind each up = takes_first before rows long (each_first n before rows behind) each up

-- ---- workspaces
module _ (w : TouchedSink) (ranges : List ℕ) (one : length ranges ≡ 1) where
  touched_from : (before rows : List Entry) → Each (IsRow ranges) rows → TakesAll touched_sink w ranges before rows
  touched_from before [] each = tt
  touched_from before (row ∷ rows) each =
      (record { one = one; below = each.0.below; word = each.0.word }, touched_from (before ++ row ∷ []) rows each.1)

  pub touched_takes : TakesRows touched_sink w ranges
  touched_takes rows each = touched_from [] rows each

module _ (w : PairSink) (ranges : List ℕ) (long : length ranges ≡ w.keys) where
  pairs_from : (before rows : List Entry) → Each (IsRow ranges) rows → TakesAll pair_sink w ranges before rows
  pairs_from before [] each = tt
  pairs_from before (row ∷ rows) each = (
    record { many = below_long ranges row.coords each.0.below ∙ long; word = each.0.word },
    pairs_from (before ++ row ∷ []) rows each.1,
  )

  pub pairs_take : TakesRows pair_sink w ranges
  pairs_take rows each = pairs_from [] rows each
