-- The coordinates of a group of positions rise where the rows do.
use Rattle.std.specs.Prelude.{◌≡◌, ◌⊎◌, ℕ, zero, suc, ◌+◌, ◌-◌, ◌≤◌, ◌<◌, Bool, true, false, List, [], ◌∷◌, length, drop, slice_index, refl}
use Rattle.std.proofs.Common.{◌∙◌, ap, arith, inl, inr}
use Rattle.std.proofs.lemmas.Bool.{cases_lt}
use Rattle.std.proofs.lemmas.List.{get_or-take, get_or-drop, length-take-le, length-drop}
use Rattle.level_core.specs.declared.span.Span.{Span}
use Rattle.level_core.specs.Entries.{IsIn}
use Rattle.level_core.specs.Logs.{Rises, gap, slice}
use Rattle.level_rows.specs.Rows.{Rows, begun, place}
use Rattle.level_rows.proofs.Progress.{Appended}
use Rattle.level_rows.proofs.RowLaws.{begun_yes, begun_no, begun_some}

pub rises_from : (unique : Bool) (least : ℕ) (xs : List ℕ) → (0 < length xs → least ≤ slice_index xs 0)
    → ((k : ℕ) → suc k < length xs → slice_index xs k + gap unique ≤ slice_index xs (suc k)) → Rises unique least xs
rises_from unique least [] h g = tt
rises_from unique least (x ∷ xs) h g =
    (h (omega arith), rises_from unique (x + gap unique) xs (λ some. g 0 (omega (arith, some))) (λ k l. g (suc k) (omega (arith, l))))

-- the row that begins a position
pub begins_it : (rows : Rows) (n pos : ℕ) → pos < begun rows.first n
    → (i : ℕ) × (i < n) × (rows.first i ≡ true) × (place rows.first i ≡ pos)
begins_it rows zero pos h = absurd (omega (arith, h))
begins_it rows (suc n) pos h = by_first (begins_it rows n pos) (rows.first n) refl
  where
    earlier : (i : ℕ) × (i < n) × (rows.first i ≡ true) × (place rows.first i ≡ pos)
        → (i : ℕ) × (i < suc n) × (rows.first i ≡ true) × (place rows.first i ≡ pos)
    earlier k = let l = k.1 in (k.0, omega (arith, l), k.2, k.3)

    by_order : (pos < begun rows.first n → (i : ℕ) × (i < n) × (rows.first i ≡ true) × (place rows.first i ≡ pos)) → rows.first n ≡ true
        → begun rows.first (suc n) ≡ begun rows.first n + 1 → (pos < begun rows.first n) ⊎ (begun rows.first n ≤ pos)
        → (i : ℕ) × (i < suc n) × (rows.first i ≡ true) × (place rows.first i ≡ pos)
    by_order before starting is (inl l) = earlier (before l)
    by_order before starting is (inr l) = (n, omega arith, starting, omega (arith, is, l, h))

    by_first : (pos < begun rows.first n → (i : ℕ) × (i < n) × (rows.first i ≡ true) × (place rows.first i ≡ pos)) → (b : Bool)
        → rows.first n ≡ b → (i : ℕ) × (i < suc n) × (rows.first i ≡ true) × (place rows.first i ≡ pos)
    by_first before true is = by_order before is (begun_yes rows n is) (cases_lt pos (begun rows.first n))
    by_first before false is = earlier (before (let k = begun_no rows n is in omega (arith, k, h)))

-- rows that follow one another in a group of positions rise
abbrev pub PlacesRise : Bool → Rows → Span → Type 0
PlacesRise unique rows s = (i : ℕ) → suc i < rows.count → rows.first (suc i) ≡ true → IsIn (place rows.first i) s
    → IsIn (place rows.first (suc i)) s → rows.coord i + gap unique ≤ rows.coord (suc i)

pub group_rises : (unique : Bool) (rows : Rows) (coords : List ℕ) (s : Span) → (0 < rows.count → rows.first 0 ≡ true)
    → Appended rows.count rows coords → s.lo ≤ s.hi → s.hi ≤ length coords → PlacesRise unique rows s → Rises unique 0 (slice coords s)
group_rises unique rows coords s starts a order inside r = rises_from unique 0 (slice coords s) (λ _. omega arith) step
  where
    long : length (slice coords s) ≡ s.hi - s.lo
    long = length-take-le (s.hi - s.lo) (drop s.lo coords) (let k = length-drop s.lo coords in omega (arith, k, inside))

    word : (k : ℕ) → k < s.hi - s.lo → slice_index (slice coords s) k ≡ slice_index coords (s.lo + k)
    word k l = get_or-take (s.hi - s.lo) (drop s.lo coords) k 0 l ∙ get_or-drop s.lo coords k 0

    between : (k : ℕ) → suc k < s.hi - s.lo → (i : ℕ) → i < rows.count → rows.first i ≡ true → place rows.first i ≡ s.lo + suc k
        → slice_index coords (s.lo + k) + gap unique ≤ slice_index coords (s.lo + suc k)
    between k l zero h starting at = let b = begun_yes rows 0 starting in absurd (omega (arith, b, at))
    between k l (suc i) h starting at =
        let b = begun_yes rows (suc i) starting in
        let some = begun_some rows (suc i) (starts (omega (arith, h))) (omega arith) in
        let before : place rows.first i ≡ s.lo + k = omega (arith, b, at, some) in
        let rise = r i h starting (omega (arith, before), omega (arith, before, l)) (omega (arith, at), omega (arith, at, l)) in
        let here = a.at i (omega (arith, h)) in
        let there = a.at (suc i) h in
        let low = ap (slice_index coords) before in
        let high = ap (slice_index coords) at in
        omega (arith, rise, here, there, low, high)

    step : (k : ℕ) → suc k < length (slice coords s) → slice_index (slice coords s) k + gap unique ≤ slice_index (slice coords s) (suc k)
    step k l =
        let m = a.many in
        let b = begins_it rows rows.count (s.lo + suc k) (omega (arith, l, long, m, inside)) in
        let g = between k (omega (arith, l, long)) b.0 b.1 b.2 b.3 in
        let x = word k (omega (arith, l, long)) in
        let y = word (suc k) (omega (arith, l, long)) in
        omega (arith, g, x, y)
