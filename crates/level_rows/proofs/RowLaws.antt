-- Laws of rows.
use Rattle.std.specs.Prelude.{◌≡◌, ◌⊎◌, ℕ, zero, suc, ◌+◌, ◌-◌, ◌≤◌, ◌<◌, Bool, true, false, if◌then◌else◌, List, [], ◌∷◌, ◌++◌, refl}
use Rattle.std.proofs.Common.{sym, ap, subst, arith, inl, inr}
use Rattle.std.proofs.lemmas.Bool.{cases_lt}
use Rattle.level_core.specs.Logs.{gap, Rises}
use Rattle.level_rows.specs.Rows.{Rows, begun, place}
use Rattle.level_rows.proofs.Progress.{UpTo}

pub begun_yes : (rows : Rows) (n : ℕ) → rows.first n ≡ true → begun rows.first (suc n) ≡ begun rows.first n + 1
begun_yes rows n h = ap (λ b. if b then begun rows.first n + 1 else begun rows.first n) h

pub begun_no : (rows : Rows) (n : ℕ) → rows.first n ≡ false → begun rows.first (suc n) ≡ begun rows.first n
begun_no rows n h = ap (λ b. if b then begun rows.first n + 1 else begun rows.first n) h

step_by : (rows : Rows) (n : ℕ) (b : Bool) → rows.first n ≡ b → begun rows.first n ≤ begun rows.first (suc n)
step_by rows n true h = let k = begun_yes rows n h in omega (arith, k)
step_by rows n false h = let k = begun_no rows n h in omega (arith, k)

begun_step : (rows : Rows) (n : ℕ) → begun rows.first n ≤ begun rows.first (suc n)
begun_step rows n = step_by rows n (rows.first n) refl

pub begun_more : (rows : Rows) (n more : ℕ) → begun rows.first n ≤ begun rows.first (n + more)
begun_more rows n zero = let same : n + 0 ≡ n = omega arith in subst (λ m. begun rows.first n ≤ begun rows.first m) (sym same) (omega arith)
begun_more rows n (suc more) =
    let k = begun_more rows n more in
    let l = begun_step rows (n + more) in
    let same : n + suc more ≡ suc (n + more) = omega arith in
    subst (λ m. begun rows.first n ≤ begun rows.first m) (sym same) (omega (arith, k, l))

pub begun_upto : (rows : Rows) (n m : ℕ) → n ≤ m → begun rows.first n ≤ begun rows.first m
begun_upto rows n m h = let same : n + (m - n) ≡ m = omega (arith, h) in
    subst (λ k. begun rows.first n ≤ begun rows.first k) same (begun_more rows n (m - n))

-- where each row begins a position there are as many as rows
pub begun_all : (first : ℕ → Bool) (n : ℕ) → ((i : ℕ) → i < n → first i ≡ true) → begun first n ≡ n
begun_all first zero all = refl
begun_all first (suc n) all =
    let here = ap (λ b. if b then begun first n + 1 else begun first n) (all n (omega arith)) in
    let before = begun_all first n (λ i h. all i (omega (arith, h))) in
    omega (arith, here, before)

-- once a row has begun a position, each row has one
pub begun_some : (rows : Rows) (n : ℕ) → rows.first 0 ≡ true → 0 < n → 0 < begun rows.first n
begun_some rows n h l = let one = begun_yes rows 0 h in let more = begun_upto rows 1 n (omega (arith, l)) in omega (arith, one, more)

pub place_within : (rows : Rows) (i n : ℕ) → rows.first 0 ≡ true → i < n → place rows.first i < begun rows.first n
place_within rows i n h l =
    let some = begun_some rows (suc i) h (omega arith) in
    let more = begun_upto rows (suc i) n (omega (arith, l)) in
    omega (arith, some, more)

-- each position is that of a row that begins it
pub placed : (rows : Rows) (n pos : ℕ) → pos < begun rows.first n → (i : ℕ) × (i < n) × (place rows.first i ≡ pos)
placed rows zero pos h = absurd (omega (arith, h))
placed rows (suc n) pos h = by_first (placed rows n pos) (rows.first n) refl
  where
    earlier : (i : ℕ) × (i < n) × (place rows.first i ≡ pos) → (i : ℕ) × (i < suc n) × (place rows.first i ≡ pos)
    earlier k = (k.0, omega (arith, k.1), k.2)

    by_order : (pos < begun rows.first n → (i : ℕ) × (i < n) × (place rows.first i ≡ pos))
        → begun rows.first (suc n) ≡ begun rows.first n + 1 → (pos < begun rows.first n) ⊎ (begun rows.first n ≤ pos)
        → (i : ℕ) × (i < suc n) × (place rows.first i ≡ pos)
    by_order before is (inl l) = earlier (before l)
    by_order before is (inr l) = (n, omega arith, omega (arith, is, l, h))

    by_first : (pos < begun rows.first n → (i : ℕ) × (i < n) × (place rows.first i ≡ pos)) → (b : Bool) → rows.first n ≡ b
        → (i : ℕ) × (i < suc n) × (place rows.first i ≡ pos)
    by_first before true is = by_order before (begun_yes rows n is) (cases_lt pos (begun rows.first n))
    by_first before false is = earlier (before (let k = begun_no rows n is in omega (arith, k, h)))

-- one more number behind numbers that rise
pub rises_push : (unique : Bool) (least x most : ℕ) (ys : List ℕ) → Rises unique least ys → UpTo most ys → most + gap unique ≤ x → least ≤ x
    → Rises unique least (ys ++ x ∷ [])
rises_push unique least x most [] r u h l = (l, tt)
rises_push unique least x most (y ∷ ys) r u h l = (r.0, rises_push unique (y + gap unique) x most ys r.1 u.1 h (omega (arith, u.0, h)))

pub upto_more : (most more : ℕ) (ys : List ℕ) → most ≤ more → UpTo most ys → UpTo more ys
upto_more most more [] h u = tt
upto_more most more (y ∷ ys) h u = (omega (arith, h, u.0), upto_more most more ys h u.1)

pub upto_push : (most : ℕ) (ys : List ℕ) → UpTo most ys → UpTo most (ys ++ most ∷ [])
upto_push most [] u = (omega arith, tt)
upto_push most (y ∷ ys) u = (u.0, upto_push most ys u.1)

few_by : (rows : Rows) (n : ℕ) (b : Bool) → rows.first n ≡ b → begun rows.first n ≤ n → begun rows.first (suc n) ≤ suc n
few_by rows n true is h = let k = begun_yes rows n is in omega (arith, k, h)
few_by rows n false is h = let k = begun_no rows n is in omega (arith, k, h)

-- no more positions are begun than there are rows
pub begun_few : (rows : Rows) (n : ℕ) → begun rows.first n ≤ n
begun_few rows zero = omega arith
begun_few rows (suc n) = few_by rows n (rows.first n) refl (begun_few rows n)
