-- Rows that are appended to a branchless level: each parent has one position, its own.
use Rattle.std.specs.Prelude.{◌≡◌, ◌≢◌, ◌⊎◌, ℕ, zero, suc, ◌+◌, ◌-◌, ◌≤◌, ◌<◌, Bool, true, false, length, take, replicate, refl}
use Rattle.std.proofs.Common.{◌∙◌, sym, ap, subst, arith, inl, inr}
use Rattle.std.proofs.lemmas.Bool.{cases_lt}
use Rattle.std.proofs.lemmas.List.{length-replicate}
use Rattle.level_core.specs.declared.stage.Stage.TheVariants.{Unfinished}
use Rattle.level_core.specs.Logs.{Log, total}
use Rattle.level_rows.specs.Rows.{Rows, begun, place, InOrder, OneEach}
use Rattle.level_rows.proofs.Progress.{Appended, Filled}
use Rattle.level_rows.proofs.RowLaws.{begun_yes, begun_no, begun_some}
use Rattle.level_rows.proofs.Steps.{parents_rise}

-- parents never fall
pub parents_upto : (unique : Bool) (size parents : ℕ) (rows : Rows) (i more : ℕ) → InOrder unique size parents rows → i + more < rows.count
    → rows.parent i ≤ rows.parent (i + more)
parents_upto unique size parents rows i zero o h = let same : i + 0 ≡ i = omega arith in
    subst (λ j. rows.parent i ≤ rows.parent j) (sym same) (omega arith)
parents_upto unique size parents rows i (suc more) o h =
    let same : i + suc more ≡ suc (i + more) = omega arith in
    let before = parents_upto unique size parents rows i more o (omega (arith, h)) in
    let step = parents_rise unique size parents rows (i + more) o (omega (arith, h)) in
    subst (λ j. rows.parent i ≤ rows.parent j) (sym same) (omega (arith, before, step))

pub parents_along : (unique : Bool) (size parents : ℕ) (rows : Rows) (i j : ℕ) → InOrder unique size parents rows → i ≤ j → j < rows.count
    → rows.parent i ≤ rows.parent j
parents_along unique size parents rows i j o h l =
    let same : i + (j - i) ≡ j = omega (arith, h) in
    subst (λ k. rows.parent i ≤ rows.parent k) same (parents_upto unique size parents rows i (j - i) o (omega (arith, same, l)))

-- the first row's parent is the first
first_parent : (unique : Bool) (size parents : ℕ) (rows : Rows) → InOrder unique size parents rows → OneEach parents rows → 0 < rows.count
    → rows.parent 0 ≡ 0
first_parent unique size parents rows o e h =
    let within = o.within 0 h in
    let s = e.some 0 (omega (arith, within)) in
    let k = parents_along unique size parents rows 0 s.0 o (omega arith) s.1 in
    let at = s.2 in
    omega (arith, k, at)

-- a row that begins a position has the next parent
next_parent : (unique : Bool) (size parents : ℕ) (rows : Rows) (i : ℕ) → InOrder unique size parents rows → OneEach parents rows
    → suc i < rows.count → rows.first (suc i) ≡ true → rows.parent (suc i) ≡ rows.parent i + 1
next_parent unique size parents rows i o e h is = by_order (cases_lt (rows.parent i + 1) (rows.parent (suc i)))
  where
    other : rows.parent (suc i) ≢ rows.parent i
    other = e.alone i h is

    between : (s : (j : ℕ) × (j < rows.count) × (rows.parent j ≡ rows.parent i + 1)) → rows.parent i + 1 < rows.parent (suc i)
        → (s.0 < suc i) ⊎ (suc i ≤ s.0) → rows.parent (suc i) ≡ rows.parent i + 1
    between s gap (inl before) = let at = s.2 in
        let k = parents_along unique size parents rows s.0 i o (omega (arith, before)) (omega (arith, h)) in absurd (omega (arith, k, at))
    between s gap (inr from) = let at = s.2 in let k = parents_along unique size parents rows (suc i) s.0 o from s.1 in
        absurd (omega (arith, k, at, gap))

    by_order : (rows.parent i + 1 < rows.parent (suc i)) ⊎ (rows.parent (suc i) ≤ rows.parent i + 1)
        → rows.parent (suc i) ≡ rows.parent i + 1
    by_order (inr near) = let k = parents_rise unique size parents rows i o h in omega (arith, near, other, k)
    by_order (inl far) =
        let within = o.within (suc i) h in
        let s = e.some (rows.parent i + 1) (omega (arith, far, within)) in
        between s far (cases_lt s.0 (suc i))

pub place_is : (unique : Bool) (size parents : ℕ) (rows : Rows) (i : ℕ) → InOrder unique size parents rows → OneEach parents rows
    → i < rows.count → place rows.first i ≡ rows.parent i
place_is unique size parents rows zero o e h = let k = begun_yes rows 0 (o.begins h) in
    let z = first_parent unique size parents rows o e h in omega (arith, k, z)
place_is unique size parents rows (suc i) o e h =
    by_first (place_is unique size parents rows i o e (omega (arith, h))) (rows.first (suc i)) refl
  where
    by_first : place rows.first i ≡ rows.parent i → (b : Bool) → rows.first (suc i) ≡ b → place rows.first (suc i) ≡ rows.parent (suc i)
    by_first before true is =
        let k = begun_yes rows (suc i) is in
        let n = next_parent unique size parents rows i o e h is in
        let some = begun_some rows (suc i) (o.begins (omega (arith, h))) (omega arith) in
        omega (arith, before, k, n, some)
    by_first before false is = let k = begun_no rows (suc i) is in let n = (o.again i h is).0 in omega (arith, before, k, n)

-- so many positions are begun as there are parents
pub all_begun : (unique : Bool) (size parents : ℕ) (rows : Rows) → InOrder unique size parents rows → OneEach parents rows
    → begun rows.first rows.count ≡ parents
all_begun unique size parents rows o e = by_count rows.count refl
  where
    by_count : (n : ℕ) → rows.count ≡ n → begun rows.first rows.count ≡ parents
    by_count zero none = by_parents parents refl
      where
        by_parents : (p : ℕ) → parents ≡ p → begun rows.first rows.count ≡ parents
        by_parents zero is = ap (begun rows.first) none ∙ sym is
        by_parents (suc p) is = let s = e.some 0 (omega (arith, is)) in let l = s.1 in absurd (omega (arith, l, none))
    by_count (suc i) some =
        let h : i < rows.count = omega (arith, some) in
        let here = place_is unique size parents rows i o e h in
        let more = begun_some rows (suc i) (o.begins (omega (arith, some))) (omega arith) in
        let within = o.within i h in
        let s = e.some (parents - 1) (omega (arith, within)) in
        let l = s.1 in
        let at = s.2 in
        let k = parents_along unique size parents rows s.0 i o (omega (arith, l, some)) h in
        let all = ap (begun rows.first) some in
        omega (arith, here, more, within, at, k, all)

ones : (k n : ℕ) → k ≤ n → total (take k (replicate n 1)) ≡ k
ones zero n h = refl
ones (suc k) zero h = absurd (omega (arith, h))
ones (suc k) (suc n) h = let rest = ones k n (omega (arith, h)) in omega (arith, rest)

pub all_ones : (n : ℕ) → total (replicate n 1) ≡ n
all_ones zero = refl
all_ones (suc n) = let k = all_ones n in omega (arith, k)

pub branchless_filled : {unique : Bool} {size : ℕ} (parents : ℕ) (rows : Rows) (log : Log) → OneEach parents rows
    → InOrder unique size parents rows → log.stage ≡ Unfinished → log.counts ≡ replicate parents 1 → Appended rows.count rows log.coords
    → Filled parents rows log
branchless_filled {unique} {size} parents rows log e o stage counts a = record {
  stage = stage;
  reserved = ap length counts ∙ length-replicate parents 1;
  given = ap total counts ∙ all_ones parents ∙ sym (all_begun unique size parents rows o e) ∙ sym a.many;
  appended = a;
  below = λ i h.
      let at = place_is unique size parents rows i o e h in
      let w = o.within i h in
      let lo = ap (λ ns. total (take (rows.parent i) ns)) counts ∙ ones (rows.parent i) parents (omega (arith, w)) in
      let hi = ap (λ ns. total (take (rows.parent i + 1) ns)) counts ∙ ones (rows.parent i + 1) parents (omega (arith, w)) in
      (omega (arith, at, lo), omega (arith, at, hi));
}
