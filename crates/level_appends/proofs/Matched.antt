-- Two lists of rows in increasing order that name the same lists of first coordinates, one of them each only once.
use Rattle.std.specs.Prelude.{◌≡◌, ◌⊎◌, ℕ, zero, suc, ◌≤◌, ◌<◌, refl}
use Rattle.std.proofs.Common.{arith, inl, inr}
use Rattle.std.proofs.lemmas.Bool.{cases_lt}
use Rattle.level_rows.specs.Tables.{Increase}
use Rattle.level_rows.proofs.TableLaws.{before}
use Rattle.level_appends.proofs.Keys.{SameKey, KeyBefore, key_sym, key_trans, before_along, key_order, same_row, row_order}

-- so many rows, which increase by their first m coordinates, name what others do
pub record NameSame (m : ℕ) (heads : ℕ → ℕ → ℕ) (many : ℕ) (coords : ℕ → ℕ → ℕ) (count : ℕ) : Type 0 where
  pub rise : Increase heads m many
  pub order : ℕ
  pub deep : m ≤ order
  pub up : Increase coords order count
  pub head_there : (j : ℕ) → j < many → (i : ℕ) × (i < count) × SameKey m (λ d. heads d j) (λ d. coords d i)
  pub row_there : (i : ℕ) → i < count → (j : ℕ) × (j < many) × SameKey m (λ d. coords d i) (λ d. heads d j)

-- each row has its own, in order, and none is left out
pub record Matches (m : ℕ) (heads : ℕ → ℕ → ℕ) (many : ℕ) (coords : ℕ → ℕ → ℕ) (count : ℕ) (to : ℕ → ℕ) : Type 0 where
  pub within : (i : ℕ) → i < count → to i < many
  pub same : (i : ℕ) → i < count → SameKey m (λ d. coords d i) (λ d. heads d (to i))
  pub start : 0 < count → to 0 ≡ 0
  pub step : (i : ℕ) → suc i < count → (to (suc i) ≡ to i) ⊎ (to (suc i) ≡ suc (to i))
  pub ends : (i : ℕ) → count ≡ suc i → many ≡ suc (to i)
  pub none : count ≡ 0 → many ≡ 0

module _ (m : ℕ) (heads : ℕ → ℕ → ℕ) (many : ℕ) (coords : ℕ → ℕ → ℕ) (count : ℕ) (n : NameSame m heads many coords count) where
  -- a row's head
  abbrev found : (i : ℕ) → (i < count) ⊎ (count ≤ i) → ℕ
  found i (inl l) = (n.row_there i l).0
  found i (inr past) = 0

  row_before : (i j : ℕ) → i < count → j < count → KeyBefore m (λ d. coords d i) (λ d. coords d j) → i < j
  row_before i j h g b =
      row_order coords n.order count i j n.up h g (b.0, (let l = b.1 in let d = n.deep in omega (arith, l, d)), b.2, b.3)

  module _ (to : ℕ → ℕ) (within : (i : ℕ) → i < count → to i < many)
      (same : (i : ℕ) → i < count → SameKey m (λ d. coords d i) (λ d. heads d (to i))) where
    -- a row that a head between two others is of stands between theirs
    stands_behind : (i j : ℕ) → i < count → j < many → to i < j → (k : ℕ) × (k < count) × (i < k)
        × SameKey m (λ d. heads d j) (λ d. coords d k)
    stands_behind i j h g less =
        let s = n.head_there j g in (
          s.0,
          s.1,
          row_before i s.0 h s.1
              (before_along m (λ d. heads d (to i)) (λ d. heads d j) (λ d. coords d i) (λ d. coords d s.0)
              (key_sym m (λ d. coords d i) (λ d. heads d (to i)) (same i h)) s.2 (before heads m many (to i) j n.rise less g)),
          s.2,
        )

    stands_before : (i j : ℕ) → i < count → j < to i → (k : ℕ) × (k < i)
    stands_before i j h less =
        let w = within i h in
        let s = n.head_there j (omega (arith, less, w)) in (
          s.0,
          row_before s.0 i s.1 h
              (before_along m (λ d. heads d j) (λ d. heads d (to i)) (λ d. coords d s.0) (λ d. coords d i) s.2
              (key_sym m (λ d. coords d i) (λ d. heads d (to i)) (same i h)) (before heads m many j (to i) n.rise less w)),
        )

    first_head : (h : 0 < count) → (t : ℕ) → to 0 ≡ t → to 0 ≡ 0
    first_head h zero is = is
    first_head h (suc t) is = let s = stands_before 0 0 h (omega (arith, is)) in let l = s.1 in absurd (omega (arith, l))

    next_head : (i : ℕ) (h : suc i < count)
        → SameKey m (λ d. coords d i) (λ d. coords d (suc i))
        ⊎ (KeyBefore m (λ d. coords d i) (λ d. coords d (suc i)) ⊎ KeyBefore m (λ d. coords d (suc i)) (λ d. coords d i))
        → (to (suc i) ≡ to i) ⊎ (to (suc i) ≡ suc (to i))
    next_head i h (inl e) =
        let k : i < count = omega (arith, h) in
        inl (same_row heads m many (to (suc i)) (to i) n.rise (within (suc i) h) (within i k)
        (key_trans m (λ d. heads d (to (suc i))) (λ d. coords d (suc i)) (λ d. heads d (to i))
        (key_sym m (λ d. coords d (suc i)) (λ d. heads d (to (suc i))) (same (suc i) h))
        (key_trans m (λ d. coords d (suc i)) (λ d. coords d i) (λ d. heads d (to i))
        (key_sym m (λ d. coords d i) (λ d. coords d (suc i)) e) (same i k))))
    next_head i h (inr (inr b)) = let l = row_before (suc i) i h (omega (arith, h)) b in absurd (omega (arith, l))
    next_head i h (inr (inl b)) =
        let k : i < count = omega (arith, h) in
        let up = row_order heads m many (to i) (to (suc i)) n.rise (within i k) (within (suc i) h)
        (before_along m (λ d. coords d i) (λ d. coords d (suc i)) (λ d. heads d (to i)) (λ d. heads d (to (suc i)))
        (same i k) (same (suc i) h) b) in
        by_gap up (cases_lt (suc (to i)) (to (suc i)))
      where
        by_gap : to i < to (suc i) → (suc (to i) < to (suc i)) ⊎ (to (suc i) ≤ suc (to i)) → (to (suc i) ≡ to i) ⊎ (to (suc i) ≡ suc (to i))
        by_gap up (inr near) = inr (omega (arith, up, near))
        by_gap up (inl far) =
            let k : i < count = omega (arith, h) in
            let w = within (suc i) h in
            let s = stands_behind i (suc (to i)) k (omega (arith, far, w)) (omega arith) in
            let between = row_before s.0 (suc i) s.1 h
            (before_along m (λ d. heads d (suc (to i))) (λ d. heads d (to (suc i))) (λ d. coords d s.0) (λ d. coords d (suc i)) s.3
            (key_sym m (λ d. coords d (suc i)) (λ d. heads d (to (suc i))) (same (suc i) h))
            (before heads m many (suc (to i)) (to (suc i)) n.rise far w)) in
            let behind = s.2 in
            absurd (omega (arith, between, behind))

    last_head : (i : ℕ) → count ≡ suc i → (suc (to i) < many) ⊎ (many ≤ suc (to i)) → many ≡ suc (to i)
    last_head i is (inr near) = let w = within i (omega (arith, is)) in omega (arith, near, w)
    last_head i is (inl far) =
        let s = stands_behind i (suc (to i)) (omega (arith, is)) far (omega arith) in
        let l = s.1 in
        let behind = s.2 in
        absurd (omega (arith, l, behind, is))

    no_head : count ≡ 0 → (k : ℕ) → many ≡ k → many ≡ 0
    no_head none zero is = is
    no_head none (suc k) is = let s = n.head_there 0 (omega (arith, is)) in let l = s.1 in absurd (omega (arith, l, none))

    matched : Matches m heads many coords count to
    matched = record {
      within = within;
      same = same;
      start = λ h. first_head h (to 0) refl;
      step = λ i h. next_head i h (key_order m (λ d. coords d i) (λ d. coords d (suc i)));
      ends = λ i is. last_head i is (cases_lt (suc (to i)) many);
      none = λ none. no_head none many refl;
    }

  facts_by : (i : ℕ) → i < count → (t : (i < count) ⊎ (count ≤ i))
      → (found i t < many) × SameKey m (λ d. coords d i) (λ d. heads d (found i t))
  facts_by i h (inl l) = let k = n.row_there i l in (k.1, k.2)
  facts_by i h (inr past) = absurd (omega (arith, h, past))

  pub matching : (to : ℕ → ℕ) × Matches m heads many coords count to
  matching = (
    (λ i. found i (cases_lt i count)),
    matched (λ i. found i (cases_lt i count)) (λ i h. (facts_by i h (cases_lt i count)).0) (λ i h. (facts_by i h (cases_lt i count)).1),
  )
