-- Counts of different coordinate lists that are all listed in a row of entries: there are no more than entries.
use Rattle.std.specs.Prelude.{◌≡◌, ℕ, zero, suc, ◌+◌, ◌<◌, ◌≤◌, ◌==◌, ◌&&◌, ◌||◌, Bool, true, false, if◌then◌else◌, List, [], ◌∷◌}
use Rattle.std.specs.Prelude.{◌⊎◌, length, refl}
use Rattle.std.proofs.Common.{◌∙◌, sym, ap, subst, arith, inl, inr}
use Rattle.lists.specs.Each.{Each}
use Rattle.lists.proofs.Tests.{number_same}
use Rattle.level_core.specs.Entries.{Distinct, Lacks}
use Rattle.level_core.specs.declared.span.Entry.{Entry as LevelEntry}
use Rattle.tensor_map.specs.Entries.{Entry, Listed, is_at}
use Rattle.tensor_map.specs.Laws.{Tested, same, other}
use Rattle.tensor_map.proofs.Lemmas.{tested}
use Rattle.loop_code.specs.Turns.{count_below}
use Rattle.lowering.specs.Right.{one_if}
use Rattle.tensor_storage.specs.Counts.{is_met, different}
use Rattle.tensor_storage.specs.Tables.{agree}

-- entries without those that have these coordinates
without : List ℕ → List Entry → List Entry
without coords [] = []
without coords (e ∷ es) = if is_at coords e then without coords es else e ∷ without coords es

no_more : (coords : List ℕ) (es : List Entry) → length (without coords es) ≤ length es
unfolding without
no_more coords [] = omega arith
no_more coords (e ∷ es) = by (is_at coords e) (no_more coords es)
  where
    by : (b : Bool) → length (without coords es) ≤ length es
        → length (if b then without coords es else e ∷ without coords es) ≤ suc (length es)
    by true h = omega (arith, h)
    by false h = omega (arith, h)

-- one fewer where they are listed
fewer : (coords : List ℕ) (es : List Entry) → Listed es coords → suc (length (without coords es)) ≤ length es
unfolding without
fewer coords [] l = absurd l
fewer coords (e ∷ es) l = by (fewer coords es) (tested e.coords coords) l
  where
    by : (Listed es coords → suc (length (without coords es)) ≤ length es) → Tested e.coords coords → Listed (e ∷ es) coords
        → suc (length (if is_at coords e then without coords es else e ∷ without coords es)) ≤ suc (length es)
    by rest (same is t) l =
        subst (λ b. suc (length (if b then without coords es else e ∷ without coords es)) ≤ suc (length es)) (sym t)
        (let h = no_more coords es in omega (arith, h))
    by rest (other isnt t) (inl here) = absurd (isnt here)
    by rest (other isnt t) (inr there) =
        subst (λ b. suc (length (if b then without coords es else e ∷ without coords es)) ≤ suc (length es)) (sym t)
        (let h = rest there in omega (arith, h))

-- all others are still listed
still : (coords apart : List ℕ) (es : List Entry) → Listed es apart → (apart ≡ coords → ⊥) → Listed (without coords es) apart
unfolding without
still coords apart [] l isnt = l
still coords apart (e ∷ es) l isnt = by (λ there. still coords apart es there isnt) (tested e.coords coords) l
  where
    by : (Listed es apart → Listed (without coords es) apart) → Tested e.coords coords → Listed (e ∷ es) apart
        → Listed (if is_at coords e then without coords es else e ∷ without coords es) apart
    by rest (same is t) (inl here) = absurd (isnt (sym here ∙ is))
    by rest (same is t) (inr there) =
        subst (λ b. Listed (if b then without coords es else e ∷ without coords es) apart) (sym t) (rest there)
    by rest (other isnt_here t) (inl here) =
        subst (λ b. Listed (if b then without coords es else e ∷ without coords es) apart) (sym t) (inl here)
    by rest (other isnt_here t) (inr there) =
        subst (λ b. Listed (if b then without coords es else e ∷ without coords es) apart) (sym t) (inr (rest there))

-- so many coordinate lists are taken from a row of entries, and all but those are still listed in the rest
pub record Taken (es : List Entry) (count : ℕ) (IsTaken : List ℕ → Type 0) : Type 0 where
  pub rest : List Entry
  pub counted : count + length rest ≤ length es
  pub keeps : (coords : List ℕ) → Listed es coords → (IsTaken coords → ⊥) → Listed rest coords

-- one for each number below m that passes a test
pub taken_row : (m : ℕ) (f : ℕ → Bool) (key : ℕ → List ℕ) (es : List Entry) → ((i j : ℕ) → key i ≡ key j → i ≡ j)
    → ((i : ℕ) → i < m → f i ≡ true → Listed es (key i))
    → Taken es (count_below m (λ i. one_if (f i))) (λ coords. (i : ℕ) × (i < m) × (coords ≡ key i))
taken_row zero f key es once there = record { rest = es; counted = omega arith; keeps = λ coords l none. l }
taken_row (suc m) f key es once there = by (λ es there. taken_row m f key es once there) (f m) refl
  where
    by : ((es : List Entry) → ((i : ℕ) → i < m → f i ≡ true → Listed es (key i))
        → Taken es (count_below m (λ i. one_if (f i))) (λ coords. (i : ℕ) × (i < m) × (coords ≡ key i))) → (b : Bool) → f m ≡ b
        → Taken es (count_below m (λ i. one_if (f i)) + one_if (f m)) (λ coords. (i : ℕ) × (i < suc m) × (coords ≡ key i))
    by row true t =
        let more = row (without (key m) es) (λ i h is. still (key m) (key i) es (there i (omega (arith, h)) is)
        (λ e. let same = once i m e in omega (arith, same, h))) in
        let less = fewer (key m) es (there m (omega arith) t) in
        let counted = more.counted in
        let one : one_if (f m) ≡ 1 = ap one_if t in
        record {
          rest = more.rest;
          counted = omega (arith, less, counted, one);
          keeps = λ coords l none. more.keeps coords (still (key m) coords es l (λ e. none (m, omega arith, e)))
              (λ found. none (found.0, (let h = found.1 in omega (arith, h)), found.2));
        }
    by row false t =
        let more = row es (λ i h is. there i (omega (arith, h)) is) in
        let counted = more.counted in
        let none_here : one_if (f m) ≡ 0 = ap one_if t in
        record {
          rest = more.rest;
          counted = omega (arith, counted, none_here);
          keeps = λ coords l none. more.keeps coords l (λ found. none (found.0, (let h = found.1 in omega (arith, h)), found.2));
        }

-- one for each two numbers that pass a test
pub taken_rows : (m n : ℕ) (f : ℕ → ℕ → Bool) (es : List Entry)
    → ((i j : ℕ) → i < m → j < n → f i j ≡ true → Listed es (i ∷ j ∷ []))
    → Taken es (count_below m (λ i. count_below n (λ j. one_if (f i j))))
    (λ coords. (i : ℕ) × (i < m) × ((j : ℕ) × (coords ≡ i ∷ j ∷ [])))
taken_rows zero n f es there = record { rest = es; counted = omega arith; keeps = λ coords l none. l }
taken_rows (suc m) n f es there =
    let row = taken_row n (f m) (λ j. m ∷ j ∷ []) es (λ i j e. cc) (λ j h is. there m j (omega arith) h is) in
    let more = taken_rows m n f row.rest (λ i j h less is. row.keeps (i ∷ j ∷ []) (there i j (omega (arith, h)) less is)
    (λ found. let e = found.2 in let same : i ≡ m = cc in omega (arith, same, h))) in
    let first = row.counted in
    let counted = more.counted in
    record {
      rest = more.rest;
      counted = omega (arith, first, counted);
      keeps = λ coords l none. more.keeps coords (row.keeps coords l (λ found. none (m, omega arith, (found.0, found.2))))
          (λ found. none (found.0, (let h = found.1 in omega (arith, h)), found.2));
    }

-- where all of two coordinates that pass a test are listed, there are no more of them than entries
pub few_pass : (m n : ℕ) (f : ℕ → ℕ → Bool) (es : List Entry) → ((i j : ℕ) → i < m → j < n → f i j ≡ true → Listed es (i ∷ j ∷ []))
    → count_below m (λ i. count_below n (λ j. one_if (f i j))) ≤ length es
few_pass m n f es there = let taken = taken_rows m n f es there in let counted = taken.counted in omega (arith, counted)

-- a row that isn't met agrees with none before it
unmet : (coords : ℕ → ℕ → ℕ) (n i m j : ℕ) → j < m → is_met coords n i m ≡ false → agree coords n j i ≡ true → ⊥
unmet coords n i zero j h unmet_here is = omega (arith, h)
unmet coords n i (suc m) j h unmet_here is = by (λ before none. unmet coords n i m j before none is) (split h)
  where
    split : j < suc m → (j < m) ⊎ (j ≡ m)
    split h = grind (arith, h)

    or_false : (a b : Bool) → (a || b) ≡ false → (a ≡ false) × (b ≡ false)
    or_false true b e = absurd cc
    or_false false b e = (refl, e)

    by : (j < m → is_met coords n i m ≡ false → ⊥) → (j < m) ⊎ (j ≡ m) → ⊥
    by earlier (inl before) = earlier before (or_false (is_met coords n i m) (agree coords n m i) unmet_here).0
    by earlier (inr here) =
        let none = (or_false (is_met coords n i m) (agree coords n m i) unmet_here).1 in
        let both : agree coords n m i ≡ true = subst (λ k. agree coords n k i ≡ true) here is in
        cc (sym none ∙ both)

same_agree : (coords : ℕ → ℕ → ℕ) (i j : ℕ) → coords 0 i ≡ coords 0 j → coords 1 i ≡ coords 1 j → agree coords 2 i j ≡ true
same_agree coords i j first second =
    ap (λ b. b && (coords 1 i == coords 1 j)) (subst (λ x. (coords 0 i == x) ≡ true) first (number_same (coords 0 i)))
    ∙ subst (λ x. (coords 1 i == x) ≡ true) second (number_same (coords 1 i))

-- where the two coordinates of each row are listed, there are no more different ones than entries
pub few_different : (coords : ℕ → ℕ → ℕ) (count : ℕ) (es : List Entry)
    → ((i : ℕ) → i < count → Listed es (coords 0 i ∷ coords 1 i ∷ [])) → different coords 2 count ≤ length es
few_different coords zero es there = omega arith
few_different coords (suc i) es there = by (few_different coords i) (is_met coords 2 i i) refl
  where
    by : ((es : List Entry) → ((j : ℕ) → j < i → Listed es (coords 0 j ∷ coords 1 j ∷ [])) → different coords 2 i ≤ length es)
        → (b : Bool) → is_met coords 2 i i ≡ b
        → (if is_met coords 2 i i then different coords 2 i else different coords 2 i + 1) ≤ length es
    by rest true t =
        subst (λ b. (if b then different coords 2 i else different coords 2 i + 1) ≤ length es) (sym t)
        (rest es (λ j h. there j (omega (arith, h))))
    by rest false t =
        let most = rest (without (coords 0 i ∷ coords 1 i ∷ []) es)
        (λ j h. still (coords 0 i ∷ coords 1 i ∷ []) (coords 0 j ∷ coords 1 j ∷ []) es (there j (omega (arith, h)))
        (λ e. let first : coords 0 j ≡ coords 0 i = cc in let second : coords 1 j ≡ coords 1 i = cc in
        unmet coords 2 i i j h t (same_agree coords j i first second))) in
        let less = fewer (coords 0 i ∷ coords 1 i ∷ []) es (there i (omega arith)) in
        subst (λ b. (if b then different coords 2 i else different coords 2 i + 1) ≤ length es) (sym t) (omega (arith, most, less))

-- ---- entries of levels
still_each : (x y : ℕ) (cs : List LevelEntry) (es : List Entry) → Lacks y cs → Each (λ (e : LevelEntry). Listed es (x ∷ e.coord ∷ [])) cs
    → Each (λ (e : LevelEntry). Listed (without (x ∷ y ∷ []) es) (x ∷ e.coord ∷ [])) cs
still_each x y [] es lacks there = tt
still_each x y (c ∷ cs) es lacks there = (
  still (x ∷ y ∷ []) (x ∷ c.coord ∷ []) es there.0 (λ e. lacks.0 cc),
  still_each x y cs es lacks.1 there.1,
)

pub each_kept : {P Q : LevelEntry → Type 0} → ((e : LevelEntry) → P e → Q e) → (cs : List LevelEntry) → Each P cs → Each Q cs
each_kept keep [] all = tt
each_kept keep (c ∷ cs) all = (keep c all.0, each_kept keep cs all.1)

-- one for each entry below row x, whose coordinates are different
taken_list : (x : ℕ) (cs : List LevelEntry) (es : List Entry) → Distinct cs → Each (λ (e : LevelEntry). Listed es (x ∷ e.coord ∷ [])) cs
    → Taken es (length cs) (λ coords. (y : ℕ) × (coords ≡ x ∷ y ∷ []))
taken_list x [] es apart there = record { rest = es; counted = omega arith; keeps = λ coords l none. l }
taken_list x (c ∷ cs) es apart there =
    let more = taken_list x cs (without (x ∷ c.coord ∷ []) es) apart.1 (still_each x c.coord cs es apart.0 there.1) in
    let less = fewer (x ∷ c.coord ∷ []) es there.0 in
    let counted = more.counted in
    record {
      rest = more.rest;
      counted = omega (arith, less, counted);
      keeps = λ coords l none. more.keeps coords (still (x ∷ c.coord ∷ []) coords es l (λ e. none (c.coord, e))) none;
    }

-- one for each entry below each row
taken_segments : (m : ℕ) (segment : ℕ → List LevelEntry) (es : List Entry) → ((x : ℕ) → Distinct (segment x))
    → ((x : ℕ) → x < m → Each (λ (e : LevelEntry). Listed es (x ∷ e.coord ∷ [])) (segment x))
    → Taken es (count_below m (λ x. length (segment x))) (λ coords. (x : ℕ) × (x < m) × ((y : ℕ) × (coords ≡ x ∷ y ∷ [])))
taken_segments zero segment es apart there = record { rest = es; counted = omega arith; keeps = λ coords l none. l }
taken_segments (suc m) segment es apart there =
    let row = taken_list m (segment m) es (apart m) (there m (omega arith)) in
    let more = taken_segments m segment row.rest apart (λ x h. each_kept {P = λ e. Listed es (x ∷ e.coord ∷ [])}
    {Q = λ e. Listed row.rest (x ∷ e.coord ∷ [])} (λ e l. row.keeps (x ∷ e.coord ∷ []) l
    (λ found. let e = found.1 in let same : x ≡ m = cc in omega (arith, same, h))) (segment x) (there x (omega (arith, h)))) in
    let first = row.counted in
    let counted = more.counted in
    record {
      rest = more.rest;
      counted = omega (arith, first, counted);
      keeps = λ coords l none. more.keeps coords (row.keeps coords l (λ found. none (m, omega arith, found)))
          (λ found. none (found.0, (let h = found.1 in omega (arith, h)), found.2));
    }

-- where the entries below each row have different columns, and all are listed, there are no more than entries
pub few_stored : (m : ℕ) (segment : ℕ → List LevelEntry) (es : List Entry) → ((x : ℕ) → Distinct (segment x))
    → ((x : ℕ) → x < m → Each (λ (e : LevelEntry). Listed es (x ∷ e.coord ∷ [])) (segment x))
    → count_below m (λ x. length (segment x)) ≤ length es
few_stored m segment es apart there =
    let taken = taken_segments m segment es apart there in let counted = taken.counted in omega (arith, counted)
