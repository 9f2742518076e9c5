-- The positions of heads level by level: they stay where a head more comes, and the heads may be appended to each level.
use Rattle.std.specs.Prelude.{◌≡◌, ℕ, zero, suc, ◌+◌, ◌*◌, ◌≤◌, ◌<◌, ◌&&◌, ◌==◌, not, Bool, true, false, if◌then◌else◌, List}
use Rattle.std.specs.Prelude.{◌∷◌, length}
use Rattle.std.specs.Prelude.{drop, slice_index, refl}
use Rattle.std.proofs.Common.{◌∙◌, sym, ap, subst, arith}
use Rattle.std.proofs.Math.Nat.{mul-le-mul_right}
use Rattle.level_core.specs.declared.letter.Letter.{Letter}
use Rattle.level_core.specs.Kinds.{properties}
use Rattle.level_core.proofs.KindLaws.{are_of_a_kind}
use Rattle.level_rows.specs.Growing.{IsNext}
use Rattle.level_rows.specs.Rows.{begun, place, MayAppendRows}
use Rattle.level_rows.specs.Tables.{Agree, Increase, IsBefore, AreRowsOf}
use Rattle.level_rows.proofs.TableLaws.{before as before_row}
use Rattle.level_rows.proofs.RowLaws.{begun_upto}
use Rattle.format_spec.specs.Formats.{Chained}
use Rattle.tensor_storage.specs.Chains.{chain_length}
use Rattle.tensor_storage.specs.Tables.{agree, begins_at}
use Rattle.tensor_storage.proofs.Chains.{chain_of_unique, chain_of_groups, chain_some}
use Rattle.tensor_storage.proofs.Tables.{begins}
use Rattle.level_appends.proofs.Logs.{SameRows, begun_along, place_along}
use Rattle.level_appends.proofs.Placed.{PlacedAt, placed_none, placed_appended, placed_full, may_append}
use Rattle.appended_results.specs.Heads.{letter_at}
use Rattle.appended_results.specs.Places.{through, first_at, place_above, positions_above, rows_above, is_fixed}
use Rattle.appended_results.proofs.HeadLaws.{letters_from}

-- the first n rows have the same coordinates
abbrev pub SameCoords : ℕ → (ℕ → ℕ → ℕ) → (ℕ → ℕ → ℕ) → Type 0
SameCoords n coords more = (d i : ℕ) → i < n → more d i ≡ coords d i

agree_along : (coords more : ℕ → ℕ → ℕ) (n i j : ℕ) → ((d : ℕ) → more d i ≡ coords d i) → ((d : ℕ) → more d j ≡ coords d j)
    → agree more n i j ≡ agree coords n i j
agree_along coords more zero i j here there = refl
agree_along coords more (suc n) i j here there =
    ap (λ b. b && (more n i == more n j)) (agree_along coords more n i j here there)
    ∙ ap (λ x. agree coords n i j && (x == more n j)) (here n) ∙ ap (λ y. agree coords n i j && (coords n i == y)) (there n)

begins_along : (coords more : ℕ → ℕ → ℕ) (n count i : ℕ) → SameCoords count coords more → i < count
    → begins_at more n i ≡ begins_at coords n i
begins_along coords more n count zero same h = refl
begins_along coords more n count (suc i) same h =
    ap not (agree_along coords more n i (suc i) (λ d. same d i (omega (arith, h))) (λ d. same d (suc i) h))

module _ (letters : List Letter) (sizes : List ℕ) (coords more : ℕ → ℕ → ℕ) (n : ℕ) (same : SameCoords n coords more) where
  pub first_along : (d i : ℕ) → i < n → first_at letters more d i ≡ first_at letters coords d i
  first_along d i h = begins_along coords more (through letters d) n i same h

  pub above_along : (d i : ℕ) → i < n → place_above letters sizes more d i ≡ place_above letters sizes coords d i
  above_along zero i h = refl
  above_along (suc d) i h = by_full (properties (letter_at letters d)).full (above_along d i h)
    where
      by_full : (b : Bool) → place_above letters sizes more d i ≡ place_above letters sizes coords d i
          → (if b then place_above letters sizes more d i * slice_index sizes d + more d i else place (first_at letters more d) i)
          ≡ (if b then place_above letters sizes coords d i * slice_index sizes d + coords d i else place (first_at letters coords d) i)
      by_full true up =
          ap (λ p. p * slice_index sizes d + more d i) up
          ∙ ap (λ x. place_above letters sizes coords d i * slice_index sizes d + x) (same d i h)
      by_full false up = place_along n i (first_at letters coords d) (first_at letters more d) (first_along d) h

  pub rows_along : (count : ℕ) (d : ℕ) → SameRows n (rows_above letters sizes coords n d) (rows_above letters sizes more count d)
  rows_along count d = record { parent = above_along d; coord = λ i h. same d i h; first = first_along d }

  -- one row more: no fewer positions
  pub more_positions : (d : ℕ) → positions_above letters sizes coords n d ≤ positions_above letters sizes more (suc n) d
  more_positions zero = omega arith
  more_positions (suc d) = by_full (properties (letter_at letters d)).full (more_positions d)
    where
      by_full : (b : Bool) → positions_above letters sizes coords n d ≤ positions_above letters sizes more (suc n) d
          → (if b then positions_above letters sizes coords n d * slice_index sizes d else begun (first_at letters coords d) n)
          ≤ (if b then positions_above letters sizes more (suc n) d * slice_index sizes d else begun (first_at letters more d) (suc n))
      by_full true up = mul-le-mul_right (slice_index sizes d) up
      by_full false up =
          let e = begun_along n (first_at letters coords d) (first_at letters more d) (first_along d) in
          let k = begun_upto (rows_above letters sizes more (suc n) d) n (suc n) (omega arith) in
          omega (arith, e, k)

-- where all levels are full there are as many positions for any rows
pub fixed_positions : (letters : List Letter) (sizes : List ℕ) (coords more : ℕ → ℕ → ℕ) (n m d : ℕ) → is_fixed letters d ≡ true
    → positions_above letters sizes coords n d ≡ positions_above letters sizes more m d
fixed_positions letters sizes coords more n m zero is = refl
fixed_positions letters sizes coords more n m (suc d) is =
    let b = both (is_fixed letters d) (properties (letter_at letters d)).full is in
    let up = fixed_positions letters sizes coords more n m d b.0 in
    subst (λ t. (if t then positions_above letters sizes coords n d * slice_index sizes d else begun (first_at letters coords d) n)
    ≡ (if t then positions_above letters sizes more m d * slice_index sizes d else begun (first_at letters more d) m)) (sym b.1)
    (ap (λ p. p * slice_index sizes d) up)
  where
    never : true ≡ false → ⊥
    never e = cc

    both : (a b : Bool) → (a && b) ≡ true → (a ≡ true) × (b ≡ true)
    both true true h = (refl, refl)
    both true false h = absurd (never (sym h))
    both false b h = absurd (never (sym h))

apart : {A : Type 0} → true ≡ false → A
apart e = absurd (never e)
  where
    never : true ≡ false → ⊥
    never e = cc

pub full_unique : (letter : Letter) → (properties letter).full ≡ true → (properties letter).unique ≡ true
full_unique letter is = (are_of_a_kind letter).inserted_unique ((are_of_a_kind letter).full_inserted is)

module _ (letters : List Letter) (sizes : List ℕ) (coords : ℕ → ℕ → ℕ) (count head : ℕ) (chained : Chained false letters)
    (within : head ≤ length letters) (up : Increase coords head count)
    (below : (d i : ℕ) → d < head → i < count → coords d i < slice_index sizes d) where
  -- what is known above a level
  record Above (d : ℕ) : Type 0 where
    above : ℕ
    groups : Bool
    placed : PlacedAt coords count d above (positions_above letters sizes coords count d) groups (place_above letters sizes coords d)
    chained_on : Chained groups (drop d letters)
    chain : groups ≡ true → above ≡ through letters d

  module _ (d : ℕ) (inside : d < head) (a : Above d) where
    here : drop d letters ≡ letter_at letters d ∷ drop (suc d) letters
    here = letters_from letters d (omega (arith, inside, within))

    chained_here : Chained a.groups (letter_at letters d ∷ drop (suc d) letters)
    chained_here = subst (Chained a.groups) here a.chained_on

    through_is : through letters d ≡ d + chain_length (letter_at letters d ∷ drop (suc d) letters)
    through_is = ap (λ ls. d + chain_length ls) here

    next : IsNext (letter_at letters d) d (through letters d) a.above a.groups
    next = record {
      branchless = chained_here.0;
      unique = λ u. let k = chain_of_unique (letter_at letters d) (drop (suc d) letters) u in let t = through_is in omega (arith, t, k);
      chained = a.chain;
      more = λ u.
          let k = chain_of_groups (letter_at letters d) (drop (suc d) letters) u in
          let s = chain_some (drop (suc d) letters) in
          let t = through_is in
          omega (arith, t, k, s);
    }

    rows : AreRowsOf coords d (through letters d) (slice_index sizes d) (rows_above letters sizes coords count d)
    rows = record { coord = λ i h. refl; below = λ i h. below d i inside h; begins = begins coords (through letters d) count }

    may_append_there : MayAppendRows (letter_at letters d) (slice_index sizes d) (positions_above letters sizes coords count d)
        (rows_above letters sizes coords count d)
    may_append_there =
        may_append coords head d (through letters d) a.above (slice_index sizes d) (positions_above letters sizes coords count d) a.groups
        (letter_at letters d) (rows_above letters sizes coords count d) up a.placed next rows

    deeper_chain : not (properties (letter_at letters d)).unique ≡ true → through letters d ≡ through letters (suc d)
    deeper_chain g = by_unique (properties (letter_at letters d)).unique refl
      where
        by_unique : (b : Bool) → (properties (letter_at letters d)).unique ≡ b → through letters d ≡ through letters (suc d)
        by_unique true is = apart (sym g ∙ ap not is)
        by_unique false is =
            let k = chain_of_groups (letter_at letters d) (drop (suc d) letters) is in
            let t = through_is in
            omega (arith, t, k)

    -- one level further down
    below_it : (full : Bool) → (properties (letter_at letters d)).full ≡ full → Above (suc d)
    below_it true is =
        let none : a.groups ≡ false = sym chained_here.0 ∙ (are_of_a_kind (letter_at letters d)).full_branches is in
        record {
          above = suc d;
          groups = false;
          placed =
              subst (λ b. PlacedAt coords count (suc d) (suc d)
              (if b then positions_above letters sizes coords count d * slice_index sizes d else begun (first_at letters coords d) count)
              false
              (λ i. if b then place_above letters sizes coords d i * slice_index sizes d + coords d i
              else place (first_at letters coords d) i))
              (sym is)
              (placed_full coords head count d a.above (positions_above letters sizes coords count d) (slice_index sizes d) a.groups
              (place_above letters sizes coords d) up a.placed none (λ i h. below d i inside h));
          chained_on = subst (λ g. Chained g (drop (suc d) letters)) (ap not (full_unique (letter_at letters d) is)) chained_here.1;
          chain = λ e. apart (sym e);
        }
    below_it false is = record {
      above = through letters d;
      groups = not (properties (letter_at letters d)).unique;
      placed =
          subst (λ b. PlacedAt coords count (suc d) (through letters d)
          (if b then positions_above letters sizes coords count d * slice_index sizes d else begun (first_at letters coords d) count)
          (not (properties (letter_at letters d)).unique)
          (λ i. if b then place_above letters sizes coords d i * slice_index sizes d + coords d i else place (first_at letters coords d) i))
          (sym is)
          (placed_appended coords head d (through letters d) a.above a.groups (letter_at letters d)
          (rows_above letters sizes coords count d) up next (begins coords (through letters d) count));
      chained_on = chained_here.1;
      chain = deeper_chain;
    }

  known : (d : ℕ) → d ≤ head → Above d
  known zero h = record {
    above = 0;
    groups = false;
    placed = placed_none coords count;
    chained_on = chained;
    chain = λ e. apart (sym e);
  }
  known (suc d) h = below_it d (omega (arith, h)) (known d (omega (arith, h))) (properties (letter_at letters d)).full refl

  -- the rows may be appended to each level
  pub may_append_at : (d : ℕ) → d < head
      → MayAppendRows (letter_at letters d) (slice_index sizes d) (positions_above letters sizes coords count d)
      (rows_above letters sizes coords count d)
  may_append_at d h = may_append_there d h (known d (omega (arith, h)))

  -- and each position is one of a row's parents' positions
  pub place_within : (d i : ℕ) → d ≤ head → i < count → place_above letters sizes coords d i < positions_above letters sizes coords count d
  place_within d i h inside = (known d h).placed.share.within i inside

  -- heads that differ have different positions
  pub place_apart : (i j : ℕ) → i < j → j < count → place_above letters sizes coords head i ≡ place_above letters sizes coords head j → ⊥
  place_apart i j less h same =
      let k = known head (omega arith) in
      let agree = k.placed.share.agree i j less h same in
      let before = before_row coords head count i j up less h in
      by_groups k agree before k.groups refl
    where
      unlike : Above head → (n : ℕ) → head ≤ n → Agree coords n i j → IsBefore coords head i j → ⊥
      unlike k n from agree b =
          let l = b.1 in
          let e = agree b.0 (omega (arith, l, from)) in
          let s = b.3 in
          omega (arith, e, s)

      by_groups : (k : Above head) → Agree coords k.above i j → IsBefore coords head i j → (g : Bool) → k.groups ≡ g → ⊥
      by_groups k agree b true is = unlike k k.above (let d = k.placed.deep is in omega (arith, d)) agree b
      by_groups k agree b false is = unlike k k.above (let e = k.placed.level is in omega (arith, e)) agree b
