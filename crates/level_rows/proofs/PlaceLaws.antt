-- What the order of a table's rows tells of a level: it may be given them, and how they share positions then.
use Rattle.std.specs.Prelude.{◌≡◌, ◌⊎◌, ℕ, zero, suc, ◌+◌, ◌-◌, ◌≤◌, ◌<◌, Bool, true, false, List, [], ◌∷◌, Some, refl}
use Rattle.std.proofs.Common.{◌∙◌, sym, ap, subst, arith, inl, inr}
use Rattle.std.proofs.lemmas.Bool.{cases_lt}
use Rattle.std.proofs.lemmas.Option.{same_Some}
use Rattle.level_core.specs.declared.letter.Letter.{Letter}
use Rattle.level_core.specs.declared.span.Entry.{Entry}
use Rattle.level_core.specs.Entries.{IsIn, Placed, Rising, StandsAt, one, coord_at}
use Rattle.level_core.specs.Kinds.{properties}
use Rattle.level_core.specs.Logs.{gap}
use Rattle.level_core.specs.Meaning.{Meaning}
use Rattle.level_core.specs.Laws.{Laws}
use Rattle.level_core.specs.ParentLaws.{Askable}
use Rattle.level_core.proofs.EntryLaws.{placed_within}
use Rattle.level_core.proofs.ParentLaws.{segments_apart}
use Rattle.level_core.proofs.Orders.{coord_position}
use Rattle.level_rows.specs.Rows.{Rows, begun, place, IsBehind, MayAppendRows, MayInsertRows, AreTogether}
use Rattle.level_rows.specs.Taken.{Asked, Stores}
use Rattle.level_rows.specs.Stacks.{Column, AreSorted}
use Rattle.level_rows.specs.Tables.{Agree, Increase, Begins, ShareBy, NeverFall, AllPlaced, AreRowsOf, AreColumnsOf}
use Rattle.level_rows.proofs.RowLaws.{begun_yes, begun_no, begun_upto, begun_some, place_within, placed}
use Rattle.level_rows.proofs.Entries.{coord_from, stands_within}
use Rattle.level_rows.proofs.TableLaws.{agree_trans, agree_less, agree_more, between, after, coords_upto}

-- rows that agree above a level and differ there or before rise
rises : (coords : ℕ → ℕ → ℕ) (order count d i j : ℕ) → Increase coords order count → i < j → j < count → Agree coords d i j
    → (Agree coords (suc d) i j → ⊥) → coords d i < coords d j
rises coords order count d i j up less h a differ = by_order (cases_lt (coords d i) (coords d j))
  where
    by_order : (coords d i < coords d j) ⊎ (coords d j ≤ coords d i) → coords d i < coords d j
    by_order (inl l) = l
    by_order (inr l) = let k = coords_upto coords order count d i j up less h a in
        absurd (differ (agree_more coords d i j a (omega (arith, k, l))))

-- a level that appends may be given the rows of a table
pub may_append_rows : (letter : Letter) (coords : ℕ → ℕ → ℕ) (order d n above size parents : ℕ) (rows : Rows)
    → Increase coords order rows.count → AreRowsOf coords d n size rows
    → ShareBy coords above rows.count parents rows.parent → NeverFall rows.count rows.parent → d < n → above ≤ n
    → ((properties letter).unique ≡ true → n ≡ suc d)
    → ((properties letter).branchless ≡ false → above ≡ d)
    → ((properties letter).branchless ≡ true → (above ≡ n) × AllPlaced rows.count parents rows.parent)
    → MayAppendRows letter size parents rows
may_append_rows letter coords order d n above size parents rows up are share never deep end unique top chained = record {
  order = record {
    below = λ i h. let c = are.coord i h in let b = are.below i h in omega (arith, c, b);
    within = share.within;
    begins = are.begins.start;
    behind = λ i h first. by_parent i h first (cases_lt (rows.parent i) (rows.parent (suc i)));
    again = λ i h same. again i h (are.begins.agrees i h same);
  };
  each = λ b. record {
    some = (chained b).1;
    alone = λ i h first same. are.begins.differs i h first
        (subst (λ m. Agree coords m i (suc i)) (chained b).0 (share.agree i (suc i) (omega arith) h (sym same)));
  };
}
  where
    again : (i : ℕ) → suc i < rows.count → Agree coords n i (suc i)
        → (rows.parent (suc i) ≡ rows.parent i) × (rows.coord (suc i) ≡ rows.coord i)
    again i h a =
        let low = are.coord i (omega (arith, h)) in
        let high = are.coord (suc i) h in
        let same = a d deep in
        (sym (share.share i (suc i) (omega arith) h (agree_less coords above n i (suc i) end a)), omega (arith, low, high, same))

    apart : true ≡ false → ⊥
    apart e = cc

    gaps : (b : Bool) (i : ℕ) → (properties letter).unique ≡ b → suc i < rows.count → rows.first (suc i) ≡ true → Agree coords d i (suc i)
        → rows.coord i + gap b ≤ rows.coord (suc i)
    gaps true i is h first a =
        let low = are.coord i (omega (arith, h)) in
        let high = are.coord (suc i) h in
        let less = rises coords order rows.count d i (suc i) up (omega arith) h a
        (λ b. are.begins.differs i h first (subst (λ m. Agree coords m i (suc i)) (sym (unique is)) b)) in
        omega (arith, low, high, less)
    gaps false i is h first a =
        let low = are.coord i (omega (arith, h)) in
        let high = are.coord (suc i) h in
        let less = coords_upto coords order rows.count d i (suc i) up (omega arith) h a in
        omega (arith, low, high, less)

    by_branch : (b : Bool) (i : ℕ) → (properties letter).branchless ≡ b → suc i < rows.count → rows.first (suc i) ≡ true
        → rows.parent i ≡ rows.parent (suc i) → rows.coord i + gap (properties letter).unique ≤ rows.coord (suc i)
    by_branch true i is h first same =
        absurd (are.begins.differs i h first
        (subst (λ m. Agree coords m i (suc i)) (chained is).0 (share.agree i (suc i) (omega arith) h same)))
    by_branch false i is h first same = gaps (properties letter).unique i refl h first
        (subst (λ m. Agree coords m i (suc i)) (top is) (share.agree i (suc i) (omega arith) h same))

    by_parent : (i : ℕ) → suc i < rows.count → rows.first (suc i) ≡ true
        → (rows.parent i < rows.parent (suc i)) ⊎ (rows.parent (suc i) ≤ rows.parent i) → IsBehind (properties letter).unique rows i
    by_parent i h first (inl less) = inl less
    by_parent i h first (inr near) =
        let rise = never i h in
        let same : rows.parent i ≡ rows.parent (suc i) = omega (arith, rise, near) in
        inr (same, by_branch (properties letter).branchless i refl h first same)

-- rows of one parent stand together
pub together : (coords : ℕ → ℕ → ℕ) (order above parents : ℕ) (rows : Rows) → Increase coords order rows.count
    → ShareBy coords above rows.count parents rows.parent → AreTogether rows
together coords order above parents rows up share i j k first second h same =
    share.share j k second h (after coords order rows.count above i j k up first second h
    (share.agree i k (omega (arith, first, second)) h same))

-- rows of a table may be inserted
pub may_insert_rows : (coords : ℕ → ℕ → ℕ) (order d size parents : ℕ) (rows : Rows) → Increase coords order rows.count
    → AreRowsOf coords d (suc d) size rows → ShareBy coords d rows.count parents rows.parent → MayInsertRows size parents rows
may_insert_rows coords order d size parents rows up are share = record {
  below = λ i h. let c = are.coord i h in let b = are.below i h in omega (arith, c, b);
  within = share.within;
  begins = are.begins.start;
  above = above;
  again = λ i h same.
      let a = are.begins.agrees i h same in
      let low = are.coord i (omega (arith, h)) in
      let high = are.coord (suc i) h in
      let is = a d (omega arith) in
      (sym (share.share i (suc i) (omega arith) h (agree_less coords d (suc d) i (suc i) (omega arith) a)), omega (arith, low, high, is));
}
  where
    above : (i m : ℕ) → i < m → m < rows.count → rows.first m ≡ true → rows.parent i ≡ rows.parent m → rows.coord i < rows.coord m
    above i zero less h first same = absurd (omega (arith, less))
    above i (suc m) less h first same =
        let low = are.coord i (omega (arith, h, less)) in
        let high = are.coord (suc m) h in
        let k = rises coords order rows.count d i (suc m) up less h (share.agree i (suc m) less h same) (λ a. by_near a (cases_lt i m)) in
        omega (arith, low, high, k)
      where
        by_near : Agree coords (suc d) i (suc m) → (i < m) ⊎ (m ≤ i) → ⊥
        by_near a (inl far) = are.begins.differs m h first (after coords order rows.count (suc d) i m (suc m) up far (omega arith) h a)
        by_near a (inr near) = let here : i ≡ m = omega (arith, near, less) in
            are.begins.differs m h first (subst (λ k. Agree coords (suc d) k (suc m)) here a)

-- no position is begun from row to row where rows agree
none_begun : (coords : ℕ → ℕ → ℕ) (order n i more : ℕ) (rows : Rows) → Increase coords order rows.count
    → Begins coords n rows.count rows.first → i + more < rows.count → Agree coords n i (i + more)
    → begun rows.first (suc (i + more)) ≡ begun rows.first (suc i)
none_begun coords order n i zero rows up begins h a = let same : i + 0 ≡ i = omega arith in ap (λ j. begun rows.first (suc j)) same
none_begun coords order n i (suc more) rows up begins h a =
    by_next (none_begun coords order n i more rows up begins (omega (arith, h))) (cases_lt 0 more)
  where
    next : i + suc more ≡ suc (i + more)
    next = omega arith

    to_next : Agree coords n i (suc (i + more))
    to_next = subst (λ j. Agree coords n i j) next a

    inside : suc (i + more) < rows.count
    inside = omega (arith, h)

    not_first : Agree coords n (i + more) (suc (i + more)) → rows.first (suc (i + more)) ≡ false
    not_first same = by_first (rows.first (suc (i + more))) refl
      where
        by_first : (b : Bool) → rows.first (suc (i + more)) ≡ b → rows.first (suc (i + more)) ≡ false
        by_first true is = absurd (begins.differs (i + more) inside is same)
        by_first false is = is

    step : (Agree coords n i (i + more) → begun rows.first (suc (i + more)) ≡ begun rows.first (suc i)) → Agree coords n i (i + more)
        → Agree coords n (i + more) (suc (i + more)) → begun rows.first (suc (i + suc more)) ≡ begun rows.first (suc i)
    step again earlier same =
        ap (λ j. begun rows.first (suc j)) next ∙ begun_no rows (suc (i + more)) (not_first same) ∙ again earlier

    by_next : (Agree coords n i (i + more) → begun rows.first (suc (i + more)) ≡ begun rows.first (suc i)) → (0 < more) ⊎ (more ≤ 0)
        → begun rows.first (suc (i + suc more)) ≡ begun rows.first (suc i)
    by_next again (inl some) =
        step again (between coords order rows.count n i (i + more) (suc (i + more)) up (omega (arith, some)) (omega arith) inside to_next)
        (after coords order rows.count n i (i + more) (suc (i + more)) up (omega (arith, some)) (omega arith) inside to_next)
    by_next again (inr none) =
        let here : i + more ≡ i = omega (arith, none) in
        step again (λ e l. ap (coords e) (sym here)) (subst (λ k. Agree coords n k (suc (i + more))) (sym here) to_next)

-- rows agree where no position is begun from one to the other
begun_agree : (coords : ℕ → ℕ → ℕ) (n i more : ℕ) (rows : Rows) → Begins coords n rows.count rows.first → i + more < rows.count
    → begun rows.first (suc (i + more)) ≡ begun rows.first (suc i) → Agree coords n i (i + more)
begun_agree coords n i zero rows begins h same = let at : i + 0 ≡ i = omega arith in λ e l. ap (coords e) (sym at)
begun_agree coords n i (suc more) rows begins h same =
    let next : i + suc more ≡ suc (i + more) = omega arith in
    let inside : suc (i + more) < rows.count = omega (arith, h) in
    let last = ap (λ j. begun rows.first (suc j)) next in
    subst (λ j. Agree coords n i j) (sym next)
    (by_first (begun_agree coords n i more rows begins (omega (arith, inside))) inside (sym last ∙ same)
    (rows.first (suc (i + more))) refl)
  where
    by_first : (begun rows.first (suc (i + more)) ≡ begun rows.first (suc i) → Agree coords n i (i + more)) → suc (i + more) < rows.count
        → begun rows.first (suc (suc (i + more))) ≡ begun rows.first (suc i) → (b : Bool) → rows.first (suc (i + more)) ≡ b
        → Agree coords n i (suc (i + more))
    by_first again inside same true is = let one = begun_yes rows (suc (i + more)) is in
        let rise = begun_upto rows (suc i) (suc (i + more)) (omega arith) in absurd (omega (arith, one, rise, same))
    by_first again inside same false is =
        agree_trans coords n i (i + more) (suc (i + more)) (again (sym (begun_no rows (suc (i + more)) is) ∙ same))
        (begins.agrees (i + more) inside is)

-- how appended rows share their positions
pub appended_share : (coords : ℕ → ℕ → ℕ) (order n : ℕ) (rows : Rows) (place_of : ℕ → ℕ) → Increase coords order rows.count
    → Begins coords n rows.count rows.first → ((i : ℕ) → i < rows.count → place_of i ≡ place rows.first i)
    → ShareBy coords n rows.count (begun rows.first rows.count) place_of
appended_share coords order n rows place_of up begins numbered = record {
  within = λ i h. let at = numbered i h in let k = place_within rows i rows.count (begins.start (omega (arith, h))) h in
      omega (arith, at, k);
  agree = λ i j less h same.
      let low = numbered i (omega (arith, less, h)) in
      let high = numbered j h in
      let a = some i (omega (arith, less, h)) in
      let b = some j h in
      let at : i + (j - i) ≡ j = omega (arith, less) in
      subst (λ k. Agree coords n i k) at (begun_agree coords n i (j - i) rows begins (omega (arith, at, h))
      (ap (λ k. begun rows.first (suc k)) at
      ∙ (let e : begun rows.first (suc j) ≡ begun rows.first (suc i) = omega (arith, low, high, a, b, same) in e)));
  share = λ i j less h a.
      let at : i + (j - i) ≡ j = omega (arith, less) in
      let same = none_begun coords order n i (j - i) rows up begins (omega (arith, at, h)) (subst (λ k. Agree coords n i k) (sym at) a) in
      numbered i (omega (arith, less, h)) ∙ ap (λ k. k - 1) (sym same ∙ ap (λ k. begun rows.first (suc k)) at) ∙ sym (numbered j h);
}
  where
    some : (i : ℕ) → i < rows.count → 0 < begun rows.first (suc i)
    some i h = begun_some rows (suc i) (begins.start (omega (arith, h))) (omega arith)

pub appended_never_fall : (rows : Rows) (place_of : ℕ → ℕ) → ((i : ℕ) → i < rows.count → place_of i ≡ place rows.first i)
    → NeverFall rows.count place_of
appended_never_fall rows place_of numbered i h =
    let low = numbered i (omega (arith, h)) in
    let high = numbered (suc i) h in
    let rise = begun_upto rows (suc i) (suc (suc i)) (omega arith) in
    omega (arith, low, high, rise)

pub appended_all_placed : (rows : Rows) (place_of : ℕ → ℕ) → ((i : ℕ) → i < rows.count → place_of i ≡ place rows.first i)
    → AllPlaced rows.count (begun rows.first rows.count) place_of
appended_all_placed rows place_of numbered p h = let k = placed rows rows.count p h in (k.0, k.1, numbered k.0 k.1 ∙ k.2)

-- from a least coordinate on
rising_at : (least p : ℕ) (e : Entry) (es : List Entry) → Rising least es → StandsAt p e es → least ≤ e.coord
rising_at least p e [] r s = absurd s
rising_at least p e (f ∷ es) r (inl s) = subst (λ g. least ≤ g.coord) s.1 r.0
rising_at least p e (f ∷ es) r (inr s) = let k = rising_at (f.coord + 1) p e es r.1 s in let l = r.0 in omega (arith, k, l)

-- where coordinates rise, so do positions
stands_order : (least lo hi p q : ℕ) (e f : Entry) (es : List Entry) → Rising least es → Placed lo hi es → StandsAt p e es → StandsAt q f es
    → e.coord < f.coord → e.child.hi ≤ f.child.lo
stands_order least lo hi p q e f [] r pl s t less = absurd s
stands_order least lo hi p q e f (g ∷ es) r pl (inl s) (inl t) less = let a = ap (λ y. y.coord) s.1 in let b = ap (λ y. y.coord) t.1 in
    absurd (omega (arith, a, b, less))
stands_order least lo hi p q e f (g ∷ es) r pl (inl s) (inr t) less = let k = (stands_within g.child.hi hi q f es pl.2 t).0 in
    let a = ap (λ y. y.child.hi) s.1 in omega (arith, k, a)
stands_order least lo hi p q e f (g ∷ es) r pl (inr s) (inl t) less = let k = rising_at (g.coord + 1) p e es r.1 s in
    let b = ap (λ y. y.coord) t.1 in absurd (omega (arith, k, b, less))
stands_order least lo hi p q e f (g ∷ es) r pl (inr s) (inr t) less = stands_order (g.coord + 1) g.child.hi hi p q e f es r.1 pl.2 s t less

-- a level in which rows are stored
module _ {L : Type 0} (means : Meaning L) (laws : Laws means) (l : L) (parents positions : ℕ) (rows : Rows) (place_of : ℕ → ℕ)
    (st : Stores means parents positions rows place_of l) (within : (i : ℕ) → i < rows.count → rows.parent i < parents) where
  asked_at : (i : ℕ) → i < rows.count → Asked means l parents (one (rows.parent i))
  asked_at i h = let w = within i h in (laws.parents l parents (rows.parent i) st.has_parents w, omega (arith, w))

  has_coord : (i : ℕ) → i < rows.count → coord_at (means.entries l (one (rows.parent i))) (place_of i) ≡ Some (rows.coord i)
  has_coord i h = st.stands.has (one (rows.parent i)) i (asked_at i h) h (omega arith, omega arith)

  in_segment : (i : ℕ) → i < rows.count → IsIn (place_of i) (means.segment_of l (one (rows.parent i)))
  in_segment i h =
      let e = coord_from (place_of i) (rows.coord i) (means.entries l (one (rows.parent i))) (has_coord i h) in
      let s = stands_within (means.segment_of l (one (rows.parent i))).lo (means.segment_of l (one (rows.parent i))).hi e.entry.child.lo
      e.entry (means.entries l (one (rows.parent i))) (laws.entries l (one (rows.parent i)) (asked_at i h).0).placed e.stands in
      let a = s.0 in let b = s.2 in let c = e.at.0 in let d = e.at.1 in
      (omega (arith, a, c), omega (arith, b, d))

  -- rows of one position have one parent and one coordinate
  pub same_place : (i j : ℕ) → i < rows.count → j < rows.count → place_of i ≡ place_of j
      → (rows.parent i ≡ rows.parent j) × (rows.coord i ≡ rows.coord j)
  same_place i j h k same = (
    parent,
    same_Some (rows.coord i) (rows.coord j) (sym (has_coord i h) ∙ ap (coord_at (means.entries l (one (rows.parent i)))) same
        ∙ ap (λ p. coord_at (means.entries l (one p)) (place_of j)) parent ∙ has_coord j k),
  )
    where
      parent : rows.parent i ≡ rows.parent j
      parent =
          let there = st.stands.alone (one (rows.parent i)) j (asked_at i h) k
          (subst (λ p. IsIn p (means.segment_of l (one (rows.parent i)))) same (in_segment i h)) in let a = there.0 in let b = there.1 in
          omega (arith, a, b)

  -- and the other way round, where each coordinate has one position
  pub same_row : (i j : ℕ) → i < rows.count → j < rows.count → (properties (means.kind l)).unique ≡ true → rows.parent i ≡ rows.parent j
      → rows.coord i ≡ rows.coord j → place_of i ≡ place_of j
  same_row i j h k unique parent coord =
      let are = laws.entries l (one (rows.parent i)) (asked_at i h).0 in
      let at_i = coord_position (rows.coord i) (place_of i) (means.entries l (one (rows.parent i))) are.distinct
      (are.properties.unique unique) (has_coord i h) in
      let at_j = coord_position (rows.coord i) (place_of j) (means.entries l (one (rows.parent i))) are.distinct
      (are.properties.unique unique) (ap (λ p. coord_at (means.entries l (one p)) (place_of j)) parent ∙ has_coord j k
      ∙ ap Some (sym coord)) in
      same_Some (place_of i) (place_of j) (sym at_i ∙ at_j)

  askable : Askable (means.allowed l) (means.segment_of l) parents
  askable = record {
    row = laws.in_row l;
    each = λ p h. laws.parents l parents p st.has_parents h;
    rise = λ p h. placed_within (means.segment_of l (one p)).lo (means.segment_of l (one p)).hi (means.entries l (one p))
        (laws.entries l (one p) (laws.parents l parents p st.has_parents h)).placed;
  }

  ends_by : (p : ℕ) → p < parents → (means.segment_of l (one p)).hi ≤ positions
  ends_by p h = by_order (cases_lt p (parents - 1))
    where
      by_order : (p < parents - 1) ⊎ (parents - 1 ≤ p) → (means.segment_of l (one p)).hi ≤ positions
      by_order (inl before) =
          let ends = st.ends (parents - 1) (omega (arith, h)) in
          let behind = segments_apart (means.allowed l) (means.segment_of l) parents p (parents - 1) askable before (omega (arith, h)) in
          let rise = askable.rise (parents - 1) (omega (arith, h)) in
          omega (arith, ends, behind, rise)
      by_order (inr from) = let ends = st.ends p (omega (arith, h, from)) in omega (arith, ends)

  -- how inserted rows share their positions
  pub inserted_share : (coords : ℕ → ℕ → ℕ) (d size : ℕ) → (properties (means.kind l)).unique ≡ true → AreRowsOf coords d (suc d) size rows
      → ShareBy coords d rows.count parents rows.parent → ShareBy coords (suc d) rows.count positions place_of
  inserted_share coords d size unique are share = record {
    within = λ i h. let k = (in_segment i h).1 in let e = ends_by (rows.parent i) (within i h) in omega (arith, k, e);
    agree = λ i j less h same.
        let k = same_place i j (omega (arith, less, h)) h same in
        agree_more coords d i j (share.agree i j less h k.0) (sym (are.coord i (omega (arith, less, h))) ∙ k.1 ∙ are.coord j h);
    share = λ i j less h a. same_row i j (omega (arith, less, h)) h unique
        (share.share i j less h (agree_less coords d (suc d) i j (omega arith) a)) (are.coord i (omega (arith, less, h)) ∙ a d (omega arith)
        ∙ sym (are.coord j h));
  }

  -- where a level keeps the order of coordinates, positions never fall
  pub inserted_never_fall : (coords : ℕ → ℕ → ℕ) (order d size : ℕ) → (properties (means.kind l)).ordered ≡ true
      → (properties (means.kind l)).unique ≡ true → Increase coords order rows.count → AreRowsOf coords d (suc d) size rows
      → ShareBy coords d rows.count parents rows.parent → NeverFall rows.count rows.parent → NeverFall rows.count place_of
  inserted_never_fall coords order d size ordered unique up are share never i h = by_parent (cases_lt (rows.parent i) (rows.parent (suc i)))
    where
      before : i < rows.count
      before = omega (arith, h)

      by_coord : rows.parent i ≡ rows.parent (suc i) → (rows.coord i < rows.coord (suc i)) ⊎ (rows.coord (suc i) ≤ rows.coord i)
          → place_of i ≤ place_of (suc i)
      by_coord same (inl less) =
          let are_them = laws.entries l (one (rows.parent i)) (asked_at i before).0 in
          let e = coord_from (place_of i) (rows.coord i) (means.entries l (one (rows.parent i))) (has_coord i before) in
          let f = coord_from (place_of (suc i)) (rows.coord (suc i)) (means.entries l (one (rows.parent i)))
          (ap (λ p. coord_at (means.entries l (one p)) (place_of (suc i))) same ∙ has_coord (suc i) h) in
          let low = e.coord in let high = f.coord in
          let k = stands_order 0 (means.segment_of l (one (rows.parent i))).lo (means.segment_of l (one (rows.parent i))).hi
          e.entry.child.lo f.entry.child.lo e.entry f.entry (means.entries l (one (rows.parent i)))
          (are_them.properties.ordered ordered) are_them.placed e.stands f.stands (omega (arith, low, high, less)) in
          let a = e.at.1 in let b = f.at.0 in
          omega (arith, k, a, b)
      by_coord same (inr near) =
          let a = share.agree i (suc i) (omega arith) h same in
          let rise = coords_upto coords order rows.count d i (suc i) up (omega arith) h a in
          let low = are.coord i before in
          let high = are.coord (suc i) h in
          let here = same_row i (suc i) before h unique same (omega (arith, rise, low, high, near)) in
          omega (arith, here)

      by_parent : (rows.parent i < rows.parent (suc i)) ⊎ (rows.parent (suc i) ≤ rows.parent i) → place_of i ≤ place_of (suc i)
      by_parent (inl less) =
          let behind = segments_apart (means.allowed l) (means.segment_of l) parents (rows.parent i) (rows.parent (suc i)) askable less
          (within (suc i) h) in
          let a = (in_segment i before).1 in let b = (in_segment (suc i) h).0 in
          omega (arith, behind, a, b)
      by_parent (inr near) = let rise = never i h in let same : rows.parent i ≡ rows.parent (suc i) = omega (arith, rise, near) in
          by_coord same (cases_lt (rows.coord i) (rows.coord (suc i)))

-- columns of a table are sorted
pub columns_sorted : {L : Type 0} (means : Meaning L) (coords : ℕ → ℕ → ℕ) (order count : ℕ) (ls : List L) (columns : List Column) (d : ℕ)
    (same : ℕ → Type 0) → Increase coords order count → AreColumnsOf means coords count ls columns d
    → ((i : ℕ) → suc i < count → same i → Agree coords d i (suc i)) → AreSorted means count ls columns same
columns_sorted means coords order count [] columns d same up are agree = tt
columns_sorted means coords order count (l ∷ ls) [] d same up are agree = absurd are
columns_sorted means coords order count (l ∷ ls) (column ∷ columns) d same up are agree = (
  (λ i h s.
      let low = are.0.coord i (omega (arith, h)) in
      let high = are.0.coord (suc i) h in
      record {
        follows = (let k = coords_upto coords order count d i (suc i) up (omega arith) h (agree i h s) in
            omega (arith, low, high, k));
        apart = λ first. by_unique i h s first (properties (means.kind l)).unique refl;
      }),
  columns_sorted means coords order count ls columns (suc d) (λ i. same i × (column.coord i ≡ column.coord (suc i))) up are.1
      (λ i h s. agree_more coords d i (suc i) (agree i h s.0) (sym (are.0.coord i (omega (arith, h))) ∙ s.1 ∙ are.0.coord (suc i) h)),
)
  where
    by_unique : (i : ℕ) → suc i < count → same i → column.first (suc i) ≡ true → (b : Bool) → (properties (means.kind l)).unique ≡ b
        → column.coord i + gap (properties (means.kind l)).unique ≤ column.coord (suc i)
    by_unique i h s first true is =
        let low = are.0.coord i (omega (arith, h)) in
        let high = are.0.coord (suc i) h in
        let k = rises coords order count d i (suc i) up (omega arith) h (agree i h s)
        (λ a. are.0.begins.differs i h first (subst (λ m. Agree coords m i (suc i)) (sym (are.0.last is)) a)) in
        let wide : gap (properties (means.kind l)).unique ≡ 1 = ap gap is in
        omega (arith, low, high, k, wide)
    by_unique i h s first false is =
        let low = are.0.coord i (omega (arith, h)) in
        let high = are.0.coord (suc i) h in
        let k = coords_upto coords order count d i (suc i) up (omega arith) h (agree i h s) in
        let none : gap (properties (means.kind l)).unique ≡ 0 = ap gap is in
        omega (arith, low, high, k, none)
