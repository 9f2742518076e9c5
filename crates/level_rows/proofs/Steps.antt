-- One row's step, and the end: what is appended and given.
use Rattle.std.specs.Prelude.{◌≡◌, ◌⊎◌, ℕ, zero, suc, ◌+◌, ◌-◌, ◌≤◌, ◌<◌, Bool, true, false, if◌then◌else◌, List, [], ◌∷◌, ◌++◌, length}
use Rattle.std.specs.Prelude.{take, drop, slice_index, slice_set, refl}
use Rattle.std.proofs.Common.{◌∙◌, sym, ap, subst, arith, inl, inr}
use Rattle.std.proofs.lemmas.Bool.{cases_lt}
use Rattle.std.proofs.lemmas.List.{drop_all, drop-append-le, length_push, get_or_append_left, get_or_push, length-set}
use Rattle.level_core.specs.declared.letter.Letter.{Letter}
use Rattle.level_core.specs.declared.stage.Stage.TheVariants.{Unfinished}
use Rattle.level_core.specs.Entries.{IsIn, one}
use Rattle.level_core.specs.Kinds.{properties}
use Rattle.level_core.specs.Logs.{Log, total, NoneFrom, Rises, IsLog, MayGive, segment_in, with_coord, with_edges}
use Rattle.level_core.proofs.EdgeLaws.{edges_tell, edges_keep, none_total}
use Rattle.level_rows.specs.Rows.{Rows, begun, place, IsBehind, InOrder}
use Rattle.level_rows.proofs.Progress.{UpTo, Appended, Given, Filled}
use Rattle.level_rows.proofs.RowLaws.{begun_yes, begun_no, place_within, rises_push, upto_more, upto_push}

-- while rows are appended to a level that isn't branchless
pub record Branching (unique : Bool) (parents n last begin : ℕ) (rows : Rows) (log : Log) : Type 0 where
  pub stage : log.stage ≡ Unfinished
  pub reserved : length log.counts ≡ parents
  pub appended : Appended n rows log.coords
  pub given : Given unique n last begin rows log

-- a row's parent is at least that of the row before
pub parents_rise : (unique : Bool) (size parents : ℕ) (rows : Rows) (i : ℕ) → InOrder unique size parents rows → suc i < rows.count
    → rows.parent i ≤ rows.parent (suc i)
parents_rise unique size parents rows i o h = by_first (rows.first (suc i)) refl
  where
    by_behind : IsBehind unique rows i → rows.parent i ≤ rows.parent (suc i)
    by_behind (inl l) = omega (arith, l)
    by_behind (inr l) = omega (arith, l.0)

    by_first : (b : Bool) → rows.first (suc i) ≡ b → rows.parent i ≤ rows.parent (suc i)
    by_first true is = by_behind (o.behind i h is)
    by_first false is = let k = (o.again i h is).0 in omega (arith, k)

-- a coordinate more
pub appended_more : (n : ℕ) (rows : Rows) (coords : List ℕ) → rows.first 0 ≡ true → rows.first n ≡ true → Appended n rows coords
    → Appended (suc n) rows (coords ++ rows.coord n ∷ [])
appended_more n rows coords starts is a = record {
  many = let l = length_push coords (rows.coord n) in let k = begun_yes rows n is in omega (arith, l, k, a.many);
  at = λ i h. by_order i h (cases_lt i n);
}
  where
    here : place rows.first n ≡ length coords
    here = let k = begun_yes rows n is in let m = a.many in omega (arith, k, m)

    by_order : (i : ℕ) → i < suc n → (i < n) ⊎ (n ≤ i) → slice_index (coords ++ rows.coord n ∷ []) (place rows.first i) ≡ rows.coord i
    by_order i h (inl l) =
        let w = place_within rows i n starts l in
        let m = a.many in
        get_or_append_left coords (rows.coord n ∷ []) 0 (place rows.first i) (omega (arith, w, m)) ∙ a.at i l
    by_order i h (inr l) =
        let same : i ≡ n = omega (arith, h, l) in
        subst (λ j. slice_index (coords ++ rows.coord n ∷ []) (place rows.first j) ≡ rows.coord j) (sym same)
        (ap (slice_index (coords ++ rows.coord n ∷ [])) here ∙ get_or_push coords (rows.coord n) 0 (length coords) refl)

-- no coordinate more
pub appended_same : (n i : ℕ) (rows : Rows) (coords : List ℕ) → n ≡ suc i → rows.first n ≡ false → rows.coord n ≡ rows.coord i
    → Appended n rows coords → Appended (suc n) rows coords
appended_same n i rows coords next is same a = record {
  many = let k = begun_no rows n is in a.many ∙ sym k;
  at = λ j h. by_order j h (cases_lt j n);
}
  where
    here : place rows.first n ≡ place rows.first i
    here = ap (λ k. k - 1) (begun_no rows n is ∙ ap (begun rows.first) next)

    by_order : (j : ℕ) → j < suc n → (j < n) ⊎ (n ≤ j) → slice_index coords (place rows.first j) ≡ rows.coord j
    by_order j h (inl l) = a.at j l
    by_order j h (inr l) =
        let at_n : j ≡ n = omega (arith, h, l) in
        subst (λ m. slice_index coords (place rows.first m) ≡ rows.coord m) (sym at_n)
        (ap (slice_index coords) here ∙ a.at i (omega (arith, next)) ∙ sym same)

edges_are : (letter : Letter) (parent begin end : ℕ) (log : Log) → (properties letter).branchless ≡ false
    → with_edges letter parent begin end log ≡ record log { counts = slice_set log.counts parent (end - begin); next = parent + 1 }
edges_are letter parent begin end log h =
    ap (λ b. if b then log else record log { counts = slice_set log.counts parent (end - begin); next = parent + 1 }) h

total_before : (p : ℕ) (ns : List ℕ) → NoneFrom p ns → total (take p ns) ≡ total ns
total_before zero ns z = sym (none_total ns z)
total_before (suc p) [] z = refl
total_before (suc p) (n ∷ ns) z = ap (λ m. n + m) (total_before p ns z)

-- after a parent was given its positions, all positions are given
pub edges_total : (letter : Letter) (parent begin end : ℕ) (log : Log) → (properties letter).branchless ≡ false → IsLog log
    → MayGive parent begin end log → IsLog (with_edges letter parent begin end log)
    → total (with_edges letter parent begin end log).counts ≡ end
edges_total letter parent begin end log b is may then_is =
    let next : (with_edges letter parent begin end log).next ≡ parent + 1 = ap (λ l. l.next) (edges_are letter parent begin end log b) in
    let tell = ap (λ s. s.hi) (edges_tell letter parent begin end log b is may) in
    sym (total_before (parent + 1) (with_edges letter parent begin end log).counts
    (subst (λ k. NoneFrom k (with_edges letter parent begin end log).counts) next then_is.ahead)) ∙ tell

-- the last parent may be given what is pending
pub may_give : (unique : Bool) (parents n last begin : ℕ) (rows : Rows) (log : Log) → Branching unique parents n last begin rows log
    → last < parents → MayGive last begin (length log.coords) log
may_give unique parents n last begin rows log p h =
    record { reserved = let r = p.reserved in omega (arith, r, h); above = p.given.next; begins = p.given.ends; ends = refl }

-- the last parent is given its positions, and the next one is another
pub given_edges : (letter : Letter) (unique : Bool) (parents n last begin next : ℕ) (rows : Rows) (log : Log)
    → (properties letter).branchless ≡ false → rows.first 0 ≡ true → last < parents → last < next
    → Branching unique parents n last begin rows log → IsLog (with_edges letter last begin (length log.coords) log)
    → Branching unique parents n next (length log.coords) rows (with_edges letter last begin (length log.coords) log)
given_edges letter unique parents n last begin next rows log b starts within less p then_is =
    record {
      stage = ap (λ l. l.stage) are ∙ p.stage;
      reserved = ap (λ l. length l.counts) are ∙ length-set log.counts last (length log.coords - begin) ∙ p.reserved;
      appended = subst (Appended n rows) (sym coords_are) p.appended;
      given = record {
        ends = sym (edges_total letter last begin (length log.coords) log b p.given.is may then_is);
        next = let k = ap (λ l. l.next) are in omega (arith, k, less);
        is = then_is;
        upto = λ i h. let k = p.given.upto i h in omega (arith, k, less);
        earlier = λ i h l. by_order i h (cases_lt (rows.parent i) last);
        pending = λ i h same. let k = p.given.upto i h in absurd (omega (arith, k, same, less));
        rise = subst (Rises unique 0) (sym nothing) tt;
        least = inl nothing;
      };
    }
  where
    are : (with_edges letter last begin (length log.coords) log)
        ≡ record log { counts = slice_set log.counts last (length log.coords - begin); next = last + 1 }
    are = edges_are letter last begin (length log.coords) log b

    coords_are : (with_edges letter last begin (length log.coords) log).coords ≡ log.coords
    coords_are = ap (λ l. l.coords) are

    may : MayGive last begin (length log.coords) log
    may = may_give unique parents n last begin rows log p within

    nothing : drop (length log.coords) (with_edges letter last begin (length log.coords) log).coords ≡ []
    nothing = ap (drop (length log.coords)) coords_are ∙ drop_all (length log.coords) log.coords (omega arith)

    by_order : (i : ℕ) → i < n → (rows.parent i < last) ⊎ (last ≤ rows.parent i)
        → IsIn (place rows.first i) (segment_in (with_edges letter last begin (length log.coords) log).counts (one (rows.parent i)))
    by_order i h (inl l) = subst (IsIn (place rows.first i))
        (sym (edges_keep letter (rows.parent i) last begin (length log.coords) log b l)) (p.given.earlier i h l)
    by_order i h (inr l) =
        let k = p.given.upto i h in
        let same : rows.parent i ≡ last = omega (arith, k, l) in
        let w = place_within rows i n starts h in
        let m = p.appended.many in
        let from = p.given.pending i h same in
        subst (λ q. IsIn (place rows.first i) (segment_in (with_edges letter last begin (length log.coords) log).counts (one q))) (sym same)
        (subst (IsIn (place rows.first i)) (sym (edges_tell letter last begin (length log.coords) log b p.given.is may))
        (from, omega (arith, w, m)))

-- the coordinate of a row that begins a position may come next
pub may_come : (unique : Bool) (size parents n last begin : ℕ) (rows : Rows) (log : Log) → InOrder unique size parents rows → n < rows.count
    → rows.parent n ≡ last → rows.first n ≡ true
    → Branching unique parents n last begin rows log → Rises unique 0 (drop (total log.counts) log.coords ++ rows.coord n ∷ [])
may_come unique size parents n last begin rows log o h same is p =
    subst (λ k. Rises unique 0 (drop k log.coords ++ rows.coord n ∷ [])) p.given.ends (by_least p.given.least)
  where
    behind : (i : ℕ) → n ≡ suc i → rows.parent i ≡ last → UpTo (rows.coord i) (drop begin log.coords) → IsBehind unique rows i
        → Rises unique 0 (drop begin log.coords ++ rows.coord n ∷ [])
    behind i next below u (inl l) = absurd (let k = ap rows.parent next in omega (arith, k, l, below, same))
    behind i next below u (inr l) =
        let k = ap rows.coord next in
        rises_push unique 0 (rows.coord n) (rows.coord i) (drop begin log.coords) p.given.rise u (omega (arith, l.1, k)) (omega arith)

    by_least : (drop begin log.coords ≡ []) ⊎ ((i : ℕ) × (n ≡ suc i) × (rows.parent i ≡ last) × UpTo (rows.coord i) (drop begin log.coords))
        → Rises unique 0 (drop begin log.coords ++ rows.coord n ∷ [])
    by_least (inl none) = subst (λ ys. Rises unique 0 (ys ++ rows.coord n ∷ [])) (sym none) (omega arith, tt)
    by_least (inr some) = behind some.0 some.1 some.2 some.3 (o.behind some.0 (omega (arith, h, some.1)) (sym (ap rows.first some.1) ∙ is))

-- a row that begins a position is appended below the last parent
pub row_first : (unique : Bool) (size parents n last begin : ℕ) (rows : Rows) (log : Log) → InOrder unique size parents rows
    → n < rows.count → rows.parent n ≡ last → rows.first n ≡ true
    → Branching unique parents n last begin rows log → IsLog (with_coord (rows.coord n) log)
    → Branching unique parents (suc n) last begin rows (with_coord (rows.coord n) log)
row_first unique size parents n last begin rows log o h same is p then_is =
    record {
      stage = p.stage;
      reserved = p.reserved;
      appended = appended_more n rows log.coords starts is p.appended;
      given = record {
        ends = p.given.ends;
        next = p.given.next;
        is = then_is;
        upto = λ i l. upto i l (cases_lt i n);
        earlier = λ i l below. earlier i l below (cases_lt i n);
        pending = λ i l at. pending i l at (cases_lt i n);
        rise =
            subst (Rises unique 0) (sym parts)
            (subst (λ k. Rises unique 0 (drop k log.coords ++ rows.coord n ∷ [])) (sym p.given.ends)
            (may_come unique size parents n last begin rows log o h same is p));
        least = inr (n, refl, same, subst (UpTo (rows.coord n)) (sym parts) (all_upto p.given.least));
      };
    }
  where
    starts : rows.first 0 ≡ true
    starts = o.begins (omega (arith, h))

    within : begin ≤ length log.coords
    within = let e = p.given.ends in let g = p.given.is.given in omega (arith, e, g)

    parts : drop begin (log.coords ++ rows.coord n ∷ []) ≡ drop begin log.coords ++ rows.coord n ∷ []
    parts = drop-append-le begin log.coords (rows.coord n ∷ []) within

    upto : (i : ℕ) → i < suc n → (i < n) ⊎ (n ≤ i) → rows.parent i ≤ last
    upto i l (inl before) = p.given.upto i before
    upto i l (inr from) = let at : i ≡ n = omega (arith, l, from) in let k = ap rows.parent at in omega (arith, k, same)

    earlier : (i : ℕ) → i < suc n → rows.parent i < last → (i < n) ⊎ (n ≤ i)
        → IsIn (place rows.first i) (segment_in log.counts (one (rows.parent i)))
    earlier i l below (inl before) = p.given.earlier i before below
    earlier i l below (inr from) = let at : i ≡ n = omega (arith, l, from) in let k = ap rows.parent at in
        absurd (omega (arith, k, same, below))

    pending : (i : ℕ) → i < suc n → rows.parent i ≡ last → (i < n) ⊎ (n ≤ i) → begin ≤ place rows.first i
    pending i l at (inl before) = p.given.pending i before at
    pending i l at (inr from) =
        let here : i ≡ n = omega (arith, l, from) in
        let k = begun_yes rows n is in
        let m = p.appended.many in
        subst (λ j. begin ≤ place rows.first j) (sym here) (omega (arith, k, m, within))

    low : (i : ℕ) → n ≡ suc i → rows.parent i ≡ last → IsBehind unique rows i → rows.coord i ≤ rows.coord n
    low i next below (inl l) = absurd (let k = ap rows.parent next in omega (arith, k, l, below, same))
    low i next below (inr l) = let k = ap rows.coord next in omega (arith, l.1, k)

    all_upto : (drop begin log.coords ≡ []) ⊎ ((i : ℕ) × (n ≡ suc i) × (rows.parent i ≡ last) × UpTo (rows.coord i) (drop begin log.coords))
        → UpTo (rows.coord n) (drop begin log.coords ++ rows.coord n ∷ [])
    all_upto (inl none) = subst (λ ys. UpTo (rows.coord n) (ys ++ rows.coord n ∷ [])) (sym none) (omega arith, tt)
    all_upto (inr some) = upto_push (rows.coord n) (drop begin log.coords)
        (upto_more (rows.coord some.0) (rows.coord n) (drop begin log.coords)
        (low some.0 some.1 some.2 (o.behind some.0 (omega (arith, h, some.1)) (sym (ap rows.first some.1) ∙ is))) some.3)

-- a row that begins none shares the position of the row before
pub row_again : (unique : Bool) (size parents n last begin : ℕ) (rows : Rows) (log : Log) → InOrder unique size parents rows
    → n < rows.count → rows.parent n ≡ last → rows.first n ≡ false
    → Branching unique parents n last begin rows log → Branching unique parents (suc n) last begin rows log
row_again unique size parents zero last begin rows log o h same is p = absurd (apart (sym (o.begins h) ∙ is))
  where
    apart : true ≡ false → ⊥
    apart e = cc
row_again unique size parents (suc i) last begin rows log o h same is p =
    record {
      stage = p.stage;
      reserved = p.reserved;
      appended = appended_same (suc i) i rows log.coords refl is again.1 p.appended;
      given = record {
        ends = p.given.ends;
        next = p.given.next;
        is = p.given.is;
        upto = λ j l. upto j l (cases_lt j (suc i));
        earlier = λ j l below. earlier j l below (cases_lt j (suc i));
        pending = λ j l at. pending j l at (cases_lt j (suc i));
        rise = p.given.rise;
        least = least p.given.least;
      };
    }
  where
    again : (rows.parent (suc i) ≡ rows.parent i) × (rows.coord (suc i) ≡ rows.coord i)
    again = o.again i h is

    here : place rows.first (suc i) ≡ place rows.first i
    here = ap (λ k. k - 1) (begun_no rows (suc i) is)

    upto : (j : ℕ) → j < suc (suc i) → (j < suc i) ⊎ (suc i ≤ j) → rows.parent j ≤ last
    upto j l (inl before) = p.given.upto j before
    upto j l (inr from) = let at : j ≡ suc i = omega (arith, l, from) in let k = ap rows.parent at in omega (arith, k, same)

    earlier : (j : ℕ) → j < suc (suc i) → rows.parent j < last → (j < suc i) ⊎ (suc i ≤ j)
        → IsIn (place rows.first j) (segment_in log.counts (one (rows.parent j)))
    earlier j l below (inl before) = p.given.earlier j before below
    earlier j l below (inr from) = let at : j ≡ suc i = omega (arith, l, from) in let k = ap rows.parent at in
        absurd (omega (arith, k, same, below))

    pending : (j : ℕ) → j < suc (suc i) → rows.parent j ≡ last → (j < suc i) ⊎ (suc i ≤ j) → begin ≤ place rows.first j
    pending j l at (inl before) = p.given.pending j before at
    pending j l at (inr from) =
        let there : j ≡ suc i = omega (arith, l, from) in
        subst (λ m. begin ≤ place rows.first m) (sym there)
        (subst (λ m. begin ≤ m) (sym here) (p.given.pending i (omega arith) (sym again.0 ∙ same)))

    least : (drop begin log.coords ≡ [])
        ⊎ ((j : ℕ) × (suc i ≡ suc j) × (rows.parent j ≡ last) × UpTo (rows.coord j) (drop begin log.coords))
        → (drop begin log.coords ≡ [])
        ⊎ ((j : ℕ) × (suc (suc i) ≡ suc j) × (rows.parent j ≡ last) × UpTo (rows.coord j) (drop begin log.coords))
    least (inl none) = inl none
    least (inr some) = let at : some.0 ≡ i = omega (arith, some.1) in
        inr (suc i, refl, same, subst (λ x. UpTo x (drop begin log.coords)) (ap rows.coord at ∙ sym again.1) some.3)

-- all rows are done, and the last parent is given its positions
pub all_filled : (unique : Bool) (parents last begin : ℕ) (rows : Rows) (log : Log) → ((i : ℕ) → i < rows.count → rows.parent i < last)
    → begin ≡ length log.coords
    → Branching unique parents rows.count last begin rows log → Filled parents rows log
all_filled unique parents last begin rows log all ends p = record {
  stage = p.stage;
  reserved = p.reserved;
  given = sym p.given.ends ∙ ends;
  appended = p.appended;
  below = λ i h. p.given.earlier i h (all i h);
}

-- no rows yet
pub none_yet : (unique : Bool) (parents : ℕ) (rows : Rows) (log : Log) → log.stage ≡ Unfinished → length log.counts ≡ parents
    → log.coords ≡ [] → log.next ≡ 0 → total log.counts ≡ 0 → IsLog log → Branching unique parents 0 0 0 rows log
none_yet unique parents rows log stage reserved none next given is = record {
  stage = stage;
  reserved = reserved;
  appended = record { many = ap length none; at = λ i h. absurd (omega (arith, h)) };
  given = record {
    ends = sym given;
    next = omega (arith, next);
    is = is;
    upto = λ i h. absurd (omega (arith, h));
    earlier = λ i h l. absurd (omega (arith, h));
    pending = λ i h at. absurd (omega (arith, h));
    rise = subst (Rises unique 0) (sym none) tt;
    least = inl none;
  };
}

-- without rows nothing is to be given
pub none_filled : (unique : Bool) (parents last begin : ℕ) (rows : Rows) (log : Log) → rows.count ≡ 0
    → Branching unique parents 0 last begin rows log → Filled parents rows log
none_filled unique parents last begin rows log none p =
    let many = p.appended.many in
    let given = p.given.is.given in
    record {
      stage = p.stage;
      reserved = p.reserved;
      given = omega (arith, many, given);
      appended = subst (λ n. Appended n rows log.coords) (sym none) p.appended;
      below = λ i h. absurd (omega (arith, h, none));
    }
