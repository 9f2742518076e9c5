-- What is known of a log where rows follow, and where more parents are reserved.
use Rattle.std.specs.Prelude.{◌≡◌, ◌⊎◌, ℕ, zero, suc, ◌+◌, ◌-◌, ◌≤◌, ◌<◌, Bool, true, false, if◌then◌else◌, List, [], ◌∷◌, ◌++◌, length}
use Rattle.std.specs.Prelude.{take, drop, replicate, slice_index, refl}
use Rattle.std.proofs.Common.{◌∙◌, sym, ap, subst, arith, inl, inr}
use Rattle.std.proofs.lemmas.List.{length-replicate, length-append, replicate-append-replicate}
use Rattle.level_core.specs.declared.letter.Letter.{Letter}
use Rattle.level_core.specs.Entries.{IsIn, one, span}
use Rattle.level_core.specs.Kinds.{properties}
use Rattle.level_core.specs.Logs.{Log, IsLog, total, ungiven, segment_in, with_parents}
use Rattle.level_rows.specs.Rows.{Rows, begun, place, MayAppendRows}
use Rattle.level_rows.proofs.Progress.{Progress, Given, UpTo}
use Rattle.level_rows.proofs.Steps.{parents_rise}
use Rattle.level_appends.specs.Appended.{EndsAt}

-- the first n rows are the same
pub record SameRows (n : ℕ) (rows more : Rows) : Type 0 where
  pub parent : (i : ℕ) → i < n → more.parent i ≡ rows.parent i
  pub coord : (i : ℕ) → i < n → more.coord i ≡ rows.coord i
  pub first : (i : ℕ) → i < n → more.first i ≡ rows.first i

pub begun_along : (n : ℕ) (first more : ℕ → Bool) → ((i : ℕ) → i < n → more i ≡ first i) → begun more n ≡ begun first n
begun_along zero first more same = refl
begun_along (suc n) first more same =
    ap (λ b. if b then begun more n + 1 else begun more n) (same n (omega arith))
    ∙ ap (λ k. if first n then k + 1 else k) (begun_along n first more (λ i h. same i (omega (arith, h))))

pub place_along : (n i : ℕ) (first more : ℕ → Bool) → ((i : ℕ) → i < n → more i ≡ first i) → i < n → place more i ≡ place first i
place_along n i first more same h = ap (λ k. k - 1) (begun_along (suc i) first more (λ j l. same j (omega (arith, h, l))))

-- rows follow
pub progress_along : (letter : Letter) (parents n last begin : ℕ) (rows more : Rows) (log : Log) → SameRows n rows more
    → Progress letter parents n last begin rows log → Progress letter parents n last begin more log
progress_along letter parents n last begin rows more log same p = record {
  stage = p.stage;
  reserved = p.reserved;
  appended = record {
    many = p.appended.many ∙ sym (begun_along n rows.first more.first same.first);
    at = λ i h. ap (slice_index log.coords) (there i h) ∙ p.appended.at i h ∙ sym (same.coord i h);
  };
  given = λ b. given (p.given b);
  ones = p.ones;
}
  where
    there : (i : ℕ) → i < n → place more.first i ≡ place rows.first i
    there i h = place_along n i rows.first more.first same.first h

    by_least : (g : Given (properties letter).unique n last begin rows log)
        → (drop begin log.coords ≡ []) ⊎ ((i : ℕ) × (n ≡ suc i) × (rows.parent i ≡ last) × UpTo (rows.coord i) (drop begin log.coords))
        → (drop begin log.coords ≡ []) ⊎ ((i : ℕ) × (n ≡ suc i) × (more.parent i ≡ last) × UpTo (more.coord i) (drop begin log.coords))
    by_least g (inl none) = inl none
    by_least g (inr some) =
        let next = some.1 in
        let h : some.0 < n = omega (arith, next) in
        inr (some.0, some.1, same.parent some.0 h ∙ some.2, subst (λ x. UpTo x (drop begin log.coords)) (sym (same.coord some.0 h)) some.3)

    given : Given (properties letter).unique n last begin rows log → Given (properties letter).unique n last begin more log
    given g = record {
      ends = g.ends;
      next = g.next;
      is = g.is;
      upto = λ i h. let k = g.upto i h in let e = same.parent i h in omega (arith, k, e);
      earlier = λ i h l.
          let e = same.parent i h in
          subst (λ q. IsIn q (segment_in log.counts (one (more.parent i)))) (sym (there i h))
          (subst (λ q. IsIn (place rows.first i) (segment_in log.counts (one q))) (sym e) (g.earlier i h (omega (arith, e, l))));
      pending = λ i h at. let e = there i h in let k = g.pending i h (sym (same.parent i h) ∙ at) in omega (arith, e, k);
      rise = g.rise;
      least = by_least g g.least;
    }

pub ends_along : (n last : ℕ) (rows more : Rows) → SameRows n rows more → EndsAt n last rows → EndsAt n last more
ends_along n last rows more same e =
    record { none = e.none; some = λ i next. e.some i next ∙ sym (same.parent i (omega (arith, next))) }

-- no row's parent is before that of the row before
pub ends_upto : (letter : Letter) (size parents n last : ℕ) (rows : Rows) → MayAppendRows letter size parents rows → n < rows.count
    → EndsAt n last rows → last ≤ rows.parent n
ends_upto letter size parents zero last rows may h e = let z = e.none refl in omega (arith, z)
ends_upto letter size parents (suc i) last rows may h e =
    let at = e.some i refl in
    let up = parents_rise (properties letter).unique size parents rows i may.order h in
    omega (arith, at, up)

total_zeros : (k : ℕ) → total (replicate k 0) ≡ 0
total_zeros zero = refl
total_zeros (suc k) = let j = total_zeros k in omega (arith, j)

none_more : (p k : ℕ) → total (take p (replicate k 0)) ≡ 0
none_more zero k = refl
none_more (suc p) zero = refl
none_more (suc p) (suc k) = let j = none_more p k in omega (arith, j)

-- zeros behind numbers of positions add none
total_same : (p k : ℕ) (ns : List ℕ) → total (take p (ns ++ replicate k 0)) ≡ total (take p ns)
total_same zero k ns = refl
total_same (suc p) k [] = none_more (suc p) k
total_same (suc p) k (n ∷ ns) = ap (λ m. n + m) (total_same p k ns)

total_all : (k : ℕ) (ns : List ℕ) → total (ns ++ replicate k 0) ≡ total ns
total_all k [] = total_zeros k
total_all k (n ∷ ns) = ap (λ m. n + m) (total_all k ns)

-- more parents are reserved
pub progress_reserved : (letter : Letter) (parents more n last begin : ℕ) (rows : Rows) (log : Log) → parents ≤ more
    → ((properties letter).branchless ≡ false → IsLog (with_parents letter more log))
    → Progress letter parents n last begin rows log → Progress letter more n last begin rows (with_parents letter more log)
progress_reserved letter parents more n last begin rows log upto is p = record {
  stage = refl;
  reserved = long;
  appended = p.appended;
  given = λ b. given b (p.given b);
  ones = λ b. ones b;
}
  where
    long : length (log.counts ++ replicate (more - length log.counts) (ungiven letter)) ≡ more
    long =
        let both = length-append log.counts (replicate (more - length log.counts) (ungiven letter)) in
        let behind = length-replicate (more - length log.counts) (ungiven letter) in
        let r = p.reserved in
        omega (arith, both, behind, r, upto)

    none : (properties letter).branchless ≡ false → log.counts ++ replicate (more - length log.counts) (ungiven letter) ≡ log.counts
        ++ replicate (more - length log.counts) 0
    none b = ap (λ t. log.counts ++ replicate (more - length log.counts) (if t then 1 else 0)) b

    ones : (properties letter).branchless ≡ true → log.counts ++ replicate (more - length log.counts) (ungiven letter) ≡ replicate more 1
    ones b =
        let r = p.reserved in
        let all : parents + (more - length log.counts) ≡ more = omega (arith, r, upto) in
        ap (λ t. log.counts ++ replicate (more - length log.counts) (if t then 1 else 0)) b
        ∙ ap (λ ns. ns ++ replicate (more - length log.counts) 1) (p.ones b)
        ∙ replicate-append-replicate parents (more - length log.counts) 1 ∙ ap (λ m. replicate m 1) all

    same_segment : (properties letter).branchless ≡ false → (q : ℕ)
        → segment_in (log.counts ++ replicate (more - length log.counts) (ungiven letter)) (one q) ≡ segment_in log.counts (one q)
    same_segment b q =
        ap (λ ns. segment_in ns (one q)) (none b)
        ∙ ap (λ k. span k (total (take (q + 1) (log.counts ++ replicate (more - length log.counts) 0))))
        (total_same q (more - length log.counts) log.counts)
        ∙ ap (λ k. span (total (take q log.counts)) k) (total_same (q + 1) (more - length log.counts) log.counts)

    given : (properties letter).branchless ≡ false → Given (properties letter).unique n last begin rows log
        → Given (properties letter).unique n last begin rows (with_parents letter more log)
    given b g = record {
      ends = g.ends ∙ sym (ap total (none b) ∙ total_all (more - length log.counts) log.counts);
      next = g.next;
      is = is b;
      upto = g.upto;
      earlier = λ i h l. subst (IsIn (place rows.first i)) (sym (same_segment b (rows.parent i))) (g.earlier i h l);
      pending = g.pending;
      rise = g.rise;
      least = g.least;
    }
