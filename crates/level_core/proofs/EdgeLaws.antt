-- Lemmas about what specs/EdgeLaws.antt defines.
use Rattle.std.specs.Prelude.{◌≡◌, ℕ, zero, suc, ◌+◌, ◌-◌, ◌≤◌, ◌<◌, false, if◌then◌else◌, List, [], ◌∷◌, length, take, slice_set, refl}
use Rattle.std.proofs.Common.{◌∙◌, sym, ap, subst, arith}
use Rattle.level_core.specs.Entries.{span, one}
use Rattle.level_core.specs.Kinds.{Letter, properties}
use Rattle.level_core.specs.Logs.{Log, total, NoneFrom, IsLog, with_edges, segment_in, MayGive}

pub none_later : (next later : ℕ) (ns : List ℕ) → next ≤ later → NoneFrom next ns → NoneFrom later ns
none_later zero zero ns h z = z
none_later zero (suc later) [] h z = tt
none_later zero (suc later) (n ∷ ns) h z = none_later zero later ns (omega arith) z.1
none_later (suc next) zero ns h z = absurd (omega (arith, h))
none_later (suc next) (suc later) [] h z = tt
none_later (suc next) (suc later) (n ∷ ns) h z = none_later next later ns (omega (arith, h)) z

pub none_total : (ns : List ℕ) → NoneFrom zero ns → total ns ≡ 0
none_total [] z = refl
none_total (n ∷ ns) z = let k = none_total ns z.1 in omega (arith, z.0, k)

-- all positions are given to the parents before
total_before : (p : ℕ) (ns : List ℕ) → NoneFrom p ns → total (take p ns) ≡ total ns
total_before zero ns z = sym (none_total ns z)
total_before (suc p) [] z = refl
total_before (suc p) (n ∷ ns) z = ap (λ m. n + m) (total_before p ns z)

-- another number for a parent doesn't move those before it
total_set_before : (p parent m : ℕ) (ns : List ℕ) → p ≤ parent → total (take p (slice_set ns parent m)) ≡ total (take p ns)
total_set_before zero parent m ns h = refl
total_set_before (suc p) parent m [] h = refl
total_set_before (suc p) zero m (n ∷ ns) h = absurd (omega (arith, h))
total_set_before (suc p) (suc parent) m (n ∷ ns) h = ap (λ k. n + k) (total_set_before p parent m ns (omega (arith, h)))

total_set_through : (parent m : ℕ) (ns : List ℕ) → parent < length ns
    → total (take (suc parent) (slice_set ns parent m)) ≡ total (take parent ns) + m
total_set_through parent m [] h = absurd (omega (arith, h))
total_set_through zero m (n ∷ ns) h = omega arith
total_set_through (suc parent) m (n ∷ ns) h = let k = total_set_through parent m ns (omega (arith, h)) in omega (arith, k)

counts_are : (letter : Letter) (parent begin end : ℕ) (log : Log) → (properties letter).branchless ≡ false
    → (with_edges letter parent begin end log).counts ≡ slice_set log.counts parent (end - begin)
counts_are letter parent begin end log h =
    ap (λ b. (if b then log else record log { counts = slice_set log.counts parent (end - begin); next = parent + 1 }).counts) h

spans_are : (lo hi begin end : ℕ) → lo ≡ begin → hi ≡ end → span lo hi ≡ span begin end
spans_are lo hi begin end h g = ap (λ n. span n hi) h ∙ ap (λ n. span begin n) g

-- a parent's positions are those that it is given
pub edges_tell : (letter : Letter) (parent begin end : ℕ) (log : Log) → (properties letter).branchless ≡ false → IsLog log
    → MayGive parent begin end log → segment_in (with_edges letter parent begin end log).counts (one parent) ≡ span begin end
edges_tell letter parent begin end log b is m =
    let counts = counts_are letter parent begin end log b in
    let ahead : NoneFrom parent log.counts = none_later log.next parent log.counts m.above is.ahead in
    let before = total_set_before parent parent (end - begin) log.counts (omega arith) in
    let all = total_before parent log.counts ahead in
    let through = total_set_through parent (end - begin) log.counts m.reserved in
    let begins = m.begins in
    let ends = m.ends in
    let given = is.given in
    let next : suc parent ≡ parent + 1 = omega arith in
    let through_next : total (take (parent + 1) (slice_set log.counts parent (end - begin))) ≡ total (take parent log.counts) +
    (end - begin) = subst
    (λ n. total (take n (slice_set log.counts parent (end - begin))) ≡ total (take parent log.counts) + (end - begin)) next
    through in
    ap (λ ns. segment_in ns (one parent)) counts
    ∙ spans_are (total (take parent (slice_set log.counts parent (end - begin))))
    (total (take (parent + 1) (slice_set log.counts parent (end - begin)))) begin end (omega (arith, before, all, begins))
    (omega (arith, through_next, all, begins, ends, given))

-- and parents before it keep theirs
pub edges_keep : (letter : Letter) (p parent begin end : ℕ) (log : Log) → (properties letter).branchless ≡ false → p < parent
    → segment_in (with_edges letter parent begin end log).counts (one p) ≡ segment_in log.counts (one p)
edges_keep letter p parent begin end log b h =
    ap (λ ns. segment_in ns (one p)) (counts_are letter parent begin end log b)
    ∙ spans_are (total (take p (slice_set log.counts parent (end - begin))))
    (total (take (p + 1) (slice_set log.counts parent (end - begin)))) (total (take p log.counts)) (total (take (p + 1) log.counts))
    (total_set_before p parent (end - begin) log.counts (omega (arith, h)))
    (total_set_before (p + 1) parent (end - begin) log.counts (omega (arith, h)))

total_of_none : (p : ℕ) (ns : List ℕ) → NoneFrom p ns → total (take p ns) ≡ total (take (p + 1) ns)
total_of_none p ns z = total_before p ns z ∙ sym (total_before (p + 1) ns (none_later p (p + 1) ns (omega arith) z))

-- a parent from the next on has none
pub none_given : (p : ℕ) (log : Log) → IsLog log → log.next ≤ p → (segment_in log.counts (one p)).lo ≡ (segment_in log.counts (one p)).hi
none_given p log is h = total_of_none p log.counts (none_later log.next p log.counts h is.ahead)
