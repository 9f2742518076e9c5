-- Lemmas about what specs/ParentLaws.antt defines.
use Rattle.std.specs.Prelude.{◌≡◌, ◌⊎◌, ℕ, zero, suc, ◌+◌, ◌-◌, ◌≤◌, ◌<◌, List, take, refl}
use Rattle.std.proofs.Common.{ap, arith, inl, inr}
use Rattle.std.proofs.lemmas.Bool.{cases_lt, cases_order}
use Rattle.level_core.specs.Entries.{Span, one, IsIn, AreInRow, ShareOut}
use Rattle.level_core.specs.Logs.{total, segment_in}
use Rattle.level_core.specs.ParentLaws.{Askable}

-- parents whose numbers of positions are counted have segments in a row
pub segments_in_row : (counts : List ℕ) (allowed : Span → Type 0) → AreInRow allowed (segment_in counts)
segments_in_row counts allowed = record {
  first = λ p ok start. ap (λ k. total (take k counts)) start;
  next = λ p q ok more meet. ap (λ k. total (take k counts)) meet;
}

-- a later parent's segment starts where that of an earlier one ends, or after it
pub segments_apart : (allowed : Span → Type 0) (segment_of : Span → Span) (parents p q : ℕ) → Askable allowed segment_of parents → p < q
    → q < parents → (segment_of (one p)).hi ≤ (segment_of (one q)).lo
segments_apart allowed segment_of parents p q a before within = after (q - p - 1) q (omega (arith, before)) within
  where
    after : (between r : ℕ) → r ≡ p + between + 1 → r < parents → (segment_of (one p)).hi ≤ (segment_of (one r)).lo
    after zero r at h =
        let meet = a.row.next (one p) (one r) (a.each p (omega (arith, at, h))) (a.each r h) (omega (arith, at)) in
        omega (arith, meet)
    after (suc between) r at h =
        let last = p + between + 1 in
        let inside : last < parents = omega (arith, at, h) in
        let earlier = after between last refl inside in
        let through = a.rise last inside in
        let meet = a.row.next (one last) (one r) (a.each last inside) (a.each r h) (omega (arith, at)) in
        omega (arith, earlier, through, meet)

-- a position before the end of the last parent's segment is below one of the parents
below_some : (allowed : Span → Type 0) (segment_of : Span → Span) (parents last pos : ℕ) → Askable allowed segment_of parents
    → last < parents → pos < (segment_of (one last)).hi → (p : ℕ) × (p < parents) × IsIn pos (segment_of (one p))
below_some allowed segment_of parents zero pos a h g =
    let start = a.row.first (one 0) (a.each 0 h) refl in (0, h, (omega (arith, start), g))
below_some allowed segment_of parents (suc last) pos a h g =
    by_order (λ before. below_some allowed segment_of parents last pos a (omega (arith, h)) before)
    (cases_lt pos (segment_of (one (suc last))).lo)
  where
    by_order : (pos < (segment_of (one last)).hi → (p : ℕ) × (p < parents) × IsIn pos (segment_of (one p)))
        → (pos < (segment_of (one (suc last))).lo) ⊎ ((segment_of (one (suc last))).lo ≤ pos)
        → (p : ℕ) × (p < parents) × IsIn pos (segment_of (one p))
    by_order earlier (inl before) =
        let meet = a.row.next (one last) (one (suc last)) (a.each last (omega (arith, h))) (a.each (suc last) h) (omega arith) in
        earlier (omega (arith, before, meet))
    by_order earlier (inr from) = (suc last, h, (from, g))

-- the parents up to the last share out the positions up to the end of the last one's segment
pub share_out : (allowed : Span → Type 0) (segment_of : Span → Span) (last : ℕ) → Askable allowed segment_of (last + 1)
    → ShareOut segment_of (last + 1) (segment_of (one last)).hi
share_out allowed segment_of last a = record {
  within = λ p h. ends_by p h (cases_lt p last);
  found = λ pos h. below_some allowed segment_of (last + 1) last pos a (omega arith) h;
  alone = λ pos p q h g i j. same pos p q h g i j (cases_order p q);
}
  where
    ends_by : (p : ℕ) → p < last + 1 → (p < last) ⊎ (last ≤ p) → (segment_of (one p)).hi ≤ (segment_of (one last)).hi
    ends_by p h (inl before) =
        let apart = segments_apart allowed segment_of (last + 1) p last a before (omega arith) in
        let through = a.rise last (omega arith) in
        omega (arith, apart, through)
    ends_by p h (inr from) =
        let is : p ≡ last = omega (arith, h, from) in
        let ends = ap (λ k. (segment_of (one k)).hi) is in
        omega (arith, ends)

    same : (pos p q : ℕ) → p < last + 1 → q < last + 1 → IsIn pos (segment_of (one p)) → IsIn pos (segment_of (one q))
        → (p ≡ q) ⊎ ((p < q) ⊎ (q < p)) → p ≡ q
    same pos p q h g i j (inl is) = is
    same pos p q h g i j (inr (inl before)) = let apart =
        segments_apart allowed segment_of (last + 1) p q a before g in absurd (omega (arith, apart, i.1, j.0))
    same pos p q h g i j (inr (inr after)) = let apart =
        segments_apart allowed segment_of (last + 1) q p a after h in absurd (omega (arith, apart, i.0, j.1))

-- no parents share out no positions
pub none_share_out : (segment_of : Span → Span) → ShareOut segment_of 0 0
none_share_out segment_of = record {
  within = λ p h. absurd (omega (arith, h));
  found = λ pos h. absurd (omega (arith, h));
  alone = λ pos p q h. absurd (omega (arith, h));
}
