-- Lists of coordinates, and of numbers of positions, that tell the same below each parent are the same.
use Rattle.std.specs.Prelude.{◌≡◌, ℕ, zero, suc, ◌+◌, ◌-◌, ◌≤◌, ◌<◌, List, [], ◌∷◌, length, take, slice_get, slice_index}
use Rattle.std.proofs.Common.{◌∙◌, sym, ap, arith, inl, inr, ◌⊎◌}
use Rattle.std.proofs.lemmas.Bool.{cases_lt}
use Rattle.std.proofs.lemmas.List.{ext_get_or}
use Rattle.std.proofs.lemmas.Option.{slice_get-get_or, same_Some}
use Rattle.level_core.specs.Entries.{one, IsIn}
use Rattle.level_core.specs.Logs.{total, segment_in}

-- lists of one length with the same words are the same
pub same_words : (xs ys : List ℕ) → length xs ≡ length ys → ((q : ℕ) → q < length xs → slice_get xs q ≡ slice_get ys q) → xs ≡ ys
same_words xs ys long same = ext_get_or 0 xs ys long (λ q h.
    same_Some (slice_index xs q) (slice_index ys q) (sym (slice_get-get_or xs q 0 h) ∙ same q h
    ∙ slice_get-get_or ys q 0 (omega (arith, h, long))))

-- a parent's number of positions is the length of its segment
count_at : (ns : List ℕ) (p : ℕ) → p < length ns → slice_index ns p ≡ (segment_in ns (one p)).hi - (segment_in ns (one p)).lo
count_at [] p h = absurd (omega (arith, h))
count_at (n ∷ ns) zero h = omega arith
count_at (n ∷ ns) (suc p) h =
    let k = count_at ns p (omega (arith, h)) in
    let next : suc p + 1 ≡ suc (p + 1) = omega arith in
    let sum : total (take (suc p + 1) (n ∷ ns)) ≡ n + total (take (p + 1) ns) = ap (λ m. total (take m (n ∷ ns))) next in
    omega (arith, k, sum)

-- parents with the same segments have the same numbers of positions
pub same_counts : (ns ms : List ℕ) → length ns ≡ length ms → ((p : ℕ) → p < length ns → segment_in ns (one p) ≡ segment_in ms (one p))
    → ns ≡ ms
same_counts ns ms long same = ext_get_or 0 ns ms long (λ p h. count_at ns p h ∙ ap (λ s. s.hi - s.lo) (same p h)
    ∙ sym (count_at ms p (omega (arith, h, long))))

-- each position is below one of the parents
pub record BelowSome (ns : List ℕ) (q : ℕ) : Type 0 where
  pub parent : ℕ
  pub known : parent < length ns
  pub inside : IsIn q (segment_in ns (one parent))

pub below_some : (ns : List ℕ) (q : ℕ) → q < total ns → BelowSome ns q
below_some [] q h = absurd (omega (arith, h))
below_some (n ∷ ns) q h = by_order (λ g. below_some ns (q - n) g) (cases_lt q n)
  where
    by_order : (q - n < total ns → BelowSome ns (q - n)) → (q < n) ⊎ (n ≤ q) → BelowSome (n ∷ ns) q
    by_order again (inl less) = record { parent = 0; known = omega arith; inside = (omega arith, omega (arith, less)) }
    by_order again (inr from) =
        let k = again (omega (arith, h, from)) in
        let known = k.known in
        let i = k.inside in
        let next : suc k.parent + 1 ≡ suc (k.parent + 1) = omega arith in
        let sum : total (take (suc k.parent + 1) (n ∷ ns)) ≡ n + total (take (k.parent + 1) ns) = ap (λ m. total (take m (n ∷ ns))) next in
        record { parent = suc k.parent; known = omega (arith, known); inside = (omega (arith, from, i.0), omega (arith, from, i.1, sum)) }
