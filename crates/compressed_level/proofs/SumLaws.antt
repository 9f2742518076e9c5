-- Lemmas about what specs/SumLaws.antt defines.
use Rattle.std.specs.Prelude.{◌≡◌, ℕ, zero, suc, ◌+◌, ◌≤◌, List, [], ◌∷◌, length, take, slice_get, slice_set, Some, None, refl}
use Rattle.std.proofs.Common.{◌∙◌, sym, ap, subst, arith}
use Rattle.level_core.specs.Logs.{total, running}
use Rattle.compressed_level.specs.SumLaws.{partly, Summing}
use Rattle.std.proofs.lemmas.Option.{same_Some}

pub sums_begin : (old : List ℕ) → Summing old old 0 0
sums_begin old = record { items = refl; last = refl }

partly_at : (before : ℕ) (old : List ℕ) (i : ℕ) → slice_get (partly before old i) i ≡ slice_get old i
partly_at before old zero = refl
partly_at before [] (suc i) = refl
partly_at before (x ∷ old) (suc i) = partly_at (before + x) old i

partly_set : (before : ℕ) (old : List ℕ) (i x : ℕ) → slice_get old i ≡ Some x
    → slice_set (partly before old i) i (before + total (take i old) + x) ≡ partly before old (suc i)
partly_set before [] i x h = absurd (none_is x h)
  where
    none_is : (x : ℕ) → None ≡ Some x → ⊥
    none_is x h = cc
partly_set before (y ∷ old) zero x h = let same : before + 0 + x ≡ before + y = omega (arith, same_Some y x h) in ap (λ n. n ∷ old) same
partly_set before (y ∷ old) (suc i) x h =
    let same : before + (y + total (take i old)) + x ≡ before + y + total (take i old) + x = omega arith in
    ap (λ n. (before + y) ∷ slice_set (partly (before + y) old i) i n) same
    ∙ ap (λ ns. (before + y) ∷ ns) (partly_set (before + y) old i x h)

total_next : (old : List ℕ) (i x : ℕ) → slice_get old i ≡ Some x → total (take (suc i) old) ≡ total (take i old) + x
total_next [] i x h = absurd (none_is x h)
  where
    none_is : (x : ℕ) → None ≡ Some x → ⊥
    none_is x h = cc
total_next (y ∷ old) zero x h = let same = same_Some y x h in omega (arith, same)
total_next (y ∷ old) (suc i) x h = let k = total_next old i x h in omega (arith, k)

total_within : (old : List ℕ) (i : ℕ) → total (take i old) ≤ total old
total_within [] zero = omega arith
total_within [] (suc i) = omega arith
total_within (x ∷ old) zero = omega arith
total_within (x ∷ old) (suc i) = let k = total_within old i in omega (arith, k)

partly_length : (before : ℕ) (old : List ℕ) (i : ℕ) → length (partly before old i) ≡ length old
partly_length before old zero = refl
partly_length before [] (suc i) = refl
partly_length before (x ∷ old) (suc i) = ap suc (partly_length (before + x) old i)

pub sums_length : (old now : List ℕ) (i sum : ℕ) → Summing old now i sum → length now ≡ length old
sums_length old now i sum s = ap length s.items ∙ partly_length 0 old i

-- a sum is no greater than the last one
pub sums_within : (old now : List ℕ) (i sum x : ℕ) → Summing old now i sum → slice_get now i ≡ Some x → sum + x ≤ total old
sums_within old now i sum x s h =
    let there : slice_get old i ≡ Some x = sym (partly_at 0 old i) ∙ ap (λ ns. slice_get ns i) (sym s.items) ∙ h in
    let next = total_next old i x there in
    let within = total_within old (suc i) in
    let last = s.last in
    omega (arith, next, within, last)

pub sums_go : (old now : List ℕ) (i sum x : ℕ) → Summing old now i sum → slice_get now i ≡ Some x
    → Summing old (slice_set now i (sum + x)) (i + 1) (sum + x)
sums_go old now i sum x s h =
    let there : slice_get old i ≡ Some x = sym (partly_at 0 old i) ∙ ap (λ ns. slice_get ns i) (sym s.items) ∙ h in
    let next = total_next old i x there in
    let last = s.last in
    let more : suc i ≡ i + 1 = omega arith in
    subst (λ j. Summing old (slice_set now i (sum + x)) j (sum + x)) more (record {
      items = ap (λ ns. slice_set ns i (sum + x)) s.items ∙ ap (λ n. slice_set (partly 0 old i) i (n + x)) (last ∙ omega arith)
          ∙ partly_set 0 old i x there;
      last = omega (arith, next, last);
    })

partly_whole : (before : ℕ) (old : List ℕ) (i : ℕ) → length old ≤ i → partly before old i ≡ running before old
partly_whole before [] zero h = refl
partly_whole before [] (suc i) h = refl
partly_whole before (x ∷ old) zero h = absurd (omega (arith, h))
partly_whole before (x ∷ old) (suc i) h = ap (λ ns. (before + x) ∷ ns) (partly_whole (before + x) old i (omega (arith, h)))

pub sums_end : (old now : List ℕ) (i sum : ℕ) → length old ≤ i → Summing old now i sum → now ≡ running 0 old
sums_end old now i sum h s = s.items ∙ partly_whole 0 old i h
