-- The modes in their own order.
use Rattle.std.specs.Prelude.{◌≡◌, ℕ, zero, suc, ◌+◌, [], ◌∷◌, ◌++◌, length}
use Rattle.std.specs.List.{range_with_len}
use Rattle.std.proofs.Common.{◌∙◌, sym, ap, arith}
use Rattle.std.proofs.lemmas.List.FromFn.{length-range_with_len, get_or-range_with_len}
use Rattle.format_spec.specs.Formats.{standing, IsOrder}

pub standing_length : (n : ℕ) → length (standing n) ≡ n
standing_length n = length-range_with_len 0 n

range_append : (from count : ℕ) → range_with_len from count ++ (from + count) ∷ [] ≡ range_with_len from (suc count)
range_append from zero = let same : from + 0 ≡ from = omega arith in ap (λ n. n ∷ []) same
range_append from (suc count) =
    let same : from + suc count ≡ from + 1 + count = omega arith in
    ap (λ n. from ∷ (range_with_len (from + 1) count ++ n ∷ [])) same ∙ ap (λ ns. from ∷ ns) (range_append (from + 1) count)

-- one mode more behind those before it
pub standing_append : (n : ℕ) → standing n ++ n ∷ [] ≡ standing (n + 1)
standing_append n =
    let behind : 0 + n ≡ n = omega arith in
    let more : suc n ≡ n + 1 = omega arith in
    ap (λ k. standing n ++ k ∷ []) (sym behind) ∙ range_append 0 n ∙ ap standing more

-- the modes in their own order are the modes in some order
pub standing_is_order : (n : ℕ) → IsOrder n (standing n)
standing_is_order n = record {
  count = standing_length n;
  below = λ i d h. let k = standing_length n in let at = get_or-range_with_len 0 n i d (omega (arith, h, k)) in omega (arith, at, h, k);
  once = λ i j d before h same.
      let k = standing_length n in
      let first = get_or-range_with_len 0 n i d (omega (arith, before, h, k)) in
      let second = get_or-range_with_len 0 n j d (omega (arith, h, k)) in
      omega (arith, before, first, second, same);
}
