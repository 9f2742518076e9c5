-- The modes so far of an order that is read.
use Rattle.std.specs.Prelude.{◌≡◌, ◌≢◌, ◌⊎◌, ℕ, ◌+◌, ◌*◌, ◌≤◌, ◌<◌, List, [], ◌∷◌, ◌++◌, length, Some, slice_get, slice_index_or, All}
use Rattle.std.specs.Prelude.{AllPairs}
use Rattle.std.proofs.Common.{◌∙◌, sym, ap, subst, arith, inl, inr}
use Rattle.std.proofs.lemmas.Grind.{same_number_lists, get_or_default_zero}
use Rattle.std.proofs.lemmas.Bool.{cases_lt}
use Rattle.std.proofs.lemmas.List.{get_or_append_left, length-append}
use Rattle.std.proofs.Math.Seq.{get_or-append_seam}
use Rattle.std.proofs.lemmas.List.Quantifiers.{all_pairs_push}
use Rattle.format_spec.proofs.ModeTexts.{text_digit}
use Rattle.smallvec.specs.SmallVec.{SmallVec}
use Rattle.format_spec.specs.Formats.{IsOrder}
use Rattle.format_spec.specs.Words.{mode_text}

-- so many modes below n were read off their places in the text, and none twice
pub record Started (count n : ℕ) (text : List ℕ) (modes : SmallVec ℕ) : Type 0 where
  pub length_is : length modes.items ≡ count
  pub below : All (λ mode. mode < n) modes.items
  pub once : AllPairs (λ mode later. mode ≢ later) modes.items
  pub digits : (k d : ℕ) → k < count → slice_get text (2 * k) ≡ Some (48 + slice_index_or modes.items k d)
  pub inline : modes.capacity ≡ 6

-- a text of modes has the modes' digits at their places
pub has_digit : (n : ℕ) (text modes : List ℕ) (k d : ℕ) → IsOrder n modes → text ≡ mode_text modes → k < n
    → slice_get text (2 * k) ≡ Some (48 + slice_index_or modes k d)
has_digit n text modes k d order is h = ap (λ t. slice_get t (2 * k)) is ∙ text_digit modes k d (omega (arith, h, order.count))

same_digit : (a b : ℕ) → Some (48 + a) ≡ Some (48 + b) → a ≡ b
same_digit a b h = let same : 48 + a ≡ 48 + b = cc in omega (arith, same)

-- the modes so far are those of every order that the text tells
pub agree : (count n : ℕ) (text : List ℕ) (so_far : SmallVec ℕ) (modes : List ℕ) (k d : ℕ) → Started count n text so_far → IsOrder n modes
    → text ≡ mode_text modes → count ≤ n → k < count → slice_index_or so_far.items k d ≡ slice_index_or modes k d
agree count n text so_far modes k d s order is within h =
    same_digit (slice_index_or so_far.items k d) (slice_index_or modes k d) (sym (s.digits k d h)
    ∙ has_digit n text modes k d order is (omega (arith, h, within)))

-- what stands at the next place of a text of modes is a mode that isn't among those so far
pub next_is_new : (count n : ℕ) (text : List ℕ) (so_far : SmallVec ℕ) (modes : List ℕ) (mode : ℕ) → Started count n text so_far
    → IsOrder n modes → text ≡ mode_text modes → count < n → slice_get text (2 * count) ≡ Some (48 + mode)
    → (mode < n) × All (λ other. other ≢ mode) so_far.items
next_is_new count n text so_far modes mode s order is within at =
    let long = order.count in
    let same = same_digit mode (slice_index_or modes count 0) (sym at ∙ has_digit n text modes count 0 order is within) in
    let below = order.below count 0 (omega (arith, within, long)) in (
      omega (arith, same, below),
      λ k d h other.
          let earlier : k < count = omega (arith, h, s.length_is) in
          let same_k = agree count n text so_far modes k d s order is (omega (arith, within)) earlier in
          let moved = sym (get_or_default_zero modes count d (omega (arith, within, long))) in
          order.once k count d earlier (omega (arith, within, long)) (sym same_k ∙ other ∙ same ∙ moved),
    )

-- with one mode more
pub one_more : (count n : ℕ) (text : List ℕ) (old new : SmallVec ℕ) (mode : ℕ) → Started count n text old → mode < n
    → All (λ other. other ≢ mode) old.items → slice_get text (2 * count) ≡ Some (48 + mode) → new.items ≡ old.items ++ mode ∷ []
    → new.capacity ≡ old.capacity → Started (count + 1) n text new
one_more count n text old new mode s small fresh at pushed kept = record {
  length_is = longer;
  below = λ k d h. low k d h (cases_lt k count);
  once = subst (AllPairs (λ earlier later. earlier ≢ later)) (sym pushed)
      (all_pairs_push (λ earlier later. earlier ≢ later) old.items mode s.once fresh);
  digits = λ k d h. digit k d h (cases_lt k count);
  inline = kept ∙ s.inline;
}
  where
    longer : length new.items ≡ count + 1
    longer = let grown = ap length pushed ∙ length-append old.items (mode ∷ []) in omega (arith, grown, s.length_is)

    as_before : (k d : ℕ) → k < count → slice_index_or new.items k d ≡ slice_index_or old.items k d
    as_before k d h = ap (λ ms. slice_index_or ms k d) pushed ∙ get_or_append_left old.items (mode ∷ []) d k (omega (arith, h, s.length_is))

    at_end : (k d : ℕ) → k ≡ count → slice_index_or new.items k d ≡ mode
    at_end k d is =
        let last : k ≡ length old.items = is ∙ sym s.length_is in
        ap (λ ms. slice_index_or ms k d) pushed ∙ ap (λ n. slice_index_or (old.items ++ mode ∷ []) n d) last
        ∙ get_or-append_seam old.items mode [] d

    low : (k d : ℕ) → k < length new.items → (k < count) ⊎ (count ≤ k) → slice_index_or new.items k d < n
    low k d h (inl earlier) =
        let same = as_before k d earlier in
        let below = s.below k d (omega (arith, earlier, s.length_is)) in
        omega (arith, same, below)
    low k d h (inr from) = let same = at_end k d (omega (arith, h, from, longer)) in omega (arith, same, small)

    digit : (k d : ℕ) → k < count + 1 → (k < count) ⊎ (count ≤ k) → slice_get text (2 * k) ≡ Some (48 + slice_index_or new.items k d)
    digit k d h (inl earlier) = s.digits k d earlier ∙ ap (λ m. Some (48 + m)) (sym (as_before k d earlier))
    digit k d h (inr from) =
        let is : k ≡ count = omega (arith, h, from) in
        ap (λ m. slice_get text (2 * m)) is ∙ at ∙ ap (λ m. Some (48 + m)) (sym (at_end k d is))

-- the modes of a text are those that were read off it
pub all_read : (n : ℕ) (text : List ℕ) (so_far : SmallVec ℕ) (modes : List ℕ) → Started n n text so_far → IsOrder n modes
    → text ≡ mode_text modes → so_far.items ≡ modes
all_read n text so_far modes s order is = same_number_lists so_far.items modes (s.length_is
    ∙ sym order.count) (λ k h. agree n n text so_far modes k 0 s order is (omega arith) (omega (arith, h, s.length_is)))
