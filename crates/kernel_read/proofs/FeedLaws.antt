-- Where a line of a text ends.
use Rattle.std.specs.Prelude.{◌≡◌, ◌≢◌, ℕ, zero, suc, ◌+◌, ◌<◌, ◌≤◌, List, [], ◌∷◌, length, take, get_or}
use Rattle.std.proofs.Common.{subst, arith}
use Rattle.kernel_read.specs.Feeds.{HasNoFeed}
use Rattle.kernel_read.specs.Lines.{IsLine}

no_feed_more : (text : List ℕ) (i : ℕ) → i < length text → HasNoFeed (take i text) → get_or text i 0 ≢ 10 → HasNoFeed (take (suc i) text)
no_feed_more [] i h none other = absurd (omega (arith, h))
no_feed_more (byte ∷ text) zero h none other = (other, tt)
no_feed_more (byte ∷ text) (suc i) h none other = (none.0, no_feed_more text i (omega (arith, h)) none.1 other)

line_ends : (text : List ℕ) (i : ℕ) → i < length text → HasNoFeed (take i text) → get_or text i 0 ≡ 10 → IsLine (take (suc i) text)
line_ends [] i h none feed = absurd (omega (arith, h))
line_ends (byte ∷ text) zero h none feed = feed
line_ends (byte ∷ []) (suc i) h none feed = absurd (omega (arith, h))
line_ends (byte ∷ next ∷ text) (suc i) h none feed = (none.0, line_ends (next ∷ text) i (omega (arith, h)) none.1 feed)

next_is : (i : ℕ) → suc i ≡ i + 1
next_is i = omega arith

pub no_feed_next : (text : List ℕ) (i : ℕ) → i < length text → HasNoFeed (take i text) → (get_or text i 0 ≡ 10 → ⊥)
    → HasNoFeed (take (i + 1) text)
no_feed_next text i h none other = subst (λ n. HasNoFeed (take n text)) (next_is i) (no_feed_more text i h none other)

pub line_here : (text : List ℕ) (i : ℕ) → i < length text → HasNoFeed (take i text) → get_or text i 0 ≡ 10
    → (i + 1 ≤ length text) × IsLine (take (i + 1) text)
line_here text i h none feed =
    (omega (arith, h), subst (λ n. IsLine (take n text)) (next_is i) (line_ends text i h none feed))
