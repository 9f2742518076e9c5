-- Lemmas about bits of variables.
use Rattle.std.specs.Prelude.{◌≡◌, ◌≢◌, ℕ, ◌*◌, ◌<◌, ◌^◌, ◌%◌, max}
use Rattle.std.specs.Int.{bit_at}
use Rattle.std.proofs.Common.{◌∙◌, ap, sym, subst, arith, bit_or, w64}
use Rattle.std.proofs.lemmas.Nat.Bits.{bit_at_or, bit_at_set_same, bit_at_ones}
use Rattle.kernel_code.specs.declared.syntax.Op.{Op}
use Rattle.kernel_code.specs.declared.syntax.Arr.{Arr}
use Rattle.kernel_code.specs.declared.syntax.KExpr.{KExpr, Var, At, Bin, Min, Width}
use Rattle.kernel_code.specs.Keeps.{Mentions}
use Rattle.kernel_code.proofs.Keeps.{mentions_at, mentions_bin, mentions_min, mentions_width}
use Rattle.kernel_flow.specs.Steady.{Covers, IsReadOnly, IsWithin}

zero_one : ◌≡◌ {A = ℕ} 0 1 → ⊥
zero_one h = omega (arith, h)

below : (x : ℕ) → x % 64 < 64
below x = omega arith

first_zero : (p q : ℕ) → max p q ≡ 0 → p ≡ 0
first_zero p q h = omega (arith, h)

-- the bit of a variable beside those that were noted
abbrev with_bit : ℕ → ℕ → ℕ
with_bit noted x = bit_or noted (1 * 2 ^ (x % 64) % 2 ^ 64)

module _ (r : ℕ) (e : KExpr) where
  -- what covers an expression covers one equal to it
  pub covers_as : (d : KExpr) → e ≡ d → Covers r d → Covers r e
  covers_as d is h = subst (Covers r) (sym is) h

  pub covers_at : (a : Arr) (i j : KExpr) → e ≡ At a i → j ≡ i → IsReadOnly a → Covers r j → Covers r e
  covers_at a i j is same only h = covers_as (At a i) is
      (record {
        at = λ x clear.
            mentions_at (λ y. x ≢ y) IsReadOnly a i only (subst (Mentions (λ y. x ≢ y) IsReadOnly) same (h.at x clear));
      })

  pub covers_width : (d f : KExpr) → e ≡ Width d → f ≡ d → Covers r f → Covers r e
  covers_width d f is same h = covers_as (Width d) is
      (record {
        at = λ x clear. mentions_width (λ y. x ≢ y) IsReadOnly d (subst (Mentions (λ y. x ≢ y) IsReadOnly) same (h.at x clear));
      })

  pub covers_operator : (o : Op) (a b c d : KExpr) (first : ℕ) → e ≡ Bin o a b → c ≡ a → d ≡ b → Covers first c → IsWithin first r
      → Covers r d → Covers r e
  covers_operator o a b c d first is left right h within g = covers_as (Bin o a b) is
      (record {
        at = λ x clear.
            mentions_bin (λ y. x ≢ y) IsReadOnly o a b (subst (Mentions (λ y. x ≢ y) IsReadOnly) left (h.at x (within.at x clear)))
            (subst (Mentions (λ y. x ≢ y) IsReadOnly) right (g.at x clear));
      })

  pub covers_least : (a b c d : KExpr) (first : ℕ) → e ≡ Min a b → c ≡ a → d ≡ b → Covers first c → IsWithin first r
      → Covers r d → Covers r e
  covers_least a b c d first is left right h within g = covers_as (Min a b) is
      (record {
        at = λ x clear.
            mentions_min (λ y. x ≢ y) IsReadOnly a b (subst (Mentions (λ y. x ≢ y) IsReadOnly) left (h.at x (within.at x clear)))
            (subst (Mentions (λ y. x ≢ y) IsReadOnly) right (g.at x clear));
      })

pub covers_variable : (e : KExpr) (noted x : ℕ) → e ≡ Var x → Covers (with_bit noted x) e
covers_variable e noted x is = subst (Covers (with_bit noted x)) (sym is)
    (record {
      at = λ y h same.
          zero_one (sym h ∙ ap (λ z. bit_at (with_bit noted x) (z % 64)) same ∙ bit_at_set_same w64 noted (x % 64) (below x));
    })

every_bit : (x : ℕ) → bit_at 18446744073709551615 (x % 64) ≡ 0 → ⊥
every_bit x h = zero_one (sym h ∙ bit_at_ones 64 (x % 64) (below x))

pub covers_every : (e : KExpr) → Covers 18446744073709551615 e
covers_every e = record { at = λ x h. absurd (every_bit x h) }

pub within_every : (bits : ℕ) → IsWithin bits 18446744073709551615
within_every bits = record { at = λ x h. absurd (every_bit x h) }

pub within_variable : (noted x : ℕ) → IsWithin noted (with_bit noted x)
within_variable noted x = record {
  at = λ y clear.
      first_zero (bit_at noted (y % 64)) (bit_at (1 * 2 ^ (x % 64) % 2 ^ 64) (y % 64))
      (sym (bit_at_or noted (1 * 2 ^ (x % 64) % 2 ^ 64) (y % 64)) ∙ clear);
}

pub covers_within : (few more : ℕ) (e : KExpr) → IsWithin few more → Covers few e → Covers more e
covers_within few more e within h = record { at = λ x clear. h.at x (within.at x clear) }
