-- The entry lines that are still due, one after another.
use Rattle.std.specs.Prelude.{◌≡◌, ◌≢◌, ℕ, zero, suc, ◌-◌, ◌∷◌, replicate, refl}
use Rattle.std.proofs.Common.{arith, ap}
use Rattle.mtx_io.specs.Size.{Slot}

-- of some entries that are due one is the first
pub one_of_entries : (slot : Slot) (count : ℕ) → count ≢ 0 → replicate count slot ≡ slot ∷ replicate (count - 1) slot
one_of_entries slot zero some = absurd (some refl)
one_of_entries slot (suc count) some =
    let less : count ≡ suc count - 1 = omega arith in
    ap (λ n. slot ∷ replicate n slot) less
