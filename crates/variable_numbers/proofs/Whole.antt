-- Lemmas about whole kernels.
use Rattle.std.specs.Prelude.{◌≡◌, ℕ, List, refl}
use Rattle.std.proofs.Common.{subst}
use Rattle.kernel_code.specs.declared.syntax.Kernel.{Kernel}
use Rattle.kernel_code.specs.declared.syntax.KStmt.{KStmt}
use Rattle.simplifier.specs.Refines.{AnyState, RefinesKernel}
use Rattle.dead_code.specs.Follows.{Follows}
use Rattle.dead_code.proofs.Whole.{kernel_follows}
use Rattle.variable_numbers.specs.Numbers.{Renamed}

-- a kernel whose code is numbered
pub kernel_numbered : (k : Kernel) (names : List ℕ) (held body : List KStmt) → held ≡ k.body
    → Follows (Renamed names) held body (Renamed names) → RefinesKernel AnyState (record k { body = body }) k
kernel_numbered k names held body is p =
    kernel_follows (Renamed names) (Renamed names) k body (record { at = λ x i h. refl })
    (subst (λ xs. Follows (Renamed names) xs body (Renamed names)) is p)
