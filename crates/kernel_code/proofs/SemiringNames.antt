-- What a kernel tells of a semiring.
use Rattle.std.specs.Prelude.{◌≡◌, ℕ, Bool, true, false, List, refl}
use Rattle.numbers.specs.Names.{IsName}
use Rattle.kernel_code.specs.declared.syntax.KernelSemiring.TheVariants.{Ring}
use Rattle.kernel_code.specs.Semirings.{semiring_of, HasName}

-- its name has letters alone
pub has_name : (is_ring : Bool) (name : List ℕ) → IsName name → HasName (semiring_of is_ring name)
has_name true name is = tt
has_name false name is = is

-- only the ring goes without a name
pub is_the_ring : (is_ring : Bool) (name : List ℕ) → semiring_of is_ring name ≡ Ring → is_ring ≡ true
is_the_ring true name same = refl
is_the_ring false name same = cc
