-- The first tensor of a name.
use Rattle.std.specs.Prelude.{◌≡◌, ℕ, zero, suc, ◌+◌, ◌<◌, ◌≤◌, Bool, true, false, if◌then◌else◌, List, [], ◌∷◌, length, refl}
use Rattle.std.proofs.Common.{◌∙◌, sym, ap, subst, arith}
use Rattle.index_notation.specs.declared.syntax.Name.{Name}
use Rattle.index_notation.specs.Numbering.{is_same, place_of}
use Rattle.index_notation.proofs.NumberingLaws.{same_self}
use Rattle.bindings.specs.Names.{name_at}
use Rattle.bindings.specs.Outcome.{first_named}

-- it stands no later than each tensor of that name
pub first_before : (names : List Name) (tensor : ℕ) → tensor < length names → first_named names tensor ≤ tensor
first_before [] tensor h = absurd (omega (arith, h))
first_before (name ∷ names) zero h =
    let same : is_same name name ≡ true = same_self name in
    let none : first_named (name ∷ names) zero ≡ 0 = ap (λ b. if b then 0 else place_of names name + 1) same in
    omega (arith, none)
first_before (name ∷ names) (suc n) h = by (is_same name there) (first_before names n (omega (arith, h)))
  where
    there : Name
    there = record { bytes = name_at names n }

    by : (b : Bool) → first_named names n ≤ n → (if b then 0 else place_of names there + 1) ≤ suc n
    by true before = omega arith
    by false before = omega (arith, before)

pub first_within : (names : List Name) (tensor : ℕ) → tensor < length names → first_named names tensor < length names
first_within names tensor h = let before = first_before names tensor h in omega (arith, before, h)
