-- Accesses that stand in the part that remains wherever they are present.
use Rattle.std.specs.Prelude.{◌≡◌, ℕ, Bool, true}
use Rattle.index_notation.specs.declared.syntax.Expr.{Expr}
use Rattle.loop_code.specs.declared.loops.LoopCode.{LoopCode}
use Rattle.loop_code.specs.Parts.{remains, is_live, remains_below, is_live_below}

-- wherever the access is present, it stands in the part that remains
abbrev pub StandsAlone : ℕ → Expr → Type 0
StandsAlone k e = (P : ℕ → Bool) → P k ≡ true → is_live P e k ≡ true

abbrev pub StandsAloneBelow : ℕ → LoopCode → Type 0
StandsAloneBelow k loops = (P : ℕ → Bool) → P k ≡ true → is_live_below P loops k ≡ true

-- the same wherever some part remains
abbrev pub StaysIn : ℕ → Expr → Type 0
StaysIn k e = (P : ℕ → Bool) → remains P e ≡ true → P k ≡ true → is_live P e k ≡ true

abbrev pub StaysBelow : ℕ → LoopCode → Type 0
StaysBelow k loops = (P : ℕ → Bool) → remains_below P loops ≡ true → P k ≡ true → is_live_below P loops k ≡ true
