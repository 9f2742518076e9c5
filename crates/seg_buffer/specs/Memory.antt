-- What the rights to a block own, at elements of the row R.
--     row             places side by side, each with a value or with room for one
--     places_own      n places at p, of which the first hold xs
--     places_lent     what a `&` to those places holds
--     deed_owns       the allocator's token for the block, where there is one
use Rattle.std.specs.Prelude.{ℕ, zero, suc, ◌+◌, ◌-◌, ◌*◌, ◌^◌, List, [], ◌∷◌}
use Rattle.std.specs.Prelude.{◌++◌, map, replicate, length, Option, Some, None}
use Rattle.std.specs.Mem.{type_size}
use base.Fraction.{full_share}
use base.Fml.{Lft, Fml, ftrue, ffalse, fsep, flt, froom}
use mir.Syntax.{Ty, ty_array}
use mir.Raw.{raw}
use denote.RattleType.{RattleType}
use denote.Memory.{lone, part_at, shared_of}
use denote.Sharing.{nothing, said, beside}
use denote.RawPtr.{Ptr, block_ptr, null_ptr}

-- xs, and then as many empty places as make n
abbrev pub spread : {X : Type 0} → ℕ → List X → List (Option X)
spread n xs = map Some xs ++ replicate (n - length xs) None

module _ (R : RattleType) where
  -- one place, o bytes into the block b
  abbrev pub place : ℕ → ℕ → Option R.Denot → Fml
  place b o (Some x) = part_at R full_share x b o
  place b o None = froom (raw (lone R.mir)) b o

  abbrev pub row : ℕ → ℕ → List (Option R.Denot) → Fml
  row b o [] = ftrue
  row b o (c ∷ cs) = fsep (place b o c) (row b (o + type_size R) cs)

  -- n places take fewer than 2 ^ 63 bytes
  abbrev pub small : ℕ → Fml
  small n = flt (n * type_size R) (2 ^ 63)

  abbrev pub places_own : Ptr → ℕ → List R.Denot → Fml
  places_own (block_ptr b o) n xs = fsep (small n) (row b o (spread n xs))
  places_own null_ptr n xs = ffalse

  abbrev pub values_lent : ℕ → ℕ → List R.Denot → Lft → Fml
  values_lent b o [] = nothing
  values_lent b o (x ∷ xs) = beside (shared_of R x b o) (values_lent b (o + type_size R) xs)

  abbrev pub places_lent : Ptr → ℕ → List R.Denot → Lft → Fml
  places_lent (block_ptr b o) n xs = beside (said (small n)) (values_lent b o xs)
  places_lent null_ptr n xs = said ffalse

  abbrev pub deed_owns : (Ty → Ptr → Fml) → Ptr → ℕ → Fml
  deed_owns token p zero = ftrue
  deed_owns token p (suc n) = token (raw (ty_array (lone R.mir) (suc n))) p
