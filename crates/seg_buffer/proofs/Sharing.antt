-- A `&` to the places can be made where a `&` to each value can. Assumes `Logic`.
use Prim.Native.Nat.{ℕ, ◌+◌, ◌-◌}
use Rattle.std.specs.Prelude.{List, [], ◌∷◌, ◌++◌, map, replicate, length, Option, Some, None}
use Rattle.std.specs.Mem.{type_size}
use seplogic.Ra.Ura.{Ura}
use base.Fml.{Lft, Incl, ffalse}
use types.Logic.{Logic}
use denote.RattleType.{RattleType, RowLaws}
use denote.Param.Laws.{Laws}
use denote.RawPtr.{Ptr, block_ptr, null_ptr}
use denote.Sharing.{ShrLaws, said}
use denote.SharingLaws.{beside_shr_laws, nothing_shr_laws, said_shr_laws}
use denote.Memory.{shared_of}
use denote.Shares.{Shares-less}
use denote.Struct.Lending.{Lends, Lends-both, Lends-nothing, Lends-said, Lends-false}
use Rattle.seg_buffer.specs.Memory.{place, row, small, spread, places_own, places_lent, values_lent}

module _ (R : RattleType) (L : RowLaws R) where
  values_lent_laws : (b o : ℕ) (xs : List R.Denot) → ShrLaws (values_lent R b o xs)
  values_lent_laws b o [] = nothing_shr_laws
  values_lent_laws b o (x ∷ xs) = beside_shr_laws _ _ (L x b o) (values_lent_laws b (o + type_size R) xs)

  pub places_lent_laws : (p : Ptr) (n : ℕ) (xs : List R.Denot) → ShrLaws (places_lent R p n xs)
  places_lent_laws (block_ptr b o) n xs = beside_shr_laws _ _ (said_shr_laws (small R n) tt) (values_lent_laws b o xs)
  places_lent_laws null_ptr n xs = said_shr_laws ffalse tt

module _ {M : Type 1} {𝓤 : Ura M} (𝓛 : Logic 𝓤) (l : Lft) (R : RattleType) (L : Laws R) (inc : Incl l R.lives) where
  -- the values come first in the row, and the rest of it lends nothing
  Lends-values : (b o : ℕ) (xs : List R.Denot) (rest : List (Option R.Denot))
      → Lends 𝓛 (row R b o (map Some xs ++ rest)) (values_lent R b o xs) l
  Lends-values b o [] rest = Lends-nothing 𝓛 (row R b o rest) l
  Lends-values b o (x ∷ xs) rest =
      let next = o + type_size R in
      Lends-both 𝓛 (place R b o (Some x)) (row R b next (map Some xs ++ rest)) (shared_of R x b o) (values_lent R b next xs) l
      (λ κ ts. Shares-less 𝓛 R R.lives l inc (L.shares 𝓛) x κ ts b o) (Lends-values b next xs rest)

  pub Lends-places : (p : Ptr) (n : ℕ) (xs : List R.Denot) → Lends 𝓛 (places_own R p n xs) (places_lent R p n xs) l
  Lends-places (block_ptr b o) n xs =
      Lends-both 𝓛 (small R n) (row R b o (spread n xs)) (said (small R n)) (values_lent R b o xs) l (Lends-said 𝓛 (small R n) tt l)
      (Lends-values b o xs (replicate (n - length xs) None))
  Lends-places null_ptr n xs = Lends-false 𝓛 (said ffalse) l
