-- What adding equal neighbours keeps, and that it leaves a sorted row increasing.
use Rattle.std.specs.Prelude.{◌≡◌, ℕ, true, false, cond, nat_eq, List, [], ◌∷◌, ◌⊎◌, ◌↔◌, refl}
use Rattle.std.specs.Cmp.Lexicographic.{pointwise}
use Rattle.std.proofs.Common.{ap, subst, sym, ◌∙◌, inl, inr}
use Rattle.numbers.specs.Arithmetic.{Arithmetic, Laws}
use Rattle.tensor_map.specs.Order.{IsBefore, IsBeforeAll}
use Rattle.tensor_map.proofs.OrderLaws.{before_trans}
use Rattle.tensor_map.specs.Entries.{Entry, coords_of, value_at, Listed, StrictlyIncreasing}
use Rattle.tensor_map.specs.Laws.{same, other}
use Rattle.tensor_map.proofs.Lemmas.{tested, value_here, value_elsewhere, value_cons}
use Rattle.tensor_map.specs.Summed.{joined, summed_from, summed}

-- the next entry has the same coordinates, or others
pub summed_same : (a : Arithmetic) (entry next : Entry) (others : List Entry) → pointwise nat_eq next.coords entry.coords ≡ true
    → summed_from a entry (next ∷ others) ≡ summed_from a (joined a entry next) others
summed_same a entry next others e = ap (λ b. cond b (summed_from a (joined a entry next) others) (entry ∷ summed_from a next others)) e

pub summed_other : (a : Arithmetic) (entry next : Entry) (others : List Entry) → pointwise nat_eq next.coords entry.coords ≡ false
    → summed_from a entry (next ∷ others) ≡ entry ∷ summed_from a next others
summed_other a entry next others e = ap (λ b. cond b (summed_from a (joined a entry next) others) (entry ∷ summed_from a next others)) e

module _ (a : Arithmetic) (laws : Laws a) where
  -- two entries of the same coordinates, and one with their sum
  value_joined : (coords : List ℕ) (entry next : Entry) (others : List Entry) → next.coords ≡ entry.coords
      → value_at a (joined a entry next ∷ others) coords ≡ value_at a (entry ∷ next ∷ others) coords
  value_joined coords entry next others is = elim (tested entry.coords coords) [
    | same here t ↦ (
        let t' : pointwise nat_eq next.coords coords ≡ true = ap (λ x. pointwise nat_eq x coords) is ∙ t in
        value_here a coords (joined a entry next) others t ∙ laws.plus_assoc entry.value next.value (value_at a others coords)
        ∙ sym (value_here a coords entry (next ∷ others) t ∙ ap (a.plus entry.value) (value_here a coords next others t')))
    | other away t ↦ (
        let t' : pointwise nat_eq next.coords coords ≡ false = ap (λ x. pointwise nat_eq x coords) is ∙ t in
        value_elsewhere a coords (joined a entry next) others t
        ∙ sym (value_elsewhere a coords entry (next ∷ others) t ∙ value_elsewhere a coords next others t'))
  ]

  pub value_summed_from : (coords : List ℕ) (entry : Entry) (others : List Entry)
      → value_at a (summed_from a entry others) coords ≡ value_at a (entry ∷ others) coords
  value_summed_from coords entry [] = refl
  value_summed_from coords entry (next ∷ others) = elim (tested next.coords entry.coords) [
    | same is t ↦ ap (λ es. value_at a es coords) (summed_same a entry next others t)
        ∙ value_summed_from coords (joined a entry next) others ∙ value_joined coords entry next others is
    | other isnt t ↦ ap (λ es. value_at a es coords) (summed_other a entry next others t)
        ∙ value_cons a laws coords entry (summed_from a next others) (next ∷ others) (value_summed_from coords next others)
  ]

  -- the value at each coordinate list stays
  pub value_summed : (entries : List Entry) (coords : List ℕ) → value_at a (summed a entries) coords ≡ value_at a entries coords
  value_summed [] coords = refl
  value_summed (entry ∷ others) coords = value_summed_from coords entry others

module _ (a : Arithmetic) where
  listed_from : (coords : List ℕ) (entry : Entry) (others : List Entry) → Listed (summed_from a entry others) coords
      → Listed (entry ∷ others) coords
  listed_from coords entry [] h = h
  listed_from coords entry (next ∷ others) h = elim (tested next.coords entry.coords) [
    | same is t ↦ (elim (listed_from coords (joined a entry next) others
        (subst (λ es. Listed es coords) (summed_same a entry next others t) h)) [
          | inl here ↦ inl here
          | inr more ↦ inr (inr more)
        ])
    | other isnt t ↦ (
        let h' : Listed (entry ∷ summed_from a next others) coords =
        subst (λ es. Listed es coords) (summed_other a entry next others t) h in
        elim h' [ inl here ↦ inl here | inr more ↦ inr (listed_from coords next others more) ])
  ]

  from_listed : (coords : List ℕ) (entry : Entry) (others : List Entry) → Listed (entry ∷ others) coords
      → Listed (summed_from a entry others) coords
  from_listed coords entry [] h = h
  from_listed coords entry (next ∷ others) h = elim (tested next.coords entry.coords) [
    | same is t ↦ (
        let kept : Listed (joined a entry next ∷ others) coords = elim h [
          | inl here ↦ inl here
          | inr there ↦ (elim there [ inl here ↦ inl (sym is ∙ here) | inr more ↦ inr more ])
        ] in
        subst (λ es. Listed es coords) (sym (summed_same a entry next others t)) (from_listed coords (joined a entry next) others kept))
    | other isnt t ↦ (
        let kept : Listed (entry ∷ summed_from a next others) coords = elim h [
          | inl here ↦ inl here
          | inr there ↦ inr (from_listed coords next others there)
        ] in
        subst (λ es. Listed es coords) (sym (summed_other a entry next others t)) kept)
  ]

  -- so do the listed coordinates
  pub listed_summed : (entries : List Entry) (coords : List ℕ) → Listed (summed a entries) coords ↔ Listed entries coords
  listed_summed [] coords = (λ h. h, λ h. h)
  listed_summed (entry ∷ others) coords = (listed_from coords entry others, from_listed coords entry others)

-- the coordinates are before those of each entry, or are theirs
abbrev pub IsNotAfterAll : List ℕ → List Entry → Type 0
IsNotAfterAll coords [] = Unit {0}
IsNotAfterAll coords (entry ∷ entries) = (IsBefore coords entry.coords ⊎ (coords ≡ entry.coords)) × IsNotAfterAll coords entries

-- no entry's coordinates are after those of a later one
abbrev pub NeverFalls : List Entry → Type 0
NeverFalls [] = Unit {0}
NeverFalls (entry ∷ entries) = IsNotAfterAll entry.coords entries × NeverFalls entries

-- before what is not after
before_then : (coords middle : List ℕ) (entries : List Entry) → IsBefore coords middle → IsNotAfterAll middle entries
    → IsBeforeAll coords (coords_of entries)
before_then coords middle [] before after = tt
before_then coords middle (entry ∷ entries) before after = (
  elim after.0 [
    | inl less ↦ before_trans coords middle entry.coords before less
    | inr is ↦ subst (IsBefore coords) is before
  ],
  before_then coords middle entries before after.1,
)

module _ (a : Arithmetic) where
  before_summed : (coords : List ℕ) (entry : Entry) (others : List Entry) → IsBefore coords entry.coords
      → IsBeforeAll coords (coords_of others) → IsBeforeAll coords (coords_of (summed_from a entry others))
  before_summed coords entry [] first more = (first, tt)
  before_summed coords entry (next ∷ others) first more = elim (tested next.coords entry.coords) [
    | same is t ↦ subst (λ es. IsBeforeAll coords (coords_of es)) (sym (summed_same a entry next others t))
        (before_summed coords (joined a entry next) others first more.1)
    | other isnt t ↦ subst (λ es. IsBeforeAll coords (coords_of es)) (sym (summed_other a entry next others t))
        (first, before_summed coords next others more.0 more.1)
  ]

  pub increasing_summed_from : (entry : Entry) (others : List Entry) → IsNotAfterAll entry.coords others → NeverFalls others
      → StrictlyIncreasing (summed_from a entry others)
  increasing_summed_from entry [] first rising = (tt, tt)
  increasing_summed_from entry (next ∷ others) first rising = elim (tested next.coords entry.coords) [
    | same is t ↦ subst StrictlyIncreasing (sym (summed_same a entry next others t))
        (increasing_summed_from (joined a entry next) others first.1 rising.1)
    | other isnt t ↦ (
        let before : IsBefore entry.coords next.coords = elim first.0 [ inl less ↦ less | inr is ↦ absurd (isnt (sym is)) ] in
        subst StrictlyIncreasing (sym (summed_other a entry next others t)) (
          before_summed entry.coords next others before
              (before_then entry.coords next.coords others before rising.0),
          increasing_summed_from next others rising.0 rising.1,
        ))
  ]

  -- a sorted row is then increasing
  pub increasing_summed : (entries : List Entry) → NeverFalls entries → StrictlyIncreasing (summed a entries)
  increasing_summed [] rising = tt
  increasing_summed (entry ∷ others) rising = increasing_summed_from entry others rising.0 rising.1
