-- What a contract sees of a `Segment`, and of a `Twin`.
use Rattle.std.specs.Prelude.{ℕ, List, refl}
use Rattle.std.specs.Coded.{Coded, code_by, coded×, coded_list, coded_ℕ}

-- the elements, and how many more can be pushed before memory is wanted
pub record Buffer (X : Type 0) : Type 0 where
  pub items : List X
  pub spare : ℕ

module _ {X : Type 0} where
  abbrev pub buffer : List X → ℕ → Buffer X
  buffer xs n = record { items = xs; spare = n }

  abbrev pub buffer_code : Coded X → Coded (Buffer X)
  buffer_code c = code_by (List X × ℕ) (coded× (coded_list c) coded_ℕ) (λ b. (b.items, b.spare)) (λ p. buffer p.0 p.1) (λ _. refl)

-- the two lists, and how many more pairs can be pushed before memory is wanted
pub record Buffers (X Y : Type 0) : Type 0 where
  pub first : List X
  pub second : List Y
  pub spare : ℕ

module _ {X Y : Type 0} where
  abbrev pub buffers : List X → List Y → ℕ → Buffers X Y
  buffers xs ys n = record { first = xs; second = ys; spare = n }

  abbrev pub buffers_code : Coded X → Coded Y → Coded (Buffers X Y)
  buffers_code c d =
      code_by (List X × (List Y × ℕ)) (coded× (coded_list c) (coded× (coded_list d) coded_ℕ)) (λ b. (b.first, (b.second, b.spare)))
      (λ p. buffers p.0 p.1.0 p.1.1) (λ _. refl)
