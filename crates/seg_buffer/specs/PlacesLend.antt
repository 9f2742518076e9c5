-- What the places hold once a `&mut` to their first values has ended.
use Rattle.std.specs.Prelude.{ℕ, List, ◌++◌, take, drop}
use Rattle.std.specs.Borrow.{Fml, RattleType, MutBor, Array, Lends}
use Rattle.std.specs.List.{refill}
use Rattle.seg_buffer.specs.declared.raw.Places.{Places}
use Rattle.seg_buffer.specs.contracts.raw.Places.{the_row}

-- p, whose first n values are those of ws
abbrev pub with_first : {X : Type 0} → Places X → ℕ → List X → Places X
with_first p n ws = record { mark = p.mark; at = p.at; room = p.room; values = refill n (take n p.values) ws ++ drop n p.values }

abbrev pub lends_first : (R : RattleType) → MutBor (Places R.Denot) → ℕ → MutBor (List R.Denot) → Fml
lends_first R p n r = Lends (the_row R) (Array R 0) p r (with_first p.now n)
