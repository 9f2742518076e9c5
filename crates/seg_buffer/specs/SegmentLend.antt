-- What a segment holds once a `&mut` to its elements has ended.
use Rattle.std.specs.Prelude.{List, length}
use Rattle.std.specs.Borrow.{Fml, RattleType, MutBor, Array, Lends}
use Rattle.std.specs.List.{refill}
use Rattle.seg_buffer.specs.Buffer.{Buffer, buffer}
use Rattle.seg_buffer.specs.contracts.segment.Segment.{the_row}

-- the elements are the last ones written through r
abbrev pub lends_elements : (R : RattleType) → MutBor (Buffer R.Denot) → MutBor (List R.Denot) → Fml
lends_elements R s r = Lends (the_row R) (Array R 0) s r (λ ws. buffer (refill (length s.now.items) s.now.items ws) s.now.spare)
