-- What is known of the entries that a cursor goes over.
use Rattle.level_core.specs.declared.span.Span.{Span}
use Rattle.level_core.specs.Entries.{Tiles, Rising}
use Rattle.level_core.specs.Meaning.{Meaning}
use Rattle.level_cursors.specs.Cursors.{IsIterated}

-- below each parent that may be asked the children stand in a row, from where the segment begins to where it ends, and their
-- coordinates rise
pub record ChildrenFill {L : Type 0} (means : Meaning L) : Type 0 where
  pub tiles : (l : L) (parent : Span) → IsIterated (means.kind l) → means.allowed l parent
      → Tiles (means.segment_of l parent).lo (means.segment_of l parent).hi (means.entries l parent)
  pub rising : (l : L) (parent : Span) → IsIterated (means.kind l) → means.allowed l parent → Rising 0 (means.entries l parent)
