use Rattle.std.specs.Prelude.{◌≡◌}
use Rattle.std.proofs.Common.{subst, sym}
use Rattle.level_core.specs.declared.span.Span.{Span}
use Rattle.level_core.specs.Entries.{IsIn, coord_at}
use Rattle.tensor_storage.specs.Levels.{IsAllowed, segment_of, entries_of}
use Rattle.tensor_storage.proofs.reading.StorageLevelLevel.coord.Goals as goal

pub coord-requires : goal.coord-requires
coord-requires c = subst (λ l. (parent : Span) × IsAllowed l parent × IsIn c.args.pos (segment_of l parent)) c.in-Dense.is c.requires

pub coord-requires-in-Compressed : goal.coord-requires-in-Compressed
coord-requires-in-Compressed c = subst (λ l. (parent : Span) × IsAllowed l parent × IsIn c.args.pos (segment_of l parent))
    c.in-Compressed.is c.requires

pub coord-requires-in-Singleton : goal.coord-requires-in-Singleton
coord-requires-in-Singleton c = subst (λ l. (parent : Span) × IsAllowed l parent × IsIn c.args.pos (segment_of l parent)) c.in-Singleton.is
    c.requires

pub coord-requires-in-Hashed : goal.coord-requires-in-Hashed
coord-requires-in-Hashed c = subst (λ l. (parent : Span) × IsAllowed l parent × IsIn c.args.pos (segment_of l parent)) c.in-Hashed.is
    c.requires

pub returns-in-Dense : goal.returns-in-Dense
returns-in-Dense c = subst (λ l. (parent : Span) → IsAllowed l parent → IsIn c.args.pos (segment_of l parent)
    → c.coord.result ≡ coord_at (entries_of l parent) c.args.pos) (sym c.in-Dense.is) c.coord.ensures

pub returns-in-Compressed : goal.returns-in-Compressed
returns-in-Compressed c = subst (λ l. (parent : Span) → IsAllowed l parent → IsIn c.args.pos (segment_of l parent)
    → c.coord-in-Compressed.result ≡ coord_at (entries_of l parent) c.args.pos) (sym c.in-Compressed.is) c.coord-in-Compressed.ensures

pub returns-in-Singleton : goal.returns-in-Singleton
returns-in-Singleton c = subst (λ l. (parent : Span) → IsAllowed l parent → IsIn c.args.pos (segment_of l parent)
    → c.coord-in-Singleton.result ≡ coord_at (entries_of l parent) c.args.pos) (sym c.in-Singleton.is) c.coord-in-Singleton.ensures

pub returns-in-Hashed : goal.returns-in-Hashed
returns-in-Hashed c = subst (λ l. (parent : Span) → IsAllowed l parent → IsIn c.args.pos (segment_of l parent)
    → c.coord-in-Hashed.result ≡ coord_at (entries_of l parent) c.args.pos) (sym c.in-Hashed.is) c.coord-in-Hashed.ensures
