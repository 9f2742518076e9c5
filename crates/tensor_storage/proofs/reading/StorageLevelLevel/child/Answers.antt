use Rattle.std.specs.Prelude.{◌≡◌}
use Rattle.std.proofs.Common.{subst, sym}
use Rattle.level_core.specs.declared.span.Span.{Span}
use Rattle.level_core.specs.declared.span.Entry.{Entry}
use Rattle.level_core.specs.Entries.{StandsAt}
use Rattle.tensor_storage.specs.Levels.{IsAllowed, segment_of, entries_of}
use Rattle.tensor_storage.proofs.reading.StorageLevelLevel.child.Goals as goal

pub child-requires : goal.child-requires
child-requires c = subst (λ l. (parent : Span) × (e : Entry) × IsAllowed l parent × (segment_of l parent ≡ c.args.segment)
    × StandsAt c.args.pos e (entries_of l parent)) c.in-Dense.is c.requires

pub child-requires-in-Compressed : goal.child-requires-in-Compressed
child-requires-in-Compressed c =
    subst (λ l. (parent : Span) × (e : Entry) × IsAllowed l parent × (segment_of l parent ≡ c.args.segment)
    × StandsAt c.args.pos e (entries_of l parent)) c.in-Compressed.is c.requires

pub child-requires-in-Singleton : goal.child-requires-in-Singleton
child-requires-in-Singleton c =
    subst (λ l. (parent : Span) × (e : Entry) × IsAllowed l parent × (segment_of l parent ≡ c.args.segment)
    × StandsAt c.args.pos e (entries_of l parent)) c.in-Singleton.is c.requires

pub child-requires-in-Hashed : goal.child-requires-in-Hashed
child-requires-in-Hashed c = subst (λ l. (parent : Span) × (e : Entry) × IsAllowed l parent × (segment_of l parent ≡ c.args.segment)
    × StandsAt c.args.pos e (entries_of l parent)) c.in-Hashed.is c.requires

pub returns-in-Dense : goal.returns-in-Dense
returns-in-Dense c = subst (λ l. (parent : Span) (e : Entry) → IsAllowed l parent → segment_of l parent ≡ c.args.segment
    → StandsAt c.args.pos e (entries_of l parent) → c.child.result ≡ e.child) (sym c.in-Dense.is) c.child.ensures

pub returns-in-Compressed : goal.returns-in-Compressed
returns-in-Compressed c = subst (λ l. (parent : Span) (e : Entry) → IsAllowed l parent → segment_of l parent ≡ c.args.segment
    → StandsAt c.args.pos e (entries_of l parent) → c.child-in-Compressed.result
    ≡ e.child) (sym c.in-Compressed.is) c.child-in-Compressed.ensures

pub returns-in-Singleton : goal.returns-in-Singleton
returns-in-Singleton c = subst (λ l. (parent : Span) (e : Entry) → IsAllowed l parent → segment_of l parent ≡ c.args.segment
    → StandsAt c.args.pos e (entries_of l parent) → c.child-in-Singleton.result
    ≡ e.child) (sym c.in-Singleton.is) c.child-in-Singleton.ensures

pub returns-in-Hashed : goal.returns-in-Hashed
returns-in-Hashed c = subst (λ l. (parent : Span) (e : Entry) → IsAllowed l parent → segment_of l parent ≡ c.args.segment
    → StandsAt c.args.pos e (entries_of l parent) → c.child-in-Hashed.result ≡ e.child) (sym c.in-Hashed.is) c.child-in-Hashed.ensures
