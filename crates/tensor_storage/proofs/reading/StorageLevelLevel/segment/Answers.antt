use Rattle.std.proofs.Common.{subst}
use Rattle.tensor_storage.specs.Levels.{IsAllowed}
use Rattle.tensor_storage.proofs.reading.StorageLevelLevel.segment.Goals as goal

pub segment-requires : goal.segment-requires
segment-requires c = subst (λ l. IsAllowed l c.args.parent) c.in-Dense.is c.requires

pub segment-requires-in-Compressed : goal.segment-requires-in-Compressed
segment-requires-in-Compressed c = subst (λ l. IsAllowed l c.args.parent) c.in-Compressed.is c.requires

pub segment-requires-in-Singleton : goal.segment-requires-in-Singleton
segment-requires-in-Singleton c = subst (λ l. IsAllowed l c.args.parent) c.in-Singleton.is c.requires

pub segment-requires-in-Hashed : goal.segment-requires-in-Hashed
segment-requires-in-Hashed c = subst (λ l. IsAllowed l c.args.parent) c.in-Hashed.is c.requires
