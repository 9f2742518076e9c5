use Rattle.std.proofs.Common.{subst}
use Rattle.level_core.specs.Entries.{one}
use Rattle.tensor_storage.specs.Levels.{IsAllowed}
use Rattle.tensor_storage.proofs.reading.StorageLevelLevel.locate.Goals as goal

pub locate-requires : goal.locate-requires
locate-requires c = subst (λ l. IsAllowed l (one c.args.parent)) c.in-Dense.is c.requires

pub locate-requires-in-Compressed : goal.locate-requires-in-Compressed
locate-requires-in-Compressed c = subst (λ l. IsAllowed l (one c.args.parent)) c.in-Compressed.is c.requires

pub locate-requires-in-Singleton : goal.locate-requires-in-Singleton
locate-requires-in-Singleton c = subst (λ l. IsAllowed l (one c.args.parent)) c.in-Singleton.is c.requires

pub locate-requires-in-Hashed : goal.locate-requires-in-Hashed
locate-requires-in-Hashed c = subst (λ l. IsAllowed l (one c.args.parent)) c.in-Hashed.is c.requires
