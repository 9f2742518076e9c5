use Rattle.std.proofs.Common.{subst}
use Rattle.level_core.specs.Entries.{one}
use Rattle.tensor_storage.specs.Levels.{IsAllowed}
use Rattle.tensor_storage.proofs.inserting.StorageLevelInsert.insert_coord.Goals as goal

pub insert_coord-requires-clause-parent : goal.insert_coord-requires-clause-parent
insert_coord-requires-clause-parent c = subst (λ l. IsAllowed l (one c.args.parent)) c.in-Dense.is c.requires.parent

pub insert_coord-requires-in-Hashed-clause-parent : goal.insert_coord-requires-in-Hashed-clause-parent
insert_coord-requires-in-Hashed-clause-parent c = subst (λ l. IsAllowed l (one c.args.parent)) c.in-Hashed.is c.requires.parent
