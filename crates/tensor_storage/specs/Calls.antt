-- The calls of a level that have code: when each may be asked for, and what its code does.
use Rattle.std.specs.Prelude.{◌≡◌, ℕ, List}
use Rattle.level_core.specs.declared.letter.Letter.{Letter}
use Rattle.level_core.specs.Codes.{SegmentCode, CoordCode, ChildCode, LocateCode, ReserveCode, AppendCode, EdgesCode}
use Rattle.level_core.specs.Codes.{PrepareCode, InsertCode}
use Rattle.level_core.specs.Fragments.{KExpr, KStmt, AreArguments}
use Rattle.level_core.specs.Meaning.{Meaning}
pub use Rattle.tensor_storage.specs.declared.kind.Call.{Call}
use Rattle.tensor_storage.specs.declared.kind.Call.TheVariants.{Segment, Coord, Child, Locate, Reserve, Append, Edges, Prepare, Insert}

-- the arguments that a call takes: what changes a level is code of the result alone, which is tensor 0
abbrev pub MayAsk : Call → ℕ → List KExpr → ℕ → Type 0
MayAsk Segment tensor args free = AreArguments 2 free args
MayAsk Coord tensor args free = AreArguments 1 free args
MayAsk Child tensor args free = AreArguments 3 free args
MayAsk Locate tensor args free = AreArguments 2 free args
MayAsk Reserve tensor args free = AreArguments 2 free args × (tensor ≡ 0)
MayAsk Append tensor args free = AreArguments 1 free args × (tensor ≡ 0)
MayAsk Edges tensor args free = AreArguments 3 free args × (tensor ≡ 0)
MayAsk Prepare tensor args free = AreArguments 2 free args × (tensor ≡ 0)
MayAsk Insert tensor args free = AreArguments 2 free args × (tensor ≡ 0)

-- what the code of a call does for every level of a kind
abbrev pub CallCode : {L : Type 0} → Call → Meaning L → Letter → ℕ → ℕ → List KExpr → ℕ → List KStmt → Type 0
CallCode Segment means letter tensor level args free code = SegmentCode means letter tensor level args free code
CallCode Coord means letter tensor level args free code = CoordCode means letter tensor level args free code
CallCode Child means letter tensor level args free code = ChildCode means letter tensor level args free code
CallCode Locate means letter tensor level args free code = LocateCode means letter tensor level args free code
CallCode Reserve means letter tensor level args free code = ReserveCode means letter tensor level args free code
CallCode Append means letter tensor level args free code = AppendCode means letter tensor level args free code
CallCode Edges means letter tensor level args free code = EdgesCode means letter tensor level args free code
CallCode Prepare means letter tensor level args free code = PrepareCode means letter tensor level args free code
CallCode Insert means letter tensor level args free code = InsertCode means letter tensor level args free code
