use Rattle.tensor_storage.specs.Laws.{compressed_kind, dense_kind, hashed_kind, singleton_kind}
use Rattle.tensor_storage.proofs.OneKind.{code_told}
use Rattle.tensor_storage.proofs.kind.code_in.Goals as goal

pub returns-in-Dense : goal.returns-in-Dense
returns-in-Dense c = let a = c.args in
    code_told dense_kind c.in-Dense.is _ a.call a.tensor a.level a.free a.args.now c.code_of.ensures

pub returns-in-Compressed : goal.returns-in-Compressed
returns-in-Compressed c = let a = c.args in
    code_told compressed_kind c.in-Compressed.is _ a.call a.tensor a.level a.free a.args.now c.code_of-in-Compressed.ensures

pub returns-in-Singleton : goal.returns-in-Singleton
returns-in-Singleton c = let a = c.args in
    code_told singleton_kind c.in-Singleton.is _ a.call a.tensor a.level a.free a.args.now c.code_of-in-Singleton.ensures

pub returns-in-Hashed : goal.returns-in-Hashed
returns-in-Hashed c = let a = c.args in
    code_told hashed_kind c.in-Hashed.is _ a.call a.tensor a.level a.free a.args.now c.code_of-in-Hashed.ensures
