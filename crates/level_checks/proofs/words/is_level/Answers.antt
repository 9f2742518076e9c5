use Rattle.std.specs.Prelude.{true, false}
use Rattle.level_checks.proofs.EachKind.{dense_same, decides, compressed_decided, singleton_decided, hashed_decided}
use Rattle.level_checks.proofs.words.is_level.Goals as goal

pub returns-in-Dense : goal.returns-in-Dense
returns-in-Dense c =
    let a = c.args in
    decides a.letter a.size a.parents a.words.now c.is_dense.result c.is_dense.ensures
    (dense_same a.letter a.size a.parents a.words.now c.in-Dense.is)

pub returns-in-Compressed : goal.returns-in-Compressed
returns-in-Compressed c =
    let a = c.args in
    compressed_decided a.letter a.size a.parents a.words.now true c.is_compressed.result c.as_slice-ends.result.now
    c.as_slice-coordinates.result.now c.in-Compressed.is c.as_slice-ends.ensures c.as_slice-coordinates.ensures c.is_compressed.ensures

pub returns-in-CompressedGroups : goal.returns-in-CompressedGroups
returns-in-CompressedGroups c =
    let a = c.args in
    compressed_decided a.letter a.size a.parents a.words.now false c.is_compressed-in-CompressedGroups.result c.as_slice-ends.result.now
    c.as_slice-coordinates.result.now c.in-CompressedGroups.is c.as_slice-ends.ensures c.as_slice-coordinates.ensures
    c.is_compressed-in-CompressedGroups.ensures

pub returns-in-Singleton : goal.returns-in-Singleton
returns-in-Singleton c =
    let a = c.args in
    singleton_decided a.letter a.size a.parents a.words.now true c.is_singleton.result c.as_slice-coordinates.result.now
    c.in-Singleton.is c.as_slice-coordinates.ensures c.is_singleton.ensures

pub returns-in-SingletonGroups : goal.returns-in-SingletonGroups
returns-in-SingletonGroups c =
    let a = c.args in
    singleton_decided a.letter a.size a.parents a.words.now false c.is_singleton-in-SingletonGroups.result
    c.as_slice-coordinates.result.now c.in-SingletonGroups.is c.as_slice-coordinates.ensures c.is_singleton-in-SingletonGroups.ensures

pub returns-in-Hashed : goal.returns-in-Hashed
returns-in-Hashed c =
    let a = c.args in
    hashed_decided a.letter a.size a.parents a.words.now c.is_hashed.result c.as_slice.result.now c.as_slice-coordinates.result.now
    c.in-Hashed.is c.as_slice.ensures c.as_slice-coordinates.ensures c.is_hashed.ensures
