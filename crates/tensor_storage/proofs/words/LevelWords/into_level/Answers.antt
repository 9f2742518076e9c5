use Rattle.std.proofs.Common.{true, false}
use Rattle.tensor_storage.proofs.Handed.{summed_here, single_here, hashed_here, summed_alike, single_alike, hashed_alike}
use Rattle.tensor_storage.proofs.OneKind.{ok_then}
use Rattle.tensor_storage.proofs.words.LevelWords.into_level.Goals as goal

pub compressed_of-requires : goal.compressed_of-requires
compressed_of-requires c =
    let a = c.args in
    let here = summed_here a.letter a.size a.parents a.self true c.requires.handed.0 c.in-Compressed.is c.requires.handed.1 in
    (a.parents, here.0, here.2)

pub compressed_of-requires-in-CompressedGroups : goal.compressed_of-requires-in-CompressedGroups
compressed_of-requires-in-CompressedGroups c =
    let a = c.args in
    let here = summed_here a.letter a.size a.parents a.self false c.requires.handed.0 c.in-CompressedGroups.is c.requires.handed.1 in
    (a.parents, here.0, here.2)

pub singleton_of-requires : goal.singleton_of-requires
singleton_of-requires c =
    let a = c.args in
    let here = single_here a.letter a.size a.parents a.self true c.requires.handed.0 c.in-Singleton.is c.requires.handed.1 in
    (a.parents, here.0, here.2)

pub singleton_of-requires-in-SingletonGroups : goal.singleton_of-requires-in-SingletonGroups
singleton_of-requires-in-SingletonGroups c =
    let a = c.args in
    let here = single_here a.letter a.size a.parents a.self false c.requires.handed.0 c.in-SingletonGroups.is c.requires.handed.1 in
    (a.parents, here.0, here.2)

pub hashed_of-requires : goal.hashed_of-requires
hashed_of-requires c =
    let a = c.args in
    let here = hashed_here a.letter a.size a.parents a.self c.requires.handed.0 c.in-Hashed.is c.requires.handed.1 in
    (here.0, here.2)

pub returns-in-Compressed-clause-alike : goal.returns-in-Compressed-clause-alike
returns-in-Compressed-clause-alike c =
    let a = c.args in
    ok_then c.compressed_of.result
    (λ made is l h. summed_alike a.letter a.size a.parents a.self true made l is.0 c.in-Compressed.is is.1 h) c.compressed_of.ensures

pub returns-in-CompressedGroups-clause-alike : goal.returns-in-CompressedGroups-clause-alike
returns-in-CompressedGroups-clause-alike c =
    let a = c.args in
    ok_then c.compressed_of-in-CompressedGroups.result
    (λ made is l h. summed_alike a.letter a.size a.parents a.self false made l is.0 c.in-CompressedGroups.is is.1 h)
    c.compressed_of-in-CompressedGroups.ensures

pub returns-in-Singleton-clause-alike : goal.returns-in-Singleton-clause-alike
returns-in-Singleton-clause-alike c =
    let a = c.args in
    ok_then c.singleton_of.result
    (λ made is l h. single_alike a.letter a.size a.parents a.self true made l is.0 c.in-Singleton.is is.1 h) c.singleton_of.ensures

pub returns-in-SingletonGroups-clause-alike : goal.returns-in-SingletonGroups-clause-alike
returns-in-SingletonGroups-clause-alike c =
    let a = c.args in
    ok_then c.singleton_of-in-SingletonGroups.result
    (λ made is l h. single_alike a.letter a.size a.parents a.self false made l is.0 c.in-SingletonGroups.is is.1 h)
    c.singleton_of-in-SingletonGroups.ensures

pub returns-in-Hashed-clause-alike : goal.returns-in-Hashed-clause-alike
returns-in-Hashed-clause-alike c =
    let a = c.args in
    λ l h. hashed_alike a.letter a.size a.parents a.self c.hashed_of.result l c.in-Hashed.is c.hashed_of.ensures h
