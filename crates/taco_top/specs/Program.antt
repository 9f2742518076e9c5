-- The words of the arguments that a system gave.
use Rattle.std.specs.Prelude.{List, [], Result, Ok, Err, String}
use Rattle.std.specs.declared.alloc.Global.{Global}
use Rattle.std.specs.declared.io.Error.{Error}
use Rattle.std.specs.declared.vec.IntoIter.{IntoIter}
use Rattle.std.specs.Vec.Iter.{into_iter_items}

-- all of them, in order; none where they can't be read, or one of them is no text
abbrev pub words_in : Result (IntoIter (String Global) Global) Error → List (String Global)
words_in (Ok args) = into_iter_items args
words_in (Err error) = []
