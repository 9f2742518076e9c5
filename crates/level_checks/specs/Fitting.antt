-- How many positions a level has, by the words that a kernel left of it.
use Rattle.std.specs.Prelude.{ℕ, ◌*◌, if◌then◌else◌, length}
use Rattle.level_core.specs.declared.letter.Letter.{Letter}
use Rattle.level_core.specs.Kinds.{properties}
use Rattle.tensor_storage.specs.declared.words.LevelWords.{LevelWords}

-- a full level has each coordinate below each parent, any other level the positions that are stored
abbrev pub positions_by : Letter → ℕ → ℕ → LevelWords → ℕ
positions_by letter size parents words = if (properties letter).full then parents * size else length words.coordinates.items
