-- The letters of a type of level that coordinates are appended to: one where each stands once below a parent, and one where
-- equal ones are a group.
use Rattle.std.specs.Prelude.{Bool, true, false}
use Rattle.level_core.specs.declared.letter.Letter.{Letter}

abbrev pub letter_by : Letter → Letter → Bool → Letter
letter_by single groups true = single
letter_by single groups false = groups
