use Rattle.std.proofs.Common.{◌∙◌, refl}
use Rattle.kernel_code.specs.declared.syntax.Arr.TheVariants.{Ends, Width, Coordinates}
use Rattle.kernel_machine.proofs.HandedParts.{apart}
use Rattle.kernel_machine.proofs.handing.taken_words.Goals as goal

pub returns-clause-words : goal.returns-clause-words
returns-clause-words c =
    let level = c.args.level in
    record {
      ends = λ xs is. c.taken_array-ends.ensures.words xs is;
      width = λ xs is. c.taken_array-width.ensures.words xs (c.taken_array-ends.ensures.others (Width 0 level) refl ∙ is);
      coordinates = λ xs is.
          c.taken_array-coordinates.ensures.words xs
          (c.taken_array-width.ensures.others (Coordinates 0 level) refl ∙ c.taken_array-ends.ensures.others (Coordinates 0 level) refl
          ∙ is);
    }

pub returns-clause-others : goal.returns-clause-others
returns-clause-others c =
    let level = c.args.level in
    λ b not.
    c.taken_array-coordinates.ensures.others b (apart (Coordinates 0 level) b level (refl, refl) not)
    ∙ c.taken_array-width.ensures.others b (apart (Width 0 level) b level (refl, refl) not)
    ∙ c.taken_array-ends.ensures.others b (apart (Ends 0 level) b level (refl, refl) not)
