use Rattle.std.specs.Prelude.{◌≡◌, IfSome, refl}
use Rattle.std.proofs.Common.{subst, get_or}
use Rattle.format_spec.specs.declared.format.FormatLevel.{FormatLevel}
use Rattle.level_core.specs.declared.letter.Letter.TheVariants.{Dense}
use Rattle.tensor_storage.proofs.EntryOrderLaws.{own_column}
use Rattle.tensor_storage.proofs.entries.lent_column.Goals as goal

none : FormatLevel
none = record { letter = Dense; mode = 0 }

pub returns : goal.returns
unfolding none
returns c =
    subst (λ xs. IfSome c.column.result (λ column. column.now ≡ xs))
    (own_column c.args.format.now c.args.entries.now.list c.args.level
    (get_or c.args.format.now c.args.level none).mode none c.if-level-format.false refl) c.column.ensures
