use Rattle.taco_top.proofs.UsageLaws.{usage_told, usage_found}
use Rattle.taco_top.proofs.laws.usage_is_of_words_alone.Goals as goal

pub returns-clause-told : goal.returns-clause-told
returns-clause-told c = usage_told

pub returns-clause-found : goal.returns-clause-found
returns-clause-found c = usage_found
