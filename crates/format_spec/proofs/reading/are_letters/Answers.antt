use Rattle.std.specs.Prelude.{◌↔◌, ℕ, ◌<◌, Bool, true, false, List, length, IsTrue, MatchBool, refl}
use Rattle.std.proofs.Common.{rules}
use Rattle.std.proofs.lemmas.Bool.{false≢true}
use Rattle.std.proofs.lemmas.Iterator.{cases_from_all, YieldsList-from_slice}
use Rattle.std.specs.List.{AllWithin, HoldsAt}
use borrow.Author.Tests.{tests}
use Rattle.level_core.specs.declared.letter.Letter.{Letter}
use Rattle.format_spec.specs.Words.{AreLetters}
use Rattle.format_spec.proofs.Letters.{IsLetter, IsNoLetter, each_named, one_unnamed}
use Rattle.format_spec.proofs.reading.are_letters.Goals as goal

told : (letters : List ℕ) (r : Bool)
    → MatchBool r (AllWithin IsLetter letters 0 (length letters)) ((k : ℕ) × (k < length letters) × HoldsAt IsNoLetter letters k)
    → IsTrue r ↔ ((kinds : List Letter) × AreLetters letters kinds)
told letters true all = (λ _. each_named letters all, λ _. refl)
told letters false some = (λ no. absurd (false≢true no), λ are. absurd (one_unnamed letters are.0 some.0 some.1 (some.2 0) are.1))

pub returns : goal.returns
returns c = told c.args.letters.now c.all.result
    (cases_from_all _ _ _ IsLetter IsNoLetter c.all.ensures.ran (YieldsList-from_slice c.args.letters.now cc)
    (λ x q k. search (rules, tests)) (λ x q k. search (rules, tests)))
