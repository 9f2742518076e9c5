use Rattle.std.specs.Prelude.{◌≡◌, true}
use Rattle.std.proofs.Common.{ap, sym, ◌∙◌}
use Rattle.text_lines.specs.Buffered.{count_of}
use Rattle.text_lines.specs.Cutting.{has_long_line, told_lines}
use Rattle.text_lines.proofs.CuttingLaws.{long_stays}
use Rattle.text_lines.proofs.line_reader.LineReader.pass_over.Goals as goal

long : (c : goal.After-extend) → has_long_line c.self.inside.fed.bytes ≡ true
long c = ap (λ v. has_long_line v.text) c.self.view_is ∙ c.requires

pub invariant_of-self : goal.invariant_of-self
invariant_of-self c =
    let stays = long_stays c.self.inside.fed.bytes c.args.rest.now (long c) in
    record {
      room = c.self.invariant.room;
      fits = c.self.invariant.fits;
      count = c.self.invariant.count ∙ ap count_of (sym stays.1) ∙ ap (λ bytes. count_of (told_lines bytes)) (sym c.extend.ensures);
      long = c.self.invariant.long ∙ long c ∙ sym (ap has_long_line c.extend.ensures ∙ stays.0);
      begun = λ short. let is = sym c.self.invariant.long ∙ short in absurd (cc (long c, is));
    }

pub returns-clause-long : goal.returns-clause-long
returns-clause-long c =
    let stays = long_stays c.self.inside.fed.bytes c.args.rest.now (long c) in
    record {
      told = ap told_lines c.extend.ensures ∙ stays.1 ∙ ap (λ v. told_lines v.text) c.self.view_is;
      long = ap has_long_line c.extend.ensures ∙ stays.0;
    }
