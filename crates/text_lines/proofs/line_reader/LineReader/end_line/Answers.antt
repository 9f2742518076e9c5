use Rattle.std.specs.Prelude.{◌≡◌, ℕ, ◌+◌, min, false, List, ◌∷◌, [], ◌++◌}
use Rattle.std.specs.Str.Lines.{strip_carriage_return}
use Rattle.std.proofs.Common.{arith, ap, sym, ◌∙◌}
use Rattle.text_lines.specs.Buffered.{count_of}
use Rattle.text_lines.specs.Cutting.{begun_line, has_long_line, told_lines}
use Rattle.text_lines.proofs.Buffering.{count_more}
use Rattle.text_lines.proofs.CuttingLaws.{begun_feed, short_feed, told_feed, take_strip}
use Rattle.text_lines.proofs.line_reader.LineReader.end_line.Goals as goal

short : (c : goal.After-extend) → has_long_line c.self.inside.fed.bytes ≡ false
short c = ap (λ v. has_long_line v.text) c.self.view_is ∙ c.requires.short

pub invariant_of-self : goal.invariant_of-self
invariant_of-self c =
    let text : List ℕ = c.self.inside.fed.bytes in
    record {
      room = omega (arith, c.self.invariant.room, c.truncate.ensures.capacity);
      fits = omega (arith, c.self.invariant.fits, c.truncate.ensures.len);
      count =
          c.saturating_add-self-inside.ensures
          ∙ ap (λ (n : ℕ). min (n + 1) 18446744073709551615) c.self.invariant.count
          ∙ count_more (told_lines text) (strip_carriage_return (begun_line text))
          ∙ ap count_of (sym (told_feed text (short c)))
          ∙ ap (λ bytes. count_of (told_lines bytes)) (sym c.extend.ensures);
      long = c.self.invariant.long ∙ short c ∙ sym (ap has_long_line c.extend.ensures ∙ short_feed text (short c));
      begun = λ _. sym (ap begun_line c.extend.ensures ∙ begun_feed text);
    }

pub returns-clause-tells : goal.returns-clause-tells
returns-clause-tells c =
    let text : List ℕ = c.self.inside.fed.bytes in
    let kept : c.self.inside.buffer.items ≡ begun_line text =
    ap (λ v. v.line) c.self.view_is ∙ c.requires.line ∙ sym (ap (λ v. begun_line v.text) c.self.view_is) in
    let line : c.truncate.new.self.items ≡ strip_carriage_return (begun_line text) =
    c.truncate.ensures.items
    ∙ take_strip c.self.inside.buffer.items _ _ c.without_return-length.ensures c.as_slice.ensures.value
    ∙ ap strip_carriage_return kept in
    record {
      told =
          ap told_lines c.extend.ensures
          ∙ told_feed text (short c)
          ∙ (λ i. told_lines (c.self.view_is i).text ++ sym line i ∷ []);
      ended = ap begun_line c.extend.ensures ∙ begun_feed text;
      short = ap has_long_line c.extend.ensures ∙ short_feed text (short c);
    }
