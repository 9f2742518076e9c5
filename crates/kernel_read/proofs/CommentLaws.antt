-- Comments in front of a text.
use Rattle.std.specs.Prelude.{◌≡◌, ℕ, zero, suc, ◌+◌, ◌≤◌, List, ◌++◌, codes, length, take, drop, Option, Some, None}
use Rattle.std.specs.Prelude.{MatchOption, refl}
use Rattle.std.proofs.Common.{◌∙◌, ap, sym, subst, arith}
use Rattle.std.proofs.lemmas.List.{length-drop}
use Rattle.kernel_read.specs.Feeds.{HasNoFeed}
use Rattle.kernel_read.specs.Kernels.{AreComments, HasNoComment, IsComment}
use Rattle.kernel_read.specs.Lines.{IsLine}
use Rattle.kernel_read.specs.Reading.{Stands}
use Rattle.kernel_read.proofs.LineCuts.{line_counts, no_line_in, take_both}

abbrev pub CommentFound : List ℕ → Option ℕ → Type 0
CommentFound text answer = MatchOption answer (HasNoComment text) (λ count. (count ≤ length text) × IsComment (take count text))

pub no_slashes : (text : List ℕ) → ((rest : List ℕ) → drop 0 text ≡ codes "//" ++ rest → ⊥) → HasNoComment text
no_slashes text none line behind comment same =
    none (comment.1.0 ++ behind) (same ∙ ap (λ (t : List ℕ). t ++ behind) comment.1.1)

two_slashes : (count : ℕ) (text rest : List ℕ) → text ≡ codes "//" ++ rest → IsLine (take count text)
    → (more : List ℕ) × (take count text ≡ codes "//" ++ more)
two_slashes zero text rest same line = absurd line
two_slashes (suc zero) text rest same line =
    absurd (other 47 (subst IsLine (ap (take 1) same) line) refl)
  where
    other : (n : ℕ) → n ≡ 10 → n ≡ 47 → ⊥
    other n is is' = omega (arith, is, is')
two_slashes (suc (suc n)) text rest same line = (take n rest, ap (take (suc (suc n))) same)

pub comment_found : (text : List ℕ) (next : ℕ) (answer : Option ℕ) → Stands text 0 (codes "//") next
    → MatchOption answer (HasNoFeed text) (λ count. (count ≤ length text) × IsLine (take count text)) → CommentFound text answer
comment_found text next None stands none = λ line behind comment same. no_line_in text line behind none comment.0 same
comment_found text next (Some count) stands found =
    (found.0, (found.1, two_slashes count text (drop next text) stands.goes_on found.1))

-- the comments read so far
pub record CommentsSoFar (text : List ℕ) (at lines : ℕ) : Type 0 where
  pub within : at ≤ length text
  pub few : lines ≤ at
  pub are : AreComments lines (take at text)

pub no_comments : (text : List ℕ) → CommentsSoFar text 0 0
no_comments text = record { within = omega arith; few = omega arith; are = refl }

pub comment_read : (text : List ℕ) (at lines count : ℕ) → CommentsSoFar text at lines
    → (count ≤ length (drop at text)) × IsComment (take count (drop at text)) → CommentsSoFar text (at + count) (lines + 1)
comment_read text at lines count so_far found =
    let left = length-drop at text in
    let within = so_far.within in
    let few = so_far.few in
    let fits = found.0 in
    let some = line_counts count (drop at text) found.1.0 in
    let one : lines + 1 ≡ suc lines = omega arith in record {
      within = omega (arith, left, within, fits);
      few = omega (arith, few, some);
      are =
          subst (λ (n : ℕ). AreComments n (take (at + count) text)) (sym one)
          (take at text, (take count (drop at text), (so_far.are, (found.1, take_both at count text within))));
    }

pub comment_step : (text rest : List ℕ) (at lines count : ℕ) → rest ≡ drop at text → CommentsSoFar text at lines
    → (count ≤ length rest) × IsComment (take count rest) → CommentsSoFar text (at + count) (lines + 1)
comment_step text rest at lines count is so_far found =
    comment_read text at lines count so_far
    (subst (λ (t : List ℕ). (count ≤ length t) × IsComment (take count t)) is found)
