-- That a draft goes on with exactly the lines with which the text of a kernel goes on.
use Rattle.std.specs.Prelude.{◌≡◌, ℕ, suc, ◌+◌, ◌≤◌, ◌⊎◌, Bool, true, false, List, [], ◌∷◌, ◌++◌, codes, drop, length, refl}
use Rattle.std.specs.Prelude.{Option, Some, None, Result, Ok, Err, IfOk}
use Rattle.std.specs.declared.alloc.AllocError.{AllocError}
use Rattle.std.proofs.Common.{◌∙◌, ap, sym, subst, append_assoc, arith, inl, inr}
use Rattle.std.proofs.lemmas.List.{append_cancel_left}
use Rattle.kernel_code.specs.declared.syntax.Kernel.{Kernel}
use Rattle.kernel_code.specs.declared.syntax.KernelSemiring.{KernelSemiring}
use Rattle.kernel_code.specs.declared.syntax.KernelSemiring.TheVariants.{Ring, Named}
use Rattle.kernel_print.specs.ArrayNames.{IsWord}
use Rattle.kernel_print.specs.Text.{head_text, indentation, kernel_text, lists_text, statements_text, workspaces_text}
use Rattle.kernel_read.specs.Blocks.{IsThen, CodeFits, blocks_text, closed}
use Rattle.kernel_read.specs.Drafts.{DraftFits, Ended, Follows, IsBodyStep, IsFront, IsInnermost, IsStep, draft_text}
use Rattle.kernel_read.specs.Drafts.{has_sums, kernel_of, with_body}
use Rattle.kernel_read.specs.Heads.{list_line, workspace_line}
use Rattle.kernel_read.specs.Kernels.{IsKnown, IsReadable}
use Rattle.kernel_read.specs.Lines.{IsLine, IsOpening, LineFits, inner_text, line_text}
use Rattle.kernel_read.specs.declared.blocks.Block.{Block}
use Rattle.kernel_read.specs.declared.blocks.Opening.{Opening}
use Rattle.kernel_read.specs.declared.blocks.Opening.TheVariants as o
use Rattle.kernel_read.specs.declared.drafts.Draft.{Draft}
use Rattle.kernel_read.specs.declared.lines.Line.{Line}
use Rattle.kernel_read.specs.declared.lines.Line.TheVariants as a
use Rattle.kernel_read.specs.declared.progress.Progress.{Progress}
use Rattle.kernel_read.specs.declared.progress.Progress.TheVariants as p
use Rattle.kernel_read.proofs.BlockTexts.{depth_is}
use Rattle.kernel_read.proofs.Bodies.{Next, end_of, inner_depth, innermost}
use Rattle.kernel_read.proofs.DraftSteps.{GoesOn, from_zero, with_all, with_end, with_if, with_list, with_lists, with_loop}
use Rattle.kernel_read.proofs.DraftSteps.{with_second, with_statement, with_workspace, with_workspaces}
use Rattle.kernel_read.proofs.Fronts.{ListNext, WorkspaceNext, apart, next_workspaces, number_behind}
use Rattle.kernel_read.proofs.LineCuts.{cut_line}
use Rattle.kernel_read.proofs.LineTexts.{head_is_line, is_line, list_is_line, workspace_is_line}

-- the first line tells whether sums of values stand in a kernel
ring_only : (name : List ℕ) → IsKnown (Named name) → head_text Ring ≡ head_text (Named name) → ⊥
ring_only name (inl known) same =
    apart (ap (drop 7) (same ∙ ap (λ (n : List ℕ). head_text (Named n)) known)) refl
ring_only name (inr known) same =
    apart (ap (drop 7) (same ∙ ap (λ (n : List ℕ). head_text (Named n)) known)) refl

same_sums : (s t : KernelSemiring) → IsKnown s → IsKnown t → head_text s ≡ head_text t → has_sums s ≡ has_sums t
same_sums Ring Ring known known' same = refl
same_sums Ring (Named name) known known' same = absurd (ring_only name known' same)
same_sums (Named name) Ring known known' same = absurd (ring_only name known (sym same))
same_sums (Named name) (Named name') known known' same = refl

true_false : true ≡ false → ⊥
true_false same = cc

is_ring : (s : KernelSemiring) → has_sums s ≡ false → s ≡ Ring
is_ring Ring none = refl
is_ring (Named name) none = absurd (true_false none)

pub body_is_fit : (kernel : Kernel) → IsReadable kernel → CodeFits (has_sums kernel.semiring) kernel.body
body_is_fit kernel readable =
    (readable.words.body, λ none. readable.formed.words (is_ring kernel.semiring none))

-- with which lines the text of a kernel goes on
abbrev pub NextLine : Draft → List ℕ → Type 0
NextLine d rest =
    WorkspaceNext (length d.workspaces) d.lists d.outer d.code rest
    ⊎ (ListNext d.lists d.outer d.code rest ⊎ Next (has_sums d.semiring) d.outer a.Close 0 [] rest)

numbered : (d : Draft) (rest : List ℕ)
    → WorkspaceNext (number_behind 0 (length d.workspaces)) d.lists d.outer d.code rest
    ⊎ (ListNext (number_behind 0 d.lists) d.outer d.code rest ⊎ Next (has_sums d.semiring) d.outer a.Close 0 [] rest)
    → NextLine d rest
numbered d rest (inl next) =
    inl (subst (λ (n : ℕ). WorkspaceNext n d.lists d.outer d.code rest) (from_zero (length d.workspaces)) next)
numbered d rest (inr (inl next)) = inr (inl (subst (λ (n : ℕ). ListNext n d.outer d.code rest) (from_zero d.lists) next))
numbered d rest (inr (inr next)) = inr (inr next)

zero_more : (n : ℕ) → IsWord n → IsWord (0 + n)
zero_more n word = omega (arith, word)

draft_pieces : (w l b rest : List ℕ) → (w ++ (l ++ b)) ++ rest ≡ w ++ (l ++ (b ++ rest))
draft_pieces w l b rest = simp append_assoc

pub next_line : (d : Draft) (kernel : Kernel) (rest : List ℕ) → DraftFits d → IsReadable kernel
    → kernel_text kernel ≡ (head_text d.semiring ++ draft_text d) ++ rest → NextLine d rest
next_line d kernel rest fits readable same =
    let behind : List ℕ = workspaces_text 0 kernel.workspaces ++ (lists_text 0 kernel.lists
    ++ (statements_text 1 kernel.body ++ codes "}\n")) in
    let heads = cut_line (head_text kernel.semiring) (head_text d.semiring) behind (draft_text d ++ rest)
    (head_is_line kernel.semiring readable.known) (head_is_line d.semiring fits.known)
    (same ∙ append_assoc (head_text d.semiring) (draft_text d) rest) in
    let sums = same_sums kernel.semiring d.semiring readable.known fits.known heads.0 in
    let body = subst (λ (b : Bool). CodeFits b kernel.body) sums (body_is_fit kernel readable) in
    numbered d rest (next_workspaces (has_sums d.semiring) d.outer d.code kernel.body rest fits.outer fits.code body d.lists kernel.lists
    readable.words.lists d.workspaces kernel.workspaces 0 (zero_more (length kernel.workspaces) readable.words.workspaces) fits.keys
    readable.words.keys readable.keys
    (heads.1 ∙ draft_pieces (workspaces_text 0 d.workspaces) (lists_text 0 d.lists) (blocks_text 1 d.outer d.code) rest))

-- lines that refuse one another
else_only : (combines : Bool) (x : Line) → inner_text x ≡ inner_text a.Else → x ≡ a.Else
else_only combines (a.Whole s) same = absurd (apart same refl)
else_only combines (a.If e) same = absurd (apart same refl)
else_only combines (a.While k e) same = absurd (apart same refl)
else_only combines a.Else same = refl
else_only combines a.Close same = absurd (apart (ap (drop 1) same) refl)

close_only : (combines : Bool) (x : Line) → inner_text x ≡ inner_text a.Close → x ≡ a.Close
close_only combines (a.Whole s) same = absurd (apart same refl)
close_only combines (a.If e) same = absurd (apart same refl)
close_only combines (a.While k e) same = absurd (apart same refl)
close_only combines a.Else same = absurd (apart (ap (drop 1) same) refl)
close_only combines a.Close same = refl

-- how the innermost block ends
abbrev Innermost : List Block → Line → Line → Type 0
Innermost outer end last =
    ((outer ≡ []) × (last ≡ end))
    ⊎ ((around : List Block) × ((b : Block) × ((outer ≡ around ++ (b ∷ [])) × (last ≡ end_of b.opening))))

innermost_is : (outer : List Block) (end : Line) → Innermost outer end (innermost end outer)
innermost_is [] end = inl (refl, refl)
innermost_is (b ∷ inner) end = around_it (innermost_is inner (end_of b.opening))
  where
    around_it : Innermost inner (end_of b.opening) (innermost (end_of b.opening) inner)
        → Innermost (b ∷ inner) end (innermost (end_of b.opening) inner)
    around_it (inl none) = inr ([], (b, (ap (λ (x : List Block). b ∷ x) none.0, none.1)))
    around_it (inr last) = inr (b ∷ last.0, (last.1.0, (ap (λ (x : List Block). b ∷ x) last.1.1.0, last.1.1.1)))

innermost_last : (around : List Block) (b : Block) (end : Line) → innermost end (around ++ (b ∷ [])) ≡ end_of b.opening
innermost_last [] b end = refl
innermost_last (c ∷ around) b end = innermost_last around b (end_of c.opening)

close_else : a.Close ≡ a.Else → ⊥
close_else same = cc

is_then : (opening : Opening) → end_of opening ≡ a.Else → IsThen opening
is_then (o.Loop k e) same = close_else same
is_then (o.Then e) same = tt
is_then (o.Second e first) same = close_else same

then_ends : (opening : Opening) → IsThen opening → end_of opening ≡ a.Else
then_ends (o.Loop k e) is = absurd is
then_ends (o.Then e) is = refl
then_ends (o.Second e first) is = absurd is

-- a line of the body that may come
abbrev Allowed : Bool → List Block → Line → Type 0
Allowed combines outer x = IsOpening combines x ⊎ (x ≡ innermost a.Close outer)

no_second : (combines : Bool) (d : Draft) (x : Line) → Allowed combines d.outer x → x ≡ a.Else
    → ((around : List Block) (b : Block) → IsInnermost d around b → IsThen b.opening → ⊥) → ⊥
no_second combines d x (inl opens) is none = subst (IsOpening combines) is opens
no_second combines d x (inr ends) is none = by_block (innermost_is d.outer a.Close)
  where
    by_block : Innermost d.outer a.Close (innermost a.Close d.outer) → ⊥
    by_block (inl last) = close_else (sym last.1 ∙ sym ends ∙ is)
    by_block (inr last) =
        none last.0 last.1.0 last.1.1.0 (is_then last.1.0.opening (sym last.1.1.1 ∙ sym ends ∙ is))

no_close : (combines : Bool) (d : Draft) (x : Line) → Allowed combines d.outer x → x ≡ a.Close
    → (around : List Block) × ((b : Block) × (IsInnermost d around b × IsThen b.opening)) → ⊥
no_close combines d x (inl opens) is last = subst (IsOpening combines) is opens
no_close combines d x (inr ends) is last =
    close_else (sym is ∙ ends ∙ ap (innermost a.Close) last.1.1.0 ∙ innermost_last last.0 last.1.0 a.Close
    ∙ then_ends last.1.0.opening last.1.1.1)

none_some : {A : Type 0} {x : A} → None ≡ Some x → ⊥
none_some same = cc

-- which line of a body it is doesn't come
abbrev NoLine : Draft → List ℕ → Type 0
NoLine d line =
    (x : Line) → LineFits (has_sums d.semiring) x → Allowed (has_sums d.semiring) d.outer x → line ≡ line_text (length d.outer) x → ⊥

same_inner : (outer : ℕ) (x y : Line) (line : List ℕ) → line ≡ line_text outer x → line ≡ line_text outer y → inner_text x ≡ inner_text y
same_inner outer x y line first second =
    append_cancel_left (indentation outer) (inner_text x) (inner_text y) (sym first ∙ second)

step_refused : (d : Draft) (line : List ℕ) (y : Line) → line ≡ line_text (length d.outer) y → IsStep d y None → NoLine d line
step_refused d line (a.Whole s) is step = absurd (none_some step)
step_refused d line (a.If e) is step = absurd (none_some step)
step_refused d line (a.While k e) is step = absurd (none_some step)
step_refused d line a.Else is step = λ x fits allowed same.
    no_second (has_sums d.semiring) d x allowed
    (else_only (has_sums d.semiring) x (same_inner (length d.outer) x a.Else line same is)) step
step_refused d line a.Close is step = λ x fits allowed same.
    no_close (has_sums d.semiring) d x allowed
    (close_only (has_sums d.semiring) x (same_inner (length d.outer) x a.Close line same is)) step

-- the lines in front that don't come
pub record NoFront (d : Draft) (line : List ℕ) : Type 0 where
  pub workspace : IsFront d → (keys : ℕ) → d.lists ≡ 0 → IsWord (suc (length d.workspaces)) → IsWord keys → keys ≤ 6
      → line ≡ workspace_line (length d.workspaces) keys → ⊥
  pub list : IsFront d → IsWord (suc d.lists) → line ≡ list_line d.lists → ⊥

pub less_word : (n : ℕ) → IsWord (suc n) → IsWord n
less_word n word = omega (arith, word)

zero_deep : (outer : List Block) → inner_depth 0 outer ≡ length outer
zero_deep outer = let is = depth_is outer 0 in omega (arith, is)

allowed_so : (combines : Bool) (outer : List Block) (line : Line) (more : List ℕ)
    → IsOpening combines line ⊎ ((line ≡ innermost a.Close outer) × (outer ≡ [] → more ≡ [])) → Allowed combines outer line
allowed_so combines outer line more (inl opens) = inl opens
allowed_so combines outer line more (inr ends) = inr ends.0

refused : (d : Draft) (line more : List ℕ) → DraftFits d → IsLine line → NoFront d line → NoLine d line → NextLine d (line ++ more) → ⊥
refused d line more fits is front none (inl (no_lists, (at_front, (keys, (rest, (word, (word', (few, same)))))))) =
    front.workspace at_front keys no_lists word word' few
    (cut_line line (workspace_line (length d.workspaces) keys) more rest is
    (workspace_is_line (length d.workspaces) keys (less_word (length d.workspaces) word) word') same).0
refused d line more fits is front none (inr (inl (at_front, (rest, (word, same))))) =
    front.list at_front word (cut_line line (list_line d.lists) more rest is (list_is_line d.lists (less_word d.lists word)) same).0
refused d line more fits is front none (inr (inr next)) =
    let combines = has_sums d.semiring in
    none next.line next.fits (allowed_so combines d.outer next.line next.more next.allowed)
    ((cut_line line (line_text (inner_depth 0 d.outer) next.line) more next.more is
    (is_line combines (inner_depth 0 d.outer) next.line next.fits) next.goes_on).0
    ∙ ap (λ (n : ℕ). line_text n next.line) (zero_deep d.outer))

refuses : (d : Draft) (line : List ℕ) → DraftFits d → IsLine line → NoFront d line → NoLine d line → Follows (p.Inside d) line None
refuses d line fits is front none kernel more readable same =
    refused d line more fits is front none (next_line d kernel (line ++ more) fits readable same)

-- what follows
inside_follows : (d next : Draft) (line : List ℕ) → next.semiring ≡ d.semiring → GoesOn d next line
    → Follows (p.Inside d) line (Some (p.Inside next))
inside_follows d next line one goes_on = (
  goes_on.0,
  ap (λ (s : KernelSemiring). head_text s ++ draft_text next) one ∙ ap (λ (t : List ℕ). head_text d.semiring ++ t) goes_on.1
      ∙ sym (append_assoc (head_text d.semiring) (draft_text d) line),
)

answered : (d : Draft) (line : List ℕ) (answer : Option Progress) (next : Progress) → answer ≡ Some next
    → Follows (p.Inside d) line (Some next) → Follows (p.Inside d) line answer
answered d line answer next is follows = subst (Follows (p.Inside d) line) (sym is) follows

on_line : (d next : Draft) (line told : List ℕ) → line ≡ told → GoesOn d next told → GoesOn d next line
on_line d next line told is goes_on = subst (GoesOn d next) (sym is) goes_on

end_follows : (d : Draft) (line : List ℕ) (next : Progress) → DraftFits d → line ≡ line_text (length d.outer) a.Close → Ended d next
    → Follows (p.Inside d) line (Some next)
end_follows d line p.Start fits is ended = absurd ended
end_follows d line (p.Inside next) fits is ended =
    let b = ended.1.0 in
    let told : Draft = with_body d ended.0 (b.before ++ (closed b.opening d.code ∷ [])) in
    answered d line (Some (p.Inside next)) (p.Inside told) (ap (λ (n : Draft). Some (p.Inside n)) ended.1.1.1.1)
    (inside_follows d told line refl (on_line d told line (line_text (length d.outer) a.Close) is
    (with_end d ended.0 b fits ended.1.1.0 ended.1.1.1.0)))
end_follows d line (p.Done k) fits is ended =
    let whole = with_all d fits ended.0 in
    answered d line (Some (p.Done k)) (p.Done (kernel_of d)) (ap (λ (n : Kernel). Some (p.Done n)) ended.1) (
      whole.0,
      whole.1 ∙ sym (append_assoc (head_text d.semiring) (draft_text d) (line_text (length d.outer) a.Close))
          ∙ ap (λ (t : List ℕ). (head_text d.semiring ++ draft_text d) ++ t) (sym is),
    )

some_follows : (d : Draft) (line : List ℕ) (y : Line) (next : Progress) → DraftFits d → LineFits (has_sums d.semiring) y
    → line ≡ line_text (length d.outer) y → IsStep d y (Some next) → Follows (p.Inside d) line (Some next)
some_follows d line (a.Whole s) next fits words is step =
    answered d line (Some next) (p.Inside _) step
    (inside_follows d _ line refl (on_line d _ line (line_text (length d.outer) (a.Whole s)) is (with_statement d s fits words)))
some_follows d line (a.If e) next fits words is step =
    answered d line (Some next) (p.Inside _) step
    (inside_follows d _ line refl (on_line d _ line (line_text (length d.outer) (a.If e)) is (with_if d e fits words)))
some_follows d line (a.While k e) next fits words is step =
    answered d line (Some next) (p.Inside _) step
    (inside_follows d _ line refl (on_line d _ line (line_text (length d.outer) (a.While k e)) is (with_loop d k e fits words)))
some_follows d line a.Else next fits words is step =
    answered d line (Some next) (p.Inside _) (ap (λ (n : Progress). Some n) step.1.1.1.1)
    (inside_follows d _ line refl (on_line d _ line (line_text (length d.outer) a.Else) is
    (with_second d step.0 step.1.0 step.1.1.0 fits step.1.1.1.0)))
some_follows d line a.Close next fits words is step = end_follows d line next fits is step

body_follows : (d : Draft) (line : List ℕ) (answer : Option Progress) → DraftFits d → IsLine line → NoFront d line
    → IsBodyStep d line answer → Follows (p.Inside d) line answer
body_follows d line None fits is front (inl (y, (words, (told, step)))) =
    refuses d line fits is front (step_refused d line y told step)
body_follows d line (Some next) fits is front (inl (y, (words, (told, step)))) = some_follows d line y next fits words told step
body_follows d line answer fits is front (inr (none, other)) =
    subst (Follows (p.Inside d) line) (sym none) (refuses d line fits is front (λ x words allowed told. other x words told))

pub ok_follows : (d : Draft) (line : List ℕ) (answer : Result (Option Progress) AllocError) → DraftFits d → IsLine line → NoFront d line
    → IfOk answer (IsBodyStep d line) → IfOk answer (Follows (p.Inside d) line)
ok_follows d line (Ok answer) fits is front step = body_follows d line answer fits is front step
ok_follows d line (Err e) fits is front step = tt

-- the lines in front that come
pub workspace_follows : (d : Draft) (line : List ℕ) (keys : ℕ) (ws : List ℕ) → DraftFits d → IsFront d → d.lists ≡ 0
    → IsWord (suc (length d.workspaces)) → IsWord keys → keys ≤ 6 → line ≡ workspace_line (length d.workspaces) keys
    → ws ≡ d.workspaces ++ (keys ∷ [])
    → Follows (p.Inside d) line (Some (p.Inside (record {
      semiring = d.semiring;
      workspaces = ws;
      lists = d.lists;
      outer = d.outer;
      code = d.code;
    })))
workspace_follows d line keys ws fits front no_lists many word few is told =
    answered d line _ _ (ap (λ (w : List ℕ). Some (p.Inside (with_workspaces d w))) told)
    (inside_follows d (with_workspaces d (d.workspaces ++ (keys ∷ []))) line refl
    (on_line d (with_workspaces d (d.workspaces ++ (keys ∷ []))) line (workspace_line (length d.workspaces) keys) is
    (with_workspace d keys fits front no_lists many word few)))

pub list_follows : (d : Draft) (line : List ℕ) (lists : ℕ) → DraftFits d → IsFront d → lists ≡ suc d.lists → IsWord lists
    → line ≡ list_line d.lists
    → Follows (p.Inside d) line (Some (p.Inside (record {
      semiring = d.semiring;
      workspaces = d.workspaces;
      lists = lists;
      outer = d.outer;
      code = d.code;
    })))
list_follows d line lists fits front told word is =
    inside_follows d (with_lists d lists) line refl
    (on_line d (with_lists d lists) line (list_line d.lists) is (with_list d lists fits front told word))
