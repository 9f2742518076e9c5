-- Which lines of workspaces a draft goes on with.
use Rattle.std.specs.Prelude.{◌≡◌, ℕ, suc, ◌<◌, ◌≤◌, List, ◌++◌, codes, length, refl}
use Rattle.std.specs.Fmt.{decimal}
use Rattle.std.proofs.Common.{◌∙◌, ap, sym, append_assoc, arith}
use Rattle.std.proofs.lemmas.List.{append_cancel_left}
use Rattle.kernel_print.specs.ArrayNames.{IsWord}
use Rattle.kernel_read.specs.Heads.{workspace_line}
use Rattle.kernel_read.specs.declared.drafts.Draft.{Draft}
use Rattle.kernel_read.proofs.Standing.{tells_numbers}

-- no line of a workspace with few keys
abbrev pub NoKeys : Draft → List ℕ → Type 0
NoKeys d line =
    (keys : ℕ) → d.lists ≡ 0 → IsWord (suc (length d.workspaces)) → IsWord keys → keys ≤ 6
    → line ≡ workspace_line (length d.workspaces) keys → ⊥

pub no_keys : (d : Draft) (line : List ℕ) (number : ℕ) → number ≡ length d.workspaces
    → ((keys : ℕ) → IsWord keys → line ≡ workspace_line number keys → ⊥) → NoKeys d line
no_keys d line number is none keys no_lists many word few same = none keys word (same ∙ ap (λ (n : ℕ). workspace_line n keys) (sym is))

pub many_keys : (d : Draft) (line : List ℕ) (number found : ℕ) → number ≡ length d.workspaces
    → IsWord found × (line ≡ workspace_line number found) → 6 < found → NoKeys d line
many_keys d line number found is told many keys no_lists word word' few same =
    let both = append_cancel_left (codes "  workspace w" ++ (decimal number ++ codes " ")) (decimal found ++ codes ";\n")
    (decimal keys ++ codes ";\n")
    (sym (pieces (decimal number) (decimal found)) ∙ sym told.1 ∙ same ∙ ap (λ (n : ℕ). workspace_line n keys) (sym is)
    ∙ pieces (decimal number) (decimal keys)) in
    let one : found ≡ keys = (tells_numbers found keys (codes ";\n") (codes ";\n") told.0 word' refl refl both).0 in
    omega (arith, one, many, few)
  where
    pieces : (n k : List ℕ)
        → codes "  workspace w" ++ (n ++ (codes " " ++ (k ++ codes ";\n")))
        ≡ (codes "  workspace w" ++ (n ++ codes " ")) ++ (k ++ codes ";\n")
    pieces n k = simp append_assoc
