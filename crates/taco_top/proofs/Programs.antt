-- How the program ends, from how a call of `taco` does.
use Rattle.std.specs.Prelude.{◌≡◌, ℕ, List, String, map, string_bytes, refl}
use Rattle.std.specs.declared.alloc.Global.{Global}
use Rattle.std.proofs.Common.{◌∙◌, subst, inl}
use Rattle.outside.specs.Folder.{FolderState}
use Rattle.outside.specs.Sink.{SinkState}
use Rattle.refusals.specs.Lines.{status_of, line_of}
use Rattle.refusals.specs.declared.fault.Fault.TheVariants as fault
use Rattle.taco_top.specs.Values.{values_in}
use Rattle.taco_top.specs.Ends.{Ends, Cause, PutsLine, Refused}
use Rattle.taco_top.proofs.Stopped.{stopped, reads_nothing}

-- over the same words, with the same status
pub ends_same : (words same : List (String Global)) (files files' : FolderState) (out out' err err' : SinkState) (status told : ℕ)
    → words ≡ same → told ≡ status → Ends words files files' out out' err err' status → Ends same files files' out out' err err' told
ends_same words same files files' out out' err err' status told words_are status_is ends = record {
  ended = ends.ended;
  status_is = status_is ∙ ends.status_is;
  cause = subst (λ ws. Cause (values_in (map (string_bytes {Z = Global}) ws)) (map (string_bytes {Z = Global}) ws) files files' out out'
      ends.ended) words_are ends.cause;
  line = ends.line;
}

-- memory is wanted before a file is opened
pub wants_memory : (words : List (String Global)) (files : FolderState) (out err err' : SinkState) (status : ℕ)
    → status ≡ status_of fault.Memory → PutsLine err err' (line_of fault.Memory) → Ends words files files out out err err' status
wants_memory words files out err err' status is line = record {
  ended = Refused fault.Memory;
  status_is = is;
  cause = stopped (values_in (map (string_bytes {Z = Global}) words)) (map
      (string_bytes {Z = Global}) words) files files out fault.Memory (reads_nothing files) (inl refl);
  line = line;
}
