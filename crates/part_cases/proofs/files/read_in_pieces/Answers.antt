use Rattle.std.specs.Prelude.{Bool, List, Result, Ok, Err, IfOk, MatchResult}
use Rattle.tensor_map.specs.Entries.{Entry, Entries, SameListed}
use Rattle.tns_io.specs.Text.{AreInRange}
use Rattle.tns_io.specs.TnsReader.{TnsReader, IsRead, Refuses}
use Rattle.tns_io.specs.declared.file_fault.FileFault.{FileFault}
use Rattle.tns_io.proofs.ReadLaws.{read_in_range}
use Rattle.part_cases.proofs.files.read_in_pieces.Goals as goal

may_be_written : (signed : Bool) (reader : TnsReader) (read : Result Entries FileFault)
    → MatchResult read (IsRead signed reader) (Refuses signed reader)
    → IfOk read (λ entries. (others : List Entry) → SameListed entries.list others → AreInRange others)
may_be_written signed reader (Ok entries) is = λ others same. read_in_range signed reader.order reader.text entries.list others
    is.list_is same
may_be_written signed reader (Err fault) is = tt

pub returns : goal.returns
returns g c = may_be_written _ _ c.finish.result c.finish.ensures.told
