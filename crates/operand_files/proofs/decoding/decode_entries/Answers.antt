use Rattle.tns_io.proofs.ReadLaws.{read_in_range}
use Rattle.operand_files.proofs.decoding.decode_entries.Goals as goal

pub reached_by-requires : goal.reached_by-requires
reached_by-requires g c =
    read_in_range g.S.Semiring.is_signed c.args.reader.order c.args.reader.text c.in-Ok.entries.list c.in-Ok.entries.list
    c.in-Ok.ensures.told.list_is (λ coords.
    (λ here. here, λ here. here))
