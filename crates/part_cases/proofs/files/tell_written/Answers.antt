use Rattle.part_cases.proofs.files.tell_written.Goals as goal

pub put_tns-requires : goal.put_tns-requires
put_tns-requires g c = c.in-Ok.ensures c.sort_sum.new.self.list c.in-Ok-sort_sum.ensures.listed
