-- What a sink in memory keeps when it is told which calls fail and how it cuts.
use Rattle.std.specs.Prelude.{◌≡◌}
use Rattle.outside.specs.declared.mem_sink.MemSink.{MemSink}

-- its text and count are as before: all that a sink's ghost members tell
pub record IsSameButScript (old new : MemSink) : Type 0 where
  pub text_is : new.text ≡ old.text
  pub faults_is : new.faults ≡ old.faults
