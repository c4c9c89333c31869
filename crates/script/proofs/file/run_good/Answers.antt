-- A file that is not refused has its room, and its first state is well formed. Assumes nothing.
use Rattle.script.proofs.FileLaws.{events_run, run_done}
use Rattle.script.proofs.file.run_good.Goals as goal

pub run_events-requires : goal.run_events-requires
run_events-requires c =
    events_run _ _ c.header_of-h.ensures c.requires c.parts.ensures.starts c.power_on.result c.power_on.ensures c.bytes_of-state.ensures c.parts.ensures.events

pub returns : goal.returns
returns c =
    run_done _ _ c.header_of-h.ensures c.requires c.parts.ensures.starts c.power_on.result c.power_on.ensures c.bytes_of-state.ensures c.parts.ensures.events _ _ _ _ c.run_events.ensures c.clock_of.ensures
