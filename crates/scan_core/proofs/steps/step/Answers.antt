use Rattle.scan_core.proofs.Stepping.{is_allowed, is_after, is_told, no_seat, is_unlawful, wants_memory, is_same}
use Rattle.scan_core.proofs.steps.step.Goals as goal

pub returns : goal.returns
returns c = record {
  allowed = is_allowed c.args.state.now c.args.event c.play.new.self c.play.result c.play.ensures;
  after = is_after c.args.state.now c.args.event c.play.new.self c.play.result c.play.ensures;
  told = is_told c.args.state.now c.args.event c.play.new.self c.play.result c.play.ensures;
  no_such_seat = no_seat c.args.state.now c.args.event c.play.new.self c.play.result c.play.ensures;
  unlawful = is_unlawful c.args.state.now c.args.event c.play.new.self c.play.result c.play.ensures;
  out_of_memory = wants_memory c.args.state.now c.args.event c.play.new.self c.play.result c.play.ensures;
  err = is_same c.args.state.now c.args.event c.play.new.self c.play.result c.play.ensures;
}
