use Rattle.std.proofs.Common.{◌≡◌, take, drop}
use Rattle.snel_device.proofs.Fronts.{front_and_rest}
use Rattle.snel_device.proofs.mem_input.MemInputInput.read.Goals as goal

pub returns-clause-bytes : goal.returns-clause-bytes
returns-clause-bytes c =
    let front : take c.copy_front-count.result c.copy_front-count.new.into ≡ take c.copy_front-count.result (drop c.args.self.now.at c.args.self.now.bytes.items) = cc in
    front_and_rest c.copy_front-count.result c.args.self.now.at c.args.self.now.bytes.items c.copy_front-count.new.into front
