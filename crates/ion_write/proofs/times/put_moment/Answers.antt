use Rattle.std.proofs.Common.{◌≡◌, ◌++◌}
use Rattle.std.proofs.lemmas.Result.{on_ok_weaker}
use Rattle.write_meaning.specs.Encoding.{var_uint_bytes}
use Rattle.ion_write.proofs.Moments.{moment_made}
use Rattle.ion_write.proofs.times.put_moment.Goals as goal

pub returns : goal.returns
returns c =
    let k = c.args.clock in
    let second : c.put_three.new.out.items ≡ c.push.new.self.items ++ (var_uint_bytes k.year ++ (var_uint_bytes k.month ++ var_uint_bytes k.day)) =
    rw (← c.from.ensures, ← c.from-2.ensures, ← c.from-3.ensures) c.in_ok-put_three.ensures in
    on_ok_weaker c.put_micros.result (λ e. moment_made c.args.out.now.items c.push.new.self.items c.put_three.new.out.items c.put_three-2.new.out.items c.put_micros.new.out.items _ _ _ _ _ _ _ c.in_ok-push.ensures.items second c.in_ok-put_three-2.ensures e) c.put_micros.ensures
