use Rattle.std.proofs.Common.{refl, ap, ◌-◌, take, drop}
use Rattle.json_pack.proofs.Reading.{front_some, front_none}
use Rattle.json_pack.proofs.reader.LineReader.take_front.Goals as goal

pub returns-in_ok-extend_from_slice-in-Some-clause-taken : goal.returns-in_ok-extend_from_slice-in-Some-clause-taken
returns-in_ok-extend_from_slice-in-Some-clause-taken c =
    front_some c.args.self.now.piece.items c.args.self.now.from c.args.self.now.until c.in-Some.end _ _ c.args.self.now.line.items c.extend_from_slice.new.self.items
    (ap (λ xs. take (c.args.self.now.until - c.args.self.now.from) (drop c.args.self.now.from xs)) c.deref.ensures.value) c.in-Some.ensures refl c.in_ok-extend_from_slice-in-Some.ensures.items

pub returns-in_ok-extend_from_slice-in-None-clause-taken : goal.returns-in_ok-extend_from_slice-in-None-clause-taken
returns-in_ok-extend_from_slice-in-None-clause-taken c =
    front_none c.args.self.now.piece.items c.args.self.now.from c.args.self.now.until _ c.args.self.now.line.items c.extend_from_slice-in-None.new.self.items
    (ap (λ xs. take (c.args.self.now.until - c.args.self.now.from) (drop c.args.self.now.from xs)) c.deref.ensures.value) c.in-None.ensures c.in_ok-extend_from_slice-in-None.ensures.items
