use Rattle.lane_field.proofs.Wholes.{whole_legal, whole_of, whole_value}
use Rattle.lane_field.proofs.find.whole.Goals as goal

pub of_bytes-requires : goal.of_bytes-requires
of_bytes-requires c = whole_legal c.last_of_any.result c.args.bytes.now c.requires c.last_of_any.ensures

pub returns-clause-of : goal.returns-clause-of
returns-clause-of c = whole_of c.last_of_any.result c.args.bytes.now c.of_bytes.result c.of_bytes.ensures.bytes c.of_bytes.ensures.last c.last_of_any.ensures

pub returns-clause-same : goal.returns-clause-same
returns-clause-same c table = whole_value table c.args.bytes.now c.of_bytes.result c.of_bytes.ensures.bytes
