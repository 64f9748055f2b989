use Rattle.std.proofs.Common.{subst}
use Rattle.sql_reader.specs.Reads.{IsFaultOf}
use Rattle.query_run.specs.Queries.{by_reading}
use Rattle.query_run.proofs.accept.unread.Goals as goal

pub returns-in-TooLong : goal.returns-in-TooLong
returns-in-TooLong c = λ sql h. by_reading (subst (IsFaultOf sql) c.in-TooLong.is h) tt

pub returns-in-BadToken : goal.returns-in-BadToken
returns-in-BadToken c = λ sql h. by_reading (subst (IsFaultOf sql) c.in-BadToken.is h) tt

pub returns-in-TooMany : goal.returns-in-TooMany
returns-in-TooMany c = λ sql h. by_reading (subst (IsFaultOf sql) c.in-TooMany.is h) tt

pub returns-in-Refused : goal.returns-in-Refused
returns-in-Refused c = λ sql h. by_reading (subst (IsFaultOf sql) c.in-Refused.is h) tt

pub returns-in-TooDeep : goal.returns-in-TooDeep
returns-in-TooDeep c = λ sql h. by_reading (subst (IsFaultOf sql) c.in-TooDeep.is h) tt

pub returns-in-NotAQuery : goal.returns-in-NotAQuery
returns-in-NotAQuery c = λ sql h. by_reading (subst (IsFaultOf sql) c.in-NotAQuery.is h) tt
