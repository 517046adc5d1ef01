-- `calls::turn` meets its contract: each request is served as its own function says.
use mathlib.Core.Path.{refl}
use Rattle.drilling.proofs.calls.turn.Goals as goal

pub returns-in-Open : goal.returns-in-Open
returns-in-Open c = rw (c.in-Some.is, c.in-Open.is) (let k = c.«open».ensures _ in record { desk = k.desk; reply = k.reply })

pub returns-in-Lend : goal.returns-in-Lend
returns-in-Lend c = rw (c.in-Some.is, c.in-Lend.is) (c.lend.ensures _ _)

pub returns-in-Insert : goal.returns-in-Insert
returns-in-Insert c = rw (c.in-Some.is, c.in-Insert.is) (c.insert.ensures _)

pub returns-in-Delete : goal.returns-in-Delete
returns-in-Delete c = rw (c.in-Some.is, c.in-Delete.is) (record { desk = c.bare.ensures.area_after; reply = c.bare.ensures.reply_value _ })

pub returns-in-Confirm : goal.returns-in-Confirm
returns-in-Confirm c = rw (c.in-Some.is, c.in-Confirm.is) c.confirm.ensures

pub returns-in-Find : goal.returns-in-Find
returns-in-Find c = rw (c.in-Some.is, c.in-Find.is) (record { desk = refl; reply = c.find.ensures _ })

pub returns-in-Read : goal.returns-in-Read
returns-in-Read c = rw (c.in-Some.is, c.in-Read.is) (record { desk = refl; reply = c.read.ensures _ })
