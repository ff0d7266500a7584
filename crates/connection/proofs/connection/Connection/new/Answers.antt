use Rattle.connection.proofs.connection.Connection.new.Goals as goal

pub returns : goal.returns
returns c = λ cfg mem le fresh. c.new.ensures cfg (record { mine = c.args.mine; theirs = c.args.theirs; phase = c.args.phase }) mem le fresh
