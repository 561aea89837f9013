use Rattle.vn_sock.proofs.Marks.{all-marked, fewer, marks-same}
use Rattle.vn_sock.proofs.sockets.Sockets.refuse.Goals as goal

pub loop-place-smaller : goal.loop-place-smaller
loop-place-smaller c = fewer c.args.ends.src c.args.ends.sport c.args.ends.dst c.args.ends.dport c.args.self.now c.loop-place.self c.refuse_at.new.self c.in-Some.place c.in-Some.ensures.place c.refuse_at.ensures

pub loop-place-preserved : goal.loop-place-preserved
loop-place-preserved c = marks-same c.args.ends.src c.args.ends.sport c.args.ends.dst c.args.ends.dport c.args.self.now c.loop-place.self c.refuse_at.new.self c.in-Some.place c.in-Some.ensures.place c.refuse_at.ensures c.loop-place.invariant

pub returns-clause-refused : goal.returns-clause-refused
returns-clause-refused c = all-marked c.args.ends.src c.args.ends.sport c.args.ends.dst c.args.ends.dport c.args.self.now c.loop-place.self c.loop-place.invariant c.in_default.ensures.place
