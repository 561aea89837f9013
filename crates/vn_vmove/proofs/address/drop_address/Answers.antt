use Rattle.std.proofs.Common.{ap, sym, ◌∙◌}
use Rattle.vn_types.specs.Interfaces.{half_id_eq}
use Rattle.vn_inaddr.specs.Stacks.{of as addresses_of}
use Rattle.vn_rules.specs.Orders.{are_addresses}
use Rattle.vn_rules.specs.Purge.{dropped}
use Rattle.vn_vmove.proofs.Founded.{dropped-leaves, dropped-sounds, kept-leaves, left-addresses, not_refused, refused_by, sound-addresses}
use Rattle.vn_vmove.proofs.Leaving.{leaves-becomes}
use Rattle.vn_vmove.proofs.address.drop_address.Goals as goal

pub forget_address-requires-clause-addresses : goal.forget_address-requires-clause-addresses
forget_address-requires-clause-addresses c =
    ap are_addresses c.remove.ensures.after ∙ left-addresses c.args.on c.args.ip (addresses_of c.args.tables.now.addrs c.args.sid.0) (sound-addresses c.args.tables.now c.requires c.args.sid.0)

pub forget_address-requires-clause-timers : goal.forget_address-requires-clause-timers
forget_address-requires-clause-timers c = c.requires.arms c.args.sid.0

-- ---- where there is one

pub returns-clause-answer : goal.returns-clause-answer
returns-clause-answer c = not_refused c.args.on c.args.ip (addresses_of c.args.tables.now.addrs c.args.sid.0) c.in-Ok.addr (sym c.in-Ok.is ∙ c.remove.ensures.answer)

pub returns-clause-dropped : goal.returns-clause-dropped
returns-clause-dropped c =
    leaves-becomes (dropped half_id_eq c.args.on c.args.ip) c.args.sid.0 c.args.tables.now c.forget_address.new.tables
    (dropped-leaves c.args.sid.0 c.args.tables.now c.remove.new.self c.args.on c.args.ip c.remove.ensures.after c.remove.ensures.others c.in-Ok.addr c.forget_address.new.tables (sym c.in-Ok.is ∙ c.remove.ensures.answer) c.forget_address.ensures)

pub returns-clause-rest : goal.returns-clause-rest
returns-clause-rest c =
    (dropped-leaves c.args.sid.0 c.args.tables.now c.remove.new.self c.args.on c.args.ip c.remove.ensures.after c.remove.ensures.others c.in-Ok.addr c.forget_address.new.tables (sym c.in-Ok.is ∙ c.remove.ensures.answer) c.forget_address.ensures).rest

pub returns-clause-sound : goal.returns-clause-sound
returns-clause-sound c =
    dropped-sounds c.args.on c.args.ip c.args.sid.0 c.args.tables.now c.forget_address.new.tables c.requires
    (dropped-leaves c.args.sid.0 c.args.tables.now c.remove.new.self c.args.on c.args.ip c.remove.ensures.after c.remove.ensures.others c.in-Ok.addr c.forget_address.new.tables (sym c.in-Ok.is ∙ c.remove.ensures.answer) c.forget_address.ensures)

-- ---- where there is none

pub returns-in-Err-clause-answer : goal.returns-in-Err-clause-answer
returns-in-Err-clause-answer c = refused_by c.args.on c.args.ip (addresses_of c.args.tables.now.addrs c.args.sid.0) c.in-Err.errno (sym c.in-Err.is ∙ c.remove.ensures.answer)

pub returns-in-Err-clause-dropped : goal.returns-in-Err-clause-dropped
returns-in-Err-clause-dropped c =
    leaves-becomes (dropped half_id_eq c.args.on c.args.ip) c.args.sid.0 c.args.tables.now (record c.args.tables.now { addrs = c.remove.new.self })
    (kept-leaves c.args.sid.0 c.args.tables.now c.remove.new.self c.args.on c.args.ip c.remove.ensures.after c.remove.ensures.others c.in-Err.errno (sym c.in-Err.is ∙ c.remove.ensures.answer))

pub returns-in-Err-clause-sound : goal.returns-in-Err-clause-sound
returns-in-Err-clause-sound c =
    dropped-sounds c.args.on c.args.ip c.args.sid.0 c.args.tables.now (record c.args.tables.now { addrs = c.remove.new.self }) c.requires
    (kept-leaves c.args.sid.0 c.args.tables.now c.remove.new.self c.args.on c.args.ip c.remove.ensures.after c.remove.ensures.others c.in-Err.errno (sym c.in-Err.is ∙ c.remove.ensures.answer))
